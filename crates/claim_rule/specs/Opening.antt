-- The board with which a mesh begins.
use Rattle.std.specs.Prelude.{ℕ, zero, suc, ◌+◌, ◌-◌, ◌*◌, List, [], ◌∷◌, Option, None, Some, length, replicate}
use Rattle.edit_history.specs.declared.history.Entry.{Entry}
use Rattle.cell_store.specs.Buckets.{BucketContent}
use Rattle.cell_store.specs.Shares.{share_at}
use Rattle.claim_rule.specs.Boards.{BoardState}

-- the shares of n buckets, from bucket b on, in a history
abbrev pub shares_from : ℕ → List Entry → ℕ → ℕ → List (Option BucketContent)
shares_from g h b zero = []
shares_from g h b (suc n) = Some (share_at g b h) ∷ shares_from g h (b + 1) n

-- the board of a history: each bucket is at home, as its share of it, and one pass owns all parts and has seen all
abbrev pub opening_board : ℕ → ℕ → ℕ → List Entry → BoardState
opening_board g parts allowance h = record {
  grid = g;
  parts = parts;
  most = length h + allowance;
  opening = h;
  ticket = length h;
  words = replicate (g * g * g) 0;
  homes = shares_from g h 0 (g * g * g);
  views = Some (record {
    first = 0;
    parts = parts;
    left = allowance;
    seen = length h;
    since = length h;
    held = replicate (g * g * g) None;
  }) ∷ replicate (parts - 1) None;
}
