-- How a board keeps its contents: all of them in one hold, and the words tell whose each is.
use Rattle.std.specs.Prelude.{ℕ, Bool, ◌+◌, ◌==◌, List, [], ◌∷◌, Option, None, map, if◌then◌else◌}
use Rattle.std.specs.Option.{option_map}
use Rattle.edit_history.specs.declared.history.Entry.{Entry}
use Rattle.cell_store.specs.Buckets.{BucketContent, InHand}
use Rattle.claim_rule.specs.declared.board.Board.TheInside.{Inside}
use Rattle.claim_rule.specs.declared.board.Seat.{Seat}
use Rattle.claim_rule.specs.Boards.{View, BoardState}

-- A board as it is kept: in place of what is at home and of what passes hold, the hold of all buckets, their words, and
-- for each part the live pass with this number, without what it holds.
pub record KeptBoard : Type 0 where
  pub hold : InHand
  pub parts : ℕ
  pub most : ℕ
  pub opening : List Entry
  pub ticket : ℕ
  pub words : List ℕ
  pub seats : List (Option Seat)

-- what the fields of a board keep
abbrev pub kept_of : Inside → KeptBoard
kept_of s = record {
  hold = s.hold;
  parts = s.parts;
  most = s.most;
  opening = s.begun.value.history;
  ticket = s.ticket;
  words = s.words.items;
  seats = s.seats.items;
}

-- the contents whose word passes the test, and nothing in place of the others
abbrev pub whose : (ℕ → Bool) → List ℕ → List (Option BucketContent) → List (Option BucketContent)
whose t [] places = []
whose t (w ∷ words) [] = None ∷ whose t words []
whose t (w ∷ words) (o ∷ places) = (if t w then o else None) ∷ whose t words places

-- those at home, and those that a pass holds
abbrev pub homes_of : List ℕ → List (Option BucketContent) → List (Option BucketContent)
homes_of words places = whose (λ w. w == 0) words places

abbrev pub held_by : ℕ → List ℕ → List (Option BucketContent) → List (Option BucketContent)
held_by n words places = whose (λ w. w == n + 1) words places

-- a pass with what it holds
abbrev pub with_held : Seat → List (Option BucketContent) → View
with_held v held = record {
  first = v.first;
  parts = v.parts;
  left = v.left;
  seen = v.seen;
  since = v.since;
  held = held;
}

-- a pass as the board shows it
abbrev pub view_of : KeptBoard → Seat → View
view_of k v = with_held v (held_by v.first k.words k.hold.places)

-- the board that is kept so
abbrev pub board_of : KeptBoard → BoardState
board_of k = record {
  grid = k.hold.grid;
  parts = k.parts;
  most = k.most;
  opening = k.opening;
  ticket = k.ticket;
  words = k.words;
  homes = homes_of k.words k.hold.places;
  views = map (option_map (view_of k)) k.seats;
}
