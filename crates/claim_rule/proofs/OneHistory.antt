-- A board is good with one history.
use Rattle.std.specs.Prelude.{◌≡◌, ℕ, zero, suc, ◌+◌, ◌*◌, ◌<◌, true, List, Option, Some, length}
use Rattle.std.proofs.Common.{refl, sym, ◌∙◌, ap, arith}
use Rattle.list_laws.proofs.Cited.{is_there, one_value, some_of, within}
use mathlib.Core.Logic.{dite}
use native.Mathlib.Decide.{ℕ_discrete}
use Rattle.point_order.specs.Solid.{is_solid}
use Rattle.edit_history.specs.declared.history.Entry.{Entry}
use Rattle.edit_history.specs.Histories.{replay, IsLegal}
use Rattle.del_laws.specs.Keys.{AreKeys}
use Rattle.cell_store.specs.Buckets.{BucketContent, InHand, bucket_at}
use Rattle.cell_store.specs.Shares.{Stands, IsShare, share_at}
use Rattle.cell_store.specs.Meshes.{IsWhole}
use Rattle.cell_store.proofs.Cited.{history_is}
use Rattle.claim_rule.specs.Boards.{BoardState, word_of, in_hand_of}
use Rattle.claim_rule.specs.Good.{AreSharesOf, IsGood}
use Rattle.claim_rule.specs.Opening.{shares_from}
use Rattle.claim_rule.specs.Laws.{OneHistory}

-- there are as many shares of a history as buckets are asked for
pub shares_count : (g : ℕ) (h : List Entry) (k n : ℕ) → length (shares_from g h k n) ≡ n
shares_count g h k zero = refl
shares_count g h k (suc n) = let r = shares_count g h (k + 1) n in omega arith

-- and at each place is the share of its bucket
pub shares_at : (g : ℕ) (h : List Entry) (k n b : ℕ) → b < n → bucket_at (shares_from g h k n) b
    ≡ Some (share_at g (k + b) h)
shares_at g h k zero b l = absurd (omega arith)
shares_at g h k (suc n) zero l = let q : k ≡ k + 0 = omega arith in ap (λ (i : ℕ). Some (share_at g i h)) q
shares_at g h k (suc n) (suc b) l =
    let q : k + 1 + b ≡ k + suc b =
    omega arith in shares_at g h (k + 1) n b (omega arith) ∙ ap (λ (i : ℕ). Some (share_at g i h)) q

-- so every history has all its shares
pub all_shares : (g : ℕ) (h : List Entry) (b : ℕ) → b < g * g * g → bucket_at (shares_from g h 0 (g * g * g)) b
    ≡ Some (share_at g b h)
all_shares g h b l =
    let q : 0 + b ≡ b = omega arith in shares_at g h 0 (g * g * g) b l ∙ ap (λ (i : ℕ). Some (share_at g i h)) q

-- and none but its own
pub only_shares : (g : ℕ) (h : List Entry) → AreSharesOf g h (shares_from g h 0 (g * g * g))
only_shares g h b c e =
    let i : b < length (shares_from g h 0 (g * g * g)) = within (shares_from g h 0 (g * g * g)) b c e in
    let q = shares_count g h 0 (g * g * g) in
    one_value c (share_at g b h) (sym e ∙ all_shares g h b (omega (arith, i, q)))

-- a content that is the share at its bucket is the bucket's share
pub is_share : (g b : ℕ) (h : List Entry) (c : BucketContent) → c ≡ share_at g b h → IsShare g b h c
is_share g b h c e = record {
  points = ap (λ (x : BucketContent). x.points) e;
  cells = ap (λ (x : BucketContent). x.cells) e;
  entries = ap (λ (x : BucketContent). x.entries) e;
}

-- contents that are shares of a legal history of a solid set of keys are a hold that stands for it
pub stands_for : (g : ℕ) (h : List Entry) (places : List (Option BucketContent)) → IsLegal h → AreKeys (replay h) →
    is_solid (replay h) ≡ true → AreSharesOf g h places → Stands (in_hand_of g places) h
stands_for g h places legal keys solid sh =
    record { legal = legal; keys = keys; solid = solid; shares = λ b c e. is_share g b h c (sh b c e) }

-- each bucket's content is somewhere, and a share of both
both_shares : (s : BoardState) (h k : List Entry) (b : ℕ) → IsGood s h → IsGood s k → b < length s.words →
    share_at s.grid b h ≡ share_at s.grid b k
both_shares s h k b good good' l =
    dite (ℕ_discrete (word_of s b) 0)
    (λ z. let c = some_of (bucket_at s.homes b) ((good.home b l).0 z) in sym (good.shares b c.0 c.1)
    ∙ good'.shares b c.0 c.1)
    (λ n.
    let o = good.away b l n in
    let c = some_of (bucket_at o.view.held b) o.holds in
    sym ((good.passes o.view o.live).shares b c.0 c.1) ∙ (good'.passes o.view o.live).shares b c.0 c.1)

-- a board is good with just one history
pub one_history_of_board : OneHistory
one_history_of_board s h k good good' =
    let g : ℕ = s.grid in
    let places : List (Option BucketContent) = shares_from g h 0 (g * g * g) in
    let count = shares_count g h 0 (g * g * g) in
    let hold : InHand = in_hand_of g places in
    let of_h : AreSharesOf g h places = only_shares g h in
    let of_k : AreSharesOf g k places = λ b c e. let i : b < length places = within places b c e in
    let w = good.shape.words in of_h b c e ∙ both_shares s h k b good good' (omega (arith, i, w, count)) in
    let whole : IsWhole hold = record {
      has = record { size = good.shape.size; places = count };
      all = λ b l. is_there (bucket_at places b) (share_at g b h) (all_shares g h b (omega (arith, l, count)));
    } in
    sym (history_is hold h whole (stands_for g h places good.legal good.keys good.solid of_h))
    ∙ history_is hold k whole (stands_for g k places good'.legal good'.keys good'.solid of_k)
