-- All contents of a board that is kept in one hold are shares of its history, whoever holds them.
use Rattle.std.specs.Prelude.{◌≡◌, ℕ, Bool, true, false, ◌+◌, ◌<◌, ◌==◌, List, Option, None, Some, IsSome, length}
use Rattle.std.specs.Prelude.{slice_index_or}
use Rattle.std.specs.Option.{option_map}
use Rattle.std.proofs.Common.{sym, ◌∙◌, ap, subst, arith}
use Rattle.std.proofs.lemmas.Bool.{eq-eqb}
use Rattle.list_laws.proofs.Cited.{one_value, same_there, within}
use mathlib.Core.Logic.{dite}
use native.Mathlib.Decide.{ℕ_discrete}
use Rattle.edit_history.specs.declared.history.Entry.{Entry}
use Rattle.cell_store.specs.Buckets.{BucketContent, bucket_at}
use Rattle.edit_history.specs.Histories.{replay}
use Rattle.cell_store.specs.Shares.{Shows}
use Rattle.cell_store.proofs.Cited.{stands_shows}
use Rattle.claim_rule.specs.declared.board.Seat.{Seat}
use Rattle.claim_rule.specs.Boards.{View}
use Rattle.claim_rule.specs.Good.{AreSharesOf, IsGood}
use Rattle.claim_rule.specs.Kept.{KeptBoard, view_of, board_of}
use Rattle.claim_rule.proofs.OneHistory.{is_share}
use Rattle.claim_rule.proofs.Kept.{if_so, whose_at, seen_at}

-- a view that is there is that of a seat
seat_of : (f : Seat → View) (o : Option Seat) (v : View) → option_map f o ≡ Some v → (x : Seat) × (f x ≡ v)
seat_of f None v e = absurd (cc e)
seat_of f (Some x) v e = (x, one_value (f x) v e)

-- in a good board all contents of the hold are shares of the history
pub all_are_shares : (kept : KeptBoard) (h : List Entry) → IsGood (board_of kept) h →
    length kept.hold.places ≡ length kept.words → AreSharesOf kept.hold.grid h kept.hold.places
all_are_shares kept h good wide b c e =
    let words : List ℕ = kept.words in
    let places : List (Option BucketContent) = kept.hold.places in
    let f : Seat → View = view_of kept in
    let below : b < length words = let l = within places b c e in omega (arith, l, wide) in
    dite (ℕ_discrete (slice_index_or words b 0) 0)
    (λ zero. good.shares b c (whose_at (λ w. w == 0) words places b below
    ∙ ap (λ k. if_so k (bucket_at places b)) (eq-eqb (slice_index_or words b 0) 0 zero) ∙ e))
    (λ away.
    let u = good.away b below away in
    let ok = good.passes u.view u.live in
    let word : slice_index_or words b 0 ≡ u.view.first + 1 = ok.words b u.holds in
    let x = seat_of f (slice_index_or kept.seats u.view.first None) u.view
    (sym (seen_at f kept.seats u.view.first) ∙ u.live) in
    let first : x.0.first ≡ u.view.first = ap (λ (v : View). v.first) x.1 in
    let is : bucket_at (f x.0).held b ≡ Some c = whose_at (λ w. w == x.0.first + 1) words places b below
    ∙ ap (λ k. if_so k (bucket_at places b)) (eq-eqb (slice_index_or words b 0) (x.0.first + 1)
    (word ∙ ap (λ k. k + 1) (sym first))) ∙ e in
    ok.shares b c (ap (λ (v : View). bucket_at v.held b) (sym x.1) ∙ is))

-- where there is a content once the test has passed, there is one
so_some : (t : Bool) (o : Option BucketContent) → IsSome (if_so t o) → IsSome o
so_some true o s = s
so_some false o s = absurd (cc s)

-- and all of them are in the hold
pub all_in_hand : (kept : KeptBoard) (h : List Entry) → IsGood (board_of kept) h → (b : ℕ) → b < length kept.words →
    IsSome (bucket_at kept.hold.places b)
all_in_hand kept h good b below =
    let words : List ℕ = kept.words in
    let places : List (Option BucketContent) = kept.hold.places in
    let f : Seat → View = view_of kept in
    dite (ℕ_discrete (slice_index_or words b 0) 0)
    (λ zero. so_some (slice_index_or words b 0 == 0) (bucket_at places b)
    (same_there _ _ (whose_at (λ w. w == 0) words places b below) ((good.home b below).0 zero)))
    (λ away.
    let u = good.away b below away in
    let x = seat_of f (slice_index_or kept.seats u.view.first None) u.view
    (sym (seen_at f kept.seats u.view.first) ∙ u.live) in
    let there : IsSome (bucket_at (f x.0).held b) =
    subst (λ (v : View). IsSome (bucket_at v.held b)) (sym x.1) u.holds in
    so_some (slice_index_or words b 0 == x.0.first + 1) (bucket_at places b)
    (same_there _ _ (whose_at (λ w. w == x.0.first + 1) words places b below) there))

-- so the hold shows the set of the history
pub shown_set : (kept : KeptBoard) (h : List Entry) → IsGood (board_of kept) h →
    length kept.hold.places ≡ length kept.words → Shows kept.hold (replay h)
shown_set kept h good wide = stands_shows kept.hold h record {
  legal = good.legal;
  keys = good.keys;
  solid = good.solid;
  shares = λ b c e. is_share kept.hold.grid b h c (all_are_shares kept h good wide b c e);
}
