-- Each event of a board that is kept in one hold with words, but a commit.
use Rattle.std.specs.Prelude.{◌≡◌, ◌≢◌, ℕ, false, ◌+◌, ◌<◌, ◌==◌, List, Option, None, Some, IsSome, IsSomeAnd, length}
use Rattle.std.specs.Prelude.{map, slice_index_or, slice_set}
use Rattle.std.specs.Option.{option_map, option_and_then}
use Rattle.std.proofs.Common.{refl, sym, ◌∙◌, ap, subst, arith, ne_eqb}
use Rattle.edit_history.specs.declared.history.Entry.{Entry}
use Rattle.cell_store.specs.Buckets.{BucketContent, bucket_at}
use Rattle.claim_rule.specs.declared.board.Seat.{Seat}
use Rattle.claim_rule.specs.declared.event.Event.{Event}
use Rattle.claim_rule.specs.declared.event.Event.TheVariants.{Claim, Release, Look}
use Rattle.claim_rule.specs.declared.event.Played.{Played}
use Rattle.claim_rule.specs.declared.event.Played.TheVariants.{Done, Taken}
use Rattle.claim_rule.specs.Boards.{View, BoardState, view_at, word_of}
use Rattle.claim_rule.specs.Good.{IsGood, Good}
use Rattle.claim_rule.specs.Events.{Next, HasKey, CanRelease, with_view, history_after}
use Rattle.claim_rule.specs.Kept.{KeptBoard, homes_of, with_held, view_of, board_of}
use Rattle.std.proofs.lemmas.List.{map-set}
use Rattle.list_laws.proofs.Cited.{eq_same, none_there, one_value, some_and, to_some, within_some}
use Rattle.claim_rule.proofs.Steps.{live_at}
use Rattle.claim_rule.proofs.Events.{events_keep_good}
use Rattle.claim_rule.proofs.Kept.{if_so, whose_at, whose_set, whose_same, seen_at, seats_changed}

-- an event on a good board leaves a good one
pub good_by : (h : List Entry) (s : BoardState) (event : Event) (answer : Played) (s' : BoardState) → IsGood s h →
    HasKey event → Next h s event answer s' → Good s'
good_by h s event answer s' good key next =
    (history_after h s event answer, events_keep_good h s event answer s' good key next)

-- the same, of a board that is this one
pub seen_as : (h : List Entry) (s t : BoardState) (event : Event) (answer : Played) (s' : BoardState) → s ≡ t →
    (IsGood s h → Next h s event answer s') → IsGood t h → Next h t event answer s'
seen_as h s t event answer s' e next good =
    subst (λ (x : BoardState). Next h x event answer s') e (next (subst (λ (x : BoardState). IsGood x h) (sym e) good))

-- and where an event may not come
pub short_as : (h : List Entry) (Can : BoardState → Type 0) (s t : BoardState) → s ≡ t → (IsGood s h → Can s → ⊥) →
    IsGood t h → Can t → ⊥
short_as h Can s t e cannot good can =
    cannot (subst (λ (x : BoardState). IsGood x h) (sym e) good) (subst Can (sym e) can)

-- the seat of a live pass is seen as its view
pub live_view : (kept : KeptBoard) (n : ℕ) (seat : Seat) → slice_index_or kept.seats n None ≡ Some seat →
    view_at (board_of kept) n ≡ Some (view_of kept seat)
live_view kept n seat e = seen_at (view_of kept) kept.seats n ∙ ap (option_map (view_of kept)) e

-- in a good board each seat stands at its pass's number
pub first_is : (kept : KeptBoard) (h : List Entry) → IsGood (board_of kept) h →
    (i : ℕ) (x : Seat) → slice_index_or kept.seats i None ≡ Some x → x.first ≡ i
first_is kept h good i x e = good.shape.named i (view_of kept x) (live_view kept i x e)

-- where there is a view there is a seat
some_from : {X : Type 0} (f : X → View) (o : Option X) (v : View) → option_map f o ≡ Some v → IsSome o
some_from f None v e = absurd (cc e)
some_from f (Some x) v e = refl

-- so a pass that is live has a seat
pub from_view : (kept : KeptBoard) (n : ℕ) (v : View) → view_at (board_of kept) n ≡ Some v →
    IsSome (slice_index_or kept.seats n None)
from_view kept n v e =
    some_from (view_of kept) (slice_index_or kept.seats n None) v (sym (seen_at (view_of kept) kept.seats n) ∙ e)

-- a live pass is that of its seat
pub view_is : (kept : KeptBoard) (n : ℕ) (seat : Seat) (v : View) → slice_index_or kept.seats n None ≡ Some seat →
    view_at (board_of kept) n ≡ Some v → v ≡ view_of kept seat
view_is kept n seat v live at = one_value v (view_of kept seat) (sym at ∙ live_view kept n seat live)

-- the seat that was found at a number is there
pub seat_there : {l l' : List (Option Seat)} (n : ℕ) {o : Option Seat} {seat : Seat} → l ≡ l' →
    o ≡ slice_index_or l n None → o ≡ Some seat → slice_index_or l' n None ≡ Some seat
seat_there n e found is = ap (λ k. slice_index_or k n None) (sym e) ∙ sym found ∙ is

-- ---- claim

-- a claim of a bucket whose word is 0 is done: the word names the pass
pub claim_next : (kept : KeptBoard) (n b : ℕ) (seat : Seat) (h : List Entry) → IsGood (board_of kept) h →
    slice_index_or kept.seats n None ≡ Some seat → b < length kept.words → slice_index_or kept.words b 0 ≡ 0 →
    Next h (board_of kept) (Claim n b) Done (board_of (record kept { words = slice_set kept.words b (n + 1) }))
claim_next kept n b seat h good live below home =
    let s : BoardState = board_of kept in
    let f : Seat → View = view_of kept in
    let words : List ℕ = kept.words in
    let places : List (Option BucketContent) = kept.hold.places in
    let words' : List ℕ = slice_set words b (n + 1) in
    let f' : Seat → View = view_of (record kept { words = words' }) in
    let p : Option BucketContent = bucket_at places b in
    let named : (i : ℕ) (x : Seat) → slice_index_or kept.seats i None ≡ Some x → x.first ≡ i = first_is kept h good in
    let away : (k : ℕ) → (slice_index_or words b 0 == k + 1) ≡ false =
    λ k. ap (λ w. w == k + 1) home ∙ ne_eqb 0 (k + 1) (λ q. omega (arith, q)) in
    let home_is : bucket_at s.homes b ≡ p =
    whose_at (λ w. w == 0) words places b below ∙ ap (λ w. if_so (w == 0) p) home in
    let lacks : bucket_at (f seat).held b ≡ None =
    whose_at (λ w. w == seat.first + 1) words places b below ∙ ap (λ k. if_so k p) (away seat.first) in
    let homes_are : homes_of words' places ≡ slice_set s.homes b None =
    whose_set (λ w. w == 0) words places b (n + 1) below ∙ ap (λ k. slice_set s.homes b (if_so k p))
    (ne_eqb (n + 1) 0 (λ q. omega (arith, q))) in
    let views_are : map (option_map f') kept.seats ≡ with_view n
    (λ v. record v { held = slice_set v.held b (bucket_at s.homes b) }) s.views =
    seats_changed f f' (λ v. record v { held = slice_set v.held b (bucket_at s.homes b) }) kept.seats n
    (λ i x e d. ap (with_held x) (whose_same (λ w. w == x.first + 1) words places b (n + 1) below (away x.first)
    (ne_eqb (n + 1) (x.first + 1) (λ q. d (let e' = named i x e in omega (arith, q, e'))))))
    (λ x e. ap (with_held x) (whose_set (λ w. w == x.first + 1) words places b (n + 1) below
    ∙ ap (λ k. slice_set (f x).held b (if_so k p)) (ap (λ k. (n + 1) == (k + 1)) (named n x e) ∙ eq_same (n + 1))
    ∙ ap (λ o. slice_set (f x).held b o) (sym home_is))) in (
      (below, to_some (λ v. bucket_at v.held b ≡ None) (view_at s n) (f seat) (live_view kept n seat live) lacks),
      home,
      λ i. record s { words = words'; homes = homes_are i; views = views_are i },
    )

-- the word of another's bucket
pub claim_taken : (kept : KeptBoard) (n b : ℕ) (seat : Seat) (h : List Entry) → IsGood (board_of kept) h →
    slice_index_or kept.seats n None ≡ Some seat → b < length kept.words → slice_index_or kept.words b 0 ≢ 0 →
    slice_index_or kept.words b 0 ≢ n + 1 →
    Next h (board_of kept) (Claim n b) (Taken (slice_index_or kept.words b 0)) (board_of kept)
claim_taken kept n b seat h good live below home other =
    let f : Seat → View = view_of kept in
    let first : seat.first ≡ n = first_is kept h good n seat live in
    let lacks : bucket_at (f seat).held b ≡ None =
    whose_at (λ w. w == seat.first + 1) kept.words kept.hold.places b below
    ∙ ap (λ k. if_so k (bucket_at kept.hold.places b)) (ne_eqb (slice_index_or kept.words b 0) (seat.first + 1)
    (λ q. other (q ∙ ap (λ k. k + 1) first))) in (
      (
        below,
        to_some (λ v. bucket_at v.held b ≡ None) (view_at (board_of kept) n) (f seat) (live_view kept n seat live)
            lacks,
      ),
      home,
      refl,
      refl,
    )

-- ---- what a word that names the pass says

-- a pass whose number a word has can release the bucket
pub named_holds : (kept : KeptBoard) (n b : ℕ) (h : List Entry) → IsGood (board_of kept) h → b < length kept.words →
    slice_index_or kept.words b 0 ≡ n + 1 → CanRelease (board_of kept) n b
named_holds kept n b h good below named =
    let s : BoardState = board_of kept in
    let u = good.away b below (λ q. omega (arith, q, named)) in
    let word : word_of s b ≡ u.view.first + 1 = (good.passes u.view u.live).words b u.holds in
    let is_n : u.view.first ≡ n = omega (arith, word, named) in
    to_some (λ v. IsSome (bucket_at v.held b)) (view_at s n) u.view (ap (λ k. view_at s k) (sym is_n) ∙ u.live) u.holds

-- and a bucket that a pass can release is one of the board, with the pass's number for its word
pub holds_named : (kept : KeptBoard) (n b : ℕ) (h : List Entry) → IsGood (board_of kept) h →
    CanRelease (board_of kept) n b → (b < length kept.words) × (slice_index_or kept.words b 0 ≡ n + 1)
holds_named kept n b h good can =
    let s : BoardState = board_of kept in
    let v = some_and (view_at s n) (λ v. IsSome (bucket_at v.held b)) can in
    let live = live_at s h n v.0 good v.1 in
    let ok = good.passes v.0 live in
    let first : v.0.first ≡ n = good.shape.named n v.0 v.1 in (
      let l = within_some v.0.held b v.2 in let m = ok.places in omega (arith, l, m),
      ok.words b v.2
          ∙ ap (λ k. k + 1) first,
    )

-- a pass that is not live cannot claim or release
pub not_live : (kept : KeptBoard) (n : ℕ) (P : View → Type 0) → (IsSome (slice_index_or kept.seats n None) → ⊥) →
    IsSomeAnd (view_at (board_of kept) n) P → ⊥
not_live kept n P not can =
    let v = some_and (view_at (board_of kept) n) P can in
    not (from_view kept n v.0 v.1)

-- a pass cannot both lack a bucket and hold it
pub held_twice : (o : Option View) (b : ℕ) → IsSomeAnd o (λ v. bucket_at v.held b ≡ None) →
    IsSomeAnd o (λ v. IsSome (bucket_at v.held b)) → ⊥
held_twice None b lacks holds = absurd lacks
held_twice (Some v) b lacks holds = none_there (bucket_at v.held b) lacks holds

-- what the test of a length says
pub within_length : (b len n : ℕ) → b < len → len ≡ n → b < n
within_length b len n l e = omega arith

-- ---- release

-- a release of a bucket whose word names the pass is done: the word becomes 0
pub release_next : (kept : KeptBoard) (n b : ℕ) (seat : Seat) (h : List Entry) → IsGood (board_of kept) h →
    slice_index_or kept.seats n None ≡ Some seat → b < length kept.words → slice_index_or kept.words b 0 ≡ n + 1 →
    Next h (board_of kept) (Release n b) Done (board_of (record kept { words = slice_set kept.words b 0 }))
release_next kept n b seat h good live below word =
    let s : BoardState = board_of kept in
    let f : Seat → View = view_of kept in
    let words : List ℕ = kept.words in
    let places : List (Option BucketContent) = kept.hold.places in
    let words' : List ℕ = slice_set words b 0 in
    let f' : Seat → View = view_of (record kept { words = words' }) in
    let p : Option BucketContent = bucket_at places b in
    let named : (i : ℕ) (x : Seat) → slice_index_or kept.seats i None ≡ Some x → x.first ≡ i = first_is kept h good in
    let zero_is : (k : ℕ) → (0 == k + 1) ≡ false = λ k. ne_eqb 0 (k + 1) (λ q. omega (arith, q)) in
    let held_is : bucket_at (f seat).held b ≡ p = whose_at (λ w. w == seat.first + 1) words places b below
    ∙ ap (λ k. if_so k p) (ap (λ w. w == seat.first + 1) word ∙ ap (λ k. (n + 1) == (k + 1)) (named n seat live)
    ∙ eq_same (n + 1)) in
    let given : p ≡ option_and_then (λ v. bucket_at v.held b) (view_at s n) =
    sym (ap (λ o. option_and_then (λ (v : View). bucket_at v.held b) o) (live_view kept n seat live) ∙ held_is) in
    let homes_are : homes_of words' places ≡ slice_set s.homes b
    (option_and_then (λ v. bucket_at v.held b) (view_at s n)) =
    whose_set (λ w. w == 0) words places b 0 below ∙ ap (λ o. slice_set s.homes b o) given in
    let views_are : map (option_map f') kept.seats ≡ with_view n (λ v. record v { held = slice_set v.held b None })
    s.views =
    seats_changed f f' (λ v. record v { held = slice_set v.held b None }) kept.seats n
    (λ i x e d. ap (with_held x) (whose_same (λ w. w == x.first + 1) words places b 0 below
    (ap (λ w. w == x.first + 1) word ∙ ne_eqb (n + 1) (x.first + 1)
    (λ q. d (let e' = named i x e in omega (arith, q, e'))))
    (zero_is x.first)))
    (λ x e. ap (with_held x) (whose_set (λ w. w == x.first + 1) words places b 0 below
    ∙ ap (λ k. slice_set (f x).held b (if_so k p)) (zero_is x.first))) in (
      named_holds kept n b h good below word,
      λ i. record s { words = words'; homes = homes_are i; views = views_are i },
    )

-- ---- look

-- a look of a live pass is done: it has seen the ticket
pub look_next : (kept : KeptBoard) (n : ℕ) (seat : Seat) (h : List Entry) →
    slice_index_or kept.seats n None ≡ Some seat → Next h (board_of kept) (Look n) Done
    (board_of (record kept { seats = slice_set kept.seats n (Some (record seat { seen = kept.ticket })) }))
look_next kept n seat h live =
    let s : BoardState = board_of kept in
    let f : Seat → View = view_of kept in
    let at = live_view kept n seat live in (
      subst (λ (o : Option View). IsSome o) (sym at) refl,
      ap (λ vs. record s { views = vs })
          (map-set (option_map f) kept.seats n (Some (record seat { seen = kept.ticket }))
          ∙ ap (λ o. slice_set s.views n (option_map (λ (v : View). record v { seen = kept.ticket }) o)) (sym at)),
    )
