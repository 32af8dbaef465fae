-- A commit of a board that is kept in one hold with words: where all contents become the shares of the new history,
-- those of others stay.
use Rattle.std.specs.Prelude.{◌≡◌, ◌≢◌, ℕ, Bool, true, false, ◌+◌, ◌-◌, ◌<◌, ◌==◌, List, [], ◌∷◌, ◌++◌, Option, None}
use Rattle.std.specs.Prelude.{Some, IsSome, length, map, slice_index_or, slice_set}
use Rattle.std.specs.Option.{option_map}
use Rattle.std.proofs.Common.{refl, sym, ◌∙◌, ap, subst, arith, ext_get_or}
use Rattle.std.proofs.lemmas.Bool.{eqb-true}
use Rattle.std.proofs.lemmas.List.{map-set}
use Rattle.list_laws.proofs.Cited.{is_there, same_there, set_twice, to_some, within}
use Rattle.edit_history.specs.declared.history.Edit.{Edit}
use Rattle.edit_history.specs.declared.history.Entry.{Entry}
use Rattle.edit_history.specs.Edits.{HasKeys}
use Rattle.edit_history.specs.Histories.{replay}
use Rattle.cell_store.specs.Buckets.{BucketContent, InHand, bucket_at}
use Rattle.claim_rule.specs.declared.board.Seat.{Seat}
use Rattle.claim_rule.specs.declared.event.Event.TheVariants.{Commit}
use Rattle.claim_rule.specs.declared.event.Played.TheVariants.{Done}
use Rattle.cell_store.specs.Touches.{HoldTouched}
use Rattle.claim_rule.specs.Boards.{View, BoardState, view_at}
use Rattle.claim_rule.specs.Good.{AreSharesOf, IsGood}
use Rattle.cell_store.specs.Shares.{share_at}
use Rattle.claim_rule.specs.Events.{Next, entry_after, renewed_from, with_view}
use Rattle.claim_rule.specs.Kept.{KeptBoard, whose, homes_of, held_by, with_held, view_of, board_of}
use Rattle.claim_rule.proofs.Nexts.{stays_outside}
use Rattle.claim_rule.proofs.Commits.{renewed_at, renewed_length}
use Rattle.claim_rule.proofs.Steps.{live_at}
use Rattle.claim_rule.proofs.Kept.{if_so, whose_length, whose_at, seats_changed}
use Rattle.claim_rule.proofs.Moves.{live_view, first_is}

-- a content that is mapped where the test passes is the same whichever comes first
so_map : (t : Bool) (f : BucketContent → BucketContent) (o : Option BucketContent) →
    if_so t (option_map f o) ≡ option_map f (if_so t o)
so_map true f o = refl
so_map false f o = refl

-- where there is a content the test has passed
pub so_true : (t : Bool) (o : Option BucketContent) → IsSome (if_so t o) → t ≡ true
so_true true o s = refl
so_true false o s = absurd (cc s)

-- renewing the contents whose words pass, or taking those of the renewed whose words pass, is the same
pub whose_renewed : (t : ℕ → Bool) (g : ℕ) (h : List Entry) (k : ℕ) (words : List ℕ)
    (places : List (Option BucketContent)) → whose t words (renewed_from g h k places)
    ≡ renewed_from g h k (whose t words places)
whose_renewed t g h k [] places = refl
whose_renewed t g h k (w ∷ words) [] = ap (λ l. None ∷ l) (whose_renewed t g h (k + 1) words [])
whose_renewed t g h k (w ∷ words) (o ∷ places) =
    ap (λ x. x ∷ whose t words (renewed_from g h (k + 1) places)) (so_map (t w) (λ c. share_at g k h) o)
    ∙ ap (λ l. option_map (λ c. share_at g k h) (if_so (t w) o) ∷ l) (whose_renewed t g h (k + 1) words places)

-- mapped to a value that it has, an option is as before
same_option : (o : Option BucketContent) (x : BucketContent) → ((c : BucketContent) → o ≡ Some c → x ≡ c) →
    option_map (λ c. x) o ≡ o
same_option None x e = refl
same_option (Some c) x e = ap (λ (y : BucketContent). Some y) (e c refl)

-- contents that are shares of the new history are as before once renewed
pub stays : (g : ℕ) (h : List Entry) (l : List (Option BucketContent)) →
    ((b : ℕ) (c : BucketContent) → bucket_at l b ≡ Some c → share_at g b h ≡ c) → renewed_from g h 0 l ≡ l
stays g h l e = ext_get_or None (renewed_from g h 0 l) l (renewed_length g h 0 l) (λ b below.
    let z : 0 + b ≡ b = omega arith in
    renewed_at g h 0 l b ∙ ap (λ (n : ℕ). option_map (λ c. share_at g n h) (bucket_at l b)) z
    ∙ same_option (bucket_at l b) (share_at g b h) (e b))

-- the contents whose words pass a test that this pass's word does not
pub others_stay : (t : ℕ → Bool) (g ticket : ℕ) (words : List ℕ) (places : List (Option BucketContent)) (h : List Entry)
    (n tag : ℕ) (edit : Edit) →
    AreSharesOf g h (whose t words places) → HoldTouched g (replay h) edit (held_by n words places) →
    ((w : ℕ) → t w ≡ true → w ≢ n + 1) →
    ((b : ℕ) → (Rattle.cell_store.specs.Touches.IsTouched g (replay h) edit b → ⊥) →
    share_at g b (h ++ entry_after h ticket n tag edit ∷ []) ≡ share_at g b h) →
    whose t words (renewed_from g (h ++ entry_after h ticket n tag edit ∷ []) 0 places) ≡ whose t words places
others_stay t g ticket words places h n tag edit shares touched apart local =
    let h' : List Entry = h ++ entry_after h ticket n tag edit ∷ [] in
    whose_renewed t g h' 0 words places ∙ stays g h' (whose t words places) (λ b c e.
    let below : b < length words =
    let l = within (whose t words places) b c e in let m = whose_length t words places in omega (arith, l, m) in
    let passes : t (slice_index_or words b 0) ≡ true = so_true (t (slice_index_or words b 0)) (bucket_at places b)
    (same_there (bucket_at (whose t words places) b) _ (whose_at t words places b below)
    (is_there (bucket_at (whose t words places) b) c e)) in
    local b (λ r. apart (slice_index_or words b 0) passes
    (eqb-true (slice_index_or words b 0) (n + 1) (so_true (slice_index_or words b 0 == n + 1) (bucket_at places b)
    (same_there (bucket_at (held_by n words places) b) _ (whose_at (λ w. w == n + 1) words places b below)
    (touched b r)))))
    ∙ sym (shares b c e))

-- the board as it is kept after a commit that leaves this hold
abbrev pub with_commit : KeptBoard → InHand → ℕ → Seat → KeptBoard
with_commit kept new n seat = record kept {
  hold = new;
  ticket = kept.ticket + 1;
  seats = slice_set kept.seats n (Some (record seat { left = seat.left - 1; seen = kept.ticket + 1 }));
}

-- a commit of a pass that holds what is touched is done: where all contents become shares of the new history
pub commit_next : (kept : KeptBoard) (h : List Entry) (n tag : ℕ) (edit : Edit) (seat : Seat) (new : InHand) →
    IsGood (board_of kept) h → slice_index_or kept.seats n None ≡ Some seat → HasKeys edit → 0 < seat.left →
    HoldTouched kept.hold.grid (replay h) edit (held_by n kept.words kept.hold.places) → new.grid ≡ kept.hold.grid →
    new.places ≡ renewed_from kept.hold.grid (h ++ entry_after h kept.ticket n tag edit ∷ []) 0 kept.hold.places →
    Next h (board_of kept) (Commit n tag edit) Done (board_of (with_commit kept new n seat))
commit_next kept h n tag edit seat new good live key some touched grid is =
    let s : BoardState = board_of kept in
    let g : ℕ = kept.hold.grid in
    let ticket : ℕ = kept.ticket in
    let words : List ℕ = kept.words in
    let places : List (Option BucketContent) = kept.hold.places in
    let h' : List Entry = h ++ entry_after h ticket n tag edit ∷ [] in
    let f : Seat → View = view_of kept in
    let f' : Seat → View = view_of (record kept { hold = new }) in
    let v : View = f seat in
    let at : view_at s n ≡ Some v = live_view kept n seat live in
    let named : (i : ℕ) (x : Seat) → slice_index_or kept.seats i None ≡ Some x → x.first ≡ i = first_is kept h good in
    let local : (b : ℕ) → (Rattle.cell_store.specs.Touches.IsTouched g (replay h) edit b → ⊥) →
    share_at g b h' ≡ share_at g b h =
    λ b no. stays_outside s h b ticket n tag edit good key no in
    let homes_are : homes_of words new.places ≡ s.homes = ap (λ l. homes_of words l) is
    ∙ others_stay (λ w. w == 0) g ticket words places h n tag edit good.shares touched
    (λ w p q. let z = eqb-true w 0 p in omega (arith, z, q)) local in
    let own : (x : Seat) → held_by x.first words new.places ≡ renewed_from g h' 0 (held_by x.first words places) = λ x.
    ap (λ l. held_by x.first words l) is ∙ whose_renewed (λ w. w == x.first + 1) g h' 0 words places in
    let renew : View → View = λ v. record v { held = renewed_from g h' 0 v.held } in
    let seats_are : map (option_map f') kept.seats ≡ with_view n renew s.views = seats_changed f f' renew kept.seats n
    (λ i x e d. ap (with_held x) (ap (λ l. held_by x.first words l) is
    ∙ others_stay (λ w. w == x.first + 1) g ticket words places h n tag edit
    (good.passes (f x) (live_at s h i (f x) good (live_view kept i x e))).shares touched
    (λ w p q. d (let z = eqb-true w (x.first + 1) p in let y = named i x e in omega (arith, z, q, y))) local))
    (λ x e. ap (with_held x) (own x)) in
    let a : Seat = record seat { left = seat.left - 1; seen = ticket + 1 } in
    let change : View → View =
    λ v. record v { left = v.left - 1; seen = ticket + 1; held = renewed_from g h' 0 v.held } in
    let new_view : f' a ≡ change v = ap (with_held a) (own seat) in
    let views_are : map (option_map f') (slice_set kept.seats n (Some a)) ≡ with_view n change s.views =
    map-set (option_map f') kept.seats n (Some a)
    ∙ ap (λ l. slice_set l n (Some (f' a))) seats_are
    ∙ set_twice s.views n (option_map renew (view_at s n)) (Some (f' a))
    ∙ ap (λ x. slice_set s.views n (Some x)) new_view
    ∙ ap (λ (o : Option View). slice_set s.views n (option_map change o)) (sym at) in
    let holds : HoldTouched g (replay h) edit v.held =
    subst (λ (j : ℕ). HoldTouched g (replay h) edit (held_by j words places)) (sym (named n seat live)) touched in (
      to_some (λ v. (0 < v.left) × HoldTouched g (replay h) edit v.held) (view_at s n) v at (some, holds),
      λ i. record s { grid = grid i; ticket = ticket + 1; homes = homes_are i; views = views_are i },
    )
