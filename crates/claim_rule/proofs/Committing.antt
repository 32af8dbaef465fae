-- A commit of a board that is kept in one hold with words: when its condition holds, and what it makes of the board.
use Rattle.std.specs.Prelude.{◌≡◌, ◌⊎◌, ℕ, Bool, ◌+◌, ◌*◌, ◌^◌, ◌<◌, ◌≤◌, ◌==◌, List, All, Option, None, Some, IsSome}
use Rattle.std.specs.Prelude.{IsSomeAnd, true, false, length, slice_index_or}
use Rattle.std.proofs.Common.{Fits, w64, refl, sym, ◌∙◌, ap, subst, inl, inr, arith}
use Rattle.std.proofs.lemmas.Bool.{eqb-true, eq-eqb}
use Rattle.list_laws.proofs.Cited.{all_of_each, each_of_all, same_there, some_and, some_of, to_some, within_some}
use Rattle.point_order.specs.declared.cell.Cell.{Cell}
use Rattle.point_order.specs.Complex.{complex}
use Rattle.point_order.specs.Facets.{points_of}
use Rattle.point_order.specs.Sets.{IsIn}
use Rattle.edit_history.specs.declared.history.Edit.{Edit}
use Rattle.edit_history.specs.declared.history.Entry.{Entry}
use Rattle.edit_history.specs.Edits.{HasKeys, edit_points, after}
use Rattle.edit_history.specs.Histories.{replay}
use Rattle.bucket_grid.specs.Grids.{bucket_of}
use Rattle.cell_store.specs.Buckets.{BucketContent, InHand, bucket_at}
use Rattle.cell_store.specs.Changes.{IsNext, IsSwapped}
use Rattle.cell_changes.specs.Changes.{IsChange}
use Rattle.claim_rule.specs.declared.board.Seat.{Seat}
use Rattle.claim_rule.specs.declared.trial.Trial.{Trial}
use Rattle.claim_rule.specs.declared.event.Event.TheVariants.{Commit}
use Rattle.claim_rule.specs.declared.event.Played.TheVariants.{Done}
use Rattle.cell_store.specs.Touches.{HoldTouched}
use Rattle.claim_rule.specs.Boards.{View, BoardState, left_in, view_at}
use Rattle.claim_rule.specs.Good.{IsGood, Good}
use Rattle.claim_rule.specs.Events.{Next, CanCommit, entry_after}
use Rattle.claim_rule.specs.Kept.{KeptBoard, held_by, view_of, board_of}
use Rattle.claim_rule.specs.Trials.{NamesPass, IsOnSome, IsTrialOf}
use Rattle.claim_rule.proofs.Nexts.{next_of}
use Rattle.claim_rule.proofs.Kept.{if_so, whose_length, whose_at}
use Rattle.claim_rule.proofs.Moves.{first_is, from_view, view_is}
use Rattle.claim_rule.proofs.Renewals.{so_true, with_commit, commit_next}
use Rattle.claim_rule.proofs.Brought.{any_brought}
use Rattle.claim_rule.proofs.Whole.{all_are_shares, all_in_hand, shown_set}
use Rattle.claim_rule.specs.Making.{IsExchangedIn, IsEditMade, EditGives}
use Rattle.edit_history.specs.declared.history.Reply.{Reply}
use Rattle.cell_store.specs.Shares.{Shows}

-- ---- the condition

-- a bucket whose word names the pass is held by it, where all buckets are in the hold
named_held : (words : List ℕ) (places : List (Option BucketContent)) (n b : ℕ) → IsSome (bucket_at places b) →
    NamesPass n words b → IsSome (bucket_at (held_by n words places) b)
named_held words places n b there named =
    same_there (bucket_at places b) (bucket_at (held_by n words places) b)
    (sym (whose_at (λ w. w == n + 1) words places b named.0 ∙ ap (λ k. if_so k (bucket_at places b))
    (eq-eqb (slice_index_or words b 0) (n + 1) named.1))) there

-- the word of a bucket that a pass holds names it
held_named : (words : List ℕ) (places : List (Option BucketContent)) (n b : ℕ) →
    IsSome (bucket_at (held_by n words places) b) → NamesPass n words b
held_named words places n b s =
    let below : b < length words = let l = within_some (held_by n words places) b s in
    let m = whose_length (λ w. w == n + 1) words places in omega (arith, l, m) in (
      below,
      eqb-true (slice_index_or words b 0) (n + 1) (so_true (slice_index_or words b 0 == n + 1) (bucket_at places b)
          (same_there (bucket_at (held_by n words places) b) _ (whose_at (λ w. w == n + 1) words places b below) s)),
    )

-- the words of the buckets of these points, and of all points of these cells, name the pass
abbrev ArePointsNamed : ℕ → List ℕ → ℕ → List ℕ → Type 0
ArePointsNamed n words g points = All (λ p. NamesPass n words (bucket_of g p)) points

-- the words of the buckets of all points of these cells name the pass
abbrev AreNamed : ℕ → List ℕ → ℕ → List Cell → Type 0
AreNamed n words g cells = All (λ c. All (λ p. NamesPass n words (bucket_of g p)) (points_of c)) cells

-- the words of all buckets that are found name the pass: it holds all that is touched
pub touched_held :
    (g n : ℕ) (s : List ℕ) (edit : Edit) (t : Trial) (words : List ℕ) (places : List (Option BucketContent)) →
    ((b : ℕ) → b < length words → IsSome (bucket_at places b)) → IsTrialOf s edit t →
    ArePointsNamed n words g (edit_points edit) → AreNamed n words g t.near.items →
    HoldTouched g s edit (held_by n words places)
touched_held g n s edit t words places all trial own near b touched =
    let is_named : ℕ → Type 0 = λ p. NamesPass n words (bucket_of g p) in
    let named : NamesPass n words b = subst (NamesPass n words) (sym touched.number)
    (elim ((trial.near touched.point).0 touched.reached) [
      | inl i ↦ each_of_all is_named (edit_points edit) own touched.point i
      | inr o ↦ each_of_all is_named (points_of o.cell)
          (each_of_all (λ c. All is_named (points_of c)) t.near.items near o.cell o.listed) touched.point o.has
    ]) in
    named_held words places n b (all b named.0) named

-- and the other way round
pub held_touched :
    (g n : ℕ) (s : List ℕ) (edit : Edit) (t : Trial) (words : List ℕ) (places : List (Option BucketContent)) →
    IsTrialOf s edit t → HoldTouched g s edit (held_by n words places) →
    ArePointsNamed n words g (edit_points edit) × AreNamed n words g t.near.items
held_touched g n s edit t words places trial touched =
    let is_named : ℕ → Type 0 = λ p. NamesPass n words (bucket_of g p) in
    let named : (p : ℕ) → IsIn p (edit_points edit) ⊎ IsOnSome t.near.items p →
    NamesPass n words (bucket_of g p) = λ p k.
    held_named words places n (bucket_of g p)
    (touched (bucket_of g p) (record { point = p; reached = (trial.near p).1 k; number = refl })) in (
      all_of_each is_named (edit_points edit) (λ p i. named p (inl i)),
      all_of_each (λ c. All is_named (points_of c)) t.near.items (λ c i.
          all_of_each is_named (points_of c) (λ p j. named p (inr record { cell = c; listed = i; has = j }))),
    )

-- what the condition of a commit says of the seat and the words
pub commit_facts : (kept : KeptBoard) (h : List Entry) (n : ℕ) (seat : Seat) (edit : Edit) → IsGood (board_of kept) h →
    slice_index_or kept.seats n None ≡ Some seat → CanCommit h (board_of kept) n edit →
    (0 < seat.left) × HoldTouched kept.hold.grid (replay h) edit (held_by n kept.words kept.hold.places)
commit_facts kept h n seat edit good live can =
    let v = some_and (view_at (board_of kept) n) _ can in
    let same : v.0 ≡ view_of kept seat = view_is kept n seat v.0 live v.1 in (
      subst (λ (x : View). 0 < x.left) same v.2.0,
      subst (λ (j : ℕ). HoldTouched kept.hold.grid (replay h) edit (held_by j kept.words kept.hold.places))
          (first_is kept h good n seat live)
          (subst (λ (x : View). HoldTouched kept.hold.grid (replay h) edit x.held) same v.2.1),
    )

-- ---- a commit that does nothing

-- no live pass with the number may make an edit
pub none_commits : (kept : KeptBoard) (h : List Entry) (n : ℕ) (edit : Edit) → IsGood (board_of kept) h →
    (IsSomeAnd (slice_index_or kept.seats n None) (λ x. 0 < x.left) → ⊥) → CanCommit h (board_of kept) n edit → ⊥
none_commits kept h n edit good none can =
    let v = some_and (view_at (board_of kept) n) _ can in
    let t = some_of (slice_index_or kept.seats n None) (from_view kept n v.0 v.1) in
    none (to_some (λ (x : Seat). 0 < x.left) _ t.0 t.1 (commit_facts kept h n t.0 edit good t.1 can).0)

-- the hold is as before
pub same_board : (kept : KeptBoard) (new : InHand) → new ≡ kept.hold →
    board_of kept ≡ board_of (record kept { hold = new })
same_board kept new e = ap (λ (x : InHand). board_of (record kept { hold = x })) (sym e)

-- ---- the change

-- there are no more entries than the most, and so at most 2^32
few_entries : (ticket l left most : ℕ) → ticket ≡ l → l + left ≤ most → most ≤ 2 ^ 32 → ticket ≤ 2 ^ 32
few_entries ticket l left most t room few = omega arith

-- the next number fits
pub next_fits : (ticket : ℕ) → ticket ≤ 2 ^ 32 → Fits w64 (ticket + 1)
next_fits ticket few = omega arith

-- so it is with the ticket of a good board
pub few_so_far : (s : BoardState) (h : List Entry) → IsGood s h → s.ticket ≤ 2 ^ 32
few_so_far s h good =
    few_entries s.ticket (length h) (left_in s.views) s.most good.ticket good.room good.shape.most

-- the hold of a good board has a place for each word
as_many_places : (kept : KeptBoard) (h : List Entry) → IsGood (board_of kept) h →
    length kept.hold.places ≡ kept.hold.grid * kept.hold.grid * kept.hold.grid →
    length kept.hold.places ≡ length kept.words
as_many_places kept h good places = places ∙ sym good.shape.words

-- What is told of an edit of a hold: by words that are those of the board, for a live pass.
pub record IsEditTold (kept : KeptBoard) (n tag : ℕ) (edit : Edit) (seat : Seat) (new : InHand) (made : Bool) :
    Type 0 where
  pub live : slice_index_or kept.seats n None ≡ Some seat
  pub places : length kept.hold.places ≡ kept.hold.grid * kept.hold.grid * kept.hold.grid
  pub words : List ℕ
  pub same : words ≡ kept.words
  pub answer : Bool
  pub is : answer ≡ made
  pub gives : (s : List ℕ) → Shows kept.hold s → EditGives words s kept.ticket n tag edit kept.hold answer new

-- so it is for the history's set, by the board's words
edit_told : (kept : KeptBoard) (h : List Entry) (n tag : ℕ) (edit : Edit) (seat : Seat) (new : InHand) (made : Bool) →
    IsGood (board_of kept) h → IsEditTold kept n tag edit seat new made →
    EditGives kept.words (replay h) kept.ticket n tag edit kept.hold made new
edit_told kept h n tag edit seat new made good t =
    subst (λ (w : List ℕ). EditGives w (replay h) kept.ticket n tag edit kept.hold made new) t.same
    (subst (λ (b : Bool). EditGives t.words (replay h) kept.ticket n tag edit kept.hold b new) t.is
    (t.gives (replay h) (shown_set kept h good (as_many_places kept h good t.places))))

-- where it is made, the commit is done: the board is kept with what was made of the hold
pub made_next : (kept : KeptBoard) (h : List Entry) (n tag : ℕ) (edit : Edit) (seat : Seat) (new : InHand) →
    IsGood (board_of kept) h → HasKeys edit → 0 < seat.left → IsEditTold kept n tag edit seat new true →
    Next h (board_of kept) (Commit n tag edit) Done (board_of (with_commit kept new n seat))
made_next kept h n tag edit seat new good key some told =
    let g : ℕ = kept.hold.grid in
    let made : IsEditMade kept.words (replay h) kept.ticket n tag edit kept.hold new =
    edit_told kept h n tag edit seat new true good told in
    let x = made.exchanged in
    let next : IsNext h (entry_after h kept.ticket n tag edit) made.gone made.fresh =
    next_of (board_of kept) h n tag edit made.gone made.fresh good key made.change in
    let shares = all_are_shares kept h good (as_many_places kept h good told.places) in
    commit_next kept h n tag edit seat new good told.live key some made.touched
    (x.noted.grid ∙ x.arrived.grid ∙ x.swapped.grid)
    (any_brought g h (entry_after h kept.ticket n tag edit) made.gone made.fresh kept.hold x.between x.with_goal new
    refl shares next x.swapped x.arrived x.noted)

-- and where it is not made, the condition of a commit fails
pub unmade_commits : (kept : KeptBoard) (h : List Entry) (n tag : ℕ) (edit : Edit) (seat : Seat) (new : InHand) →
    IsGood (board_of kept) h → IsEditTold kept n tag edit seat new false → CanCommit h (board_of kept) n edit → ⊥
unmade_commits kept h n tag edit seat new good told can =
    edit_told kept h n tag edit seat new false good told (commit_facts kept h n seat edit good told.live can).1

-- ---- as the code has it

-- an exchange looks at the buckets alone
pub swapped_same : (gone fresh : List Cell) (old old' new : InHand) → old.grid ≡ old'.grid → old.places ≡ old'.places →
    IsSwapped gone fresh old new → IsSwapped gone fresh old' new
swapped_same gone fresh old old' new g p s = record {
  grid = s.grid ∙ g;
  count = s.count ∙ ap length p;
  places = λ k. s.places k ∙ (λ i. Rattle.std.specs.Option.option_map
      (Rattle.cell_store.specs.Changes.swapped_in (g i) k gone fresh) (bucket_at (p i) k));
}

-- the same of the names, over lists that are these
points_named_same : (n : ℕ) (w : List ℕ) (g g' : ℕ) (l : List ℕ) → g ≡ g' → ArePointsNamed n w g l →
    ArePointsNamed n w g' l
points_named_same n w g g' l f x = subst (λ (d : ℕ). ArePointsNamed n w d l) f x

-- so it is with the points of cells
are_named_same : (n : ℕ) (w : List ℕ) (g g' : ℕ) (l l' : List Cell) → g ≡ g' → l ≡ l' → AreNamed n w g l →
    AreNamed n w g' l'
are_named_same n w g g' l l' f k x =
    subst (λ (m : List Cell). AreNamed n w g' m) k (subst (λ (d : ℕ). AreNamed n w d l) f x)

-- all buckets of a good board are in its hold
pub words_whole : (kept : KeptBoard) (words : List ℕ) → words ≡ kept.words → Good (board_of kept) →
    (b : ℕ) → b < length words → IsSome (bucket_at kept.hold.places b)
words_whole kept words same good b below =
    all_in_hand kept good.0 good.1 b (subst (λ (w : List ℕ). b < length w) same below)

-- and all places of a hold are in hand, where a bucket for each word is
pub places_whole :
    (words : List ℕ) (places : List (Option BucketContent)) (m : ℕ) → length places ≡ m → length words ≡ m →
    ((b : ℕ) → b < length words → IsSome (bucket_at places b)) →
    (b : ℕ) → b < length places → IsSome (bucket_at places b)
places_whole words places m wide many all b below = all b (subst (λ (k : ℕ). b < k) (wide ∙ sym many) below)

-- what is found and exchanged is what a commit makes of the hold
pub made_of :
    (words s : List ℕ) (number n tag : ℕ) (edit : Edit) (t : Trial) (g : ℕ) (near gone fresh : List Cell)
    (old new : InHand) → IsTrialOf s edit t → g ≡ old.grid → near ≡ t.near.items →
    gone ≡ t.gone.items → fresh ≡ t.fresh.items →
    ((b : ℕ) → b < length words → IsSome (bucket_at old.places b)) →
    ArePointsNamed n words g (edit_points edit) × AreNamed n words g near →
    IsExchangedIn gone fresh (record { number = number; by = n; tag = tag; edit = edit; reply = t.reply }) old new →
    IsEditMade words s number n tag edit old new
made_of words s number n tag edit t g near gone fresh old new trial eg en eo ef all own ex = record {
  touched = touched_held old.grid n s edit t words old.places all trial
      (points_named_same n words g old.grid (edit_points edit) eg own.0)
      (are_named_same n words g old.grid near t.near.items eg en own.1);
  gone = gone;
  fresh = fresh;
  change = subst (λ (l : List Cell). IsChange (complex s) (complex (after s edit)) gone l) (sym ef)
      (subst (λ (l : List Cell). IsChange (complex s) (complex (after s edit)) l t.fresh.items) (sym eo) trial.change);
  exchanged = subst (λ (r : Reply). IsExchangedIn gone fresh (record {
    number = number;
    by = n;
    tag = tag;
    edit = edit;
    reply = r;
  }) old new) trial.reply ex;
}

-- and where the words do not name the pass, it does not hold all that is touched
pub unmade_of :
    (words s : List ℕ) (n : ℕ) (edit : Edit) (t : Trial) (g : ℕ) (near : List Cell) (old : InHand) →
    IsTrialOf s edit t → g ≡ old.grid → near ≡ t.near.items →
    (ArePointsNamed n words g (edit_points edit) × AreNamed n words g near → ⊥) →
    HoldTouched old.grid s edit (held_by n words old.places) → ⊥
unmade_of words s n edit t g near old trial eg en none touched =
    let own = held_touched old.grid n s edit t words old.places trial touched in
    none (
      points_named_same n words old.grid g (edit_points edit) (sym eg) own.0,
      are_named_same n words old.grid g t.near.items near (sym eg) (sym en) own.1,
    )
