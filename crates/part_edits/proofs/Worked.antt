-- Lines that are worked off, one after another.
use Rattle.std.specs.Prelude.{◌≡◌, ℕ, zero, suc, ◌+◌, ◌<◌, ◌≤◌, true, false, List, [], ◌∷◌, ◌++◌, ◌⊎◌, length, Option}
use Rattle.std.specs.Prelude.{None, MatchOption, Some, slice_index_or, slice_set}
use Rattle.std.proofs.Common.{ap, append-nil, arith, inl, inr, length-append, refl, subst, sym, ◌∙◌}
use Rattle.list_laws.proofs.Cited.{len_set, not_both}
use Rattle.point_order.specs.declared.cell.Cell.{Cell}
use Rattle.point_order.specs.Sets.{IsAscending, IsIn, is_among}
use Rattle.edit_history.specs.declared.history.Reply.{Reply}
use Rattle.edit_history.specs.Edits.{arrived, point_of, share_point}
use Rattle.edit_history.proofs.Cited.{ascending_arrived, ascending_changed}
use Rattle.cell_slots.specs.Nets.{AreMoved}
use Rattle.part_edits.specs.Changes.{ArePartKnown, IsMade}
use Rattle.part_edits.specs.Lists.{HavePartKnown, IsAnswered, KeepOrder, answer_at, made_in}
use Rattle.part_edits.specs.Made.{AreMade, Line, Made, known_after, known_by, set_after}
use Rattle.part_edits.proofs.Beside.{made_none, one_after_another}
use Rattle.part_edits.proofs.Changed.{made_one}
use Rattle.part_edits.proofs.Known.{known_still}

-- ---- the lines that were made

-- where no line has a reply, none was made
pub made_in_none : (lines : List Line) (answers : List (Option Reply)) → ((k : ℕ) → answer_at answers k ≡ None) →
    made_in lines answers ≡ []
made_in_none [] answers f = refl
made_in_none (line ∷ lines) [] f = refl
made_in_none (line ∷ lines) (None ∷ answers) f = made_in_none lines answers (λ k. f (suc k))
made_in_none (line ∷ lines) (Some r ∷ answers) f = absurd (let e : Some r ≡ None = f zero in cc e)

-- one more gets a reply, behind which none has one
pub made_in_more : (lines : List Line) (answers : List (Option Reply)) (i : ℕ) (r : Reply) (d : Line) →
    i < length lines → length answers ≡ length lines → ((k : ℕ) → i ≤ k → answer_at answers k ≡ None) →
    made_in lines (slice_set answers i (Some r)) ≡ made_in lines answers ++ (slice_index_or lines i d, r) ∷ []
made_in_more [] answers i r d l e f = absurd (omega (arith, l))
made_in_more (line ∷ lines) [] i r d l e f = absurd (omega (arith, e))
made_in_more (line ∷ lines) (None ∷ answers) zero r d l e f =
    let n = made_in_none lines answers (λ k. f (suc k) (omega arith)) in
    ap (λ (t : List Made). (line, r) ∷ t) n ∙ sym (ap (λ (t : List Made). t ++ (line, r) ∷ []) n)
made_in_more (line ∷ lines) (Some x ∷ answers) zero r d l e f =
    absurd (let n : Some x ≡ None = f zero (omega arith) in cc n)
made_in_more (line ∷ lines) (None ∷ answers) (suc i) r d l e f =
    made_in_more lines answers i r d (omega (arith, l)) (omega (arith, e)) (λ k g. f (suc k) (omega (arith, g)))
made_in_more (line ∷ lines) (Some x ∷ answers) (suc i) r d l e f =
    ap (λ (t : List Made). (line, x) ∷ t)
    (made_in_more lines answers i r d (omega (arith, l)) (omega (arith, e)) (λ k g. f (suc k) (omega (arith, g))))

-- setting aside what had no reply changes nothing
pub set_none : (answers : List (Option Reply)) (i : ℕ) → answer_at answers i ≡ None →
    slice_set answers i None ≡ answers
set_none [] i e = refl
set_none (a ∷ answers) zero e = ap (λ (x : Option Reply). x ∷ answers) (sym e)
set_none (a ∷ answers) (suc i) e = ap (λ (l : List (Option Reply)). a ∷ l) (set_none answers i e)

-- what stands at a place that was not set
pub set_apart : (answers : List (Option Reply)) (i k : ℕ) (a : Option Reply) → ¬ (i ≡ k) →
    answer_at (slice_set answers i a) k ≡ answer_at answers k
set_apart [] i k a n = refl
set_apart (x ∷ answers) zero zero a n = absurd (n refl)
set_apart (x ∷ answers) zero (suc k) a n = refl
set_apart (x ∷ answers) (suc i) zero a n = refl
set_apart (x ∷ answers) (suc i) (suc k) a n = set_apart answers i k a (λ e. n (ap suc e))

-- and at one that was
pub set_here : (answers : List (Option Reply)) (i : ℕ) (a : Option Reply) → i < length answers →
    answer_at (slice_set answers i a) i ≡ a
set_here [] i a l = absurd (omega (arith, l))
set_here (x ∷ answers) zero a l = refl
set_here (x ∷ answers) (suc i) a l = set_here answers i a (omega (arith, l))

-- a line that was made is one of the lines
pub in_made : (lines : List Line) (answers : List (Option Reply)) (m : Made) → IsIn m (made_in lines answers) →
    IsIn m.0 lines
in_made [] answers m i = absurd i
in_made (line ∷ lines) [] m i = absurd i
in_made (line ∷ lines) (None ∷ answers) m i = inr (in_made lines answers m i)
in_made (line ∷ lines) (Some r ∷ answers) m (inl e) = inl (ap (λ (x : Made). x.0) e)
in_made (line ∷ lines) (Some r ∷ answers) m (inr i) = inr (in_made lines answers m i)

-- what is known after one more line
known_more : (known : List ℕ) (a : List Made) (m : Made) → known_after known (a ++ m ∷ []) ≡
    known_by (known_after known a) m.0.1 m.1
known_more known [] m = refl
known_more known (x ∷ a) m = known_more (known_by known x.0.1 x.1) a m

-- a place below the next
pub at_or_below : (i j : ℕ) → j < i + 1 → (j < i) ⊎ (i ≡ j)
at_or_below i j l = grind (arith, l)

-- ---- the loop: what holds before line i

pub record AreWorkedTo (known : List ℕ) (lines : List Line) (old : List Cell) (i : ℕ) (answers : List (Option Reply))
    (now : List Cell) (keys : List ℕ) : Type 0 where
  pub len : length answers ≡ length lines
  pub none : (k : ℕ) → i ≤ k → answer_at answers k ≡ None
  pub made : AreMade known (made_in lines answers) old now
  pub keys_are : keys ≡ known_after known (made_in lines answers)
  pub up : IsAscending keys
  pub order : (k j : ℕ) (d : Line) → k < j → j < i → answer_at answers k ≡ None →
      share_point (slice_index_or lines k d).1 (slice_index_or lines j d).1 ≡ true → answer_at answers j ≡ None

-- nothing is made yet
pub worked_none : (known : List ℕ) (lines : List Line) (old : List Cell) (answers : List (Option Reply)) →
    length answers ≡ length lines → ((k : ℕ) → answer_at answers k ≡ None) → IsAscending known →
    AreWorkedTo known lines old 0 answers old known
worked_none known lines old answers l f up =
    let n = made_in_none lines answers f in
    record {
      len = l;
      none = λ k g. f k;
      made = subst (λ (t : List Made). AreMade known t old old) (sym n)
          (made_none known old old (record { members = λ q. (λ i. i, λ i. i); once = λ d. d }));
      keys_are = ap (known_after known) (sym n);
      up = up;
      order = λ k j d g h. absurd (omega (arith, h));
    }

module _ (known : List ℕ) (lines : List Line) (old : List Cell) (i : ℕ) (answers : List (Option Reply))
    (now : List Cell) (keys : List ℕ) (w : AreWorkedTo known lines old i answers now keys) where
  -- the next line may be made
  pub worked_known : HavePartKnown known lines old → (line : Line) → IsIn line lines → ArePartKnown keys line.1 now
  worked_known h line m =
      let made = made_in lines answers in
      let r = w.made h.others h.set h.cells_of (λ x j. h.agree x.0 (in_made lines answers x j)) in
      record {
        others = h.others;
        set = set_after h.set made;
        cells_of = r.1;
        agree = λ q j. ap (is_among q) w.keys_are
            ∙ known_still q known h.set made r.0 (h.agree line m q j);
      }

  -- the next is set aside
  pub worked_aside : (now' : List Cell) (keys' : List ℕ) → AreMoved now now' → keys' ≡ keys →
      AreWorkedTo known lines old (i + 1) (slice_set answers i None) now' keys'
  worked_aside now' keys' m e =
      let same = set_none answers i (w.none i (omega arith)) in
      subst (λ (a : List (Option Reply)). AreWorkedTo known lines old (i + 1) a now' keys') (sym same) (record {
        len = w.len;
        none = λ k g. w.none k (omega (arith, g));
        made = subst (λ (t : List Made). AreMade known t old now') (append-nil (made_in lines answers))
            (one_after_another known (made_in lines answers) [] old now now' w.made
            (made_none (known_after known (made_in lines answers)) now now' m));
        keys_are = e ∙ w.keys_are;
        up = subst IsAscending (sym e) w.up;
        order = λ k j d g h n s. (
            elim (at_or_below i j h) [
              | inl l ↦ w.order k j d g l n s
              | inr q ↦ w.none j (omega (arith, q))
            ]);
      })

  -- the next is made
  pub worked_more : (d : Line) (r : Reply) (now' : List Cell) (keys' : List ℕ) → i < length lines →
      IsMade keys (slice_index_or lines i d).1 r now now' → keys' ≡ known_by keys (slice_index_or lines i d).1 r →
      ((d : Line) (k : ℕ) → k < i → answer_at answers k ≡ None →
      share_point (slice_index_or lines k d).1 (slice_index_or lines i d).1 ≡ false) →
      AreWorkedTo known lines old (i + 1) (slice_set answers i (Some r)) now' keys'
  worked_more d r now' keys' l m e apart =
      let made = made_in lines answers in
      let line = slice_index_or lines i d in
      let more = made_in_more lines answers i r d l w.len w.none in
      let m' = subst (λ (t : List ℕ). IsMade t line.1 r now now') w.keys_are m in
      record {
        len = len_set answers i (Some r) ∙ w.len;
        none = λ k g. set_apart answers i k (Some r) (λ q. omega (arith, g, q)) ∙ w.none k (omega (arith, g));
        made = subst (λ (t : List Made). AreMade known t old now') (sym more)
            (one_after_another known made ((line, r) ∷ []) old now now' w.made
            (made_one (known_after known made) (line, r) now now' m'));
        keys_are = e ∙ ap (λ (t : List ℕ). known_by t line.1 r) w.keys_are ∙ sym (known_more known made (line, r))
            ∙ sym (ap (known_after known) more);
        up = subst IsAscending (sym e) (ascending_changed (arrived keys line.1 r) (point_of line.1) r
            (ascending_arrived keys line.1 r w.up));
        order = λ k j d' g h n s. (
            let before = λ (x : k < i). sym (set_apart answers i k (Some r) (λ q. omega (arith, x, q))) ∙ n in
            elim (at_or_below i j h) [
              | inl x ↦ set_apart answers i j (Some r) (λ q. omega (arith, x, q))
                  ∙ w.order k j d' g x (before (omega (arith, g, x))) s
              | inr q ↦ absurd (not_both (share_point (slice_index_or lines k d').1 (slice_index_or lines i d').1)
                  (subst (λ (z : ℕ). share_point (slice_index_or lines k d').1 (slice_index_or lines z d').1 ≡ true)
                  (sym q) s) (apart d' k (omega (arith, g, q)) (before (omega (arith, g, q)))))
            ]);
      }

-- line i is answered
pub worked_next : (known : List ℕ) (lines : List Line) (old : List Cell) (i : ℕ) (answers : List (Option Reply))
    (now : List Cell) (keys : List ℕ) → AreWorkedTo known lines old i answers now keys → (d : Line) →
    i < length lines → (a : Option Reply) (now' : List Cell) (keys' : List ℕ) →
    IsAnswered lines answers i a keys keys' now now' →
    AreWorkedTo known lines old (i + 1) (slice_set answers i a) now' keys'
worked_next known lines old i answers now keys w d l None now' keys' f =
    worked_aside known lines old i answers now keys w now' keys' f.0 f.1
worked_next known lines old i answers now keys w d l (Some r) now' keys' f =
    worked_more known lines old i answers now keys w d r now' keys' l (f d).0 (f d).1 (λ e. (f e).2)

-- what stands at a place, whatever would stand past the end
pub at_any : {X : Type 0} (l : List X) (i : ℕ) (d u : X) → i < length l → slice_index_or l i d ≡ slice_index_or l i u
at_any [] i d u h = absurd (omega (arith, h))
at_any (x ∷ l) zero d u h = refl
at_any (x ∷ l) (suc i) d u h = at_any l i d u (omega (arith, h))

-- a line that was made or left, where it shares no point with an earlier one that has no reply
pub answered_so : (lines : List Line) (answers : List (Option Reply)) (i : ℕ) (u : Line) (a : Option Reply)
    (keys keys' : List ℕ) (old new : List Cell) → i < length lines →
    MatchOption a (AreMoved old new) (λ r. IsMade keys (slice_index_or lines i u).1 r old new) →
    MatchOption a (keys' ≡ keys) (λ r. keys' ≡ known_by keys (slice_index_or lines i u).1 r) →
    ((k : ℕ) (d : Line) → k < i → answer_at answers k ≡ None →
    share_point (slice_index_or lines k d).1 (slice_index_or lines i d).1 ≡ false) →
    IsAnswered lines answers i a keys keys' old new
answered_so lines answers i u None keys keys' old new l f g h = (f, g)
answered_so lines answers i u (Some r) keys keys' old new l f g h = λ d.
    let e = at_any lines i u d l in (
      subst (λ (x : Line). IsMade keys x.1 r old new) e f,
      subst (λ (x : Line). keys' ≡ known_by keys x.1 r) e g,
      λ k x n. h k d x n,
    )

-- all lines are worked off
pub worked_order : (known : List ℕ) (lines : List Line) (old : List Cell) (i : ℕ) (answers : List (Option Reply))
    (now : List Cell) (keys : List ℕ) → AreWorkedTo known lines old i answers now keys → length lines ≤ i →
    KeepOrder lines answers
worked_order known lines old i answers now keys w l k j d g h n s = w.order k j d g (omega (arith, l, h)) n s

-- one line more without a reply
pub no_more : (answers : List (Option Reply)) (n : ℕ) → length answers ≡ n → ((i : ℕ) → answer_at answers i ≡ None) →
    (length (answers ++ None ∷ []) ≡ n + 1) × ((i : ℕ) → answer_at (answers ++ None ∷ []) i ≡ None)
no_more answers n l f =
    let e = length-append answers (None ∷ []) in
    (e ∙ ap (λ (k : ℕ). k + 1) l, none_behind answers f)
  where
    none_behind : (a : List (Option Reply)) → ((i : ℕ) → answer_at a i ≡ None) → (i : ℕ) →
        answer_at (a ++ None ∷ []) i ≡ None
    none_behind [] g zero = refl
    none_behind [] g (suc i) = refl
    none_behind (x ∷ a) g zero = g zero
    none_behind (x ∷ a) g (suc i) = none_behind a (λ k. g (suc k)) i
