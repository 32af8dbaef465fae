-- What is known of a set after edits.
use Rattle.std.specs.Prelude.{◌≡◌, ◌≢◌, ℕ, Bool, true, false, cond, not, ◌==◌, List, [], ◌∷◌, ◌++◌}
use Rattle.std.proofs.Common.{refl, sym, ◌∙◌, ap, subst, inl, inr, arith}
use Rattle.std.proofs.lemmas.Bool.Decides.{nat_tests}
use Rattle.std.proofs.lemmas.Bool.{ne_eqb}
use Rattle.list_laws.proofs.Cited.{among_from, among_true, differ_from, false_if, filtered_true, in_filtered, passes}
use Rattle.list_laws.proofs.Cited.{same_from, same_test}
use Rattle.point_order.specs.Sets.{IsIn, IsAscending, is_among, with_point, without_point}
use Rattle.point_order.proofs.Cited.{in_with, in_with_new, in_with_old}
use Rattle.edit_history.specs.declared.history.Edit.{Edit}
use Rattle.edit_history.specs.declared.history.Edit.TheVariants.{Add, Take, Move}
use Rattle.edit_history.specs.declared.history.Reply.{Reply}
use Rattle.edit_history.specs.declared.history.Reply.TheVariants.{Inserted, Duplicate, Removed, Missing, Flat, Moved}
use Rattle.edit_history.specs.declared.history.Reply.TheVariants.{Occupied}
use Rattle.edit_history.specs.Edits.{after, arrived, changed, edit_points, point_of, reply_to}
use Rattle.edit_history.proofs.Cited.{ascending_arrived, ascending_changed}
use Rattle.part_edits.specs.Made.{AreAnswered, Made, known_after, known_by, set_after}

-- ---- whether a point is there, where another comes or is taken

-- in a set with p, whether q is there: where it is p, or was there
pub among_with : (p q : ℕ) (s : List ℕ) → is_among q (with_point p s) ≡ cond (p == q) true (is_among q s)
among_with p q s = by (p == q) refl
  where
    by : (b : Bool) → (p == q) ≡ b → is_among q (with_point p s) ≡ cond b true (is_among q s)
    by true e =
        among_true q (with_point p s) (subst (λ (r : ℕ). IsIn r (with_point p s)) (same_from p q e) (in_with_new p s))
    by false e =
        same_test (is_among q (with_point p s)) (is_among q s)
        (λ h. elim (in_with p q s (among_from q (with_point p s) h)) [
          | inl f ↦ absurd (differ_from p q e f)
          | inr i ↦ among_true q s i
        ])
        (λ h. among_true q (with_point p s) (in_with_old p q s (among_from q s h)))

-- p is not in a set without it
not_without : (p : ℕ) (s : List ℕ) → IsIn p (without_point p s) → ⊥
not_without p s i = denied (passes (λ q. not (q == p)) s p i)
  where
    denied : not (p == p) ≡ true → ⊥
    denied e = grind (arith, nat_tests)

-- another point is there still
pub in_without_other : (p q : ℕ) (s : List ℕ) → p ≢ q → IsIn q s → IsIn q (without_point p s)
in_without_other p q s n i = filtered_true (λ r. not (r == p)) s q i other
  where
    other : not (q == p) ≡ true
    other = grind (arith, nat_tests)

-- in a set without p, whether q is there: where it is not p, and was there
pub among_without : (p q : ℕ) (s : List ℕ) → is_among q (without_point p s) ≡ cond (p == q) false (is_among q s)
among_without p q s = by (p == q) refl
  where
    by : (b : Bool) → (p == q) ≡ b → is_among q (without_point p s) ≡ cond b false (is_among q s)
    by true e =
        false_if (is_among q (without_point p s)) (λ h. not_without p s
        (subst (λ (r : ℕ). IsIn r (without_point p s)) (sym (same_from p q e)) (among_from q (without_point p s) h)))
    by false e =
        same_test (is_among q (without_point p s)) (is_among q s)
        (λ h. among_true q s (in_filtered (λ r. not (r == p)) s q (among_from q (without_point p s) h)))
        (λ h. among_true q (without_point p s) (in_without_other p q s (differ_from p q e) (among_from q s h)))

-- ---- two sets that agree on a point agree on it after the same reply

module _ (q : ℕ) (s t : List ℕ) (e : is_among q s ≡ is_among q t) where
  with_agree : (p : ℕ) → is_among q (with_point p s) ≡ is_among q (with_point p t)
  with_agree p = among_with p q s ∙ ap (cond (p == q) true) e ∙ sym (among_with p q t)

  without_agree : (p : ℕ) → is_among q (without_point p s) ≡ is_among q (without_point p t)
  without_agree p = among_without p q s ∙ ap (cond (p == q) false) e ∙ sym (among_without p q t)

  changed_agree : (p : ℕ) (r : Reply) → is_among q (changed s p r) ≡ is_among q (changed t p r)
  changed_agree p Inserted = with_agree p
  changed_agree p Duplicate = e
  changed_agree p Removed = without_agree p
  changed_agree p Missing = e
  changed_agree p Flat = e
  changed_agree p Moved = without_agree p
  changed_agree p Occupied = e

  arrived_agree : (edit : Edit) (r : Reply) → is_among q (arrived s edit r) ≡ is_among q (arrived t edit r)
  arrived_agree (Add p) r = e
  arrived_agree (Take p) r = e
  arrived_agree (Move a b) Moved = with_agree b
  arrived_agree (Move a b) Inserted = e
  arrived_agree (Move a b) Duplicate = e
  arrived_agree (Move a b) Removed = e
  arrived_agree (Move a b) Missing = e
  arrived_agree (Move a b) Flat = e
  arrived_agree (Move a b) Occupied = e

pub known_agree : (q : ℕ) (s t : List ℕ) (edit : Edit) (r : Reply) → is_among q s ≡ is_among q t →
    is_among q (known_by s edit r) ≡ is_among q (known_by t edit r)
known_agree q s t edit r e =
    changed_agree q (arrived s edit r) (arrived t edit r) (arrived_agree q s t e edit r) (point_of edit) r

-- ---- an edit changes no other point

module _ (q : ℕ) (s : List ℕ) where
  with_other : (p : ℕ) → p ≢ q → is_among q (with_point p s) ≡ is_among q s
  with_other p n = among_with p q s ∙ ap (λ (b : Bool). cond b true (is_among q s)) (ne_eqb p q n)

  without_other : (p : ℕ) → p ≢ q → is_among q (without_point p s) ≡ is_among q s
  without_other p n = among_without p q s ∙ ap (λ (b : Bool). cond b false (is_among q s)) (ne_eqb p q n)

  changed_other : (p : ℕ) (r : Reply) → p ≢ q → is_among q (changed s p r) ≡ is_among q s
  changed_other p Inserted n = with_other p n
  changed_other p Duplicate n = refl
  changed_other p Removed n = without_other p n
  changed_other p Missing n = refl
  changed_other p Flat n = refl
  changed_other p Moved n = without_other p n
  changed_other p Occupied n = refl

  arrived_other : (edit : Edit) (r : Reply) → ¬ (IsIn q (edit_points edit)) →
      is_among q (arrived s edit r) ≡ is_among q s
  arrived_other (Add p) r n = refl
  arrived_other (Take p) r n = refl
  arrived_other (Move a b) Moved n = with_other b (λ e. n (inr (inl e)))
  arrived_other (Move a b) Inserted n = refl
  arrived_other (Move a b) Duplicate n = refl
  arrived_other (Move a b) Removed n = refl
  arrived_other (Move a b) Missing n = refl
  arrived_other (Move a b) Flat n = refl
  arrived_other (Move a b) Occupied n = refl

-- the first point of an edit is one of its points
pub own_point : (edit : Edit) → IsIn (point_of edit) (edit_points edit)
own_point (Add p) = inl refl
own_point (Take p) = inl refl
own_point (Move a b) = inl refl

pub known_other : (q : ℕ) (s : List ℕ) (edit : Edit) (r : Reply) → ¬ (IsIn q (edit_points edit)) →
    is_among q (known_by s edit r) ≡ is_among q s
known_other q s edit r n =
    changed_other q (arrived s edit r) (point_of edit) r
    (λ e. n (subst (λ (x : ℕ). IsIn x (edit_points edit)) e (own_point edit)))
    ∙ arrived_other q s edit r n

-- nor do edits that have it not
pub set_other : (q : ℕ) (s : List ℕ) (made : List Made) → ((m : Made) → IsIn m made → ¬ (IsIn q (edit_points m.0.1))) →
    is_among q (set_after s made) ≡ is_among q s
set_other q s [] n = refl
set_other q s (m ∷ made) n =
    set_other q (after s m.0.1) made (λ x i. n x (inr i)) ∙ known_other q s m.0.1 (reply_to s m.0.1) (n m (inl refl))

-- ---- some lines and then others

pub set_both : (s : List ℕ) (a b : List Made) → set_after s (a ++ b) ≡ set_after (set_after s a) b
set_both s [] b = refl
set_both s (m ∷ a) b = set_both (after s m.0.1) a b

pub answered_both : (s : List ℕ) (a b : List Made) → AreAnswered s a → AreAnswered (set_after s a) b →
    AreAnswered s (a ++ b)
answered_both s [] b f g = g
answered_both s (m ∷ a) b f g = (f.0, answered_both (after s m.0.1) a b f.1 g)

-- what is known of the points is known of them after lines with their replies
pub known_still : (q : ℕ) (known s : List ℕ) (made : List Made) → AreAnswered s made →
    is_among q known ≡ is_among q s → is_among q (known_after known made) ≡ is_among q (set_after s made)
known_still q known s [] f e = e
known_still q known s (m ∷ made) f e =
    known_still q (known_by known m.0.1 m.1) (after s m.0.1) made f.1
    (known_agree q known s m.0.1 m.1 e ∙ ap (λ (r : Reply). is_among q (known_by s m.0.1 r)) f.0)

-- lines leave an ascending list of an ascending one
pub ascending_after : (s : List ℕ) (edit : Edit) → IsAscending s → IsAscending (after s edit)
ascending_after s edit h =
    ascending_changed (arrived s edit (reply_to s edit)) (point_of edit) (reply_to s edit)
    (ascending_arrived s edit (reply_to s edit) h)
