-- Parts of ascending lists of points: how long they are, and which parts contain which.
use Rattle.std.proofs.Common.{◌≡◌, sym, subst, ap, ◌∙◌, ℕ, zero, suc, ◌<◌, inl, inr, true, List, [], ◌∷◌, map, length}
use Rattle.std.proofs.Common.{arith}
use Rattle.list_laws.proofs.Cited.{all_from, all_true, among_from, among_true, from_append, mapped_from}
use Rattle.point_order.specs.Sets.{IsIn, IsAscending, is_among}
use Rattle.point_order.specs.Subsets.{subsets}
use Rattle.del_laws.proofs.Cited.{part_true}
use Rattle.alpha_complex.specs.Admitted.{contains}

-- a list has no part that is longer
pub no_longer : (k : ℕ) (t p : List ℕ) → length t < k → IsIn p (subsets k t) → ⊥
no_longer zero t p l m = absurd (omega arith)
no_longer (suc k) [] p l m = m
no_longer (suc k) (x ∷ t) p l m = elim (from_append p (map (λ r. x ∷ r) (subsets k t)) (subsets (suc k) t) m) [
  | inl i ↦ (let r = mapped_from (λ r. x ∷ r) p (subsets k t) i in no_longer k t r.0 (omega arith) r.1)
  | inr i ↦ no_longer (suc k) t p (omega arith) i
]

-- the one part that is as long is the list itself
pub whole_only : (t p : List ℕ) → IsIn p (subsets (length t) t) → t ≡ p
whole_only [] p m = elim m [ inl e ↦ e | inr none ↦ absurd none ]
whole_only (x ∷ t) p m = elim (from_append p (map (λ r. x ∷ r) (subsets (length t) t)) (subsets (suc (length t)) t) m) [
  | inl i ↦ (
      let r = mapped_from (λ r. x ∷ r) p (subsets (length t) t) i in
      ap (λ v. x ∷ v) (whole_only t r.0 r.1) ∙ r.2)
  | inr i ↦ absurd (no_longer (suc (length t)) t p (omega arith) i)
]

-- ---- containing

-- a face that contains points has each of them
pub contained_from : (face ps : List ℕ) → contains face ps ≡ true → (p : ℕ) → IsIn p ps → IsIn p face
contained_from face ps t p i = among_from p face (all_from (λ p. is_among p face) ps t p i)

-- and back
pub contained_true : (face ps : List ℕ) → ((p : ℕ) → IsIn p ps → IsIn p face) → contains face ps ≡ true
contained_true face ps f = all_true (λ p. is_among p face) ps (λ p i. among_true p face (f p i))

-- a face contains itself
pub contains_itself : (face : List ℕ) → contains face face ≡ true
contains_itself face = contained_true face face (λ p i. i)

-- what contains a face contains what this contains
pub contains_through : (a b c : List ℕ) → contains a b ≡ true → contains b c ≡ true → contains a c ≡ true
contains_through a b c t u = contained_true a c (λ p i. contained_from a b t p (contained_from b c u p i))

-- of ascending points, no face is longer than one that contains it
pub not_in_shorter : (t p : List ℕ) → IsAscending t → IsAscending p → contains t p ≡ true → length t < length p → ⊥
not_in_shorter t p a b c l = no_longer (length p) t p l (part_true t p a b (contained_from t p c))

-- and one that is as long and contains it is the same
pub same_face : (t p : List ℕ) → IsAscending t → IsAscending p → contains t p ≡ true → length t ≡ length p → t ≡ p
same_face t p a b c e = whole_only t p (subst (λ n. IsIn p (subsets n t)) (sym e)
    (part_true t p a b (contained_from t p c)))
