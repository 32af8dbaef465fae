-- A set of keys is an ascending list of points, also where one is taken out.
use Rattle.std.specs.Prelude.{◌≡◌, ℕ, ◌<◌, Bool, true, false, not, ◌==◌, List, [], ◌∷◌}
use Rattle.std.specs.Ordering.{is_eq, nat_cmp}
use Rattle.std.specs.Set.{remove_key}
use Rattle.std.proofs.Common.{refl, sym, ◌∙◌, ap, subst, inl, inr, arith}
use Rattle.std.proofs.lemmas.Bool.{ne_eqb}
use Rattle.list_laws.proofs.Cited.{below_each, eq_same, not_among, ordered, same_from, same_members}
use Rattle.point_order.specs.Sets.{IsIn, IsAscending, is_among, with_point, without_point}
use Rattle.point_order.proofs.Cited.{ascending_with, in_with, in_with_old}
use Rattle.hole_laws.proofs.Cited.{without_from, without_true}
use Rattle.list_laws.proofs.Cited.{filtered_ascending}

-- the tests of a key and of a point
same_test : (p x : ℕ) → is_eq (nat_cmp p x) ≡ (x == p)
same_test p x = elim (ordered p x) [
  | inl o ↦ ap is_eq o.1 ∙ sym (ne_eqb x p (λ e. let l = o.0 in omega (arith, l, e)))
  | inr k ↦ elim k [
    | inl o ↦ ap is_eq o.1 ∙ sym (ap (λ v. x == v) o.0 ∙ eq_same x)
    | inr o ↦ ap is_eq o.1 ∙ sym (ne_eqb x p (λ e. let l = o.0 in omega (arith, l, e)))
  ]
]

-- a list without a point that is below all of it
none_out : (p : ℕ) (s : List ℕ) → ((q : ℕ) → IsIn q s → p < q) → without_point p s ≡ s
none_out p [] f = refl
none_out p (x ∷ s) f =
    let l = f x (inl refl) in
    let n : (x == p) ≡ false = ne_eqb x p (λ e. omega (arith, l, e)) in
    rw n (ap (λ (v : List ℕ). x ∷ v) (none_out p s (λ q i. f q (inr i))))

-- a key that is taken out is a point that is taken out
pub key_out : (p : ℕ) (s : List ℕ) → IsAscending s → remove_key (λ k. is_eq (nat_cmp p k)) s ≡ without_point p s
key_out p [] a = refl
key_out p (x ∷ s) a = by (x == p) refl (key_out p s a.1)
  where
    by : (b : Bool) → (x == p) ≡ b → remove_key (λ k. is_eq (nat_cmp p k)) s ≡ without_point p s →
        remove_key (λ k. is_eq (nat_cmp p k)) (x ∷ s) ≡ without_point p (x ∷ s)
    by true e rest =
        let same = same_from x p e in
        rw (same_test p x, e)
        (sym (none_out p s (λ q i. (let l = below_each x s a.0 a.1 q i in omega (arith, l, same)))))
    by false e rest = rw (same_test p x, e) (ap (λ (v : List ℕ). x ∷ v) rest)

-- a new point that is taken out again
pub out_again : (p : ℕ) (s : List ℕ) → IsAscending s → is_among p s ≡ false → without_point p (with_point p s) ≡ s
out_again p s a f =
    same_members (without_point p (with_point p s)) s
    (filtered_ascending (λ q. not (q == p)) (with_point p s) (ascending_with p s a)) a
    (λ q i. (let r = without_from p (with_point p s) q i in elim (in_with p q s r.0) [
      | inl e ↦ absurd (r.1 (sym e))
      | inr j ↦ j
    ]))
    (λ q i. without_true p (with_point p s) q (in_with_old p q s i)
    (λ e. not_among s p f (subst (λ (v : ℕ). IsIn v s) e i)))

-- the keys are the first points of an ascending list
