-- The places that stay in a star.
use Rattle.std.specs.Prelude.{◌≡◌, ℕ, Bool, true, false, not, List}
use Rattle.std.specs.List.{filter}
use Rattle.std.proofs.Common.{refl, sym, ◌∙◌, ap, subst}
use Rattle.list_laws.proofs.Cited.{among_from, among_true, filtered_from, filtered_true}
use Rattle.point_order.specs.Sets.{IsIn, is_among}
use Rattle.cell_stars.specs.Places.{Placed, IsStarred}

-- what stays of a star is what is not freed
pub stays_are : (b : Placed) (freed items list : List ℕ) (p : ℕ) → list ≡ filter (λ x. not
    (is_among x freed)) items → ((i : ℕ) → (IsIn i items → IsStarred b.keys b.stars p i) ×
    (IsStarred b.keys b.stars p i → IsIn i items)) →
    (i : ℕ) → (IsIn i list → IsStarred b.keys b.stars p i × (IsIn i freed → ⊥)) × (IsStarred b.keys b.stars p i ×
    (IsIn i freed → ⊥) → IsIn i list)
stays_are b freed items list p e f i = (
  λ m. (
      let r = filtered_from test items i (subst (λ (l : List ℕ). IsIn i l) e m) in
      ((f i).0 r.0, λ k. (let t = among_true i freed k in let u = sym (ap not t) ∙ r.1 in absurd (cc u)))),
  λ m. subst (λ (l : List ℕ). IsIn i l) (sym e) (filtered_true test items i ((f i).1 m.0) (by
      (is_among i freed) refl m.1)),
)
  where
    test : ℕ → Bool
    test x = not (is_among x freed)

    by : (t : Bool) → is_among i freed ≡ t → (IsIn i freed → ⊥) → test i ≡ true
    by true q n = absurd (n (among_from i freed q))
    by false q n = ap not q
