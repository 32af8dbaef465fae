-- The definitions with "every other point" and "strictly" say the same as the weak ones, where there are no ties.
--
use Rattle.std.specs.Prelude.{ℕ, pos, ◌≡◌, ◌≤ℤ◌, ◌<ℤ◌, List, [], ◌∷◌}
use Rattle.std.proofs.Common.{refl, inl, inr}
use Rattle.list_laws.proofs.Cited.{not_zero, of_three, positive}
use Rattle.point_order.specs.Orientation.{orientation}
use Rattle.point_order.specs.Heights.{lifted}
use Rattle.point_order.specs.Sets.{IsIn}
use Rattle.del_laws.specs.Cells.{Open, NoTies}
use Rattle.del_laws.proofs.Identities.{lifted_at_a, lifted_at_b, lifted_at_c}
use Rattle.del_laws.proofs.Lists.{of_four}
use Rattle.del_laws.proofs.CellFacts.{open_a, open_b, open_c, open_mate, open_bounds, open_ties}

-- an Open cell in the strict form
pub record StrictOpen (h : ℕ → ℕ) (s : List ℕ) (a b c : ℕ) : Type 0 where
  pub has_a : IsIn a s
  pub has_b : IsIn b s
  pub has_c : IsIn c s
  pub mate : ℕ
  pub has_mate : IsIn mate s
  pub above : pos 0 <ℤ orientation a b c mate
  pub bounds : (e : ℕ) → IsIn e s → pos 0 ≤ℤ orientation a b c e
  pub ties : (f e : ℕ) → IsIn f s → IsIn e s → ¬ (IsIn e (a ∷ b ∷ c ∷ [])) → pos 0 <ℤ orientation a b c f →
      orientation a b c e ≡ pos 0 → pos 0 <ℤ lifted h a b c f e

-- the three points of an Open cell lie on its circle
pub flat_three : (h : ℕ → ℕ) (a b c f e : ℕ) → IsIn e (a ∷ b ∷ c ∷ []) → lifted h a b c f e ≡ pos 0
flat_three h a b c f e m =
    of_three (λ x. lifted h a b c f x ≡ pos 0) m (lifted_at_a h a b c f) (lifted_at_b h a b c f) (lifted_at_c h a b c f)

-- the weak form gives the strict one
pub strict_open : {h : ℕ → ℕ} {s : List ℕ} {a b c : ℕ} → NoTies h s → Open h s a b c → StrictOpen h s a b c
strict_open {h} {s} {a} {b} {c} n F = (let o = open_mate F in record {
  has_a = open_a F;
  has_b = open_b F;
  has_c = open_c F;
  mate = o.0;
  has_mate = o.1;
  above = o.2;
  bounds = open_bounds F;
  ties = λ f e m k other l z. positive (lifted h a b c f e) (open_ties F f e m k l z) (λ q. (
      let one = n.one_of a b c f e (open_a F) (open_b F) (open_c F) m k (not_zero (orientation a b c f) l) q in
      of_four (λ x. orientation a b c x ≡ pos 0 → ¬ (IsIn x (a ∷ b ∷ c ∷ [])) → ⊥) one (λ y v. v (inl refl))
      (λ y v. v (inr (inl refl))) (λ y v. v (inr (inr (inl refl)))) (λ y v. not_zero (orientation a b c f) l y) z
      other));
})
