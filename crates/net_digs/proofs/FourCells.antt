-- The cells of four independent points, with which the list begins.
use Rattle.std.specs.Prelude.{◌≡◌, refl, ℕ, ◌<◌, false, [], ◌∷◌}
use Rattle.std.proofs.Common.{inl, inr, arith}
use Rattle.list_laws.specs.Lists.{AreDistinct}
use Rattle.list_laws.proofs.Cited.{four_once}
use Rattle.point_order.specs.declared.cell.Cell.TheVariants.{Open}
use Rattle.point_order.specs.Coordinates.{IsKey}
use Rattle.point_order.specs.Orientation.{is_flat}
use Rattle.point_order.specs.Sets.{IsAscending}
use Rattle.edit_history.proofs.Cited.{solid_from}
use Rattle.del_laws.specs.Keys.{AreKeys}
use Rattle.del_laws.proofs.Cited.{of_four}
use Rattle.hole_laws.specs.FiveCells.{five_cells}
use Rattle.hole_laws.proofs.Cited.{four_have_five}
use Rattle.cell_slots.specs.Clouds.{AreCellsOf}

-- each stands once
five_once : (a b c d : ℕ) → a < b → b < c → c < d → AreDistinct (five_cells a b c d)
five_once a b c d ab bc cd = (
  λ m. elim m [
    | inl e ↦ (cc)
    | inr m ↦ elim m [
      | inl e ↦ (cc)
      | inr m ↦ elim m
          [ inl e ↦ (cc) | inr m ↦ elim m [ inl e ↦ (cc) | inr none ↦ none ] ]
    ]
  ],
  four_once (Open (a ∷ b ∷ c ∷ [])) (Open (a ∷ b ∷ d ∷ [])) (Open (a ∷ c ∷ d ∷ [])) (Open (b ∷ c ∷ d ∷ []))
      (λ e. (let q : c ≡ d = (cc) in absurd (omega arith))) (λ e. (let q : b ≡ c = (cc) in absurd (omega arith)))
      (λ e. (let q : a ≡ b = (cc) in absurd (omega arith)))
      (λ e. (let q : b ≡ c = (cc) in absurd (omega arith))) (λ e. (let q : a ≡ b = (cc) in absurd (omega arith)))
      (λ e. (let q : a ≡ b = (cc) in absurd (omega arith))),
)

-- so they are the cells of the four
pub cells_of_five : (a b c d : ℕ) → a < b → b < c → c < d → IsKey a → IsKey b → IsKey c → IsKey d →
    is_flat a b c d ≡ false → AreCellsOf (a ∷ b ∷ c ∷ d ∷ []) (five_cells a b c d)
cells_of_five a b c d ab bc cd ka kb kc kd f =
    let s = a ∷ b ∷ c ∷ d ∷ [] in
    let l : IsAscending s = (ab, (bc, (cd, (tt, tt)))) in
    let k : AreKeys s = record { below = λ q m. of_four IsKey m ka kb kc kd } in
    let v = solid_from s a b c d (inl refl) (inr (inl refl)) (inr (inr (inl refl))) (inr (inr (inr (inl refl)))) f in
    record {
      solid = record { set = record { ascending = l; keys = k }; solid = v };
      members = λ q. ((four_have_five a b c d l k v q).1, (four_have_five a b c d l k v q).0);
      once = five_once a b c d ab bc cd;
    }
