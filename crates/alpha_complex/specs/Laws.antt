-- What admission comes to for points and for Full cells.
use Rattle.std.specs.Prelude.{◌≡◌, ℕ, true, List, [], ◌∷◌}
use Rattle.point_order.specs.declared.cell.Cell.TheVariants.{Full}
use Rattle.point_order.specs.Complex.{complex}
use Rattle.point_order.specs.Sets.{IsIn, IsAscending}
use Rattle.point_order.specs.Solid.{is_solid}
use Rattle.del_laws.specs.Keys.{AreKeys}
use Rattle.alpha_complex.specs.Admitted.{is_within, is_admitted}

-- a point of a solid set is admitted at every alpha
abbrev pub PointIsAdmitted : Type 0
PointIsAdmitted =
    (s : List ℕ) (alpha p : ℕ) → IsAscending s → AreKeys s → is_solid s ≡ true → IsIn p s →
    is_admitted s alpha (p ∷ []) ≡ true

-- a Full cell is admitted exactly where its own squared radius is at most alpha
abbrev pub FullCellIsAdmitted : Type 0
FullCellIsAdmitted =
    (s : List ℕ) (alpha : ℕ) (q : List ℕ) → IsAscending s → IsIn (Full q) (complex s) → is_admitted s alpha q
    ≡ is_within alpha q
