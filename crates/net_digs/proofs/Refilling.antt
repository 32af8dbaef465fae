-- The list of cells where a point was taken, and the cells that come were put in.
use Rattle.std.specs.Prelude.{◌≡◌, ℕ, true, List, ◌++◌, ◌↔◌}
use Rattle.std.proofs.Common.{inl, inr}
use Rattle.list_laws.specs.Lists.{AreDistinct}
use Rattle.list_laws.proofs.Cited.{from_append, in_left}
use Rattle.point_order.specs.declared.cell.Cell.{Cell}
use Rattle.point_order.specs.Complex.{complex}
use Rattle.point_order.specs.Sets.{IsIn, without_point}
use Rattle.point_order.specs.Solid.{is_solid}
use Rattle.hole_laws.specs.Edits.{ComesWithout}
use Rattle.hole_laws.proofs.Cited.{cells_of_rest, rest_set}
use Rattle.cell_slots.specs.Clouds.{AreCellsOf}
use Rattle.cell_slots.specs.Nets.{AreWithAll}
use Rattle.cell_slots.specs.Stars.{AreStarOf}
use Rattle.cell_slots.proofs.Cited.{first_distinct, in_two}

-- with those that come in the place of the star the list is that of the set without the point
pub refilled : (s : List ℕ) (v : ℕ) → IsIn v s → is_solid (without_point v s) ≡ true →
    (gone fresh rest now : List Cell) → AreCellsOf s (rest ++ gone) → AreStarOf s v gone →
    ((q : Cell) → IsIn q fresh ↔ ComesWithout s v q) → AreDistinct fresh → AreWithAll rest fresh now →
    AreCellsOf (without_point v s) now
refilled s v m h gone fresh rest now k g f once w =
    let i = k.solid.set in
    let listed : (q : Cell) → IsIn q rest → IsIn q (complex s) = λ q r. (k.members q).0 (in_left q rest gone r) in
    record {
      solid = record { set = rest_set v s i; solid = h };
      members = λ q. (
        λ j. elim ((w.members q).0 j) [
          | inl r ↦ (cells_of_rest s v i m h q).1 (inl (
            listed q r,
            λ a.
                in_two rest gone q k.once r ((g.star_is q).1 (record { listed = listed q r; has = a })),
          ))
          | inr r ↦ (cells_of_rest s v i m h q).1 (inr ((f q).0 r))
        ],
        λ j. (w.members q).1 (elim ((cells_of_rest s v i m h q).0 j) [
          | inl r ↦ elim (from_append q rest gone ((k.members q).1 r.0)) [
            | inl a ↦ inl a
            | inr a ↦ absurd (r.1 ((g.star_is q).0 a).has)
          ]
          | inr r ↦ inr ((f q).1 r)
        ]),
      );
      once = w.once (first_distinct rest gone k.once) once (λ q r a. ((f q).0 a).after (listed q r));
    }
