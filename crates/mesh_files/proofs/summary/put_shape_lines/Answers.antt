use Rattle.std.proofs.Common.{List, ℕ, refl}
use Rattle.std.specs.Prelude.{map}
use Rattle.std.specs.List.{concat}
use Rattle.alpha_complex.specs.Slots.{ShapeSlots, shape_seen}
use Rattle.mesh_files.specs.Report.{shapes_seen}
use Rattle.mesh_files.specs.Summary.{shape_line}
use Rattle.text_sheets.proofs.Cited.{ends, goes_on, leaves_all}
use Rattle.mesh_files.proofs.summary.put_shape_lines.Goals as goal

pub loop-radius-init : goal.loop-radius-init
loop-radius-init g c = leaves_all

pub loop-radius-preserved : goal.loop-radius-preserved
loop-radius-preserved g c =
    goes_on (λ (xs : List (ℕ × ShapeSlots)). concat (map shape_line (shapes_seen xs)))
    (λ (s : ℕ × ShapeSlots). shape_line (s.0, shape_seen s.1)) (λ x xs. refl) c.args.shapes.now
    c.loop-radius.radius-index c.loop-radius-item.result c.loop-radius-test.true c.loop-radius-item.is
    c.loop-radius.invariant c.put_shape_line.ensures

pub returns : goal.returns
returns g c =
    ends (λ (xs : List (ℕ × ShapeSlots)). concat (map shape_line (shapes_seen xs))) refl c.args.shapes.now
    c.loop-radius.radius-index c.loop-radius-test.false c.loop-radius.invariant
