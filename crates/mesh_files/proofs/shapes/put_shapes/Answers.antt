use Rattle.std.proofs.Common.{List, ℕ, refl}
use Rattle.alpha_complex.specs.Slots.{ShapeSlots, shape_seen}
use Rattle.alpha_complex.specs.Shapes.{ShapeParts}
use Rattle.alpha_complex.proofs.Cited.{mapped_at}
use Rattle.mesh_files.specs.Report.{shapes_seen}
use Rattle.mesh_files.specs.Text.{shape_text, shape_blocks}
use Rattle.text_sheets.proofs.Cited.{ends, goes_on, leaves_all}
use Rattle.mesh_files.proofs.shapes.put_shapes.Goals as goal

pub put_shape-requires-clause-points : goal.put_shape-requires-clause-points
put_shape-requires-clause-points g c =
    let seen : ℕ × ShapeSlots → ℕ × ShapeParts = λ s. (s.0, shape_seen s.1) in
    c.requires.counted.ascending (seen c.loop-radius-item.result)
    (mapped_at seen c.args.shapes.now c.loop-radius.radius-index c.loop-radius-item.result c.loop-radius-test.true
    c.loop-radius-item.is)

pub loop-radius-init : goal.loop-radius-init
loop-radius-init g c = leaves_all

pub loop-radius-preserved : goal.loop-radius-preserved
loop-radius-preserved g c =
    goes_on (λ (xs : List (ℕ × ShapeSlots)). shape_blocks (shapes_seen xs))
    (λ (s : ℕ × ShapeSlots). shape_text s.0 (shape_seen s.1)) (λ x xs. refl) c.args.shapes.now
    c.loop-radius.radius-index c.loop-radius-item.result c.loop-radius-test.true c.loop-radius-item.is
    c.loop-radius.invariant c.put_shape.ensures

pub returns : goal.returns
returns g c =
    ends (λ (xs : List (ℕ × ShapeSlots)). shape_blocks (shapes_seen xs)) refl c.args.shapes.now
    c.loop-radius.radius-index c.loop-radius-test.false c.loop-radius.invariant
