use Rattle.std.proofs.Common.{ap, subst, sym, ◌∙◌}
use Rattle.face_list.specs.Seen.{FaceLists}
use Rattle.alpha_complex.specs.Condition.{AreFacesOf}
use Rattle.alpha_complex.specs.Shapes.{shape_of}
use Rattle.command_pages.proofs.ShapesOfSet.{seen_is, shapes_next}
use Rattle.command_pages.proofs.shapes.shapes_of_faces.Goals as goal

pub loop-radius-preserved : goal.loop-radius-preserved
loop-radius-preserved g c =
    let s = c.args.points.now in
    let k = subst (λ (v : FaceLists). AreFacesOf s v) (sym c.in_ok-known.ensures.faces) c.requires.faces in
    let e = c.in_ok-shape.ensures in
    shapes_next c.args.version s c.args.radii.now c.loop-radius.radius-index _ c.loop-radius.shapes.items
    c.push.new.self.items c.in_ok-shape.shape c.loop-radius-test.true c.in_ok-push.ensures.items
    (seen_is c.in_ok-shape.shape (shape_of s _) (e.points s k) (e.pairs s k) (e.triples s k) (e.cells s k)
    ∙ ap (shape_of s) c.alpha.ensures.alpha)
    c.loop-radius.invariant
