use Rattle.std.proofs.Common.{◌∙◌, ap, sym, map}
use Rattle.alpha_complex.specs.Slots.{ShapeSlots}
use Rattle.alpha_complex.proofs.SlotLaws.{point_count, zip_firsts}
use Rattle.alpha_complex.proofs.shape.Shape.points.Goals as goal

pub returns : goal.returns
returns c =
    let s = c.self.inside in
    c.points.ensures ∙ sym (zip_firsts (map (λ f. f.0) s.faces.now.points) s.points.items
    (point_count s c.self.invariant)) ∙ ap (λ (v : ShapeSlots). map (λ p. p.0) v.points) c.self.view_is
