use Rattle.std.proofs.Common.{ap, sym, ◌∙◌, map}
use Rattle.face_list.proofs.Stretches.{keys_seen}
use Rattle.face_list.proofs.face.Faces.points.Goals as goal

pub returns : goal.returns
returns c = c.deref.ensures.value ∙ sym (keys_seen c.self.inside.cells.now c.self.inside.points c.self.invariant.0)
    ∙ ap (λ v. map (λ f. f.0) v.points) c.self.view_is
