use Rattle.std.proofs.Common.{ap, sym, ◌∙◌, map}
use Rattle.face_list.proofs.Stretches.{keys_seen}
use Rattle.face_list.proofs.face.Faces.pairs.Goals as goal

pub returns : goal.returns
returns c = c.deref.ensures.value ∙ sym (keys_seen c.self.inside.cells.now c.self.inside.pairs c.self.invariant.1)
    ∙ ap (λ v. map (λ f. f.0) v.pairs) c.self.view_is
