use Rattle.std.proofs.Common.{◌∙◌, ap, None, get_or}
use Rattle.std.specs.Prelude.{option_map}
use Rattle.alpha_complex.proofs.SlotLaws.{slot_at}
use Rattle.alpha_complex.proofs.shape.face_at.Goals as goal

pub returns : goal.returns
returns g c =
    let F = g.row.F.Denot in
    let faces = c.args.faces.now in
    let kinds = c.args.kinds.now in
    let i = c.args.index in
    let face = c.index-faces-index.result in
    c.with_kind.ensures ∙ ap (λ (v : F). option_map (λ kind. (v, kind)) (get_or kinds i None)) c.index-faces-index.is
    ∙ slot_at faces kinds i face None c.requires.faces c.requires.kinds
