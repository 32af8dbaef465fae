use Rattle.std.proofs.Common.{◌∙◌, ap, sym, map, ◌++◌, append-nil}
use Rattle.std.proofs.lemmas.List.{take_all}
use Rattle.face_list.proofs.Failing.{not_ok}
use Rattle.face_list.proofs.FaceLists.{put_more}
use Rattle.face_list.proofs.parts.put.Goals as goal

pub loop-part-init : goal.loop-part-init
loop-part-init g c = sym (append-nil c.args.items.now.items)

pub returns-in_err-push : goal.returns-in_err-push
returns-in_err-push g c = not_ok _ c.from_residual.result c.from_residual.ensures.0

pub loop-part-preserved : goal.loop-part-preserved
loop-part-preserved g c =
    put_more c.args.number c.args.items.now.items _ _ c.args.parts.now c.loop-part.part-index c.part-item.result
    c.loop-part-test.true c.part-item.is c.loop-part.invariant c.in_ok-push.ensures.items

pub returns : goal.returns
returns g c = c.loop-part.invariant ∙ ap (λ v. c.args.items.now.items ++ map (λ p. (p, c.args.number)) v)
    (take_all c.loop-part.part-index c.args.parts.now c.loop-part-test.false)
