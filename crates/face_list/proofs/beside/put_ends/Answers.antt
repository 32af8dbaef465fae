use Rattle.std.proofs.Common.{◌∙◌, ap, sym, map, ◌+◌, ◌++◌, append-nil}
use Rattle.std.proofs.lemmas.List.{take_all}
use Rattle.face_list.proofs.Stretches.{ends_more}
use Rattle.face_list.proofs.beside.put_ends.Goals as goal

pub loop-end-init : goal.loop-end-init
loop-end-init c = sym (append-nil c.args.ends.now.items)

pub loop-end-preserved : goal.loop-end-preserved
loop-end-preserved c = ends_more c.args.before c.args.ends.now.items c.loop-end.ends.items _ c.args.more.now
    c.loop-end.end-index c.in_ok-place.place c.loop-end-test.true c.in_ok-place.ensures c.loop-end.invariant
    c.in_ok-put_end.ensures

pub returns : goal.returns
returns c = c.loop-end.invariant ∙ ap (λ v. c.args.ends.now.items ++ map (λ end. c.args.before + end) v)
    (take_all c.loop-end.end-index c.args.more.now c.loop-end-test.false)
