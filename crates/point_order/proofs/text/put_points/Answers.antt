use Rattle.std.proofs.Common.{true, refl, sym, ◌++◌, codes, append-nil}
use Rattle.std.proofs.Output.{has_written_append, has_written_of_eq}
use Rattle.point_order.specs.Texts.{point_text}
use Rattle.point_order.proofs.ManyPoints.{all_points, one_more}
use Rattle.point_order.proofs.text.put_points.Goals as goal

pub loop-p-init : goal.loop-p-init
loop-p-init g c plain =
    has_written_of_eq _ _ _ _ _ (sym (append-nil (codes "[" ++ point_text c.args.first)))
    (c.in_ok-write.ensures.writes plain (refl {a = true}))

pub loop-p-preserved : goal.loop-p-preserved
loop-p-preserved g c plain =
    let before = c.loop-p.invariant plain in
    has_written_of_eq _ _ _ _ _
    (one_more (codes "[" ++ point_text c.args.first) c.args.others.now c.loop-p.p-index c.p-item.result
    c.loop-p-test.true c.p-item.is)
    (has_written_append _ _ _ _ _ _ before (c.in_ok-write-2.ensures.writes before.plain (refl {a = true})))

pub returns : goal.returns
returns g c plain ok =
    let before = c.loop-p.invariant plain in
    has_written_of_eq _ _ _ _ _
    (all_points (codes "[") c.args.end.now c.args.first c.args.others.now c.loop-p.p-index c.loop-p-test.false)
    (has_written_append _ _ _ _ _ _ before (c.write_str.ensures.writes before.plain ok))
