use Rattle.std.proofs.Common.{◌++◌, codes, take}
use Rattle.std.specs.Fmt.{HasWritten, IsPlainFormatter}
use Rattle.point_order.specs.Texts.{point_text}
use Rattle.point_order.proofs.ManyPoints.{others_text}
use Rattle.point_order.proofs.text.put_points.Given as goal

abbrev pub invariant-loop-p : goal.invariant-loop-p
invariant-loop-p g l =
    IsPlainFormatter l.fn.f → HasWritten g.W.Write.write_str_gives l.fn.f
    ((codes "[" ++ point_text l.fn.first) ++ others_text (take l.p-index l.others)) l.f
