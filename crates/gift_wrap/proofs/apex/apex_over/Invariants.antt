use Rattle.std.proofs.Common.{take}
use Rattle.std.specs.Prelude.{IfSome}
use Rattle.gift_wrap.specs.Balls.{IsBallOf, last_of_ball}
use Rattle.gift_wrap.specs.Wraps.{LeadsAbove}
use Rattle.gift_wrap.proofs.apex.apex_over.Given as goal

-- of the points so far one leads, if one is above, and what is kept of its sphere is right
abbrev pub invariant-loop-p : goal.invariant-loop-p
invariant-loop-p l =
    LeadsAbove l.points (take l.p-index l.points) l.a l.b l.c (last_of_ball l.best)
    × IfSome l.best (IsBallOf l.a l.b l.c)
