use Rattle.std.proofs.Common.{◌∙◌}
use Rattle.insertion.proofs.Arrivals.{dug}
use Rattle.insertion.proofs.arrival.dig_on.Goals as goal

pub returns-in_ok-change-in-Done : goal.returns-in_ok-change-in-Done
returns-in_ok-change-in-Done c s sh k =
    let a = c.in_ok-advance.ensures in
    let f = c.in_ok-change-in-Done in
    dug c.args.hold.now s c.args.p c.advance.new.self c.in_ok-advance.field-0 f.change (a.point ∙ k.0) c.in-Done.is
    (a.turn s sh k.1) f.ensures.gone (f.ensures.filled s)
