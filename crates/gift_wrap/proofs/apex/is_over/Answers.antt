use Rattle.std.proofs.Common.{rules, ◌∙◌}
use Rattle.sphere_ties.proofs.Cited.{turned_second}
use Rattle.gift_wrap.proofs.apex.is_over.Goals as goal

pub returns : goal.returns
returns c =
    let same = c.orient.ensures.value ∙ turned_second c.args.a c.args.b c.args.c c.args.p in
    search rules
