use Rattle.std.proofs.Common.{◌≤◌, length, arith}
use Rattle.solid_parts.proofs.Linking.{one_more, ones_done}
use Rattle.solid_parts.proofs.links.put_links_around.Goals as goal

pub loop-one-preserved : goal.loop-one-preserved
loop-one-preserved c =
    one_more c.args.leasts.now c.args.around.now c.loop-one.one-index c.args.links.now.items c.loop-one.links.items _
    c.loop-one-test.true
    c.loop-one.invariant c.in_ok-put_links_of.ensures.keeps c.in_ok-put_links_of.ensures.has
    c.in_ok-put_links_of.ensures.below

pub returns-clause-has : goal.returns-clause-has
returns-clause-has c =
    let past : length c.args.around.now ≤ c.loop-one.one-index = omega (arith, c.loop-one-test.false) in
    (ones_done c.args.leasts.now c.args.around.now c.loop-one.one-index c.args.links.now.items c.loop-one.links.items
    past
    c.loop-one.invariant).has
