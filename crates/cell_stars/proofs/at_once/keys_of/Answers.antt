use Rattle.cell_stars.proofs.AtOnce.{number_all, number_more, number_none}
use Rattle.cell_stars.proofs.at_once.keys_of.Goals as goal

pub loop-number-init : goal.loop-number-init
loop-number-init c = number_none c.args.vertices.now c.in_ok-keys.keys.items c.in_ok-keys.ensures.items

pub loop-number-preserved : goal.loop-number-preserved
loop-number-preserved c =
    number_more c.args.vertices.now c.loop-number.number c.index-vertices-number.result c.loop-number.keys.items
    c.push.new.self.items c.loop-number-test.true c.index-vertices-number.is c.in_ok-push.ensures.items
    c.loop-number.invariant

pub returns : goal.returns
returns c =
    number_all c.args.vertices.now c.loop-number.number c.loop-number.keys.items c.loop-number-test.false
    c.loop-number.invariant
