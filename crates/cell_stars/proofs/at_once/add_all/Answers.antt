use Rattle.list_laws.proofs.Cited.{at_place}
use Rattle.cell_stars.specs.AtOnce.{StandsAtHere}
use Rattle.cell_stars.proofs.AtOnce.{all_all, all_more, all_none, gains_none}
use Rattle.cell_stars.proofs.at_once.add_all.Goals as goal

pub loop-i-init : goal.loop-i-init
loop-i-init c =
    gains_none c.args.keys.now (StandsAtHere c.args.grid c.args.number c.args.cells.now 0) c.args.stars.now
    c.requires.keyed
    (all_none c.args.grid c.args.number c.args.cells.now)

pub add_places-requires-clause-keys : goal.add_places-requires-clause-keys
add_places-requires-clause-keys c =
    c.requires.keys c.index-cells-i.result
    (at_place c.args.cells.now c.loop-i.i c.index-cells-i.result c.index-cells-i.result c.loop-i-test.true
    c.index-cells-i.is)

pub loop-i-preserved : goal.loop-i-preserved
loop-i-preserved c =
    all_more c.args.grid c.args.number c.args.keys.now c.args.cells.now c.loop-i.i c.index-cells-i.result
    c.index-cells-i.result c.args.stars.now c.loop-i.stars c.add_places.new.stars c.loop-i-test.true c.index-cells-i.is
    c.loop-i.invariant c.in_ok-add_places.ensures

pub returns : goal.returns
returns c =
    all_all c.args.grid c.args.number c.args.keys.now c.args.cells.now c.loop-i.i c.args.stars.now c.loop-i.stars
    c.loop-i-test.false c.loop-i.invariant
