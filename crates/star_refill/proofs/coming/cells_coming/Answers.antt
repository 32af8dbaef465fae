use Rattle.gift_wrap.proofs.Cited.{hole_wraps}
use Rattle.star_refill.proofs.coming.cells_coming.Goals as goal

pub cells_taken-requires-clause-ascending : goal.cells_taken-requires-clause-ascending
cells_taken-requires-clause-ascending c = c.requires.link.solid.set.ascending

pub cells_taken-requires-clause-solid : goal.cells_taken-requires-clause-solid
cells_taken-requires-clause-solid c = c.requires.link.solid.solid

pub cells_taken-requires-clause-absent : goal.cells_taken-requires-clause-absent
cells_taken-requires-clause-absent c = (hole_wraps c.args.points.now c.args.v c.args.star.now c.requires).new.absent

pub returns-in_ok-cells_taken-in-None : goal.returns-in_ok-cells_taken-in-None
returns-in_ok-cells_taken-in-None c = record {
  goes = c.in_ok-cells_taken-in-None.ensures.taken;
  once = c.in_ok-cells_taken-in-None.ensures.once;
}
