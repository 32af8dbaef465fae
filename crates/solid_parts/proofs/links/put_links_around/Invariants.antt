-- the links of the cells before the place were put
use Rattle.std.proofs.Common.{take}
use Rattle.solid_parts.proofs.Linking.{LinkedSoFar}
use Rattle.solid_parts.proofs.links.put_links_around.Given as goal

abbrev pub invariant-loop-one : goal.invariant-loop-one
invariant-loop-one l = LinkedSoFar l.leasts (take l.one-index l.around) l.around l.fn.links.items l.links.items
