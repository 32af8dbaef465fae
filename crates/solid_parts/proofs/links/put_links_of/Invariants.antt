-- the links to the others before the place were put
use Rattle.std.proofs.Common.{[], ◌∷◌, take}
use Rattle.solid_parts.proofs.Linking.{LinkedSoFar}
use Rattle.solid_parts.proofs.links.put_links_of.Given as goal

abbrev pub invariant-loop-other : goal.invariant-loop-other
invariant-loop-other l = LinkedSoFar l.leasts (l.one ∷ []) (take l.other-index l.others) l.fn.links.items l.links.items
