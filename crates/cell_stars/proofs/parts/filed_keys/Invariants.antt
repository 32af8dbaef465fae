use Rattle.cell_stars.proofs.PartLaws.{FiledSoFar}
use Rattle.cell_stars.proofs.parts.filed_keys.Given as goal

abbrev pub invariant-loop-p : goal.invariant-loop-p
invariant-loop-p l = FiledSoFar l.keys l.count l.p-index l.parts.items
