use Rattle.std.proofs.Common.{inl, inr}
use Rattle.mesh_handle.proofs.Places.{outside_two}
use Rattle.mesh_handle.proofs.edits.shift.Goals as goal

pub returns-clause-first : goal.returns-clause-first
returns-clause-first c h = elim (outside_two c.args.from.now c.args.to.now h) [
  | inl o ↦ absurd (c.in_ok-a.ensures.inside o)
  | inr o ↦ absurd (c.in_ok-b.ensures.inside o)
]
