use Rattle.std.proofs.Common.{take}
use Rattle.mesh_rows.specs.Meshes.{HasOutside}
use Rattle.mesh_rows.proofs.cloud.has_outside.Given as goal

-- no place at a front of the places lies outside
abbrev pub invariant-loop-place : goal.invariant-loop-place
invariant-loop-place l = HasOutside (take l.place-index l.given) → ⊥
