use Rattle.std.proofs.Common.{sym, Ok, Err}
use Rattle.std.specs.Prelude.{[], ◌∷◌}
use Rattle.text_readings.specs.declared.fault.Why.TheVariants.{Range}
use Rattle.mesh_reader.proofs.Corners.{corners_none, corners_some}
use Rattle.mesh_reader.proofs.line.quad_of.Goals as goal

pub returns-in_default : goal.returns-in_default
returns-in_default c = sym (corners_none 4 c.args.points.now c.args.line.now c.in_default.ensures)

pub returns-in-Some-quad_at : goal.returns-in-Some-quad_at
returns-in-Some-quad_at c =
    sym (corners_some 4 c.args.points.now c.args.line.now (c.in-Some.i ∷ c.in-Some.j ∷ c.in-Some.k ∷ c.in-Some.l ∷ [])
    (Ok c.in-Some-quad_at.quad) c.in-Some.ensures c.in-Some-quad_at.ensures)

pub returns-in-None : goal.returns-in-None
returns-in-None c =
    sym (corners_some 4 c.args.points.now c.args.line.now (c.in-Some.i ∷ c.in-Some.j ∷ c.in-Some.k ∷ c.in-Some.l ∷ [])
    (Err Range) c.in-Some.ensures c.in-None.ensures)
