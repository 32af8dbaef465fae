use Rattle.mesh_rows.proofs.Clouds.{passed_on}
use Rattle.mesh_rows.proofs.levels.levels_of.Goals as goal

pub returns-in_err-cloud-clause-refused : goal.returns-in_err-cloud-clause-refused
returns-in_err-cloud-clause-refused c =
    passed_on c.args.given.now _ c.from_residual.result c.from_residual.ensures.1 c.in_err-cloud.ensures.refused

pub held_of-requires : goal.held_of-requires
held_of-requires c = rw (c.deref.ensures.value, c.deref-2.ensures.value) c.in_ok-cloud.ensures.cloud

pub returns-in_err-held-clause-refused : goal.returns-in_err-held-clause-refused
returns-in_err-held-clause-refused c =
    passed_on c.args.given.now _ c.from_residual-in_err-held.result c.from_residual-in_err-held.ensures.1 tt

pub face_rows-requires-clause-few : goal.face_rows-requires-clause-few
face_rows-requires-clause-few c =
    rw (c.deref-3.ensures.value, c.points_of.ensures) c.in_ok-cloud.ensures.cloud.few_points

pub face_rows-requires-clause-set : goal.face_rows-requires-clause-set
face_rows-requires-clause-set c = rw (c.deref-3.ensures.value, c.points_of.ensures) c.in_ok-cloud.ensures.cloud.set

pub face_rows-requires-clause-held : goal.face_rows-requires-clause-held
face_rows-requires-clause-held c =
    rw (c.deref-3.ensures.value, c.points_of.ensures) (rw c.deref.ensures.value at c.in_ok-held.ensures)

pub returns-in_err-levels-clause-refused : goal.returns-in_err-levels-clause-refused
returns-in_err-levels-clause-refused c =
    passed_on c.args.given.now _ c.from_residual-in_err-levels.result c.from_residual-in_err-levels.ensures.1 tt

pub returns-clause-levels : goal.returns-clause-levels
returns-clause-levels c = record {
  set = c.in_ok-cloud.cloud.points.items;
  of_given = c.in_ok-cloud.ensures.set;
  solid = c.in_ok-cloud.ensures.cloud.solid;
  rows = rw (c.deref-3.ensures.value, c.points_of.ensures) at c.in_ok-levels.ensures.rows;
}
