use Rattle.mesh_rows.proofs.Clouds.{passed_on}
use Rattle.mesh_rows.proofs.filtered.filtered_of.Goals as goal

pub returns-in_err-cloud-clause-refused : goal.returns-in_err-cloud-clause-refused
returns-in_err-cloud-clause-refused c =
    passed_on c.args.given.now _ c.from_residual.result c.from_residual.ensures.1 c.in_err-cloud.ensures.refused

pub rows_of-requires : goal.rows_of-requires
rows_of-requires c = rw (c.deref-4.ensures.value, c.deref-5.ensures.value) c.in_ok-cloud.ensures.cloud

pub returns-in_err-mesh-clause-refused : goal.returns-in_err-mesh-clause-refused
returns-in_err-mesh-clause-refused c =
    passed_on c.args.given.now _ c.from_residual-in_err-mesh.result c.from_residual-in_err-mesh.ensures.1 tt

pub held_of-requires : goal.held_of-requires
held_of-requires c = rw (c.deref.ensures.value, c.deref-2.ensures.value) c.in_ok-cloud.ensures.cloud

pub returns-in_err-held-clause-refused : goal.returns-in_err-held-clause-refused
returns-in_err-held-clause-refused c =
    passed_on c.args.given.now _ c.from_residual-in_err-held.result c.from_residual-in_err-held.ensures.1 tt

pub face_rows-requires-clause-few : goal.face_rows-requires-clause-few
face_rows-requires-clause-few c = rw c.deref-3.ensures.value c.in_ok-cloud.ensures.cloud.few_points

pub face_rows-requires-clause-set : goal.face_rows-requires-clause-set
face_rows-requires-clause-set c = rw c.deref-3.ensures.value c.in_ok-cloud.ensures.cloud.set

pub face_rows-requires-clause-held : goal.face_rows-requires-clause-held
face_rows-requires-clause-held c = rw c.deref-3.ensures.value (rw c.deref.ensures.value at c.in_ok-held.ensures)

pub returns-in_err-faces-clause-refused : goal.returns-in_err-faces-clause-refused
returns-in_err-faces-clause-refused c =
    passed_on c.args.given.now _ c.from_residual-in_err-faces.result c.from_residual-in_err-faces.ensures.1 tt

pub returns-clause-mesh : goal.returns-clause-mesh
returns-clause-mesh c = record {
  set = c.in_ok-cloud.cloud.points.items;
  of_given = c.in_ok-cloud.ensures.set;
  solid = c.in_ok-cloud.ensures.cloud.solid;
  rows = rw c.deref-4.ensures.value at c.in_ok-mesh.ensures.rows;
}

pub returns-clause-faces : goal.returns-clause-faces
returns-clause-faces c = record {
  set = c.in_ok-cloud.cloud.points.items;
  of_given = c.in_ok-cloud.ensures.set;
  solid = c.in_ok-cloud.ensures.cloud.solid;
  rows = rw c.deref-3.ensures.value at c.in_ok-faces.ensures.rows;
}
