use Rattle.mesh_rows.proofs.Clouds.{passed_on}
use Rattle.mesh_rows.proofs.mesh.mesh_of.Goals as goal

pub returns-in_err-cloud-clause-refused : goal.returns-in_err-cloud-clause-refused
returns-in_err-cloud-clause-refused c =
    passed_on c.args.given.now _ c.from_residual.result c.from_residual.ensures.1 c.in_err-cloud.ensures.refused

pub rows_of-requires : goal.rows_of-requires
rows_of-requires c = rw (c.deref.ensures.value, c.deref-2.ensures.value) c.in_ok-cloud.ensures.cloud

pub returns-in_err-made-clause-refused : goal.returns-in_err-made-clause-refused
returns-in_err-made-clause-refused c =
    passed_on c.args.given.now _ c.from_residual-in_err-made.result c.from_residual-in_err-made.ensures.1 tt

pub returns-clause-mesh : goal.returns-clause-mesh
returns-clause-mesh c = record {
  set = c.in_ok-cloud.cloud.points.items;
  of_given = c.in_ok-cloud.ensures.set;
  solid = c.in_ok-cloud.ensures.cloud.solid;
  rows = rw c.deref.ensures.value at c.in_ok-made.ensures.rows;
}
