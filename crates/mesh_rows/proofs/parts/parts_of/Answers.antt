use Rattle.mesh_rows.proofs.Clouds.{passed_on}
use Rattle.mesh_rows.proofs.parts.parts_of.Goals as goal

pub returns-in_err-cloud-clause-refused : goal.returns-in_err-cloud-clause-refused
returns-in_err-cloud-clause-refused c =
    passed_on c.args.given.now _ c.from_residual.result c.from_residual.ensures.1 c.in_err-cloud.ensures.refused

pub part_rows-requires-clause-cloud : goal.part_rows-requires-clause-cloud
part_rows-requires-clause-cloud c = rw (c.deref.ensures.value, c.deref-2.ensures.value) c.in_ok-cloud.ensures.cloud

pub returns-in_err-made-clause-refused : goal.returns-in_err-made-clause-refused
returns-in_err-made-clause-refused c =
    passed_on c.args.given.now _ c.from_residual-in_err-made.result c.from_residual-in_err-made.ensures.1 tt

pub returns-clause-parts : goal.returns-clause-parts
returns-clause-parts c = record {
  set = c.in_ok-cloud.cloud.points.items;
  of_given = c.in_ok-cloud.ensures.set;
  solid = c.in_ok-cloud.ensures.cloud.solid;
  rows = rw c.deref.ensures.value at c.in_ok-made.ensures;
}
