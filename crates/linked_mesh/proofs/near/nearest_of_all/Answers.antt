use Rattle.std.proofs.Common.{inr}
use Rattle.list_laws.proofs.Cited.{none_there}
use Rattle.linked_mesh.proofs.Neighbours.{among_two, first_in, none_solid}
use Rattle.linked_mesh.proofs.near.nearest_of_all.Goals as goal

pub unreachable-requires : goal.unreachable-requires
unreachable-requires c =
    none_solid c.args.points.now.keys c.requires
    (λ h. none_there c.first.result c.in-None.is (c.first.ensures.variant.1 h))

pub returns : goal.returns
returns c = record {
  among = among_two c.args.points.now.keys c.in-Some.p.now c.first_of_all.result
      (first_in c.args.points.now.keys c.in-Some.p.now c.in-Some.ensures.first) c.first_of_all.ensures.among;
  first = λ y i. c.first_of_all.ensures.first y (inr i);
}
