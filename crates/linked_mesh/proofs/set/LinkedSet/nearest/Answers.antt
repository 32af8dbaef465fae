use Rattle.std.proofs.Common.{subst, List, ℕ}
use Rattle.nearest_points.specs.Points.{IsNearest}
use Rattle.linked_mesh.proofs.set.LinkedSet.nearest.Goals as goal

pub nearest-requires : goal.nearest-requires
nearest-requires c = (c.self.inside.points.keys, c.self.invariant)

pub returns-in-Some : goal.returns-in-Some
returns-in-Some c =
    let n = c.in-Some.ensures in
    subst (λ (l : List ℕ). IsNearest l c.args.q c.in-Some.near) c.self.view_is (record {
      among = n.among c.self.inside.points.keys c.self.invariant;
      first = n.first c.self.inside.points.keys c.self.invariant;
    })

pub nearest_of_all-requires : goal.nearest_of_all-requires
nearest_of_all-requires c = c.self.invariant.solid.solid

pub returns-in-None : goal.returns-in-None
returns-in-None c =
    subst (λ (l : List ℕ). IsNearest l c.args.q c.nearest_of_all.result) c.self.view_is c.nearest_of_all.ensures
