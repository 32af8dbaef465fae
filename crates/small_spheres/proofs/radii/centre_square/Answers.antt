use Rattle.std.proofs.Common.{◌∙◌, lit<, w64}
use Rattle.std.specs.Int.{w128}
use Rattle.whole_ring.proofs.Cited.{read, within_fits}
use Rattle.small_spheres.proofs.ScalarProducts.{centre_square_from}
use Rattle.small_spheres.proofs.radii.centre_square.Goals as goal

pub returns-clause-value : goal.returns-clause-value
returns-clause-value s =
    let n = s.centre_of.ensures in
    read (within_fits w128 s.square_of.ensures.bound (lit< tt)) ∙ s.square_of.ensures.value
    ∙ centre_square_from s.args.a s.args.b s.args.c s.args.d n.x n.y n.z
