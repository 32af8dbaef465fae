use Rattle.std.proofs.Common.{◌*ℤ◌, lit<, w64}
use Rattle.std.proofs.lemmas.Int.{to_z-of_z}
use Rattle.std.specs.Int.RustNames.{FitsSigned}
use Rattle.whole_ring.proofs.Cited.{within_as, within_fits, within_mul}
use Rattle.small_spheres.proofs.radii.product_of_squares.Goals as goal

pub returns-clause-value : goal.returns-clause-value
returns-clause-value c =
    let fp : FitsSigned w64 c.args.p = c.ranges.p in
    let fq : FitsSigned w64 c.args.q = c.ranges.q in
    let pq : FitsSigned w64 (c.args.p *ℤ c.args.q) = within_fits w64 (within_mul c.requires.p c.requires.q) (lit< tt) in
    simp to_z-of_z

pub returns-clause-bound : goal.returns-clause-bound
returns-clause-bound c = within_as (returns-clause-value c) (within_mul c.requires.p c.requires.q)
