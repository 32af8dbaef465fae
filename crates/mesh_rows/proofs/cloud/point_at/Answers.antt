use Rattle.std.proofs.Common.{◌≡◌, refl, rules, to_z, of_z, w64}
use Rattle.mesh_rows.proofs.Clouds.{outside_of}
use Rattle.mesh_rows.proofs.cloud.point_at.Goals as goal

pub returns-in-Err-clause-refused : goal.returns-in-Err-clause-refused
returns-in-Err-clause-refused c =
    let p = c.args.place.now in
    let x : to_z w64 (of_z w64 p.x) ≡ p.x = search rules in
    let y : to_z w64 (of_z w64 p.y) ≡ p.y = search rules in
    let z : to_z w64 (of_z w64 p.z) ≡ p.z = search rules in
    (refl, outside_of p _ _ _ _ x y z c.in-Err.ensures.refused)
