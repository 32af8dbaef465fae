use Rattle.std.proofs.Common.{◌≡◌, ◌∙◌, lit<, w64, to_z, of_z}
use Rattle.whole_ring.proofs.Cited.{read, within_fits}
use Rattle.point_order.specs.Orientation.{distance}
use Rattle.point_order.proofs.Cited.{distance_from, normal_x_from, normal_y_from, normal_z_from}
use Rattle.small_spheres.proofs.ScalarProducts.{centre_x_from, centre_y_from, centre_z_from, read_minor}
use Rattle.small_spheres.proofs.radii.centre_of.Goals as goal

pub returns-clause-x : goal.returns-clause-x
returns-clause-x s =
    let a = s.args.a in
    let b = s.args.b in
    let c = s.args.c in
    let d = s.args.d in
    let u = s.between-u.ensures in
    let v = s.between-v.ensures in
    let w = s.between-w.ensures in
    let p : to_z w64 (of_z w64 s.square-p.result) ≡ distance a b =
    read (within_fits w64 s.square-p.ensures.bound (lit< tt)) ∙ s.square-p.ensures.value
    ∙ distance_from a b u.x u.y u.z in
    let q : to_z w64 (of_z w64 s.square-q.result) ≡ distance a c =
    read (within_fits w64 s.square-q.ensures.bound (lit< tt)) ∙ s.square-q.ensures.value
    ∙ distance_from a c v.x v.y v.z in
    let r : to_z w64 (of_z w64 s.square-r.result) ≡ distance a d =
    read (within_fits w64 s.square-r.ensures.bound (lit< tt)) ∙ s.square-r.ensures.value
    ∙ distance_from a d w.x w.y w.z in
    read (within_fits w64 s.sum_of_products.ensures.bound (lit< tt)) ∙ s.sum_of_products.ensures.value
    ∙ centre_x_from a b c d p q r
    (read_minor s.cross-k.result.x_within ∙ s.cross-k.ensures.x ∙ normal_x_from a c d v.y v.z w.y w.z)
    (read_minor s.cross-l.result.x_within ∙ s.cross-l.ensures.x ∙ normal_x_from a d b w.y w.z u.y u.z)
    (read_minor s.cross-m.result.x_within ∙ s.cross-m.ensures.x ∙ normal_x_from a b c u.y u.z v.y v.z)

pub returns-clause-y : goal.returns-clause-y
returns-clause-y s =
    let a = s.args.a in
    let b = s.args.b in
    let c = s.args.c in
    let d = s.args.d in
    let u = s.between-u.ensures in
    let v = s.between-v.ensures in
    let w = s.between-w.ensures in
    let p : to_z w64 (of_z w64 s.square-p.result) ≡ distance a b =
    read (within_fits w64 s.square-p.ensures.bound (lit< tt)) ∙ s.square-p.ensures.value
    ∙ distance_from a b u.x u.y u.z in
    let q : to_z w64 (of_z w64 s.square-q.result) ≡ distance a c =
    read (within_fits w64 s.square-q.ensures.bound (lit< tt)) ∙ s.square-q.ensures.value
    ∙ distance_from a c v.x v.y v.z in
    let r : to_z w64 (of_z w64 s.square-r.result) ≡ distance a d =
    read (within_fits w64 s.square-r.ensures.bound (lit< tt)) ∙ s.square-r.ensures.value
    ∙ distance_from a d w.x w.y w.z in
    read (within_fits w64 s.sum_of_products-2.ensures.bound (lit< tt)) ∙ s.sum_of_products-2.ensures.value
    ∙ centre_y_from a b c d p q r
    (read_minor s.cross-k.result.y_within ∙ s.cross-k.ensures.y ∙ normal_y_from a c d v.z v.x w.z w.x)
    (read_minor s.cross-l.result.y_within ∙ s.cross-l.ensures.y ∙ normal_y_from a d b w.z w.x u.z u.x)
    (read_minor s.cross-m.result.y_within ∙ s.cross-m.ensures.y ∙ normal_y_from a b c u.z u.x v.z v.x)

pub returns-clause-z : goal.returns-clause-z
returns-clause-z s =
    let a = s.args.a in
    let b = s.args.b in
    let c = s.args.c in
    let d = s.args.d in
    let u = s.between-u.ensures in
    let v = s.between-v.ensures in
    let w = s.between-w.ensures in
    let p : to_z w64 (of_z w64 s.square-p.result) ≡ distance a b =
    read (within_fits w64 s.square-p.ensures.bound (lit< tt)) ∙ s.square-p.ensures.value
    ∙ distance_from a b u.x u.y u.z in
    let q : to_z w64 (of_z w64 s.square-q.result) ≡ distance a c =
    read (within_fits w64 s.square-q.ensures.bound (lit< tt)) ∙ s.square-q.ensures.value
    ∙ distance_from a c v.x v.y v.z in
    let r : to_z w64 (of_z w64 s.square-r.result) ≡ distance a d =
    read (within_fits w64 s.square-r.ensures.bound (lit< tt)) ∙ s.square-r.ensures.value
    ∙ distance_from a d w.x w.y w.z in
    read (within_fits w64 s.sum_of_products-3.ensures.bound (lit< tt)) ∙ s.sum_of_products-3.ensures.value
    ∙ centre_z_from a b c d p q r
    (read_minor s.cross-k.result.z_within ∙ s.cross-k.ensures.z ∙ normal_z_from a c d v.x v.y w.x w.y)
    (read_minor s.cross-l.result.z_within ∙ s.cross-l.ensures.z ∙ normal_z_from a d b w.x w.y u.x u.y)
    (read_minor s.cross-m.result.z_within ∙ s.cross-m.ensures.z ∙ normal_z_from a b c u.x u.y v.x v.y)
