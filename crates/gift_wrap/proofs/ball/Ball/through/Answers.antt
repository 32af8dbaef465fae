use Rattle.std.proofs.Common.{◌∙◌, sym, lit<, w64}
use Rattle.whole_ring.proofs.Cited.{read, same_difference, same_product, same_sum, within_fits, within_read}
use Rattle.point_order.specs.Orientation.{x_from, y_from, z_from, distance}
use Rattle.point_order.proofs.Cited.{distance_from, normal_x_from, normal_y_from, normal_z_from, orientation_from}
use Rattle.gift_wrap.proofs.Balls.{by_kept, same_kept}
use Rattle.gift_wrap.proofs.ball.Ball.through.Goals as goal

pub returns-clause-ball : goal.returns-clause-ball
returns-clause-ball s =
    let a = s.args.a in
    let b = s.args.b in
    let c = s.args.c in
    let d = s.args.d in
    let u = s.between-u.ensures in
    let v = s.between-v.ensures in
    let w = s.between-w.ensures in
    let ad = read (within_fits w64 s.square-k.ensures.bound (lit< tt)) ∙ s.square-k.ensures.value
    ∙ distance_from a d w.x w.y w.z in
    let ac = read (within_fits w64 s.square-l.ensures.bound (lit< tt)) ∙ s.square-l.ensures.value
    ∙ distance_from a c v.x v.y v.z in
    let ab = read (within_fits w64 s.square-m.ensures.bound (lit< tt)) ∙ s.square-m.ensures.value
    ∙ distance_from a b u.x u.y u.z in
    let height = read (within_fits w64 s.triple.ensures.bound (lit< tt)) ∙ s.triple.ensures.value
    ∙ orientation_from a b c d u.x u.y u.z v.x v.y v.z w.x w.y w.z in
    let x = read (within_fits w64 s.mixed.ensures.bound (lit< tt)) ∙ s.mixed.ensures.value ∙ same_sum (same_difference
    (same_product (read (within_fits w64 s.cross-uv.result.x_within (lit< tt)) ∙ s.cross-uv.ensures.x
    ∙ normal_x_from a b c u.y u.z v.y v.z) ad)
    (same_product (read (within_fits w64 s.cross-uw.result.x_within (lit< tt)) ∙ s.cross-uw.ensures.x
    ∙ normal_x_from a b d u.y u.z w.y w.z) ac))
    (same_product (read (within_fits w64 s.cross-vw.result.x_within (lit< tt)) ∙ s.cross-vw.ensures.x
    ∙ normal_x_from a c d v.y v.z w.y w.z) ab) in
    let y = read (within_fits w64 s.mixed-2.ensures.bound (lit< tt)) ∙ s.mixed-2.ensures.value
    ∙ same_sum (same_difference
    (same_product (read (within_fits w64 s.cross-uv.result.y_within (lit< tt)) ∙ s.cross-uv.ensures.y
    ∙ normal_y_from a b c u.z u.x v.z v.x) ad)
    (same_product (read (within_fits w64 s.cross-uw.result.y_within (lit< tt)) ∙ s.cross-uw.ensures.y
    ∙ normal_y_from a b d u.z u.x w.z w.x) ac))
    (same_product (read (within_fits w64 s.cross-vw.result.y_within (lit< tt)) ∙ s.cross-vw.ensures.y
    ∙ normal_y_from a c d v.z v.x w.z w.x) ab) in
    let z = read (within_fits w64 s.mixed-3.ensures.bound (lit< tt)) ∙ s.mixed-3.ensures.value
    ∙ same_sum (same_difference
    (same_product (read (within_fits w64 s.cross-uv.result.z_within (lit< tt)) ∙ s.cross-uv.ensures.z
    ∙ normal_z_from a b c u.x u.y v.x v.y) ad)
    (same_product (read (within_fits w64 s.cross-uw.result.z_within (lit< tt)) ∙ s.cross-uw.ensures.z
    ∙ normal_z_from a b d u.x u.y w.x w.y) ac))
    (same_product (read (within_fits w64 s.cross-vw.result.z_within (lit< tt)) ∙ s.cross-vw.ensures.z
    ∙ normal_z_from a c d v.x v.y w.x w.y) ab) in
    record {
      above = s.requires;
      value = λ e. by_kept a b c d e ∙ sym
          (same_kept (distance a e) (x_from a e) (y_from a e) (z_from a e) height x y z);
      height_within = within_read w64 s.triple.ensures.bound (lit< tt);
      x_within = within_read w64 s.mixed.ensures.bound (lit< tt);
      y_within = within_read w64 s.mixed-2.ensures.bound (lit< tt);
      z_within = within_read w64 s.mixed-3.ensures.bound (lit< tt);
    }
