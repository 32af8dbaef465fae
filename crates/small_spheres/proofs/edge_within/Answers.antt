use Rattle.std.proofs.Common.{◌∙◌, ap, subst, sym, pos, ◌*ℤ◌, ◌≤ℤ◌, lit<, w64}
use Rattle.whole_ring.proofs.Cited.{read, within_fits, within_read}
use Rattle.point_order.proofs.Cited.{distance_from}
use Rattle.small_spheres.proofs.Leasts.{same_whole, step_square}
use Rattle.small_spheres.proofs.edge_within.Goals as goal

pub four_times_square-requires-clause-bound : goal.four_times_square-requires-clause-bound
four_times_square-requires-clause-bound s = within_read w64 s.square.ensures.bound (lit< tt)

pub four_times_square-requires-clause-sign : goal.four_times_square-requires-clause-sign
four_times_square-requires-clause-sign s =
    let v = s.between.result in
    subst (λ x. pos 0 ≤ℤ x) (sym (read (within_fits w64 s.square.ensures.bound (lit< tt)) ∙ s.square.ensures.value))
    (step_square v.x v.y v.z)

pub returns : goal.returns
returns s =
    let a = s.args.a in
    let b = s.args.b in
    let v = s.between.ensures in
    let square = read (within_fits w64 s.square.ensures.bound (lit< tt)) ∙ s.square.ensures.value
    ∙ distance_from a b v.x v.y v.z in
    sym (same_whole s.four_times_square.result s.args.alpha (s.four_times_square.ensures ∙ ap (λ x. pos 4 *ℤ x) square))
