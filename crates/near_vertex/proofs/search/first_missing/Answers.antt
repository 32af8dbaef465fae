use Rattle.std.proofs.Common.{sym, subst, ap, ◌∙◌, arith, ◌*◌, ◌<◌}
use Rattle.bucket_grid.specs.Grids.{bucket_of}
use Rattle.near_vertex.proofs.Starts.{none_missing}
use Rattle.near_vertex.proofs.search.first_missing.Goals as goal

pub unreachable-requires : goal.unreachable-requires
unreachable-requires c =
    let r = c.requires.shown in
    let l = c.loop-steps-test.false in
    none_missing c.args.hold.now r.0 c.bucket_of-first.result c.count-count.result
    (record { size = c.grid-grid.ensures.size; places = c.grid-grid.ensures.places }) r.1 c.requires.none
    (subst (λ n. n < c.count-count.result) (sym c.bucket_of-first.ensures.number)
    (subst (λ n. bucket_of c.grid-grid.result c.args.q < n) (sym c.count-count.ensures.value)
    c.bucket_of-first.ensures.below))
    (c.count-count.ensures.value ∙ ap (λ g. g * g * g) c.grid-grid.ensures.grid)
    (λ i k. c.loop-steps.invariant i (omega (arith, l, k)))
