use Rattle.std.proofs.Common.{ap, sym, subst, ◌∙◌, ℕ, ◌<◌, ◌≤◌, ◌*◌}
use Rattle.cell_store.specs.Buckets.{content_of}
use Rattle.one_mesh.proofs.Gathering.{points_next, points_all}
use Rattle.one_mesh.proofs.lists.all_points_of.Goals as goal

pub loop-b-preserved : goal.loop-b-preserved
loop-b-preserved c =
    points_next c.args.hold.now.places c.loop-b.b (content_of c.bucket.result.now) c.loop-b.list.items
    c.points.result.now c.extend_from_slice.new.self.items
    (subst (λ (n : ℕ). c.loop-b.b < n) (c.count-b-end.ensures.value ∙ ap (λ (v : ℕ). v * v * v) c.grid.ensures.grid
    ∙ sym c.grid.ensures.places) c.loop-b-test.true)
    c.bucket.ensures.bucket c.loop-b.invariant c.points.ensures.points c.in_ok-extend_from_slice.ensures.items

pub returns : goal.returns
returns c =
    points_all c.args.hold.now.places c.loop-b.b c.loop-b.list.items
    (subst (λ (n : ℕ). n ≤ c.loop-b.b) (c.count-b-end.ensures.value ∙ ap (λ (v : ℕ). v * v * v) c.grid.ensures.grid
    ∙ sym c.grid.ensures.places) c.loop-b-test.false) c.loop-b.invariant
