use Rattle.std.proofs.Common.{◌≡◌, ◌<◌, ◌≤◌, ◌*◌, ℕ, length, sym, ◌∙◌, ap, subst}
use Rattle.cell_store.specs.Buckets.{content_of}
use Rattle.claim_rule.proofs.Gathered.{bucket_more, gathered}
use Rattle.claim_rule.proofs.trial.all_points.Goals as goal

pub loop-b-preserved : goal.loop-b-preserved
loop-b-preserved c =
    let places = c.args.hold.now.places in
    let e : c.count-b-end.result ≡ length places =
    c.count-b-end.ensures.value ∙ ap (λ (n : ℕ). n * n * n) c.grid.ensures.grid ∙ sym c.grid.ensures.places in
    bucket_more places c.loop-b.b (content_of c.bucket.result.now) c.loop-b.set c.add_all.new.set
    (subst (λ (n : ℕ). c.loop-b.b < n) e c.loop-b-test.true) c.bucket.ensures.bucket c.loop-b.invariant
    (subst (λ l. Rattle.claim_rule.specs.Trials.HasBoth c.loop-b.set l c.add_all.new.set) c.points.ensures.points
    c.in_ok-add_all.ensures)

pub returns : goal.returns
returns c s sh =
    let hold = c.args.hold.now in
    let e : c.count-b-end.result ≡ length hold.places =
    c.count-b-end.ensures.value ∙ ap (λ (n : ℕ). n * n * n) c.grid.ensures.grid ∙ sym c.grid.ensures.places in
    gathered hold c.loop-b.b c.loop-b.set s (record { size = c.grid.ensures.size; places = c.grid.ensures.places })
    c.requires (subst (λ (n : ℕ). n ≤ c.loop-b.b) e c.loop-b-test.false) c.loop-b.invariant
    c.points-2.ensures.ascending sh
