use Rattle.std.proofs.Common.{ℕ, ◌≡◌, ◌+◌, ap, ◌∙◌, sym, arith}
use Rattle.solid_parts.specs.declared.climb.Climb.{Climb}
use Rattle.solid_parts.proofs.Climbing.{added, none_climbed, one_taken}
use Rattle.solid_parts.proofs.climb.climb_to.Goals.{then-merge, else-merge}
use Rattle.solid_parts.proofs.climb.climb_to.Goals as goal

pub loop-now-init : goal.loop-now-init
loop-now-init c = none_climbed c.args.leads.now c.args.links.now c.args.climb c.requires.within c.requires.down

none_added : (n : ℕ) → n ≡ n + 0
none_added n = omega arith

-- the next link is taken, since its alpha is at most the number
pub loop-now-preserved : goal.loop-now-preserved
loop-now-preserved c =
    let start = c.args.leads.now in
    let links = c.args.links.now in
    let before = c.loop-now.now in
    let now = c.if-merge.now in
    elim c.if-merge.branch [
      | then-merge w ↦
          one_taken start c.loop-now.leads c.merge.new.leads links c.args.climb before
          (record { next = now.next + 1; merges = now.merges }) c.merge.result
          c.loop-now-test.true c.requires.below (ap (λ (v : Climb). v.next + 1) w.now-is)
          (ap (λ (v : Climb). v.merges) w.now-is ∙ ap (λ b. before.merges + added b) (sym w.if-merge.true))
          c.merge.auto.leads c.merge.ensures.down c.merge.ensures.merged c.loop-now.invariant
      | else-merge w ↦
          one_taken start c.loop-now.leads c.merge.new.leads links c.args.climb before
          (record { next = now.next + 1; merges = now.merges }) c.merge.result
          c.loop-now-test.true c.requires.below (ap (λ (v : Climb). v.next + 1) w.now-is)
          (ap (λ (v : Climb). v.merges) w.now-is ∙ none_added before.merges ∙ ap (λ b. before.merges + added b)
          (sym w.if-merge.false))
          c.merge.auto.leads c.merge.ensures.down c.merge.ensures.merged c.loop-now.invariant
    ]
