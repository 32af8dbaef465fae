use Rattle.std.proofs.Common.{◌++◌, ◌∷◌, [], subst, sym, List, ℕ}
use Rattle.cell_slots.specs.Nets.{AreMoved}
use Rattle.cell_slots.proofs.Cited.{come_over, moved_none}
use Rattle.cloud_cells.proofs.groups.gather_points.Goals as goal

pub loop-turn-preserved : goal.loop-turn-preserved
loop-turn-preserved c =
    let all = c.args.waiting.now.items ++ c.args.left.now.items in
    let now = c.loop-turn.waiting.items in
    let last = c.in-Some.turn ∷ [] in
    come_over all now c.push.new.self.items c.pop.new.self.items last
    (subst (λ (v : List ℕ). AreMoved all (now ++ v)) c.in-Some.ensures.items c.loop-turn.invariant)
    (subst (λ (v : List ℕ). AreMoved (now ++ last) v) (sym c.in_ok-push.ensures.items) (moved_none (now ++ last)))
