use Rattle.std.proofs.Common.{◌∷◌, []}
use Rattle.list_laws.proofs.Cited.{not_both}
use Rattle.net_digs.proofs.Growing.{others_all, others_moved, others_more, others_same}
use Rattle.net_digs.proofs.turns.turns_of.Goals as goal
use Rattle.net_digs.proofs.turns.turns_of.Goals.{then-not-is_of_four+in_ok-push, else-not-is_of_four}

pub loop-p-preserved : goal.loop-p-preserved
loop-p-preserved c =
    let four = c.args.a ∷ c.args.b ∷ c.args.c ∷ c.args.d ∷ [] in
    let points = c.args.points.now in
    let i = c.loop-p.p-index in
    let p = c.p-item.result in
    let turns = c.loop-p.turns.items in
    elim c.if-not-is_of_four.branch [
      | then-not-is_of_four+in_ok-push w ↦ rw w.turns-is (rw w.in_ok-push.ensures.items
          (others_more four points turns i p c.loop-p-test.true c.p-item.is c.loop-p.invariant
          (λ j. not_both c.is_of_four.result (c.is_of_four.ensures.1 j) w.if-not-is_of_four.true)
          w.key.ensures.bound))
      | else-not-is_of_four w ↦ rw w.turns-is
          (others_same four points turns i p c.loop-p-test.true c.p-item.is c.loop-p.invariant
          (c.is_of_four.ensures.0 w.if-not-is_of_four.false))
    ]

pub returns : goal.returns
returns c =
    let four = c.args.a ∷ c.args.b ∷ c.args.c ∷ c.args.d ∷ [] in
    let turns = c.loop-p.turns.items in
    others_moved four c.args.points.now turns c.sort_unstable_by_key.new.self.items
    c.sort_unstable_by_key.ensures.permutation
    (others_all four c.args.points.now turns c.loop-p.p-index c.loop-p-test.false c.loop-p.invariant)
