use Rattle.std.proofs.Common.{◌++◌, ◌∷◌, ◌+◌, ◌∙◌, [], List, ℕ, arith, subst, sym, take}
use Rattle.std.specs.List.{filter}
use Rattle.edit_history.specs.declared.history.Edit.{Edit}
use Rattle.edit_history.specs.declared.history.Edit.TheVariants.{Add}
use Rattle.edit_history.specs.OneThread.{tagged_lines}
use Rattle.point_history.specs.declared.entries.Log.{Log}
use Rattle.point_history.specs.Logs.{IsLogOf, is_picked}
use Rattle.point_history.proofs.MoreLines.{all_picked, next_passed, next_picked, point_within}
use Rattle.point_history.proofs.entries.Log.add_picked.Goals as goal
use Rattle.point_history.proofs.entries.Log.add_picked.Goals.{then-is_picked+in_ok-add, else-is_picked}

-- one line more: it passes and its entry is put last, or it does not
pub loop-place-preserved : goal.loop-place-preserved
loop-place-preserved c = λ lines was.
    let points = c.args.points.now in
    let place = c.loop-place.place in
    let test : ℕ × Edit → _ = λ line. is_picked c.args.of_four c.args.four line.0 in
    elim c.if-is_picked.branch [
      | then-is_picked+in_ok-add w ↦ subst (λ (log : Log). IsLogOf
          (lines ++ filter test (take (place + 1) (tagged_lines points []))) log) (sym w.self-is)
          (subst (λ (l : List (ℕ × Edit)). IsLogOf l w.add.new.self)
          (next_picked test points lines place c.loop-place-test.true (sym c.is_picked.ensures ∙ w.if-is_picked.true))
          (subst (λ (q : ℕ). IsLogOf ((lines ++ filter test (take place (tagged_lines points []))) ++ (place, Add q) ∷
          []) w.add.new.self) (w.index-points-place.is ∙ point_within points place w.index-points-place.result
          c.loop-place-test.true)
          (w.in_ok-add.ensures (lines ++ filter test (take place (tagged_lines points [])))
          (c.loop-place.invariant lines was))))
      | else-is_picked w ↦ subst (λ (log : Log). IsLogOf (lines ++ filter test
          (take (place + 1) (tagged_lines points []))) log) (sym w.self-is)
          (subst (λ (l : List (ℕ × Edit)). IsLogOf l c.loop-place.self)
          (next_passed test points lines place c.loop-place-test.true (sym c.is_picked.ensures ∙ w.if-is_picked.false))
          (c.loop-place.invariant lines was))
    ]

pub returns : goal.returns
returns c = λ lines was.
    let test : ℕ × Edit → _ = λ line. is_picked c.args.of_four c.args.four line.0 in
    subst (λ (l : List (ℕ × Edit)). IsLogOf l c.loop-place.self)
    (all_picked test c.args.points.now lines c.loop-place.place (let l = c.loop-place-test.false in omega (arith, l)))
    (c.loop-place.invariant lines was)
