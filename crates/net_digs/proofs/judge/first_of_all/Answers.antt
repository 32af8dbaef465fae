use borrow.Author.Count.{below_more}
use Rattle.std.proofs.Common.{arith, refl, ℕ}
use Rattle.std.proofs.lemmas.Bool.{MatchBool-at_false}
use Rattle.hole_laws.proofs.Cited.{some_rim}
use Rattle.cell_slots.specs.Marked.{StaysAt}
use Rattle.cell_slots.specs.Nets.{cells_of_slots}
use Rattle.cell_slots.specs.declared.reach.Reach.TheVariants.{Whole}
use Rattle.cell_slots.proofs.Cited.{live_from}
use Rattle.cell_net.proofs.Cited.{all_cells}
use Rattle.net_digs.proofs.judge.first_of_all.Goals as goal

-- one of the cells goes, and its slot was looked at
pub unreachable-requires : goal.unreachable-requires
unreachable-requires c =
    let w = c.requires.0 in
    let n = c.requires.1 in
    let all = all_cells Whole (cells_of_slots c.args.net.now) w refl in
    let f = some_rim w.set c.args.p all.solid n in
    let h = live_from c.args.net.now f.1.gone ((all.members f.1.gone).1 f.1.goes.before) in
    let k = c.loop-place.invariant h.i (omega (arith, h.below, c.len-place-end.ensures, c.loop-place-test.false))
    f.1.gone h.at w.others w.set w.cells_of n in
    f.1.goes.after k.after

-- that of one slot more stays
pub loop-place-preserved : goal.loop-place-preserved
loop-place-preserved c =
    below_more (λ (k : ℕ). StaysAt c.args.p c.args.net.now k) c.loop-place.place c.loop-place.invariant
    (MatchBool-at_false _ _ c.if-goes_at.false c.goes_at.ensures refl)
