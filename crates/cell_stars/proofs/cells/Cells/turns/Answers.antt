use Rattle.std.proofs.Common.{◌∙◌, List, ℕ, ap, subst, sym}
use Rattle.std.specs.List.{filter}
use Rattle.std.proofs.lemmas.List.{take_all}
use Rattle.list_laws.proofs.Cited.{filtered_ascending}
use Rattle.cell_stars.specs.Places.{lies_in}
use Rattle.cell_stars.proofs.WriteLaws.{NumberedSoFar, numbered_all, numbered_more, numbered_none, numbered_same}
use Rattle.cell_stars.proofs.cells.Cells.turns.Goals as goal
use Rattle.cell_stars.proofs.cells.Cells.turns.Goals.{then-has_here+in_ok-add_turn, else-has_here}

pub loop-p-init : goal.loop-p-init
loop-p-init c = numbered_none c.args.self.now c.in_ok-turns.turns.items c.in_ok-turns.ensures.items

pub loop-p-preserved : goal.loop-p-preserved
loop-p-preserved c = elim c.if-has_here.branch [
  | then-has_here+in_ok-add_turn w ↦ rw (w.least-is, w.turns-is) (numbered_more c.args.self.now c.args.vertices.now
      c.loop-p.p-index c.p-item.result c.loop-p.least w.add_turn.new.least c.loop-p.turns.items
      w.add_turn.new.turns.items c.loop-p-test.true c.p-item.is (sym c.has_here.ensures ∙ w.if-has_here.true)
      w.in_ok-add_turn.ensures c.loop-p.invariant)
  | else-has_here w ↦ rw (w.least-is, w.turns-is) (numbered_same c.args.self.now c.args.vertices.now c.loop-p.p-index
      c.p-item.result c.loop-p.least c.loop-p.turns.items c.loop-p-test.true c.p-item.is
      (sym c.has_here.ensures ∙ w.if-has_here.false) c.loop-p.invariant)
]

pub returns-clause-vertices : goal.returns-clause-vertices
returns-clause-vertices c = c.loop-p.invariant.vertices
    ∙ ap (filter (lies_in c.args.self.now.place)) (take_all c.loop-p.p-index c.args.vertices.now c.loop-p-test.false)

pub returns-clause-numbered : goal.returns-clause-numbered
returns-clause-numbered c =
    let b = c.args.self.now in
    let turns = c.loop-p.turns.items in
    numbered_all b (filter (lies_in b.place) c.args.vertices.now) c.loop-p.least turns
    (filtered_ascending (lies_in b.place) c.args.vertices.now c.requires)
    (subst (λ (l : List ℕ). NumberedSoFar b (filter (lies_in b.place) l) c.loop-p.least turns)
    (take_all c.loop-p.p-index c.args.vertices.now c.loop-p-test.false) c.loop-p.invariant)
