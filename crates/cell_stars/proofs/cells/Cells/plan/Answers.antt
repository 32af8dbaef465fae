use Rattle.std.proofs.Common.{subst, sym}
use Rattle.cell_stars.specs.Plans.{AreVertices}
use Rattle.std.proofs.Common.{List, ℕ}
use Rattle.cell_stars.proofs.MoveLaws.{are_new}
use Rattle.cell_stars.proofs.Planned.{is_plan}
use Rattle.cell_stars.proofs.WriteLaws.{are_touched}
use Rattle.cell_stars.proofs.cells.Cells.plan.Goals as goal

pub plan_stars-requires-clause-touched : goal.plan_stars-requires-clause-touched
plan_stars-requires-clause-touched c =
    let b = c.args.self.now in
    let freed = c.in_ok-moves.moves.freed.items in
    let placed = c.in_ok-moves.moves.placed.items in
    are_touched c.args.gone.now c.args.fresh.now b freed placed c.vertices.result.now c.in_ok-moves.ensures.made
    (subst (λ (l : List ℕ). AreVertices c.args.gone.now c.args.fresh.now l) (sym c.vertices.ensures.vertices)
    c.requires.matched.vertices)

pub moves-requires-clause-found : goal.moves-requires-clause-found
moves-requires-clause-found c t = are_new c.args.self.now c.args.gone.now c.args.fresh.now (c.requires.found t)

pub returns : goal.returns
returns c =
    let s = c.in_ok-stars.ensures in
    let p = c.in_ok-places.ensures in
    is_plan c.args.gone.now c.args.fresh.now c.args.self.now _ c.in_ok-moves.moves.freed.items
    c.in_ok-moves.moves.placed.items s.before c.in_ok-moves.ensures.made s.stars s.keys s.parts p.same p.long
    p.slots s.same s.long
