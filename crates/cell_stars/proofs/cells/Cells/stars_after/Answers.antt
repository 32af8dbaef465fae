use Rattle.std.proofs.Common.{subst, List, ℕ}
use Rattle.point_order.specs.declared.cell.Cell.{Cell}
use Rattle.point_order.specs.Facets.{points_of}
use Rattle.point_order.specs.Sets.{IsIn}
use Rattle.cell_stars.specs.Adding.{AddsPlaces, IsStaying, Numbered}
use Rattle.cell_stars.proofs.AddLaws.{added_after, stars_here}
use Rattle.cell_stars.proofs.cells.Cells.stars_after.Goals as goal

pub add_placed-requires : goal.add_placed-requires
add_placed-requires c = stars_here c.args.self.now.place c.args.turns.now c.in_ok-writes.writes.items
    c.in_ok-writes.ensures.heads c.requires.vertices c.requires.inside

pub returns : goal.returns
returns c =
    let b = c.args.self.now in
    let old = c.in_ok-writes.writes.items in
    let new = c.add_placed.new.writes.items in
    added_after b c.args.moves.now.freed.items c.args.moves.now.placed.items c.args.turns.now old new
    c.requires.inside c.in_ok-writes.ensures.heads
    (subst (λ (l : List ℕ). (w : Numbered) → IsIn w old →
    IsStaying b l w) c.deref.ensures.value c.in_ok-writes.ensures.stars)
    (subst (λ (l : List (ℕ × Cell)). AddsPlaces (λ q j. (x : Cell) × IsIn (j, x) l × IsIn q
    (points_of x)) old new) c.deref-2.ensures.value c.in_ok-add_placed.ensures)
