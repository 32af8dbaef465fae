use Rattle.std.proofs.Common.{sym, ◌≡◌, ◌∙◌, subst, [], append-nil}
use Rattle.point_order.specs.declared.cell.Cell.{Cell}
use Rattle.hole_laws.specs.Edits.{GoesFrom}
use Rattle.list_laws.proofs.Cited.{one_value}
use Rattle.cell_slots.specs.Clouds.{AreCellsOf}
use Rattle.cell_slots.specs.Nets.{cells_of_slots}
use Rattle.cell_slots.specs.declared.reach.Reach.TheVariants.{Part, Whole}
use Rattle.cell_net.proofs.Cited.{whole_within}
use Rattle.net_owner.proofs.looks.conflict_from.Goals as goal

pub walked_from-hint-requires : goal.walked_from-hint-requires
walked_from-hint-requires c =
    let r = c.requires in (whole_within r.0 (cells_of_slots c.args.net.now) r.1, r.2)

pub first_in_conflict-requires : goal.first_in_conflict-requires
first_in_conflict-requires c =
    let r = c.requires in (whole_within r.0 (cells_of_slots c.args.net.now) r.1, r.2)

pub unreachable-requires : goal.unreachable-requires
unreachable-requires c = let e : Whole ≡ Part = c.in-None.ensures in cc e

pub cell_in-requires : goal.cell_in-requires
cell_in-requires c = (c.in-Some.ensures.cell, c.in-Some.ensures.at)

pub returns : goal.returns
returns c s k n =
    let g = c.in-Some.ensures in
    let there = one_value g.cell c.cell_in.result (sym g.at ∙ c.cell_in.ensures) in
    subst (λ (q : Cell). GoesFrom s c.args.p q) (there ∙ sym c.to_cell.ensures)
    (g.goes [] s (subst (AreCellsOf s) (sym (append-nil (cells_of_slots c.args.net.now))) k) n)
