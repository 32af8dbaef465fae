use Rattle.std.proofs.Common.{◌∙◌, ◌++◌, ap, refl, List, ℕ}
use Rattle.point_order.specs.declared.cell.Cell.{Cell}
use Rattle.cell_slots.specs.Nets.{cells_of_slots}
use Rattle.cloud_cells.specs.declared.groups.Group.{Group}
use Rattle.cell_slots.proofs.Cited.{flat_behind}
use Rattle.cloud_cells.proofs.groups.empty_groups.Goals as goal

pub fill-init : goal.fill-init
fill-init c = rw c.new-groups.ensures.items (refl, refl, refl)

pub fill-preserved : goal.fill-preserved
fill-preserved c =
    let g = c.in_ok-group.group in
    let l = c.fill.groups.items in
    let i = c.fill.invariant in
    rw c.in_ok-push.ensures.items (
      c.of.ensures.net ∙ i.0,
      flat_behind (λ (x : Group). cells_of_slots x.net) l g ∙ ap (λ (v : List Cell). v ++ cells_of_slots g.net) i.1
          ∙ ap cells_of_slots c.in_ok-group.ensures.cells,
      flat_behind (λ (x : Group). x.waiting.items) l g ∙ ap (λ (v : List ℕ). v ++ g.waiting.items) i.2
          ∙ c.in_ok-group.ensures.points,
    )
