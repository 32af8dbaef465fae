use Rattle.std.proofs.Common.{◌∙◌, ◌++◌, ap, subst, List, ℕ}
use Rattle.point_order.specs.declared.cell.Cell.{Cell}
use Rattle.cloud_cells.specs.Groups.{cells_of_groups, points_of_groups}
use Rattle.cell_slots.specs.Nets.{AreMoved, cells_of_slots}
use Rattle.cloud_cells.specs.declared.groups.Group.{Group}
use Rattle.cell_slots.proofs.Cited.{come_over, flat_behind}
use Rattle.cloud_cells.proofs.groups.gather.Goals as goal

pub loop-group-preserved : goal.loop-group-preserved
loop-group-preserved c =
    let i = c.loop-group.invariant in
    let front = c.pop.new.self.items in
    let g = c.in-Some.group in
    let cells = λ (x : Group). cells_of_slots x.net in
    let points = λ (x : Group). x.waiting.items in
    let allc = cells_of_slots c.args.net.now ++ cells_of_groups c.args.groups.now.items in
    let allp = c.args.waiting.now.items ++ points_of_groups c.args.groups.now.items in
    let nowc = cells_of_slots c.loop-group.net in
    let nowp = c.loop-group.waiting.items in (
      come_over allc nowc (cells_of_slots c.gather_one.new.net) (cells_of_groups front) (cells g)
          (subst (λ (v : List Cell). AreMoved allc (nowc ++ v))
          (ap cells_of_groups c.in-Some.ensures.items ∙ flat_behind cells front g) i.0)
          c.in_ok-gather_one.ensures.cells,
      come_over allp nowp c.gather_one.new.waiting.items (points_of_groups front) (points g)
          (subst (λ (v : List ℕ). AreMoved allp (nowp ++ v))
          (ap points_of_groups c.in-Some.ensures.items ∙ flat_behind points front g) i.1)
          c.in_ok-gather_one.ensures.points,
    )
