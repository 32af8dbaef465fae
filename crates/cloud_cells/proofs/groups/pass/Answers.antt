use denote.Param.Send.{sendable}
use Rattle.std.proofs.Common.{◌∙◌, ◌++◌, ap, length, subst, sym, List, ℕ, Option}
use Rattle.point_order.specs.declared.cell.Cell.{Cell}
use Rattle.cloud_cells.specs.Groups.{cells_of_groups, points_of_groups}
use Rattle.cell_slots.specs.Nets.{AreMoved, cells_of_slots}
use Rattle.cell_slots.specs.Parts.{ArePut}
use Rattle.cloud_cells.specs.declared.groups.Group.{Group}
use Rattle.cell_slots.proofs.Cited.{room_moved, written_back, put_moved}
use Rattle.cloud_cells.proofs.groups.pass.Goals as goal

pub work_all-requires : goal.work_all-requires
work_all-requires g c =
    let groups = c.in_ok-groups.groups.items in (
      search sendable depth 20,
      rw c.deref_mut.ensures.value (room_moved c.args.waiting.now.items (points_of_groups groups)
          (cells_of_slots c.args.net.now) (cells_of_groups groups) c.in_ok-groups.ensures.points
          c.in_ok-groups.ensures.cells c.requires),
    )

pub returns : goal.returns
returns g c =
    let dealt = c.in_ok-groups.groups.items in
    let done = c.work_all.new.groups in
    let before = c.in_ok-groups.ensures in
    let new = cells_of_slots c.gather.new.net in
    let left = c.gather.new.waiting.items in
    let put : ArePut (points_of_groups dealt) (points_of_groups done) (cells_of_groups dealt) (cells_of_groups done) =
    rw c.deref_mut.ensures.value at c.in_ok-work_all.ensures in
    let back = written_back _ dealt done (sym (ap length c.deref_mut.ensures.value) ∙ c.deref_mut.ensures.len)
    (c.work_all.auto.groups ∙ c.deref_mut.ensures.len) in
    let cells : AreMoved (cells_of_groups done) new =
    subst (λ (n : List (Option Cell)). AreMoved (cells_of_slots n ++ cells_of_groups done) new) before.net
    (subst (λ (l : List Group). AreMoved (cells_of_slots c.deal_all.new.net ++ cells_of_groups l) new) back
    c.in_ok-gather.ensures.cells) in
    let points : AreMoved (points_of_groups done) left =
    subst (λ (n : List ℕ). AreMoved (n ++ points_of_groups done) left) before.waiting
    (subst (λ (l : List Group). AreMoved (c.deal_all.new.waiting.items ++ points_of_groups l) left) back
    c.in_ok-gather.ensures.points) in
    put_moved (points_of_groups dealt) c.args.waiting.now.items (points_of_groups done) left (cells_of_groups dealt)
    (cells_of_slots c.args.net.now) (cells_of_groups done) new before.points points before.cells cells put
