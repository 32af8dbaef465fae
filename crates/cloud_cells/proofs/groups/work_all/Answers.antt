use denote.Param.Send.{sendable}
use Rattle.std.proofs.Crossing.{crosses, sync as heap_sync}
use Rattle.cloud_cells.proofs.groups.Group.TheSendSync.{the_send as group_send}
use Rattle.std.proofs.Common.{◌≡◌, ◌∙◌, ◌<◌, false, subst, sym, length}
use Rattle.list_laws.proofs.Cited.{at_place, within_list}
use Rattle.cell_slots.specs.Nets.{cells_of_slots}
use Rattle.cell_slots.specs.Parts.{ArePut}
use Rattle.cloud_cells.specs.declared.groups.Group.{Group}
use Rattle.cell_slots.proofs.Cited.{put_beside, room_at}
use Rattle.cloud_cells.proofs.groups.work_all.Goals as goal

pub par_for_each_mut-requires : goal.par_for_each_mut-requires
par_for_each_mut-requires g c k = (
  search (sendable, group_send) depth 20,
  (
    search (sendable, crosses, heap_sync) depth 20,
    (
      search sendable depth 20,
      λ i p l e. room_at (λ (x : Group). x.waiting.items) (λ (x : Group). cells_of_slots x.net) c.args.groups.now i
          p.now c.requires l e,
    ),
  ),
)

pub returns : goal.returns
returns g c =
    let xs = c.args.groups.now in
    let ys = c.par_for_each_mut.new.s in
    put_beside (λ (x : Group). x.waiting.items) (λ (x : Group). cells_of_slots x.net) xs ys
    c.par_for_each_mut.auto.s (λ i x y l ex ey.
    let at = (c.par_for_each_mut.ensures i x l).1 in
    let m : i < length ys = subst (λ n. i < n) (sym c.par_for_each_mut.auto.s) l in
    let ok = c.in_ok-none_failed.ensures y (at_place ys i y y m ey) in
    let before = at.argument_is ∙ sym ex in
    let after = at.left ∙ within_list ys i y x m ey in
    let done = at.call (subst (λ (z : Group). z.has_failed ≡ false) (sym after) ok) in
    subst (λ (z : Group). ArePut x.waiting.items z.waiting.items (cells_of_slots x.net) (cells_of_slots z.net)) after
    (subst (λ (z : Group). ArePut z.waiting.items at.after_call.now.waiting.items (cells_of_slots z.net)
    (cells_of_slots at.after_call.now.net)) before done))
