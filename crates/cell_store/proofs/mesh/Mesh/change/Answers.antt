use Rattle.std.proofs.Common.{◌∙◌, ap, subst}
use Rattle.cell_store.specs.Buckets.{InHand, Room}
use Rattle.cell_store.specs.Meshes.{IsHoldOf, MeshView}
use Rattle.edit_history.specs.Histories.{replay}
use Rattle.cell_store.proofs.AnyLaws.{change_finds_cells}
use Rattle.cell_store.proofs.MeshLaws.{all_are_held, goal_comes, point_held, mesh_changed, shows_of}
use Rattle.cell_store.proofs.mesh.Mesh.change.Goals as goal

pub reserve_found-requires-clause-gone : goal.reserve_found-requires-clause-gone
reserve_found-requires-clause-gone c = all_are_held c.self.inside.hold c.args.gone.now c.self.invariant.0.whole.has
    c.self.invariant.0.whole.all

pub reserve_found-requires-clause-fresh : goal.reserve_found-requires-clause-fresh
reserve_found-requires-clause-fresh c = all_are_held c.self.inside.hold c.args.fresh.now c.self.invariant.0.whole.has
    c.self.invariant.0.whole.all

pub reserve_found-requires-clause-points : goal.reserve_found-requires-clause-points
reserve_found-requires-clause-points c p i = point_held c.self.inside.hold p c.self.invariant.0.whole.has
    c.self.invariant.0.whole.all

pub reserve_found-requires-clause-found : goal.reserve_found-requires-clause-found
reserve_found-requires-clause-found c =
    let hold = c.self.inside.hold in
    let i = subst (λ (m : MeshView). IsHoldOf m hold) c.self.view_is c.self.invariant.0 in
    change_finds_cells hold (replay c.args.self.now.history) _ c.args.gone.now c.args.fresh.now
    (shows_of c.args.self.now hold i) c.requires.change
    (all_are_held hold c.args.gone.now c.self.invariant.0.whole.has c.self.invariant.0.whole.all)

pub put_goal-requires : goal.put_goal-requires
put_goal-requires c =
    let hold = c.self.inside.hold in
    let ok = c.in_ok-reserve_found.ensures.ok in
    goal_comes c.args.self.now hold c.reserve_found.new.self c.swap_cells.new.self c.args.gone.now c.args.fresh.now
    c.args.entry (subst (λ (m : MeshView). IsHoldOf m hold) c.self.view_is c.self.invariant.0) c.requires
    (ap (λ (h : InHand). h.grid) ok) (ap (λ (h : InHand). h.places) ok) c.swap_cells.ensures.swapped
    (ap (λ (r : Room). r.point) c.swap_cells.ensures.room ∙ ap (λ (h : InHand). h.room.point) ok)

pub invariant_of-self-2 : goal.invariant_of-self-2
invariant_of-self-2 c =
    let ok = c.in_ok-reserve_found.ensures.ok in
    (mesh_changed c.self.inside.hold c.reserve_found.new.self c.swap_cells.new.self c.put_goal.new.self
    c.push_entry.new.self c.args.self.now c.args.gone.now c.args.fresh.now c.args.entry c.self.inside.count _
    c.self.view_is c.self.invariant c.know_keys.ensures c.requires
    (ap (λ (h : InHand). h.grid) ok) (ap (λ (h : InHand). h.places) ok) c.swap_cells.ensures.swapped
    c.put_goal.ensures.arrived c.push_entry.ensures.noted c.saturating_add-self-inside.ensures).1

pub returns-clause-changed : goal.returns-clause-changed
returns-clause-changed c =
    let ok = c.in_ok-reserve_found.ensures.ok in
    (mesh_changed c.self.inside.hold c.reserve_found.new.self c.swap_cells.new.self c.put_goal.new.self
    c.push_entry.new.self c.args.self.now c.args.gone.now c.args.fresh.now c.args.entry c.self.inside.count _
    c.self.view_is c.self.invariant c.know_keys.ensures c.requires
    (ap (λ (h : InHand). h.grid) ok) (ap (λ (h : InHand). h.places) ok) c.swap_cells.ensures.swapped
    c.put_goal.ensures.arrived c.push_entry.ensures.noted c.saturating_add-self-inside.ensures).0
