use Rattle.std.proofs.Common.{◌∙◌, ap, refl, subst}
use Rattle.edit_history.specs.Histories.{replay}
use Rattle.cell_store.specs.Buckets.{InHand, Room}
use Rattle.cell_store.specs.Meshes.{IsHoldOf, MeshView}
use Rattle.cell_store.proofs.LookLaws.{mesh_enters, mesh_left, whole_entered}
use Rattle.cell_store.proofs.MeshLaws.{all_are_held, point_held}
use Rattle.cell_store.proofs.mesh.Mesh.with_point.Goals as goal

pub reserve_both-requires-clause-gone : goal.reserve_both-requires-clause-gone
reserve_both-requires-clause-gone g c = all_are_held c.self.inside.hold c.args.gone.now c.self.invariant.0.whole.has
    c.self.invariant.0.whole.all

pub reserve_both-requires-clause-fresh : goal.reserve_both-requires-clause-fresh
reserve_both-requires-clause-fresh g c = all_are_held c.self.inside.hold c.args.fresh.now c.self.invariant.0.whole.has
    c.self.invariant.0.whole.all

pub reserve_both-requires-clause-points : goal.reserve_both-requires-clause-points
reserve_both-requires-clause-points g c p i = point_held c.self.inside.hold p c.self.invariant.0.whole.has
    c.self.invariant.0.whole.all

pub enter-requires-clause-room : goal.enter-requires-clause-room
enter-requires-clause-room g c = (let room = ap (λ (h : InHand). h.room) c.in_ok-reserve_both.ensures.ok in record {
  swap = ap (λ (r : Room). r.swap) room;
  point = ap (λ (r : Room). r.point) room;
  back =
      ap (λ (r : Room). r.back) room;
})

pub enter-requires-clause-enters : goal.enter-requires-clause-enters
enter-requires-clause-enters g c =
    let hold = c.self.inside.hold in
    let ready = c.reserve_both.new.self in
    let ok = c.in_ok-reserve_both.ensures.ok in
    let grid = ap (λ (h : InHand). h.grid) ok in
    let places = ap (λ (h : InHand). h.places) ok in
    let own = subst (λ (m : MeshView). IsHoldOf m hold) c.self.view_is c.self.invariant.0 in
    let en = mesh_enters c.args.self.now hold ready c.args.gone.now c.args.fresh.now c.args.p own grid places
    c.requires.new c.requires.change in
    (replay c.args.self.now.history, en)

pub look-found-requires : goal.look-found-requires
look-found-requires g c =
    let hold = c.self.inside.hold in
    let ready = c.reserve_both.new.self in
    let ok = c.in_ok-reserve_both.ensures.ok in
    let grid = ap (λ (h : InHand). h.grid) ok in
    let places = ap (λ (h : InHand). h.places) ok in
    let own = subst (λ (m : MeshView). IsHoldOf m hold) c.self.view_is c.self.invariant.0 in
    let en = mesh_enters c.args.self.now hold ready c.args.gone.now c.args.fresh.now c.args.p own grid places
    c.requires.new c.requires.change in
    c.requires.look _ (whole_entered c.args.self.now hold ready c.enter.new.self c.args.gone.now c.args.fresh.now
    c.args.p own grid places en c.enter.ensures.entered)

pub leave-requires-clause-room : goal.leave-requires-clause-room
leave-requires-clause-room g c =
    let room = ap (λ (h : InHand). h.room) c.in_ok-reserve_both.ensures.ok in
    let after = c.enter.ensures.room in
    record {
      swap = ap (λ (r : Room). r.swap) after;
      point = ap (λ (r : Room). r.point) after ∙ ap
          (λ (r : Room). r.point) room;
      back = ap (λ (r : Room). r.back) after ∙ ap (λ (r : Room). r.back) room;
    }

pub leave-requires-clause-entered : goal.leave-requires-clause-entered
leave-requires-clause-entered g c =
    let hold = c.self.inside.hold in
    let ready = c.reserve_both.new.self in
    let ok = c.in_ok-reserve_both.ensures.ok in
    let grid = ap (λ (h : InHand). h.grid) ok in
    let places = ap (λ (h : InHand). h.places) ok in
    let own = subst (λ (m : MeshView). IsHoldOf m hold) c.self.view_is c.self.invariant.0 in
    let en = mesh_enters c.args.self.now hold ready c.args.gone.now c.args.fresh.now c.args.p own grid places
    c.requires.new c.requires.change in
    record { before = ready; set = replay c.args.self.now.history; enters = en; entered = c.enter.ensures.entered }

pub invariant_of-self-2 : goal.invariant_of-self-2
invariant_of-self-2 g c =
    let hold = c.self.inside.hold in
    let ready = c.reserve_both.new.self in
    let ok = c.in_ok-reserve_both.ensures.ok in
    let grid = ap (λ (h : InHand). h.grid) ok in
    let places = ap (λ (h : InHand). h.places) ok in
    let own = subst (λ (m : MeshView). IsHoldOf m hold) c.self.view_is c.self.invariant.0 in
    let en = mesh_enters c.args.self.now hold ready c.args.gone.now c.args.fresh.now c.args.p own grid places
    c.requires.new c.requires.change in
    (mesh_left hold ready c.enter.new.self c.leave.new.self (replay c.args.self.now.history) c.args.gone.now
    c.args.fresh.now c.args.p c.self.inside.count c.self.invariant grid places en c.enter.ensures.entered
    c.leave.ensures.left).1

pub returns-clause-same : goal.returns-clause-same
returns-clause-same g c =
    let hold = c.self.inside.hold in
    let ready = c.reserve_both.new.self in
    let ok = c.in_ok-reserve_both.ensures.ok in
    let grid = ap (λ (h : InHand). h.grid) ok in
    let places = ap (λ (h : InHand). h.places) ok in
    let own = subst (λ (m : MeshView). IsHoldOf m hold) c.self.view_is c.self.invariant.0 in
    let en = mesh_enters c.args.self.now hold ready c.args.gone.now c.args.fresh.now c.args.p own grid places
    c.requires.new c.requires.change in
    (mesh_left hold ready c.enter.new.self c.leave.new.self (replay c.args.self.now.history) c.args.gone.now
    c.args.fresh.now c.args.p c.self.inside.count c.self.invariant grid places en c.enter.ensures.entered
    c.leave.ensures.left).0 ∙ c.self.view_is

-- the function was lent buckets that show the set with the point, and what it found is returned
pub returns-clause-found : goal.returns-clause-found
returns-clause-found g c =
    let hold = c.self.inside.hold in
    let ready = c.reserve_both.new.self in
    let ok = c.in_ok-reserve_both.ensures.ok in
    let grid = ap (λ (h : InHand). h.grid) ok in
    let places = ap (λ (h : InHand). h.places) ok in
    let own = subst (λ (m : MeshView). IsHoldOf m hold) c.self.view_is c.self.invariant.0 in
    let en = mesh_enters c.args.self.now hold ready c.args.gone.now c.args.fresh.now c.args.p own grid places
    c.requires.new c.requires.change in (
      c.enter.new.self,
      whole_entered c.args.self.now hold ready c.enter.new.self c.args.gone.now c.args.fresh.now
          c.args.p own grid places en c.enter.ensures.entered,
      (_, c.look-found.ensures, refl),
    )
