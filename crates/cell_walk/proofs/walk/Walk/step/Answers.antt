use Rattle.std.proofs.Common.{◌≡◌, refl, sym, subst}
use Rattle.point_order.specs.declared.cell.Cell.{Cell}
use Rattle.point_order.specs.Complex.{complex}
use Rattle.point_order.specs.Sets.{IsIn}
use Rattle.hole_laws.specs.Edits.{StaysFrom}
use Rattle.cell_store.specs.Meshes.{all_cells}
use Rattle.cell_walk.specs.Paths.{Walking, IsWalkIn, facet_towards}
use Rattle.cell_walk.specs.Turns.{HasMoved, IsStopped}
use Rattle.cell_store.proofs.Cited.{solid_set}
use Rattle.cell_walk.proofs.Counting.{not_without}
use Rattle.cell_walk.proofs.Stepping.{some_towards, onward, moved}
use Rattle.cell_walk.proofs.walk.Walk.step.Goals as goal

pub is_in_conflict-requires-clause-held : goal.is_in_conflict-requires-clause-held
is_in_conflict-requires-clause-held c none =
    let r = c.requires in
    let k = subst (λ (w : Walking). IsWalkIn c.args.hold.now r.0 w) (sym c.self.view_is) r.2 in
    let held = subst (λ (x : Cell). IsIn x (all_cells c.args.hold.now.places)) (sym c.cell-cell.ensures) k.held in
    not_without c.args.hold.now r.0 c.cell-cell.result.now r.1 held none

pub unreachable-requires : goal.unreachable-requires
unreachable-requires c =
    let r = c.requires in
    let k = subst (λ (w : Walking). IsWalkIn c.args.hold.now r.0 w) (sym c.self.view_is) r.2 in
    let is = c.cell-cell.ensures in
    let listed = subst (λ (x : Cell). IsIn x (complex r.0)) (sym is) k.listed in
    let stays = subst (λ (x : Cell). StaysFrom r.0 c.self.inside.point x) is
    (c.if-is_in_conflict.ensures r.0 r.1 k.new listed) in
    let towards = subst (λ (x : Cell). c.facet_towards.result ≡ facet_towards x c.self.inside.point) is
    c.facet_towards.ensures in
    some_towards r.0 c.self.inside.point c.self.inside.cell c.facet_towards.result (solid_set c.args.hold.now r.0 r.1)
    k.new stays towards c.in-None.is

pub across_spot-requires-clause-facet : goal.across_spot-requires-clause-facet
across_spot-requires-clause-facet c =
    let r = c.requires in
    let k = subst (λ (w : Walking). IsWalkIn c.args.hold.now r.0 w) (sym c.self.view_is) r.2 in
    let is = c.cell-cell.ensures in
    let listed = subst (λ (x : Cell). IsIn x (complex r.0)) (sym is) k.listed in
    let stays = subst (λ (x : Cell). StaysFrom r.0 c.self.inside.point x) is
    (c.if-is_in_conflict.ensures r.0 r.1 k.new listed) in
    let towards = subst (λ (x : Cell). c.facet_towards.result ≡ facet_towards x c.self.inside.point) is
    c.facet_towards.ensures in
    (onward r.0 c.self.inside.point c.self.inside.cell c.in-Some.facet c.facet_towards.result
    (solid_set c.args.hold.now r.0 r.1) k.new stays towards c.in-Some.is).has

pub returns-in-Spot : goal.returns-in-Spot
returns-in-Spot c s st w =
    let k = subst (λ (w : Walking). IsWalkIn c.args.hold.now s w) (sym c.self.view_is) w in
    let is = c.cell-cell.ensures in
    let listed = subst (λ (x : Cell). IsIn x (complex s)) (sym is) k.listed in
    let stays = subst (λ (x : Cell). StaysFrom s c.self.inside.point x) is
    (c.if-is_in_conflict.ensures s st k.new listed) in
    let towards = subst (λ (x : Cell). c.facet_towards.result ≡ facet_towards x c.self.inside.point) is
    c.facet_towards.ensures in
    let on = onward s c.self.inside.point c.self.inside.cell c.in-Some.facet c.facet_towards.result
    (solid_set c.args.hold.now s st) k.new stays towards c.in-Some.is in
    subst (λ (v : Walking). HasMoved c.args.hold.now s v
    (record { point = c.self.inside.point; cell = c.in-Spot.other })) c.self.view_is
    (moved c.args.hold.now s c.self.inside.point c.self.inside.cell c.in-Spot.other c.in-Some.facet
    c.in-Spot.ensures.0.0 st k.new on (c.in-Spot.ensures.1 s st k.listed) c.in-Spot.ensures.0.1)

pub returns-in-Need : goal.returns-in-Need
returns-in-Need c s st w =
    let k = subst (λ (w : Walking). IsWalkIn c.args.hold.now s w) (sym c.self.view_is) w in
    let is = c.cell-cell.ensures in
    let listed = subst (λ (x : Cell). IsIn x (complex s)) (sym is) k.listed in
    let stays = subst (λ (x : Cell). StaysFrom s c.self.inside.point x) is
    (c.if-is_in_conflict.ensures s st k.new listed) in
    let towards = subst (λ (x : Cell). c.facet_towards.result ≡ facet_towards x c.self.inside.point) is
    c.facet_towards.ensures in
    let on = onward s c.self.inside.point c.self.inside.cell c.in-Some.facet c.facet_towards.result
    (solid_set c.args.hold.now s st) k.new stays towards c.in-Some.is in (
      refl,
      subst (λ (v : Walking). IsStopped c.args.hold.now s v c.in-Need.b) c.self.view_is
          (record { facet = c.in-Some.facet; onward = on; absent = c.in-Need.ensures.0; number = c.in-Need.ensures.1 }),
    )
