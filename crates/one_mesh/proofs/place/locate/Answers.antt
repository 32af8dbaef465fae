use Rattle.std.proofs.Common.{refl, sym, subst, ◌∙◌, ◌≡◌}
use Rattle.point_order.specs.declared.cell.Cell.{Cell}
use Rattle.edit_history.specs.Histories.{replay}
use Rattle.hole_laws.specs.Edits.{GoesFrom}
use Rattle.cell_store.proofs.Cited.{held_by, shows_of}
use Rattle.one_mesh.proofs.Locating.{is_new}
use Rattle.one_mesh.proofs.place.locate.Goals as goal

pub holds_point-requires : goal.holds_point-requires
holds_point-requires c = held_by c.args.mesh.now c.hold-hold.result.now c.args.p c.hold-hold.ensures

pub returns-then-holds_point-clause-vertex : goal.returns-then-holds_point-clause-vertex
returns-then-holds_point-clause-vertex c =
    let s = replay c.args.mesh.now.history in
    let shown = shows_of c.args.mesh.now c.hold-hold.result.now c.hold-hold.ensures in
    (λ _. sym (c.holds_point.ensures.in_set s shown) ∙ c.if-holds_point.true, λ _. refl)

pub cell_in_conflict-requires-clause-shown : goal.cell_in_conflict-requires-clause-shown
cell_in_conflict-requires-clause-shown c =
    let s = replay c.args.mesh.now.history in
    let shown = shows_of c.args.mesh.now c.hold-hold.result.now c.hold-hold.ensures in (
      s,
      shown,
      is_new s c.args.p c.holds_point.result c.key.ensures.bound c.if-holds_point.false
          (c.holds_point.ensures.in_set s shown),
    )

pub returns-clause-vertex : goal.returns-clause-vertex
returns-clause-vertex c =
    let s = replay c.args.mesh.now.history in
    let shown = shows_of c.args.mesh.now c.hold-hold.result.now c.hold-hold.ensures in
    (λ e. absurd (cc e), λ i. absurd (cc (sym c.if-holds_point.false ∙ c.holds_point.ensures.in_set s shown ∙ i)))

pub returns-clause-inside : goal.returns-clause-inside
returns-clause-inside c = λ cell e.
    let s = replay c.args.mesh.now.history in
    let shown = shows_of c.args.mesh.now c.hold-hold.result.now c.hold-hold.ensures in
    let new =
    is_new s c.args.p c.holds_point.result c.key.ensures.bound c.if-holds_point.false
    (c.holds_point.ensures.in_set s shown) in
    let same : c.cell_in_conflict.result ≡ cell = cc e in
    subst (λ (k : Cell). GoesFrom s c.args.p k) same (c.cell_in_conflict.ensures s shown new)
