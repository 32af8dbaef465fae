use Rattle.std.proofs.Common.{subst, sym, ◌∙◌, List, ◌≡◌}
use Rattle.std.proofs.lemmas.Bool.{MatchBool-at_false, MatchBool-at_true}
use Rattle.std.specs.Prelude.{◌↔◌}
use Rattle.list_laws.specs.Lists.{AreDistinct}
use Rattle.point_order.specs.declared.cell.Cell.{Cell}
use Rattle.point_order.specs.Sets.{IsIn}
use Rattle.edit_history.proofs.Cited.{ok_then}
use Rattle.hole_laws.specs.Edits.{GoesFrom, IsNew}
use Rattle.net_digs.specs.Digs.{IsHoleOf}
use Rattle.cell_slots.specs.Nets.{cells_of_slots}
use Rattle.cell_slots.specs.Parts.{InEach}
use Rattle.cell_slots.specs.declared.reach.Reach.TheVariants.{Part, Whole}
use Rattle.cell_net.proofs.Cited.{whole_within}
use Rattle.net_digs.proofs.grow.cells_taken.Goals as goal

pub hole_of-requires : goal.hole_of-requires
hole_of-requires c = (
  whole_within c.args.points.now (cells_of_slots c.in_ok-net.net) c.in_ok-net.ensures,
  record { key = c.key.ensures.bound; absent = c.requires.absent },
)

pub unreachable-requires : goal.unreachable-requires
unreachable-requires c =
    let e : Whole ≡ Part = MatchBool-at_false _ _ c.if-not-could.true c.in_ok-could.ensures.hole in cc e

pub returns-clause-taken : goal.returns-clause-taken
returns-clause-taken c =
    let new : IsNew c.args.points.now c.args.p = record { key = c.key.ensures.bound; absent = c.requires.absent } in
    let w = whole_within c.args.points.now (cells_of_slots c.in_ok-net.net) c.in_ok-net.ensures in
    let hole = c.hole_of.new.hole in
    let dug : InEach c.args.p (cells_of_slots c.in_ok-net.net)
    (λ s. IsHoleOf s c.args.p hole.gone.items hole.rim.items) =
    MatchBool-at_true _ _ c.if-not-could.false c.in_ok-could.ensures.hole in
    ok_then _ _ c.cells_of.result
    (λ cells e q. subst (λ (l : List Cell). IsIn q l ↔ GoesFrom c.args.points.now c.args.p q)
    (sym (e ∙ c.deref.ensures.value)) ((dug w.others w.set w.cells_of new).gone_is q)) c.cells_of.ensures

pub returns-clause-once : goal.returns-clause-once
returns-clause-once c =
    let new : IsNew c.args.points.now c.args.p = record { key = c.key.ensures.bound; absent = c.requires.absent } in
    let w = whole_within c.args.points.now (cells_of_slots c.in_ok-net.net) c.in_ok-net.ensures in
    let hole = c.hole_of.new.hole in
    let dug : InEach c.args.p (cells_of_slots c.in_ok-net.net)
    (λ s. IsHoleOf s c.args.p hole.gone.items hole.rim.items) =
    MatchBool-at_true _ _ c.if-not-could.false c.in_ok-could.ensures.hole in
    ok_then _ _ c.cells_of.result
    (λ cells e. subst (λ (l : List Cell). AreDistinct l) (sym (e ∙ c.deref.ensures.value))
    (dug w.others w.set w.cells_of new).gone_once) c.cells_of.ensures
