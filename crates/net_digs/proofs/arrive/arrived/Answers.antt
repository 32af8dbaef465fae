use Rattle.std.proofs.Common.{sym, subst, append-nil, ◌≡◌, ◌++◌, [], map}
use Rattle.std.proofs.lemmas.Bool.{MatchBool-at_false, MatchBool-at_true}
use Rattle.list_laws.proofs.Cited.{on_err}
use Rattle.hole_laws.specs.Lists.{cell_over}
use Rattle.cell_slots.specs.Clouds.{AreCellsOf}
use Rattle.net_digs.specs.Digs.{IsHoleOf}
use Rattle.cell_slots.specs.Nets.{AreMoved, cells_of_slots}
use Rattle.cell_slots.specs.Parts.{InEach}
use Rattle.cell_slots.specs.declared.reach.Reach.TheVariants.{Part, Whole}
use Rattle.net_digs.proofs.Filling.{exchanged, filled, rim_apart}
use Rattle.cell_slots.proofs.Cited.{first_distinct, moved_cells, moved_none}
use Rattle.net_digs.proofs.arrive.arrived.Goals as goal

pub unreachable-requires : goal.unreachable-requires
unreachable-requires c =
    let e : Whole ≡ Part = MatchBool-at_false _ _ c.if-not-could.true c.in_ok-could.ensures.hole in cc e

pub filled_hole-requires-clause-apart : goal.filled_hole-requires-clause-apart
filled_hole-requires-clause-apart c =
    let r = c.requires.new in
    let hole = c.hole_of.new.hole in
    let dug : InEach c.args.p (cells_of_slots c.args.net.now)
    (λ s. IsHoleOf s c.args.p hole.gone.items hole.rim.items) =
    MatchBool-at_true _ _ c.if-not-could.false c.in_ok-could.ensures.hole in
    rim_apart r.0.set c.args.p r.0.cells_of.solid r.1 hole.gone.items hole.rim.items
    (dug r.0.others r.0.set r.0.cells_of r.1)

pub filled_hole-requires-clause-once : goal.filled_hole-requires-clause-once
filled_hole-requires-clause-once c =
    let w = c.requires.new.0 in first_distinct (cells_of_slots c.args.net.now) w.others w.cells_of.once

pub returns-clause-apart : goal.returns-clause-apart
returns-clause-apart c =
    let r = c.requires.new in
    let hole = c.hole_of.new.hole in
    let dug : InEach c.args.p (cells_of_slots c.args.net.now)
    (λ s. IsHoleOf s c.args.p hole.gone.items hole.rim.items) =
    MatchBool-at_true _ _ c.if-not-could.false c.in_ok-could.ensures.hole in
    rim_apart r.0.set c.args.p r.0.cells_of.solid r.1 hole.gone.items hole.rim.items
    (dug r.0.others r.0.set r.0.cells_of r.1)

pub returns-clause-arrived : goal.returns-clause-arrived
returns-clause-arrived c s k n =
    let hole = c.hole_of.new.hole in
    let old = cells_of_slots c.args.net.now in
    let dug : InEach c.args.p old (λ s. IsHoleOf s c.args.p hole.gone.items hole.rim.items) =
    MatchBool-at_true _ _ c.if-not-could.false c.in_ok-could.ensures.hole in
    let h = dug [] s (subst (AreCellsOf s) (sym (append-nil old)) k) n in
    record {
      solid = k.solid;
      new = n;
      filled = filled s c.args.p k.solid n hole.gone.items hole.rim.items h;
      gone_once = h.gone_once;
    }

pub returns-clause-added : goal.returns-clause-added
returns-clause-added c s k n =
    let hole = c.hole_of.new.hole in
    let old = cells_of_slots c.args.net.now in
    let dug : InEach c.args.p old (λ s. IsHoleOf s c.args.p hole.gone.items hole.rim.items) =
    MatchBool-at_true _ _ c.if-not-could.false c.in_ok-could.ensures.hole in
    let h = dug [] s (subst (AreCellsOf s) (sym (append-nil old)) k) n in
    let x = c.in_ok-filled_hole.ensures.filled in
    exchanged s c.args.p n hole.gone.items (map (λ f. cell_over f c.args.p) hole.rim.items) x.rest
    (cells_of_slots c.filled_hole.new.net) (moved_cells s old (x.rest ++ hole.gone.items) x.taken k)
    (filled s c.args.p k.solid n hole.gone.items hole.rim.items h) x.filled

pub returns-in_err-could-clause-refused : goal.returns-in_err-could-clause-refused
returns-in_err-could-clause-refused c = on_err c.from_residual.result (moved_none (cells_of_slots c.args.net.now))

pub returns-in_err-could-clause-room_back : goal.returns-in_err-could-clause-room_back
returns-in_err-could-clause-room_back c = on_err c.from_residual.result c.requires.room

-- nothing was taken out yet
pub returns-in_err-filled_hole-clause-refused : goal.returns-in_err-filled_hole-clause-refused
returns-in_err-filled_hole-clause-refused c =
    let old = cells_of_slots c.args.net.now in
    on_err c.from_residual-in_err-filled_hole.result
    (subst (AreMoved old) (sym c.in_err-filled_hole.ensures.refused) (moved_none old))
