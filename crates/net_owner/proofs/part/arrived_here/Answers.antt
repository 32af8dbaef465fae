use Rattle.std.proofs.lemmas.Bool.{MatchBool-at_true}
use Rattle.net_digs.specs.Digs.{IsHoleOf}
use Rattle.cell_slots.specs.Nets.{cells_of_slots}
use Rattle.cell_slots.specs.Parts.{InEach}
use Rattle.net_digs.proofs.Cited.{rim_apart}
use Rattle.cell_slots.proofs.Cited.{first_distinct}
use Rattle.net_owner.proofs.PartWith.{come_to, part_new}
use Rattle.net_owner.proofs.part.arrived_here.Goals as goal

pub hole_of-requires : goal.hole_of-requires
hole_of-requires c = part_new c.args.p (cells_of_slots c.args.net.now) c.requires.new

pub filled_hole-requires-clause-apart : goal.filled_hole-requires-clause-apart
filled_hole-requires-clause-apart c =
    let r = c.requires.new in
    let hole = c.hole_of.new.hole in
    let dug : InEach c.args.p (cells_of_slots c.args.net.now)
    (λ s. IsHoleOf s c.args.p hole.gone.items hole.rim.items) =
    MatchBool-at_true _ _ c.if-not-could.false c.in_ok-could.ensures.hole in
    rim_apart r.set c.args.p r.cells_of.solid r.new hole.gone.items hole.rim.items (dug r.others r.set r.cells_of r.new)

pub filled_hole-requires-clause-once : goal.filled_hole-requires-clause-once
filled_hole-requires-clause-once c =
    let r = c.requires.new in first_distinct (cells_of_slots c.args.net.now) r.others r.cells_of.once

pub returns-clause-apart : goal.returns-clause-apart
returns-clause-apart c =
    let r = c.requires.new in
    let hole = c.hole_of.new.hole in
    let dug : InEach c.args.p (cells_of_slots c.args.net.now)
    (λ s. IsHoleOf s c.args.p hole.gone.items hole.rim.items) =
    MatchBool-at_true _ _ c.if-not-could.false c.in_ok-could.ensures.hole in
    rim_apart r.set c.args.p r.cells_of.solid r.new hole.gone.items hole.rim.items (dug r.others r.set r.cells_of r.new)

pub returns-clause-arrived : goal.returns-clause-arrived
returns-clause-arrived c =
    let hole = c.hole_of.new.hole in
    let dug : InEach c.args.p (cells_of_slots c.args.net.now)
    (λ s. IsHoleOf s c.args.p hole.gone.items hole.rim.items) =
    MatchBool-at_true _ _ c.if-not-could.false c.in_ok-could.ensures.hole in
    come_to c.args.p (cells_of_slots c.args.net.now) hole.gone.items hole.rim.items
    (cells_of_slots c.filled_hole.new.net) dug c.in_ok-filled_hole.ensures.filled
