use Rattle.std.proofs.Common.{inl, refl, subst, List, map, ◌++◌}
use Rattle.std.proofs.lemmas.Bool.{MatchBool-at_false, MatchBool-at_true}
use Rattle.point_order.specs.declared.cell.Facet.{Facet}
use Rattle.hole_laws.specs.Lists.{cell_over}
use Rattle.net_digs.specs.Digs.{IsHoleOf}
use Rattle.cell_slots.specs.Nets.{AreMoved, AreWithAll, cells_of_slots}
use Rattle.cell_slots.specs.Parts.{InEach}
use Rattle.net_digs.proofs.Filling.{exchanged_beside, filled, rim_apart}
use Rattle.cell_slots.proofs.Cited.{moved_cells, moved_first}
use Rattle.net_digs.proofs.grow.insert.Goals as goal

pub returns-then-not-could : goal.returns-then-not-could
returns-then-not-could c = (MatchBool-at_false _ _ c.if-not-could.true c.in_ok-could.ensures.hole, refl)

pub take_all-requires : goal.take_all-requires
take_all-requires c = rw c.deref.ensures.value c.in_ok-could.ensures.picked

pub put_all-requires : goal.put_all-requires
put_all-requires c =
    let w = c.requires.0 in
    let hole = c.hole_of.new.hole in
    let dug : InEach c.args.p (cells_of_slots c.args.net.now)
    (λ s. IsHoleOf s c.args.p hole.gone.items hole.rim.items) =
    MatchBool-at_true _ _ c.if-not-could.false c.in_ok-could.ensures.hole in
    rw c.deref-3.ensures.value (rim_apart w.set c.args.p w.cells_of.solid c.requires.1 hole.gone.items hole.rim.items
    (dug w.others w.set w.cells_of c.requires.1))

pub returns : goal.returns
returns c others s k a =
    let n = a.each c.args.p (inl refl) in
    let hole = c.hole_of.new.hole in
    let old = cells_of_slots c.args.net.now in
    let rest = cells_of_slots c.take_all.new.net in
    let now = cells_of_slots c.put_all.new.net in
    let dug : InEach c.args.p old (λ s. IsHoleOf s c.args.p hole.gone.items hole.rim.items) =
    MatchBool-at_true _ _ c.if-not-could.false c.in_ok-could.ensures.hole in
    let moved : AreMoved old (rest ++ hole.gone.items) = rw c.deref.ensures.value at c.take_all.ensures.cells in
    exchanged_beside s c.args.p n hole.gone.items (map (λ f. cell_over f c.args.p) hole.rim.items) rest now others
    (moved_cells s (old ++ others) ((rest ++ hole.gone.items) ++ others)
    (moved_first old (rest ++ hole.gone.items) others moved) k)
    (filled s c.args.p k.solid n hole.gone.items hole.rim.items (dug others s k n))
    (subst (λ (l : List Facet). AreWithAll rest (map (λ f. cell_over f c.args.p) l) now) c.deref-3.ensures.value
    c.in_ok-put_all.ensures)
