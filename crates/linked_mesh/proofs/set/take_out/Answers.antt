use Rattle.std.proofs.Common.{sym, subst, List, ℕ}
use Rattle.std.proofs.lemmas.Bool.{MatchBool-at_false, MatchBool-at_true}
use Rattle.list_laws.proofs.Cited.{among_from}
use Rattle.cell_slots.specs.Clouds.{AreCellsOf}
use Rattle.linked_mesh.proofs.set.take_out.Goals as goal

pub take_point-requires : goal.take_point-requires
take_point-requires c =
    let s = c.args.points.now.keys in
    (s, c.requires.cells, among_from c.args.p s c.requires.there)

pub returns-in_err-is_removed-clause-cells : goal.returns-in_err-is_removed-clause-cells
returns-in_err-is_removed-clause-cells c =
    c.in_err-is_removed.ensures.refused c.args.points.now.keys c.requires.cells

pub remove_from-requires : goal.remove_from-requires
remove_from-requires c = c.requires.cells.solid.set.ascending

pub returns-then-is_removed-clause-solid : goal.returns-then-is_removed-clause-solid
returns-then-is_removed-clause-solid c =
    let s = c.args.points.now.keys in
    let left = MatchBool-at_true _ _ c.if-is_removed.true
    (c.in_ok-is_removed.ensures.taken s c.requires.cells (among_from c.args.p s c.requires.there)) in
    sym left.solid

pub returns-then-is_removed-clause-cells : goal.returns-then-is_removed-clause-cells
returns-then-is_removed-clause-cells c =
    let s = c.args.points.now.keys in
    let left = MatchBool-at_true _ _ c.if-is_removed.true
    (c.in_ok-is_removed.ensures.taken s c.requires.cells (among_from c.args.p s c.requires.there)) in
    subst (λ (k : List ℕ). AreCellsOf k c.take_point.new.linked.cells) (sym c.remove_from.ensures) left.cells_of

pub returns-clause-solid : goal.returns-clause-solid
returns-clause-solid c =
    let s = c.args.points.now.keys in
    let flat = MatchBool-at_false _ _ c.if-is_removed.false
    (c.in_ok-is_removed.ensures.taken s c.requires.cells (among_from c.args.p s c.requires.there)) in
    sym flat.0

pub returns-clause-cells : goal.returns-clause-cells
returns-clause-cells c =
    let s = c.args.points.now.keys in
    let flat = MatchBool-at_false _ _ c.if-is_removed.false
    (c.in_ok-is_removed.ensures.taken s c.requires.cells (among_from c.args.p s c.requires.there)) in
    flat.1
