use Rattle.std.proofs.Common.{subst}
use Rattle.insertion.specs.Searches.{SearchGives}
use Rattle.insertion.specs.declared.search.SearchTurn.{SearchTurn}
use Rattle.insertion.proofs.Searches.{none_lacks}
use Rattle.insertion.proofs.search.cell_in_conflict.Goals as goal

pub unreachable-requires : goal.unreachable-requires
unreachable-requires c =
    let hold = c.args.hold.now in
    let r = c.requires.shown in
    let g = subst (λ (t : SearchTurn). SearchGives hold r.0 c.args.p t) c.in-Need.is
    (c.advance.ensures r.0 r.1 r.2 (c.begin.ensures hold r.0 c.args.p)) in
    none_lacks hold c.in-Need.field-0 c.requires.all g.0

pub advance-requires : goal.advance-requires
advance-requires c =
    let r = c.requires.shown in
    (r.0, r.1, r.2, c.begin.ensures c.args.hold.now r.0 c.args.p)

pub returns : goal.returns
returns c s sh new = c.in-Here.ensures s sh new (c.begin.ensures c.args.hold.now s c.args.p)
