use Rattle.std.proofs.Common.{ap, not, sym}
use Rattle.list_laws.proofs.Cited.{among_true}
use Rattle.cell_stars.proofs.Marked.{not_marked}
use Rattle.cell_stars.proofs.marks.is_unmarked.Goals as goal

pub returns-then-mark-eq0 : goal.returns-then-mark-eq0
returns-then-mark-eq0 c a m = ap not (not_marked c.args.marks.now c.args.list.now c.args.i m c.if-mark-eq0.true)

pub returns-then-is_at_mark : goal.returns-then-is_at_mark
returns-then-is_at_mark c a m =
    sym (ap not (among_true c.args.i c.args.list.now (c.is_at_mark.ensures c.if-is_at_mark.true)))
