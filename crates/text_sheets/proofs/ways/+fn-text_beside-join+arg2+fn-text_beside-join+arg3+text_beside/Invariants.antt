use Rattle.std.proofs.Common.{◌-◌}
use Rattle.text_sheets.proofs.ways.+fn-text_beside-join+arg2+fn-text_beside-join+arg3+text_beside.Given as goal

abbrev pub decreases-join+arg2 : goal.decreases-join+arg2
decreases-join+arg2 g l = l.middle - l.from

abbrev pub decreases-join+arg3 : goal.decreases-join+arg3
decreases-join+arg3 g l = l.to - l.middle

abbrev pub decreases-text_beside : goal.decreases-text_beside
decreases-text_beside g l = l.to - l.from
