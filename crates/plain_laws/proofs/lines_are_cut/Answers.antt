use Rattle.plain_laws.proofs.Segments.{one_segment, segments_apart, segments_keep}
use Rattle.plain_laws.proofs.lines_are_cut.Goals as goal

pub returns-clause-keeps : goal.returns-clause-keeps
returns-clause-keeps c = segments_keep

pub returns-clause-apart : goal.returns-clause-apart
returns-clause-apart c = segments_apart

pub returns-clause-one : goal.returns-clause-one
returns-clause-one c = one_segment
