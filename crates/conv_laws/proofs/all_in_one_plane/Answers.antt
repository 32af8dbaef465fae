use Rattle.conv_laws.proofs.Solidity.{one_plane, only_on_line, line_in_plane, parallel_vectors, one_line}
use Rattle.conv_laws.proofs.all_in_one_plane.Goals as goal

pub returns-clause-one_plane : goal.returns-clause-one_plane
returns-clause-one_plane c = one_plane

pub returns-clause-only_on_line : goal.returns-clause-only_on_line
returns-clause-only_on_line c = only_on_line

pub returns-clause-line_in_plane : goal.returns-clause-line_in_plane
returns-clause-line_in_plane c = line_in_plane

pub returns-clause-parallel : goal.returns-clause-parallel
returns-clause-parallel c = parallel_vectors

pub returns-clause-one_line : goal.returns-clause-one_line
returns-clause-one_line c = one_line
