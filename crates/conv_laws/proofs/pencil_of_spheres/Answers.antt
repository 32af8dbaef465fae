use Rattle.conv_laws.proofs.Affine.{pencil, pencil_in_plane}
use Rattle.conv_laws.proofs.pencil_of_spheres.Goals as goal

pub returns-clause-relation : goal.returns-clause-relation
returns-clause-relation c = pencil

pub returns-clause-in_plane : goal.returns-clause-in_plane
returns-clause-in_plane c = pencil_in_plane
