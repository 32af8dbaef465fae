use Rattle.gabriel_faces.proofs.Opposite.{opposite_points}
use Rattle.gabriel_faces.proofs.Links.{listed_is_face, link_is_link}
use Rattle.gabriel_faces.proofs.laws.faces_and_links.Goals as goal

pub returns-clause-face : goal.returns-clause-face
returns-clause-face c = listed_is_face

pub returns-clause-link : goal.returns-clause-link
returns-clause-link c = link_is_link

pub returns-clause-of_triangle : goal.returns-clause-of_triangle
returns-clause-of_triangle c = opposite_points
