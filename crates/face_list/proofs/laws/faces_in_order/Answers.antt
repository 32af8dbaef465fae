use Rattle.face_list.proofs.FaceLaws.{points_in_order, point_is_listed, listed_is_point, parts_in_order, part_is_listed}
use Rattle.face_list.proofs.FaceLaws.{listed_is_part}
use Rattle.face_list.proofs.laws.faces_in_order.Goals as goal

pub returns-clause-points : goal.returns-clause-points
returns-clause-points c = points_in_order

pub returns-clause-point : goal.returns-clause-point
returns-clause-point c = point_is_listed

pub returns-clause-point_only : goal.returns-clause-point_only
returns-clause-point_only c = listed_is_point

pub returns-clause-parts : goal.returns-clause-parts
returns-clause-parts c = parts_in_order

pub returns-clause-part : goal.returns-clause-part
returns-clause-part c = part_is_listed

pub returns-clause-part_only : goal.returns-clause-part_only
returns-clause-part_only c = listed_is_part
