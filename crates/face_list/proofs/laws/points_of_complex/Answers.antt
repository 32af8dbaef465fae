use Rattle.face_list.proofs.FaceLaws.{points_of_complex}
use Rattle.face_list.proofs.laws.points_of_complex.Goals as goal

pub returns : goal.returns
returns c = points_of_complex
