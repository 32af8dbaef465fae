use Rattle.gabriel_faces.proofs.JudgedByLink.{judged_by_link}
use Rattle.gabriel_faces.proofs.laws.judged_by_link.Goals as goal

pub returns : goal.returns
returns c = judged_by_link
