use Rattle.hole_laws.proofs.Cited.{four_have_five}
use Rattle.insertion.proofs.laws.complex_of_four.Goals as goal

pub returns : goal.returns
returns c = four_have_five
