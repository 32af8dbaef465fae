use Rattle.del_laws.proofs.Recognised.{closed_list_is_complex, complex_is_closed_list}
use Rattle.del_laws.proofs.closed_lists.Goals as goal

pub returns-clause-complex : goal.returns-clause-complex
returns-clause-complex c = closed_list_is_complex

pub returns-clause-closed : goal.returns-clause-closed
returns-clause-closed c = complex_is_closed_list
