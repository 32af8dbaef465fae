use Rattle.face_list.proofs.Failing.{no_value}
use Rattle.face_list.proofs.faces.Goals as goal

pub returns-in_err-number_of : goal.returns-in_err-number_of
returns-in_err-number_of g c =
    let r = c.from_residual.result in
    let f = c.from_residual.ensures.0 in
    record { points = no_value _ r f; pairs = no_value _ r f; triples = no_value _ r f; cells = no_value _ r f }

pub returns-in_err-points : goal.returns-in_err-points
returns-in_err-points g c =
    let r = c.from_residual-in_err-points.result in
    let f = c.from_residual-in_err-points.ensures.0 in
    record { points = no_value _ r f; pairs = no_value _ r f; triples = no_value _ r f; cells = no_value _ r f }

pub returns-in_err-pairs : goal.returns-in_err-pairs
returns-in_err-pairs g c =
    let r = c.from_residual-in_err-pairs.result in
    let f = c.from_residual-in_err-pairs.ensures.0 in
    record { points = no_value _ r f; pairs = no_value _ r f; triples = no_value _ r f; cells = no_value _ r f }
