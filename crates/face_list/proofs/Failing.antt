-- An error owes nothing of what is told of Ok.
use Rattle.std.specs.Prelude.{Result, Ok, Err, IfOk, OnOk}
use Rattle.std.specs.Result.{IsErr}

-- what is told of the value of an Ok holds of an error
pub no_value : {T E : Type 0} (P : T → Type 0) (r : Result T E) → IsErr r → IfOk r P
no_value P (Ok v) f = cc
no_value P (Err e) f = tt

-- and so does what is told where there is an Ok
pub not_ok : {T E : Type 0} (P : Type 0) (r : Result T E) → IsErr r → OnOk r P
not_ok P (Ok v) f = cc
not_ok P (Err e) f = tt
