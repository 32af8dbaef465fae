-- What callers see of a reader or a writer that counts its faults.
use Rattle.std.specs.Prelude.{ℕ, List, Result, is_err, if◌then◌else◌}
use Rattle.std.specs.declared.option.Option.{Option}
use Rattle.byte_ends.specs.Ends.{one_more}

-- the bytes that it tells of, those that are left or those that it holds, and its count of faults
pub record Counted : Type 0 where
  pub told : Option (List ℕ)
  pub faults : ℕ

-- the count after a call: one more where the call failed
abbrev pub count_after : {T E : Type 0} → ℕ → Result T E → ℕ
count_after faults result = if is_err result then one_more faults else faults
