-- What is left gives what all digits give, and the value so far is kept below the bound.
use Rattle.std.proofs.Common.{◌≡◌, ◌≤◌, drop}
use Rattle.text_readings.specs.Scanning.{far, digits_from}
use Rattle.text_readings.proofs.scan.digits_of.Given as goal

abbrev pub invariant-loop-b : goal.invariant-loop-b
invariant-loop-b l = record {
  rest : digits_from l.value (drop l.b-index l.text) ≡ digits_from 0 l.text;
  bound : l.value ≤ far;
}
