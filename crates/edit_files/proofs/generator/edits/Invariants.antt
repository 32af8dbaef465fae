-- the lines so far, and the state behind their draws
use Rattle.std.proofs.Common.{◌≡◌, ◌*◌, ◌-◌, ◌/◌}
use Rattle.std.specs.Prelude.{map}
use Rattle.std.specs.List.{range_with_len}
use Rattle.edit_files.specs.Generator.{edit_line, state_after}
use Rattle.edit_files.proofs.generator.edits.Given as goal

abbrev pub invariant-loop-before : goal.invariant-loop-before
invariant-loop-before l =
    record {
      lines : l.edits.items ≡ map (edit_line l.start) (range_with_len 1 l.before);
      state : l.draws.state ≡ state_after l.start (3 * (l.before - l.before / 4));
    }
