use Rattle.std.proofs.Common.{◌≡◌, ◌∙◌, ap, ℕ, ◌+◌, length, arith, Ok}
use Rattle.std.specs.Prelude.{Result, Vec}
use Rattle.std.specs.Vec.{vec_len}
use Rattle.std.specs.declared.alloc.Global.{Global}
use Rattle.byte_ends.specs.declared.loops.Reached.{Reached}
use Rattle.byte_ends.specs.Ends.{Rose}
use Rattle.command_pages.specs.Run.{input_limit}
use Rattle.command_pages.proofs.Judging.{file_told, past_limit, reads_all, reads_past, unmeshed_told}
use Rattle.command_pages.proofs.edit_file.file_of_source.Goals as goal

-- how far a list has grown, by its length and by its items
grown : (old new : Vec ℕ Global) → length new.items ≡ length old.items + (input_limit + 1) →
    vec_len new ≡ vec_len old + (input_limit + 1)
grown old new l = omega (arith, l, old.ok.0, new.ok.0)

has_grown : (old new : Vec ℕ Global) → vec_len new ≡ vec_len old + (input_limit + 1) →
    length new.items ≡ length old.items + (input_limit + 1)
has_grown old new l = omega (arith, l, old.ok.0, new.ok.0)

not_limit : {E : Type 0} (r : Result Reached E) → r ≡ Ok Reached.End → r ≡ Ok Reached.Limit → ⊥
not_limit r e l = cc

pub returns-in-End-clause-file : goal.returns-in-End-clause-file
returns-in-End-clause-file g c =
    let read = c.in_ok-read_to_limit in
    file_told (g.S.Source.left c.args.src.now) c.new-bytes.result.items c.read_to_limit.new.bytes.items
    c.deref.result.now c.new-bytes.ensures.items c.deref.ensures.value
    (c.read_to_limit.ensures.whole (read.was ∙ ap Ok c.in-End.is)) c.judge.result c.judge.ensures.file

pub returns-in-End-clause-stop : goal.returns-in-End-clause-stop
returns-in-End-clause-stop g c =
    let read = c.in_ok-read_to_limit in
    unmeshed_told (g.S.Source.left c.args.src.now) (Rose (g.S.Source.faults c.args.src.now)
    (g.S.Source.faults c.read_to_limit.new.source)) c.new-bytes.result.items c.read_to_limit.new.bytes.items
    c.deref.result.now
    c.new-bytes.ensures.items c.deref.ensures.value (c.read_to_limit.ensures.whole (read.was ∙ ap Ok c.in-End.is))
    c.judge.result c.judge.ensures.stop

pub returns-in-End-clause-reads : goal.returns-in-End-clause-reads
returns-in-End-clause-reads g c =
    let read = c.in_ok-read_to_limit in
    let ended = read.was ∙ ap Ok c.in-End.is in
    reads_all c.new-bytes.result.items _ c.read_to_limit.ensures.taken (c.read_to_limit.ensures.end ended)
    (λ l. not_limit c.read_to_limit.result ended (c.read_to_limit.ensures.limit.1
    (grown c.new-bytes.result c.read_to_limit.new.bytes l)))

pub returns : goal.returns
returns g c =
    let read = c.in_ok-read_to_limit in
    let l = has_grown c.new-bytes.result c.read_to_limit.new.bytes
    (c.read_to_limit.ensures.limit.0 (read.was ∙ ap Ok c.in-Limit.is)) in
    let t = c.read_to_limit.ensures.taken in
    record {
      file = tt;
      stop = past_limit _ _ _ _ t l;
      reads = reads_past t l;
      to_its_end = λ o. cc;
      later = c.read_to_limit.ensures.later;
    }
