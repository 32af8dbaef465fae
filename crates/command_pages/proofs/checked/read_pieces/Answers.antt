use Rattle.std.proofs.Common.{◌∙◌, ◌-◌, ap, arith, inl, inr, length, subst, ◌≡◌, ◌≤◌, ℕ}
use Rattle.std.specs.Prelude.{Ok}
use Rattle.command_pages.proofs.PiecesRead.{HasRoom, all_read, early_read, full, none_read, not_end, not_err, not_full}
use Rattle.command_pages.proofs.PiecesRead.{piece_within, read_on, reader_read, left_room, reads_so, some_room}
use Rattle.command_pages.proofs.PiecesRead.{told_past, wanting_read}
use Rattle.command_pages.proofs.checked.read_pieces.Goals as goal

pub loop-room-init : goal.loop-room-init
loop-room-init g c = record {
  read = none_read (g.S.Source.left c.args.src.now) c.new-reader.result c.new-reader.ensures;
  later = omega arith;
}

pub returns-in_err-reached-clause-reads : goal.returns-in_err-reached-clause-reads
returns-in_err-reached-clause-reads g c =
    let read = c.read_to_limit.ensures in
    let empty = c.clear.ensures.items in
    let asked : c.min-most.result ≤ c.loop-room.room = omega (arith, c.min-most.ensures) in
    let within = piece_within _ _ _ _ _ read.taken empty in
    reads_so _ _ _ _ _
    (read_on _ _ _ _ c.loop-room.room c.min-most.result _ _ c.loop-room.invariant.read asked empty read.taken)
    (inl (early_read c.from_residual.result c.in_err-reached.field-0.0 c.from_residual.ensures.1))
    (inl (some_room c.loop-room.room c.min-most.result (length c.read_to_limit.new.bytes.items) asked within
    (not_full c.clear.new.self c.read_to_limit.new.bytes c.min-most.result empty read.limit.1
    (not_err c.read_to_limit.result _ c.in_err-reached.was))))

pub returns-in_err-reader-clause-reads : goal.returns-in_err-reader-clause-reads
returns-in_err-reader-clause-reads g c =
    let read = c.read_to_limit.ensures in
    let empty = c.clear.ensures.items in
    let asked : c.min-most.result ≤ c.loop-room.room = omega (arith, c.min-most.ensures) in
    let wanting = wanting_read c.from_residual-in_err-reader.result c.from_residual-in_err-reader.ensures.1 in
    reads_so _ _ _ _ _
    (read_on _ _ _ _ c.loop-room.room c.min-most.result _ _ c.loop-room.invariant.read asked empty read.taken)
    (inl (inl wanting)) (inr wanting)

-- at the end of the source the reader has taken all that it told
pub returns-in-End-clause-taken : goal.returns-in-End-clause-taken
returns-in-End-clause-taken g c =
    let read = c.read_to_limit.ensures in
    let empty = c.clear.ensures.items in
    let asked : c.min-most.result ≤ c.loop-room.room = omega (arith, c.min-most.ensures) in
    let ended = c.in_ok-reached.was ∙ ap Ok c.in-End.is in
    let within = piece_within _ _ _ _ _ read.taken empty in
    all_read _ _ _ (c.loop-room.room - length c.read_to_limit.new.bytes.items)
    (reader_read _ _ _ _ _ _ _ _ c.loop-room.room c.min-most.result
    (c.loop-room.room - length c.read_to_limit.new.bytes.items) c.loop-room.invariant.read read.taken empty
    (left_room c.loop-room.room c.min-most.result (length c.read_to_limit.new.bytes.items) asked within)
    c.deref.ensures.value c.in_ok-reader.ensures)
    (some_room c.loop-room.room c.min-most.result (length c.read_to_limit.new.bytes.items) asked within (not_full
    c.clear.new.self c.read_to_limit.new.bytes c.min-most.result empty read.limit.1
    (not_end c.read_to_limit.result ended))) (read.end ended)

pub returns-in-End-clause-reads : goal.returns-in-End-clause-reads
returns-in-End-clause-reads g c =
    let read = c.read_to_limit.ensures in
    let empty = c.clear.ensures.items in
    let asked : c.min-most.result ≤ c.loop-room.room = omega (arith, c.min-most.ensures) in
    let ended = c.in_ok-reached.was ∙ ap Ok c.in-End.is in
    let within = piece_within _ _ _ _ _ read.taken empty in
    reads_so _ _ _ _ _
    (read_on _ _ _ _ c.loop-room.room c.min-most.result _ _ c.loop-room.invariant.read asked empty read.taken)
    (inr (read.end ended))
    (inl (some_room c.loop-room.room c.min-most.result (length c.read_to_limit.new.bytes.items) asked within
    (not_full c.clear.new.self c.read_to_limit.new.bytes c.min-most.result empty read.limit.1
    (not_end c.read_to_limit.result ended))))

pub loop-room-preserved : goal.loop-room-preserved
loop-room-preserved g c =
    let read = c.read_to_limit.ensures in
    let empty = c.clear.ensures.items in
    let asked : c.min-most.result ≤ c.loop-room.room = omega (arith, c.min-most.ensures) in
    let so_long = full c.clear.new.self c.read_to_limit.new.bytes c.min-most.result empty read.limit.0
    (c.in_ok-reached.was ∙ ap Ok c.in-Limit.is) in
    record {
      read = reader_read _ _ _ _ _ _ _ _ c.loop-room.room c.min-most.result
          (c.loop-room.room - c.min-most.result) c.loop-room.invariant.read read.taken empty
          (omega (arith, so_long, asked)) c.deref.ensures.value c.in_ok-reader.ensures;
      later = let before = c.loop-room.invariant.later in omega (arith, before, read.later);
    }

pub returns-clause-stop : goal.returns-clause-stop
returns-clause-stop g c =
    let read = c.loop-room.invariant.read in
    let none : c.loop-room.room ≡ 0 = let l = c.loop-room-test.false in omega (arith, l) in
    let old = g.S.Source.left c.args.src.now in
    let now = g.S.Source.left c.loop-room.src in
    told_past old now c.loop-room.reader (subst (λ (n : ℕ). HasRoom old now c.loop-room.reader n) none read)
