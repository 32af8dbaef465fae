use Rattle.std.proofs.Common.{take, ◌<◌, arith}
use Rattle.std.proofs.KnownBytes.{Keeps-refl}
use Rattle.std.proofs.lemmas.Result.{IfOk-from_err}
use Rattle.byte_ends.proofs.Told.{fits_front, front_within, grown_by_front, longer_by_front, no_error, no_other}
use Rattle.byte_ends.proofs.Told.{no_value, on_error, same_count, same_value, some_part, takes_none, within_part}
use Rattle.byte_ends.proofs.loops.read_once.Goals as goal

-- a chunk has room
some_bytes : 0 < 4096
some_bytes = omega arith

-- ---- where there is no memory

pub returns-in_err-reserve-clause-taken : goal.returns-in_err-reserve-clause-taken
returns-in_err-reserve-clause-taken g c =
    takes_none c.args.room (Keeps-refl (g.S.Source.left c.args.source.now)) c.in_err-reserve.ensures.items

pub returns-in_err-reserve-clause-count : goal.returns-in_err-reserve-clause-count
returns-in_err-reserve-clause-count g c = IfOk-from_err c.from_residual.result _ c.from_residual.ensures.0

pub returns-in_err-reserve-clause-bound : goal.returns-in_err-reserve-clause-bound
returns-in_err-reserve-clause-bound g c = IfOk-from_err c.from_residual.result _ c.from_residual.ensures.0

pub returns-in_err-reserve-clause-err : goal.returns-in_err-reserve-clause-err
returns-in_err-reserve-clause-err g c = on_error c.from_residual.result c.in_err-reserve.ensures.len

pub returns-in_err-reserve-clause-end : goal.returns-in_err-reserve-clause-end
returns-in_err-reserve-clause-end g c = no_value c.from_residual.result c.from_residual.ensures.0

pub returns-in_err-reserve-clause-later : goal.returns-in_err-reserve-clause-later
returns-in_err-reserve-clause-later g c = same_count (g.S.Source.faults c.args.source.now)

pub returns-in_err-reserve-clause-fault : goal.returns-in_err-reserve-clause-fault
returns-in_err-reserve-clause-fault g c = no_other c.from_residual.result c.from_residual.ensures.1 (λ e. cc e)

-- ---- where the source failed

pub returns-in_err-count-clause-taken : goal.returns-in_err-count-clause-taken
returns-in_err-count-clause-taken g c =
    takes_none c.args.room c.in_err-count.ensures.bytes c.in_ok-reserve.ensures.items

pub returns-in_err-count-clause-count : goal.returns-in_err-count-clause-count
returns-in_err-count-clause-count g c =
    IfOk-from_err c.from_residual-in_err-count.result _ c.from_residual-in_err-count.ensures.0

pub returns-in_err-count-clause-bound : goal.returns-in_err-count-clause-bound
returns-in_err-count-clause-bound g c =
    IfOk-from_err c.from_residual-in_err-count.result _ c.from_residual-in_err-count.ensures.0

pub returns-in_err-count-clause-err : goal.returns-in_err-count-clause-err
returns-in_err-count-clause-err g c = on_error c.from_residual-in_err-count.result c.in_ok-reserve.ensures.len

pub returns-in_err-count-clause-end : goal.returns-in_err-count-clause-end
returns-in_err-count-clause-end g c =
    no_value c.from_residual-in_err-count.result c.from_residual-in_err-count.ensures.0

pub returns-in_err-count-clause-later : goal.returns-in_err-count-clause-later
returns-in_err-count-clause-later g c = c.in_err-count.ensures.cause.later

pub returns-in_err-count-clause-fault : goal.returns-in_err-count-clause-fault
returns-in_err-count-clause-fault g c e = c.in_err-count.ensures.cause.failed

-- ---- where bytes came

pub returns-clause-bound : goal.returns-clause-bound
returns-clause-bound g c =
    within_part c.read.new.buf _ c.in_ok-count.count c.min-part.result c.args.room c.in_ok-count.ensures.bound.0
    c.read.auto.buf 4096 c.min-part.ensures

pub returns-clause-taken : goal.returns-clause-taken
returns-clause-taken g c =
    let count = c.in_ok-count.count in
    record {
      taken = take count c.read.new.buf;
      consumed = c.in_ok-count.ensures.bytes.0;
      within = front_within c.read.new.buf count c.args.room (returns-clause-bound g c);
      kept = grown_by_front c.read.new.buf _ count c.in-Ok.ensures.items c.in_ok-reserve.ensures.items
          c.in_ok-count.ensures.bound.0;
    }

pub returns-clause-count : goal.returns-clause-count
returns-clause-count g c =
    longer_by_front c.read.new.buf _ c.in_ok-count.count c.in-Ok.ensures.len c.in_ok-reserve.ensures.len
    c.in_ok-count.ensures.bound.0

pub returns-clause-err : goal.returns-clause-err
returns-clause-err g c = tt

pub returns-clause-end : goal.returns-clause-end
returns-clause-end g c e =
    c.in_ok-count.ensures.bytes.1
    (same_value e)
    (some_part c.read.new.buf _ c.in_ok-count.count c.min-part.result c.args.room c.in_ok-count.ensures.bound.0
    c.read.auto.buf c.min-part.ensures c.requires some_bytes)

pub returns-clause-later : goal.returns-clause-later
returns-clause-later g c = c.in_ok-count.ensures.cause.later

pub returns-clause-fault : goal.returns-clause-fault
returns-clause-fault g c e = absurd (cc e)

pub unreachable-requires : goal.unreachable-requires
unreachable-requires g c =
    no_error
    (c.in-Err.ensures.succeeds (fits_front c.read.new.buf _ c.in_ok-count.count c.min-part.result c.args.room
    c.in_ok-count.ensures.bound.0 c.read.auto.buf _ _ _ c.in_ok-reserve.ensures.ok))
