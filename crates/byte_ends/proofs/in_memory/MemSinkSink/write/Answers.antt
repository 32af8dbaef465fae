use Rattle.std.proofs.Common.{◌≡◌, ap, ◌∙◌, ◌++◌, ◌-◌, take, length}
use Rattle.byte_ends.specs.InMemory.{Calls, SinkState, after_fault}
use Rattle.byte_ends.proofs.MemoryEnds.{answered, answered_only, faulted, moved_count, moved_some, moved_within}
use Rattle.byte_ends.proofs.MemoryEnds.{some_left, still_fits, took_is, within_memory, within_room}
use Rattle.byte_ends.proofs.Told.{no_error}
use Rattle.byte_ends.proofs.in_memory.MemSinkSink.write.Goals.{In-Ok}
use Rattle.byte_ends.proofs.in_memory.MemSinkSink.write.Goals as goal

-- ---- a call that fails

pub returns-then-left-eq0-clause-bytes : goal.returns-then-left-eq0-clause-bytes
returns-then-left-eq0-clause-bytes c = ap (λ (s : SinkState). s.bytes) c.self.view_is

pub returns-then-left-eq0-clause-cause : goal.returns-then-left-eq0-clause-cause
returns-then-left-eq0-clause-cause c =
    faulted _ _ _ (ap (λ (s : SinkState). s.calls) c.self.view_is) c.note_fault.ensures.after c.note_fault.ensures.later

pub returns-then-left-eq0-clause-fault : goal.returns-then-left-eq0-clause-fault
returns-then-left-eq0-clause-fault c =
    ap (λ (k : Calls). record {
      bytes = c.self.inside.bytes.items;
      room = c.self.inside.room;
      step = c.self.inside.step;
      calls = k;
    }) c.note_fault.ensures.after
    ∙ ap (λ (s : SinkState). record s { calls = after_fault s.calls }) c.self.view_is

-- ---- a call that takes bytes

pub returns-clause-bytes : goal.returns-clause-bytes
returns-clause-bytes c =
    c.in-Ok.ensures.items ∙ ap (λ (s : SinkState). s.bytes ++ take c.min-count.result c.args.piece.now) c.self.view_is

pub returns-clause-bound : goal.returns-clause-bound
returns-clause-bound c = (moved_within _ _ _ _ _ c.min-count.ensures c.min.ensures).0

pub returns-clause-progress : goal.returns-clause-progress
returns-clause-progress c h =
    moved_some _ _ _ _ _ c.min-count.ensures c.min.ensures c.self.invariant.0 (some_left _ c.if-left-eq0.false) h

pub returns-clause-cause : goal.returns-clause-cause
returns-clause-cause c = answered _ _ _ (ap (λ (s : SinkState). s.calls) c.self.view_is) c.note_answer.ensures

-- the length that the code takes is that of the bytes
same_length : (c : In-Ok) → c.len.result ≡ length c.self.inside.bytes.items
same_length c = c.len.ensures ∙ c.self.inside.bytes.ok.0

-- the count is how many bytes of the piece are held now
pub returns-clause-count : goal.returns-clause-count
returns-clause-count c =
    moved_count
    _
    _
    _
    _
    _
    c.min-count.ensures
    c.min.ensures
    _
    _
    (ap (λ (s : SinkState). s.step) c.self.view_is)
    (ap (λ n. c.self.inside.room - n) (same_length c) ∙ ap (λ (s : SinkState). s.room - length s.bytes) c.self.view_is)

pub returns-clause-fails : goal.returns-clause-fails
returns-clause-fails c =
    answered_only _ _ _ _ _ c.self.view_is c.if-next_fails.ensures.1
    (λ e. c.if-left-eq0.false (ap (λ n. c.self.inside.room - n) (same_length c) ∙ e))

pub returns-clause-taken : goal.returns-clause-taken
returns-clause-taken c =
    took_is _ c.args.piece.now _ _ _ c.min-count.result _ _ _ c.self.view_is c.in-Ok.ensures.items c.note_answer.ensures

pub invariant_of-self-2 : goal.invariant_of-self-2
invariant_of-self-2 c = (
  c.self.invariant.0,
  within_room c.args.piece.now _ _ _ _ c.self.invariant.1 c.len.ensures
      (moved_within _ _ _ _ _ c.min-count.ensures c.min.ensures).1 _ c.in-Ok.ensures.len,
  still_fits _ _ _ c.self.invariant.2 c.in-Ok.ensures.capacity,
)

pub unreachable-requires : goal.unreachable-requires
unreachable-requires c =
    no_error
    (c.in-Err.ensures.succeeds (within_memory c.args.piece.now _ _ _ _ c.self.invariant.1 c.len.ensures
    (moved_within _ _ _ _ _ c.min-count.ensures c.min.ensures).1 _ c.self.invariant.2))
