use Rattle.std.proofs.Common.{ap, sym, subst, ◌∙◌, ◌++◌, drop, take, refl, length}
use Rattle.byte_ends.specs.InMemory.{Calls, NextFails, SourceState, after_fault}
use Rattle.byte_ends.proofs.MemoryEnds.{answered, faulted, gave_bound, gave_end, gave_front, gave_is, moved_count}
use Rattle.byte_ends.proofs.MemoryEnds.{moved_within}
use Rattle.byte_ends.proofs.in_memory.MemSourceSource.read.Goals as goal

-- ---- a call that fails

pub returns-then-next_fails-clause-bytes : goal.returns-then-next_fails-clause-bytes
returns-then-next_fails-clause-bytes c = ap (λ (s : SourceState). s.left) c.self.view_is

pub returns-then-next_fails-clause-cause : goal.returns-then-next_fails-clause-cause
returns-then-next_fails-clause-cause c =
    faulted _ _ _ (ap (λ (s : SourceState). s.calls) c.self.view_is) c.note_fault.ensures.after
    c.note_fault.ensures.later

pub returns-then-next_fails-clause-fails : goal.returns-then-next_fails-clause-fails
returns-then-next_fails-clause-fails c = (
  λ _. subst NextFails (ap (λ (s : SourceState). s.calls) c.self.view_is) (c.if-next_fails.ensures.0 refl),
  λ _. refl,
)

pub returns-then-next_fails-clause-fault : goal.returns-then-next_fails-clause-fault
returns-then-next_fails-clause-fault c =
    ap (λ (k : Calls). record { left = c.self.inside.left.now; step = c.self.inside.step; calls = k })
    c.note_fault.ensures.after
    ∙ ap (λ (s : SourceState). record s { calls = after_fault s.calls }) c.self.view_is

-- ---- a call that gives bytes

pub returns-clause-bound : goal.returns-clause-bound
returns-clause-bound c =
    gave_bound c.self.inside.left.now c.copy_from_slice.new.self (drop c.min-count.result c.args.buf.now)
    c.min-count.result c.copy_from_slice.ensures.after (moved_within _ _ _ _ _ c.min-count.ensures c.min.ensures).1

pub returns-clause-bytes : goal.returns-clause-bytes
returns-clause-bytes c = (
  gave_front c.self.inside.left.now c.copy_from_slice.new.self (drop c.min-count.result c.args.buf.now)
      c.min-count.result c.copy_from_slice.ensures.after (moved_within _ _ _ _ _ c.min-count.ensures c.min.ensures).1 _
      (ap (λ (s : SourceState). s.left) c.self.view_is),
  gave_end c.self.inside.left.now c.copy_from_slice.new.self c.args.buf.now c.min-count.result _ _
      c.copy_from_slice.ensures.after c.min-count.ensures c.min.ensures c.self.invariant,
)

pub returns-clause-cause : goal.returns-clause-cause
returns-clause-cause c = answered _ _ _ (ap (λ (s : SourceState). s.calls) c.self.view_is) c.note_answer.ensures

pub returns-clause-fails : goal.returns-clause-fails
returns-clause-fails c = (
  λ e. absurd (cc e),
  λ h. c.if-next_fails.ensures.1 (subst NextFails
      (sym (ap (λ (s : SourceState). s.calls) c.self.view_is)) h),
)

pub returns-clause-count : goal.returns-clause-count
returns-clause-count c =
    moved_count _ _ _ _ _ c.min-count.ensures c.min.ensures _ _ (ap (λ (s : SourceState). s.step) c.self.view_is)
    (ap (λ (s : SourceState). length s.left) c.self.view_is)

pub returns-clause-given : goal.returns-clause-given
returns-clause-given c =
    gave_is c.self.inside.left.now c.self.inside.step c.min-count.result _ _ _ c.self.view_is c.note_answer.ensures

pub returns-clause-copied : goal.returns-clause-copied
returns-clause-copied c =
    ap (λ l. l ++ drop c.min-count.result c.args.buf.now) c.copy_from_slice.ensures.after
    ∙ ap (λ (s : SourceState). take c.min-count.result s.left ++ drop c.min-count.result c.args.buf.now) c.self.view_is
