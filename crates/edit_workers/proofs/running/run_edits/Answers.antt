use Rattle.std.proofs.Common.{rules, ◌≡◌, ◌<◌, ◌∙◌, arith, ap, get_or, length, subst, sym, List}
use Rattle.edit_lists.specs.declared.lists.List as lists
use Rattle.edit_lists.specs.declared.lists.Segment.{Segment}
use Rattle.edit_lists.specs.Dealing.{CanBeDone, count_in_all, pairs_in}
use Rattle.edit_workers.specs.Running.{IsSegmentRun}
use Rattle.edit_workers.proofs.Segments.{of_segment, room_next, run_all, run_next, run_nothing}
use Rattle.edit_workers.proofs.running.run_edits.Goals as goal

pub loop-segment-init : goal.loop-segment-init
loop-segment-init g c = record { run = run_nothing c.args.mesh.history; grid = search rules }

pub run_segment-requires-clause-lists : goal.run_segment-requires-clause-lists
run_segment-requires-clause-lists g c κs within =
    let segments = c.args.lists.now.segments.items in
    let n = c.loop-segment.segment-index in
    let x = c.segment-item.result in
    subst (λ (l : List lists.List). CanBeDone (pairs_in l)) (sym c.deref.ensures.value)
    (of_segment CanBeDone segments n x
    (subst (λ (l : List Segment). n < length l) c.deref-segment-items.ensures.value c.loop-segment-test.true)
    (subst (λ (l : List Segment). x ≡ get_or l n x) c.deref-segment-items.ensures.value c.segment-item.is)
    c.requires.segments)

pub run_segment-requires-clause-room : goal.run_segment-requires-clause-room
run_segment-requires-clause-room g c κs within =
    let segments = c.args.lists.now.segments.items in
    let n = c.loop-segment.segment-index in
    let x = c.segment-item.result in
    let room = room_next segments n x c.args.mesh.history c.loop-segment.made.history 4294967296
    (subst (λ (l : List Segment). n < length l) c.deref-segment-items.ensures.value c.loop-segment-test.true)
    (subst (λ (l : List Segment). x ≡ get_or l n x) c.deref-segment-items.ensures.value c.segment-item.is)
    c.loop-segment.invariant.run c.requires.room in
    omega (arith, room, ap (λ (l : List lists.List). count_in_all (pairs_in l)) c.deref.ensures.value)

-- one segment more is done, and as many entries more are there as it has pairs
pub loop-segment-preserved : goal.loop-segment-preserved
loop-segment-preserved g c =
    let segments = c.args.lists.now.segments.items in
    let n = c.loop-segment.segment-index in
    let x = c.segment-item.result in
    let old = c.loop-segment.made.history in
    let new = c.in_ok-made.made.history in
    record {
      run = run_next segments n x c.args.mesh.history old new
          (subst (λ (l : List Segment). n < length l) c.deref-segment-items.ensures.value c.loop-segment-test.true)
          (subst (λ (l : List Segment). x ≡ get_or l n x) c.deref-segment-items.ensures.value c.segment-item.is)
          c.loop-segment.invariant.run
          (subst (λ (l : List lists.List). IsSegmentRun (pairs_in l) old new) c.deref.ensures.value
          c.in_ok-made.ensures.run);
      grid = c.in_ok-made.ensures.grid ∙ c.loop-segment.invariant.grid;
    }

pub returns-clause-run : goal.returns-clause-run
returns-clause-run g c =
    run_all c.args.lists.now.segments.items c.loop-segment.segment-index c.args.mesh.history
    c.loop-segment.made.history
    (let e = c.deref-segment-items.ensures.value in let f = c.loop-segment-test.false in omega (arith, f, ap length e))
    c.loop-segment.invariant.run
