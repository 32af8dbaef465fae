use Rattle.std.proofs.Common.{◌≡◌, ◌<◌, ◌*◌, ℕ, Some, length, slice_set, sym, ◌∙◌, ap, subst, arith}
use Rattle.cell_store.specs.Buckets.{BucketContent, FitsPlace, at_place}
use Rattle.std.specs.Mem.Slots.{slots_items, slots_filled, slots_len, slots_counts}
use Rattle.claim_table.proofs.Homecoming.{fits, not_empty, gathers_on, gathered}
use Rattle.claim_table.proofs.homing.gather.Goals as goal

-- the bucket that comes next stands at its place
pub put-requires-clause-place : goal.put-requires-clause-place
put-requires-clause-place c =
    let s = c.args.closed.now.slots in
    let d = c.requires.slots.0 in
    let n = (slots_counts s).0 in
    let wide = c.grid.ensures.places in
    let count : c.count-b-end.result ≡ length c.args.hold.now.places =
    c.count-b-end.ensures.value ∙ ap (λ (x : ℕ). x * x * x) c.grid.ensures.grid ∙ sym wide in
    let t = c.loop-b-test.true in
    let l : c.loop-b.b < length (slots_items s) = omega (arith, t, count, d, n) in
    subst (λ (y : BucketContent). FitsPlace c.loop-b.hold.grid c.loop-b.b y) (sym c.into_bucket.ensures)
    (fits (slots_items s) (slots_items c.loop-b.closed.slots) (slots_len s) (slots_len c.loop-b.closed.slots)
    (slots_filled c.loop-b.closed.slots) c.args.hold.now c.loop-b.hold c.loop-b.b c.in-Some.slot c.loop-b.invariant
    l c.requires.home c.in-Some.ensures.value)

pub unreachable-requires : goal.unreachable-requires
unreachable-requires c =
    let s = c.args.closed.now.slots in
    let d = c.requires.slots.0 in
    let n = (slots_counts s).0 in
    let wide = c.grid.ensures.places in
    let count : c.count-b-end.result ≡ length c.args.hold.now.places =
    c.count-b-end.ensures.value ∙ ap (λ (x : ℕ). x * x * x) c.grid.ensures.grid ∙ sym wide in
    let t = c.loop-b-test.true in
    let l : c.loop-b.b < length (slots_items s) = omega (arith, t, count, d, n) in
    not_empty (slots_items s) (slots_items c.loop-b.closed.slots) (slots_len s) (slots_len c.loop-b.closed.slots)
    (slots_filled c.loop-b.closed.slots) c.args.hold.now c.loop-b.hold c.loop-b.b c.loop-b.invariant l
    c.requires.home c.in-None.ensures.value

-- one bucket more is gathered
pub loop-b-preserved : goal.loop-b-preserved
loop-b-preserved c =
    let s = c.args.closed.now.slots in
    let d = c.requires.slots.0 in
    let n = (slots_counts s).0 in
    let wide = c.grid.ensures.places in
    let count : c.count-b-end.result ≡ length c.args.hold.now.places =
    c.count-b-end.ensures.value ∙ ap (λ (x : ℕ). x * x * x) c.grid.ensures.grid ∙ sym wide in
    let t = c.loop-b-test.true in
    let l : c.loop-b.b < length (slots_items s) = omega (arith, t, count, d, n) in
    let o = c.take.ensures.others in
    gathers_on (slots_items s) (slots_items c.loop-b.closed.slots) (slots_items c.take.new.self.slots) (slots_len s)
    (slots_len c.loop-b.closed.slots) (slots_len c.take.new.self.slots) (slots_filled c.loop-b.closed.slots)
    (slots_filled c.take.new.self.slots)
    c.args.hold.now c.loop-b.hold c.put.new.self c.loop-b.b c.in-Some.slot c.loop-b.invariant l n
    (slots_counts c.loop-b.closed.slots).1 (sym d) c.requires.home c.in-Some.ensures.value o.0 o.1 o.2
    (c.put.ensures ∙ ap (λ (y : BucketContent). record c.loop-b.hold {
      places =
          slice_set c.loop-b.hold.places c.loop-b.b (Some (at_place c.loop-b.hold.grid c.loop-b.b y));
    })
    c.into_bucket.ensures)

pub returns-clause-places : goal.returns-clause-places
returns-clause-places c =
    let s = c.args.closed.now.slots in
    let d = c.requires.slots.0 in
    let n = (slots_counts s).0 in
    let wide = c.grid.ensures.places in
    let count : c.count-b-end.result ≡ length c.args.hold.now.places =
    c.count-b-end.ensures.value ∙ ap (λ (x : ℕ). x * x * x) c.grid.ensures.grid ∙ sym wide in
    let t = c.loop-b-test.false in
    gathered (slots_items s) (slots_items c.loop-b.closed.slots) (slots_len s) (slots_len c.loop-b.closed.slots)
    (slots_filled c.loop-b.closed.slots) c.args.hold.now c.loop-b.hold c.loop-b.b c.loop-b.invariant n (sym d)
    (omega (arith, t, count, d))
