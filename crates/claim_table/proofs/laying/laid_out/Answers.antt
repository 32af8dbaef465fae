use borrow.Author.Count.{falls}
use Rattle.std.proofs.Common.{Some, ◌∙◌, ap, sym, vec_capacity, vec_len}
use Rattle.cell_store.specs.Buckets.{BucketContent, InHand}
use Rattle.claim_table.proofs.OpeningSlots.{bucket_count, laying_none, laying_some, laying_room, laying_on, laid_all}
use Rattle.claim_table.proofs.laying.laid_out.Goals as goal

pub loop-b-init : goal.loop-b-init
loop-b-init c =
    laying_none c.args.hold c.in_ok-slots.slots.items c.count-count.result (vec_capacity c.in_ok-slots.slots)
    c.in_ok-slots.ensures.items
    (bucket_count c.args.hold c.grid.result c.count-count.result c.count-count.ensures.value c.grid.ensures.grid
    c.grid.ensures.places) c.in_ok-slots.ensures.capacity

pub take-requires : goal.take-requires
take-requires c =
    laying_some c.args.hold c.loop-b.rest c.loop-b.slots.items c.count-count.result (vec_capacity c.loop-b.slots)
    c.loop-b.b c.loop-b.invariant c.requires
    (bucket_count c.args.hold c.grid.result c.count-count.result c.count-count.ensures.value c.grid.ensures.grid
    c.grid.ensures.places) c.loop-b-test.true

pub push_reserved-requires : goal.push_reserved-requires
push_reserved-requires c =
    laying_room c.args.hold c.loop-b.rest c.loop-b.slots.items (vec_len c.loop-b.slots) c.count-count.result
    (vec_capacity c.loop-b.slots) c.loop-b.b c.loop-b.invariant c.loop-b.slots.ok.0
    (bucket_count c.args.hold c.grid.result c.count-count.result c.count-count.ensures.value c.grid.ensures.grid
    c.grid.ensures.places) c.loop-b-test.true

pub loop-b-smaller : goal.loop-b-smaller
loop-b-smaller c = falls c.count-count.result c.loop-b.b c.loop-b-test.true

pub loop-b-preserved : goal.loop-b-preserved
loop-b-preserved c =
    laying_on c.args.hold c.loop-b.rest c.take.new.self c.loop-b.slots.items c.push_reserved.new.self.items
    (vec_capacity c.loop-b.slots) (vec_capacity c.push_reserved.new.self)
    c.loop-b.b c.of.result c.loop-b.invariant (ap (λ (h : InHand). h.places) c.take.ensures.after)
    (c.take.ensures.bucket ∙ ap (λ (x : BucketContent). Some x) (sym c.of.ensures)) c.push_reserved.ensures.items
    c.push_reserved.ensures.capacity

pub returns : goal.returns
returns c =
    laid_all c.args.hold c.loop-b.rest c.loop-b.slots.items c.count-count.result (vec_capacity c.loop-b.slots)
    c.loop-b.b c.loop-b.invariant
    (bucket_count c.args.hold c.grid.result c.count-count.result c.count-count.ensures.value c.grid.ensures.grid
    c.grid.ensures.places) c.loop-b-test.false
