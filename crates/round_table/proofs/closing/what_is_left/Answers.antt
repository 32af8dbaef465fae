use Rattle.std.proofs.Common.{◌≡◌, ◌<◌, ◌++◌, ◌∷◌, [], ℕ, Option, map, length, sym, ◌∙◌, ap, subst, arith}
use Rattle.std.specs.List.{range_with_len}
use Rattle.std.specs.Mem.Slots.{slots_items, slots_filled, slots_len, slots_counts, IsFull}
use Rattle.round_table.specs.Rule.{contents_of}
use Rattle.round_table.specs.Closed.{claims_in_all, left_at}
use Rattle.round_table.proofs.Shut.{parted, shut, empties_on, emptied_count}
use Rattle.round_table.proofs.closing.what_is_left.Goals as goal

pub word-word-requires : goal.word-word-requires
word-word-requires g c =
    let q = c.take-slot.ensures.others.3 ∙ c.loop-b.invariant.0 in
    let n = c.close_with-closed.ensures.counts.0 in
    let w = c.requires.words in
    let s = c.requires.slots in
    let t = c.loop-b-test.true in
    let e = c.slot_count-count.ensures in
    subst (λ r. (c.loop-b.b < slots_len r) × IsFull r) (sym q) (omega arith, c.close_with-closed.ensures.values.0)

pub push_reserved-requires : goal.push_reserved-requires
push_reserved-requires g c =
    let closed = c.close_with-closed.result in
    let now = c.loop-b.closed in
    let n = emptied_count (slots_items closed.words) (slots_items now.words) (slots_items closed.slots)
    (slots_items now.slots) (slots_len closed.slots) (slots_len now.slots) (slots_filled now.slots)
    (contents_of c.args.board.shared.key) c.loop-b.rest.items c.loop-b.b c.loop-b.invariant.2 in
    let room = c.loop-b.invariant.1 in
    let s = c.requires.slots in
    let t = c.loop-b-test.true in
    let e = c.slot_count-count.ensures in
    let l = c.loop-b.rest.ok.0 in
    omega arith

pub loop-b-preserved : goal.loop-b-preserved
loop-b-preserved g c =
    let k = c.args.board.shared.key in
    let closed = c.close_with-closed.result in
    let now = c.loop-b.closed in
    let next = c.take-slot.new.self in
    let o = c.take-slot.ensures.others in
    let told = c.close_with-closed.ensures in
    let sh = shut k c.args.place.id c.args.place.me.0 (slots_items closed.words) (slots_items closed.slots)
    told.values.2 c.requires.all in
    let n = told.counts.1 in
    let s = c.requires.slots in
    let t = c.loop-b-test.true in
    let e = c.slot_count-count.ensures in
    let room = c.loop-b.invariant.1 in
    let cap = c.push_reserved.ensures.capacity in (
      o.3 ∙ c.loop-b.invariant.0,
      omega arith,
      empties_on k c.args.place.me.0.hands (slots_items closed.words) (slots_items now.words) (slots_items next.words)
          (slots_items closed.slots) (slots_items now.slots) (slots_items next.slots) (slots_len closed.slots)
          (slots_len now.slots) (slots_len next.slots) (slots_filled now.slots) (slots_filled next.slots)
          c.loop-b.rest.items c.push_reserved.new.self.items c.loop-b.b c.word-word.result c.take-slot.result sh
          (omega arith) (omega arith) (slots_counts now.slots).1 c.loop-b.invariant.2 c.take-slot.ensures.value
          c.word-word.ensures (ap slots_items o.3) o.0 o.2 o.1
          (c.push_reserved.ensures.items
          ∙ ap (λ (x : Option g.row.T.Denot). c.loop-b.rest.items ++ x ∷ []) c.left_in.ensures),
    )

pub returns : goal.returns
returns g c =
    let k = c.args.board.shared.key in
    let closed = c.close_with-closed.result in
    let told = c.close_with-closed.ensures in
    let sh = shut k c.args.place.id c.args.place.me.0 (slots_items closed.words) (slots_items closed.slots)
    told.values.2 c.requires.all in
    let s = c.requires.slots in
    let t = c.loop-b-test.false in
    let e = c.slot_count-count.ensures in
    let z = c.loop-b.auto.b-end in
    let b : c.loop-b.b ≡ length (contents_of k) = omega arith in
    parted (contents_of k) (slots_items closed.words)
    (claims_in_all c.args.place.me.0.hands) c.loop-b.rest.items sh.wide
    sh.taken (c.loop-b.invariant.2.rest_is
    ∙ ap (λ (n : ℕ). map (left_at (slots_items closed.words) (contents_of k)) (range_with_len 0 n)) b)
