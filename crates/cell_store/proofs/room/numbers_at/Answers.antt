use Rattle.std.proofs.Common.{◌≡◌, ◌∙◌, ℕ, List, ap, eqb, length, subst}
use Rattle.std.specs.List.{dedup}
use Rattle.std.specs.List.Sorted.{IsPermutation}
use Rattle.smallvec.specs.SmallVec.{SmallVec, with_items}
use Rattle.smallvec.proofs.SmallVecLemmas.{items-with_items}
use Rattle.list_laws.proofs.Cited.{numbers_ascend}
use Rattle.cell_store.proofs.RoomLaws.{numbers_are}
use Rattle.cell_store.proofs.room.numbers_at.Goals as goal

-- what is left of numbers that were put in order
left : (v : SmallVec ℕ) (given sorted new : List ℕ) → given ≡ v.items → length sorted ≡ length given →
    new ≡ dedup eqb (with_items v sorted).items → new ≡ dedup eqb sorted
left v given sorted new g l e = e ∙ ap (dedup eqb) (items-with_items v sorted (l ∙ ap length g))

pub returns-clause-order : goal.returns-clause-order
returns-clause-order c = numbers_ascend c.sort_unstable.new.self c.dedup.new.self.items c.sort_unstable.ensures.sorted
    (left c.add_numbers_at.new.numbers c.deref_mut.result.now c.sort_unstable.new.self c.dedup.new.self.items
    c.deref_mut.ensures.value c.sort_unstable.ensures.len c.dedup.ensures.items)

pub returns-clause-numbers : goal.returns-clause-numbers
returns-clause-numbers c =
    let sorted = c.sort_unstable.new.self in
    numbers_are c.args.grid c.args.points.now c.new-numbers.result.items c.add_numbers_at.new.numbers.items sorted
    c.dedup.new.self.items c.new-numbers.ensures.items c.in_ok-add_numbers_at.ensures
    (subst (λ (l : List ℕ). IsPermutation l sorted) c.deref_mut.ensures.value c.sort_unstable.ensures.permutation)
    (left c.add_numbers_at.new.numbers c.deref_mut.result.now sorted c.dedup.new.self.items c.deref_mut.ensures.value
    c.sort_unstable.ensures.len c.dedup.ensures.items)
