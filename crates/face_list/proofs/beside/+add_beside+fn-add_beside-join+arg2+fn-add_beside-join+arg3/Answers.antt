use Rattle.std.proofs.Common.{rules, ℕ, ◌≤◌, ◌+◌, ◌-◌, ◌/◌, length, ◌∙◌, refl, arith}
use Rattle.std.proofs.lemmas.Result.{IfOk-at_ok}
use Rattle.face_list.specs.Around.{BeginsWithin, CanAdd, GathersPoints}
use Rattle.face_list.proofs.Growing.{begins_lesser, begins_wider, gathered_both, gathers_as, gathers_own}
use Rattle.face_list.proofs.beside.+add_beside+fn-add_beside-join+arg2+fn-add_beside-join+arg3.Goals as goal

-- the halves are within the whole, and the second is empty yet
pub join-first-requires-after_bounds : goal.join-first-requires-after_bounds
join-first-requires-after_bounds g t c κs inside =
    let cells = c.args.cells.now in
    let table = c.args.points.now in
    let start = c.args.so_far.to in
    let to = c.args.to in
    let range = c.requires.can.range in
    let within = c.requires.can.within in
    let few = c.if-to-from-lt-FEW.false in
    let middle : ℕ = start + (to - start) / 2 in
    let high : middle ≤ to = omega (arith, range) in
    let inner : middle ≤ length table.keys.items = omega (arith, high, within) in
    let none = c.in_ok-part.ensures cells table inner in
    let end = none.end in
    let can = c.requires.can in
    let first : CanAdd g.K.Ord.cmp g.K.Part.parts_of g.K.First.first_of cells table c.args.so_far middle = record {
      over = can.over;
      so_far = can.so_far;
      range = omega arith;
      within = inner;
    } in
    let second : CanAdd g.K.Ord.cmp g.K.Part.parts_of g.K.First.first_of cells table c.in_ok-part.part to = record {
      over = can.over;
      so_far = gathers_own g.K.Ord.cmp g.K.Part.parts_of g.K.First.first_of cells table middle middle c.in_ok-part.part
          none;
      range = omega (arith, end, high);
      within = within;
    } in
    search (rules, first, second)

-- both halves are the whole
pub returns : goal.returns
returns g t c =
    let cells = c.args.cells.now in
    let table = c.args.points.now in
    let points = table.keys.items in
    let cmp = g.K.Ord.cmp in
    let parts_of = g.K.Part.parts_of in
    let first_of = g.K.First.first_of in
    let from = c.args.so_far.from in
    let start = c.args.so_far.to in
    let to = c.args.to in
    let order = c.requires.can.over.order in
    let range = c.requires.can.range in
    let within = c.requires.can.within in
    let before = c.requires.can.so_far.order in
    let middle : ℕ = start + (to - start) / 2 in
    let low : from ≤ middle = omega (arith, before) in
    let high : middle ≤ to = omega (arith, range) in
    let part = c.in_ok-part.ensures cells table (omega (arith, high, within)) in
    let first = IfOk-at_ok (GathersPoints cmp parts_of first_of cells table from middle) c.in_ok-first.was
    c.join-first.ensures.first in
    let later = IfOk-at_ok (GathersPoints cmp parts_of first_of cells table c.in_ok-part.part.from to)
    c.in_ok-second.was c.join-first.ensures.second in
    let second = gathers_as cmp parts_of first_of cells table c.in_ok-part.part.from to middle to
    c.in_ok-second.field-0 part.begin refl later in
    let both = c.in_ok-both.ensures in
    let ord = g.met.K.Ord g.world.𝓛 g.world.𝓜 g.world.𝓡 ((λ s x. x), (λ x. x), (λ x. x), λ x. x) in
    let laws = g.met.K.Part g.world.𝓛 g.world.𝓜 g.world.𝓡 ((λ s x. x), (λ x. x), (λ x. x), λ x. x) in
    record {
      items = gathered_both cmp ord.total cells _ (BeginsWithin first_of points from middle)
          (BeginsWithin first_of points middle to) (BeginsWithin first_of points from to) c.in_ok-first.field-0
          c.in_ok-second.field-0 c.in_ok-both.both first.items second.items
          (λ k b. begins_wider first_of points from middle from to k (omega arith) high b)
          (λ k b. begins_wider first_of points middle to from to k low (omega arith) b)
          (λ k l b d. laws.begins k l (begins_lesser first_of points from middle to k l order within b d))
          both.keys both.ends both.stops both.lists both.numbers both.count;
      begin = both.from ∙ first.begin;
      end = both.to ∙ second.end;
      order = omega (arith, before, range);
      within = within;
    }
