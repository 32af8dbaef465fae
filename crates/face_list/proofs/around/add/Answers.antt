use Rattle.std.proofs.Common.{ℕ, ◌+◌, ◌++◌, ap, subst, ◌∙◌, length, List, arith, refl}
use Rattle.point_order.specs.Sets.{IsIn}
use Rattle.face_list.specs.Around.{BeginsWithin}
use Rattle.face_list.proofs.FaceLists.{items_name}
use Rattle.face_list.proofs.Growing.{begins_lesser, begins_wider, gathered_more}
use Rattle.face_list.proofs.around.add.Goals as goal

pub keys_of_full-requires-clause-numbers : goal.keys_of_full-requires-clause-numbers
keys_of_full-requires-clause-numbers g c i m =
    items_name g.K.Part.parts_of c.args.cells.now i (c.requires.items i
    ((c.sorted-items.ensures.same i).0 (subst (IsIn i) c.deref.ensures.value m))).0

pub put_lists-requires-clause-stops : goal.put_lists-requires-clause-stops
put_lists-requires-clause-stops g c = c.requires.so_far.items.stops

pub returns : goal.returns
returns g c =
    let points = c.args.points.now.keys.items in
    let was = c.requires.so_far in
    let from = c.args.so_far.now.from in
    let n = c.args.so_far.now.to in
    let left = c.requires.left in
    let range = was.order in
    let first_of = g.K.First.first_of in
    let items = c.sorted-items.result.items in
    let told = λ (i : g.row.K.Denot × ℕ) (m : IsIn i items). c.requires.items i ((c.sorted-items.ensures.same i).0 m) in
    let here : (i : g.row.K.Denot × ℕ) → IsIn i items → BeginsWithin first_of points n (n + 1) i.0 =
    λ i m. record { index = n; not_before = omega arith; before = omega arith; is = (told i m).1 } in
    record {
      items = gathered_more
          g.K.Ord.cmp
          g.met.K.Ord.total
          c.args.cells.now
          _
          (BeginsWithin first_of points from n)
          (BeginsWithin first_of points from (n + 1))
          c.args.so_far.now
          _
          items
          c.in_ok-keys.keys.items
          was.items
          c.sorted-items.ensures.order
          (λ i m. (told i m).0)
          (λ i m. begins_wider first_of points n (n + 1) from (n + 1) i.0 range (omega arith) (here i m))
          (λ k b. begins_wider first_of points from n from (n + 1) k (omega arith) (omega arith) b)
          (λ k j b m. g.met.K.Part.begins k j.0 (begins_lesser first_of points from n (n + 1) k j.0 c.requires.order
          (omega (arith, left)) b (here j m)))
          c.in_ok-keys.ensures.order
          (λ k. rw (← c.deref.ensures.value) (c.in_ok-keys.ensures.keys k))
          (c.in_ok-extend_from_slice.ensures.items ∙ ap
          (λ (v : List g.row.K.Denot). c.args.so_far.now.table.keys.items ++ v) c.deref-4.ensures.value)
          (c.in_ok-put_lists.ensures.ends ∙ ap
          (λ (v : List g.row.K.Denot). length c.args.so_far.now.table.ends.items + length v) c.deref-2.ensures.value)
          c.in_ok-put_lists.ensures.stops
          (rw (← c.deref-2.ensures.value, ← c.deref-3.ensures.value) c.in_ok-put_lists.ensures.lists)
          (λ n m. rw (← c.deref-3.ensures.value) (c.in_ok-put_lists.ensures.numbers n m))
          (let a = c.in_ok-so_far.ensures in let b = c.len.ensures in let d = c.sorted-items.result.ok.0 in
          omega (arith, a, b, d));
      begin = refl;
      end = refl;
      order = omega (arith, range);
      within = omega (arith, left);
    }
