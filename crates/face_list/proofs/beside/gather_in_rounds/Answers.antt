use Rattle.std.proofs.Common.{rules, ◌≤◌, ◌+◌, ◌∙◌, sym, refl, arith}
use Rattle.face_list.proofs.Growing.{gathers_as, gathers_own}
use Rattle.face_list.proofs.beside.gather_in_rounds.Goals as goal

pub loop-so_far-init : goal.loop-so_far-init
loop-so_far-init g c =
    let none = c.in_ok-so_far.ensures c.args.cells.now c.args.points.now (omega arith) in
    record {
      gathered = gathers_as g.K.Ord.cmp g.K.Part.parts_of g.K.First.first_of c.args.cells.now c.args.points.now _ _ _ _
          _ refl (sym none.end) none;
      all = c.len-count.ensures ∙ c.args.points.now.keys.ok.0;
    }

pub add_beside-requires-clause-can : goal.add_beside-requires-clause-can
add_beside-requires-clause-can g c κs l =
    let was = c.loop-so_far.invariant in
    let all = was.all in
    let from = c.loop-so_far.so_far.to in
    let inside : from + c.min.result ≤ c.len-count.result = search rules in
    record {
      over = c.requires.points;
      so_far = gathers_own g.K.Ord.cmp g.K.Part.parts_of g.K.First.first_of c.args.cells.now c.args.points.now _ _ _
          was.gathered;
      range = omega arith;
      within = omega (arith, inside, all);
    }
