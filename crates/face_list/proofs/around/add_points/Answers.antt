use Rattle.std.proofs.Common.{◌≡◌, ◌<◌, ◌∙◌, get_or, length, arith, refl, sym}
use Rattle.std.proofs.lemmas.List.{get_or_default}
use Rattle.face_list.proofs.Growing.{gathers_as, gathers_own}
use Rattle.face_list.proofs.around.add_points.Goals as goal

pub loop-so_far-init : goal.loop-so_far-init
loop-so_far-init g c = record { gathered = c.requires.can.so_far; range = c.requires.can.range }

pub add-requires-clause-so_far : goal.add-requires-clause-so_far
add-requires-clause-so_far g c =
    gathers_own g.K.Ord.cmp g.K.Part.parts_of g.K.First.first_of c.args.cells.now c.args.points.now _ _ _
    c.loop-so_far.invariant.gathered

pub add-requires-clause-items : goal.add-requires-clause-items
add-requires-clause-items g c i m =
    let keys = c.args.points.now.keys.items in
    let n = c.loop-so_far.so_far.to in
    let first = c.face-first.result.0 in
    let t = c.loop-so_far-test.true in
    let within = c.requires.can.within in
    let inside : n < length keys = omega (arith, t, within) in
    let is : first ≡ get_or keys n 0 = c.face-first.ensures.key ∙ get_or_default keys n first 0 inside in
    let told = c.in_ok-items.ensures i m in
    (told.0, told.1 ∙ is)

pub loop-so_far-preserved : goal.loop-so_far-preserved
loop-so_far-preserved g c =
    let t = c.loop-so_far-test.true in
    let e = c.in_ok-add.ensures.end in
    record {
      gathered = gathers_as g.K.Ord.cmp g.K.Part.parts_of g.K.First.first_of c.args.cells.now c.args.points.now _ _ _ _
          _ c.loop-so_far.invariant.gathered.begin (sym c.in_ok-add.ensures.end) c.in_ok-add.ensures;
      range = omega (arith, t, e);
    }

pub returns : goal.returns
returns g c =
    let f = c.loop-so_far-test.false in
    let r = c.loop-so_far.invariant.range in
    let e : c.loop-so_far.so_far.to ≡ c.args.to = omega (arith, f, r) in
    gathers_as g.K.Ord.cmp g.K.Part.parts_of g.K.First.first_of c.args.cells.now c.args.points.now _ _ _ _ _ refl e
    c.loop-so_far.invariant.gathered
