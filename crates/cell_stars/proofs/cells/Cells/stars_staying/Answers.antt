use Rattle.std.proofs.Common.{◌∙◌, ap, map, subst}
use Rattle.std.proofs.lemmas.List.{take_all}
use Rattle.point_order.specs.Sets.{IsIn}
use Rattle.list_laws.proofs.Cited.{at_place}
use Rattle.cell_stars.specs.Adding.{head_of}
use Rattle.cell_stars.proofs.AddLaws.{heads_more, staying_more}
use Rattle.cell_stars.proofs.cells.Cells.stars_staying.Goals as goal

pub loop-n-init : goal.loop-n-init
loop-n-init c = record {
  heads = ap (map head_of) c.in_ok-writes.ensures.items;
  stars = λ w m. absurd (subst (IsIn w) c.in_ok-writes.ensures.items m);
}

pub loop-n-preserved : goal.loop-n-preserved
loop-n-preserved c =
    let x = c.loop-n-item.result in
    let s = c.in_ok-star_staying.field-0 in
    let i = c.loop-n.invariant in
    record {
      heads = heads_more c.args.turns.now c.loop-n.n-index x c.loop-n.writes.items c.push.new.self.items (
        x.0,
        s,
      ) c.loop-n-test.true c.loop-n-item.is c.in_ok-star_staying.ensures.vertex c.in_ok-push.ensures.items i.heads;
      stars = staying_more c.args.self.now c.args.freed.now x c.loop-n.writes.items c.push.new.self.items s
          c.in_ok-star_staying.ensures.vertex c.in_ok-star_staying.ensures.places c.in_ok-push.ensures.items i.stars;
    }

pub star_staying-requires-clause-number : goal.star_staying-requires-clause-number
star_staying-requires-clause-number c =
    let x = c.loop-n-item.result in
    c.requires.numbers x.0 x.1 (at_place c.args.turns.now c.loop-n.n-index x x c.loop-n-test.true c.loop-n-item.is)

pub returns-clause-heads : goal.returns-clause-heads
returns-clause-heads c = c.loop-n.invariant.heads ∙ take_all c.loop-n.n-index c.args.turns.now c.loop-n-test.false

pub returns-clause-stars : goal.returns-clause-stars
returns-clause-stars c = c.loop-n.invariant.stars
