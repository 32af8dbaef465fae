use Rattle.std.proofs.Common.{sym, ◌∙◌}
use Rattle.insertion.proofs.Searches.{all_places, lacks, passes_more, not_all_pass}
use Rattle.insertion.proofs.search.turn_from.Goals as goal

pub returns-then-not-has : goal.returns-then-not-has
returns-then-not-has c s sh new k =
    let hold = c.args.hold.now in (
      lacks hold c.loop-b.b c.count-b-end.result c.has.result c.has.ensures c.if-not-has.true c.loop-b-test.true
          (all_places hold c.grid.result c.count-b-end.result c.grid.ensures.grid c.count-b-end.ensures.value
          c.grid.ensures.places),
      c.loop-b.invariant s sh new k,
    )

pub loop-b-preserved : goal.loop-b-preserved
loop-b-preserved c s sh new k =
    passes_more c.args.hold.now s c.args.p c.loop-b.b (c.loop-b.invariant s sh new k)
    (sym c.has.ensures ∙ c.if-not-has.false, c.in_default.ensures.goes s sh new)

pub unreachable-requires : goal.unreachable-requires
unreachable-requires c =
    let hold = c.args.hold.now in
    let r = c.requires in
    not_all_pass hold r.0 c.args.p c.count-b-end.result c.loop-b.b
    (record { size = c.grid.ensures.size; places = c.grid.ensures.places }) r.1 r.2
    (all_places hold c.grid.result c.count-b-end.result c.grid.ensures.grid c.count-b-end.ensures.value
    c.grid.ensures.places)
    c.loop-b-test.false (c.loop-b.invariant r.0 r.1 r.2 r.3)
