use Rattle.std.proofs.Common.{◌≡◌, ◌∙◌, ap, ℕ, ◌*◌, arith}
use Rattle.claim_table.specs.Faces.{buckets_of}
use Rattle.claim_table.proofs.Cited.{next_absent, claiming_goes_on, claiming_ends}
use Rattle.grid_claims.proofs.snapshot.claim_all.Goals as goal

pub ask-requires-clause-absent : goal.ask-requires-clause-absent
ask-requires-clause-absent c =
    next_absent c.args.board.now.shared.table_id (buckets_of c.args.board.now.shared.key) c.loop-b.b c.args.hands.now
    c.loop-b.hands c.loop-b.invariant

pub loop-b-preserved : goal.loop-b-preserved
loop-b-preserved c =
    claiming_goes_on c.args.board.now.shared.table_id (buckets_of c.args.board.now.shared.key) c.loop-b.b
    c.args.hands.now c.loop-b.hands c.ask.new.hands c.loop-b.invariant
    c.in_ok-ask.ensures.more c.in_ok-ask.ensures.order c.in_ok-ask.ensures.stands

pub returns-clause-all : goal.returns-clause-all
returns-clause-all c =
    let f = c.loop-b-test.false in
    let e = c.loop-b.auto.b-end in
    let last : c.loop-b.b ≡ c.count-b-end.result = omega (arith, f, e) in
    let cube = last ∙ c.count-b-end.ensures.value ∙ ap (λ (x : ℕ). x * x * x) c.grid.ensures.grid in
    let wide = c.grid.ensures.places in
    let places = c.requires.hands.places in
    claiming_ends c.args.board.now.shared.table_id (buckets_of c.args.board.now.shared.key) c.loop-b.b
    c.args.hands.now.hold.grid c.args.hands.now c.loop-b.hands c.loop-b.invariant
    (cube ∙ Rattle.std.proofs.Common.sym wide ∙ places) c.grid.ensures.size cube
