use Rattle.std.specs.Prelude.{◌≡◌, ℕ, IsSome}
use Rattle.std.proofs.Common.{sym, subst}
use Rattle.std.proofs.lemmas.Result.{IfOk-at_ok}
use Rattle.point_order.specs.Sets.{IsIn}
use Rattle.cell_store.specs.Buckets.{bucket_at}
use Rattle.bucket_grid.specs.Grids.{bucket_of}
use Rattle.worked_cases.proofs.refills.put_turn.Goals as goal

pub advance-requires-clause-held : goal.advance-requires-clause-held
advance-requires-clause-held c =
    let hold = c.args.hold.now in
    let begun = IfOk-at_ok (λ (p : ℕ). p ≡ c.args.v) c.in_ok-refill.ensures c.start.ensures in
    subst (λ (p : ℕ). IsSome (bucket_at hold.places (bucket_of hold.grid p))) (sym begun)
    (c.is_there.ensures.held c.if-not-is_there.false)

pub advance-requires-clause-shown : goal.advance-requires-clause-shown
advance-requires-clause-shown c =
    let r = c.requires in
    let begun = IfOk-at_ok (λ (p : ℕ). p ≡ c.args.v) c.in_ok-refill.ensures c.start.ensures in
    (r.0, r.1, subst (λ (p : ℕ). IsIn p r.0) (sym begun) (c.is_there.ensures.there c.if-not-is_there.false r.0 r.1))
