use Rattle.std.proofs.Common.{◌≡◌, ◌<◌, ◌+◌, None, IsSome, length, slice_index_or, refl, sym, subst}
use Rattle.list_laws.proofs.Cited.{some_of}
use Rattle.claim_rule.specs.declared.event.Event.TheVariants.{Release}
use Rattle.claim_rule.specs.declared.event.Played.TheVariants.{Done}
use Rattle.claim_rule.specs.Events.{CanRelease}
use Rattle.claim_rule.specs.Kept.{kept_of}
use Rattle.cell_store.specs.Buckets.{bucket_at}
use Rattle.claim_rule.proofs.Moves.{good_by, seen_as, short_as, release_next, holds_named, not_live}
use Rattle.claim_rule.proofs.board.Board.release.Goals as goal
use Rattle.claim_rule.proofs.board.Board.release.Goals.{then-not-is_live-via-then-not-is_live}
use Rattle.claim_rule.proofs.board.Board.release.Goals.{then-not-is_live-via-else-not-is_live+then-not-names}

-- a release may not come where the pass is not live or the word does not name it
pub returns-then-not-is_live-clause-next : goal.returns-then-not-is_live-clause-next
returns-then-not-is_live-clause-next c h good = (
  short_as h (λ s. CanRelease s c.args.n c.args.b) _ _ c.self.view_is (λ good' can. elim c.then-not-is_live.branch [
    | then-not-is_live-via-then-not-is_live w ↦
        not_live (kept_of c.self.inside) c.args.n (λ v. IsSome (bucket_at v.held c.args.b))
        (λ k. let y = c.is_live.ensures.1 (subst (λ l. IsSome (slice_index_or l c.args.n None))
        (sym c.deref.ensures.value) k) in absurd (cc (y, w.if-not-is_live.true))) can
    | then-not-is_live-via-else-not-is_live+then-not-names w ↦
        let r = holds_named (kept_of c.self.inside) c.args.n c.args.b h good' can in
        let d = sym w.deref-else-not-is_live.ensures.value in
        let y = w.names.ensures.1 (
          subst (λ l. c.args.b < length l) d r.0,
          subst (λ l. slice_index_or l c.args.b 0 ≡ c.args.n + 1) d r.1,
        ) in
        absurd (cc (y, w.if-not-names.true))
  ]) good,
  refl,
)

pub invariant_of-self : goal.invariant_of-self
invariant_of-self c =
    let g = c.self.invariant in
    let live = some_of _ (subst (λ l. IsSome (slice_index_or l c.args.n None)) c.deref.ensures.value
    (c.is_live.ensures.0 c.if-not-is_live.false)) in
    let d = c.deref-else-not-is_live.ensures.value in
    let name = c.names.ensures.0 c.if-not-names.false in
    good_by g.0 _ (Release c.args.n c.args.b) Done _ g.1 _
    (release_next (kept_of c.self.inside) c.args.n c.args.b live.0 g.0 g.1 live.1
    (subst (λ l. c.args.b < length l) d name.0) (subst (λ l. slice_index_or l c.args.b 0 ≡ c.args.n + 1) d name.1))

pub returns-clause-good : goal.returns-clause-good
returns-clause-good c = invariant_of-self c

-- else the release is done
pub returns-clause-next : goal.returns-clause-next
returns-clause-next c h =
    let live = some_of _ (subst (λ l. IsSome (slice_index_or l c.args.n None)) c.deref.ensures.value
    (c.is_live.ensures.0 c.if-not-is_live.false)) in
    let d = c.deref-else-not-is_live.ensures.value in
    let name = c.names.ensures.0 c.if-not-names.false in
    seen_as h _ c.args.self.now (Release c.args.n c.args.b) Done _ c.self.view_is
    (λ good. release_next (kept_of c.self.inside) c.args.n c.args.b live.0 h good live.1
    (subst (λ l. c.args.b < length l) d name.0) (subst (λ l. slice_index_or l c.args.b 0 ≡ c.args.n + 1) d name.1))
