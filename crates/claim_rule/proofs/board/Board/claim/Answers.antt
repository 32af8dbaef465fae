use Rattle.std.proofs.Common.{◌≡◌, ◌≢◌, ◌<◌, ◌+◌, None, IsSome, length, slice_index_or, slice_set, refl, sym, ◌∙◌, ap}
use Rattle.std.proofs.Common.{subst, arith}
use Rattle.claim_rule.specs.declared.event.Event.TheVariants.{Claim}
use Rattle.claim_rule.specs.declared.event.Played.TheVariants.{Done, Taken}
use Rattle.claim_rule.specs.Good.{Good}
use Rattle.claim_rule.specs.Events.{CanClaim, Next}
use Rattle.claim_rule.specs.Kept.{kept_of, board_of}
use Rattle.std.proofs.lemmas.List.{get_or_read}
use Rattle.list_laws.proofs.Cited.{some_of}
use Rattle.cell_store.specs.Buckets.{bucket_at}
use Rattle.claim_rule.proofs.Moves.{good_by, seen_as, short_as, claim_next, claim_taken, held_twice, named_holds}
use Rattle.claim_rule.proofs.Moves.{not_live, within_length}
use Rattle.claim_rule.proofs.board.Board.claim.Goals as goal
use Rattle.claim_rule.proofs.board.Board.claim.Goals.{then-not-is_live-via-then-not-is_live}
use Rattle.claim_rule.proofs.board.Board.claim.Goals.{then-not-is_live-via-else-not-is_live+then-b-len}

-- the word is another pass's: the answer is `Taken` with it, and nothing changes
pub returns-then-word-ne0-clause-next : goal.returns-then-word-ne0-clause-next
returns-then-word-ne0-clause-next c h good =
    let kept = kept_of c.self.inside in
    let live = some_of _ (subst (λ l. IsSome (slice_index_or l c.args.n None)) c.deref.ensures.value
    (c.is_live.ensures.0 c.if-not-is_live.false)) in
    let below : c.args.b < length kept.words = omega (arith, c.if-b-len.false, c.len.ensures) in
    let word : c.index-word.result.now ≡ slice_index_or kept.words c.args.b 0 =
    get_or_read kept.words _ _ below c.index-word.ensures 0 in
    let other : slice_index_or kept.words c.args.b 0 ≢ c.args.n + 1 =
    λ q. c.if-word-from.false (word ∙ q ∙ ap (λ k. k + 1) (sym c.from.ensures)) in
    let zero : slice_index_or kept.words c.args.b 0 ≢ 0 = λ q. c.if-word-ne0.true (word ∙ q) in
    let next = seen_as h _ c.args.self.now (Claim c.args.n c.args.b) (Taken (slice_index_or kept.words c.args.b 0))
    (board_of kept) c.self.view_is
    (λ good'. claim_taken kept c.args.n c.args.b live.0 h good' live.1 below zero other) good in
    (next.0, c.if-word-ne0.true, word ∙ next.2, refl)

-- a claim that is done leaves a good board
pub invariant_of-self : goal.invariant_of-self
invariant_of-self c =
    let kept = kept_of c.self.inside in
    let g = c.self.invariant in
    let live = some_of _ (subst (λ l. IsSome (slice_index_or l c.args.n None)) c.deref.ensures.value
    (c.is_live.ensures.0 c.if-not-is_live.false)) in
    let below : c.args.b < length kept.words = omega (arith, c.if-b-len.false, c.len.ensures) in
    let word : c.index-word.result.now ≡ slice_index_or kept.words c.args.b 0 =
    get_or_read kept.words _ _ below c.index-word.ensures 0 in
    subst (λ k. Good (board_of (record kept { words = slice_set kept.words c.args.b (k + 1) })))
    (sym c.from-2.ensures) (good_by g.0 _ (Claim c.args.n c.args.b) Done _ g.1 _
    (claim_next kept c.args.n c.args.b live.0 g.0 g.1 live.1 below (sym word ∙ c.if-word-ne0.false)))

pub returns-clause-good : goal.returns-clause-good
returns-clause-good c = invariant_of-self c

-- the word is 0: the claim is done
pub returns-clause-next : goal.returns-clause-next
returns-clause-next c h good =
    let kept = kept_of c.self.inside in
    let live = some_of _ (subst (λ l. IsSome (slice_index_or l c.args.n None)) c.deref.ensures.value
    (c.is_live.ensures.0 c.if-not-is_live.false)) in
    let below : c.args.b < length kept.words = omega (arith, c.if-b-len.false, c.len.ensures) in
    let word : c.index-word.result.now ≡ slice_index_or kept.words c.args.b 0 =
    get_or_read kept.words _ _ below c.index-word.ensures 0 in
    subst (λ k. Next h c.args.self.now (Claim c.args.n c.args.b) Done
    (board_of (record kept { words = slice_set kept.words c.args.b (k + 1) }))) (sym c.from-2.ensures)
    (seen_as h _ c.args.self.now (Claim c.args.n c.args.b) Done _ c.self.view_is
    (λ good'. claim_next kept c.args.n c.args.b live.0 h good' live.1 below (sym word ∙ c.if-word-ne0.false)) good)

-- a claim may not come where the pass is not live or the bucket is none of the board's
pub returns-then-not-is_live-clause-next : goal.returns-then-not-is_live-clause-next
returns-then-not-is_live-clause-next c h good = (
  short_as h (λ s. CanClaim s c.args.n c.args.b) _ _ c.self.view_is (λ good' can. elim c.then-not-is_live.branch [
    | then-not-is_live-via-then-not-is_live w ↦
        not_live (kept_of c.self.inside) c.args.n (λ v. bucket_at v.held c.args.b ≡ None)
        (λ k. let y = c.is_live.ensures.1 (subst (λ l. IsSome (slice_index_or l c.args.n None))
        (sym c.deref.ensures.value) k) in absurd (cc (y, w.if-not-is_live.true))) can.1
    | then-not-is_live-via-else-not-is_live+then-b-len w ↦
        absurd (omega (arith, w.if-b-len.true, w.len.ensures, can.0, c.self.inside.words.ok.0))
  ]) good,
  refl,
)

pub returns-then-word-from-clause-next : goal.returns-then-word-from-clause-next
returns-then-word-from-clause-next c h good = (
  short_as h (λ s. CanClaim s c.args.n c.args.b) _ _ c.self.view_is (λ good' can.
      let kept = kept_of c.self.inside in
      let word = get_or_read kept.words _ _ can.0 c.index-word.ensures 0 in
      held_twice _ c.args.b can.1 (named_holds kept c.args.n c.args.b h good' can.0
      (sym word ∙ c.if-word-from.true ∙ ap (λ k. k + 1) c.from.ensures))) good,
  refl,
)

pub index-word-requires : goal.index-word-requires
index-word-requires c = within_length c.args.b _ _ c.if-b-len.false c.len.ensures

pub index_mut-requires : goal.index_mut-requires
index_mut-requires c = within_length c.args.b _ _ c.if-b-len.false c.len.ensures
