use Rattle.std.specs.Prelude.{MatchOption}
use Rattle.std.proofs.Common.{◌≡◌, ◌<◌, ℕ, List, Option, None, Some, IsSomeAnd, length, slice_index_or, refl, sym, ◌∙◌}
use Rattle.std.proofs.Common.{ap, subst}
use Rattle.claim_rule.specs.declared.board.Seat.{Seat}
use Rattle.edit_history.specs.Histories.{replay}
use Rattle.list_laws.proofs.Cited.{on_err}
use Rattle.claim_rule.specs.declared.event.Event.TheVariants.{Commit}
use Rattle.claim_rule.specs.declared.event.Played.TheVariants.{Done}
use Rattle.claim_rule.specs.Good.{Good}
use Rattle.claim_rule.specs.Kept.{kept_of}
use Rattle.claim_rule.proofs.Moves.{good_by, seat_there, seen_as, short_as}
use Rattle.claim_rule.proofs.Committing.{few_so_far, made_next, next_fits, none_commits, same_board, unmade_commits}
use Rattle.claim_rule.proofs.Committing.{words_whole}
use Rattle.claim_rule.proofs.Whole.{shown_set}
use Rattle.claim_rule.specs.Events.{CanCommit}
use Rattle.claim_rule.proofs.board.Board.commit.Goals as goal

none_case : {X : Type 0} (o : Option X) (P : Type 0) (Q : X → Type 0) → MatchOption o P Q → ((x : X) → o ≡ Some x → ⊥) →
    P
none_case None P Q m not = m
none_case (Some x) P Q m not = absurd (not x refl)

abbrev IsSpender : List (Option Seat) → ℕ → Option Seat → Type 0
IsSpender seats n o =
    MatchOption o (IsSomeAnd (slice_index_or seats n None) (λ x. 0 < x.left) → ⊥)
    (λ x. (slice_index_or seats n None ≡ Some x) × (0 < x.left))

pub edit_in-requires-clause-all : goal.edit_in-requires-clause-all
edit_in-requires-clause-all c =
    words_whole (kept_of c.self.inside) c.deref-2.result.now c.deref-2.ensures.value c.self.invariant

pub edit_in-requires-clause-as_many : goal.edit_in-requires-clause-as_many
edit_in-requires-clause-as_many c = ap length c.deref-2.ensures.value ∙ c.self.invariant.1.shape.words

pub edit_in-requires-clause-shows : goal.edit_in-requires-clause-shows
edit_in-requires-clause-shows c =
    let g = c.self.invariant in
    (replay g.0, shown_set (kept_of c.self.inside) g.0 g.1 (c.grid.ensures.places ∙ sym g.1.shape.words))

pub returns-in_default-clause-next : goal.returns-in_default-clause-next
returns-in_default-clause-next c h good = (
  short_as h (λ s. CanCommit h s c.args.n c.args.edit) _ _ c.self.view_is
      (λ good'. none_commits (kept_of c.self.inside) h c.args.n c.args.edit good'
      (none_case c.spender.result _ _ (subst (λ l. IsSpender l c.args.n c.spender.result) c.deref.ensures.value
      c.spender.ensures) c.in_default.not-Some)) good,
  refl,
)

pub invariant_of-self : goal.invariant_of-self
invariant_of-self c =
    subst Good (same_board (kept_of c.self.inside) c.edit_in.new.hold c.in_err-edit_in.ensures.refused) c.self.invariant

pub returns-in_err-edit_in-clause-good : goal.returns-in_err-edit_in-clause-good
returns-in_err-edit_in-clause-good c = invariant_of-self c

pub returns-in_err-edit_in-clause-refused : goal.returns-in_err-edit_in-clause-refused
returns-in_err-edit_in-clause-refused c =
    on_err c.from_residual.result (sym (same_board (kept_of c.self.inside) c.edit_in.new.hold
    c.in_err-edit_in.ensures.refused) ∙ c.self.view_is)

pub returns-then-not-branch-clause-good : goal.returns-then-not-branch-clause-good
returns-then-not-branch-clause-good c =
    subst Good (same_board (kept_of c.self.inside) c.edit_in.new.hold
    (c.in_ok-edit_in.ensures.unmade c.if-not-branch.true)) c.self.invariant

-- a commit may not come where the pass does not hold what is touched
pub returns-then-not-branch-clause-next : goal.returns-then-not-branch-clause-next
returns-then-not-branch-clause-next c h good =
    let kept = kept_of c.self.inside in
    let new = c.edit_in.new.hold in
    let stays = sym (same_board kept new (c.in_ok-edit_in.ensures.unmade c.if-not-branch.true)) in (
      short_as h (λ s. CanCommit h s c.args.n c.args.edit) _ _ c.self.view_is
          (λ good'. unmade_commits kept h c.args.n c.args.tag c.args.edit c.in-Some.seat new good' record {
            live = seat_there c.args.n c.deref.ensures.value refl c.in-Some.ensures.0;
            places = c.grid.ensures.places;
            words = c.deref-2.result.now;
            same = c.deref-2.ensures.value;
            answer = _;
            is = c.if-not-branch.true;
            gives = c.in_ok-edit_in.ensures.made;
          }) good,
      stays ∙ c.self.view_is,
    )

pub overflow_add-self : goal.overflow_add-self
overflow_add-self c = next_fits c.self.inside.ticket (few_so_far _ c.self.invariant.0 c.self.invariant.1)

-- a commit that is done leaves a good board
pub invariant_of-self-2 : goal.invariant_of-self-2
invariant_of-self-2 c =
    let g = c.self.invariant in
    let keys = c.in_ok-edit_in.ensures.keys in
    good_by g.0 _ (Commit c.args.n c.args.tag c.args.edit) Done _ g.1 keys
    (made_next (kept_of c.self.inside) g.0 c.args.n c.args.tag c.args.edit c.in-Some.seat c.edit_in.new.hold g.1 keys
    c.in-Some.ensures.1 record {
      live = seat_there c.args.n c.deref.ensures.value refl c.in-Some.ensures.0;
      places = c.grid.ensures.places;
      words = c.deref-2.result.now;
      same = c.deref-2.ensures.value;
      answer = _;
      is = c.if-not-branch.false;
      gives = c.in_ok-edit_in.ensures.made;
    })

pub returns-clause-good : goal.returns-clause-good
returns-clause-good c = invariant_of-self-2 c

-- else the commit is done
pub returns-clause-next : goal.returns-clause-next
returns-clause-next c h =
    seen_as h _ c.args.self.now (Commit c.args.n c.args.tag c.args.edit) Done _ c.self.view_is
    (λ good. made_next (kept_of c.self.inside) h c.args.n c.args.tag c.args.edit c.in-Some.seat c.edit_in.new.hold good
    c.in_ok-edit_in.ensures.keys c.in-Some.ensures.1 record {
      live = seat_there c.args.n c.deref.ensures.value refl c.in-Some.ensures.0;
      places = c.grid.ensures.places;
      words = c.deref-2.result.now;
      same = c.deref-2.ensures.value;
      answer = _;
      is = c.if-not-branch.false;
      gives = c.in_ok-edit_in.ensures.made;
    })
