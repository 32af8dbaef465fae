use Rattle.std.proofs.Common.{Bool, true, subst, sym}
use Rattle.cell_store.specs.Buckets.{InHand}
use Rattle.claim_rule.specs.Making.{EditGives}
use Rattle.claim_rule.proofs.Committing.{places_whole, made_of, unmade_of}
use Rattle.claim_rule.proofs.edits.edit_in.Goals as goal
use Rattle.claim_rule.proofs.edits.edit_in.Goals.{then-own+in_ok-exchange, else-own}

pub trial_of-requires : goal.trial_of-requires
trial_of-requires c =
    places_whole c.args.words.now c.args.hold.now.places _ c.grid-grid.ensures.places c.requires.as_many c.requires.all

pub exchange-requires-clause-whole : goal.exchange-requires-clause-whole
exchange-requires-clause-whole c = record {
  has = record { size = c.grid-grid.ensures.size; places = c.grid-grid.ensures.places };
  all = places_whole c.args.words.now c.args.hold.now.places _ c.grid-grid.ensures.places c.requires.as_many
      c.requires.all;
}

pub exchange-requires-clause-right : goal.exchange-requires-clause-right
exchange-requires-clause-right c =
    let shows = c.requires.shows in
    (shows.0, shows.1, (c.in_ok-trial.ensures shows.0 shows.1).reply)

pub returns-clause-keys : goal.returns-clause-keys
returns-clause-keys c = c.know_keys.ensures

-- the edit is made where the words name the pass, and else its hold is as before
pub returns-clause-made : goal.returns-clause-made
returns-clause-made c s shows =
    let t = c.in_ok-trial.trial in
    let trial = c.in_ok-trial.ensures s shows in
    elim c.if-own.branch [
      | then-own+in_ok-exchange w ↦
          subst (λ (b : Bool). EditGives c.args.words.now s c.args.number c.args.n c.args.tag c.args.edit
          c.args.hold.now b c.if-own.hold) (sym w.if-own.true)
          (subst (λ (x : InHand). EditGives c.args.words.now s c.args.number c.args.n c.args.tag c.args.edit
          c.args.hold.now true x) (sym w.hold-is)
          (made_of c.args.words.now s c.args.number c.args.n c.args.tag c.args.edit t c.grid-grid.result
          c.deref.result.now w.deref-then-own.result.now w.deref-then-own-2.result.now c.args.hold.now _ trial
          c.grid-grid.ensures.grid c.deref.ensures.value w.deref-then-own.ensures.value
          w.deref-then-own-2.ensures.value c.requires.all (c.names_touched-own.ensures.0 w.if-own.true)
          w.in_ok-exchange.ensures.exchanged))
      | else-own w ↦
          subst (λ (b : Bool). EditGives c.args.words.now s c.args.number c.args.n c.args.tag c.args.edit
          c.args.hold.now b c.if-own.hold) (sym w.if-own.false)
          (unmade_of c.args.words.now s c.args.n c.args.edit t c.grid-grid.result c.deref.result.now
          c.args.hold.now trial c.grid-grid.ensures.grid c.deref.ensures.value
          (λ own. let y = c.names_touched-own.ensures.1 own in absurd (cc (y, w.if-own.false))))
    ]
