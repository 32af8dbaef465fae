use Rattle.std.proofs.Common.{◌++◌, None, Some, ◌∙◌, ap, sym}
use Rattle.cell_store.specs.Buckets.{BucketContent}
use Rattle.claim_table.specs.Plays.{releases}
use Rattle.std.specs.Option.{option_to_list}
use Rattle.atomic_table.specs.Table.{rest}
use Rattle.claim_table.proofs.Carrying.{carries_less, filled_again, last_in_hand, last_is_first}
use Rattle.claim_table.proofs.hands.give_back.Goals as goal

pub take-bucket-requires : goal.take-bucket-requires
take-bucket-requires c =
    let popped = c.pop.ensures.items ∙ ap (λ o. c.pop.new.self.items ++ option_to_list o) c.unwrap-b.ensures in
    last_in_hand c.args.place.now.me c.args.hold.now.places c.args.order.now.items c.pop.new.self.items
    c.unwrap-b.result c.requires.carries popped

pub returns-clause-carries : goal.returns-clause-carries
returns-clause-carries c =
    let popped = c.pop.ensures.items ∙ ap (λ o. c.pop.new.self.items ++ option_to_list o) c.unwrap-b.ensures in
    let now = c.exchange.ensures.3 in
    let released = c.release_at.ensures.released in
    carries_less c.args.place.now.me c.release_at.new.place.me c.args.hold.now.places c.take-bucket.new.self.places
    c.args.order.now.items c.pop.new.self.items c.unwrap-b.result c.requires.carries popped
    (ap (λ y. y.0) released ∙ ap (λ y. Rattle.claim_table.specs.Plays.releases y.0 c.unwrap-b.result) now)
    (ap (λ y. y.1) released ∙ ap (λ y. rest y.1) now)
    (ap (λ h. h.places) c.take-bucket.ensures.after)

pub release_at-requires-clause-slot : goal.release_at-requires-clause-slot
release_at-requires-clause-slot c =
    let now = c.exchange.ensures.3 in
    filled_again c.args.place.now.me c.exchange.new.seat.me c.args.hold.now.places c.args.order.now.items
    c.pop.new.self.items
    c.unwrap-b.result c.of.result c.requires.carries (c.take-bucket.ensures.bucket ∙ ap
    (λ (x : BucketContent). Some x) (sym c.of.ensures))
    (ap (λ y. y.0) now) (ap (λ y. y.1) now)

pub exchange-requires : goal.exchange-requires
exchange-requires c =
    let popped = c.pop.ensures.items ∙ ap (λ o. c.pop.new.self.items ++ option_to_list o) c.unwrap-b.ensures in (
      c.requires.live.0,
      (
        None,
        last_is_first c.args.place.now.me c.args.hold.now.places c.args.order.now.items c.pop.new.self.items
            c.unwrap-b.result c.requires.carries popped,
      ),
    )

pub returns-clause-released : goal.returns-clause-released
returns-clause-released c =
    let popped = c.pop.ensures.items ∙ ap (λ o. c.pop.new.self.items ++ option_to_list o) c.unwrap-b.ensures in (
      c.unwrap-b.result,
      popped,
      ap (λ y. y.0) c.release_at.ensures.released ∙ ap
          (λ y. releases y.0 c.unwrap-b.result) c.exchange.ensures.3,
    )
