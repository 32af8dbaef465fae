use Rattle.std.proofs.Common.{◌≡◌, ◌∷◌, None, Some, ℕ, slice_set, refl, sym, ◌∙◌, ap}
use Rattle.atomic_table.specs.Table.{rest}
use Rattle.list_laws.proofs.Cited.{one_value}
use Rattle.cell_store.specs.Buckets.{BucketContent, at_place, bucket_at}
use Rattle.claim_table.specs.Plays.{claims}
use Rattle.claim_table.proofs.Carrying.{carries_more, first_slot}
use Rattle.claim_table.proofs.hands.take_in.Goals as goal

pub exchange-requires : goal.exchange-requires
exchange-requires c =
    let t = (c.claim_at-found.ensures.claimed c.args.b refl).0 c.if-found-ne0.false in (
      c.claim_at-found.ensures.seat.0 ∙ c.requires.live.0,
      (
        Some t.0,
        t.2
            ∙ ap (λ cs. (c.args.b, Some t.0) ∷ rest cs) (sym t.2),
      ),
    )

-- the bucket that was claimed is carried behind those that were
pub returns-clause-carries : goal.returns-clause-carries
returns-clause-carries c =
    let t = (c.claim_at-found.ensures.claimed c.args.b refl).0 c.if-found-ne0.false in
    let u : BucketContent = t.0 in
    let bucket : BucketContent = c.in-Some.slot in
    let was = c.exchange.ensures.2 in
    let now = c.exchange.ensures.3 in
    let same : u ≡ bucket = one_value u bucket (first_slot c.args.b (Some u) c.exchange.result c.args.place.now.me.1
    (rest c.claim_at-found.new.place.me.1) (sym t.2 ∙ was) ∙ c.in-Some.is) in
    carries_more c.args.place.now.me c.exchange.new.seat.me c.args.hold.now.places c.put.new.self.places
    c.args.order.now.items c.push_reserved.new.self.items c.args.hold.now.grid c.args.b bucket c.requires.carries
    (ap (λ y. y.0) now ∙ t.1 ∙ ap (λ (y : BucketContent). claims c.args.place.now.me.0 c.args.b y) same)
    (ap (λ y. y.1) now ∙ ap (λ l. (c.args.b, None) ∷ rest l) t.2)
    (ap (λ (y : BucketContent). y.place) (sym same) ∙ t.4 ∙ ap (λ (g : ℕ). Some (g, c.args.b)) (sym c.requires.grid))
    (ap (λ h. h.places) c.put.ensures ∙ ap (λ (y : BucketContent). slice_set c.args.hold.now.places c.args.b
    (Some (at_place c.args.hold.now.grid c.args.b y))) c.into_bucket.ensures) c.push_reserved.ensures.items
    c.requires.below c.requires.absent

pub claim_at-found-requires-clause-absent : goal.claim_at-found-requires-clause-absent
claim_at-found-requires-clause-absent c =
    ap (λ l. bucket_at l c.args.b) c.requires.carries.places_are ∙ c.requires.absent
