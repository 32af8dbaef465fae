use Rattle.std.specs.Prelude.{◌≡◌, ℕ, ◌+◌, ◌*◌, ◌<◌, ◌≤◌, length, Option, None, Some, slice_set}
use Rattle.std.proofs.Common.{refl, sym, ◌∙◌, ap, subst, inl, inr, arith}
use Rattle.std.proofs.lemmas.Bool.{cases_eq}
use Rattle.std.proofs.lemmas.List.{get_or-set_same, get_or-set_other}
use Rattle.std.proofs.Math.ListN.{length-set}
use Rattle.cell_store.specs.Buckets.{BucketContent, InHand, bucket_at, at_place, content_of}
use Rattle.insertion.specs.Opening.{bare_bucket}
use Rattle.insertion.proofs.opening.bare_hold.Goals as goal

-- the first n places of a hold have new buckets, and the others none
abbrev IsBareTo : ℕ → ℕ → InHand → Type 0
IsBareTo g n hold =
    (hold.grid ≡ g) × (length hold.places ≡ g * g * g)
    × ((k : ℕ) → k < n → bucket_at hold.places k ≡ Some (at_place g k bare_bucket))
    × ((k : ℕ) → n ≤ k → bucket_at hold.places k ≡ None)

-- with a new bucket at the next place one more has
bare_next : (g b : ℕ) (old new : InHand) (x : BucketContent) → x ≡ bare_bucket → b < g * g * g →
    new ≡ record old { places = slice_set old.places b (Some (at_place old.grid b x)) } → IsBareTo g b old →
    IsBareTo g (b + 1) new
bare_next g b old new x y l e i =
    subst (IsBareTo g (b + 1)) (sym e) (
      i.0,
      length-set old.places b put ∙ i.1,
      λ k h. elim (cases_eq k b) [
        | inl w ↦ ap (bucket_at (slice_set old.places b put)) w
            ∙ get_or-set_same old.places b put None (subst (λ n. b < n) (sym i.1) l)
            ∙ ap (λ (v : BucketContent). Some (at_place old.grid b v)) y
            ∙ ap (λ m. Some (at_place m b bare_bucket)) i.0 ∙ ap (λ m. Some (at_place g m bare_bucket)) (sym w)
        | inr w ↦ get_or-set_other old.places b k put None w ∙ i.2 k (omega (arith, h, w))
      ],
      λ k h. get_or-set_other old.places b k put None (λ q. absurd (omega (arith, q, h))) ∙ i.3 k (omega (arith, h)),
    )
  where
    put : Option BucketContent
    put = Some (at_place old.grid b x)

pub loop-b-preserved : goal.loop-b-preserved
loop-b-preserved c =
    bare_next c.args.grid c.loop-b.b c.loop-b.hold c.put.new.self (content_of c.new.result) c.new.ensures
    (subst (λ n. c.loop-b.b < n) c.count-b-end.ensures.value c.loop-b-test.true) c.put.ensures c.loop-b.invariant
