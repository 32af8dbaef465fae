-- What a pass carries after one more claim.
use Rattle.std.specs.Prelude.{◌≡◌, ◌≢◌, ℕ, not, ◌==◌, List, [], ◌∷◌, ◌++◌, map, length, ◌<◌, Option, None, Some, IsSome}
use Rattle.std.specs.Prelude.{slice_set}
use Rattle.std.proofs.Common.{sym, ◌∙◌, ap, subst, inl, inr, get_or-set_same, get_or-set_other}
use Rattle.std.specs.List.{filter}
use Rattle.atomic_table.specs.Table.{rest}
use Rattle.cell_store.specs.Buckets.{BucketContent, at_place, bucket_at}
use Rattle.claim_table.specs.declared.view.Act.TheVariants.{Claim, Release}
use Rattle.claim_table.specs.declared.view.View.{View}
use Rattle.claim_table.specs.Trails.{in_hand}
use Rattle.claim_table.specs.Hands.{Carries, emptied}
use Rattle.claim_table.specs.Plays.{Seated, claims, releases}
use Rattle.claim_table.proofs.Trailed.{in_hand_snoc}
use Rattle.list_laws.specs.Lists.{AreDistinct}
use Rattle.point_order.specs.Sets.{IsIn}
use mathlib.Core.Logic.{dite}
use native.Mathlib.Decide.{ℕ_discrete}
use Rattle.std.proofs.lemmas.List.{reverse-append}
use Rattle.list_laws.proofs.Cited.{distinct_push, in_snoc, is_there, last_apart, none_there, same_there, snoc_new}
use Rattle.list_laws.proofs.Cited.{snoc_old, within_some, without_last}

-- the slot of a bucket that is claimed after others is taken last
emptied_snoc : (l : List ℕ) (b : ℕ) → emptied (l ++ b ∷ []) ≡ (b, None) ∷ emptied l
emptied_snoc l b = ap (map (λ (x : ℕ). (x, None))) (reverse-append l (b ∷ []))

-- a content that stands at its place is as before once it is put there
in_place : (g b : ℕ) (c : BucketContent) → c.place ≡ Some (g, b) → at_place g b c ≡ c
in_place g b c e = λ i. record c { place = sym e i }

-- a pass that claims a bucket carries it behind those that it carried
pub carries_more : (m m' : Seated) (places places' : List (Option BucketContent)) (order order' : List ℕ) (g b : ℕ)
    (c : BucketContent) → Carries m places order → m'.0 ≡ claims m.0 b c → m'.1 ≡ (b, None) ∷ m.1 →
    c.place ≡ Some (g, b)
    → places' ≡ slice_set places b (Some (at_place g b c)) → order' ≡ order ++ b ∷ [] → b < length places →
    bucket_at places b ≡ None → Carries m' places' order'
carries_more m m' places places' order order' g b c k view slots place put pushed below lacks = record {
  places_are =
      ap (λ v. v.held) view ∙ (λ i. slice_set (k.places_are i) b (Some (sym (in_place g b c place) i))) ∙ sym put;
  order_is = ap (λ v. in_hand v.trail) view ∙ in_hand_snoc m.0.trail (Claim b)
      ∙ ap (λ (l : List ℕ). l ++ b ∷ []) k.order_is ∙ sym pushed;
  slots = slots ∙ ap (λ (l : List (ℕ × Option BucketContent)). (b, None) ∷ l) k.slots ∙ sym (emptied_snoc order b)
      ∙ ap emptied (sym pushed);
  holds = λ x. (
    (λ t. subst (λ (l : List ℕ). IsIn x l) (sym pushed) (dite (ℕ_discrete x b)
        (λ e. subst (λ (y : ℕ). IsIn y (order ++ b ∷ [])) (sym e) (snoc_new order b))
        (λ n. snoc_old order b x ((k.holds x).0 (same_there (bucket_at places' x) (bucket_at places x)
        (ap (λ l. bucket_at l x) put ∙ get_or-set_other places b x (Some (at_place g b c)) None n) t))))),
    (λ i. dite (ℕ_discrete x b)
        (λ e. is_there (bucket_at places' x) (at_place g b c) (ap (λ l. bucket_at l x) put
        ∙ ap (λ (y : ℕ). bucket_at (slice_set places b (Some (at_place g b c))) y) e
        ∙ get_or-set_same places b (Some (at_place g b c)) None below))
        (λ n. elim (in_snoc order b x (subst (λ (l : List ℕ). IsIn x l) pushed i)) [
          | inl j ↦ same_there (bucket_at places x) (bucket_at places' x)
              (sym (ap (λ l. bucket_at l x) put ∙ get_or-set_other places b x (Some (at_place g b c)) None n))
              ((k.holds x).1 j)
          | inr e ↦ absurd (n (sym e))
        ])),
  );
  once = subst (λ (l : List ℕ). AreDistinct l) (sym pushed) (distinct_push order b k.once
      (λ i. none_there (bucket_at places b) lacks ((k.holds b).1 i)));
}

-- what two lists of one bucket's slot and others begin with is one
pub first_slot : (b : ℕ) (x y : Option BucketContent) (l m : List (ℕ × Option BucketContent)) →
    (b, x) ∷ l ≡ (b, y) ∷ m → x ≡ y
first_slot b x y l m e = ap (first x) e
  where
    first : Option BucketContent → List (ℕ × Option BucketContent) → Option BucketContent
    first d [] = d
    first d (s ∷ ss) = s.1

-- ---- a release of the last

-- a pass that releases the last bucket that it claimed carries the others
pub carries_less : (m m' : Seated) (places places' : List (Option BucketContent)) (order left : List ℕ) (b : ℕ) →
    Carries m places order → order ≡ left ++ b ∷ [] → m'.0 ≡ releases m.0 b → m'.1 ≡ rest m.1 →
    places' ≡ slice_set places b None → Carries m' places' left
carries_less m m' places places' order left b k popped view slots taken =
    let apart = last_apart left b (subst (λ (l : List ℕ). AreDistinct l) popped k.once) in
    let there : IsSome (bucket_at places b) =
    (k.holds b).1 (subst (λ (l : List ℕ). IsIn b l) (sym popped) (snoc_new left b)) in
    let below : b < length places = within_some places b there in
    let here : bucket_at places' b ≡ None = ap (λ l. bucket_at l b) taken ∙ get_or-set_same places b None None below in
    let else_where : (x : ℕ) → x ≢ b → bucket_at places' x ≡ bucket_at places x =
    λ x n. ap (λ l. bucket_at l x) taken ∙ get_or-set_other places b x None None n in
    record {
      places_are = ap (λ v. v.held) view ∙ ap (λ l. slice_set l b None) k.places_are ∙ sym taken;
      order_is = ap (λ v. in_hand v.trail) view ∙ in_hand_snoc m.0.trail (Release b)
          ∙ ap (λ (l : List ℕ). filter (λ x. not (x == b)) l) (k.order_is ∙ popped) ∙ without_last left b apart.1;
      slots = slots ∙ ap rest (k.slots ∙ ap emptied popped ∙ emptied_snoc left b);
      holds = λ x. (
        (λ t. dite (ℕ_discrete x b)
            (λ e. absurd (none_there (bucket_at places' x) (ap (λ (y : ℕ). bucket_at places' y) e ∙ here) t))
            (λ n. elim (in_snoc left b x (subst (λ (l : List ℕ). IsIn x l) popped
            ((k.holds x).0 (same_there (bucket_at places' x) (bucket_at places x) (else_where x n) t)))) [
              | inl j ↦ j
              | inr e ↦ absurd (n (sym e))
            ])),
        (λ i. dite (ℕ_discrete x b)
            (λ e. absurd (apart.1 (subst (λ (y : ℕ). IsIn y left) e i)))
            (λ n. same_there (bucket_at places x) (bucket_at places' x) (sym (else_where x n))
            ((k.holds x).1 (subst (λ (l : List ℕ). IsIn x l) (sym popped) (snoc_old left b x i))))),
      );
      once = apart.0;
    }

-- the last bucket that was claimed is in hand
pub last_in_hand : (m : Seated) (places : List (Option BucketContent)) (order left : List ℕ) (b : ℕ) →
    Carries m places order → order ≡ left ++ b ∷ [] → IsSome (bucket_at places b)
last_in_hand m places order left b k popped =
    (k.holds b).1 (subst (λ (l : List ℕ). IsIn b l) (sym popped) (snoc_new left b))

-- and its slot was taken last, and is empty
pub last_emptied :
    (m : Seated) (places : List (Option BucketContent)) (order left : List ℕ) (b : ℕ) → Carries m places order →
    order ≡ left ++ b ∷ [] → m.1 ≡ (b, None) ∷ emptied left
last_emptied m places order left b k popped = k.slots ∙ ap emptied popped ∙ emptied_snoc left b

-- its slot is the first of those that were taken, and the others follow
pub last_is_first :
    (m : Seated) (places : List (Option BucketContent)) (order left : List ℕ) (b : ℕ) → Carries m places order →
    order ≡ left ++ b ∷ [] → m.1 ≡ (b, None) ∷ rest m.1
last_is_first m places order left b k popped =
    let e = last_emptied m places order left b k popped in
    e ∙ ap (λ (l : List (ℕ × Option BucketContent)). (b, None) ∷ l) (ap rest (sym e))

-- where the slot of the last was filled, the bucket can be released
pub filled_again :
    (m m' : Seated) (places : List (Option BucketContent)) (order left : List ℕ) (b : ℕ) (c : BucketContent) →
    Carries m places order → bucket_at places b ≡ Some c → m'.0 ≡ m.0 → m'.1 ≡ (b, Some c) ∷ rest m.1 →
    (u : BucketContent) × (bucket_at m'.0.held b ≡ Some u) × (m'.1 ≡ (b, Some u) ∷ rest m'.1)
filled_again m m' places order left b c k here view slots = (
  c,
  ap (λ (v : View). bucket_at v.held b) view ∙ ap (λ (l : List (Option BucketContent)). bucket_at l b) k.places_are
      ∙ here,
  slots ∙ ap (λ (l : List (ℕ × Option BucketContent)). (b, Some c) ∷ l) (ap rest (sym slots)),
)
