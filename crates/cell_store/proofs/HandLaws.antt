-- Buckets that come in hand and go.
use Rattle.std.specs.Prelude.{◌≡◌, ℕ, zero, suc, ◌==◌, List, [], ◌∷◌, ◌⊎◌, Option, None, Some, IsSome, slice_set, ◌*◌}
use Rattle.std.specs.Prelude.{replicate}
use Rattle.std.specs.List.{filter}
use Rattle.std.proofs.Common.{refl, sym, ◌∙◌, ap, subst, inl, inr}
use Rattle.std.proofs.lemmas.Bool.{cases_eq}
use Rattle.std.proofs.lemmas.List.{get_or-set_other}
use Rattle.list_laws.proofs.Cited.{among_from, among_true, eq_same, filtered_from, filtered_true, one_value, same_test}
use Rattle.list_laws.proofs.Cited.{some_of}
use Rattle.point_order.specs.Sets.{is_among}
use Rattle.bucket_grid.specs.Grids.{bucket_of}
use Rattle.cell_store.specs.Buckets.{BucketContent, InHand, bucket_at, at_place, points_at}
use Rattle.cell_store.specs.Shares.{Shows, IsShare, IsSight}
use Rattle.cell_store.specs.Meshes.{EmptyStands, EmptyShows, FewerStand, FewerShow, PutStands, PutShows, PutIsMore}
use Rattle.cell_store.specs.Meshes.{TakeIsFewer, with_bucket}

-- ---- fewer buckets

-- fewer buckets of a hold stand for the history for which it stands
pub fewer_stand : FewerStand
fewer_stand few many h am st = record {
  legal = st.legal;
  keys = st.keys;
  solid = st.solid;
  shares = λ b c e. subst (λ g. IsShare g b h c) (sym am.grid) (st.shares b c (am.buckets b c e));
}

-- and show the set that it shows
pub fewer_show : FewerShow
fewer_show few many s am sh = record {
  ascending = sh.ascending;
  keys = sh.keys;
  solid = sh.solid;
  sights = λ b c e. subst (λ g. IsSight g b s c) (sym am.grid) (sh.sights b c (am.buckets b c e));
}

-- ---- no bucket

-- in an empty hold no bucket is in hand
none_there : (n k : ℕ) (c : BucketContent) → bucket_at (replicate n None) k ≡ Some c → ⊥
none_there zero k c e = cc e
none_there (suc n) zero c e = cc e
none_there (suc n) (suc k) c e = none_there n k c e

-- so it stands for every sound history
pub empty_stands : EmptyStands
empty_stands g h sound = record {
  legal = sound.legal;
  keys = sound.set.set.keys;
  solid = sound.set.solid;
  shares = λ b c e. absurd (none_there (g * g * g) b c e);
}

-- and shows every solid set of keys
pub empty_shows : EmptyShows
empty_shows g s solid = record {
  ascending = solid.set.ascending;
  keys = solid.set.keys;
  solid = solid.solid;
  sights = λ b c e. absurd (none_there (g * g * g) b c e);
}

-- ---- one place that is set

-- what stands at a place after one was set: what was set there, or what stood at the place before
set_from : (l : List (Option BucketContent)) (b k : ℕ) (x : Option BucketContent) (y : BucketContent) →
    bucket_at (slice_set l b x) k ≡ Some y → ((k ≡ b) × (x ≡ Some y)) ⊎ (bucket_at l k ≡ Some y)
set_from [] zero k x y e = inr e
set_from [] (suc b) k x y e = inr e
set_from (o ∷ l) zero zero x y e = inl (refl, e)
set_from (o ∷ l) zero (suc k) x y e = inr e
set_from (o ∷ l) (suc b) zero x y e = inr e
set_from (o ∷ l) (suc b) (suc k) x y e = elim (set_from l b k x y e) [ inl p ↦ inl (ap suc p.0, p.1) | inr q ↦ inr q ]

-- a fact of every bucket in hand, where it holds of the one that comes
put_each : (P : ℕ → BucketContent → Type 0) (hold : InHand) (b : ℕ) (c : BucketContent) → P b (at_place hold.grid b c) →
    ((k : ℕ) (d : BucketContent) → bucket_at hold.places k ≡ Some d → P k d) → (k : ℕ) (d : BucketContent) →
    bucket_at (with_bucket b c hold).places k ≡ Some d → P k d
put_each P hold b c own old k d e = elim (set_from hold.places b k (Some (at_place hold.grid b c)) d e) [
  | inl w ↦ subst (λ n. P n d) (sym w.0) (subst (P b) (one_value (at_place hold.grid b c) d w.1) own)
  | inr q ↦ old k d q
]

-- with a bucket more that is its share, a hold stands for the history still
pub put_stands : PutStands
put_stands hold b c h st sh = record {
  legal = st.legal;
  keys = st.keys;
  solid = st.solid;
  shares = put_each (λ k d. IsShare hold.grid k h d) hold b c
      (record { points = sh.points; cells = sh.cells; entries = sh.entries }) st.shares;
}

-- with one that has what the set and its complex have in it, it shows the set still
pub put_shows : PutShows
put_shows hold b c s sh sight = record {
  ascending = sh.ascending;
  keys = sh.keys;
  solid = sh.solid;
  sights = put_each (λ k d. IsSight hold.grid k s d) hold b c (record { points = sight.points; cells = sight.cells })
      sh.sights;
}

-- the buckets before are among those with one more
pub put_is_more : PutIsMore
put_is_more hold b c none = record { grid = refl; buckets = each }
  where
    each : (k : ℕ) (d : BucketContent) → bucket_at hold.places k ≡ Some d →
        bucket_at (with_bucket b c hold).places k ≡ Some d
    each k d e = elim (cases_eq k b) [
      | inl w ↦ absurd (cc (sym none ∙ ap (bucket_at hold.places) (sym w) ∙ e))
      | inr n ↦ get_or-set_other hold.places b k (Some (at_place hold.grid b c)) None n ∙ e
    ]

-- and those with one less are among those before
pub take_is_fewer : TakeIsFewer
take_is_fewer hold b = record {
  grid = refl;
  buckets =
      λ k d e. elim (set_from hold.places b k None d e) [ inl w ↦ absurd (cc w.1) | inr q ↦ q ];
}

-- ---- a point in hand

-- a bucket in hand has a point exactly where the set has it
pub held_point : (hold : InHand) (s : List ℕ) (p : ℕ) → Shows hold s →
    IsSome (bucket_at hold.places (bucket_of hold.grid p)) →
    is_among p (points_at hold.places (bucket_of hold.grid p)) ≡ is_among p s
held_point hold s p sh o =
    let b = bucket_of hold.grid p in
    let c = some_of (bucket_at hold.places b) o in
    let is : points_at hold.places b ≡ filter (λ q. bucket_of hold.grid q == b) s =
    (rw c.1 (sh.sights b c.0 c.1).points) in
    ap (is_among p) is ∙ same_test (is_among p (filter (λ q. bucket_of hold.grid q == b) s)) (is_among p s)
    (λ t. among_true p s (filtered_from (λ q. bucket_of hold.grid q ==
    b) s p (among_from p (filter (λ q. bucket_of hold.grid q == b) s) t)).0)
    (λ t. among_true p (filter (λ q. bucket_of hold.grid q == b) s)
    (filtered_true (λ q. bucket_of hold.grid q == b) s p (among_from p s t) (eq_same b)))
