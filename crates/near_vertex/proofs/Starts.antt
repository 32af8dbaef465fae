-- The first point of a walk, and the first bucket that is not in hand.
use Rattle.std.specs.Prelude.{◌≡◌, refl, ℕ, ◌+◌, ◌*◌, ◌%◌, ◌<◌, ◌==◌, List, [], ◌∷◌, Option, None, Some, IsSome}
use Rattle.std.proofs.Common.{inl, sym, subst}
use Rattle.list_laws.proofs.Cited.{filtered_from, filtered_true, none_there, round, same_true, some_of}
use Rattle.point_order.specs.Sets.{IsIn}
use Rattle.del_laws.proofs.Cited.{complex_is_closed_list}
use Rattle.bucket_grid.specs.Grids.{bucket_of}
use Rattle.cell_store.specs.Buckets.{BucketContent, InHand, bucket_at, points_at}
use Rattle.cell_store.specs.Meshes.{HasPlaces, IsWhole}
use Rattle.cell_store.specs.Shares.{Shows}
use Rattle.bucket_grid.proofs.Cited.{bucket_below}
use Rattle.cell_store.proofs.Cited.{has_point, point_held, points_of_bucket, solid_set}
use Rattle.del_laws.proofs.Cited.{listed_inside, listed_is_cell}
use Rattle.near_vertex.specs.Turns.{HasNoPoint, front_of}
use Rattle.near_vertex.specs.Laws.{NearStartIsWalk}

-- ---- the first point

-- the first buckets have no point
abbrev pub NoneBelow : InHand → ℕ → Type 0
NoneBelow hold n = (b : ℕ) → b < n → points_at hold.places b ≡ []

-- ---- the first bucket that is not in hand

-- a point of the set in a bucket in hand is one of the bucket's
pub point_there : (hold : InHand) (s : List ℕ) (b : ℕ) (x : BucketContent) (p : ℕ) → Shows hold s →
    bucket_at hold.places b ≡ Some x → b ≡ bucket_of hold.grid p → IsIn p s → IsIn p (points_at hold.places b)
point_there hold s b x p st e n m =
    subst (λ (o : Option BucketContent). IsIn p (points_of_bucket o)) (sym e)
    (subst (λ (l : List ℕ). IsIn p l) (sym (st.sights b x e).points)
    (filtered_true (λ p. bucket_of hold.grid p == b) s p m (same_true (bucket_of hold.grid p) b (sym n))))

-- a round over buckets that are all in hand meets a point
pub none_missing :
    (hold : InHand) (s : List ℕ) (first count : ℕ) → HasPlaces hold → Shows hold s → HasNoPoint hold → first < count →
    count ≡ hold.grid * hold.grid * hold.grid →
    ((i : ℕ) → i < count → IsSome (bucket_at hold.places ((first + i) % count))) → ⊥
none_missing hold s first count has st none f e all =
    let i = solid_set hold s st in
    let k = complex_is_closed_list s i.set.ascending i.set.keys i.solid in
    let c = listed_is_cell s k.some i.set.ascending k.has_some in
    let p = has_point s k.some c in
    let m = listed_inside s k.some c p.0 p.1 in
    let b = bucket_of hold.grid p.0 in
    let l : b < count = subst (λ n. b < n) (sym e) (bucket_below hold.grid p.0 has.size) in
    let r = round first b count f l in
    let x = some_of (bucket_at hold.places b) (in_hand b ((first + r.0) % count) r.2 (all r.0 r.1)) in
    subst (λ (v : List ℕ). IsIn p.0 v) (none b) (point_there hold s b x.0 p.0 st x.1 refl m)
  where
    -- the same bucket by its number
    in_hand : (b n : ℕ) → n ≡ b → IsSome (bucket_at hold.places n) → IsSome (bucket_at hold.places b)
    in_hand b n e o = subst (λ m. IsSome (bucket_at hold.places m)) e o

-- ---- what starts is a walk

-- the front of a list is a member
front_in : (l : List ℕ) (p : ℕ) → front_of l ≡ Some p → IsIn p l
front_in [] p e = cc
front_in (x ∷ l) p e = inl cc

-- a point of a bucket in hand is one of the set
pub in_set : (hold : InHand) (s : List ℕ) (b p : ℕ) → Shows hold s → IsIn p (points_at hold.places b) → IsIn p s
in_set hold s b p st m = go (bucket_at hold.places b) refl m
  where
    -- by the bucket
    go : (o : Option BucketContent) → bucket_at hold.places b ≡ o → IsIn p (points_of_bucket o) → IsIn p s
    go None e i = absurd i
    go (Some x) e i = (filtered_from (λ p. bucket_of hold.grid p == b) s p
        (subst (λ (l : List ℕ). IsIn p l) (st.sights b x e).points i)).0

-- the law NearStartIsWalk
pub start_is_walk : NearStartIsWalk
start_is_walk hold s q w st g = in_set hold s g.1.bucket w.point st
    (front_in (points_at hold.places g.1.bucket) w.point g.1.least)

-- with every bucket in hand some bucket has a point
pub some_point_held : (hold : InHand) (s : List ℕ) → IsWhole hold → Shows hold s → HasNoPoint hold → ⊥
some_point_held hold s w st none =
    let i = solid_set hold s st in
    let k = complex_is_closed_list s i.set.ascending i.set.keys i.solid in
    let c = listed_is_cell s k.some i.set.ascending k.has_some in
    let p = has_point s k.some c in
    let m = listed_inside s k.some c p.0 p.1 in
    let b = bucket_of hold.grid p.0 in
    let x = some_of (bucket_at hold.places b) (point_held hold p.0 w.has w.all) in
    subst (λ (v : List ℕ). IsIn p.0 v) (none b) (point_there hold s b x.0 p.0 st x.1 refl m)

-- with every bucket in hand that of a point is in hand
pub none_under : (hold : InHand) (p : ℕ) → IsWhole hold → bucket_at hold.places (bucket_of hold.grid p) ≡ None → ⊥
none_under hold p w e = none_there (bucket_at hold.places (bucket_of hold.grid p)) e (point_held hold p w.has w.all)

-- a point of a bucket in hand is one of the set
pub from_bucket : (hold : InHand) (s : List ℕ) (b p : ℕ) (x : BucketContent) → Shows hold s →
    bucket_at hold.places b ≡ Some x → IsIn p x.points → IsIn p s
from_bucket hold s b p x st e i = (filtered_from (λ p. bucket_of hold.grid p == b) s p
    (subst (λ (l : List ℕ). IsIn p l) (st.sights b x e).points i)).0
