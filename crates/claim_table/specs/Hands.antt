-- What a pass carries in its hands.
use Rattle.std.specs.Prelude.{◌≡◌, ℕ, ◌+◌, ◌*◌, ◌^◌, ◌<◌, ◌≤◌, List, [], ◌∷◌, ◌++◌, map, reverse, length, vec_capacity}
use Rattle.std.specs.Prelude.{◌↔◌, Option, None, Some, IsSome}
use Rattle.atomic_table.specs.Seated.{TableId}
use Rattle.list_laws.specs.Lists.{AreDistinct}
use Rattle.point_order.specs.Sets.{IsIn}
use Rattle.cell_store.specs.Buckets.{BucketContent, InHand, bucket_at}
use Rattle.cell_store.specs.Meshes.{AreAmong}
use Rattle.cell_store.specs.Shares.{Shows}
use Rattle.claim_table.specs.declared.hands.Hands.{Hands}
use Rattle.claim_table.specs.declared.view.Act.{Act}
use Rattle.claim_table.specs.declared.view.Act.TheVariants.{Claim, Release}
use Rattle.claim_table.specs.Trails.{in_hand}
use Rattle.claim_table.specs.Plays.{Seated}

-- the slots that a seat has taken are those of the buckets that it holds, the last one first, and they are empty
abbrev pub emptied : List ℕ → List (ℕ × Option BucketContent)
emptied bs = map (λ b. (b, None)) (reverse bs)

-- What a pass carries in its hands is what its view says: these buckets and no other, claimed in this order, each once.
pub record Carries (m : Seated) (places : List (Option BucketContent)) (order : List ℕ) : Type 0 where
  pub places_are : m.0.held ≡ places
  pub order_is : in_hand m.0.trail ≡ order
  pub slots : m.1 ≡ emptied order
  pub holds : (b : ℕ) → IsSome (bucket_at places b) ↔ IsIn b order
  pub once : AreDistinct order

-- the steps that release these buckets, the last one first
abbrev pub releases_of : List ℕ → List Act
releases_of bs = map Release (reverse bs)

-- The pass released some of the buckets that it had claimed, the last ones first.
pub record IsGivingBack (old : Seated) (claims : List ℕ) (m : Seated) (hold : InHand) (order : List ℕ) : Type 0 where
  pub carries : Carries m hold.places order
  pub acts : List Act
  pub view : m.0 ≡ record old.0 { held = hold.places; trail = old.0.trail ++ acts }
  pub all : acts ++ releases_of order ≡ releases_of claims

-- The pass holds nothing, and its numbers are within their limits.
pub record IsAtRest (m : Seated) : Type 0 where
  pub nothing : (b : ℕ) → bucket_at m.0.held b ≡ None
  pub none_in_hand : in_hand m.0.trail ≡ []
  pub no_slot : m.1 ≡ []
  pub no_child : m.0.child ≡ None
  pub some_part : 0 < m.0.parts
  pub inside : m.0.first + m.0.parts ≤ 64
  pub few : m.0.left ≤ 2 ^ 32 * m.0.parts

-- ---- the hands of a live pass, in a call and between two

-- how many places have no bucket
abbrev pub empty_places : List (Option BucketContent) → ℕ
empty_places [] = 0
empty_places (None ∷ places) = empty_places places + 1
empty_places (Some c ∷ places) = empty_places places

-- The hands are those of a live pass of the table: they carry what its view says, and there is room in the order for
-- all buckets.
pub record AreHands (id : TableId) (buckets : ℕ) (w : Hands) : Type 0 where
  pub table : w.place.table_id ≡ id
  pub words : id.words ≡ buckets + 1
  pub places : length w.hold.places ≡ buckets
  pub some_part : 0 < w.place.me.0.parts
  pub no_child : w.place.me.0.child ≡ None
  pub first : w.first ≡ w.place.me.0.first
  pub grid : w.hold.grid ≡ w.place.me.0.grid
  pub carries : Carries w.place.me w.hold.places w.order.items
  pub count : length w.order.items + empty_places w.hold.places ≡ length w.hold.places
  pub room : length w.hold.places ≤ vec_capacity w.order

-- The pass claimed buckets, and then took these steps; else it is as it was.
pub record HasClaimed (old new : Hands) (steps : List Act) : Type 0 where
  pub more : List ℕ
  pub order : new.order.items ≡ old.order.items ++ more
  pub view : new.place.me.0 ≡ record old.place.me.0 {
    held = new.hold.places;
    trail = old.place.me.0.trail ++ (map Claim more ++ steps);
  }

-- The hold shows some set.
abbrev pub ShowsOne : InHand → Type 0
ShowsOne hold = (s : List ℕ) × Shows hold s

-- Buckets were claimed, and what is in hand stands for some history.
pub record HasClaimedMore (id : TableId) (buckets : ℕ) (old now : Hands) : Type 0 where
  pub hands : AreHands id buckets now
  pub claimed : HasClaimed old now []
  pub among : AreAmong old.hold now.hold
  pub one : ShowsOne now.hold

-- All buckets were given back, the last one first; else the pass is as it was.
pub record HasGivenBack (old new : Hands) : Type 0 where
  pub view : new.place.me.0 ≡ record old.place.me.0 {
    held = new.hold.places;
    trail = old.place.me.0.trail ++ releases_of old.order.items;
  }

-- The hands of a pass between two calls: it holds nothing, and there is room in the order for all buckets.
pub record HasRest (w : Hands) : Type 0 where
  pub rest : IsAtRest w.place.me
  pub first : w.first ≡ w.place.me.0.first
  pub grid : w.hold.grid ≡ w.place.me.0.grid
  pub places : w.hold.places ≡ w.place.me.0.held
  pub order : w.order.items ≡ []
  pub room : length w.hold.places ≤ vec_capacity w.order
