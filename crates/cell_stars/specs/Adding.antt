-- Places that are added to stars.
use Rattle.std.specs.Prelude.{◌≡◌, ◌<◌, ◌⊎◌, ℕ, true, List, [], ◌∷◌, ◌++◌, length, map, Option, slice_index_or}
use Rattle.std.specs.Prelude.{slice_set}
use Rattle.point_order.specs.Sets.{IsIn, IsAscending}
use Rattle.cell_stars.specs.Places.{Placed, IsStarred, lies_in}

-- a star with its number
abbrev pub Numbered : Type 0
Numbered = ℕ × (ℕ × List ℕ)

-- its number and its vertex
abbrev pub head_of : Numbered → ℕ × ℕ
head_of w = (w.0, w.1.0)

-- the star at the place is the vertex's
pub record HasStarAt (writes : List Numbered) (at p : ℕ) : Type 0 where
  pub within : at < length writes
  pub star : Numbered
  pub is : star ≡ slice_index_or writes at star
  pub vertex : star.1.0 ≡ p

-- the star at the place has one place more
pub record IsOneMore (at i : ℕ) (old new : List Numbered) : Type 0 where
  pub star : Numbered
  pub was : star ≡ slice_index_or old at star
  pub is : new ≡ slice_set old at (star.0, (star.1.0, star.1.1 ++ i ∷ []))

-- the vertices of stars ascend, and lie in the bucket
pub record AreStarsHere (place : Option (ℕ × ℕ)) (writes : List Numbered) : Type 0 where
  pub order : IsAscending (map (λ w. w.1.0) writes)
  pub inside : (w : Numbered) → IsIn w writes → lies_in place w.1.0 ≡ true

-- the star has the places that its vertex had, without those that are freed
abbrev pub IsStaying : Placed → List ℕ → Numbered → Type 0
IsStaying b freed w =
    (i : ℕ) → (IsIn i w.1.1 → IsStarred b.keys b.stars w.1.0 i × (IsIn i freed → ⊥))
    × (IsStarred b.keys b.stars w.1.0 i × (IsIn i freed → ⊥) → IsIn i w.1.1)

-- the star has the places of the other, of the same vertex, and those that R tells of the vertex
pub record HasMorePlaces (R : ℕ → ℕ → Type 0) (old : List Numbered) (w : Numbered) : Type 0 where
  pub before : Numbered
  pub was : IsIn before old
  pub same : before.1.0 ≡ w.1.0
  pub places : (i : ℕ) → (IsIn i w.1.1 → IsIn i before.1.1 ⊎ R w.1.0 i) × (IsIn i before.1.1 ⊎ R w.1.0 i → IsIn i w.1.1)

-- each star does, and they have the same numbers and vertices
pub record AddsPlaces (R : ℕ → ℕ → Type 0) (old new : List Numbered) : Type 0 where
  pub heads : map head_of new ≡ map head_of old
  pub each : (w : Numbered) → IsIn w new → HasMorePlaces R old w
