-- Ascending lists of two, three and four numbers, told by the numbers at their places.
use Rattle.std.proofs.Common.{◌≡◌, ◌<◌, ℕ, List, [], ◌∷◌, length, refl, arith, slice_index_or}
use Rattle.point_order.specs.Sets.{IsAscending}

-- the list has these three numbers, which ascend
pub record HasThree (l : List ℕ) (a b c : ℕ) : Type 0 where
  pub is : l ≡ a ∷ b ∷ c ∷ []
  pub first : a < b
  pub second : b < c

-- the list has these four numbers, which ascend
pub record HasFour (l : List ℕ) (a b c d : ℕ) : Type 0 where
  pub is : l ≡ a ∷ b ∷ c ∷ d ∷ []
  pub first : a < b
  pub second : b < c
  pub third : c < d

-- so do those at the places of an ascending list of that length; the numbers given are what stands where there is no
-- place
pub three_of : (l : List ℕ) → length l ≡ 3 → IsAscending l → (i j k : ℕ)
    → HasThree l (slice_index_or l 0 i) (slice_index_or l 1 j) (slice_index_or l 2 k)
three_of [] e h i j k = absurd (omega arith)
three_of (a ∷ []) e h i j k = absurd (omega arith)
three_of (a ∷ b ∷ []) e h i j k = absurd (omega arith)
three_of (a ∷ b ∷ c ∷ []) e h i j k = record { is = refl; first = h.0; second = h.1.0 }
three_of (a ∷ b ∷ c ∷ d ∷ l) e h i j k = absurd (omega arith)

-- an ascending list of four has the four at its places
pub four_of : (l : List ℕ) → length l ≡ 4 → IsAscending l → (i j k m : ℕ)
    → HasFour l (slice_index_or l 0 i) (slice_index_or l 1 j) (slice_index_or l 2 k) (slice_index_or l 3 m)
four_of [] e h i j k m = absurd (omega arith)
four_of (a ∷ []) e h i j k m = absurd (omega arith)
four_of (a ∷ b ∷ []) e h i j k m = absurd (omega arith)
four_of (a ∷ b ∷ c ∷ []) e h i j k m = absurd (omega arith)
four_of (a ∷ b ∷ c ∷ d ∷ []) e h i j k m = record { is = refl; first = h.0; second = h.1.0; third = h.1.1.0 }
four_of (a ∷ b ∷ c ∷ d ∷ f ∷ l) e h i j k m = absurd (omega arith)
