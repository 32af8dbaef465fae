-- Buckets as they are kept, and what they show.
use Rattle.std.specs.Prelude.{◌≡◌, ℕ, zero, suc, ◌≤◌, List, [], ◌∷◌, length, Option, None, Some, is_some, replicate}
use Rattle.std.specs.Prelude.{slice_set}
use Rattle.std.specs.Option.{option_map}
use Rattle.std.proofs.Common.{refl, ◌∙◌, ap, arith}
use Rattle.cell_store.specs.Buckets.{BucketContent, Layout, StandAtPlaces, bucket_at, content_of, layout_at, shown}

-- at a place is shown what the bucket there shows
pub shown_at : (l : List (Option Layout)) (b : ℕ) → bucket_at (shown l) b ≡ option_map content_of (layout_at l b)
shown_at [] b = refl
shown_at (x ∷ l) zero = refl
shown_at (x ∷ l) (suc b) = shown_at l b

-- where a bucket stands its content is shown
pub shown_is : (l : List (Option Layout)) (b : ℕ) (c : Layout) → layout_at l b ≡ Some c →
    bucket_at (shown l) b ≡ Some (content_of c)
shown_is l b c e = shown_at l b ∙ ap (option_map content_of) e

-- with one bucket set, its content is shown there
pub shown_set : (l : List (Option Layout)) (b : ℕ) (x : Option Layout) →
    shown (slice_set l b x) ≡ slice_set (shown l) b (option_map content_of x)
shown_set [] b x = refl
shown_set (y ∷ l) zero x = refl
shown_set (y ∷ l) (suc b) x = ap (λ (m : List (Option BucketContent)). option_map content_of y ∷ m) (shown_set l b x)

-- there are as many places as are shown
pub shown_len : (l : List (Option Layout)) → length (shown l) ≡ length l
shown_len [] = refl
shown_len (x ∷ l) = ap suc (shown_len l)

-- of empty places nothing is shown
pub shown_none : (n : ℕ) → shown (replicate n None) ≡ replicate n None
shown_none zero = refl
shown_none (suc n) = ap (λ (m : List (Option BucketContent)). None ∷ m) (shown_none n)

-- a bucket is in hand where it is shown
pub map_some : (o : Option Layout) → is_some (option_map content_of o) ≡ is_some o
map_some None = refl
map_some (Some c) = refl

-- so it is at each place
pub shown_some : (l : List (Option Layout)) (b : ℕ) → is_some (bucket_at (shown l) b) ≡ is_some (layout_at l b)
shown_some l b = ap is_some (shown_at l b) ∙ map_some (layout_at l b)

-- where nothing is shown no bucket is
pub map_none : (o : Option Layout) → option_map content_of o ≡ None → o ≡ None
map_none None e = refl
map_none (Some c) e = absurd (cc e)

-- so many empty places are so many
pub len_none : (n : ℕ) → length {A = Option Layout} (replicate n None) ≡ n
len_none zero = refl
len_none (suc n) = ap suc (len_none n)

-- empty places that are filled in one by one, up to a number, are that many
pub empty_places : (l : List (Option Layout)) (i c n : ℕ) → l ≡ replicate i None → c ≤ i → i ≤ c → c ≡ n →
    l ≡ replicate n None
empty_places l i c n e h k q = e ∙ ap (λ m. replicate m None) (let t : i ≡ c = omega (arith, h, k) in t ∙ q)

-- no bucket stands anywhere
pub stand_nowhere : (g n : ℕ) → StandAtPlaces g (replicate n None)
stand_nowhere g n k y q = absurd (none n k q)
  where
    none : (n k : ℕ) → bucket_at (replicate n None) k ≡ Some y → ⊥
    none zero k q = cc q
    none (suc n) zero q = cc q
    none (suc n) (suc k) q = none n k q
