-- The buckets in which the vertices of cells lie.
use Rattle.std.specs.Prelude.{◌≡◌, ◌==◌, ◌<◌, ◌||◌, ℕ, Bool, true, false, List, [], ◌∷◌, ◌++◌, length, map}
use Rattle.std.specs.Prelude.{slice_index_or}
use Rattle.std.specs.List.{list_any}
use Rattle.std.proofs.Common.{refl, sym, ◌∙◌, ap}
use Rattle.std.proofs.lemmas.List.{get_or-map, get_or_default}
use Rattle.point_order.specs.declared.cell.Cell.{Cell}
use Rattle.point_order.specs.declared.cell.Cell.TheVariants.{Full, Open}
use Rattle.point_order.specs.Sets.{is_among}
use Rattle.bucket_grid.specs.Grids.{bucket_of}
use Rattle.cell_stars.specs.Homes.{AreHomes, AreHomesAt, home_in}
use Rattle.cell_stars.specs.Swaps.{touches}

-- a number is among those of the buckets where a point lies in its bucket
any_mapped : (g b : ℕ) (q : List ℕ) → is_among b (map (bucket_of g) q) ≡ list_any (λ p. bucket_of g p == b) q
any_mapped g b [] = refl
any_mapped g b (x ∷ q) = ap (λ (t : Bool). (bucket_of g x == b) || t) (any_mapped g b q)

-- one more that does not pass changes nothing
any_snoc : (P : ℕ → Bool) (x : ℕ) (xs : List ℕ) → P x ≡ false → list_any P (xs ++ x ∷ []) ≡ list_any P xs
any_snoc P x [] e = ap (λ (t : Bool). t || false) e
any_snoc P x (y ∷ ys) e = ap (λ (t : Bool). P y || t) (any_snoc P x ys e)

-- nor does the first one, once more
any_again : (P : ℕ → Bool) (x : ℕ) (xs : List ℕ) → list_any P (x ∷ xs ++ x ∷ []) ≡ list_any P (x ∷ xs)
any_again P x xs = by (P x) refl
  where
    by : (t : Bool) → P x ≡ t → (t || list_any P (xs ++ x ∷ [])) ≡ (t || list_any P xs)
    by true e = refl
    by false e = any_snoc P x xs e

-- a cell touches the buckets of its vertices
home_touches : (g b : ℕ) (c : Cell) → is_among b (home_in g c) ≡ touches g b c
home_touches g b (Full q) = any_mapped g b q
home_touches g b (Open []) = refl
home_touches g b (Open (x ∷ xs)) = any_mapped g b (x ∷ xs ++ x ∷ []) ∙ any_again (λ p. bucket_of g p == b) x xs

-- of the home at the place it is told in the same grid
pub touched_at : (g b w at : ℕ) (homes : List (List ℕ)) (c : Cell) (h : List ℕ) (r : Bool) → g ≡ w →
    AreHomesAt w homes at c → at < length homes → h ≡ slice_index_or homes at h → r ≡ is_among b h →
    r ≡ touches g b c
touched_at g b w at homes c h r e f l i q =
    let is : h ≡ home_in g c = i ∙ get_or_default homes at h [] l ∙ f l ∙ ap (λ k. home_in k c) (sym e) in
    q ∙ ap (is_among b) is ∙ home_touches g b c

-- the homes of cells are there for each of them
pub homes_at : (homes : ℕ × List (List ℕ)) (cells : List Cell) (n : ℕ) (c : Cell) → AreHomes homes cells →
    n < length cells → c ≡ slice_index_or cells n c → AreHomesAt homes.0 homes.1 n c
homes_at homes cells n c e h f k =
    ap (λ (l : List (List ℕ)). slice_index_or l n []) e ∙ get_or-map (home_in homes.0) cells n c [] h
    ∙ ap (home_in homes.0) (sym f)
