-- The search for a first cell, by turns.
use Rattle.std.specs.Prelude.{◌≡◌, ℕ, ◌+◌, ◌*◌, ◌<◌, ◌≤◌, Bool, true, false, List, [], ◌∷◌, length, Option, None}
use Rattle.std.specs.Prelude.{is_some}
use Rattle.std.specs.Option.{option_map_or}
use Rattle.std.proofs.Common.{refl, sym, ◌∙◌, ap, subst, inl, inr, arith}
use Rattle.list_laws.proofs.Cited.{is_there, none_is, none_there, one_below, some_of}
use Rattle.hole_laws.specs.Edits.{IsNew}
use Rattle.bucket_grid.proofs.Cited.{bucket_below}
use Rattle.bucket_grid.specs.Grids.{is_grid_size}
use Rattle.cell_store.specs.Buckets.{BucketContent, InHand, bucket_at}
use Rattle.cell_store.specs.Meshes.{AllInHand, AreAmong, HasPlaces}
use Rattle.cell_store.specs.Shares.{Shows, NoneInHand, points_on}
use Rattle.cell_store.specs.Stars.{bucket_of_first}
use Rattle.cell_store.proofs.ShareLaws.{facet_nonempty}
use Rattle.cell_conflict.specs.Searching.{NoneGoes}
use Rattle.cell_conflict.proofs.Searching.{some_goes}
use Rattle.cell_walk.specs.Paths.{Walking}
use Rattle.cell_walk.specs.Turns.{IsStopped}
use Rattle.cell_walk.proofs.Cited.{walk_stays}
use Rattle.insertion.specs.declared.search.Search.TheVariants.{Near, On, InTurn}
use Rattle.insertion.specs.Searches.{IsLacking, IsPassed, IsSearchIn, SearchStays}

-- ---- a bucket that is asked for

-- as many buckets as the grid has are in the hold
pub all_places : (hold : InHand) (g n : ℕ) → g ≡ hold.grid → n ≡ g * g * g →
    length hold.places ≡ hold.grid * hold.grid * hold.grid → n ≡ length hold.places
all_places hold g n e is places = is ∙ ap (λ (x : ℕ). x * x * x) e ∙ sym places

-- the hold does not have it
pub lacks : (hold : InHand) (b n : ℕ) (has : Bool) → has ≡ is_some (bucket_at hold.places b) → has ≡ false → b < n →
    n ≡ length hold.places → IsLacking hold b
lacks hold b n has e f l is = record {
  below = subst (λ (x : ℕ). b < x) is l;
  absent =
      none_is (bucket_at hold.places b) (sym e ∙ f);
}

-- the bucket of the first of some points is one of the grid
first_below : (g : ℕ) (l : List ℕ) → is_grid_size g ≡ true → bucket_of_first g l < g * g * g
first_below g [] size = let k = bucket_below g 0 size in omega (arith, k)
first_below g (x ∷ l) size = bucket_below g x size

-- none of the buckets of some points is in hand, so that of the first is not
first_lacks : (hold : InHand) (l : List ℕ) → (l ≡ [] → ⊥) → NoneInHand hold l →
    bucket_at hold.places (bucket_of_first hold.grid l) ≡ None
first_lacks hold [] some none = absurd (some refl)
first_lacks hold (x ∷ l) some none = none x (inl refl)

-- the one at which a walk stops
pub stopped_lacks : (hold : InHand) (s : List ℕ) (w : Walking) (b : ℕ) → is_grid_size hold.grid ≡ true →
    length hold.places ≡ hold.grid * hold.grid * hold.grid → IsStopped hold s w b → IsLacking hold b
stopped_lacks hold s w b size places st = record {
  below = subst (λ (x : ℕ). b < x) (sym places) (subst (λ (x : ℕ). x < hold.grid * hold.grid * hold.grid)
      (sym st.number) (first_below hold.grid (points_on st.facet) size));
  absent = ap (λ (x : ℕ). bucket_at hold.places x) st.number ∙ first_lacks hold (points_on st.facet)
      (facet_nonempty w.cell st.facet st.onward.has) st.absent;
}

-- with all buckets in hand none is lacking
pub none_lacks : (hold : InHand) (b : ℕ) → AllInHand hold → IsLacking hold b → ⊥
none_lacks hold b all k = none_there (bucket_at hold.places b) k.absent (all b k.below)

-- ---- in turn

-- one bucket more was passed
pub passes_more : (hold : InHand) (s : List ℕ) (p b : ℕ) → IsSearchIn hold s p (InTurn b) → IsPassed hold s p b →
    IsSearchIn hold s p (InTurn (b + 1))
passes_more hold s p b k here x l = elim (one_below b x l) [
  | inl m ↦ k x m
  | inr e ↦ subst
      (λ (y : ℕ). IsPassed hold s p y) (sym e) here
]

-- not all are passed: the cell that goes is in one
pub not_all_pass : (hold : InHand) (s : List ℕ) (p n b : ℕ) → HasPlaces hold → Shows hold s → IsNew s p →
    n ≡ length hold.places → n ≤ b → IsSearchIn hold s p (InTurn b) → ⊥
not_all_pass hold s p n b has sh new e l k =
    let c = some_goes hold s p has (λ x m. (k x (omega (arith, e, l, m))).0) sh new in
    let m = c.2.1 in
    (k c.2.0 (omega (arith, e, l, m))).1 c.0 c.2.2 c.1

-- ---- with more buckets in hand

-- buckets that were passed have been passed with more in hand
passed_still : (few many : InHand) (s : List ℕ) (p b : ℕ) → AreAmong few many → IsPassed few s p b → IsPassed many s p b
passed_still few many s p b a k =
    let c = some_of (bucket_at few.places b) k.0 in
    let there = a.buckets b c.0 c.1 in (
      is_there (bucket_at many.places b) c.0 there,
      subst (λ (o : Option BucketContent). NoneGoes s p (option_map_or (λ (x : BucketContent). x.cells) o []))
          (c.1 ∙ sym there) k.1,
    )

-- a search that stands right does so with more buckets in hand
pub search_stays : SearchStays
search_stays few many s p (Near steps) a k = tt
search_stays few many s p (On w) a k = (k.0, walk_stays few many s w a k.1)
search_stays few many s p (InTurn b) a k = λ x l. passed_still few many s p x a (k x l)
