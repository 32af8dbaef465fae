-- Buckets in hand, and buckets that are missing.
use Rattle.std.specs.Prelude.{◌≡◌, ℕ, ◌+◌, ◌*◌, ◌<◌, ◌≤◌, Bool, true, false, List, length, take, slice_index_or, Option}
use Rattle.std.specs.Prelude.{None, Some, IsSome, is_some, not, MatchOption}
use Rattle.std.proofs.Common.{refl, sym, ◌∙◌, ap, subst, inl, inr}
use Rattle.std.proofs.lemmas.List.{take_all}
use Rattle.list_laws.proofs.Cited.{at_place, in_take_more, none_is, none_there}
use Rattle.point_order.specs.declared.cell.Cell.{Cell}
use Rattle.point_order.specs.Facets.{points_of}
use Rattle.point_order.specs.Sets.{IsIn}
use Rattle.bucket_grid.specs.Grids.{bucket_of}
use Rattle.cell_store.specs.Buckets.{InHand, bucket_at}
use Rattle.cell_store.specs.Ready.{AreHeld}
use Rattle.cell_store.specs.Missing.{ArePointsHeld, IsBucketMissing, IsCellMissing}

-- the number of the bucket of a point, in the grid of a hold
number_in : (hold : InHand) (g p b : ℕ) → g ≡ hold.grid → b ≡ bucket_of g p → b ≡ bucket_of hold.grid p
number_in hold g p b e f = f ∙ ap (λ n. bucket_of n p) e

-- the bucket of a point of the list is missing
pub point_missing : (hold : InHand) (ps : List ℕ) (g p b : ℕ) (t : Bool) → IsIn p ps → g ≡ hold.grid →
    b ≡ bucket_of g p → bucket_of g p < g * g * g → length hold.places ≡ hold.grid * hold.grid * hold.grid →
    t ≡ is_some (bucket_at hold.places b) → t ≡ false → IsBucketMissing hold ps b
point_missing hold ps g p b t m e f below count is fails = record {
  point = p;
  among = m;
  number = number_in hold g p b e f;
  below = subst (λ n. b < n) (ap (λ n. n * n * n) e ∙ sym count) (subst (λ n. n < g * g * g) (sym f) below);
  absent = none_is (bucket_at hold.places b) (sym is ∙ fails);
}

-- the next point's bucket is in hand too
pub points_more : (hold : InHand) (ps : List ℕ) (i g p b : ℕ) (t : Bool) → i < length ps → p ≡ slice_index_or ps i p →
    g ≡ hold.grid → b ≡ bucket_of g p → t ≡ is_some (bucket_at hold.places b) → t ≡ true →
    ArePointsHeld hold (take i ps) → ArePointsHeld hold (take (i + 1) ps)
points_more hold ps i g p b t h at e f is holds held q m = elim (in_take_more ps i p q h at m) [
  | inl k ↦ held q k
  | inr k ↦ subst (λ n. IsSome (bucket_at hold.places n)) (number_in hold g p b e f ∙ ap (bucket_of hold.grid) k)
      (sym is ∙ holds)
]

-- the bucket of a point of one of the cells is missing
pub cell_missing : (hold : InHand) (cells : List Cell) (i : ℕ) (cell : Cell) (ps : List ℕ) (b : ℕ) → i < length cells →
    cell ≡ slice_index_or cells i cell → ps ≡ points_of cell → IsBucketMissing hold ps b → IsCellMissing hold cells b
cell_missing hold cells i cell ps b h at e m =
    record {
      cell = cell;
      among = at_place cells i cell cell h at;
      missing =
          subst (λ (l : List ℕ). IsBucketMissing hold l b) e m;
    }

-- the next cell's buckets are in hand too
pub cells_more : (hold : InHand) (cells : List Cell) (i : ℕ) (cell : Cell) (ps : List ℕ) → i < length cells →
    cell ≡ slice_index_or cells i cell → ps ≡ points_of cell → ArePointsHeld hold ps → AreHeld hold (take i cells) →
    AreHeld hold (take (i + 1) cells)
cells_more hold cells i cell ps h at e points held c m p k = elim (in_take_more cells i cell c h at m) [
  | inl j ↦ held c j p k
  | inr j ↦ points p (subst (λ (l : List ℕ). IsIn p l) (ap points_of (sym j) ∙ sym e) k)
]

-- all of them
pub cells_all : (hold : InHand) (cells : List Cell) (n : ℕ) → length cells ≤ n → AreHeld hold (take n cells) →
    AreHeld hold cells
cells_all hold cells n h held = subst (λ (l : List Cell). AreHeld hold l) (take_all n cells h) held

-- no bucket is missing exactly where all are held
pub none_missing : (hold : InHand) (cells : List Cell) (o : Option ℕ) (t : Bool) →
    MatchOption o (AreHeld hold cells) (λ b. IsCellMissing hold cells b) → is_some o ≡ not t →
    (t ≡ true → AreHeld hold cells) × (AreHeld hold cells → t ≡ true)
none_missing hold cells None true held e = ((λ h. held), (λ h. refl))
none_missing hold cells None false held e = absurd (cc e)
none_missing hold cells (Some b) true m e = absurd (cc e)
none_missing hold cells (Some b) false m e = (
  (λ h. absurd (cc h)),
  (λ held.
      let n = m.missing in
      absurd (none_there (bucket_at hold.places b) n.absent
      (subst (λ k. IsSome (bucket_at hold.places k)) (sym n.number) (held m.cell m.among n.point n.among)))),
)
