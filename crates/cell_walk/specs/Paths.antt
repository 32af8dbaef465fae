-- Walks over the cells of the buckets in hand: where one stands, which facet it crosses, and how many cells are
-- nearer.
use Rattle.std.specs.Prelude.{◌≡◌, ℕ, true, List, [], ◌∷◌, Option, None, Some, count_by, if◌then◌else◌}
use Rattle.point_order.specs.declared.cell.Cell.{Cell}
use Rattle.point_order.specs.declared.cell.Cell.TheVariants.{Full, Open}
use Rattle.point_order.specs.declared.cell.Facet.{Facet}
use Rattle.point_order.specs.declared.cell.Facet.TheVariants.{Three}
use Rattle.point_order.specs.Complex.{complex}
use Rattle.point_order.specs.Conflicts.{are_opposite}
use Rattle.point_order.specs.Sets.{IsIn}
use Rattle.del_laws.specs.Walks.{is_before}
use Rattle.del_laws.specs.Nearness.{rank}
use Rattle.hole_laws.specs.Edits.{IsNew}
use Rattle.cell_store.specs.Buckets.{BucketContent, InHand}
use Rattle.cell_store.specs.Meshes.{all_cells}
use Rattle.cell_store.specs.Shares.{Shows}

-- What a walk shows: the point that it goes to, and the cell where it stands.
pub record Walking : Type 0 where
  pub point : ℕ
  pub cell : Cell

-- how many cells of the buckets in hand, in the complex of s, are nearer to p than the cell
abbrev pub nearer_held : List ℕ → ℕ → List (Option BucketContent) → Cell → ℕ
nearer_held s p places c = count_by (λ z. is_before (rank s p z) (rank s p c)) (all_cells places)

-- the first facet of the cell that has p strictly on the other side than the cell's fourth point; of an Open
-- cell its triple
abbrev pub facet_towards : Cell → ℕ → Option Facet
facet_towards (Full (a ∷ b ∷ c ∷ d ∷ [])) p =
    if are_opposite b c d a p then Some (Three (b ∷ c ∷ d ∷ []))
    else if are_opposite a c d b p then Some (Three (a ∷ c ∷ d ∷ []))
    else if are_opposite a b d c p then Some (Three (a ∷ b ∷ d ∷ []))
    else if are_opposite a b c d p then Some (Three (a ∷ b ∷ c ∷ []))
    else None
facet_towards (Open (a ∷ b ∷ c ∷ [])) p = Some (Three (a ∷ b ∷ c ∷ []))
facet_towards _ p = None

-- The walk is one in the complex of s over the buckets in hand: its point is none of s, and it stands in a cell
-- of the complex, of which a bucket in hand has a copy.
pub record IsWalkIn (hold : InHand) (s : List ℕ) (w : Walking) : Type 0 where
  pub new : IsNew s w.point
  pub listed : IsIn w.cell (complex s)
  pub held : IsIn w.cell (all_cells hold.places)

-- the hold shows a set in whose complex the walk is one
abbrev pub ShowsWalk : InHand → Walking → Type 0
ShowsWalk hold w = (s : List ℕ) × Shows hold s × IsWalkIn hold s w

-- in every set that the hold shows and for which p is new it is a walk
abbrev pub WalksFor : InHand → ℕ → Walking → Type 0
WalksFor hold p w = (s : List ℕ) → Shows hold s → IsNew s p → IsWalkIn hold s w

-- each cell of the list is nearer than the one that stands before it, as on a walk
abbrev pub ComesNearer : List ℕ → ℕ → List Cell → Type 0
ComesNearer s p [] = Unit {0}
ComesNearer s p (c ∷ []) = Unit {0}
ComesNearer s p (c ∷ d ∷ l) = (is_before (rank s p d) (rank s p c) ≡ true) × ComesNearer s p (d ∷ l)
