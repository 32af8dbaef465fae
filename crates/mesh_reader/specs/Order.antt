-- What the lists of a mesh that was read have in common.
use Rattle.std.specs.Prelude.{ℕ, List}
use Rattle.std.specs.List.Sorted.{IsStrictlySortedBy}
use Rattle.std.specs.Cmp.Lexicographic.{slice_cmp}
use Rattle.std.specs.Ordering.{nat_cmp}
use Rattle.list_laws.specs.Lists.{IsIn, IsAscending}
use Rattle.point_order.specs.Coordinates.{IsKey}
use Rattle.mesh_reader.specs.Grammar.{MeshParts}

-- lists of points of s, in lexicographic order, each once, and each ascending
pub record AreInOrder (s : List ℕ) (l : List (List ℕ)) : Type 0 where
  pub sorted : IsStrictlySortedBy (slice_cmp nat_cmp) l
  pub ascending : (q : List ℕ) → IsIn q l → IsAscending q
  pub inside : (q : List ℕ) → IsIn q l → (p : ℕ) → IsIn p q → IsIn p s

-- the points are keys and ascend, and the cells and triples are in order, with points of these
pub record IsInOrder (f : MeshParts) : Type 0 where
  pub ascending : IsAscending f.points
  pub keys : (p : ℕ) → IsIn p f.points → IsKey p
  pub cells : AreInOrder f.points f.cells
  pub hull : AreInOrder f.points f.hull
