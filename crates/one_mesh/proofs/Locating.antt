-- A place where no point of a mesh stands is new to the points of the mesh.
use Rattle.std.proofs.Common.{ℕ, Bool, false, List, sym, ◌∙◌, ◌≡◌}
use Rattle.list_laws.proofs.Cited.{among_true}
use Rattle.point_order.specs.Coordinates.{IsKey}
use Rattle.point_order.specs.Sets.{is_among}
use Rattle.hole_laws.specs.Edits.{IsNew}

-- the test of the points said no
pub is_new : (s : List ℕ) (p : ℕ) (test : Bool) → IsKey p → test ≡ false → test ≡ is_among p s → IsNew s p
is_new s p test key denied is = record { key = key; absent = λ i. absurd (cc (sym denied ∙ is ∙ among_true p s i)) }
