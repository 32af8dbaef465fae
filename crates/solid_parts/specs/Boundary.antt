-- The boundary of some cells: the triples that exactly one of them has, each turned.
use Rattle.std.specs.Prelude.{ℕ, pos, List, [], ◌∷◌, filter_map, map, Option, None, Some, if◌then◌else◌}
use Rattle.std.specs.Int.Signed.{lt_z}
use Rattle.point_order.specs.declared.cell.Cell.{Cell}
use Rattle.point_order.specs.declared.cell.Cell.TheVariants.{Full, Open}
use Rattle.point_order.specs.Orientation.{orientation}
use Rattle.point_order.specs.Sets.{is_among}
use Rattle.face_list.specs.Faces.{parts_in, with_cells_around}

-- the fourth point of a cell that has the three
abbrev pub apex_of : List ℕ → List ℕ → ℕ
apex_of t (a ∷ b ∷ c ∷ d ∷ []) = if is_among a t then (if is_among b t then (if is_among c t then d else c) else b) else
    a
apex_of t _ = 0

-- A triple with its least point first, turned so that the orientation with d is negative.
abbrev pub turned : List ℕ → ℕ → List ℕ
turned (a ∷ b ∷ c ∷ []) d = if lt_z (orientation a b c d) (pos 0) then a ∷ b ∷ c ∷ [] else a ∷ c ∷ b ∷ []
turned t d = t

-- a triple beside the cells that have it, turned, where that is just one, a Full one
abbrev pub outer_of : List ℕ × List Cell → Option (List ℕ)
outer_of (t, []) = None
outer_of (t, Full q ∷ []) = Some (turned t (apex_of t q))
outer_of (t, Open u ∷ []) = None
outer_of (t, c ∷ d ∷ cells) = None

-- the boundary of some cells: the triples that exactly one has, in the order of the triples before they are turned
abbrev pub boundary_of : List (List ℕ) → List (List ℕ)
boundary_of cells = filter_map outer_of (with_cells_around (parts_in 3 (map Full cells)) (map Full cells))
