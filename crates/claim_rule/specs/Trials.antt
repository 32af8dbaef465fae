-- What an edit changes, found by trial: the cells that go and come, and the points that it reaches.
use Rattle.std.specs.Prelude.{◌≡◌, ◌⊎◌, ◌↔◌, ℕ, ◌+◌, ◌<◌, List, [], ◌++◌, length, slice_index_or}
use Rattle.std.specs.List.{filter}
use Rattle.point_order.specs.declared.cell.Cell.{Cell}
use Rattle.point_order.specs.Complex.{complex}
use Rattle.point_order.specs.Facets.{points_of}
use Rattle.point_order.specs.Sets.{IsIn, is_among}
use Rattle.edit_history.specs.declared.history.Edit.{Edit}
use Rattle.edit_history.specs.declared.history.Edit.TheVariants.{Add, Take, Move}
use Rattle.edit_history.specs.declared.history.Reply.{Reply}
use Rattle.edit_history.specs.declared.history.Reply.TheVariants.{Missing, Occupied}
use Rattle.edit_history.specs.Edits.{edit_points, reply_to, after}
use Rattle.hole_laws.specs.Commuting.{Reaches}
use Rattle.cell_changes.specs.Changes.{IsChange}
use Rattle.cell_store.specs.Swaps.{without_cells}
use Rattle.claim_rule.specs.declared.trial.Trial.{Trial}

-- the word of the bucket names the pass
abbrev pub NamesPass : ℕ → List ℕ → ℕ → Type 0
NamesPass n words b = (b < length words) × (slice_index_or words b 0 ≡ n + 1)

-- the points of both lists, and no others
abbrev pub HasBoth : List ℕ → List ℕ → List ℕ → Type 0
HasBoth s l t = (p : ℕ) → IsIn p t ↔ (IsIn p s ⊎ IsIn p l)

-- a cell of the list has the point
pub record IsOnSome (cells : List Cell) (p : ℕ) : Type 0 where
  pub cell : Cell
  pub listed : IsIn cell cells
  pub has : IsIn p (points_of cell)

-- the cells beside a move of a, of all and of those that are there with its new place: those that the place takes away,
-- and those that have a then
abbrev pub cells_beside : ℕ → List Cell → List Cell → List Cell
cells_beside a all with_goal = without_cells with_goal all ++ filter (λ c. is_among a (points_of c)) with_goal

-- those near a move, by its reply: none where it finds no point, or one at its new place
abbrev pub near_move : Reply → List Cell → List Cell
near_move Missing beside = []
near_move Occupied beside = []
near_move reply beside = beside

-- the cells near an edit of s, of all and of those that go: for an added point those that go, for a taken one those
-- that have it, for a move those beside it, with its new place added to s
abbrev pub near_cells : List ℕ → Edit → List Cell → List Cell → List Cell
near_cells s (Add p) all gone = gone
near_cells s (Take v) all gone = filter (λ c. is_among v (points_of c)) all
near_cells s (Move a b) all gone =
    near_move (reply_to s (Move a b)) (cells_beside a all (complex (after s (Add b))))

-- The edit of s gets this reply, and takes away and brings exactly these cells. It reaches its own
-- points, and those of the cells near it.
pub record IsTrialOf (s : List ℕ) (edit : Edit) (t : Trial) : Type 0 where
  pub reply : t.reply ≡ reply_to s edit
  pub change : IsChange (complex s) (complex (after s edit)) t.gone.items t.fresh.items
  pub near : (p : ℕ) → Reaches s edit p ↔ (IsIn p (edit_points edit) ⊎ IsOnSome t.near.items p)
