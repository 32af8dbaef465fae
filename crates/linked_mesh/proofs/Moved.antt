-- A point that comes and one that is taken are a move.
use Rattle.std.specs.Prelude.{◌≡◌, ℕ, List}
use Rattle.std.proofs.Common.{subst, sym}
use Rattle.point_order.specs.declared.cell.Cell.{Cell}
use Rattle.point_order.specs.Sets.{IsIn, with_point}
use Rattle.point_order.proofs.Cited.{in_with_old}
use Rattle.cell_slots.specs.Clouds.{AreCellsOf}
use Rattle.net_digs.specs.Linked.{HasArrived, HasArrivedInSome}

-- a point is there after another came
pub still_there : (s : List ℕ) (a b : ℕ) → IsIn a s → IsIn a (with_point b s)
still_there s a b i = in_with_old b a s i

module _ (s : List ℕ) (b p : ℕ) (gone fresh cells : List Cell) (e : p ≡ b) (h : HasArrived s b gone fresh)
    (k : AreCellsOf (with_point b s) cells) where
  -- the other can be taken out again
  pub arrived_some : HasArrivedInSome p gone fresh cells
  arrived_some = subst (λ (v : ℕ). HasArrivedInSome v gone fresh cells) (sym e) (s, h, k)

  -- and then the cells are those of the set
  pub arrived_back : (now : List Cell) → ((t : List ℕ) → HasArrived t p gone fresh → AreCellsOf (with_point p t) cells →
      AreCellsOf t now) → AreCellsOf s now
  arrived_back now f = f s (subst (λ (v : ℕ). HasArrived s v gone fresh) (sym e) h)
      (subst (λ (v : ℕ). AreCellsOf (with_point v s) cells) (sym e) k)
