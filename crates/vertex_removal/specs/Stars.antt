-- What a hold shows of the cells at a point.
use Rattle.std.specs.Prelude.{ℕ, List}
use Rattle.point_order.specs.declared.cell.Cell.{Cell}
use Rattle.gift_wrap.specs.Near.{IsStar}
use Rattle.cell_store.specs.Buckets.{InHand}
use Rattle.cell_store.specs.Ready.{AreHeld}
use Rattle.cell_store.specs.Shares.{Shows}

-- the hold shows a set in which these are the cells at v, and the buckets of all their points are in hand
pub record ShowsStar (hold : InHand) (v : ℕ) (star : List Cell) : Type 0 where
  pub held : AreHeld hold star
  pub set : List ℕ
  pub shown : Shows hold set
  pub star_is : IsStar set v star
