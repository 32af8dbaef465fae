-- The cells at a point, and the buckets that they need.
use Rattle.std.specs.Prelude.{◌≡◌, ℕ, ◌↔◌, List}
use Rattle.std.specs.List.{filter}
use Rattle.std.proofs.Common.{sym, subst}
use Rattle.list_laws.proofs.Cited.{among_from, among_true, filtered_from, filtered_true}
use Rattle.point_order.specs.declared.cell.Cell.{Cell}
use Rattle.point_order.specs.CellOrder.{AreSameCells}
use Rattle.point_order.specs.Complex.{complex}
use Rattle.point_order.specs.Facets.{points_of}
use Rattle.point_order.specs.Sets.{IsIn, is_among}
use Rattle.cell_store.specs.Buckets.{InHand}
use Rattle.cell_store.specs.Ready.{AreHeld}
use Rattle.gift_wrap.specs.Near.{IsStar}

-- the cells at v, in any order
pub star_is : (s : List ℕ) (v : ℕ) (around star : List Cell) →
    ((c : Cell) → IsIn c around ↔ IsIn c (filter (λ c. is_among v (points_of c)) (complex s))) →
    star ≡ around → IsStar s v star
star_is s v around star k e c = (
  λ i. (let m = filtered_from (λ c. is_among v (points_of c)) (complex s) c ((k c).0
      (subst (λ (l : List Cell). IsIn c l) e i)) in
      (m.0, among_from v (points_of c) m.1)),
  λ r. subst (λ (l : List Cell). IsIn c l) (sym e)
      ((k c).1 (filtered_true (λ c. is_among v (points_of c)) (complex s) c r.0 (among_true v (points_of c) r.1))),
)

-- and in another order
pub star_once : (s : List ℕ) (v : ℕ) (star once : List Cell) → AreSameCells star once → IsStar s v star →
    IsStar s v once
star_once s v star once e k c = (λ i. (k c).0 (e.1 c i), λ r. e.0 c ((k c).1 r))

-- whose buckets are in hand too
pub held_once : (hold : InHand) (star once : List Cell) → AreSameCells star once → AreHeld hold star →
    AreHeld hold once
held_once hold star once e held c m = held c (e.1 c m)
