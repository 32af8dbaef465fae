-- A point that came, and is taken out again.
use Rattle.std.specs.Prelude.{◌≡◌, ℕ, zero, suc, ◌<◌, List, [], ◌∷◌, ◌++◌, length, map, slice_index_or}
use Rattle.std.proofs.Common.{ap, arith, inl, inr}
use Rattle.list_laws.proofs.Cited.{from_append, in_left, in_right}
use Rattle.point_order.specs.declared.cell.Cell.{Cell}
use Rattle.point_order.specs.Complex.{complex}
use Rattle.point_order.specs.Sets.{IsIn, with_point}
use Rattle.hole_laws.proofs.Cited.{more_set}
use Rattle.hole_laws.proofs.ExchangedLists.{decided}
use Rattle.cell_slots.specs.Clouds.{AreCellsOf}
use Rattle.net_digs.specs.Linked.{HasArrived}
use Rattle.cell_slots.specs.Nets.{AreMoved}
use Rattle.cell_slots.proofs.Cited.{first_distinct, in_two, joined}

-- with the cells that it took away in the place of those that it brought, the list is that of the set without it
pub back_again : (s : List ℕ) (p : ℕ) (gone fresh rest now : List Cell) → HasArrived s p gone fresh →
    AreCellsOf (with_point p s) (rest ++ fresh) → AreMoved (rest ++ gone) now → AreCellsOf s now
back_again s p gone fresh rest now h k m =
    let t = with_point p s in
    let i = h.solid.set in
    let j = more_set s p i h.new.key in
    let f = h.filled in
    let stays : (q : Cell) → IsIn q rest → IsIn q (complex s) = λ q r. (
    let listed = (k.members q).0 (in_left q rest fresh r) in
    elim (decided t s j i q listed) [
      | inl y ↦ y
      | inr n ↦ absurd (in_two rest fresh q k.once r (f.all_fresh q listed n))
    ]) in
    record {
      solid = h.solid;
      members = λ q. (
        λ a. elim (from_append q rest gone ((m.members q).1 a)) [
          | inl r ↦ stays q r
          | inr g ↦ ((f.gone_is q).0 g).before
        ],
        λ a. (m.members q).0 (elim (decided s t i j q a) [
          | inl y ↦ elim (from_append q rest fresh ((k.members q).1 y)) [
            | inl r ↦ in_left q rest gone r
            | inr g ↦ absurd ((f.came q g).1 a)
          ]
          | inr n ↦ in_right q rest gone ((f.gone_is q).1 (record { before = a; after = n }))
        ]),
      );
      once = m.once (joined rest gone (first_distinct rest fresh k.once) h.gone_once
          (λ q r g. ((f.gone_is q).0 g).after ((k.members q).0 (in_left q rest fresh r))));
    }

-- the image of what stands at a place
pub mapped_at : {X Y : Type 0} (f : X → Y) (l : List X) (i : ℕ) (x : X) → i < length l → x ≡ slice_index_or l i x →
    f x ≡ slice_index_or (map f l) i (f x)
mapped_at f [] i x n e = absurd (omega (arith, n))
mapped_at f (y ∷ l) zero x n e = ap f e
mapped_at f (y ∷ l) (suc i) x n e = mapped_at f l i x (omega (arith, n)) e
