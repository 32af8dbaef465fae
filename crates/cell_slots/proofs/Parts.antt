-- Points are put into parts of a complex, one part after another or side by side.
use Rattle.std.specs.Prelude.{◌≡◌, ℕ, ◌+◌, ◌<◌, ◌≤◌, List, [], ◌∷◌, ◌++◌, ◌⊎◌, length, take, slice_index_or}
use Rattle.std.proofs.Common.{append_assoc, append-nil, inl, inr, refl, subst, sym}
use Rattle.std.proofs.lemmas.List.{take_all}
use Rattle.list_laws.proofs.Cited.{apart_place, at_place, distinct_take, from_append, in_left, in_right, in_take}
use Rattle.list_laws.proofs.Cited.{take_next}
use Rattle.point_order.specs.declared.cell.Cell.{Cell}
use Rattle.point_order.specs.Sets.{IsIn, with_point}
use Rattle.point_order.proofs.Cited.{in_with, in_with_new, in_with_old}
use Rattle.cell_slots.specs.Clouds.{AreCellsOf}
use Rattle.cell_slots.specs.Nets.{AreMoved}
use Rattle.cell_slots.specs.Parts.{AreNew, ArePut, AreWithinNew, Grow, HaveRoomFor, with_points}
use Rattle.cell_slots.specs.declared.reach.Reach.{Reach}
use Rattle.cell_slots.proofs.Moving.{first_distinct, in_two, last_distinct, moved_both, moved_cells, moved_first}
use Rattle.cell_slots.proofs.Moving.{moved_inner, moved_last, moved_none, moved_on, moved_two}

-- ---- the set with points

-- a point of it is one of them, or was there
pub in_with_points : (points s : List ℕ) (q : ℕ) → IsIn q (with_points points s) → IsIn q points ⊎ IsIn q s
in_with_points [] s q i = inr i
in_with_points (p ∷ points) s q i = elim (in_with_points points (with_point p s) q i) [
  | inl j ↦ inl (inr j)
  | inr j ↦ elim (in_with p q s j) [ inl e ↦ inl (inl e) | inr k ↦ inr k ]
]

-- what was there is there still
pub with_points_old : (points s : List ℕ) (q : ℕ) → IsIn q s → IsIn q (with_points points s)
with_points_old [] s q i = i
with_points_old (p ∷ points) s q i = with_points_old points (with_point p s) q (in_with_old p q s i)

-- and they are
pub with_points_new : (points s : List ℕ) (q : ℕ) → IsIn q points → IsIn q (with_points points s)
with_points_new [] s q i = absurd i
with_points_new (p ∷ points) s q (inl e) = with_points_old points (with_point p s) q
    (subst (λ (v : ℕ). IsIn v (with_point p s)) e (in_with_new p s))
with_points_new (p ∷ points) s q (inr i) = with_points_new points (with_point p s) q i

-- some points and then others
pub with_both : (a b s : List ℕ) → with_points (a ++ b) s ≡ with_points b (with_points a s)
with_both [] b s = refl
with_both (p ∷ a) b s = with_both a b (with_point p s)

-- ---- new points

-- the first of them are new
pub new_first : (s a b : List ℕ) → AreNew s (a ++ b) → AreNew s a
new_first s a b n = record { each = λ q i. n.each q (in_left q a b i); once = first_distinct a b n.once }

-- and so are the others, once those came
pub new_last : (s a b : List ℕ) → AreNew s (a ++ b) → AreNew (with_points a s) b
new_last s a b n = record {
  each = λ q i. record {
    key = (n.each q (in_right q a b i)).key;
    absent = λ j. elim (in_with_points a s q j) [
      | inl k ↦ in_two a b q n.once k i
      | inr k ↦ (n.each q (in_right q a b i)).absent k
    ];
  };
  once = last_distinct a b n.once;
}

-- in another order they are
pub new_moved : (s a b : List ℕ) → AreMoved a b → AreNew s a → AreNew s b
new_moved s a b m n = record { each = λ q i. n.each q ((m.members q).1 i); once = m.once n.once }

-- ---- one part

-- cells that were moved, and no point
pub grow_none : (old new : List Cell) → AreMoved old new → Grow [] old new
grow_none old new m others s k n = moved_cells s (old ++ others) (new ++ others) (moved_first old new others m) k

-- some points, and then others
pub grow_on : (a b : List ℕ) (old mid new : List Cell) → Grow a old mid → Grow b mid new → Grow (a ++ b) old new
grow_on a b old mid new f g others s k n =
    subst (λ (v : List ℕ). AreCellsOf v (new ++ others)) (sym (with_both a b s))
    (g others (with_points a s) (f others s k (new_first s a b n)) (new_last s a b n))

-- ---- parts beside one another

-- two parts
pub grow_two : (a b : List ℕ) (old new old' new' : List Cell) → Grow a old new → Grow b old' new' →
    Grow (a ++ b) (old ++ old') (new ++ new')
grow_two a b old new old' new' f g others s k n =
    let t = with_points a s in
    let first = f (old' ++ others) s (subst (AreCellsOf s) (append_assoc old old' others) k) (new_first s a b n) in
    let over = moved_cells t (new ++ (old' ++ others)) (old' ++ (new ++ others)) (moved_two new old' others) first in
    let second = g (new ++ others) t over (new_last s a b n) in
    let back = moved_cells (with_points b t) (new' ++ (new ++ others)) (new ++ (new' ++ others))
    (moved_two new' new others) second in
    subst (λ (v : List ℕ). AreCellsOf v ((new ++ new') ++ others)) (sym (with_both a b s))
    (subst (AreCellsOf (with_points b t)) (sym (append_assoc new new' others)) back)

-- ---- points that are put or left

-- none is put, and cells may be moved
pub put_none : (points : List ℕ) (old new : List Cell) → AreMoved old new → ArePut points points old new
put_none points old new m = record { put = []; moved = moved_none points; grow = grow_none old new m }

-- all are
pub put_each : (points : List ℕ) (old new : List Cell) → Grow points old new → ArePut points [] old new
put_each points old new g = record {
  put = points;
  moved = subst (λ (v : List ℕ). AreMoved points v) (sym (append-nil points)) (moved_none points);
  grow = g;
}

-- the points of a part that are put and those that are not, beside those of another
put_both : (a l b m p q : List ℕ) → AreMoved a (p ++ l) → AreMoved b (q ++ m) → AreMoved (a ++ b) ((p ++ q) ++ (l ++ m))
put_both a l b m p q f g =
    moved_on (a ++ b) ((p ++ l) ++ (q ++ m)) ((p ++ q) ++ (l ++ m)) (moved_both a (p ++ l) b (q ++ m) f g)
    (moved_inner p l q m)

-- some points, and then others
pub put_on : (a l b m : List ℕ) (old mid new : List Cell) → ArePut a l old mid → ArePut b m mid new →
    ArePut (a ++ b) (l ++ m) old new
put_on a l b m old mid new f g = record {
  put = f.put ++ g.put;
  moved = put_both a l b m f.put g.put f.moved g.moved;
  grow = grow_on f.put g.put old mid new f.grow g.grow;
}

-- two parts
pub put_two : (a l b m : List ℕ) (old new old' new' : List Cell) → ArePut a l old new → ArePut b m old' new' →
    ArePut (a ++ b) (l ++ m) (old ++ old') (new ++ new')
put_two a l b m old new old' new' f g = record {
  put = f.put ++ g.put;
  moved = put_both a l b m f.put g.put f.moved g.moved;
  grow = grow_two f.put g.put old new old' new' f.grow g.grow;
}

-- those that are left come next
pub put_left : (points left more : List ℕ) (old mid new : List Cell) → ArePut points left old mid →
    ArePut left more mid new → ArePut points more old new
put_left points left more old mid new f g = record {
  put = f.put ++ g.put;
  moved = subst (λ (v : List ℕ). AreMoved points v) (sym (append_assoc f.put g.put more))
      (moved_on points (f.put ++ left) (f.put ++ (g.put ++ more)) f.moved
      (moved_last f.put left (g.put ++ more) g.moved));
  grow = grow_on f.put g.put old mid new f.grow g.grow;
}

-- the points in another order, the cells in other places
pub put_moved : (points points' left left' : List ℕ) (old old' new new' : List Cell) → AreMoved points' points →
    AreMoved left left' → AreMoved old' old → AreMoved new new' → ArePut points left old new →
    ArePut points' left' old' new'
put_moved points points' left left' old old' new new' p l o n f = record {
  put = f.put;
  moved = moved_on points' points (f.put ++ left') p (moved_on points (f.put ++ left) (f.put ++ left') f.moved
      (moved_last f.put left left' l));
  grow = λ others s k a. moved_cells (with_points f.put s) (new ++ others) (new' ++ others)
      (moved_first new new' others n)
      (f.grow others s (moved_cells s (old' ++ others) (old ++ others) (moved_first old' old others o) k) a);
}

-- ---- the whole

-- the set with what was put, and what is left
pub record HasPut (s points left : List ℕ) (cells : List Cell) : Type 0 where
  pub set : List ℕ
  pub cells_of : AreCellsOf set cells
  pub points_are : (q : ℕ) → (IsIn q s → IsIn q set) × (IsIn q points → IsIn q set ⊎ IsIn q left)
      × (IsIn q set → IsIn q s ⊎ IsIn q points)
  pub left_new : AreNew set left

-- where the cells before are all of a complex, so are those after
pub put_whole : (s points left : List ℕ) (old new : List Cell) → ArePut points left old new → AreCellsOf s old →
    AreNew s points → HasPut s points left new
put_whole s points left old new f k n =
    let t = with_points f.put s in
    let m = new_moved s points (f.put ++ left) f.moved n in
    record {
      set = t;
      cells_of = subst (AreCellsOf t) (append-nil new)
          (f.grow [] s (subst (AreCellsOf s) (sym (append-nil old)) k) (new_first s f.put left m));
      points_are = λ q. (
        λ i. with_points_old f.put s q i,
        λ i. elim (from_append q f.put left ((f.moved.members q).0 i)) [
          | inl j ↦ inl (with_points_new f.put s q j)
          | inr j ↦ inr j
        ],
        λ i. elim (in_with_points f.put s q i) [
          | inl j ↦ inr ((f.moved.members q).1 (in_left q f.put left j))
          | inr j ↦ inl j
        ],
      );
      left_new = new_last s f.put left m;
    }

-- ---- a part at work

-- the first points and the next, in a list
module _ (reach : Reach) (points left : List ℕ) (i p : ℕ) (old now : List Cell) (l : i < length points)
    (e : p ≡ slice_index_or points i p) (f : ArePut (take i points) left old now) where
  -- the next point is new to the set with those that were put
  pub next_room : HaveRoomFor reach points old → AreWithinNew reach p now
  next_room r =
      let w = r.0 in
      let s = w.set in
      let front : AreNew s (take i points) = record {
        each = λ q m. r.1.each q (in_take i points q m);
        once = distinct_take i points r.1.once;
      } in
      let both = new_moved s (take i points) (f.put ++ left) f.moved front in
      let here = at_place points i p p l e in (
        record {
          others = w.others;
          set = with_points f.put s;
          cells_of = f.grow w.others s w.cells_of (new_first s f.put left both);
          alone = w.alone;
        },
        record {
          key = (r.1.each p here).key;
          absent = λ m. elim (in_with_points f.put s p m) [
            | inl j ↦ apart_place points i p r.1.once l e ((f.moved.members p).1 (in_left p f.put left j))
            | inr j ↦ (r.1.each p here).absent j
          ];
        },
      )

  -- and comes to those that are put or left
  pub next_put : (left' more : List ℕ) (new : List Cell) → left' ≡ left ++ more → ArePut (p ∷ []) more now new →
      ArePut (take (i + 1) points) left' old new
  next_put left' more new g h =
      subst (λ (v : List ℕ). ArePut v left' old new) (sym (take_next points i p l e))
      (subst (λ (v : List ℕ). ArePut (take i points ++ p ∷ []) v old new) (sym g)
      (put_on (take i points) left (p ∷ []) more old now new f h))

-- all of a list
pub all_put : (points left : List ℕ) (i : ℕ) (old new : List Cell) → length points ≤ i →
    ArePut (take i points) left old new → ArePut points left old new
all_put points left i old new l f = subst (λ (v : List ℕ). ArePut v left old new) (take_all i points l) f
