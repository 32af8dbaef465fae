-- Parts side by side.
use Rattle.std.specs.Prelude.{◌≡◌, ℕ, zero, suc, ◌+◌, ◌<◌, List, [], ◌∷◌, ◌++◌, drop, length, take, slice_index_or}
use Rattle.std.specs.Prelude.{slice_set}
use Rattle.std.specs.List.{flat_map}
use Rattle.std.proofs.Common.{ap, append_assoc, append-nil, arith, refl, subst, sym, ◌∙◌}
use Rattle.std.proofs.lemmas.Grind.{flat_map-append}
use Rattle.std.proofs.lemmas.List.{drop_all, take_all}
use Rattle.list_laws.proofs.Cited.{distinct_take, in_take, take_next}
use Rattle.point_order.specs.declared.cell.Cell.{Cell}
use Rattle.cell_slots.specs.Clouds.{AreCellsOf}
use Rattle.cell_slots.specs.Nets.{AreMoved}
use Rattle.cell_slots.specs.Parts.{AreNew, ArePut, HaveRoomFor, with_points}
use Rattle.cell_slots.specs.declared.reach.Reach.TheVariants.{Part, Whole}
use Rattle.cell_slots.proofs.Moving.{moved_cells, moved_first, moved_last, moved_none, moved_on, moved_over, moved_two}
use Rattle.cell_slots.proofs.Parts.{new_first, new_last, new_moved, put_left, put_none, put_on, put_two}

-- a part of a part has room for its points
pub room_first : (a b : List ℕ) (l m : List Cell) → HaveRoomFor Part (a ++ b) (l ++ m) → HaveRoomFor Part a l
room_first a b l m r = (
  record {
    others = m ++ r.0.others;
    set = r.0.set;
    cells_of = subst (AreCellsOf r.0.set) (append_assoc l m r.0.others) r.0.cells_of;
    alone = λ e. absurd (cc e);
  },
  new_first r.0.set a b r.1,
)

-- so has the other part
pub room_last : (a b : List ℕ) (l m : List Cell) → HaveRoomFor Part (a ++ b) (l ++ m) → HaveRoomFor Part b m
room_last a b l m r =
    let s = r.0.set in
    let o = r.0.others in (
      record {
        others = l ++ o;
        set = s;
        cells_of = moved_cells s (l ++ (m ++ o)) (m ++ (l ++ o)) (moved_two l m o)
            (subst (AreCellsOf s) (append_assoc l m o) r.0.cells_of);
        alone = λ e. absurd (cc e);
      },
      new_first s b a (new_moved s (a ++ b) (b ++ a) (moved_over a b) r.1),
    )

-- and each of any number of parts
pub room_at : {X : Type 0} (points : X → List ℕ) (cells : X → List Cell) (parts : List X) (i : ℕ) (x : X) →
    HaveRoomFor Part (flat_map points parts) (flat_map cells parts) → i < length parts → x ≡ slice_index_or parts i x →
    HaveRoomFor Part (points x) (cells x)
room_at points cells [] i x r l e = absurd (omega (arith, l))
room_at points cells (y ∷ parts) zero x r l e =
    subst (λ z. HaveRoomFor Part (points z) (cells z)) (sym e)
    (room_first (points y) (flat_map points parts) (cells y) (flat_map cells parts) r)
room_at points cells (y ∷ parts) (suc i) x r l e =
    room_at points cells parts i x (room_last (points y) (flat_map points parts) (cells y) (flat_map cells parts) r)
    (omega (arith, l)) e

-- what is dealt to parts has room there
pub room_moved : (points points' : List ℕ) (cells cells' : List Cell) → AreMoved points points' →
    AreMoved cells cells' → HaveRoomFor Whole points cells → HaveRoomFor Part points' cells'
room_moved points points' cells cells' p m r = (
  record {
    others = r.0.others;
    set = r.0.set;
    cells_of = moved_cells r.0.set (cells ++ r.0.others) (cells' ++ r.0.others) (moved_first cells cells' r.0.others m)
        r.0.cells_of;
    alone = λ e. absurd (cc e);
  },
  new_moved r.0.set points points' p r.1,
)

-- points put into each part are put into all
pub put_beside : {X : Type 0} (points : X → List ℕ) (cells : X → List Cell) (parts parts' : List X) →
    length parts' ≡ length parts →
    ((i : ℕ) (x y : X) → i < length parts → x ≡ slice_index_or parts i x → y ≡ slice_index_or parts' i y →
    ArePut (points x) (points y) (cells x) (cells y)) →
    ArePut (flat_map points parts) (flat_map points parts') (flat_map cells parts) (flat_map cells parts')
put_beside points cells [] [] l each = put_none [] [] [] (moved_none [])
put_beside points cells [] (y ∷ parts') l each = absurd (omega (arith, l))
put_beside points cells (x ∷ parts) [] l each = absurd (omega (arith, l))
put_beside points cells (x ∷ parts) (y ∷ parts') l each =
    put_two (points x) (points y) (flat_map points parts) (flat_map points parts') (cells x) (cells y)
    (flat_map cells parts) (flat_map cells parts') (each zero x y (omega arith) refl refl)
    (put_beside points cells parts parts' (omega (arith, l))
    (λ i v w h e f. each (suc i) v w (omega (arith, h)) e f))

-- ---- one part of several changes

-- what comes to a part comes to all
pub flat_more : {X Y : Type 0} (f : X → List Y) (parts : List X) (i : ℕ) (o x : X) (more : List Y) → i < length parts →
    o ≡ slice_index_or parts i o → AreMoved (f o ++ more) (f x) →
    AreMoved (flat_map f parts ++ more) (flat_map f (slice_set parts i x))
flat_more f [] i o x more l e m = absurd (omega (arith, l))
flat_more f (y ∷ parts) zero o x more l e m =
    moved_on ((f y ++ flat_map f parts) ++ more) ((f y ++ more) ++ flat_map f parts) (f x ++ flat_map f parts)
    (subst (λ v. AreMoved v ((f y ++ more) ++ flat_map f parts)) (sym (append_assoc (f y) (flat_map f parts) more))
    (subst (λ v. AreMoved (f y ++ (flat_map f parts ++ more)) v) (sym (append_assoc (f y) more (flat_map f parts)))
    (moved_last (f y) (flat_map f parts ++ more) (more ++ flat_map f parts) (moved_over (flat_map f parts) more))))
    (moved_first (f y ++ more) (f x) (flat_map f parts) (subst (λ v. AreMoved (f v ++ more) (f x)) e m))
flat_more f (y ∷ parts) (suc i) o x more l e m =
    subst (λ v. AreMoved v (f y ++ flat_map f (slice_set parts i x))) (sym (append_assoc (f y) (flat_map f parts) more))
    (moved_last (f y) (flat_map f parts ++ more) (flat_map f (slice_set parts i x))
    (flat_more f parts i o x more (omega (arith, l)) e m))

-- and where nothing comes to it, all stay the same
pub flat_same : {X Y : Type 0} (f : X → List Y) (parts : List X) (i : ℕ) (o x : X) → i < length parts →
    o ≡ slice_index_or parts i o → f x ≡ f o → flat_map f (slice_set parts i x) ≡ flat_map f parts
flat_same f [] i o x l e s = absurd (omega (arith, l))
flat_same f (y ∷ parts) zero o x l e s = ap (λ v. v ++ flat_map f parts) (s ∙ ap f e)
flat_same f (y ∷ parts) (suc i) o x l e s = ap (λ v. f y ++ v) (flat_same f parts i o x (omega (arith, l)) e s)

-- a part behind the others
pub flat_behind : {X Y : Type 0} (f : X → List Y) (parts : List X) (x : X) →
    flat_map f (parts ++ x ∷ []) ≡ flat_map f parts ++ f x
flat_behind f parts x = flat_map-append f parts (x ∷ []) ∙ ap (λ v. flat_map f parts ++ v) (append-nil (f x))

-- what stands last comes to others
pub come_over : {X : Type 0} (all now now' front last : List X) → AreMoved all (now ++ (front ++ last)) →
    AreMoved (now ++ last) now' → AreMoved all (now' ++ front)
come_over all now now' front last a b =
    moved_on all (now ++ (front ++ last)) (now' ++ front) a
    (moved_on (now ++ (front ++ last)) ((now ++ last) ++ front) (now' ++ front)
    (subst (λ v. AreMoved (now ++ (front ++ last)) v) (sym (append_assoc now last front))
    (moved_last now (front ++ last) (last ++ front) (moved_over front last)))
    (moved_first (now ++ last) now' front b))

-- ---- points that wait

-- those that are left have room
pub room_left : (turns left : List ℕ) (old now : List Cell) → HaveRoomFor Whole turns old → ArePut turns left old now →
    HaveRoomFor Whole left now
room_left turns left old now r f =
    let w = r.0 in
    let s = w.set in
    let new = new_moved s turns (f.put ++ left) f.moved r.1 in (
      record {
        others = w.others;
        set = with_points f.put s;
        cells_of = f.grow w.others s w.cells_of (new_first s f.put left new);
        alone = w.alone;
      },
      new_last s f.put left new,
    )

-- the first points and the next
module _ (turns waiting : List ℕ) (i p : ℕ) (old now : List Cell) (l : i < length turns)
    (e : p ≡ slice_index_or turns i p) (f : ArePut (take i turns) waiting old now) where
  -- where the next waits too
  both_wait : ArePut (take i turns ++ p ∷ []) (waiting ++ p ∷ []) old now
  both_wait = put_on (take i turns) waiting (p ∷ []) (p ∷ []) old now now f (put_none (p ∷ []) now now (moved_none now))

  -- they have room
  pub room_next : HaveRoomFor Whole turns old → HaveRoomFor Whole (waiting ++ p ∷ []) now
  room_next r =
      let some : AreNew r.0.set (take (i + 1) turns) = record {
        each = λ q m. r.1.each q (in_take (i + 1) turns q m);
        once = distinct_take (i + 1) turns r.1.once;
      } in
      room_left (take i turns ++ p ∷ []) (waiting ++ p ∷ []) old now
      (r.0, subst (AreNew r.0.set) (take_next turns i p l e) some) both_wait

  -- and then some are put in
  pub wait_more : (waiting' : List ℕ) (new : List Cell) → ArePut (waiting ++ p ∷ []) waiting' now new →
      ArePut (take (i + 1) turns) waiting' old new
  wait_more waiting' new g =
      subst (λ (v : List ℕ). ArePut v waiting' old new) (sym (take_next turns i p l e))
      (put_left (take i turns ++ p ∷ []) (waiting ++ p ∷ []) waiting' old now new both_wait g)

-- what was written to all places of a list stands in it
pub written_back : {Y : Type 0} (n : ℕ) (before ys : List Y) → length before ≡ n → length ys ≡ n →
    take n (ys ++ drop (length ys) before) ≡ ys
written_back n before ys k a =
    ap (λ t. take n (ys ++ t)) (drop_all (length ys) before (omega (arith, k, a))) ∙ ap (take n) (append-nil ys)
    ∙ take_all n ys (omega (arith, a))
