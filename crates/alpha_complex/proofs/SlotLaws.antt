-- Slots: how many they are, the one of an index, and how many hold a face.
use Rattle.std.proofs.Common.{◌≡◌, refl, sym, ap, ◌∙◌, ℕ, zero, suc, ◌+◌, ◌<◌, ◌≤◌, Bool, true, false, List, [], ◌∷◌}
use Rattle.std.proofs.Common.{map, length, get_or, take, arith}
use Rattle.std.specs.Prelude.{Option, None, Some, option_map, is_some, count_by, zip}
use Rattle.std.specs.List.{filter}
use Rattle.std.proofs.lemmas.List.Sums.{count_by_more_no, count_by_more_yes, length-filter}
use Rattle.std.proofs.lemmas.List.{length-map, take_all}
use Rattle.point_order.specs.declared.cell.Cell.{Cell}
use Rattle.alpha_complex.specs.declared.shape.Kind.{Kind}
use Rattle.alpha_complex.specs.declared.shape.Shape.TheInside.{Inside}
use Rattle.alpha_complex.specs.Slots.{ShapeSlots, slots_of, marked_cell, cell_slots_of}
use Rattle.list_laws.specs.Lists.{held}
use Rattle.alpha_complex.specs.Seen.{IsShape, slots_seen}

-- ---- pairs of two lists

-- two lists side by side are as many pairs
pub zip_count : {X Y : Type 0} (xs : List X) (ys : List Y) → length ys ≡ length xs → length (zip xs ys) ≡ length ys
zip_count [] [] e = refl
zip_count [] (y ∷ ys) e = absurd (omega (arith, e))
zip_count (x ∷ xs) [] e = absurd (omega (arith, e))
zip_count (x ∷ xs) (y ∷ ys) e = ap suc (zip_count xs ys (omega (arith, e)))

-- the first of the pairs are the first list
pub zip_firsts : {X Y : Type 0} (xs : List X) (ys : List Y) → length ys ≡ length xs → map (λ f. f.0) (zip xs ys) ≡ xs
zip_firsts [] [] e = refl
zip_firsts [] (y ∷ ys) e = absurd (omega (arith, e))
zip_firsts (x ∷ xs) [] e = absurd (omega (arith, e))
zip_firsts {X} (x ∷ xs) (y ∷ ys) e = ap (λ (v : List X). x ∷ v) (zip_firsts xs ys (omega (arith, e)))

-- a pair by its index has both by this index
pub zip_item : {X Y : Type 0} (xs : List X) (ys : List Y) (i : ℕ) (d : X) (e : Y) → i < length xs → i < length ys →
    (get_or xs i d, get_or ys i e) ≡ get_or (zip xs ys) i (d, e)
zip_item [] ys i d e h k = absurd (omega (arith, h))
zip_item (x ∷ xs) [] i d e h k = absurd (omega (arith, k))
zip_item (x ∷ xs) (y ∷ ys) zero d e h k = refl
zip_item (x ∷ xs) (y ∷ ys) (suc i) d e h k = zip_item xs ys i d e (omega (arith, h)) (omega (arith, k))

-- ---- the slot of an index

-- there is a slot for each cell
pub cell_slot_count : (cells : List Cell) (marks : List Bool) → length marks ≡ length cells →
    length (cell_slots_of cells marks) ≡ length cells
cell_slot_count cells marks e = length-map (zip cells marks) (λ (c : Cell × Bool). marked_cell c.0 c.1)
    ∙ zip_count cells marks e ∙ e

-- the slot of an index has the face and its kind, where it has one
pub slot_at : {X : Type 0} (xs : List X) (ks : List (Option Kind)) (i : ℕ) (d : X) (k : Option Kind) → i < length xs →
    i < length ks → option_map (λ kind. (get_or xs i d, kind)) (get_or ks i k) ≡ get_or (slots_of xs ks) i None
slot_at [] ks i d k h l = absurd (omega (arith, h))
slot_at (x ∷ xs) [] i d k h l = absurd (omega (arith, l))
slot_at (x ∷ xs) (y ∷ ks) zero d k h l = refl
slot_at (x ∷ xs) (y ∷ ks) (suc i) d k h l = slot_at xs ks i d k (omega (arith, h)) (omega (arith, l))

-- and so with cells and their marks
pub cell_slot_at : (cells : List Cell) (marks : List Bool) (i : ℕ) (c : Cell) (m : Bool) → i < length cells →
    i < length marks → marked_cell (get_or cells i c) (get_or marks i m) ≡ get_or (cell_slots_of cells marks) i None
cell_slot_at [] marks i c m h l = absurd (omega (arith, h))
cell_slot_at (x ∷ cells) [] i c m h l = absurd (omega (arith, l))
cell_slot_at (x ∷ cells) (y ∷ marks) zero c m h l = refl
cell_slot_at (x ∷ cells) (y ∷ marks) (suc i) c m h l =
    cell_slot_at cells marks i c m (omega (arith, h)) (omega (arith, l))

-- ---- how many hold a face

-- a slot holds a face where there is a kind
some_count : {X : Type 0} (xs : List X) (ks : List (Option Kind)) → length ks ≡ length xs →
    length (filter is_some ks) ≡ length (held (slots_of xs ks))
some_count [] [] e = refl
some_count [] (k ∷ ks) e = absurd (omega (arith, e))
some_count (x ∷ xs) [] e = absurd (omega (arith, e))
some_count (x ∷ xs) (None ∷ ks) e = some_count xs ks (omega (arith, e))
some_count (x ∷ xs) (Some k ∷ ks) e = ap suc (some_count xs ks (omega (arith, e)))

-- there are as many kinds as slots that hold a face
held_count : {X : Type 0} (xs : List X) (ks : List (Option Kind)) → length ks ≡ length xs →
    count_by is_some ks ≡ length (held (slots_of xs ks))
held_count xs ks e = sym (length-filter is_some ks) ∙ some_count xs ks e

-- those that are not empty
held_filled : {X : Type 0} (slots : List (Option X)) → count_by is_some slots ≡ length (held slots)
held_filled slots = sym (length-filter is_some slots) ∙ filled slots
  where
    filled : {X : Type 0} (slots : List (Option X)) → length (filter is_some slots) ≡ length (held slots)
    filled [] = refl
    filled (None ∷ slots) = filled slots
    filled (Some x ∷ slots) = ap suc (filled slots)

-- ---- counting

-- one slot more
pub count_on : {X : Type 0} (slots : List (Option X)) (i : ℕ) (d : Option X) (count : ℕ) → i < length slots →
    is_some (get_or slots i d) ≡ true
    → count ≡ count_by is_some (take i slots) → count + 1 ≡ count_by is_some (take (i + 1) slots)
count_on slots i d count l t e = ap (λ n. n + 1) e ∙ sym (count_by_more_yes is_some slots i d l t)

-- an empty one is not counted
pub count_past : {X : Type 0} (slots : List (Option X)) (i : ℕ) (d : Option X) (count : ℕ) → i < length slots →
    is_some (get_or slots i d) ≡ false
    → count ≡ count_by is_some (take i slots) → count ≡ count_by is_some (take (i + 1) slots)
count_past slots i d count l t e = e ∙ sym (count_by_more_no is_some slots i d l t)

-- at the end all that hold a face are counted
pub count_of_all : {X : Type 0} (slots : List (Option X)) (i count : ℕ) → length slots ≤ i →
    count ≡ count_by is_some (take i slots) → count ≡ count_by is_some slots
count_of_all {X} slots i count l e = e ∙ ap (λ (v : List (Option X)). count_by is_some v) (take_all i slots l)

-- ---- the slots of a shape

-- as many kinds as faces
pub point_count : (s : Inside) → IsShape s → length s.points.items ≡ length (map (λ f. f.0) s.faces.now.points)
point_count s h = h.points ∙ sym (length-map s.faces.now.points (λ (f : ℕ × List Cell). f.0))

-- of the pairs
pub pair_count : (s : Inside) → IsShape s → length s.pairs.items ≡ length (map (λ f. f.0) s.faces.now.pairs)
pair_count s h = h.pairs ∙ sym (length-map s.faces.now.pairs (λ (f : List ℕ × List Cell). f.0))

-- and of the triples
pub triple_count : (s : Inside) → IsShape s → length s.triples.items ≡ length (map (λ f. f.0) s.faces.now.triples)
triple_count s h = h.triples ∙ sym (length-map s.faces.now.triples (λ (f : List ℕ × List Cell). f.0))

-- and as slots
slots_count : {X : Type 0} (xs : List X) (ks : List (Option Kind)) → length ks ≡ length xs →
    length ks ≡ length (slots_of xs ks)
slots_count {X} xs ks e = sym (length-map (zip xs ks) (λ (f : X × Option Kind). option_map (λ kind. (f.0, kind)) f.1)
    ∙ zip_count xs ks e)

-- of points
pub points_as_seen : (s : Inside) (v : ShapeSlots) → IsShape s → slots_seen s ≡ v →
    length s.points.items ≡ length v.points
points_as_seen s v h e = sym (zip_count (map (λ f. f.0) s.faces.now.points) s.points.items (point_count s h))
    ∙ ap (λ (w : ShapeSlots). length w.points) e

-- of pairs
pub pairs_as_seen : (s : Inside) (v : ShapeSlots) → IsShape s → slots_seen s ≡ v → length s.pairs.items ≡ length v.pairs
pairs_as_seen s v h e = slots_count (map (λ f. f.0) s.faces.now.pairs) s.pairs.items (pair_count s h)
    ∙ ap (λ (w : ShapeSlots). length w.pairs) e

-- of triples
pub triples_as_seen : (s : Inside) (v : ShapeSlots) → IsShape s → slots_seen s ≡ v →
    length s.triples.items ≡ length v.triples
triples_as_seen s v h e = slots_count (map (λ f. f.0) s.faces.now.triples) s.triples.items (triple_count s h)
    ∙ ap (λ (w : ShapeSlots). length w.triples) e

-- and of cells
pub cells_as_seen : (s : Inside) (v : ShapeSlots) → IsShape s → slots_seen s ≡ v → length s.cells.items ≡ length v.cells
cells_as_seen s v h e =
    sym (length-map (zip s.faces.now.cells s.cells.items) (λ (c : Cell × Bool). marked_cell c.0 c.1)
    ∙ zip_count s.faces.now.cells s.cells.items h.cells)
    ∙ ap (λ (w : ShapeSlots). length w.cells) e

-- how many are admitted
pub pairs_held : (s : Inside) (v : ShapeSlots) → IsShape s → slots_seen s ≡ v →
    count_by is_some s.pairs.items ≡ length (held v.pairs)
pairs_held s v h e = held_count (map (λ f. f.0) s.faces.now.pairs) s.pairs.items (pair_count s h)
    ∙ ap (λ (w : ShapeSlots). length (held w.pairs)) e

-- so with triples
pub triples_held : (s : Inside) (v : ShapeSlots) → IsShape s → slots_seen s ≡ v →
    count_by is_some s.triples.items ≡ length (held v.triples)
triples_held s v h e = held_count (map (λ f. f.0) s.faces.now.triples) s.triples.items (triple_count s h)
    ∙ ap (λ (w : ShapeSlots). length (held w.triples)) e

-- and with cells
pub cells_held : (s : Inside) (v : ShapeSlots) → slots_seen s ≡ v →
    count_by is_some (cell_slots_of s.faces.now.cells s.cells.items) ≡ length (held v.cells)
cells_held s v e = held_filled (cell_slots_of s.faces.now.cells s.cells.items)
    ∙ ap (λ (w : ShapeSlots). length (held w.cells)) e
