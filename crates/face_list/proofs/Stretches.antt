-- Stretches of a list, and keys beside them.
use Rattle.std.proofs.Common.{◌≡◌, refl, sym, ap, subst, ◌∙◌, ℕ, zero, suc, ◌+◌, ◌-◌, ◌<◌, ◌≤◌, List, [], ◌∷◌, ◌++◌}
use Rattle.std.proofs.Common.{map, take, drop, length, get_or, append_assoc, arith}
use Rattle.std.proofs.Math.Seq.{drop-append_seam, drop-append-add}
use Rattle.std.specs.List.{All}
use Rattle.std.proofs.lemmas.List.{take_all, take_more, get_or-map, length-map, map-append}
use Rattle.std.proofs.lemmas.List.Elements.{All-take, All-drop}
use Rattle.point_order.specs.declared.cell.Cell.{Cell}
use Rattle.face_list.specs.declared.table.Table.{Table}
use Rattle.face_list.specs.Tables.{stretches, AreStops, paired, table_seen, IsTable, cells_numbered}

-- ---- one more stretch

-- the first stretch begins within the list
stops_below : (start most : ℕ) (stops : List ℕ) → AreStops start most stops → start ≤ most
stops_below start most [] s = omega (arith, s)
stops_below start most (stop ∷ stops) s = (let h = stops_below stop most stops s.1 in let g = s.0 in omega arith)

-- a part is the same in a longer list
same_part : (l more : List ℕ) (a n : ℕ) → a + n ≤ length l → take n (drop a (l ++ more)) ≡ take n (drop a l)
same_part [] more zero zero h = refl
same_part [] more zero (suc n) h = absurd (omega arith)
same_part [] more (suc a) n h = absurd (omega arith)
same_part (x ∷ l) more zero zero h = refl
same_part (x ∷ l) more zero (suc n) h = ap (λ (m : List ℕ). x ∷ m) (same_part l more zero n (omega arith))
same_part (x ∷ l) more (suc a) n h = same_part l more a n (omega arith)

-- what comes behind the list is the last stretch
pub one_more :
    (numbers more : List ℕ) (start most : ℕ) (stops : List ℕ) → AreStops start (length numbers) stops →
    most ≡ length numbers + length more →
    stretches (numbers ++ more) start (stops ++ most ∷ []) ≡ stretches numbers start stops ++ more ∷ []
one_more numbers more start most [] s e =
    let n : most - start ≡ length more = omega (arith, s, e) in
    ap (λ (l : List ℕ). l ∷ []) (ap (λ (k : ℕ). take k (drop start (numbers ++ more))) n
    ∙ ap (λ (k : ℕ). take (length more) (drop k (numbers ++ more))) s
    ∙ ap (λ (l : List ℕ). take (length more) l) (drop-append_seam numbers more)
    ∙ take_all (length more) more (omega arith))
one_more numbers more start most (stop ∷ stops) s e =
    let h = stops_below stop (length numbers) stops s.1 in
    let g = s.0 in
    ap (λ (l : List ℕ). l ∷ stretches (numbers ++ more) stop (stops ++ most ∷ []))
    (same_part numbers more start (stop - start) (omega arith))
    ∙ ap (λ (l : List (List ℕ)). take (stop - start) (drop start numbers) ∷ l)
    (one_more numbers more stop most stops s.1 e)

-- with the end of the longer list the stops are stops of it
pub stops_more : (start most end : ℕ) (stops : List ℕ) → AreStops start most stops → most ≤ end →
    AreStops start end (stops ++ end ∷ [])
stops_more start most end [] s h = (omega (arith, s), refl)
stops_more start most end (stop ∷ stops) s h = (s.0, stops_more stop most end stops s.1 h)

-- ---- two lists, one behind the other

-- the stops of a list that stands behind others
stops_later : (before start most : ℕ) (stops : List ℕ) → AreStops start most stops →
    AreStops (before + start) (before + most) (map (λ end. before + end) stops)
stops_later before start most [] s = ap (λ (n : ℕ). before + n) s
stops_later before start most (stop ∷ stops) s = (
  (let h = s.0 in omega (arith, h)),
  stops_later before stop most stops s.1,
)

-- stops up to a place, and stops from there
stops_joined : (start middle most : ℕ) (stops more : List ℕ) → AreStops start middle stops → AreStops middle most more →
    AreStops start most (stops ++ more)
stops_joined start middle most [] more s m = subst (λ (v : ℕ). AreStops v most more) (sym s) m
stops_joined start middle most (stop ∷ stops) more s m = (s.0, stops_joined stop middle most stops more s.1 m)

-- the stops of both
pub stops_both : (count more : ℕ) (stops ends : List ℕ) → AreStops 0 count stops → AreStops 0 more ends →
    AreStops 0 (count + more) (stops ++ map (λ end. count + end) ends)
stops_both count more stops ends s m =
    let e : count + 0 ≡ count = omega arith in
    stops_joined 0 count (count + more) stops (map (λ end. count + end) ends) s
    (subst (λ (v : ℕ). AreStops v (count + more) (map (λ end. count + end) ends)) e (stops_later count 0 more ends m))

-- the ends of the second, with one more
pub ends_more : (before : ℕ) (old now new more : List ℕ) (n place : ℕ) → n < length more →
    place ≡ before + get_or more n 0 → now ≡ old ++ map (λ end. before + end) (take n more) → new ≡ now ++ place ∷ [] →
    new ≡ old ++ map (λ end. before + end) (take (n + 1) more)
ends_more before old now new more n place l p e f =
    let later : ℕ → ℕ = λ end. before + end in
    f ∙ ap (λ (v : List ℕ). v ++ place ∷ []) e ∙ append_assoc old (map later (take n more)) (place ∷ [])
    ∙ ap (λ (v : List ℕ). old ++ v) (sym (ap (map later) (take_more more n 0 l)
    ∙ map-append later (take n more) (get_or more n 0 ∷ [])
    ∙ ap (λ (v : ℕ). map later (take n more) ++ v ∷ []) (sym p)))

-- the stretches of the second
stretches_later : (numbers more : List ℕ) (start : ℕ) (stops : List ℕ) →
    stretches (numbers ++ more) (length numbers + start) (map (λ end. length numbers + end) stops)
    ≡ stretches more start stops
stretches_later numbers more start [] = refl
stretches_later numbers more start (stop ∷ stops) =
    let n : (length numbers + stop) - (length numbers + start) ≡ stop - start = omega arith in
    let others = stretches (numbers ++ more) (length numbers + stop) (map (λ end. length numbers + end) stops) in
    ap (λ (l : List ℕ). l ∷ others) (ap (λ (k : ℕ). take k (drop (length numbers + start) (numbers ++ more))) n
    ∙ ap (λ (l : List ℕ). take (stop - start) l) (drop-append-add numbers more start))
    ∙ ap (λ (l : List (List ℕ)). take (stop - start) (drop start more) ∷ l) (stretches_later numbers more stop stops)

-- the stretches of both
pub stretches_both : (numbers more : List ℕ) (start : ℕ) (stops ends : List ℕ) → AreStops start (length numbers) stops →
    stretches (numbers ++ more) start (stops ++ map (λ end. length numbers + end) ends) ≡ stretches numbers start stops
    ++ stretches more 0 ends
stretches_both numbers more start [] ends s =
    let e : start ≡ length numbers + 0 = omega (arith, s) in
    ap (λ (k : ℕ). stretches (numbers ++ more) k (map (λ end. length numbers + end) ends)) e
    ∙ stretches_later numbers more 0 ends
stretches_both numbers more start (stop ∷ stops) ends s =
    let h = stops_below stop (length numbers) stops s.1 in
    let g = s.0 in
    ap (λ (l : List ℕ). l ∷ stretches (numbers ++ more) stop (stops ++ map (λ end. length numbers + end) ends))
    (same_part numbers more start (stop - start) (omega arith))
    ∙ ap (λ (l : List (List ℕ)). take (stop - start) (drop start numbers) ∷ l)
    (stretches_both numbers more stop stops ends s.1)

-- ---- a stretch by its index

-- a stretch is what stands between its stop and the one before
pub stretch_at : (numbers stops : List ℕ) (start i e : ℕ) (d : List ℕ) → i < length stops →
    get_or (stretches numbers start stops) i d ≡ take (get_or stops i e - get_or (start ∷ stops) i e)
    (drop (get_or (start ∷ stops) i e) numbers)
stretch_at numbers [] start i e d h = absurd (omega arith)
stretch_at numbers (stop ∷ stops) start zero e d h = refl
stretch_at numbers (stop ∷ stops) start (suc i) e d h = stretch_at numbers stops stop i e d (omega arith)

-- stops do not fall, and are within the list
pub stop_at : (start most : ℕ) (stops : List ℕ) (i e : ℕ) → AreStops start most stops → i < length stops →
    (get_or (start ∷ stops) i e ≤ get_or stops i e) × (get_or stops i e ≤ most)
stop_at start most [] i e s h = absurd (omega arith)
stop_at start most (stop ∷ stops) zero e s h = (s.0, stops_below stop most stops s.1)
stop_at start most (stop ∷ stops) (suc i) e s h = stop_at stop most stops i e s.1 (omega arith)

-- there is a stretch for each stop
pub as_many : (numbers stops : List ℕ) (start : ℕ) → length (stretches numbers start stops) ≡ length stops
as_many numbers [] start = refl
as_many numbers (stop ∷ stops) start = ap suc (as_many numbers stops stop)

-- ---- keys beside lists

-- the keys of pairs are the keys
pub paired_keys : {X Y : Type 0} (xs : List X) (ys : List Y) → length ys ≡ length xs →
    map (λ f. f.0) (paired xs ys) ≡ xs
paired_keys [] ys h = refl
paired_keys (x ∷ xs) [] h = absurd (omega (arith, h))
paired_keys {X} (x ∷ xs) (y ∷ ys) h = ap (λ (l : List X). x ∷ l) (paired_keys xs ys (omega (arith, h)))

-- a pair by its index has both by this index
pub paired_at : {X Y : Type 0} (xs : List X) (ys : List Y) (i : ℕ) (x : X) (y : Y) → length ys ≡ length xs →
    i < length xs → get_or (paired xs ys) i (x, y) ≡ (get_or xs i x, get_or ys i y)
paired_at [] ys i x y h l = absurd (omega arith)
paired_at (z ∷ xs) [] i x y h l = absurd (omega (arith, h))
paired_at (z ∷ xs) (w ∷ ys) zero x y h l = refl
paired_at (z ∷ xs) (w ∷ ys) (suc i) x y h l = paired_at xs ys i x y (omega (arith, h)) (omega arith)

-- there are as many pairs as keys
pub paired_length : {X Y : Type 0} (xs : List X) (ys : List Y) → length ys ≡ length xs →
    length (paired xs ys) ≡ length xs
paired_length [] ys h = refl
paired_length (x ∷ xs) [] h = absurd (omega (arith, h))
paired_length (x ∷ xs) (y ∷ ys) h = ap suc (paired_length xs ys (omega (arith, h)))

-- ---- what a table shows

-- it has a list for each key
lists_length : {K : Type 0} (cells : List Cell) (t : Table K) → IsTable (length cells) t →
    length (map (cells_numbered cells) (stretches t.numbers.items 0 t.ends.items)) ≡ length t.keys.items
lists_length cells t s = length-map (stretches t.numbers.items 0 t.ends.items) (cells_numbered cells)
    ∙ as_many t.numbers.items t.ends.items 0 ∙ s.ends

-- its keys are those that are shown
pub keys_seen : {K : Type 0} (cells : List Cell) (t : Table K) → IsTable (length cells) t →
    map (λ f. f.0) (table_seen cells t) ≡ t.keys.items
keys_seen cells t s = paired_keys t.keys.items (map (cells_numbered cells) (stretches t.numbers.items 0 t.ends.items))
    (lists_length cells t s)

-- and as many
pub seen_length : {K : Type 0} (cells : List Cell) (t : Table K) → IsTable (length cells) t →
    length (table_seen cells t) ≡ length t.keys.items
seen_length cells t s =
    paired_length t.keys.items (map (cells_numbered cells) (stretches t.numbers.items 0 t.ends.items))
    (lists_length cells t s)

-- a face by its index
pub face_seen :
    {K : Type 0} (cells : List Cell) (t : Table K) → IsTable (length cells) t → (i : ℕ) (k : K) (numbers : List ℕ) →
    i < length t.keys.items → k ≡ get_or t.keys.items i k →
    numbers ≡ get_or (stretches t.numbers.items 0 t.ends.items) i numbers →
    ◌≡◌ {A = K × List Cell} (k, cells_numbered cells numbers)
    (get_or (table_seen cells t) i (k, cells_numbered cells numbers))
face_seen {K} cells t s i k numbers h e f =
    let lists = stretches t.numbers.items 0 t.ends.items in
    let l : i < length lists = omega (arith, h, as_many t.numbers.items t.ends.items 0, s.ends) in
    let m : get_or (map (cells_numbered cells) lists) i (cells_numbered cells numbers)
    ≡ cells_numbered cells (get_or lists i numbers) =
    get_or-map (cells_numbered cells) lists i numbers (cells_numbered cells numbers) l in
    sym (paired_at t.keys.items (map (cells_numbered cells) lists) i k (cells_numbered cells numbers)
    (lists_length cells t s) h
    ∙ ap (λ (v : List Cell). (get_or t.keys.items i k, v)) (m ∙ ap (cells_numbered cells) (sym f))
    ∙ ap (λ (v : K). (v, cells_numbered cells numbers)) (sym e))

-- a stretch has numbers of the table
pub numbers_seen :
    {K : Type 0} (count : ℕ) (cells : List Cell) (t : Table K) → IsTable (length cells) t → (i : ℕ) (numbers : List ℕ) →
    i < length t.keys.items →
    numbers ≡ get_or (stretches t.numbers.items 0 t.ends.items) i numbers → length cells ≡ count →
    All (λ n. n < count) numbers
numbers_seen count cells t s i numbers h f e =
    let l : i < length t.ends.items = omega (arith, h, s.ends) in
    let p : numbers ≡ take (get_or t.ends.items i 0 - get_or (0 ∷ t.ends.items) i 0)
    (drop (get_or (0 ∷ t.ends.items) i 0) t.numbers.items) =
    f ∙ stretch_at t.numbers.items t.ends.items 0 i 0 numbers l in
    subst (λ (v : ℕ). All (λ n. n < v) numbers) e
    (subst (λ (v : List ℕ). All (λ n. n < length cells) v) (sym p)
    (All-take (λ n. n < length cells) (get_or t.ends.items i 0 - get_or (0 ∷ t.ends.items) i 0)
    (drop (get_or (0 ∷ t.ends.items) i 0) t.numbers.items)
    (All-drop (λ n. n < length cells) (get_or (0 ∷ t.ends.items) i 0) t.numbers.items s.numbers)))
