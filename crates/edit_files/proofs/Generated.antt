-- The lines of a generated file, one after another, and its laws.
use Rattle.std.proofs.Common.{◌≡◌, ◌≢◌, ◌∙◌, refl, sym, ap, ℕ, suc, ◌+◌, ◌-◌, ◌*◌, ◌/◌, ◌%◌, ◌<◌, ◌≤◌, Bool, true}
use Rattle.std.proofs.Common.{false, cond, eqb, List, [], ◌∷◌, ◌++◌, map, get_or, length, arith, eq-eqb, inl, inr, Some}
use Rattle.std.proofs.Common.{lit<, lit≤, slice_index}
use Rattle.std.specs.List.{range_with_len, AllByRecursion}
use Rattle.std.proofs.lemmas.Bool.{both_ways, ne_eqb}
use Rattle.std.proofs.lemmas.List.FromFn.{map-range_with_len_more, get_or-map-range_with_len, length-map-range_with_len}
use Rattle.point_order.specs.Coordinates.{x_of, y_of, z_of, IsKey}
use Rattle.point_order.specs.Orientation.{x_from, y_from, z_from, minor, triple, orientation, normal_x, normal_y}
use Rattle.point_order.specs.Orientation.{normal_z}
use Rattle.point_order.specs.Sets.{is_among, IsIn}
use Rattle.point_order.specs.Solid.{is_solid}
use Rattle.edit_history.specs.declared.history.Edit.{Edit}
use Rattle.edit_history.specs.declared.history.Edit.TheVariants.{Add, Take, Move}
use Rattle.edit_history.specs.Edits.{HasKeys, is_move, point_of}
use Rattle.edit_history.specs.Opening.{opening_four}
use Rattle.plain_laws.specs.Plain.{IsAnchored}
use Rattle.edit_files.specs.Grammar.{up_to}
use Rattle.edit_files.specs.declared.version.Version.TheVariants.{One}
use Rattle.edit_files.specs.Held.{IsEditOf, IsWithinLimits}
use Rattle.text_readings.specs.PointLines.{coordinate_count}
use Rattle.edit_files.specs.Generator.{next_state, state_after, draw_of, most_edits, point_behind, draws_before}
use Rattle.edit_files.specs.Generator.{drawn_by, corners, back_to, edit_line, generated}

-- ---- one line more

-- all lines and the next are the first lines, one more
pub more_lines : (start n : ℕ) (edits new : List Edit) (edit : Edit) →
    edits ≡ map (edit_line start) (range_with_len 1 n) → edit ≡ edit_line start (n + 1) → new ≡ edits ++ edit ∷ [] →
    new ≡ map (edit_line start) (range_with_len 1 (n + 1))
more_lines start n edits new edit lines e k =
    let at : 1 + n ≡ n + 1 = omega arith in
    k ∙ ap (λ (es : List Edit). es ++ edit ∷ []) lines ∙ ap (λ (x : Edit). map (edit_line start) (range_with_len 1 n) ++
    x ∷ []) e ∙ sym (map-range_with_len_more (edit_line start) 1 n (n + 1) at)

-- there are as many lines as were asked for
pub count_lines : (start n : ℕ) (edits : List Edit) → edits ≡ map (edit_line start) (range_with_len 1 n) →
    length edits ≡ n
count_lines start n edits lines = ap length lines ∙ length-map-range_with_len (edit_line start) 1 n

-- a line that goes back
pub goes_back : (start n : ℕ) (edits : List Edit) (older edit : Edit) (p : ℕ) →
    edits ≡ map (edit_line start) (range_with_len 1 n) → n % 4 ≡ 3 →
    older ≡ get_or edits (n - 2) older → p ≡ point_of older → edit ≡ back_to p → edit ≡ edit_line start (n + 1)
goes_back start n edits older edit p lines m o q e =
    let at : 1 + (n - 2) ≡ n + 1 - 2 = omega arith in
    let below : n - 2 < n = omega arith in
    let drew : eqb ((n + 1 - 2) % 4) 0 ≡ false = ne_eqb ((n + 1 - 2) % 4) 0 (λ z. absurd (omega (arith, z))) in
    let back : eqb ((n + 1) % 4) 0 ≡ true = eq-eqb ((n + 1) % 4) 0 (omega arith) in
    let line : older ≡ edit_line start (n + 1 - 2) = o ∙ ap (λ (es : List Edit). get_or es (n - 2) older) lines
    ∙ get_or-map-range_with_len (edit_line start) 1 n (n - 2) (n + 1 - 2) older below at in
    let adds : older ≡ Add (drawn_by start (n + 1 - 2)) = line
    ∙ ap (λ (b : Bool). cond b (back_to (drawn_by start (n + 1 - 2 - 2))) (Add (drawn_by start (n + 1 - 2))))
    drew in
    e ∙ ap back_to (q ∙ ap point_of adds)
    ∙ sym (ap (λ (b : Bool). cond b (back_to (drawn_by start (n + 1 - 2))) (Add (drawn_by start (n + 1)))) back)

-- a line that draws
pub draws_line : (start n s p : ℕ) (edit : Edit) → s ≡ state_after start (3 * (n - n / 4)) → n % 4 ≢ 3 →
    p ≡ point_behind s → edit ≡ Add p → edit ≡ edit_line start (n + 1)
draws_line start n s p edit state m q e =
    let adds : eqb ((n + 1) % 4) 0 ≡ false = ne_eqb ((n + 1) % 4) 0 (λ z. m (omega (arith, z))) in
    let behind : 3 * (n - n / 4) ≡ draws_before (n + 1) = omega arith in
    let drawn : p ≡ drawn_by start (n + 1) = q ∙ ap point_behind state
    ∙ ap (λ (k : ℕ). point_behind (state_after start k)) behind in
    e ∙ ap Add drawn ∙ sym (ap (λ (b : Bool). cond b (back_to (drawn_by start (n + 1 - 2)))
    (Add (drawn_by start (n + 1)))) adds)

-- the state behind a line that goes back
pub same_state : (start n s : ℕ) → s ≡ state_after start (3 * (n - n / 4)) → n % 4 ≡ 3 →
    s ≡ state_after start (3 * (n + 1 - (n + 1) / 4))
same_state start n s state m = let e : 3 * (n - n / 4) ≡ 3 * (n + 1 - (n + 1) / 4) = omega arith in state
    ∙ ap (state_after start) e

-- the state behind a line that draws
pub third_state : (start n s t : ℕ) → s ≡ state_after start (3 * (n - n / 4)) → n % 4 ≢ 3 →
    t ≡ next_state (next_state (next_state s)) → t ≡ state_after start (3 * (n + 1 - (n + 1) / 4))
third_state start n s t state m k =
    let e : suc (suc (suc (3 * (n - n / 4)))) ≡ 3 * (n + 1 - (n + 1) / 4) = omega arith in
    k ∙ ap (λ (u : ℕ). next_state (next_state (next_state u))) state ∙ ap (state_after start) e

-- ---- laws

-- the first four points are the opening four
corners_open : opening_four corners ≡ Some (record { first = 0; second = 1; third = 2; fourth = 3 })
unfolding x_of y_of z_of x_from y_from z_from minor triple orientation normal_x normal_y normal_z
corners_open = refl

-- a line that goes back takes no corner
back_takes : (p q : ℕ) → is_among q corners ≡ true → Take q ≡ back_to p → ⊥
back_takes p q a e = by (is_among p corners) refl
  where
    by : (b : Bool) → is_among p corners ≡ b → ⊥
    by true m = let k : Take q ≡ Add p = e ∙ ap (λ (b : Bool). cond b (Add p) (Take p)) m in absurd cc
    by false m = let k : Take q ≡ Take p = e ∙ ap (λ (b : Bool). cond b (Add p) (Take p)) m in
        let s : q ≡ p = cc in
        let n : is_among q corners ≡ false = ap (λ (r : ℕ). is_among r corners) s ∙ m in absurd cc

-- no line takes a corner
line_takes : (start i q : ℕ) → is_among q corners ≡ true → Take q ≡ edit_line start i → ⊥
line_takes start i q a e = by (eqb (i % 4) 0) refl
  where
    by : (b : Bool) → eqb (i % 4) 0 ≡ b → ⊥
    by true m = back_takes (drawn_by start (i - 2)) q a (e ∙ ap (λ (b : Bool). cond b (back_to (drawn_by start (i - 2)))
        (Add (drawn_by start i))) m)
    by false m = let k : Take q ≡ Add (drawn_by start i) = e
        ∙ ap (λ (b : Bool). cond b (back_to (drawn_by start (i - 2))) (Add (drawn_by start i))) m in absurd cc

-- so none of some lines takes a corner
none_takes : (start q : ℕ) → is_among q corners ≡ true → (is : List ℕ) → IsIn (Take q) (map (edit_line start) is) → ⊥
none_takes start q a [] i = absurd i
none_takes start q a (k ∷ is) (inl e) = line_takes start k q a (sym e)
none_takes start q a (k ∷ is) (inr i) = none_takes start q a is i

-- and none moves a point
line_still : (start i : ℕ) → is_move (edit_line start i) ≡ false
line_still start i = by (eqb (i % 4) 0)
  where
    back : (p : ℕ) (b : Bool) → is_move (cond b (Add p) (Take p)) ≡ false
    back p true = refl
    back p false = refl

    by : (b : Bool) → is_move (cond b (back_to (drawn_by start (i - 2))) (Add (drawn_by start i))) ≡ false
    by true = back (drawn_by start (i - 2)) (is_among (drawn_by start (i - 2)) corners)
    by false = refl

-- so none of some lines is a move
none_moves : (start p q : ℕ) (is : List ℕ) → IsIn (Move p q) (map (edit_line start) is) → ⊥
none_moves start p q [] i = absurd i
none_moves start p q (k ∷ is) (inl e) = let f = sym (line_still start k) ∙ ap is_move e in absurd cc
none_moves start p q (k ∷ is) (inr i) = none_moves start p q is i

-- a generated file is anchored
pub generated_anchored : (count start : ℕ) → IsAnchored (generated count start).points (generated count start).edits
generated_anchored count start = record {
  four = record { first = 0; second = 1; third = 2; fourth = 3 };
  opening = corners_open;
  untaken = λ i at. none_takes start (slice_index corners i) (corner i at) (range_with_len 1 count);
  unmoved = λ i b at. none_moves start (slice_index corners i) b (range_with_len 1 count);
}
  where
    corner : (i : ℕ) → IsIn i (0 ∷ 1 ∷ 2 ∷ 3 ∷ []) → is_among (slice_index corners i) corners ≡ true
    corner i (inl e) = ap (λ (k : ℕ). is_among (slice_index corners k) corners) (sym e)
    corner i (inr (inl e)) = ap (λ (k : ℕ). is_among (slice_index corners k) corners) (sym e)
    corner i (inr (inr (inl e))) = ap (λ (k : ℕ). is_among (slice_index corners k) corners) (sym e)
    corner i (inr (inr (inr (inl e)))) = ap (λ (k : ℕ). is_among (slice_index corners k) corners) (sym e)
    corner i (inr (inr (inr (inr n)))) = absurd n

-- its points are solid
pub generated_solid : (count start : ℕ) → is_solid (generated count start).points ≡ true
unfolding x_of y_of z_of x_from y_from z_from minor triple orientation normal_x normal_y normal_z
generated_solid count start = refl

-- a state behind a draw is below 2^31
draw_below : (s : ℕ) → draw_of (next_state s) < coordinate_count
draw_below s = omega arith

-- a drawn point is a key
drawn_key : (start m : ℕ) → IsKey (point_behind (state_after start m))
drawn_key start m =
    let s = state_after start m in
    let a = draw_below s in
    let b = draw_below (next_state s) in
    let d = draw_below (next_state (next_state s)) in
    omega (arith, a, b, d)

-- the point of each line is a key
line_key : (start i : ℕ) → HasKeys (edit_line start i)
line_key start i = by (eqb (i % 4) 0)
  where
    back : (p : ℕ) (b : Bool) → IsKey p → HasKeys (cond b (Add p) (Take p))
    back p true k = k
    back p false k = k

    by : (b : Bool) → HasKeys (cond b (back_to (drawn_by start (i - 2))) (Add (drawn_by start i)))
    by true = back (drawn_by start (i - 2)) (is_among (drawn_by start (i - 2)) corners) (drawn_key start
        (draws_before (i - 2)))
    by false = drawn_key start (draws_before i)

-- so the lines have what a text of the first version may hold
lines_keys : (start : ℕ) (is : List ℕ) → AllByRecursion (IsEditOf One) (map (edit_line start) is)
lines_keys start [] = tt
lines_keys start (i ∷ is) = (
  (line_key start i, λ moves. absurd (both_ways _ (line_still start i) moves)),
  lines_keys
      start is,
)

-- with so many edits at most, a generated file is within the limits
pub generated_within : (count start : ℕ) → count ≤ most_edits → IsWithinLimits (up_to One) (generated count start)
generated_within count start few = record {
  version = lit≤ tt;
  points = (lit< tt, (lit< tt, (lit< tt, (lit< tt, tt))));
  edits = lines_keys start (range_with_len 1 count);
  radii = (lit< tt, (lit< tt, (lit< tt, tt)));
  queries = tt;
  unasked = λ none. refl;
  line_count = omega (arith, few, length-map-range_with_len (edit_line start) 1 count);
  radius_count = lit≤ tt;
  query_count = lit≤ tt;
}
