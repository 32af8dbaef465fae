-- The cells at a point show whether it is the nearest of the set: the order by distance and key is one by heights.
use Rattle.std.specs.Prelude.{ℕ, ℤ, pos, neg_ℤ, ◌+ℤ◌, ◌-ℤ◌, ◌*ℤ◌, ◌≡◌, ◌≤ℤ◌, ◌<ℤ◌, ◌<◌, ◌^◌, Bool, true, false, not}
use Rattle.std.specs.Prelude.{◌&&◌, ◌||◌, nat_lt, List, [], ◌∷◌, ◌⊎◌}
use Rattle.std.specs.Int.Signed.{lt_z}
use Rattle.std.proofs.Common.{arith, refl, inl, inr, ap, sym, subst, ◌∙◌}
use Rattle.std.proofs.lemmas.Int.{ints}
use Rattle.whole_ring.specs.Poly.{Expr, var, lit, ◌⊕◌, ◌⊗◌, minus, ◌⊖◌, nothing, given}
use Rattle.whole_ring.specs.Signs.{below, at_zero, above}
use Rattle.whole_ring.proofs.Cited.{mul_nonneg, mul_pos_neg, ring, ring_from, sign}
use Rattle.list_laws.proofs.Cited.{not_below, not_zero, less_from, less_true, both_true, false_if, first_true}
use Rattle.list_laws.proofs.Cited.{second_true, left_true, right_true, one_true, not_both, not_from, not_true}
use Rattle.list_laws.proofs.Cited.{below_from, below_true}
use Rattle.conv_laws.specs.Places.{Vector, orient, Lifted, lifted as lifted_determinant, triple, minor}
use Rattle.conv_laws.specs.Spheres.{sheared}
use Rattle.conv_laws.proofs.Cited.{affine_change, weights_of_heights}
use Rattle.point_order.specs.Coordinates.{x_of, y_of, z_of, IsKey}
use Rattle.point_order.specs.Orientation.{orientation, distance, square_of_step, x_from, y_from, z_from}
use Rattle.point_order.specs.Heights.{base, top, height, lifted, square_of}
use Rattle.point_order.specs.Sets.{IsIn, IsAscending}
use Rattle.point_order.specs.Complex.{complex}
use Rattle.point_order.specs.Solid.{is_solid}
use Rattle.point_order.proofs.Cited.{height_parts_law, in_ascending_from, last_first, part_rises}
use Rattle.del_laws.specs.Cells.{Full, point, OneOf, HasFullAt}
use Rattle.del_laws.specs.Keys.{AreKeys}
use Rattle.del_laws.specs.EmptySpheres.{place}
use Rattle.del_laws.specs.Nearest.{comes_before, HasNearer, NearestByCells}
use Rattle.del_laws.proofs.Identities.{raised, weights_of}
use Rattle.del_laws.proofs.CellFacts.{full_a, full_b, full_c, full_d, full_turned, full_empty}
use Rattle.del_laws.proofs.Regions.{IsSetOf, Closest, closest_left, closest_right, closest}
use Rattle.del_laws.specs.Listed.{cell_of}
use Rattle.del_laws.proofs.Walks.{IsClosed, weight, all_full, all_closed, every_point}
use Rattle.del_laws.proofs.Stars.{AtPoint, set_at, closed_at}
use Rattle.del_laws.proofs.Existence.{exists_full}
use Rattle.del_laws.proofs.Perturbed.{no_ties, is_convex}
use Rattle.del_laws.proofs.Bools.{cell_true}
use Rattle.del_laws.proofs.PointSets.{solid_from}
use Rattle.del_laws.proofs.Sorting.{test_is_listed}

-- ---- heights seen from a place

-- the height of a point with an affine function of place added
abbrev tilted : Vector → ℤ → ℕ → ℤ
tilted g k x = pos (height x) +ℤ (g.x *ℤ pos (x_of x) +ℤ g.y *ℤ pos (y_of x) +ℤ g.z *ℤ pos (z_of x)) +ℤ k

-- it is carried by the weights, as the height itself
tilted_carried : (g : Vector) (k : ℤ) (a b c d e : ℕ) → orientation a b c d *ℤ tilted g k e ≡ lifted height a b c d e +ℤ
    (orientation b d c e *ℤ tilted g k a +ℤ orientation a c d e *ℤ tilted g k b +ℤ orientation a d b e *ℤ tilted g k c
    +ℤ orientation a b c e *ℤ tilted g k d)
unfolding lifted lifted_determinant orientation orient triple minor x_from y_from z_from
tilted_carried g k a b c d e =
    weights_of_heights (lean a) (lean b) (lean c) (lean d) (lean e)
    ∙ ap (λ l. l +ℤ (orientation b d c e *ℤ tilted g k a +ℤ orientation a c d e *ℤ tilted g k b +ℤ orientation a d b e
    *ℤ tilted g k c +ℤ orientation a b c e *ℤ tilted g k d))
    (affine_change g k (raised height a) (raised height b) (raised height c) (raised height d) (raised height e))
  where
    -- a point at that height
    lean : ℕ → Lifted
    lean x = sheared g k (raised height x)

-- the great number
abbrev great : ℤ
great = pos (base ^ top)

-- the square of the distance from q times the great number, and the part that the perturbation adds
abbrev seen : ℕ → ℕ → ℤ
seen q x = distance q x *ℤ great +ℤ pos (base ^ x)

-- - 2 q, times the great number
abbrev slope : ℕ → Vector
slope q = record {
  x = neg_ℤ (pos 2 *ℤ pos (x_of q) *ℤ great);
  y = neg_ℤ (pos 2 *ℤ pos (y_of q) *ℤ great);
  z = neg_ℤ (pos 2 *ℤ pos (z_of q) *ℤ great);
}

-- |q|^2 times the great number
abbrev lift : ℕ → ℤ
lift q = (pos (x_of q) *ℤ pos (x_of q) +ℤ pos (y_of q) *ℤ pos (y_of q) +ℤ pos (z_of q) *ℤ pos (z_of q)) *ℤ great

-- minus twice the coordinate of q, times the great number
abbrev turned_w : ℕ → Expr
turned_w i = minus (lit (pos 2) ⊗ var i ⊗ var 6)

-- the square of a difference of coordinates
abbrev apart_w : ℕ → ℕ → Expr
apart_w i j = (var i ⊖ var j) ⊗ (var i ⊖ var j)

-- so it is a height with an affine function of place added
seen_is : (q x : ℕ) → tilted (slope q) (lift q) x ≡ seen q x
unfolding height square_of distance square_of_step x_from y_from z_from
seen_is q x =
    ring
    ((var 0 ⊗ var 0 ⊕ var 1 ⊗ var 1 ⊕ var 2 ⊗ var 2) ⊗ var 6 ⊕ var 7
    ⊕ (turned_w 3 ⊗ var 0 ⊕ turned_w 4 ⊗ var 1 ⊕ turned_w 5 ⊗ var 2)
    ⊕ (var 3 ⊗ var 3 ⊕ var 4 ⊗ var 4 ⊕ var 5 ⊗ var 5) ⊗ var 6)
    ((apart_w 0 3 ⊕ apart_w 1 4 ⊕ apart_w 2 5) ⊗ var 6 ⊕ var 7)
    (pos (x_of x) ∷ pos (y_of x) ∷ pos (z_of x) ∷ pos (x_of q) ∷ pos (y_of q) ∷ pos (z_of q) ∷ great ∷ pos (base ^ x) ∷
    []) tt

-- and carried by the weights
pub seen_carried : (q a b c d e : ℕ) → orientation a b c d *ℤ seen q e ≡ lifted height a b c d e +ℤ
    (orientation b d c e *ℤ seen q a +ℤ orientation a c d e *ℤ seen q b +ℤ orientation a d b e *ℤ seen q c +ℤ
    orientation a b c e *ℤ seen q d)
seen_carried q a b c d e =
    rw (sym (seen_is q a), sym (seen_is q b), sym (seen_is q c), sym (seen_is q d), sym (seen_is q e))
    (tilted_carried (slope q) (lift q) a b c d e)

-- ---- the order by distance and key

-- a difference that is positive, times a number, is at least that number
times_great : (m d : ℤ) → pos 0 <ℤ m → pos 0 <ℤ d → m ≤ℤ (d *ℤ m)
times_great m d hm hd =
    let k : pos 0 ≤ℤ (d -ℤ pos 1) = omega (arith, ints) in
    let e : d *ℤ m ≡ (d -ℤ pos 1) *ℤ m +ℤ m = ring (var 0 ⊗ var 1) ((var 0 ⊖ lit (pos 1)) ⊗ var 1 ⊕ var 1) (d ∷ m ∷ [])
    tt in
    let l : pos 0 ≤ℤ m = omega (arith, ints) in
    omega (arith, ints, e, mul_nonneg (d -ℤ pos 1) m k l)

-- a lesser distance gives a lesser height, whatever is added below the great number
by_distance : (m da db : ℤ) (ta tb : ℕ) → pos ta <ℤ m → da <ℤ db → (da *ℤ m +ℤ pos ta) <ℤ (db *ℤ m +ℤ pos tb)
by_distance m da db ta tb h l =
    let hm : pos 0 <ℤ m = omega (arith, ints) in
    let d : pos 0 <ℤ (db -ℤ da) = omega (arith, ints) in
    let e : db *ℤ m ≡ (db -ℤ da) *ℤ m +ℤ da *ℤ m = ring (var 0 ⊗ var 1) ((var 0 ⊖ var 2) ⊗ var 1 ⊕ var 2 ⊗ var 1)
    (db ∷ m ∷ da ∷ []) tt in
    omega (arith, ints, e, times_great m (db -ℤ da) hm d)

-- so does the same distance with a lesser part
by_key : (m da db : ℤ) (ta tb : ℕ) → da ≡ db → ta < tb → (da *ℤ m +ℤ pos ta) <ℤ (db *ℤ m +ℤ pos tb)
by_key m da db ta tb e l = let f : da *ℤ m ≡ db *ℤ m = ap (λ x. x *ℤ m) e in omega (arith, ints, f)

-- a part is below the great number
part_below : (x : ℕ) → IsKey x → pos (base ^ x) <ℤ great
part_below x k = let h = (height_parts_law x k).2 in omega (arith, ints, h)

-- one number is less than another, is it, or is more
data Compared (a b : ℤ) : Type 0 where
  less : a <ℤ b → Compared a b
  same : a ≡ b → Compared a b
  more : b <ℤ a → Compared a b

-- each is one of these
compare : (a b : ℤ) → Compared a b
compare a b = elim (sign (b -ℤ a)) [
  | below l ↦ more (let h : b <ℤ a = omega (arith, ints) in h)
  | at_zero e ↦ same (let h : a ≡ b = omega (arith, ints) in h)
  | above l ↦ less (let h : a <ℤ b = omega (arith, ints) in h)
]

-- the first comes before the second, so it is lower
lower_from : (q a b : ℕ) → IsKey a → comes_before q a b ≡ true → seen q a <ℤ seen q b
lower_from q a b ka t = elim (one_true (lt_z (distance q a) (distance q b))
    (not (lt_z (distance q b) (distance q a)) && nat_lt a b) t) [
      | inl u ↦ by_distance great (distance q a) (distance q b) (base ^ a) (base ^ b) (part_below a ka)
          (less_from (distance q a) (distance q b) u)
      | inr u ↦ elim (compare (distance q a) (distance q b)) [
        | less l ↦ by_distance great (distance q a) (distance q b) (base ^ a) (base ^ b) (part_below a ka) l
        | same e ↦ by_key great (distance q a) (distance q b) (base ^ a) (base ^ b) e
            (part_rises a b (below_from a b (second_true (not (lt_z (distance q b) (distance q a))) (nat_lt a b) u)))
        | more l ↦ absurd (not_both (lt_z (distance q b) (distance q a)) (less_true (distance q b) (distance q a) l)
            (not_from (lt_z (distance q b) (distance q a)) (first_true (not (lt_z (distance q b) (distance q a)))
            (nat_lt a b) u)))
      ]
    ]

-- no number is less than another that is less than it
not_both_less : (a b : ℤ) → a <ℤ b → b <ℤ a → ⊥
not_both_less a b h k = omega (arith, ints)

-- of two points as near the lower has the lesser key
key_from : (q a b : ℕ) → distance q a ≡ distance q b → seen q a <ℤ seen q b → a < b
key_from q a b e l = elim (compare (pos a) (pos b)) [
  | less m ↦ (let h : a < b = omega (arith, ints) in h)
  | same m ↦ (let h : a ≡ b = omega (arith, ints) in absurd (not_self (seen q b)
      (subst (λ x. seen q x <ℤ seen q b) h l)))
  | more m ↦ (let h : b < a = omega (arith, ints) in absurd (not_both_less (seen q a) (seen q b) l
      (by_key great (distance q b) (distance q a) (base ^ b) (base ^ a) (sym e) (part_rises b a h))))
]
  where
    -- no number is less than itself
    not_self : (x : ℤ) → x <ℤ x → ⊥
    not_self x h = omega (arith, ints)

-- and what is lower comes before
before_true : (q a b : ℕ) → IsKey b → seen q a <ℤ seen q b → comes_before q a b ≡ true
before_true q a b kb l = elim (compare (distance q a) (distance q b)) [
  | less m ↦ left_true (lt_z (distance q a) (distance q b)) (not (lt_z (distance q b) (distance q a)) && nat_lt a b)
      (less_true (distance q a) (distance q b) m)
  | same e ↦ right_true (lt_z (distance q a) (distance q b)) (not (lt_z (distance q b) (distance q a)) && nat_lt a b)
      (both_true (not (lt_z (distance q b) (distance q a))) (nat_lt a b)
      (not_true (lt_z (distance q b) (distance q a)) (false_if (lt_z (distance q b) (distance q a))
      (λ t. differ (distance q b) (distance q a) (less_from (distance q b) (distance q a) t) (sym e))))
      (below_true a b (key_from q a b e l)))
  | more m ↦ absurd (not_both_less (seen q a) (seen q b) l (by_distance great (distance q b) (distance q a) (base ^ b)
      (base ^ a) (part_below b kb) m))
]
  where
    -- a number that is less is another
    differ : (x y : ℤ) → x <ℤ y → x ≡ y → ⊥
    differ x y h e = omega (arith, ints)

-- ---- the nearest

-- where three others are not lower than the first, what their weights carry is not lower
none_lower : (o l wa wb wc wd fz fp fb fc fd : ℤ) → o *ℤ fz ≡ l +ℤ (wa *ℤ fp +ℤ wb *ℤ fb +ℤ wc *ℤ fc +ℤ wd *ℤ fd) →
    wa +ℤ wb +ℤ wc +ℤ wd ≡ o → pos 0 <ℤ o → pos 0 ≤ℤ l → pos 0 ≤ℤ wb → pos 0 ≤ℤ wc → pos 0 ≤ℤ wd → pos 0 ≤ℤ (fb -ℤ fp) →
    pos 0 ≤ℤ (fc -ℤ fp) → pos 0 ≤ℤ (fd -ℤ fp) → pos 0 ≤ℤ (fz -ℤ fp)
none_lower o l wa wb wc wd fz fp fb fc fd e f ho hl hb hc hd kb kc kd =
    not_below (fz -ℤ fp) (λ m. omega (
      arith,
      ints,
      i,
      hl,
      mul_pos_neg o (fz -ℤ fp) ho m,
      mul_nonneg wb (fb -ℤ fp) hb kb,
      mul_nonneg wc (fc -ℤ fp) hc kc,
      mul_nonneg wd (fd -ℤ fp) hd kd,
    ))
  where
    -- the first is taken away on both sides
    i : o *ℤ (fz -ℤ fp) ≡ l +ℤ (wb *ℤ (fb -ℤ fp) +ℤ wc *ℤ (fc -ℤ fp) +ℤ wd *ℤ (fd -ℤ fp))
    i =
        ring_from (var 0 ⊗ (var 6 ⊖ var 7)) (var 1 ⊕ (var 3 ⊗ (var 8 ⊖ var 7) ⊕ var 4 ⊗ (var 9 ⊖ var 7) ⊕ var 5 ⊗
        (var 10 ⊖ var 7)))
        (given (lit (pos 1)) (var 0 ⊗ var 6) (var 1 ⊕ (var 2 ⊗ var 7 ⊕ var 3 ⊗ var 8 ⊕ var 4 ⊗ var 9 ⊕ var 5 ⊗ var 10))
        (given (var 7) (var 2 ⊕ var 3 ⊕ var 4 ⊕ var 5) (var 0) nothing))
        (o ∷ l ∷ wa ∷ wb ∷ wc ∷ wd ∷ fz ∷ fp ∷ fb ∷ fc ∷ fd ∷ []) (e, (f, tt)) tt

-- a vertex that is no lower in difference, or one that is lower
lower_or_not : (q v p : ℕ) → (seen q v <ℤ seen q p) ⊎ (pos 0 ≤ℤ (seen q v -ℤ seen q p))
lower_or_not q v p = go (seen q v) (seen q p)
  where
    -- of two numbers
    go : (x y : ℤ) → (x <ℤ y) ⊎ (pos 0 ≤ℤ (x -ℤ y))
    go x y = elim (compare x y) [
      | less l ↦ inl l
      | same e ↦ inr (let h : pos 0 ≤ℤ (x -ℤ y) = omega (arith, ints) in h)
      | more l ↦ inr (let h : pos 0 ≤ℤ (x -ℤ y) = omega (arith, ints) in h)
    ]

-- a number that is lower is not at least as high
not_lower : (x y : ℤ) → x <ℤ y → pos 0 ≤ℤ (x -ℤ y) → ⊥
not_lower x y h k = omega (arith, ints)

-- a Full cell with p in the first place, and one of its other points that is lower than p
record HasLower (s : List ℕ) (q p : ℕ) : Type 0 where
  b : ℕ
  c : ℕ
  d : ℕ
  full : Full height s p b c d
  other : ℕ
  one : IsIn other (p ∷ b ∷ c ∷ d ∷ [])
  lower : seen q other <ℤ seen q p

-- the Full cells with a point
abbrev At : List ℕ → ℕ → ℕ → ℕ → ℕ → ℕ → Type 0
At s p = AtPoint (λ i j k l. Full height s i j k l) p

module _ (s : List ℕ) (k : AreKeys s) (p : ℕ) where
  -- they are a set of cells
  at_set : IsSetOf height s (At s p)
  at_set = set_at (all_full height s) p

  -- closed across the facets that keep the point
  at_closed : IsClosed height s (At s p) (p ∷ [])
  at_closed = closed_at (all_closed height s) p

  -- the closest of them in an order that begins with the point
  record Begins (e : ℕ) : Type 0 where
    b : ℕ
    c : ℕ
    d : ℕ
    near : Closest height (At s p) e p b c d

  -- with the point in the first place
  begins : (e w x y z : ℕ) → Closest height (At s p) e w x y z → OneOf p w x y z → Begins e
  begins e w x y z t m = elim m [
    | inl f ↦ at f t
    | inr r ↦ elim r [
      | inl f ↦ at f (closest_left at_set t)
      | inr u ↦ elim u [
        | inl f ↦ at f (closest_left at_set (closest_left at_set t))
        | inr v ↦ elim v [
          | inl f ↦ at f (closest_left at_set (closest_left at_set (closest_right at_set t)))
          | inr none
              ↦ absurd none
        ]
      ]
    ]
  ]
    where
      -- the point is there
      at : {u x y z : ℕ} → u ≡ p → Closest height (At s p) e u x y z → Begins e
      at {u} {x} {y} {z} f t = record { b = x; c = y; d = z; near = subst (λ v. Closest height (At s p) e v x y z) f t }

  -- the last point of a cell that begins with p is another
  last_apart : {b c d : ℕ} → Full height s p b c d → ¬ (IsIn d (p ∷ []))
  last_apart {b} {c} {d} F m = elim m [
    | inl f ↦ not_zero (orientation p b c d) (full_turned F) (ap (λ x. orientation p b c x) (sym f) ∙ last_first p b c)
    | inr none ↦ none
  ]

  -- at the closest cell the weights of the other three points are not below 0
  last_weight : (e b c d : ℕ) → Closest height (At s p) e p b c d → IsIn e s → pos 0 ≤ℤ orientation p b c e
  last_weight e b c d t m = weight (no_ties s k) at_set at_closed t m (last_apart t.at.0)

  -- where a point of the set is lower than p, a point of the closest cell is
  closest_lower : (q e : ℕ) → IsIn e s → seen q e <ℤ seen q p → Begins e → HasLower s q p
  closest_lower q e m l g =
      elim (lower_or_not q g.b p) [
        | inl r ↦ found g.b (inr (inl refl)) r
        | inr kb ↦ elim (lower_or_not q g.c p) [
          | inl r ↦ found g.c (inr (inr (inl refl))) r
          | inr kc ↦ elim (lower_or_not q g.d p) [
            | inl r ↦ found g.d (inr (inr (inr (inl refl)))) r
            | inr kd ↦ absurd (not_lower (seen q e) (seen q p) l
                (none_lower (orientation p g.b g.c g.d) (lifted height p g.b g.c g.d e) (orientation g.b g.d g.c e)
                (orientation p g.c g.d e) (orientation p g.d g.b e) (orientation p g.b g.c e) (seen q e) (seen q p)
                (seen q g.b) (seen q g.c) (seen q g.d)
                (seen_carried q p g.b g.c g.d e) (weights_of p g.b g.c g.d e) (full_turned F) (full_empty F e m)
                (last_weight e g.c g.d g.b (closest_right at_set g.near) m)
                (last_weight e g.d g.b g.c (closest_right at_set (closest_right at_set g.near)) m)
                (last_weight e g.b g.c g.d g.near m)
                kb kc kd))
          ]
        ]
      ]
    where
      -- the closest cell
      F : Full height s p g.b g.c g.d
      F = g.near.at.0

      -- the point that is found
      found : (v : ℕ) → IsIn v (p ∷ g.b ∷ g.c ∷ g.d ∷ []) → seen q v <ℤ seen q p → HasLower s q p
      found v o r = record { b = g.b; c = g.c; d = g.d; full = F; other = v; one = o; lower = r }

  -- of a solid set, from any point that is lower
  some_lower : (q e : ℕ) → is_solid s ≡ true → IsIn p s → IsIn e s → seen q e <ℤ seen q p → HasLower s q p
  some_lower q e i mp me l =
      let C = every_point (no_ties s k) (is_convex s k) (exists_full (no_ties s k) (solid_from s i)).full p mp in
      let t = closest at_set e C.f.a C.f.b C.f.c C.f.d (C.full, C.has) in
      closest_lower q e me l (begins e t.0.a t.0.b t.0.c t.0.d t.1 t.1.at.1)

-- the law NearestByCells
pub nearest_by_cells : NearestByCells
nearest_by_cells s q p z a k i mp mz t =
    let g = some_lower s k p q z i mp mz (lower_from q z p (k.below z mz) t) in
    record {
      cell = cell_of (point p) (point g.b) (point g.c) (point g.d);
      listed = test_is_listed s a k (point p) (point g.b) (point g.c) (point g.d)
          (cell_true s k (point p) (point g.b) (point g.c) (point g.d) (inl g.full));
      has = in_ascending_from (p ∷ g.b ∷ g.c ∷ g.d ∷ []) p (inl refl);
      other = g.other;
      shares = in_ascending_from (p ∷ g.b ∷ g.c ∷ g.d ∷ []) g.other g.one;
      nearer = before_true q g.other p (k.below p mp) g.lower;
    }
