-- Sets of Full cells, and the closest of them to a point.
use Rattle.std.specs.Prelude.{ℕ, ℤ, pos, ◌*ℤ◌, ◌≡◌, ◌≤ℤ◌, ◌<ℤ◌, List, [], ◌∷◌}
use Rattle.std.proofs.Common.{refl, inl, inr, subst, ap}
use Rattle.list_laws.proofs.Cited.{clash_above, find_least}
use Rattle.point_order.specs.Orientation.{orientation}
use Rattle.point_order.specs.Heights.{lifted}
use Rattle.point_order.specs.Sets.{IsIn}
use Rattle.del_laws.specs.Cells.{Full, Four}
use Rattle.del_laws.proofs.Identities.{orientation_bcad, orientation_acdb, lifted_bcad, lifted_acdb}
use Rattle.del_laws.proofs.CellFacts.{full_a, full_b, full_c, full_d, full_turned}

-- a set of Full cells, with each cell in all its even orders
pub record IsSetOf (h : ℕ → ℕ) (s : List ℕ) (q : ℕ → ℕ → ℕ → ℕ → Type 0) : Type 0 where
  pub decide : (a b c d : ℕ) → Dec (q a b c d)
  pub left : (a b c d : ℕ) → q a b c d → q b c a d
  pub right : (a b c d : ℕ) → q a b c d → q a c d b
  pub full : (a b c d : ℕ) → q a b c d → Full h s a b c d

-- no cell of q is closer to e: has a lower ratio of lifted determinant and orientation
pub record Closest (h : ℕ → ℕ) (q : ℕ → ℕ → ℕ → ℕ → Type 0) (e a b c d : ℕ) : Type 0 where
  pub at : q a b c d
  pub least : (k l m n : ℕ) → q k l m n → (lifted h a b c d e *ℤ orientation k l m n)
      ≤ℤ (lifted h k l m n e *ℤ orientation a b c d)

-- the same with the first three points turned
pub closest_left : {h : ℕ → ℕ} {s : List ℕ} {q : ℕ → ℕ → ℕ → ℕ → Type 0} {e a b c d : ℕ} → IsSetOf h s q →
    Closest h q e a b c d → Closest h q e b c a d
closest_left {h} {s} {q} {e} {a} {b} {c} {d} g f = record {
  at = g.left a b c d f.at;
  least = λ k l m n t. rw (lifted_bcad h a b c d e, orientation_bcad a b c d) (f.least k l m n t);
}

-- with the last three turned
pub closest_right : {h : ℕ → ℕ} {s : List ℕ} {q : ℕ → ℕ → ℕ → ℕ → Type 0} {e a b c d : ℕ} → IsSetOf h s q →
    Closest h q e a b c d → Closest h q e a c d b
closest_right {h} {s} {q} {e} {a} {b} {c} {d} g f = record {
  at = g.right a b c d f.at;
  least = λ k l m n t. rw (lifted_acdb h a b c d e, orientation_acdb a b c d) (f.least k l m n t);
}

-- f of each member, in front of a list
map_onto : {X Y : Type 0} → (X → Y) → List X → List Y → List Y
map_onto f [] ys = ys
map_onto f (x ∷ xs) ys = f x ∷ map_onto f xs ys

-- what was there is there
in_tail : {X Y : Type 0} (f : X → Y) (xs : List X) (ys : List Y) (y : Y) → IsIn y ys → IsIn y (map_onto f xs ys)
unfolding map_onto
in_tail f [] ys y m = m
in_tail f (x ∷ xs) ys y m = inr (in_tail f xs ys y m)

-- f of a member is there
in_head : {X Y : Type 0} (f : X → Y) (xs : List X) (ys : List Y) (x : X) → IsIn x xs → IsIn (f x) (map_onto f xs ys)
unfolding map_onto
in_head f [] ys x m = absurd m
in_head f (z ∷ xs) ys x m = elim m [ inl e ↦ inl (ap f e) | inr r ↦ inr (in_head f xs ys x r) ]

-- f of each member of xs and each of ys
pairs : {X Y Z : Type 0} → (X → Y → Z) → List X → List Y → List Z
pairs f [] ys = []
pairs f (x ∷ xs) ys = map_onto (f x) ys (pairs f xs ys)

-- f of two members is there
in_pairs : {X Y Z : Type 0} (f : X → Y → Z) (xs : List X) (ys : List Y) (x : X) (y : Y) → IsIn x xs → IsIn y ys →
    IsIn (f x y) (pairs f xs ys)
unfolding pairs
in_pairs f [] ys x y m n = absurd m
in_pairs f (z ∷ xs) ys x y m n = elim m [
  | inl e ↦ subst (λ v. IsIn (f v y) (map_onto (f z) ys (pairs f xs ys))) e (in_head (f z) ys (pairs f xs ys) y n)
  | inr r ↦ in_tail (f z) ys (pairs f xs ys) (f x y) (in_pairs f xs ys x y r n)
]

-- two points
pub record Two : Type 0 where
  pub a : ℕ
  pub b : ℕ

-- two points together
two : ℕ → ℕ → Two
two a b = record { a = a; b = b }

-- two and two
abbrev four_of : Two → Two → Four
four_of x y = record { a = x.a; b = x.b; c = y.a; d = y.b }

-- all fours of points of a list
quads : List ℕ → List Four
quads s = pairs four_of (pairs two s s) (pairs two s s)

-- four points of a list are there
in_quads : (s : List ℕ) (a b c d : ℕ) → IsIn a s → IsIn b s → IsIn c s → IsIn d s →
    IsIn (record { a = a; b = b; c = c; d = d }) (quads s)
unfolding quads two
in_quads s a b c d ma mb mc md =
    in_pairs four_of (pairs two s s) (pairs two s s) (two a b) (two c d) (in_pairs two s s a b ma mb)
    (in_pairs two s s c d mc md)

-- a number where a statement holds, else 0
abbrev size_if : {A : Type 0} → Dec A → ℤ → ℤ
size_if (yes p) z = z
size_if (no n) z = pos 0

-- where it holds
size_if_yes : {A : Type 0} (d : Dec A) (z : ℤ) → A → size_if d z ≡ z
size_if_yes (yes p) z a = refl
size_if_yes (no n) z a = absurd (n a)

-- it holds where the number is positive
size_if_pos : {A : Type 0} (d : Dec A) (z : ℤ) → pos 0 <ℤ size_if d z → A
size_if_pos (yes p) z k = p
size_if_pos (no n) z k = absurd k.lt

-- a cell of the set of least ratio, for any numerators
pub record Chosen (q : ℕ → ℕ → ℕ → ℕ → Type 0) (num : ℕ → ℕ → ℕ → ℕ → ℤ) : Type 0 where
  pub f : Four
  pub at : q f.a f.b f.c f.d
  pub least : (k l m n : ℕ) → q k l m n → (num f.a f.b f.c f.d *ℤ orientation k l m n)
      ≤ℤ (num k l m n *ℤ orientation f.a f.b f.c f.d)

-- there is one
pub choose : {h : ℕ → ℕ} {s : List ℕ} {q : ℕ → ℕ → ℕ → ℕ → Type 0} → IsSetOf h s q →
    (num : ℕ → ℕ → ℕ → ℕ → ℤ) (a b c d : ℕ) → q a b c d → Chosen q num
choose {h} {s} {q} g num a b c d t = elim (find_least number size (quads s)) [
  | inl n ↦ absurd (clash_above (size (record { a = a; b = b; c = c; d = d })) (large a b c d t)
      (n (record { a = a; b = b; c = c; d = d }) (there a b c d t)))
  | inr l ↦ (
      let at = size_if_pos (g.decide l.0.a l.0.b l.0.c l.0.d) (orientation l.0.a l.0.b l.0.c l.0.d) l.1.positive in
      record {
        f = l.0;
        at = at;
        least = λ k l' m n u. (
            let v = l.1.least (record { a = k; b = l'; c = m; d = n }) (there k l' m n u) (large k l' m n u) in
            rw (
              size_if_yes (g.decide k l' m n) (orientation k l' m n) u,
              size_if_yes (g.decide l.0.a l.0.b l.0.c l.0.d)
                  (orientation l.0.a l.0.b l.0.c l.0.d) at,
            ) at v);
      })
]
  where
    -- the numerator of four points
    number : Four → ℤ
    number f = num f.a f.b f.c f.d

    -- the denominator: 0 where they are no cell of the set
    size : Four → ℤ
    size f = size_if (g.decide f.a f.b f.c f.d) (orientation f.a f.b f.c f.d)

    -- a cell of the set is among the fours
    there : (a b c d : ℕ) → q a b c d → IsIn (record { a = a; b = b; c = c; d = d }) (quads s)
    there a b c d t = let f = g.full a b c d t in in_quads s a b c d (full_a f) (full_b f) (full_c f) (full_d f)

    -- and its denominator is positive
    large : (a b c d : ℕ) (t : q a b c d) → pos 0 <ℤ size_if (g.decide a b c d) (orientation a b c d)
    large a b c d t = rw (size_if_yes (g.decide a b c d) (orientation a b c d) t) (full_turned (g.full a b c d t))

-- the closest cell of a set that is not empty
pub closest : {h : ℕ → ℕ} {s : List ℕ} {q : ℕ → ℕ → ℕ → ℕ → Type 0} → IsSetOf h s q → (e a b c d : ℕ) → q a b c d →
    (f : Four) × Closest h q e f.a f.b f.c f.d
closest {h} g e a b c d t =
    let v = choose g (λ k l m n. lifted h k l m n e) a b c d t in (v.f, record { at = v.at; least = v.least })
