-- Sets of points at given places.
use Rattle.std.proofs.Common.{◌≡◌, ◌∙◌, ◌<◌, ◌+◌, ℕ, ℤ, ap, arith, refl, sym, subst, inl, inr, List, [], ◌∷◌, ◌++◌}
use Rattle.std.proofs.Common.{length, map, pos, take, get_or}
use Rattle.std.proofs.lemmas.Int.{ints}
use Rattle.std.proofs.lemmas.List.{get_or_default}
use Rattle.std.specs.Prelude.{Result, Ok, Err, IfErr, IsErrAnd}
use Rattle.list_laws.proofs.Cited.{at_in, from_append, take_next}
use Rattle.point_order.specs.declared.point.OutOfRange.{OutOfRange}
use Rattle.point_order.specs.Coordinates.{IsFirstOutside, IsKey, IsNoCoordinate, x_of, y_of, z_of}
use Rattle.point_order.proofs.Cited.{x_of_below, y_of_below, z_of_below}
use Rattle.point_order.specs.Sets.{IsIn, IsAscending, AreSamePoints}
use Rattle.del_laws.specs.Keys.{AreKeys}
use Rattle.mesh_rows.specs.declared.rows.Place.{Place}
use Rattle.mesh_rows.specs.declared.stop.Stop.{Stop}
use Rattle.mesh_rows.specs.Rows.{point_place, LiesOutside}
use Rattle.mesh_rows.specs.Meshes.{HasOutside, IsStopCause, IsSetOf}

-- one more key
pub keys_more : (s : List ℕ) (p : ℕ) → AreKeys s → IsKey p → AreKeys (s ++ p ∷ [])
keys_more s p k h = record {
  below = λ q i. elim (from_append q s (p ∷ []) i) [
    | inl j ↦ k.below q j
    | inr j ↦ elim j [ inl e ↦ subst IsKey e h | inr none ↦ absurd none ]
  ];
}

-- places of the points of one list are those of the points of another with the same points
mapped_in : (l m : List ℕ) → ((e : ℕ) → IsIn e l → IsIn e m) → (x : Place) → IsIn x (map point_place l) →
    IsIn x (map point_place m)
mapped_in [] m f x i = absurd i
mapped_in (p ∷ l) m f x (inl e) = here m p x (f p (inl refl)) e
  where
    here : (m : List ℕ) (p : ℕ) (x : Place) → IsIn p m → point_place p ≡ x → IsIn x (map point_place m)
    here [] p x i e = absurd i
    here (q ∷ m) p x (inl d) e = inl (subst (λ (v : ℕ). point_place v ≡ x) (sym d) e)
    here (q ∷ m) p x (inr j) e = inr (here m p x j e)
mapped_in (p ∷ l) m f x (inr j) = mapped_in l m (λ e i. f e (inr i)) x j

-- the points in order are the set of those given
pub set_in_order : (given : List Place) (points s : List ℕ) → map point_place points ≡ given → AreKeys points →
    IsAscending s → AreSamePoints points s → IsSetOf given s
set_in_order given points s e k a same = record {
  set = record { ascending = a; keys = record { below = λ p i. k.below p ((same p).1 i) } };
  places = λ p. (
    λ i. mapped_in points s (λ q j. (same q).0 j) p (subst (λ (l : List Place). IsIn p l) (sym e) i),
    λ i. subst (λ (l : List Place). IsIn p l) e (mapped_in s points (λ q j. (same q).1 j) p i),
  );
}

-- a point is refused for one of its coordinates
pub outside_of : (p : Place) (x y z : ℤ) (e : OutOfRange) → x ≡ p.x → y ≡ p.y → z ≡ p.z → IsFirstOutside x y z e →
    LiesOutside p
outside_of p x y z e a b c (inl k) = inl (subst IsNoCoordinate a k.2)
outside_of p x y z e a b c (inr (inl k)) = inr (inl (subst IsNoCoordinate b k.3))
outside_of p x y z e a b c (inr (inr k)) = inr (inr (subst IsNoCoordinate c k.4))

-- a given place outside
pub refused_at : (given : List Place) (i : ℕ) (d : Place) → i < length given → LiesOutside (get_or given i d) →
    HasOutside given
refused_at given i d h o = (get_or given i d, at_in given i d h, o)

-- what is passed on has the same cause
pub passed_on : {T : Type 0} (given : List Place) (x : Stop) (r : Result T Stop) → IsErrAnd r (λ e. e ≡ x) →
    IsStopCause given x → IfErr r (λ stop. IsStopCause given stop)
passed_on given x (Ok v) a k = tt
passed_on given x (Err e) a k = subst (λ (y : Stop). IsStopCause given y) (sym a) k

-- places of one point more
mapped : (old : List ℕ) (p : ℕ) → map point_place (old ++ p ∷ []) ≡ map point_place old ++ point_place p ∷ []
mapped [] p = refl
mapped (q ∷ old) p = ap (λ (l : List Place). point_place q ∷ l) (mapped old p)

-- the points at a front of the places and at the next
pub points_more : (given : List Place) (i : ℕ) (d : Place) (old new : List ℕ) (p : ℕ) → i < length given →
    point_place p ≡ get_or given i d → IsKey p → new ≡ old ++ p ∷ [] → map point_place old ≡ take i given →
    AreKeys old →
    (map point_place new ≡ take (i + 1) given) × AreKeys new
points_more given i d old new p h e k n m a =
    let x = get_or given i d in
    let q = take_next given i x h (get_or_default given i d x h) in (
      ap (map point_place) n ∙ mapped old p ∙ ap (λ (l : List Place). l ++ point_place p ∷ []) m
          ∙ ap (λ (y : Place). take i given ++ y ∷ []) e ∙ sym q,
      subst AreKeys (sym n) (keys_more old p a k),
    )

-- numbers below 16384 are coordinates
no_coordinate : (n : ℕ) → n < 16384 → IsNoCoordinate (pos n) → ⊥
no_coordinate n h (inl low) = omega (arith, ints)
no_coordinate n h (inr high) = omega (arith, ints)

-- a point's place does not lie outside
pub inside : (place : Place) (p : ℕ) → point_place p ≡ place → LiesOutside place → ⊥
inside place p at (inl x) =
    no_coordinate (x_of p) (x_of_below p) (subst IsNoCoordinate (sym (ap (λ (q : Place). q.x) at)) x)
inside place p at (inr (inl y)) =
    no_coordinate (y_of p) (y_of_below p) (subst IsNoCoordinate (sym (ap (λ (q : Place). q.y) at)) y)
inside place p at (inr (inr z)) =
    no_coordinate (z_of p) (z_of_below p) (subst IsNoCoordinate (sym (ap (λ (q : Place). q.z) at)) z)

-- no place at a front of the places lies outside, and none at the next
pub none_more : (given : List Place) (i : ℕ) (d : Place) (p : ℕ) → i < length given → point_place p ≡ get_or given i d →
    (HasOutside (take i given) → ⊥) → HasOutside (take (i + 1) given) → ⊥
none_more given i d p h e none some =
    let x = get_or given i d in
    let q = take_next given i x h (get_or_default given i d x h) in
    elim (from_append some.0 (take i given) (x ∷ []) (subst (λ (l : List Place). IsIn some.0 l) q some.1)) [
      | inl j ↦ none (some.0, j, some.2)
      | inr j ↦ elim j [ inl s ↦ inside x p e (subst LiesOutside (sym s) some.2) | inr n ↦ absurd n ]
    ]
