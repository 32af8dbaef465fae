-- Four independent points that show a set solid.
use Rattle.std.specs.Prelude.{◌≡◌, ◌≢◌, ℕ, true, false, List, [], ◌∷◌, Option, None, Some, IfSome, MatchOption, ◌<◌}
use Rattle.std.specs.Prelude.{length, map, slice_index, slice_index_or}
use Rattle.std.specs.Option.{option_map}
use Rattle.std.proofs.Common.{refl, sym, ◌∙◌, ap, subst, inl, inr, arith}
use Rattle.list_laws.proofs.Cited.{index_in, not_among, one_value}
use Rattle.point_order.specs.Sets.{IsIn, IsAscending, is_among}
use Rattle.point_order.specs.Solid.{is_solid}
use Rattle.point_order.proofs.Cited.{ascending_is}
use Rattle.edit_history.specs.Laws.{AreIndependent, SetLaw}
use Rattle.edit_history.specs.OneThread.{places}
use Rattle.edit_history.specs.Opening.{opening_four, FourPlaces}
use Rattle.edit_history.proofs.Cited.{four_law, solid_from}
use Rattle.edit_outcomes.specs.Folding.{AreAnchors, AreOf}

-- a set with such points is solid
pub anchored_solid : (t four : List ℕ) → AreAnchors t four → is_solid t ≡ true
anchored_solid t four f =
    let has = λ (p : ℕ) (i : IsIn p (f.a ∷ f.b ∷ f.c ∷ f.d ∷ [])). f.of_set p (subst (IsIn p) (sym f.are) i) in
    solid_from t f.a f.b f.c f.d (has f.a (inl refl)) (has f.b (inr (inl refl))) (has f.c (inr (inr (inl refl))))
    (has f.d (inr (inr (inr (inl refl))))) f.independent

-- they are of each set that has them
pub anchors_of : (s t four : List ℕ) → AreAnchors s four → ((q : ℕ) → IsIn q four → IsIn q t) → AreAnchors t four
anchors_of s t four f has = record {
  a = f.a;
  b = f.b;
  c = f.c;
  d = f.d;
  are = f.are;
  independent = f.independent;
  of_set = has;
}

-- lists of the same points are both solid or neither
pub same_solid : SetLaw → (s t : List ℕ) → IsAscending t → AreOf t s → AreOf s t → is_solid s ≡ is_solid t
same_solid law s t a f g = sym (ap is_solid (ascending_is t s a g f) ∙ law s)

-- places that are found are those of an opening four
pub places_found : (points four : List ℕ) → option_map places (opening_four points) ≡ Some four →
    (f : FourPlaces) × AreIndependent points f × (places f ≡ four)
places_found points four e = by (opening_four points) e (four_law points)
  where
    by : (o : Option FourPlaces) → option_map places o ≡ Some four → IfSome o (AreIndependent points) →
        (f : FourPlaces) × AreIndependent points f × (places f ≡ four)
    by None e k = absurd (cc e)
    by (Some f) e k = (f, k, one_value (places f) four e)

module _ (points four : List ℕ) (e : option_map places (opening_four points) ≡ Some four) where
  -- each of them is a place of the list
  pub first_within : slice_index_or four 0 0 < length points
  first_within =
      let r = places_found points four e in
      let a = r.1.ascending in
      let n = r.1.within in
      let q : r.0.first ≡ slice_index_or four 0 0 = ap (λ (l : List ℕ). slice_index_or l 0 0) r.2 in
      omega (arith, a.0, a.1, a.2, n, q)

  pub second_within : slice_index_or four 1 0 < length points
  second_within =
      let r = places_found points four e in
      let a = r.1.ascending in
      let n = r.1.within in
      let q : r.0.second ≡ slice_index_or four 1 0 = ap (λ (l : List ℕ). slice_index_or l 1 0) r.2 in
      omega (arith, a.1, a.2, n, q)

  pub third_within : slice_index_or four 2 0 < length points
  third_within =
      let r = places_found points four e in
      let a = r.1.ascending in
      let n = r.1.within in
      let q : r.0.third ≡ slice_index_or four 2 0 = ap (λ (l : List ℕ). slice_index_or l 2 0) r.2 in
      omega (arith, a.2, n, q)

  pub fourth_within : slice_index_or four 3 0 < length points
  fourth_within =
      let r = places_found points four e in
      let n = r.1.within in
      let q : r.0.fourth ≡ slice_index_or four 3 0 = ap (λ (l : List ℕ). slice_index_or l 3 0) r.2 in
      omega (arith, n, q)

  -- the points there are four independent ones
  pub found_four : (a b c d : ℕ) → a ≡ slice_index points (slice_index_or four 0 0) →
      b ≡ slice_index points (slice_index_or four 1 0) → c ≡ slice_index points (slice_index_or four 2 0) →
      d ≡ slice_index points (slice_index_or four 3 0) → AreAnchors points (a ∷ b ∷ c ∷ d ∷ [])
  found_four a b c d ea eb ec ed =
      let r = places_found points four e in
      let f = r.0 in
      let n = r.1.ascending in
      let k = r.1.within in
      let is : map (slice_index points) (places f) ≡ a ∷ b ∷ c ∷ d ∷ [] =
      ap (λ (l : List ℕ). slice_index points (slice_index_or l 0 0) ∷ slice_index points (slice_index_or l 1 0)
      ∷ slice_index points (slice_index_or l 2 0) ∷ slice_index points (slice_index_or l 3 0) ∷ []) r.2
      ∙ (λ i. sym ea i ∷ sym eb i ∷ sym ec i ∷ sym ed i ∷ []) in
      subst (AreAnchors points) is (record {
        a = slice_index points f.first;
        b = slice_index points f.second;
        c = slice_index points f.third;
        d = slice_index points f.fourth;
        are = refl;
        independent = r.1.independent;
        of_set = λ p i. elim i [
          | inl q ↦ subst (λ (x : ℕ). IsIn x points) q (index_in points f.first (omega (arith, n.0, n.1, n.2, k)))
          | inr i ↦ elim i [
            | inl q ↦ subst (λ (x : ℕ). IsIn x points) q (index_in points f.second (omega (arith, n.1, n.2, k)))
            | inr i ↦ elim i [
              | inl q ↦ subst (λ (x : ℕ). IsIn x points) q (index_in points f.third (omega (arith, n.2, k)))
              | inr i ↦ elim i [
                | inl q ↦ subst (λ (x : ℕ). IsIn x points) q (index_in points f.fourth k)
                | inr i ↦ absurd i
              ]
            ]
          ]
        ];
      })

-- ---- four points of a set that grows, or loses a point

-- they are still of a set that has grown
pub anchors_grow : (o : Option (List ℕ)) (s t : List ℕ) → IfSome o (AreAnchors s) → AreOf t s →
    IfSome o (AreAnchors t)
anchors_grow None s t h f = tt
anchors_grow (Some four) s t h f = anchors_of s t four h (λ q i. f q (h.of_set q i))

-- or of one that has lost a point that is none of them
pub anchors_stay : (o : Option (List ℕ)) (s t four : List ℕ) (p : ℕ) → o ≡ Some four → IfSome o (AreAnchors s) →
    is_among p four ≡ false → ((q : ℕ) → IsIn q s → q ≢ p → IsIn q t) → AreAnchors t four
anchors_stay o s t four p e h n f =
    let a = subst (λ (x : Option (List ℕ)). IfSome x (AreAnchors s)) e h in
    anchors_of s t four a
    (λ q i. f q (a.of_set q i) (λ g. not_among four p n (subst (λ (x : ℕ). IsIn x four) g i)))

-- what is found among all points of a set tells whether it is solid
pub all_found : SetLaw → (o : Option (List ℕ)) (all t : List ℕ) → IsAscending t → AreOf t all → AreOf all t →
    MatchOption o (is_solid all ≡ false) (AreAnchors all) → MatchOption o (is_solid t ≡ false) (AreAnchors t)
all_found law None all t a f g h = sym (same_solid law all t a f g) ∙ h
all_found law (Some four) all t a f g h = anchors_of all t four h (λ q i. f q (h.of_set q i))
