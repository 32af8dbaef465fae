-- The list grows by the points one after another, to the complex of them all.
use Rattle.std.specs.Prelude.{◌≡◌, ℕ, ◌+◌, ◌<◌, ◌≤◌, false, List, [], ◌∷◌, ◌++◌, ◌⊎◌, length, map, take, Option, None}
use Rattle.std.specs.Prelude.{Some, IfSome, slice_index, slice_index_or, nat_eq}
use Rattle.std.specs.Option.{option_map}
use Rattle.std.specs.List.{IsDistinct}
use Rattle.std.specs.List.Sorted.{IsPermutation, IsStrictlySortedBy}
use Rattle.std.proofs.Common.{refl, inl, inr, sym, subst, ap₂, arith, eq-eqb, ne_eqb, ◌∙◌}
use Rattle.std.proofs.lemmas.Bool.Decides.{nat_tests}
use Rattle.std.proofs.lemmas.Map.Keys.{IsDistinct-IsPermutation}
use Rattle.std.proofs.lemmas.List.{length-append, length-map, take_all}
use Rattle.list_laws.specs.Lists.{AreDistinct}
use Rattle.list_laws.proofs.Cited.{all_by, distinct_ascending, distinct_push, each_by, from_append, in_left, in_moved}
use Rattle.list_laws.proofs.Cited.{in_permutation, in_right, index_in, not_both, one_value, rises, same_members}
use Rattle.list_laws.proofs.Cited.{take_next}
use Rattle.point_order.specs.declared.cell.Cell.{Cell}
use Rattle.point_order.specs.CellOrder.{cell_cmp, AreSameCells}
use Rattle.point_order.specs.Complex.{complex}
use Rattle.point_order.specs.Coordinates.{IsKey}
use Rattle.point_order.specs.Orientation.{is_flat}
use Rattle.point_order.specs.Sets.{IsIn, IsAscending}
use Rattle.edit_history.specs.Opening.{opening_four, FourPlaces}
use Rattle.edit_history.specs.OneThread.{places}
use Rattle.edit_history.specs.Laws.{AreIndependent}
use Rattle.edit_history.proofs.Cited.{four_law}
use Rattle.del_laws.proofs.Cited.{complex_is_sorted, same_members as same_cells}
use Rattle.point_order.specs.declared.cell.Cell.TheVariants.{Full, Open}
use Rattle.cell_slots.specs.Clouds.{AreCellsOf}
use Rattle.cell_slots.specs.Nets.{AreAllIn, cells_of_slots}
use Rattle.cell_slots.specs.Parts.{AreNew, AreOthers}
use Rattle.cell_slots.proofs.Cited.{first_distinct, in_two, HasPut}

-- the four and the others come to the set of all points
pub grown_set : (points turns four : List ℕ) (cells : List Cell) → IsAscending points → AreOthers four points turns →
    ((q : ℕ) → IsIn q four → IsIn q points) → HasPut four turns [] cells → AreCellsOf points cells
grown_set points turns four cells a o among g =
    let e : g.set ≡ points = same_members g.set points g.cells_of.solid.set.ascending a
    (λ q m. elim ((g.points_are q).2 m) [ inl j ↦ among q j | inr j ↦ (o.each q j).0 ])
    (λ q m. elim (o.all q m) [
      | inl j ↦ (g.points_are q).0 j
      | inr j ↦ elim ((g.points_are q).1 j) [ inl k ↦ k | inr none ↦ absurd none ]
    ]) in
    subst (λ (v : List ℕ). AreCellsOf v cells) e g.cells_of

-- the others are new to the four
pub others_new : (points turns four : List ℕ) → IsAscending points → AreOthers four points turns → AreNew four turns
others_new points turns four a o = record {
  each = λ q i. record { key = (o.each q i).2; absent = (o.each q i).1 };
  once = o.once (distinct_ascending points a);
}

module _ (four points others : List ℕ) (i p : ℕ) (l : i < length points) (e : p ≡ slice_index_or points i p)
    (o : AreOthers four (take i points) others) where
  -- a point more that is one of the four
  pub others_same : IsIn p four → AreOthers four (take (i + 1) points) others
  others_same h = subst (λ (v : List ℕ). AreOthers four v others) (sym (take_next points i p l e)) (record {
    all = λ q m. elim (from_append q (take i points) (p ∷ []) m) [
      | inl j ↦ o.all q j
      | inr j ↦ elim j [ inl f ↦ inl (subst (λ (v : ℕ). IsIn v four) f h) | inr none ↦ absurd none ]
    ];
    each = λ q m. (let r = o.each q m in (in_left q (take i points) (p ∷ []) r.0, r.1, r.2));
    once = λ d. o.once (first_distinct (take i points) (p ∷ []) d);
  })

  -- and one that is none of them
  pub others_more : ¬ (IsIn p four) → IsKey p → AreOthers four (take (i + 1) points) (others ++ p ∷ [])
  others_more n k = subst (λ (v : List ℕ). AreOthers four v (others ++ p ∷ []))
      (sym (take_next points i p l e)) (record {
        all = λ q m. elim (from_append q (take i points) (p ∷ []) m) [
          | inl j ↦ elim (o.all q j) [ inl f ↦ inl f | inr f ↦ inr (in_left q others (p ∷ []) f) ]
          | inr j ↦ inr (in_right q others (p ∷ []) j)
        ];
        each = λ q m. elim (from_append q others (p ∷ []) m) [
          | inl j ↦ (let r = o.each q j in (in_left q (take i points) (p ∷ []) r.0, r.1, r.2))
          | inr j ↦ elim j [
            | inl f ↦ (
              in_right q (take i points) (p ∷ []) (inl f),
              λ g. n (subst (λ (v : ℕ). IsIn v four) (sym f) g),
              subst IsKey f k,
            )
            | inr none ↦ absurd none
          ]
        ];
        once = λ d. distinct_push others p (o.once (first_distinct (take i points) (p ∷ []) d))
            (λ m. in_two (take i points) (p ∷ []) p d (o.each p m).0 (inl refl));
      })

-- all points were gone through
pub others_all : (four points others : List ℕ) (i : ℕ) → length points ≤ i → AreOthers four (take i points) others →
    AreOthers four points others
others_all four points others i l o = subst (λ (v : List ℕ). AreOthers four v others) (take_all i points l) o

-- in order they are the complex
pub sorted_all : (points : List ℕ) (cells out : List Cell) → IsAscending points → AreCellsOf points cells →
    IsStrictlySortedBy cell_cmp out → AreSameCells cells out → out ≡ complex points
sorted_all points cells out a k sorted same =
    same_cells out (complex points) sorted (complex_is_sorted points a)
    (λ c m. (k.members c).0 (same.1 c m)) (λ c m. same.0 c ((k.members c).1 m))

-- ---- lists that have all cells

-- a list without a member of it
abbrev rest : {X : Type 0} (m : X) (l : List X) → IsIn m l → List X
rest m [] i = absurd i
rest m (y ∷ l) (inl e) = l
rest m (y ∷ l) (inr i) = y ∷ rest m l i

-- is shorter by one
rest_length : {X : Type 0} (m : X) (l : List X) (i : IsIn m l) → length l ≡ length (rest m l i) + 1
rest_length m [] i = absurd i
rest_length m (y ∷ l) (inl e) = omega arith
rest_length m (y ∷ l) (inr i) = omega (arith, rest_length m l i)

-- and has the others
rest_has : {X : Type 0} (x m : X) (l : List X) (i : IsIn m l) → IsIn x l → (m ≡ x) ⊎ IsIn x (rest m l i)
rest_has x m [] i j = absurd i
rest_has x m (y ∷ l) (inl e) (inl f) = inl (sym e ∙ f)
rest_has x m (y ∷ l) (inl e) (inr j) = inr j
rest_has x m (y ∷ l) (inr i) (inl f) = inr (inl f)
rest_has x m (y ∷ l) (inr i) (inr j) = elim (rest_has x m l i j) [ inl g ↦ inl g | inr k ↦ inr (inr k) ]

-- as many different members of a list as it is long are all of it
all_there : {X : Type 0} (m l : List X) → AreDistinct m → ((x : X) → IsIn x m → IsIn x l) → length l ≤ length m →
    (x : X) → IsIn x l → IsIn x m
all_there [] [] d f n x i = absurd i
all_there [] (y ∷ l) d f n x i = absurd (omega (arith, n))
all_there (a ∷ m) l d f n x i = elim (rest_has x a l (f a (inl refl)) i) [
  | inl e ↦ inl e
  | inr j ↦ inr (all_there m (rest a l (f a (inl refl))) d.1
      (λ z k. elim (rest_has z a l (f a (inl refl)) (f z (inr k))) [
        | inl e ↦ absurd (d.0 (subst (λ v. IsIn v m) (sym e) k))
        | inr h ↦ h
      ]) (let r = rest_length a l (f a (inl refl)) in omega (arith, n, r)) x j)
]

-- lists in order that have the cells of a set and no more are its complex
pub all_listed : (points : List ℕ) (slots : List (Option Cell)) (cells hull : List (List ℕ)) → IsAscending points →
    AreCellsOf points (cells_of_slots slots) → IsStrictlySortedBy cell_cmp (map Full cells ++ map Open hull) →
    AreAllIn slots cells hull → map Full cells ++ map Open hull ≡ complex points
all_listed points slots cells hull a k sorted all =
    let l = map Full cells ++ map Open hull in
    let n : length l ≡ length cells + length hull = length-append (map Full cells) (map Open hull)
    ∙ ap₂ (λ (x y : ℕ). x + y) (length-map cells Full) (length-map hull Open) in
    let few : length l ≤ length (cells_of_slots slots) = (let c = all.count in omega (arith, n, c)) in
    same_cells l (complex points) sorted (complex_is_sorted points a)
    (λ c m. (k.members c).0 (all_there (cells_of_slots slots) l k.once all.among few c m))
    (λ c m. all.among c ((k.members c).1 m))

-- ---- the order of the points

-- two numbers are the same either way round
flips : (a b : ℕ) → nat_eq a b ≡ nat_eq b a
flips a b = grind (arith, nat_tests)

-- members that stand once, as std says it
heard : (l : List ℕ) → IsDistinct nat_eq l → AreDistinct l
unfolding IsDistinct
heard [] d = tt
heard (x ∷ l) d = (
  λ m. not_both (nat_eq x x) (eq-eqb x x refl) (each_by (λ y. nat_eq x y ≡ false) l d.0 x m),
  heard l d.1,
)

-- and as we say it
told : (l : List ℕ) → AreDistinct l → IsDistinct nat_eq l
unfolding IsDistinct
told [] d = tt
told (x ∷ l) d = (
  all_by (λ y. nat_eq x y ≡ false) l (λ y m. ne_eqb x y (λ e. d.0 (subst (λ (v : ℕ). IsIn v l) (sym e) m))),
  told l d.1,
)

-- in another order they are the same
pub others_moved : (four points others turns : List ℕ) → IsPermutation others turns → AreOthers four points others →
    AreOthers four points turns
others_moved four points others turns m o = record {
  all = λ q i. elim (o.all q i) [ inl j ↦ inl j | inr j ↦ inr (in_permutation others turns q m j) ];
  each = λ q i. o.each q (in_moved others turns q m i);
  once = λ d. heard turns (IsDistinct-IsPermutation nat_eq flips others turns m (told others (o.once d)));
}

-- ---- the opening four

-- four places in an ascending list, of independent points
pub record AreFound (points four : List ℕ) : Type 0 where
  pub first : slice_index_or four 0 0 < slice_index_or four 1 0
  pub second : slice_index_or four 1 0 < slice_index_or four 2 0
  pub third : slice_index_or four 2 0 < slice_index_or four 3 0
  pub fourth : slice_index_or four 3 0 < length points
  pub independent :
      is_flat (slice_index points (slice_index_or four 0 0)) (slice_index points (slice_index_or four 1 0))
      (slice_index points (slice_index_or four 2 0)) (slice_index points (slice_index_or four 3 0)) ≡ false

-- so are those of the opening four
pub four_found : (points four : List ℕ) → option_map places (opening_four points) ≡ Some four → AreFound points four
four_found points four e = by (opening_four points) (four_law points) e
  where
    by : (o : Option FourPlaces) → IfSome o (AreIndependent points) → option_map places o ≡ Some four →
        AreFound points four
    by None i e = absurd (cc e)
    by (Some f) i e = subst (AreFound points) (one_value (places f) four e) (record {
      first = i.ascending.0;
      second = i.ascending.1;
      third = i.ascending.2;
      fourth = i.within;
      independent = i.independent;
    })

-- points at such places ascend
pub in_order : (points : List ℕ) (i j : ℕ) → IsAscending points → i < j → j < length points →
    slice_index points i < slice_index points j
in_order points i j a h l = rises points i j 0 a h l

-- and are among the points
pub found_among : (points four : List ℕ) → AreFound points four → (q : ℕ) →
    IsIn q (slice_index points (slice_index_or four 0 0) ∷ slice_index points (slice_index_or four 1 0) ∷ slice_index
    points (slice_index_or four 2 0) ∷ slice_index points (slice_index_or four 3 0) ∷ []) → IsIn q points
found_among points four f q i =
    let to : (k : ℕ) → k < length points → slice_index points k ≡ q → IsIn q points =
    λ k l e. subst (λ (m : ℕ). IsIn m points) e (index_in points k l) in
    elim i [
      | inl e ↦ to (slice_index_or four 0 0) (omega (arith, f.first, f.second, f.third, f.fourth)) e
      | inr i ↦ elim i [
        | inl e ↦ to (slice_index_or four 1 0) (omega (arith, f.second, f.third, f.fourth)) e
        | inr i ↦ elim i [
          | inl e ↦ to (slice_index_or four 2 0) (omega (arith, f.third, f.fourth)) e
          | inr i ↦ elim i [ inl e ↦ to (slice_index_or four 3 0) f.fourth e | inr none ↦ absurd none ]
        ]
      ]
    ]
