-- The least facet that is not one of exactly two cells, by the sides of the cells in order.
use Rattle.std.specs.Prelude.{◌≡◌, ◌<◌, refl, true, List, [], ◌∷◌, ◌++◌, None, ◌⊎◌, length}
use Rattle.std.specs.Ordering.{ordering_then, ordering_reverse}
use Rattle.std.specs.List.Sorted.{IsStrictlySortedBy}
use Rattle.std.specs.declared.cmp.Ordering.{Ordering}
use Rattle.std.specs.declared.cmp.Ordering.TheVariants.{Less, Equal, Greater}
use Rattle.std.proofs.Common.{arith, inl, inr, ap, sym, subst, ◌∙◌}
use Rattle.std.proofs.lemmas.Cmp.{nat_list_cmp_total}
use Rattle.list_laws.proofs.Cited.{same_list, from_append, in_right}
use Rattle.list_laws.proofs.Members.{each_by}
use Rattle.point_order.specs.declared.cell.Cell.{Cell}
use Rattle.point_order.specs.declared.cell.Facet.{Facet}
use Rattle.point_order.specs.declared.cell.Facet.TheVariants.{Three, Two}
use Rattle.point_order.specs.CellOrder.{cell_cmp}
use Rattle.point_order.specs.Facets.{facets_of}
use Rattle.point_order.specs.Sets.{IsIn}
use Rattle.point_order.proofs.Cited.{cell_self}
use Rattle.mesh_check.specs.declared.gaps.Side.{Side}
use Rattle.mesh_check.specs.declared.gaps.Part.{Part}
use Rattle.mesh_check.specs.Flaws.{facet_cmp, IsFacet, IsInTwo}
use Rattle.mesh_check.specs.Sides.{side_cmp, AreSidesIn, IsLeastOpenIn, OpenIn, IsPair, IsUnpaired, alone, apart, third}
use Rattle.mesh_check.specs.Sides.{is_in}

-- ---- the order of facets

-- facets that tie are one
pub facet_same : (f g : Facet) → facet_cmp f g ≡ Equal → f ≡ g
facet_same (Three t) (Three u) e = ap Three (same_list t u e)
facet_same (Three t) (Two q) e = cc
facet_same (Two p) (Three u) e = cc
facet_same (Two p) (Two q) e = ap Two (same_list p q e)

-- the other way round the answer is the reverse
pub facet_reverse : (f g : Facet) → facet_cmp f g ≡ ordering_reverse (facet_cmp g f)
facet_reverse (Three t) (Three u) = nat_list_cmp_total.antisymm t u
facet_reverse (Three t) (Two q) = refl
facet_reverse (Two p) (Three u) = refl
facet_reverse (Two p) (Two q) = nat_list_cmp_total.antisymm p q

-- a facet ties with itself
pub facet_self : (f : Facet) → facet_cmp f f ≡ Equal
facet_self f = by (facet_cmp f f) (facet_reverse f f)
  where
    -- by the answer
    by : (o : Ordering) → o ≡ ordering_reverse o → o ≡ Equal
    by Less e = cc
    by Equal e = refl
    by Greater e = cc

-- before what is before
pub facet_before : (f g h : Facet) → facet_cmp f g ≡ Less → facet_cmp g h ≡ Less → facet_cmp f h ≡ Less
facet_before (Three t) (Three u) (Three v) a b = nat_list_cmp_total.trans t u v a b
facet_before (Three t) (Three u) (Two v) a b = refl
facet_before (Three t) (Two u) (Three v) a b = cc
facet_before (Three t) (Two u) (Two v) a b = refl
facet_before (Two t) (Three u) h a b = cc
facet_before (Two t) (Two u) (Three v) a b = cc
facet_before (Two t) (Two u) (Two v) a b = nat_list_cmp_total.trans t u v a b

-- no facet is before itself
not_self : (f : Facet) → facet_cmp f f ≡ Less → ⊥
not_self f e = clash (sym (facet_self f) ∙ e)
  where
    -- two answers
    clash : Equal ≡ Less → ⊥
    clash e = cc

-- of two sides in order the facets are in order, or one
before_or_same : (x y : Side) → side_cmp x y ≡ Less → (facet_cmp x.facet y.facet ≡ Less) ⊎ (x.facet ≡ y.facet)
before_or_same x y e = by (facet_cmp x.facet y.facet) refl e
  where
    -- by the answer on facets
    by : (o : Ordering) → facet_cmp x.facet y.facet ≡ o → ordering_then o (cell_cmp x.cell y.cell) ≡ Less →
        (facet_cmp x.facet y.facet ≡ Less) ⊎ (x.facet ≡ y.facet)
    by Less h k = inl h
    by Equal h k = inr (facet_same x.facet y.facet h)
    by Greater h k = cc

-- and where the facets are one the cells are two
cells_differ : (x y : Side) → side_cmp x y ≡ Less → x.facet ≡ y.facet → ¬ (x.cell ≡ y.cell)
cells_differ x y e f c = by (facet_cmp x.facet y.facet) (cell_cmp x.cell y.cell) (ap (facet_cmp x.facet) (sym f)
    ∙ facet_self x.facet) (ap (cell_cmp x.cell) (sym c) ∙ cell_self x.cell) e
  where
    -- by both answers
    by : (o r : Ordering) → o ≡ Equal → r ≡ Equal → ordering_then o r ≡ Less → ⊥
    by Less r g h k = cc
    by Equal Less g h k = cc
    by Equal Equal g h k = cc
    by Equal Greater g h k = cc
    by Greater r g h k = cc

-- ---- what was met

-- the sides met so far are all before those that are left, and their facets are of two cells
pub record AreMet (l : List Cell) (met rest : List Side) : Type 0 where
  pub two : (x : Side) → IsIn x met → IsInTwo l x.facet
  pub lower : (x y : Side) → IsIn x met → IsIn y rest → facet_cmp x.facet y.facet ≡ Less

-- a side by its facet and its cell
abbrev side : Facet → Cell → Side
side f c = record { facet = f; cell = c }

module _ (part : Part) (l : List Cell) (met rest : List Side) (are : AreSidesIn part l (met ++ rest))
    (m : AreMet l met rest) where
  -- a cell with a facet that is left stands among what is left
  left_side : (x : Side) (c : Cell) → IsIn x rest → IsIn c l → IsIn x.facet (facets_of c) → IsIn (side x.facet c) rest
  left_side x c i j h = elim (from_append (side x.facet c) met rest
      ((are (side x.facet c)).1 (j, h, ((are x).0 (in_right x met rest i)).2))) [
        | inl k ↦ absurd (not_self x.facet (m.lower (side x.facet c) x k i))
        | inr k ↦ k
      ]

  -- a side that is left is one of the cells
  of_cells : (x : Side) → IsIn x rest → IsIn x.cell l × IsIn x.facet (facets_of x.cell) × (is_in part x.facet ≡ true)
  of_cells x i = (are x).0 (in_right x met rest i)

-- ---- a pair

module _ (part : Part) (l : List Cell) (met after : List Side) (x y : Side)
    (are : AreSidesIn part l (met ++ x ∷ y ∷ after)) (m : AreMet l met (x ∷ y ∷ after))
    (sorted : IsStrictlySortedBy side_cmp (x ∷ y ∷ after)) (same : y.facet ≡ x.facet) (off : (z : Side) → IsIn z after →
    facet_cmp x.facet z.facet ≡ Less) where
  -- its facet is one of two cells
  pub pair_two : IsInTwo l x.facet
  unfolding IsStrictlySortedBy
  pair_two =
      let a = of_cells part l met (x ∷ y ∷ after) are m x (inl refl) in
      let b = of_cells part l met (x ∷ y ∷ after) are m y (inr (inl refl)) in
      record {
        first = x.cell;
        second = y.cell;
        differ = cells_differ x y sorted.0.0 (sym same);
        first_listed = a.0;
        second_listed = b.0;
        first_has = a.1;
        second_has = subst (λ f. IsIn f (facets_of y.cell)) same b.1;
        only = λ c j h. elim (left_side part l met (x ∷ y ∷ after) are m x c (inl refl) j h) [
          | inl e ↦ inl (sym (ap (λ (s : Side). s.cell) e))
          | inr r ↦ elim r [
            | inl e ↦ inr (sym (ap (λ (s : Side). s.cell) e))
            | inr i ↦ absurd (not_self x.facet (off (side x.facet c) i))
          ]
        ];
      }

-- ---- the least facet that is open

-- sides in order: a facet that comes later is not before
later : (x : Side) (rest : List Side) (f : Facet) → IsStrictlySortedBy side_cmp (x ∷ rest) → (y : Side) →
    IsIn y (x ∷ rest) → y.facet ≡ f → facet_cmp f x.facet ≡ Less → ⊥
unfolding IsStrictlySortedBy
later x rest f sorted y i e h = elim i [
  | inl q ↦ not_self f (subst (λ v. facet_cmp f v ≡ Less) (ap (λ (s : Side). s.facet) q ∙ e) h)
  | inr j ↦ elim (before_or_same x y (each_by (λ z. side_cmp x z ≡ Less) rest sorted.0 y j)) [
    | inl k ↦ not_self f (facet_before f x.facet f h (subst (λ v. facet_cmp x.facet v ≡ Less) e k))
    | inr k ↦ not_self f (subst (λ v. facet_cmp f v ≡ Less) (k ∙ e) h)
  ]
]

-- ---- a step of the search

-- what was met of all sides, and what is left
pub record HasMet (l : List Cell) (sides rest : List Side) : Type 0 where
  pub met : List Side
  pub is : sides ≡ met ++ rest
  pub are : AreMet l met rest

-- before any
pub none_met : (l : List Cell) (sides : List Side) → HasMet l sides sides
none_met l sides = record { met = []; is = refl; are = record { two = λ x i. absurd i; lower = λ x y i j. absurd i } }

-- in order without the first
pub rest_sorted : (x : Side) (rest : List Side) → IsStrictlySortedBy side_cmp (x ∷ rest) →
    IsStrictlySortedBy side_cmp rest
unfolding IsStrictlySortedBy
rest_sorted x rest s = s.1

-- behind a pair all facets are later
behind_later : (f : Facet) (y : Side) (after : List Side) → IsStrictlySortedBy side_cmp (y ∷ after) → y.facet ≡ f →
    ((z : Side) (r : List Side) → after ≡ z ∷ r → ¬ (z.facet ≡ f)) → (z : Side) → IsIn z after →
    facet_cmp f z.facet ≡ Less
unfolding IsStrictlySortedBy
behind_later f y [] s e n z i = absurd i
behind_later f y (o ∷ r) s e n z i = elim i [
  | inl q ↦ subst (λ (v : Side). facet_cmp f v.facet ≡ Less) q first
  | inr j ↦ elim (before_or_same o z (each_by (λ v. side_cmp o v ≡ Less) r s.1.0 z j)) [
    | inl k ↦ facet_before f o.facet z.facet first k
    | inr k ↦ subst (λ v. facet_cmp f v ≡ Less) k first
  ]
]
  where
    -- the one behind the pair is
    first : facet_cmp f o.facet ≡ Less
    first = elim (before_or_same y o s.0.0) [
      | inl k ↦ subst (λ v. facet_cmp v o.facet ≡ Less) e k
      | inr k ↦ absurd (n o r refl (sym k ∙ e))
    ]

-- two lists behind a third, as one
joined : (m : List Side) (x y : Side) (l : List Side) → m ++ x ∷ y ∷ l ≡ (m ++ x ∷ y ∷ []) ++ l
joined [] x y l = refl
joined (z ∷ m) x y l = ap (λ v. z ∷ v) (joined m x y l)

-- a pair is met
pub one_pair : (part : Part) (l : List Cell) (sides rest others after : List Side) (x : Side) → rest ≡ x ∷ others →
    AreSidesIn part l sides → IsStrictlySortedBy side_cmp rest → HasMet l sides rest → IsPair x.facet others after →
    HasMet l sides after
one_pair part l sides rest others after x e are sorted h p =
    record {
      met = h.met ++ x ∷ p.second ∷ [];
      is =
          h.is ∙ ap (λ v. h.met ++ v) left ∙ joined h.met x p.second after;
      are = record { two = two; lower = lower };
    }
  where
    -- what is left before
    left : rest ≡ x ∷ p.second ∷ after
    left = e ∙ ap (λ (v : List Side). x ∷ v) p.is

    -- in order
    s : IsStrictlySortedBy side_cmp (x ∷ p.second ∷ after)
    s = subst (λ (v : List Side). IsStrictlySortedBy side_cmp v) left sorted

    -- the sides
    a : AreSidesIn part l (h.met ++ x ∷ p.second ∷ after)
    a = subst (λ (v : List Side). AreSidesIn part l v) (h.is ∙ ap (λ v. h.met ++ v) left) are

    -- those met
    m : AreMet l h.met (x ∷ p.second ∷ after)
    m = subst (λ (v : List Side). AreMet l h.met v) left h.are

    -- what is left now is later
    off : (z : Side) → IsIn z after → facet_cmp x.facet z.facet ≡ Less
    off = behind_later x.facet p.second after (rest_sorted x (p.second ∷ after) s) p.same p.apart

    -- the facet is one of two cells
    pair : IsInTwo l x.facet
    pair = pair_two part l h.met after x p.second a m s p.same off

    -- those met and the two
    two : (z : Side) → IsIn z (h.met ++ x ∷ p.second ∷ []) → IsInTwo l z.facet
    two z i = elim (from_append z h.met (x ∷ p.second ∷ []) i) [
      | inl j ↦ m.two z j
      | inr j ↦ elim j [
        | inl q ↦ subst (λ (v : Side). IsInTwo l v.facet) q pair
        | inr r ↦ elim r [
          | inl q ↦ subst (λ v. IsInTwo l v) (sym p.same ∙ ap (λ (v : Side). v.facet) q) pair
          | inr none
              ↦ absurd none
        ]
      ]
    ]

    -- are before what is left
    lower : (z w : Side) → IsIn z (h.met ++ x ∷ p.second ∷ []) → IsIn w after → facet_cmp z.facet w.facet ≡ Less
    lower z w i k = elim (from_append z h.met (x ∷ p.second ∷ []) i) [
      | inl j ↦ m.lower z w j (inr (inr k))
      | inr j ↦ elim j [
        | inl q ↦ subst (λ (v : Side). facet_cmp v.facet w.facet ≡ Less) q (off w k)
        | inr r ↦ elim r [
          | inl q ↦ subst (λ v. facet_cmp v w.facet ≡ Less) (sym p.same ∙ ap (λ (v : Side). v.facet) q)
              (off w k)
          | inr none ↦ absurd none
        ]
      ]
    ]

-- ---- the end of the search

-- all are met
pub all_met : (part : Part) (l : List Cell) (sides rest : List Side) → rest ≡ [] → AreSidesIn part l sides →
    HasMet l sides rest → OpenIn part l None
all_met part l sides rest e are h f i w = elim
    (from_append (side f i.cell) h.met [] (subst (λ (v : List Side). IsIn (side f i.cell) v)
    (h.is ∙ ap (λ v. h.met ++ v) e) ((are (side f i.cell)).1 (i.listed, i.has, w)))) [
      | inl j ↦ h.are.two (side f i.cell) j
      | inr none ↦ absurd none
    ]

-- a facet without a pair is the least that is open
module _ (part : Part) (l : List Cell) (met others : List Side) (x : Side) (are : AreSidesIn part l (met ++ x ∷ others))
    (m : AreMet l met (x ∷ others)) (sorted : IsStrictlySortedBy side_cmp (x ∷ others)) where
  -- it is a facet
  x_facet : IsFacet l x.facet
  x_facet = let a = of_cells part l met (x ∷ others) are m x (inl refl) in
      record { cell = x.cell; listed = a.0; has = a.1 }

  -- each that is before it is one of two cells
  before_two : (g : Facet) → IsFacet l g → is_in part g ≡ true → facet_cmp g x.facet ≡ Less → IsInTwo l g
  before_two g i w h = elim (from_append (side g i.cell) met (x ∷ others) ((are (side g i.cell)).1
      (i.listed, i.has, w))) [
        | inl j ↦ m.two (side g i.cell) j
        | inr j ↦ absurd (later x others g sorted (side g i.cell) j refl h)
      ]

  -- where only the first has the facet it is one of one cell
  only_one : ((z : Side) → IsIn z others → ¬ (z.facet ≡ x.facet)) → IsInTwo l x.facet → ⊥
  only_one n t = t.differ (cell_is t.first t.first_listed t.first_has
      ∙ sym (cell_is t.second t.second_listed t.second_has))
    where
      -- each cell with it is that of the first
      cell_is : (c : Cell) → IsIn c l → IsIn x.facet (facets_of c) → c ≡ x.cell
      cell_is c i h = elim (left_side part l met (x ∷ others) are m x c (inl refl) i h) [
        | inl e ↦ sym (ap (λ (s : Side). s.cell) e)
        | inr j ↦ absurd (n (side x.facet c) j refl)
      ]

  -- and where three have it, one of three
  three_have : (y z : Side) (r : List Side) → others ≡ y ∷ z ∷ r → y.facet ≡ x.facet → z.facet ≡ x.facet →
      IsInTwo l x.facet → ⊥
  unfolding IsStrictlySortedBy
  three_have y z r e fy fz t =
      let s = subst (λ (v : List Side). IsStrictlySortedBy side_cmp (x ∷ v)) e sorted in
      let xy = cells_differ x y s.0.0 (sym fy) in
      let xz = cells_differ x z s.0.1.0 (sym fz) in
      let yz = cells_differ y z s.1.0.0 (fy ∙ sym fz) in
      let o = λ (w : Side) (i : IsIn w (x ∷ others)) (f : w.facet ≡ x.facet). (let a =
      of_cells part l met (x ∷ others) are m w i in t.only w.cell a.0 (subst (λ v. IsIn v (facets_of w.cell)) f a.1)) in
      let iy : IsIn y (x ∷ others) = inr (subst (λ (v : List Side). IsIn y v) (sym e) (inl refl)) in
      let iz : IsIn z (x ∷ others) = inr (subst (λ (v : List Side). IsIn z v) (sym e) (inr (inl refl))) in
      three x.cell y.cell z.cell t.first t.second xy xz yz (o x (inl refl) refl) (o y iy fy) (o z iz fz)
    where
      -- three different ones are not two
      three : (a b c p q : Cell) → ¬ (a ≡ b) → ¬ (a ≡ c) → ¬ (b ≡ c) → (a ≡ p) ⊎ (a ≡ q) → (b ≡ p) ⊎ (b ≡ q) →
          (c ≡ p) ⊎ (c ≡ q) → ⊥
      three a b c p q ab ac bc (inl i) (inl j) k = ab (i ∙ sym j)
      three a b c p q ab ac bc (inl i) (inr j) (inl k) = ac (i ∙ sym k)
      three a b c p q ab ac bc (inl i) (inr j) (inr k) = bc (j ∙ sym k)
      three a b c p q ab ac bc (inr i) (inr j) k = ab (i ∙ sym j)
      three a b c p q ab ac bc (inr i) (inl j) (inr k) = ac (i ∙ sym k)
      three a b c p q ab ac bc (inr i) (inl j) (inl k) = bc (j ∙ sym k)

-- the facet of the next side is later, and so are all behind it
all_later : (f : Facet) (x y : Side) (r : List Side) → IsStrictlySortedBy side_cmp (x ∷ y ∷ r) → x.facet ≡ f →
    ¬ (y.facet ≡ f) → (z : Side) → IsIn z (y ∷ r) → ¬ (z.facet ≡ f)
all_later f x y r s e n z i q = not_self f (subst (λ v. facet_cmp f v ≡ Less) q
    (behind_later f x (y ∷ r) s e (λ w o g h. n (subst (λ (v : Side). v.facet ≡ f) (sym (head_is g)) h)) z i))
  where
    -- the first of two lists that are one
    head_is : {w : Side} {o : List Side} → y ∷ r ≡ w ∷ o → y ≡ w
    head_is g = cc

-- the least open facet
pub least_open : (part : Part) (l : List Cell) (sides rest others : List Side) (x : Side) → rest ≡ x ∷ others →
    AreSidesIn part l sides → IsStrictlySortedBy side_cmp rest → HasMet l sides rest → IsUnpaired x.facet others →
    IsLeastOpenIn part l x.facet
least_open part l sides rest others x e are sorted h u = record {
  is = x_facet part l h.met others x a m s;
  within = (of_cells part l h.met (x ∷ others) a m x (inl refl)).2;
  open_facet = none u;
  least = before_two part l h.met others x a m s;
}
  where
    -- in order
    s : IsStrictlySortedBy side_cmp (x ∷ others)
    s = subst (λ (v : List Side). IsStrictlySortedBy side_cmp v) e sorted

    -- the sides
    a : AreSidesIn part l (h.met ++ x ∷ others)
    a = subst (λ (v : List Side). AreSidesIn part l v) (h.is ∙ ap (λ v. h.met ++ v) e) are

    -- those met
    m : AreMet l h.met (x ∷ others)
    m = subst (λ (v : List Side). AreMet l h.met v) e h.are

    -- it is not one of two
    none : IsUnpaired x.facet others → IsInTwo l x.facet → ⊥
    none (alone q) = only_one part l h.met others x a m s (λ z i. absurd (subst (λ (v : List Side). IsIn z v) q i))
    none (apart y r q n) = only_one part l h.met others x a m s
        (λ z i. all_later x.facet x y r (subst (λ (v : List Side). IsStrictlySortedBy side_cmp (x ∷ v)) q s) refl n z
        (subst (λ (v : List Side). IsIn z v) q i))
    none (third y z r q fy fz) = three_have part l h.met others x a m s y z r q fy fz

-- ---- what is left

-- a list of no length is empty
pub no_length : (l : List Side) → length l ≡ 0 → l ≡ []
no_length [] e = refl
no_length (x ∷ l) e = cc

-- behind a pair it is in order
pub pair_sorted : (rest : List Side) (x : Side) (others after : List Side) → rest ≡ x ∷ others →
    IsStrictlySortedBy side_cmp rest → IsPair x.facet others after → IsStrictlySortedBy side_cmp after
pair_sorted rest x others after e s p =
    rest_sorted p.second after (rest_sorted x (p.second ∷ after)
    (subst (λ (v : List Side). IsStrictlySortedBy side_cmp v) (e ∙ ap (λ (v : List Side). x ∷ v) p.is) s))

-- and shorter
pub pair_shorter : (rest : List Side) (x : Side) (others after : List Side) → rest ≡ x ∷ others →
    IsPair x.facet others after → length after < length rest
pair_shorter rest x others after e p = subst (λ (v : List Side). length after < length v)
    (sym (e ∙ ap (λ (v : List Side). x ∷ v) p.is)) (omega arith)
