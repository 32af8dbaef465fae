-- The link of a triangle is the opposite points of its Full cells.
use Rattle.std.specs.Prelude.{◌≡◌, refl, ℕ, suc, true, not, List, [], ◌∷◌, ◌⊎◌, length}
use Rattle.std.specs.List.{flat_map, list_all}
use Rattle.std.proofs.Common.{arith, inl, inr, sym, subst, ap, ◌∙◌}
use Rattle.list_laws.specs.Lists.{AreDistinct}
use Rattle.list_laws.proofs.Cited.{all_from, among_from, among_true, filtered_from, flat_from, none_in, not_both}
use Rattle.list_laws.proofs.Cited.{not_from}
use Rattle.point_order.specs.declared.cell.Cell.{Cell}
use Rattle.point_order.specs.declared.cell.Cell.TheVariants.{Full, Open}
use Rattle.point_order.specs.Sets.{IsIn, IsAscending, is_among}
use Rattle.point_order.specs.Facets.{points_of}
use Rattle.point_order.specs.Complex.{complex}
use Rattle.del_laws.specs.Keys.{AreKeys}
use Rattle.del_laws.specs.Vertices.{is_full_cell}
use Rattle.del_laws.specs.Listed.{IsListed}
use Rattle.del_laws.proofs.Cited.{listed_is_cell}
use Rattle.face_list.specs.Faces.{cells_with}
use Rattle.gabriel_faces.specs.Links.{link_of}
use Rattle.gabriel_faces.specs.Laws.{OppositePoints}
use Rattle.gabriel_faces.proofs.Corners.{with_one, with_two, with_three}
use Rattle.gabriel_faces.proofs.Links.{triangle_in_link}

-- ---- lists without a member

-- a list that has all members of another but one, and is shorter by one
record Without (l : List ℕ) (a : ℕ) : Type 0 where
  rest : List ℕ
  shorter : suc (length rest) ≡ length l
  all : (p : ℕ) → IsIn p l → (a ≡ p) ⊎ IsIn p rest

-- there is one
without : (l : List ℕ) (a : ℕ) → IsIn a l → Without l a
without [] a m = absurd m
without (x ∷ l) a m = elim m [
  | inl e ↦ record { rest = l; shorter = refl; all = λ p i. elim i [ inl f ↦ inl (sym e ∙ f) | inr r ↦ inr r ] }
  | inr r ↦ (
      let w = without l a r in
      record {
        rest = x ∷ w.rest;
        shorter = ap suc w.shorter;
        all = λ p i. elim i [
          | inl f ↦ inr (inl f)
          | inr j ↦ elim (w.all p j) [ inl f ↦ inl f | inr k ↦ inr (inr k) ]
        ];
      })
]

-- what is a member and is not the one that is left out stays
stays : (l : List ℕ) (a p : ℕ) (w : Without l a) → IsIn p l → ¬ (a ≡ p) → IsIn p w.rest
stays l a p w i n = elim (w.all p i) [ inl e ↦ absurd (n e) | inr r ↦ r ]

-- four different points are not among three
no_fourth : (u v w a b c p : ℕ) → IsIn a (u ∷ v ∷ w ∷ []) → IsIn b (u ∷ v ∷ w ∷ []) → IsIn c (u ∷ v ∷ w ∷ []) →
    IsIn p (u ∷ v ∷ w ∷ []) → ¬ (a ≡ b) → ¬ (a ≡ c) → ¬ (b ≡ c) → ¬ (a ≡ p) → ¬ (b ≡ p) → ¬ (c ≡ p) → ⊥
no_fourth u v w a b c p ma mb mc mp ab ac bc ap_ bp cp =
    let l = u ∷ v ∷ w ∷ [] in
    let x = without l a ma in
    let y = without x.rest b (stays l a b x mb ab) in
    let z = without y.rest c (stays x.rest b c y (stays l a c x mc ac) bc) in
    none_in z.rest p (no_length (length x.rest) (length y.rest) (length z.rest) x.shorter y.shorter z.shorter)
    (stays y.rest c p z (stays x.rest b p y (stays l a p x mp ap_) bp) cp)
  where
    -- three less than three
    no_length : (i j k : ℕ) → suc i ≡ 3 → suc j ≡ i → suc k ≡ j → k ≡ 0
    no_length i j k e f g = omega (arith, e, f, g)

-- ---- the law

module _ (s : List ℕ) (a b c p : ℕ) (i : IsAscending s) (k : AreKeys s) (d : AreDistinct (a ∷ b ∷ c ∷ [])) where
  -- the three differ
  ab : ¬ (a ≡ b)
  ab e = d.0 (inl (sym e))

  -- the first and the last
  ac : ¬ (a ≡ c)
  ac e = d.0 (inr (inl (sym e)))

  -- and the second and the last
  bc : ¬ (b ≡ c)
  bc e = d.1.0 (inl (sym e))

  -- the fourth point of a listed cell
  of_cell : (e : Cell) → IsListed s e → ((x : ℕ) → IsIn x (a ∷ b ∷ c ∷ []) → IsIn x (points_of e)) →
      IsIn p (points_of e) → ¬ (IsIn p (a ∷ b ∷ c ∷ [])) → is_full_cell s a b c p ≡ true
  of_cell (Full q) l f m n =
      let four = l.a ∷ l.b ∷ l.c ∷ l.d ∷ [] in
      let in_four = λ (x : ℕ) (o : IsIn x q). subst (λ (r : List ℕ). IsIn x r) l.is o in
      let A = with_one s l.a l.b l.c l.d a k l.test (in_four a (f a (inl refl))) in
      let B = with_two s four a b k A (in_four b (f b (inr (inl refl)))) ab in
      let C = with_three s four a b c k B (in_four c (f c (inr (inr (inl refl))))) ac bc in
      elim (C.all p (in_four p m)) [
        | inl e ↦ absurd (n (inl e))
        | inr r ↦ elim r [
          | inl e ↦ absurd (n (inr (inl e)))
          | inr u ↦ elim u [
            | inl e ↦ absurd (n (inr (inr (inl e))))
            | inr e ↦ subst (λ x. is_full_cell s a b c x ≡ true) e C.test
          ]
        ]
      ]
  of_cell (Open t) l f m n =
      let in_three = λ (x : ℕ) (o : IsIn x t). subst (λ (r : List ℕ). IsIn x r) l.is o in
      absurd (no_fourth l.a l.b l.c a b c p (in_three a (f a (inl refl))) (in_three b (f b (inr (inl refl))))
      (in_three c (f c (inr (inr (inl refl))))) (in_three p m) ab ac bc
      (λ e. n (inl e)) (λ e. n (inr (inl e))) (λ e. n (inr (inr (inl e)))))

  -- a point of the link is the fourth point of a Full cell
  from_link : IsIn p (link_of (a ∷ b ∷ c ∷ []) (cells_with (a ∷ b ∷ c ∷ []) (complex s))) →
      is_full_cell s a b c p ≡ true
  from_link m =
      let face = a ∷ b ∷ c ∷ [] in
      let j = filtered_from (λ x. not (is_among x face)) (flat_map points_of (cells_with face (complex s))) p m in
      let t = flat_from points_of (cells_with face (complex s)) p j.0 in
      let o = filtered_from (λ e. list_all (λ x. is_among x (points_of e)) face) (complex s) t.0 t.1 in
      of_cell t.0 (listed_is_cell s t.0 i o.0) (λ x y. among_from x (points_of t.0)
      (all_from (λ x. is_among x (points_of t.0)) face o.1 x y)) t.2
      (λ y. not_both (is_among p face) (among_true p face y) (not_from (is_among p face) j.1))

-- the law OppositePoints
pub opposite_points : OppositePoints
opposite_points s a b c p i k d = (from_link s a b c p i k d, triangle_in_link s a b c p i k)
