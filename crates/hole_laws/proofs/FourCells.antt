-- The complex of four independent points.
use Rattle.std.specs.Prelude.{◌≡◌, refl, ℕ, true, List, [], ◌∷◌}
use Rattle.std.proofs.Common.{inl, inr, ap, sym, subst, ◌∙◌}
use Rattle.point_order.specs.declared.cell.Cell.{Cell}
use Rattle.point_order.specs.declared.cell.Cell.TheVariants.{Full, Open}
use Rattle.point_order.specs.declared.cell.Facet.TheVariants.{Three}
use Rattle.point_order.specs.Complex.{complex}
use Rattle.point_order.specs.Facets.{facets_of}
use Rattle.point_order.specs.Sets.{IsIn, IsAscending}
use Rattle.point_order.specs.Solid.{is_solid}
use Rattle.point_order.specs.Subsets.{subsets}
use Rattle.del_laws.specs.Keys.{AreKeys}
use Rattle.del_laws.specs.Listed.{IsListedFull, IsListedOpen}
use Rattle.del_laws.proofs.Cited.{listed_every_point, listed_facets, listed_inside, listed_is_cell, part_true}
use Rattle.hole_laws.specs.FiveCells.{five_cells, FourHaveFive}

-- the points of a listed Full cell are a part of the set
full_part : (s q : List ℕ) → IsAscending s → IsListedFull s q → IsIn q (subsets 4 s)
full_part s q a l =
    subst (λ (v : List ℕ). IsIn v (subsets 4 s)) (sym l.is)
    (part_true s (l.a ∷ l.b ∷ l.c ∷ l.d ∷ []) a (l.first, (l.second, (l.third, (tt, tt))))
    (λ p i. listed_inside s (Full q) l p (subst (λ (v : List ℕ). IsIn p v) (sym l.is) i)))

-- those of an Open cell too
open_part : (s t : List ℕ) → IsAscending s → IsListedOpen s t → IsIn t (subsets 3 s)
open_part s t a l =
    subst (λ (v : List ℕ). IsIn v (subsets 3 s)) (sym l.is)
    (part_true s (l.a ∷ l.b ∷ l.c ∷ []) a (l.first, (l.second, (tt, tt)))
    (λ p i. listed_inside s (Open t) l p (subst (λ (v : List ℕ). IsIn p v) (sym l.is) i)))

-- a cell of the complex is one of the five
is_of_five : (a b c d : ℕ) → IsAscending (a ∷ b ∷ c ∷ d ∷ []) → (q : Cell) → IsIn q (complex (a ∷ b ∷ c ∷ d ∷ [])) →
    IsIn q (five_cells a b c d)
is_of_five a b c d l (Full q) i =
    elim (full_part (a ∷ b ∷ c ∷ d ∷ []) q l (listed_is_cell (a ∷ b ∷ c ∷ d ∷ []) (Full q) l i)) [
      | inl e ↦ inl (ap Full e)
      | inr none ↦ absurd none
    ]
is_of_five a b c d l (Open t) i =
    elim (open_part (a ∷ b ∷ c ∷ d ∷ []) t l (listed_is_cell (a ∷ b ∷ c ∷ d ∷ []) (Open t) l i)) [
      | inl e ↦ inr (inl (ap Open e))
      | inr r ↦ elim r [
        | inl e ↦ inr (inr (inl (ap Open e)))
        | inr r ↦ elim r [
          | inl e ↦ inr (inr (inr (inl (ap Open e))))
          | inr r ↦ elim r [ inl e ↦ inr (inr (inr (inr (inl (ap Open e))))) | inr none ↦ absurd none ]
        ]
      ]
    ]

-- the Full cell is listed
full_listed : (a b c d : ℕ) → IsAscending (a ∷ b ∷ c ∷ d ∷ []) → AreKeys (a ∷ b ∷ c ∷ d ∷ []) →
    is_solid (a ∷ b ∷ c ∷ d ∷ []) ≡ true → IsIn (Full (a ∷ b ∷ c ∷ d ∷ [])) (complex (a ∷ b ∷ c ∷ d ∷ []))
full_listed a b c d l k v =
    let s = a ∷ b ∷ c ∷ d ∷ [] in
    let h = listed_every_point s a l k v (inl refl) in
    elim (full_part s h.q l (listed_is_cell s (Full h.q) l h.listed)) [
      | inl e ↦ subst (λ (q : List ℕ). IsIn (Full q) (complex s)) (sym e) h.listed
      | inr none ↦ absurd none
    ]

-- an Open cell with a triple for a facet is that of the triple
open_with : (x y z : ℕ) (t : List ℕ) → IsIn (Three t) (facets_of (Open (x ∷ y ∷ z ∷ []))) →
    Open (x ∷ y ∷ z ∷ []) ≡ Open t
open_with x y z t i = elim i [
  | inl e ↦ cc
  | inr i ↦ elim i [
    | inl e ↦ cc
    | inr i ↦ elim i [
      | inl e ↦ cc
      | inr i ↦ elim i [ inl e ↦ cc | inr none ↦ absurd none ]
    ]
  ]
]

-- the other cell on a facet of the Full cell is the Open cell of the facet
on_facet : (a b c d : ℕ) → IsAscending (a ∷ b ∷ c ∷ d ∷ []) → AreKeys (a ∷ b ∷ c ∷ d ∷ []) →
    is_solid (a ∷ b ∷ c ∷ d ∷ []) ≡ true → (t : List ℕ) → IsIn (Three t) (facets_of (Full (a ∷ b ∷ c ∷ d ∷ []))) →
    IsIn (Open t) (complex (a ∷ b ∷ c ∷ d ∷ []))
on_facet a b c d l k v t i =
    let s = a ∷ b ∷ c ∷ d ∷ [] in
    let o = listed_facets s (Full s) (Three t) l k (full_listed a b c d l k v) i in
    by o.other o.differs o.listed o.has (is_of_five a b c d l o.other o.listed)
  where
    by : (q : Cell) → ¬ (q ≡ Full (a ∷ b ∷ c ∷ d ∷ [])) → IsIn q (complex (a ∷ b ∷ c ∷ d ∷ [])) →
        IsIn (Three t) (facets_of q) → IsIn q (five_cells a b c d) → IsIn (Open t) (complex (a ∷ b ∷ c ∷ d ∷ []))
    by q n m h i =
        let s = a ∷ b ∷ c ∷ d ∷ [] in
        let told : (x y z : ℕ) → Open (x ∷ y ∷ z ∷ []) ≡ q → IsIn (Open t) (complex s)
        =
        λ x y z e. subst (λ (r : Cell). IsIn r (complex s)) (sym e
        ∙ open_with x y z t (subst (λ (r : Cell). IsIn (Three t) (facets_of r)) (sym e) h)) m in
        elim i [
          | inl e ↦ absurd (n (sym e))
          | inr i ↦ elim i [
            | inl e ↦ told a b c e
            | inr i ↦ elim i [
              | inl e ↦ told a b d e
              | inr i ↦ elim i [
                | inl e ↦ told a c d e
                | inr i ↦ elim i [ inl e ↦ told b c d e | inr none ↦ absurd none ]
              ]
            ]
          ]
        ]

-- one of the five is a cell of the complex
five_listed : (a b c d : ℕ) → IsAscending (a ∷ b ∷ c ∷ d ∷ []) → AreKeys (a ∷ b ∷ c ∷ d ∷ []) →
    is_solid (a ∷ b ∷ c ∷ d ∷ []) ≡ true → (q : Cell) → IsIn q (five_cells a b c d) →
    IsIn q (complex (a ∷ b ∷ c ∷ d ∷ []))
five_listed a b c d l k v q i =
    let s = a ∷ b ∷ c ∷ d ∷ [] in
    let to : (r : Cell) → IsIn r (complex s) → r ≡ q → IsIn q (complex s) =
    λ r m e. subst (λ (x : Cell). IsIn x (complex s)) e m in
    elim i [
      | inl e ↦ to (Full s) (full_listed a b c d l k v) e
      | inr i ↦ elim i [
        | inl e ↦ to (Open (a ∷ b ∷ c ∷ [])) (on_facet a b c d l k v (a ∷ b ∷ c ∷ []) (inr (inr (inr (inl refl))))) e
        | inr i ↦ elim i [
          | inl e ↦ to (Open (a ∷ b ∷ d ∷ [])) (on_facet a b c d l k v (a ∷ b ∷ d ∷ []) (inr (inr (inl refl)))) e
          | inr i ↦ elim i [
            | inl e ↦ to (Open (a ∷ c ∷ d ∷ [])) (on_facet a b c d l k v (a ∷ c ∷ d ∷ []) (inr (inl refl))) e
            | inr i ↦ elim i [
              | inl e ↦ to (Open (b ∷ c ∷ d ∷ [])) (on_facet a b c d l k v (b ∷ c ∷ d ∷ []) (inl refl)) e
              | inr none ↦ absurd none
            ]
          ]
        ]
      ]
    ]

-- so the complex of four independent points has just these five cells
pub four_have_five : FourHaveFive
four_have_five a b c d l k v q = (is_of_five a b c d l q, five_listed a b c d l k v q)
