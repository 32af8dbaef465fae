-- Cells are taken out of the net: the net and those that are gone have the cells of the complex still.
use Rattle.std.specs.Prelude.{List, [], ◌∷◌, ◌++◌, IfSome, MatchOption, None, Option, Some}
use Rattle.std.proofs.Common.{refl, sym, subst, inl, inr}
use Rattle.list_laws.proofs.Cited.{distinct_push, from_append, in_left, in_right}
use Rattle.point_order.specs.declared.cell.Cell.{Cell}
use Rattle.point_order.specs.declared.cell.Facet.{Facet}
use Rattle.point_order.specs.Sets.{IsIn}
use Rattle.cell_slots.specs.Clouds.{HasOtherIn}
use Rattle.hole_laws.specs.Others.{HaveNoOther, IsOtherOf}
use Rattle.cell_slots.specs.Nets.{AreMoved, IsWithout}
use Rattle.cell_slots.proofs.Cited.{first_distinct, in_two, joined, last_distinct}

-- one more cell is gone
pub taken : (l gone rest : List Cell) (c : Cell) → IsWithout l c rest → AreMoved (l ++ gone) (rest ++ (gone ++ c ∷ []))
taken l gone rest c w = record {
  members = λ q. (
    λ m. elim (from_append q l gone m) [
      | inl j ↦ elim ((w.members q).0 j) [
        | inl r ↦ in_left q rest (gone ++ c ∷ []) r
        | inr e ↦ in_right q rest (gone ++ c ∷ []) (in_right q gone (c ∷ []) (inl e))
      ]
      | inr g ↦ in_right q rest (gone ++ c ∷ []) (in_left q gone (c ∷ []) g)
    ],
    λ m. elim (from_append q rest (gone ++ c ∷ []) m) [
      | inl j ↦ in_left q l gone ((w.members q).1 (inl j))
      | inr j ↦ elim (from_append q gone (c ∷ []) j) [
        | inl g ↦ in_right q l gone g
        | inr e ↦ elim e [ inl f ↦ in_left q l gone ((w.members q).1 (inr f)) | inr none ↦ absurd none ]
      ]
    ],
  );
  once = λ d. (
      let here = (w.members c).1 (inr refl) in
      let o = w.once (first_distinct l gone d) in
      let more = distinct_push gone c (last_distinct l gone d) (λ j. in_two l gone c d here j) in
      joined rest (gone ++ c ∷ []) o.1 more (λ q i j. elim (from_append q gone (c ∷ []) j) [
        | inl g ↦ in_two l gone q d ((w.members q).1 (inl i)) g
        | inr e ↦ elim e [ inl f ↦ o.0 (subst (λ (v : Cell). IsIn v rest) (sym f) i) | inr none ↦ none ]
      ]));
}

-- ---- across a facet

-- another on the facet in one part is so in the whole
pub other_left : (l gone : List Cell) (c : Cell) (f : Facet) (o : Cell) → IsOtherOf l c f o →
    IsOtherOf (l ++ gone) c f o
other_left l gone c f o r = record { listed = in_left o l gone r.listed; has = r.has; differs = r.differs }

-- so is one in the other part
pub other_right : (l gone : List Cell) (c : Cell) (f : Facet) (o : Cell) → IsOtherOf gone c f o →
    IsOtherOf (l ++ gone) c f o
other_right l gone c f o r = record { listed = in_right o l gone r.listed; has = r.has; differs = r.differs }

-- where none is gone, one is in the net
pub other_kept : (l gone : List Cell) (c : Cell) (f : Facet) → HasOtherIn (l ++ gone) c f →
    ((o : Cell) → ¬ (IsOtherOf gone c f o)) → HasOtherIn l c f
other_kept l gone c f h n = (
  h.0,
  elim (from_append h.0 l gone h.1.listed) [
    | inl j ↦ record { listed = j; has = h.1.has; differs = h.1.differs }
    | inr j ↦ absurd (n h.0 (record { listed = j; has = h.1.has; differs = h.1.differs }))
  ],
)

-- one that was found among those that are gone is one of all
pub other_gone : (r : Option Cell) (l gone : List Cell) (c : Cell) (f : Facet) →
    MatchOption r (HaveNoOther gone c f) (λ other. IsOtherOf gone c f other) →
    IfSome r (λ other. IsOtherOf (l ++ gone) c f other)
other_gone None l gone c f h = tt
other_gone (Some o) l gone c f h = other_right l gone c f o h
