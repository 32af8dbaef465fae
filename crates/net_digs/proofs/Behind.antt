-- The cells behind the facets of some cells.
use Rattle.std.specs.Prelude.{◌≡◌, ℕ, ◌+◌, ◌<◌, List, [], ◌∷◌, ◌++◌, length, take, slice_index_or}
use Rattle.std.proofs.Common.{sym, subst, inl, inr}
use Rattle.list_laws.proofs.Cited.{in_snoc, in_take_more, snoc_new, snoc_old}
use Rattle.point_order.specs.declared.cell.Cell.{Cell}
use Rattle.point_order.specs.declared.cell.Facet.{Facet}
use Rattle.point_order.specs.Facets.{facets_of}
use Rattle.point_order.specs.Complex.{complex}
use Rattle.point_order.specs.Sets.{IsIn}
use Rattle.hole_laws.specs.Edits.{IsSet}
use Rattle.hole_laws.specs.Others.{IsOtherOf}
use Rattle.hole_laws.proofs.Cited.{one_of_two}
use Rattle.cell_slots.specs.Stars.{AreBehind, AreBehindAll}

-- one facet more
pub behind_more : (s : List ℕ) → IsSet s → (here other : Cell) (facets : List Facet) (n : ℕ) (f : Facet)
    (old new : List Cell) → IsIn here (complex s) → IsIn f (facets_of here) → n < length facets →
    f ≡ slice_index_or facets n f → IsOtherOf (complex s) here f other →
    AreBehind s here (take n facets) old new → AreBehind s here (take (n + 1) facets) old (new ++ other ∷ [])
behind_more s i here other facets n f old new mh mf h at o k = record {
  kept = λ c m. snoc_old new other c (k.kept c m);
  listed = λ c m. elim (in_snoc new other c m) [
    | inl j ↦ k.listed c j
    | inr e ↦ inr (subst (λ (q : Cell). IsIn q (complex s)) e o.listed)
  ];
  across = λ g c m r. elim (in_take_more facets n f g h at m) [
    | inl j ↦ snoc_old new other c (k.across g c j r)
    | inr e ↦ (let r' = subst (λ (x : Facet). IsOtherOf (complex s) here x c) (sym e) r in
        elim (one_of_two s i f here other c mh mf o.listed o.has o.differs r'.listed r'.has) [
          | inl d ↦ absurd (r.differs (sym d))
          | inr d ↦ subst (λ (q : Cell). IsIn q (new ++ other ∷ [])) d (snoc_new new other)
        ])
  ];
}

-- none of the cells was looked behind yet
pub behind_no_cell : (s : List ℕ) (old : List Cell) → AreBehindAll s [] old old
behind_no_cell s old = record { kept = λ c m. m; listed = λ c m. inl m; across = λ here f c m n o. absurd m }

-- one cell more
pub behind_next : (s : List ℕ) (here : Cell) (cells : List Cell) (n : ℕ) (old mid new : List Cell) →
    n < length cells → here ≡ slice_index_or cells n here → AreBehindAll s (take n cells) old mid →
    AreBehind s here (facets_of here) mid new → AreBehindAll s (take (n + 1) cells) old new
behind_next s here cells n old mid new h at k b = record {
  kept = λ c m. b.kept c (k.kept c m);
  listed = λ c m. elim (b.listed c m) [ inl j ↦ k.listed c j | inr j ↦ inr j ];
  across = λ q f c m mf o. elim (in_take_more cells n here q h at m) [
    | inl j ↦ b.kept c (k.across q f c j mf o)
    | inr e ↦ b.across f c (subst (λ (x : Cell). IsIn f (facets_of x)) (sym e) mf)
        (subst (λ (x : Cell). IsOtherOf (complex s) x f c) (sym e) o)
  ];
}
