-- The other cells on a facet, in the list.
use Rattle.std.specs.Prelude.{◌≡◌, ℕ, List, [], ◌++◌, Option, Some}
use Rattle.std.proofs.Common.{ap, append-nil, refl, subst, sym, ◌∙◌}
use Rattle.list_laws.proofs.Cited.{in_left, one_value}
use Rattle.point_order.specs.declared.cell.Cell.{Cell}
use Rattle.point_order.specs.declared.cell.Facet.{Facet}
use Rattle.point_order.specs.Complex.{complex}
use Rattle.point_order.specs.Facets.{facets_of}
use Rattle.point_order.specs.Sets.{IsIn}
use Rattle.del_laws.proofs.Cited.{listed_facets}
use Rattle.hole_laws.specs.Others.{IsOtherOf}
use Rattle.cell_slots.specs.Clouds.{AreCellsOf}
use Rattle.cell_slots.specs.Marked.{IsOtherAt}
use Rattle.cell_slots.specs.Nets.{cells_of_slots, slot_at}
use Rattle.cell_slots.specs.Parts.{AreWithin}
use Rattle.cell_slots.specs.declared.reach.Reach.{Reach}
use Rattle.cell_slots.specs.declared.reach.Reach.TheVariants.{Whole}

-- another cell on a facet in the list is one in the complex
pub other_of : (s : List ℕ) (cells : List Cell) → AreCellsOf s cells → (c : Cell) (f : Facet) (o : Cell) →
    IsOtherOf cells c f o → IsOtherOf (complex s) c f o
other_of s cells k c f o r = record { listed = (k.members o).0 r.listed; has = r.has; differs = r.differs }

-- and there is one
pub some_other : (s : List ℕ) (cells : List Cell) → AreCellsOf s cells → (c : Cell) (f : Facet) → IsIn c cells →
    IsIn f (facets_of c) → (o : Cell) × IsOtherOf cells c f o
some_other s cells k c f m n =
    let o = listed_facets s c f k.solid.set.ascending k.solid.set.keys ((k.members c).0 m) n in
    (o.other, record { listed = (k.members o.other).1 o.listed; has = o.has; differs = o.differs })

-- the cell in the slot of another one is that
pub other_there : (slots : List (Option Cell)) (c : Cell) (f : Facet) (i : ℕ) (q : Cell) → IsOtherAt slots c f i →
    slot_at slots i ≡ Some q → IsOtherOf (cells_of_slots slots) c f q
other_there slots c f i q o e =
    subst (λ (x : Cell). IsOtherOf (cells_of_slots slots) c f x) (one_value o.other q (sym o.at ∙ e)) o.is

-- and it is one in the complex, beside whatever others
pub other_beside : (s : List ℕ) (slots : List (Option Cell)) (others : List Cell) →
    AreCellsOf s (cells_of_slots slots ++ others) → (c : Cell) (f : Facet) (q : Cell) →
    IsOtherOf (cells_of_slots slots) c f q → IsOtherOf (complex s) c f q
other_beside s slots others k c f q o =
    other_of s (cells_of_slots slots ++ others) k c f q (record {
      listed = in_left q (cells_of_slots slots) others o.listed;
      has = o.has;
      differs = o.differs;
    })

-- where the cells are the whole, they are those of the complex
pub all_cells : (reach : Reach) (cells : List Cell) (w : AreWithin reach cells) → reach ≡ Whole → AreCellsOf w.set cells
all_cells reach cells w e =
    subst (AreCellsOf w.set) (ap (λ (o : List Cell). cells ++ o) (w.alone e) ∙ append-nil cells) w.cells_of

-- so there is another cell on each facet
pub whole_other : (reach : Reach) (cells : List Cell) → AreWithin reach cells → (c : Cell) (f : Facet) → IsIn c cells →
    IsIn f (facets_of c) → reach ≡ Whole → (o : Cell) × IsOtherOf cells c f o
whole_other reach cells w c f m n e = some_other w.set cells (all_cells reach cells w e) c f m n

-- a cell is one of the complex
pub within_listed : (reach : Reach) (cells : List Cell) (w : AreWithin reach cells) (c : Cell) → IsIn c cells →
    IsIn c (complex w.set)
within_listed reach cells w c m = (w.cells_of.members c).0 (in_left c cells w.others m)

-- cells that are the whole of a complex
abbrev pub whole_within : (s : List ℕ) (cells : List Cell) → AreCellsOf s cells → AreWithin Whole cells
whole_within s cells k = record {
  others = [];
  set = s;
  cells_of = subst (AreCellsOf s) (sym (append-nil cells)) k;
  alone = λ e. refl;
}
