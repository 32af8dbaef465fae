-- A list of empty cells in which every facet lies in a second one is the complex.
use Rattle.std.specs.Prelude.{◌≡◌, ℕ, Bool, true, List, [], ◌∷◌}
use Rattle.std.proofs.Common.{inl, inr, ap, sym, subst, ◌∙◌}
use Rattle.list_laws.proofs.Cited.{either, holds_true, lists_discrete, moved, true_if, true_if_yes}
use Rattle.point_order.specs.declared.cell.Cell.{Cell}
use Rattle.point_order.specs.declared.cell.Cell.TheVariants.{Full, Open}
use Rattle.point_order.specs.declared.cell.Facet.TheVariants.{Three}
use Rattle.point_order.specs.Sets.{IsIn, IsAscending}
use Rattle.point_order.specs.Complex.{complex}
use Rattle.point_order.specs.Solid.{is_solid}
use Rattle.del_laws.specs.Cells.{point, far}
use Rattle.del_laws.specs.Keys.{AreKeys}
use Rattle.del_laws.specs.Listed.{IsListed, cell_of}
use Rattle.del_laws.specs.ListedParts.{IsClosedListed, IsClosedList, ClosedListIsComplex, ComplexIsClosedList}
use Rattle.del_laws.proofs.CellFacts.{full_solid}
use Rattle.del_laws.proofs.Across.{across_open}
use Rattle.del_laws.proofs.Existence.{exists_full}
use Rattle.del_laws.proofs.Perturbed.{no_ties}
use Rattle.del_laws.proofs.Bools.{cell_true, cell_from}
use Rattle.del_laws.proofs.PointSets.{solid_from, solid_true}
use Rattle.del_laws.proofs.Listed.{listed_is_cell, cell_is_listed, same_full, same_open, not_both_kinds}
use Rattle.del_laws.proofs.Ordered.{complex_is_sorted, same_members}
use Rattle.del_laws.proofs.Sorting.{test_is_listed}
use Rattle.del_laws.proofs.Neighbours.{listed_facets}
use Rattle.del_laws.proofs.ListedParts.{listed_part}

-- ---- whether a cell is in a list

-- whether two cells are one
cells_discrete : (c d : Cell) → Dec (c ≡ d)
cells_discrete (Full q) (Full r) = moved (λ e. ap Full e) (λ e. same_full q r e) (lists_discrete q r)
cells_discrete (Full q) (Open r) = no (λ e. not_both_kinds q r e)
cells_discrete (Open q) (Full r) = no (λ e. not_both_kinds r q (sym e))
cells_discrete (Open q) (Open r) = moved (λ e. ap Open e) (λ e. same_open q r e) (lists_discrete q r)

-- whether a cell is in a list
in_cells : (c : Cell) (l : List Cell) → Dec (IsIn c l)
in_cells c [] = no (λ m. m)
in_cells c (x ∷ l) = either (cells_discrete x c) (in_cells c l)

-- ---- solid

-- a set with a cell is solid
solid_listed : (s : List ℕ) (c : Cell) → IsListed s c → is_solid s ≡ true
solid_listed s (Full q) l = elim (cell_from s (point l.a) (point l.b) (point l.c) (point l.d) l.test) [
  | inl F ↦ solid_true s (full_solid F)
  | inr F ↦ solid_true s (full_solid F)
]
solid_listed s (Open q) l = elim (cell_from s (point l.a) (point l.b) (point l.c) far l.test) [
  | inl F ↦ solid_true s (full_solid (across_open F).1)
  | inr F ↦ solid_true s (full_solid (across_open F).1)
]

-- ---- the law

-- whether a cell is in the list, as a test
abbrev is_listed : List Cell → Cell → Bool
is_listed l c = true_if (in_cells c l)

-- the members are closed across triples
members_closed : (s : List ℕ) (l : List Cell) → IsAscending s → AreKeys s → IsClosedList s l →
    IsClosedListed s [] (is_listed l)
members_closed s l a k r c d t i mc md fc fd h =
    let n = listed_facets s c (Three t) a k mc fc in
    let mcl = holds_true (in_cells c l) h in
    let e = r.closed c (Three t) mcl fc in
    true_if_yes (in_cells d l) (elim (n.only d md fd) [
      | inl q ↦ subst (λ v. IsIn v l) (sym q) mcl
      | inr q ↦ elim (n.only e.second (cell_is_listed s e.second a (r.empty e.second e.listed)) e.has) [
        | inl p ↦ absurd (e.differs p)
        | inr p ↦ subst (λ v. IsIn v l) (p ∙ sym q) e.listed
      ]
    ])

-- such a list is the complex
pub closed_list_is_complex : ClosedListIsComplex
closed_list_is_complex s l a k r = (
  same_members l (complex s) r.sorted (complex_is_sorted s a)
      (λ c m. cell_is_listed s c a (r.empty c m))
      (λ c m. holds_true (in_cells c l) (listed_part s (is_listed l) a k (members_closed s l a k r) r.some
      (cell_is_listed s r.some a (r.empty r.some r.has_some)) (true_if_yes (in_cells r.some l) r.has_some) c m)),
  solid_listed s r.some (r.empty r.some r.has_some),
)

-- and the complex of a solid set is such a list
pub complex_is_closed_list : ComplexIsClosedList
complex_is_closed_list s a k i =
    let F = exists_full (no_ties s k) (solid_from s i) in
    let f = F.f in
    record {
      sorted = complex_is_sorted s a;
      some = cell_of (point f.a) (point f.b) (point f.c) (point f.d);
      has_some = test_is_listed s a k (point f.a) (point f.b) (point f.c) (point f.d)
          (cell_true s k (point f.a) (point f.b) (point f.c) (point f.d) (inl F.full));
      empty = λ c m. listed_is_cell s c a m;
      closed = λ c f' m i'. (let n = listed_facets s c f' a k m i' in
          record { second = n.other; differs = n.differs; listed = n.listed; has = n.has });
    }
