use Rattle.std.proofs.Common.{subst, sym, ℕ, List}
use Rattle.std.specs.Ordering.{nat_cmp}
use Rattle.std.proofs.lemmas.Map.Lookups.{exact_unsigned}
use Rattle.point_order.specs.Facets.{points_of}
use Rattle.face_list.specs.Gather.{AreItems, GathersItems}
use Rattle.face_list.proofs.FaceLists.{items_name, points_gathered}
use Rattle.face_list.proofs.lists.point_table.Goals as goal

pub gather-requires-clause-exact : goal.gather-requires-clause-exact
gather-requires-clause-exact g c κs l = exact_unsigned

pub gather-requires-clause-numbers : goal.gather-requires-clause-numbers
gather-requires-clause-numbers g c κs l = subst (AreItems _) (sym c.in_ok-items.ensures.items)
    (items_name points_of c.args.cells.now)

pub returns-clause-faces : goal.returns-clause-faces
returns-clause-faces g c = points_gathered c.args.cells.now c.in_ok-table.table c.in_ok-items.ensures.ascending
    (subst (λ (l : List (ℕ × ℕ)). GathersItems nat_cmp c.args.cells.now l c.in_ok-table.table)
    c.in_ok-items.ensures.items c.in_ok-table.ensures.gathers)

pub returns-clause-table : goal.returns-clause-table
returns-clause-table g c = record {
  few = c.requires;
  ascending = c.in_ok-items.ensures.ascending;
  table = c.in_ok-table.ensures.table;
  order = c.in_ok-table.ensures.gathers.keys_order;
}
