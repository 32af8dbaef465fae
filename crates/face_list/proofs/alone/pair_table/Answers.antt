use Rattle.std.proofs.Common.{subst, sym, ℕ, List}
use Rattle.std.specs.Ordering.{nat_cmp}
use Rattle.std.specs.Cmp.Lexicographic.{slice_cmp}
use Rattle.point_order.specs.Subsets.{subsets}
use Rattle.std.proofs.lemmas.Map.Lookups.{exact_bytes}
use Rattle.std.proofs.lemmas.Result.{IfOk-weaker}
use Rattle.point_order.specs.Facets.{points_of}
use Rattle.face_list.specs.Gather.{AreItems, GathersItems}
use Rattle.face_list.proofs.FaceLists.{items_name, parts_gathered}
use Rattle.face_list.proofs.alone.pair_table.Goals as goal

pub gather-requires-clause-exact : goal.gather-requires-clause-exact
gather-requires-clause-exact c = exact_bytes

pub gather-requires-clause-numbers : goal.gather-requires-clause-numbers
gather-requires-clause-numbers c = subst (AreItems _) (sym c.in_ok-items-in-None.ensures)
    (items_name (λ c. subsets 2 (points_of c)) c.args.cells.now)

pub table_around-requires-clause-exact : goal.table_around-requires-clause-exact
table_around-requires-clause-exact c = exact_bytes

pub returns-in-Some-clause-faces : goal.returns-in-Some-clause-faces
returns-in-Some-clause-faces c = parts_gathered 2 c.args.cells.now c.in-Some.table c.requires.ascending
    (rw c.in-Some.is at c.in_ok-table.ensures.gathers)

pub returns-in_ok-items-in-None-clause-faces : goal.returns-in_ok-items-in-None-clause-faces
returns-in_ok-items-in-None-clause-faces c = IfOk-weaker c.gather.result _ _
    (λ t g. parts_gathered 2 c.args.cells.now t c.requires.ascending
    (subst (λ (l : List (List ℕ × ℕ)). GathersItems (slice_cmp nat_cmp) c.args.cells.now l t)
    c.in_ok-items-in-None.ensures
    g)) c.gather.ensures.gathers
