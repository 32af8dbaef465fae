use Rattle.std.proofs.Common.{◌∙◌, sym, subst, length}
use Rattle.std.proofs.lemmas.Option.{IfSome_then}
use Rattle.face_list.specs.Gather.{items_from, GathersItems}
use Rattle.face_list.specs.Tables.{IsTable}
use Rattle.face_list.proofs.FaceLists.{items_name}
use Rattle.face_list.proofs.Growing.{gathered_all, gathered_table}
use Rattle.face_list.proofs.beside.table_beside.Goals as goal

pub returns-clause-gathers : goal.returns-clause-gathers
returns-clause-gathers g c =
    let cells = c.args.cells.now in
    let ord = g.met.K.Ord g.world.𝓛 g.world.𝓜 g.world.𝓡 ((λ s x. x), (λ x. x), (λ x. x), λ x. x) in
    IfSome_then c.whole.result c.whole.ensures
    (λ t w. subst (GathersItems g.K.Ord.cmp cells (items_from 0 g.K.Part.parts_of cells)) (sym w.0)
    (gathered_all g.K.Ord.cmp ord.total c.requires.exact cells _ _ c.in_ok-all.all c.in_ok-all.ensures.items
    (w.1 ∙ c.in_ok-room.ensures)))

pub returns-clause-table : goal.returns-clause-table
returns-clause-table g c =
    let cells = c.args.cells.now in
    IfSome_then c.whole.result c.whole.ensures
    (λ t w. subst (IsTable (length cells)) (sym w.0)
    (gathered_table g.K.Ord.cmp cells _ _ c.in_ok-all.all (items_name g.K.Part.parts_of cells)
    c.in_ok-all.ensures.items))
