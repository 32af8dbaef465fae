use Rattle.std.proofs.Common.{◌∙◌, sym, subst, length, arith}
use Rattle.std.proofs.lemmas.Option.{IfSome_then}
use Rattle.face_list.specs.Gather.{items_from, GathersItems}
use Rattle.face_list.specs.Tables.{IsTable}
use Rattle.face_list.proofs.FaceLists.{items_name}
use Rattle.face_list.proofs.Growing.{gathered_all, gathered_table, gathers_own}
use Rattle.face_list.proofs.around.table_around.Goals as goal

pub add_points-requires-clause-can : goal.add_points-requires-clause-can
add_points-requires-clause-can g c =
    let none = c.in_ok-so_far.ensures c.args.cells.now c.args.points.now (omega arith) in
    let all = c.len.ensures ∙ c.args.points.now.keys.ok.0 in
    let none_yet = none.end in
    record {
      over = c.requires.points;
      so_far = gathers_own g.K.Ord.cmp g.K.Part.parts_of g.K.First.first_of c.args.cells.now c.args.points.now 0 0 _
          none;
      range = omega (arith, none_yet);
      within = omega (arith, all);
    }

pub returns-clause-gathers : goal.returns-clause-gathers
returns-clause-gathers g c =
    let cells = c.args.cells.now in
    IfSome_then c.whole.result c.whole.ensures
    (λ t w. subst (GathersItems g.K.Ord.cmp cells (items_from 0 g.K.Part.parts_of cells)) (sym w.0)
    (gathered_all g.K.Ord.cmp g.met.K.Ord.total c.requires.exact cells _ _ c.in_ok-all.all c.in_ok-all.ensures.items
    (w.1 ∙ c.in_ok-room.ensures)))

pub returns-clause-table : goal.returns-clause-table
returns-clause-table g c =
    let cells = c.args.cells.now in
    IfSome_then c.whole.result c.whole.ensures
    (λ t w. subst (IsTable (length cells)) (sym w.0)
    (gathered_table g.K.Ord.cmp cells _ _ c.in_ok-all.all (items_name g.K.Part.parts_of cells)
    c.in_ok-all.ensures.items))
