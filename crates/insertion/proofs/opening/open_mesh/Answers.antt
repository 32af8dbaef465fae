use Rattle.std.proofs.Common.{◌∙◌}
use Rattle.cell_store.proofs.Cited.{history_is}
use Rattle.opening_entries.specs.Opening.{opening_history}
use Rattle.insertion.proofs.OpeningLaws.{apart_by, stands_by}
use Rattle.insertion.proofs.opening.open_mesh.Goals as goal

pub put_cells-requires-clause-distinct : goal.put_cells-requires-clause-distinct
put_cells-requires-clause-distinct c =
    apart_by c.args.four c.index-four-0-2.result c.index-four-1-2.result c.index-four-2-2.result c.index-four-3-2.result
    c.requires

pub into_mesh-requires-clause-stands : goal.into_mesh-requires-clause-stands
into_mesh-requires-clause-stands c = (
  opening_history c.args.four,
  stands_by c.args.grid c.args.four c.index-four-0.result c.index-four-1.result
      c.index-four-2.result c.index-four-3.result c.index-four-0-2.result c.index-four-1-2.result
      c.index-four-2-2.result c.index-four-3-2.result c.in_ok-hold.hold c.note.new.hold c.note-2.new.hold
      c.note-3.new.hold c.note-4.new.hold c.put_cells.new.hold c.requires c.in_ok-note.ensures.key
      c.in_ok-note-2.ensures.key c.in_ok-note-3.ensures.key c.in_ok-note-4.ensures.key c.in_ok-hold.ensures
      c.in_ok-note.ensures.noted c.in_ok-note-2.ensures.noted c.in_ok-note-3.ensures.noted
      c.in_ok-note-4.ensures.noted c.in_ok-put_cells.ensures.cells,
)

pub returns : goal.returns
returns c =
    let st = stands_by c.args.grid c.args.four c.index-four-0.result c.index-four-1.result c.index-four-2.result
    c.index-four-3.result c.index-four-0-2.result c.index-four-1-2.result c.index-four-2-2.result
    c.index-four-3-2.result c.in_ok-hold.hold c.note.new.hold c.note-2.new.hold c.note-3.new.hold c.note-4.new.hold
    c.put_cells.new.hold c.requires c.in_ok-note.ensures.key c.in_ok-note-2.ensures.key c.in_ok-note-3.ensures.key
    c.in_ok-note-4.ensures.key c.in_ok-hold.ensures c.in_ok-note.ensures.noted c.in_ok-note-2.ensures.noted
    c.in_ok-note-3.ensures.noted c.in_ok-note-4.ensures.noted c.in_ok-put_cells.ensures.cells in
    let g = c.in_ok-put_cells.ensures.cells.swapped.grid ∙ c.in_ok-note-4.ensures.noted.grid
    ∙ c.in_ok-note-3.ensures.noted.grid ∙ c.in_ok-note-2.ensures.noted.grid ∙ c.in_ok-note.ensures.noted.grid
    ∙ c.in_ok-hold.ensures.grid in
    c.into_mesh.ensures.mesh ∙ (λ i. record {
      grid = g i;
      history = history_is c.put_cells.new.hold
          (opening_history c.args.four) c.into_mesh.ensures.hold.whole st i;
    })
