use Rattle.std.proofs.Common.{ap}
use Rattle.list_laws.proofs.Cited.{among_from, among_true}
use Rattle.edit_history.specs.Histories.{replay}
use Rattle.mesh_rows.specs.declared.rows.Place.{Place}
use Rattle.mesh_handle.specs.declared.looks.Located.{Located}
use Rattle.mesh_handle.specs.declared.place.Location.TheVariants.{Vertex, Inside}
use Rattle.mesh_handle.proofs.looks.row_at.Goals as goal

-- a point of the mesh
abbrev told : Place → Located
told x = record { kind = 0; a = x; b = x; c = x; d = x }

pub returns-in-None : goal.returns-in-None
returns-in-None c =
    let s = replay c.args.mesh.now in
    (Vertex, among_from c.args.p s (c.locate.ensures.vertex.0 c.in-None.is), ap told c.place_at-here.ensures)

pub returns-in-Some : goal.returns-in-Some
returns-in-Some c =
    let s = replay c.args.mesh.now in (
      Inside c.in-Some.cell,
      (
        (λ i.
            let e = c.locate.ensures.vertex.1 (among_true c.args.p s i) in
            let d = c.in-Some.is in
            absurd (cc (e, d))),
        c.locate.ensures.inside c.in-Some.cell c.in-Some.is,
      ),
      c.cell_at.ensures,
    )
