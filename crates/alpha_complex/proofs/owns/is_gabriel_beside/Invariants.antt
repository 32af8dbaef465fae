-- the cells that are left decide
use Rattle.std.proofs.Common.{◌≡◌, drop}
use Rattle.face_list.specs.Tables.{cells_numbered}
use Rattle.gabriel_faces.specs.Gabriel.{is_gabriel}
use Rattle.gabriel_faces.specs.Links.{link_of}
use Rattle.alpha_complex.proofs.owns.is_gabriel_beside.Given as goal

abbrev pub invariant-loop-number : goal.invariant-loop-number
invariant-loop-number l =
    is_gabriel (link_of l.face (cells_numbered l.cells (drop l.number-index l.around))) l.face ≡ is_gabriel
    (link_of l.face (cells_numbered l.cells l.around)) l.face
