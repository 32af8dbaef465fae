use Rattle.mesh_rows.proofs.Alphas.{faces_of}
use Rattle.mesh_rows.proofs.parts.part_rows.Goals as goal

pub parts-requires-clause-faces : goal.parts-requires-clause-faces
parts-requires-clause-faces c = (
  c.args.set.now,
  faces_of c.args.set.now c.args.all.now _ c.requires.cloud c.in_ok-faces.ensures.cells
      c.in_ok-faces.ensures.points c.in_ok-faces.ensures.pairs c.in_ok-faces.ensures.triples,
)
