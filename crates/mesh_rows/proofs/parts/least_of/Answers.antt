use Rattle.mesh_rows.proofs.Alphas.{faces_of}
use Rattle.mesh_rows.proofs.parts.least_of.Goals as goal

pub least_alpha_alone-requires : goal.least_alpha_alone-requires
least_alpha_alone-requires c = (
  c.requires.0,
  faces_of c.requires.0 c.args.all.now _ c.requires.1 c.in_ok-faces.ensures.cells
      c.in_ok-faces.ensures.points c.in_ok-faces.ensures.pairs c.in_ok-faces.ensures.triples,
)
