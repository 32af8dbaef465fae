use Rattle.std.proofs.Common.{refl}
use Rattle.alpha_complex.proofs.Shaped.{triples_ordered}
use Rattle.alpha_complex.proofs.Told.{tells_faces}
use Rattle.alpha_complex.proofs.alphas_alone.Goals as goal

pub leasts_of_pairs-requires-clause-order : goal.leasts_of_pairs-requires-clause-order
leasts_of_pairs-requires-clause-order c = triples_ordered c.args.faces.now c.requires

pub returns-clause-told : goal.returns-clause-told
returns-clause-told c s h =
    tells_faces s c.args.faces.now _ h refl (record {
      pairs = c.in_ok-pairs.ensures;
      triples = c.in_ok-triples.ensures;
      cells = rw c.cells.ensures at c.in_ok-cells.ensures;
    })
