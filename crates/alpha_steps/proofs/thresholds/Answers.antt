use Rattle.std.proofs.Common.{sym, refl}
use Rattle.list_laws.proofs.Cited.{length_zip}
use Rattle.alpha_complex.specs.Judged.{is_admitted_pair, is_admitted_triple, is_small_cell}
use Rattle.alpha_complex.specs.Leasts.{IsLeastOf}
use Rattle.alpha_steps.specs.declared.steps.Thresholds.TheInside.{Inside}
use Rattle.alpha_steps.proofs.Told.{thresholds_are}
use Rattle.alpha_steps.proofs.thresholds.Goals as goal

pub invariant_of-result : goal.invariant_of-result
invariant_of-result g c =
    let known = c.in_ok-known.known in
    let faces = known.faces.now in
    let k = c.in_ok-known.ensures.known in
    record {
      pairs = sym (length_zip (λ x n. IsLeastOf (λ a. is_admitted_pair faces.triples a x) n) faces.pairs
          known.pairs.items k.pairs);
      triples = sym (length_zip (λ x n. IsLeastOf (λ a. is_admitted_triple a x) n) faces.triples
          known.triples.items k.triples);
      cells = sym (length_zip (λ x n. IsLeastOf (λ a. is_small_cell a x) n) faces.cells known.cells.items k.cells);
    }

pub returns : goal.returns
returns g c s h =
    let known = c.in_ok-known.known in
    let list : Inside = record {
      faces = known.faces;
      pairs = known.pairs;
      triples = known.triples;
      cells = known.cells;
    } in
    thresholds_are s c.args.faces.now known list h c.in_ok-known.ensures.faces
    (c.in_ok-known.ensures.told s h) refl refl refl
