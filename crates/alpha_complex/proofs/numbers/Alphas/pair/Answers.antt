use Rattle.std.proofs.Common.{◌∙◌, ◌<◌, List, [], ℕ, ap, sym, subst, length, get_or, arith}
use Rattle.std.specs.List.{list_all, list_any}
use Rattle.std.proofs.lemmas.List.{get_or_default}
use Rattle.list_laws.proofs.Cited.{length_zip}
use Rattle.point_order.specs.declared.cell.Cell.{Cell}
use Rattle.alpha_complex.specs.Judged.{is_admitted_pair, is_small_cell}
use Rattle.alpha_complex.specs.Leasts.{IsLeastOf, face_at}
use Rattle.alpha_complex.proofs.Leasts.{zip_at}
use Rattle.alpha_complex.proofs.Told.{tells_pair}
use Rattle.alpha_complex.proofs.numbers.Alphas.pair.Goals as goal

pub number_at-requires : goal.number_at-requires
number_at-requires c =
    let known = c.args.self.now in
    let e = length_zip (λ x n. IsLeastOf (λ a. is_admitted_pair known.faces.now.triples a x) n) known.faces.now.pairs
    known.pairs.items c.requires.known.pairs in
    let h = c.requires.index in
    subst (λ (v : List ℕ). c.args.index < length v) (sym c.deref.ensures.value) (omega (arith, e, h))

pub returns-clause-numbers : goal.returns-clause-numbers
returns-clause-numbers c =
    let known = c.args.self.now in
    let faces = known.faces.now in
    let i = c.args.index in
    let f = c.pair.ensures.face ∙ get_or_default faces.pairs i _ ([], []) c.requires.index in
    let z = zip_at (λ x n. IsLeastOf (λ a. is_admitted_pair faces.triples a x) n) faces.pairs known.pairs.items i
    ([], []) 0 c.requires.known.pairs c.requires.index in
    let e = ap (λ (v : List ℕ). get_or v i 0) (sym c.deref.ensures.value) ∙ sym c.number_at.ensures
    ∙ sym c.with_cells_of.ensures.admitted in
    record {
      admitted = subst (λ n. IsLeastOf (λ a. is_admitted_pair faces.triples a (face_at faces.pairs i)) n) e z;
      regular = subst (λ (v : List ℕ × List Cell). IsLeastOf (λ a. list_any (is_small_cell a) v.1)
          c.with_cells_of.result.regular) f c.with_cells_of.ensures.regular;
      interior = subst (λ (v : List ℕ × List Cell). IsLeastOf (λ a. list_all (is_small_cell a) v.1)
          c.with_cells_of.result.interior) f c.with_cells_of.ensures.interior;
    }

pub returns-clause-told : goal.returns-clause-told
returns-clause-told c s h =
    tells_pair s c.args.self.now.faces.now c.args.index c.with_cells_of.result h c.requires.index
    (returns-clause-numbers c)
