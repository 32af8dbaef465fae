use Rattle.std.proofs.Common.{◌∙◌, List, [], ℕ, refl, subst, sym, true}
use Rattle.std.specs.List.{list_all, list_any}
use Rattle.std.proofs.lemmas.List.{get_or_default}
use Rattle.point_order.specs.declared.cell.Cell.{Cell}
use Rattle.alpha_complex.specs.Judged.{is_small_cell}
use Rattle.alpha_complex.specs.Leasts.{IsLeastOf}
use Rattle.alpha_complex.proofs.Leasts.{always_least}
use Rattle.alpha_complex.proofs.Told.{tells_point}
use Rattle.alpha_complex.proofs.numbers.Alphas.point.Goals as goal

pub returns-clause-numbers : goal.returns-clause-numbers
returns-clause-numbers c =
    let points = c.args.self.now.faces.now.points in
    let f = c.point.ensures.face ∙ get_or_default points c.args.index _ (0, []) c.requires.index in
    record {
      admitted = subst (λ n. IsLeastOf (λ a. true) n) (sym c.with_cells_of.ensures.admitted)
          (always_least (λ a. true) (λ a. refl));
      regular = subst (λ (v : ℕ × List Cell). IsLeastOf (λ a. list_any (is_small_cell a) v.1)
          c.with_cells_of.result.regular) f c.with_cells_of.ensures.regular;
      interior = subst (λ (v : ℕ × List Cell). IsLeastOf (λ a. list_all (is_small_cell a) v.1)
          c.with_cells_of.result.interior) f c.with_cells_of.ensures.interior;
    }

pub returns-clause-told : goal.returns-clause-told
returns-clause-told c s h =
    tells_point s c.args.self.now.faces.now c.args.index c.with_cells_of.result h c.requires.index
    (returns-clause-numbers c)
