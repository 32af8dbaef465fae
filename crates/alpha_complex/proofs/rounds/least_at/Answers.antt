use Rattle.std.proofs.Common.{sym, ap, ◌∙◌, nat_le, arith}
use Rattle.list_laws.proofs.Cited.{length_zip}
use Rattle.alpha_complex.specs.Judged.{is_small_cell}
use Rattle.alpha_complex.specs.Leasts.{IsLeastOf}
use Rattle.alpha_complex.proofs.Leasts.{zip_at}
use Rattle.alpha_complex.proofs.rounds.least_at.Goals as goal

pub number_at-requires : goal.number_at-requires
number_at-requires c =
    let e = length_zip (λ x n. IsLeastOf (λ a. is_small_cell a x) n) c.args.faces.now.cells
    c.args.cells.now c.requires.cells in
    let h = c.requires.number in
    omega (arith, e, h)

pub returns : goal.returns
returns c a l =
    let z = zip_at (λ x n. IsLeastOf (λ a. is_small_cell a x) n) c.args.faces.now.cells c.args.cells.now
    c.args.number _ 0 c.requires.cells c.requires.number in
    z a l ∙ ap (λ n. nat_le n a) (sym c.number_at.ensures)
