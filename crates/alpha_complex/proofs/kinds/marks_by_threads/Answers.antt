use Rattle.std.proofs.Common.{ℕ, false, sym, ◌∙◌}
use Rattle.std.specs.Prelude.{nat_le}
use Rattle.alpha_complex.proofs.Leasts.{written_is_map}
use Rattle.alpha_complex.proofs.kinds.marks_by_threads.Goals as goal

pub returns : goal.returns
returns g c =
    let alpha = c.args.alpha in
    let leasts = c.args.leasts.now in
    let none : ℕ = 0 in
    written_is_map (λ (n : ℕ). nat_le n alpha) none false leasts _ _ _ _ c.deref_mut.ensures.value
    c.deref_mut.ensures.len
    c.in_ok-marks.ensures.len c.par_for_each_mut.auto.s (λ i l.
    let at = (c.par_for_each_mut.ensures i false l).1 in
    sym at.left ∙ at.call)
