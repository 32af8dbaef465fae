use Rattle.std.proofs.Common.{ap, ◌∙◌}
use Rattle.tour.proofs.threads.add_cube.Goals as goal
use Rattle.tour.proofs.threads.add_cube.Goals.{in-Ok+then-added, in_default, in_default-via-in-Err-1}
use Rattle.tour.proofs.threads.add_cube.Goals.{in_default-via-in-Ok+else-added}

pub loop-x-preserved : goal.loop-x-preserved
loop-x-preserved c =
    let i = c.loop-x.invariant in
    elim c.match-corner.branch [
      | in-Ok+then-added w ↦ (
        ap (λ p. p.table) w.pass-is ∙ w.added.ensures.0 ∙ i.0,
        ap (λ p. p.first) w.pass-is ∙ w.added.ensures.1 ∙ i.1,
        ap (λ p. p.parts) w.pass-is ∙ w.added.ensures.2 ∙ i.2,
      )
      | in_default w ↦ elim w.in_default.branch [
        | in_default-via-in-Err-1 u ↦ (
          ap (λ p. p.table) (w.pass-is ∙ u.pass-is) ∙ i.0,
          ap (λ p. p.first) (w.pass-is ∙ u.pass-is) ∙ i.1,
          ap (λ p. p.parts) (w.pass-is ∙ u.pass-is) ∙ i.2,
        )
        | in_default-via-in-Ok+else-added u ↦ (
          ap (λ p. p.table) (w.pass-is ∙ u.pass-is) ∙ u.added.ensures.0 ∙ i.0,
          ap (λ p. p.first) (w.pass-is ∙ u.pass-is) ∙ u.added.ensures.1 ∙ i.1,
          ap (λ p. p.parts) (w.pass-is ∙ u.pass-is) ∙ u.added.ensures.2 ∙ i.2,
        )
      ]
    ]
