use Rattle.std.proofs.Common.{◌≡◌, ◌∙◌, sym, ap, Bool, true, false, refl}
use Rattle.point_order.specs.Solid.{is_solid}
use Rattle.delaunay_cli.proofs.mesh.history_and_parts.Goals as goal

-- what is not false is true
not_false : (b : Bool) → (b ≡ false → ⊥) → b ≡ true
not_false true f = refl
not_false false f = absurd (f refl)

pub returns-then-is_empty-clause-made : goal.returns-then-is_empty-clause-made
returns-then-is_empty-clause-made g c =
    record {
      solid = ap is_solid (sym c.deref.ensures.value) ∙ not_false (is_solid c.deref.result.now)
          (λ e. (let f : false ≡ true = c.in-Ok.ensures.refused.1 e in absurd (cc f)));
      kept = c.in_ok-made_of_points.ensures.kept c.args.making.workers c.args.making.some;
      legal = c.in_ok-made_of_points.ensures.legal;
      report_is = c.in_ok-made_of_points.ensures.report;
    }
