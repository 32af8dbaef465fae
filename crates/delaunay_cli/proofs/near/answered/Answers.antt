use Rattle.std.proofs.Common.{◌≡◌, ◌∙◌, ap, sym, subst, List, ℕ, Bool, true, false, refl}
use Rattle.point_order.specs.Solid.{is_solid}
use Rattle.edit_history.specs.declared.history.Entry.{Entry}
use Rattle.edit_history.specs.Histories.{IsLegal, replay}
use Rattle.edit_files.specs.Held.{content}
use Rattle.command_pages.specs.Run.{IsKept}
use Rattle.command_ends.specs.Queried.{IsQueried}
use Rattle.delaunay_cli.proofs.near.answered.Goals as goal

-- what is not false is true
not_false : (b : Bool) → (b ≡ false → ⊥) → b ≡ true
not_false true f = refl
not_false false f = absurd (f refl)

pub returns-clause-made : goal.returns-clause-made
returns-clause-made g c workers some =
    let text = c.in_ok-text.text.items in
    let same = sym c.in_ok-kept.ensures in
    record {
      solid = ap is_solid (sym c.deref.ensures.value) ∙ not_false (is_solid c.deref.result.now)
          (λ e. (let f : false ≡ true = c.in-Ok.ensures.refused.1 e in absurd (cc f)));
      kept = subst (λ (h : List Entry). IsKept (content c.args.file.now) workers h) same
          (c.in_ok-mesh.ensures.kept workers some);
      legal = subst (λ (h : List Entry). IsLegal h) same c.in_ok-mesh.ensures.legal;
      told = subst (λ (q : List ℕ). IsQueried (replay c.in_ok-kept.kept.items) q text) c.deref-2.ensures.value
          (subst (λ (h : List Entry). IsQueried (replay h) c.deref-2.result.now text) same c.in_ok-text.ensures);
    }
