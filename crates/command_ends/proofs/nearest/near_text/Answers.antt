use Rattle.std.proofs.Common.{◌∙◌, ◌++◌, ap, List, ℕ}
use Rattle.edit_history.specs.Histories.{replay}
use Rattle.text_sheets.specs.Pages.{Grown}
use Rattle.nearest_points.specs.declared.answers.Near.{Near}
use Rattle.near_texts.specs.Text.{near_text}
use Rattle.command_ends.proofs.nearest.near_text.Goals as goal

pub returns-in-Ok : goal.returns-in-Ok
returns-in-Ok c =
    let s = replay c.args.mesh.now in
    let nears = c.deref-2.result.now in
    record {
      nears = c.in_ok-nears.nears.items;
      are_near = c.in_ok-nears.ensures;
      text_is = c.into_bytes.ensures ∙ c.in-Ok.ensures.whole
          ∙ ap (λ (t : Grown). t.bytes ++ near_text c.deref.result.now nears) c.new-text.ensures
          ∙ ap (λ (l : List ℕ). near_text l nears) (c.deref.ensures.value ∙ c.in_ok-points.ensures.points)
          ∙ ap (λ (l : List Near). near_text s l) c.deref-2.ensures.value;
    }
