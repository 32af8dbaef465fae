use Rattle.std.proofs.Common.{subst, sym, ◌∙◌}
use Rattle.cell_stars.specs.Places.{AreStars}
use Rattle.cell_stars.proofs.Planned.{same_bucket}
use Rattle.cell_stars.proofs.cells.Cells.copied.Goals as goal

pub invariant_of-result : goal.invariant_of-result
invariant_of-result c =
    subst AreStars (sym (same_bucket c.self.inside.place _ _ _ _ _ _
    (c.in_ok-copied_slots.ensures ∙ c.deref.ensures.value) (c.in_ok-copied_parts.ensures ∙ c.deref-2.ensures.value)
    (c.in_ok-copied_stars.ensures ∙ c.deref-3.ensures.value))) c.self.invariant

pub returns : goal.returns
returns c =
    same_bucket c.self.inside.place _ _ _ _ _ _ (c.in_ok-copied_slots.ensures ∙ c.deref.ensures.value)
    (c.in_ok-copied_parts.ensures ∙ c.deref-2.ensures.value)
    (c.in_ok-copied_stars.ensures ∙ c.deref-3.ensures.value) ∙ c.self.view_is
