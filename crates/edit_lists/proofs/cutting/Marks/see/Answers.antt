use Rattle.std.proofs.Common.{refl, ◌∙◌, ap, true, List}
use Rattle.std.specs.List.{list_any}
use Rattle.edit_lists.specs.declared.lists.List as lists
use Rattle.edit_lists.specs.Cutting.{has_place}
use Rattle.edit_lists.specs.Dealing.{all_of, lists_of, pairs_in}
use Rattle.edit_lists.proofs.Cuts.{marks_see}
use Rattle.edit_lists.proofs.cutting.Marks.see.Goals as goal

pub returns-in_ok-self : goal.returns-in_ok-self
returns-in_ok-self c = λ n lines some dealt are.
    marks_see n lines (lists_of c.args.segment.now) c.args.self.now
    (record { moved = c.args.self.now.moved; seen = c.in_ok-self.field-0; are_seen = true }) some dealt are
    (λ p. refl) refl
    (λ p. c.in_ok-self.ensures p
    ∙ ap (λ (l : List lists.List). list_any (has_place p) (all_of (pairs_in l))) c.deref.ensures.value)
