use Rattle.std.proofs.Common.{subst, sym, ◌∙◌}
use Rattle.std.proofs.lemmas.List.{append-nil}
use Rattle.edit_history.specs.Merging.{AreNumbered}
use Rattle.worked_cases.proofs.Numbered.{legal_numbered}
use Rattle.worked_cases.proofs.meshes.merged.Goals as goal

pub merge-requires : goal.merge-requires
merge-requires c =
    let h = c.args.mesh.now.history in
    subst AreNumbered
    (sym (append-nil c.in_ok-history.field-0.items ∙ c.in_ok-history.ensures h c.hold-hold.ensures.stands))
    (legal_numbered h c.hold-hold.ensures.stands.legal)
