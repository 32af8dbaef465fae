use Rattle.std.proofs.Common.{length, ap, ◌∙◌, ◌++◌, ◌∷◌, []}
use Rattle.cell_store.specs.Meshes.{MeshView}
use Rattle.one_mesh.proofs.Edited.{applied, numbered, planned}
use Rattle.one_mesh.proofs.edits.apply.Goals as goal

pub change-requires : goal.change-requires
change-requires c =
    let h = c.args.mesh.now.history in
    rw (c.deref.ensures.value, c.deref-2.ensures.value, c.in_ok-plan.ensures.same)
    (planned h c.count-number.result c.args.tag c.args.edit c.in_ok-plan.plan c.entry-entry.result
    (numbered (length h) c.count-number.result c.count-number.ensures.count c.requires)
    c.entry-entry.ensures c.in_ok-plan.ensures.plan)

pub returns-clause-number : goal.returns-clause-number
returns-clause-number c =
    numbered (length c.args.mesh.now.history) c.count-number.result c.count-number.ensures.count c.requires

pub returns-clause-reply : goal.returns-clause-reply
returns-clause-reply c = c.in_ok-plan.ensures.plan.reply

pub returns-clause-applied : goal.returns-clause-applied
returns-clause-applied c =
    let h = c.args.mesh.now.history in
    let e = c.entry-entry.result in
    applied c.args.mesh.now c.change.new.self c.args.tag c.args.edit c.count-number.result c.in_ok-plan.plan.reply
    e (numbered (length h) c.count-number.result c.count-number.ensures.count c.requires)
    c.in_ok-plan.ensures.plan.reply c.entry-entry.ensures
    (c.in_ok-change.ensures.changed ∙ ap (λ (m : MeshView). record m { history = m.history ++ e ∷ [] })
    c.in_ok-plan.ensures.same)
