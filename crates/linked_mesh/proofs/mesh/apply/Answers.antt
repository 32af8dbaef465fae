use Rattle.std.proofs.Common.{◌≡◌, ◌∙◌, ap, sym, List, ◌++◌, ◌∷◌, [], length, arith}
use Rattle.edit_history.specs.declared.history.Entry.{Entry}
use Rattle.edit_history.specs.Edits.{after, reply_to}
use Rattle.edit_history.specs.Histories.{replay}
use Rattle.linked_mesh.specs.Applied.{edited}
use Rattle.linked_mesh.proofs.Clouds.{entered, entered_leaves}
use Rattle.linked_mesh.proofs.mesh.apply.Goals as goal

-- the set is what the history with the entry leaves
pub invariant_of-mesh-2 : goal.invariant_of-mesh-2
invariant_of-mesh-2 c =
    let h = c.mesh.inside.entries.items in
    let e = c.entry-entry.result in
    let tag = c.args.tag in
    let edit = c.args.edit in
    let number : c.len-number.result ≡ length h = omega (arith, c.len-number.ensures, c.mesh.inside.entries.ok.0) in
    let reply : c.in_ok-reply.reply ≡ reply_to (replay h) edit =
    c.in_ok-reply.ensures.reply ∙ ap (λ s. reply_to s edit) c.mesh.invariant in
    c.in_ok-reply.ensures.set ∙ ap (λ s. after s edit) c.mesh.invariant
    ∙ sym (entered_leaves h tag edit c.len-number.result c.in_ok-reply.reply e number reply c.entry-entry.ensures)
    ∙ ap replay (sym (c.push_entry.ensures ∙ ap (λ (l : List Entry). l ++ e ∷ []) c.in_ok-reserve.ensures.items))

pub returns-clause-applied : goal.returns-clause-applied
returns-clause-applied c =
    let h = c.mesh.inside.entries.items in
    let e = c.entry-entry.result in
    let tag = c.args.tag in
    let edit = c.args.edit in
    let number : c.len-number.result ≡ length h = omega (arith, c.len-number.ensures, c.mesh.inside.entries.ok.0) in
    let reply : c.in_ok-reply.reply ≡ reply_to (replay h) edit =
    c.in_ok-reply.ensures.reply ∙ ap (λ s. reply_to s edit) c.mesh.invariant in
    c.push_entry.ensures ∙ ap (λ (l : List Entry). l ++ e ∷ []) c.in_ok-reserve.ensures.items
    ∙ entered h tag edit c.len-number.result c.in_ok-reply.reply e number reply c.entry-entry.ensures
    ∙ ap (λ (l : List Entry). edited l tag edit) c.mesh.view_is

pub returns-clause-number : goal.returns-clause-number
returns-clause-number c =
    let h = c.mesh.inside.entries.items in
    let number : c.len-number.result ≡ length h = omega (arith, c.len-number.ensures, c.mesh.inside.entries.ok.0) in
    number ∙ ap length c.mesh.view_is

pub returns-clause-reply : goal.returns-clause-reply
returns-clause-reply c =
    c.in_ok-reply.ensures.reply ∙ ap (λ s. reply_to s c.args.edit) (c.mesh.invariant ∙ ap replay c.mesh.view_is)
