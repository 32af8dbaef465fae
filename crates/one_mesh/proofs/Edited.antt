-- What edits make of a mesh.
use Rattle.std.specs.Prelude.{◌≡◌, ℕ, ◌<◌, ◌^◌, List, [], ◌∷◌, ◌++◌, length}
use Rattle.std.proofs.Common.{ap, sym, subst, ◌∙◌, arith}
use Rattle.edit_history.specs.declared.history.Edit.{Edit}
use Rattle.edit_history.specs.declared.history.Entry.{Entry}
use Rattle.edit_history.specs.declared.history.Reply.{Reply}
use Rattle.edit_history.specs.Edits.{reply_to}
use Rattle.edit_history.specs.Histories.{replay}
use Rattle.cell_store.specs.Changes.{Follows}
use Rattle.cell_store.specs.Meshes.{MeshView, within_64_bits}
use Rattle.edit_plans.specs.Plans.{IsPlanFor}
use Rattle.edit_plans.specs.declared.plan.Plan.{Plan}
use Rattle.one_mesh.specs.Applied.{edited}

-- the count is the next number
pub numbered : (l n : ℕ) → n ≡ within_64_bits l → l < 2 ^ 32 → n ≡ l
numbered l n e k = omega (arith, e, k)

-- the entry of a plan follows
pub planned : (h : List Entry) (n tag : ℕ) (edit : Edit) (plan : Plan) (e : Entry) → n ≡ length h →
    e ≡ record { number = n; by = 0; tag = tag; edit = edit; reply = plan.reply } → IsPlanFor (replay h) edit plan →
    Follows h e plan.gone.items plan.fresh.items
planned h n tag edit plan e k is p =
    subst (λ (x : Entry). Follows h x plan.gone.items plan.fresh.items) (sym is)
    (record { number = k; reply = p.reply; change = p.change })

-- the edit is made
pub applied : (old new : MeshView) (tag : ℕ) (edit : Edit) (n : ℕ) (reply : Reply) (e : Entry) →
    n ≡ length old.history → reply ≡ reply_to (replay old.history) edit →
    e ≡ record { number = n; by = 0; tag = tag; edit = edit; reply = reply } →
    new ≡ record old { history = old.history ++ e ∷ [] } → new ≡ edited old tag edit
applied old new tag edit n reply e k r is st =
    st
    ∙ ap (λ (x : Entry). record old { history = old.history ++ x ∷ [] })
    (is ∙ (λ i. record { number = k i; by = 0; tag = tag; edit = edit; reply = r i }))
