use Rattle.std.proofs.Common.{◌≡◌, ◌+◌, ◌*◌, ◌∷◌, ℕ, true, List, length, replicate, sym, ◌∙◌, ap, subst}
use Rattle.edit_history.specs.declared.history.Entry.{Entry}
use Rattle.bucket_grid.specs.Grids.{is_grid_size}
use Rattle.cell_store.specs.Meshes.{MeshView}
use Rattle.atomic_table.specs.Table.{opening}
use Rattle.claim_rule.specs.Opening.{shares_from}
use Rattle.claim_rule.proofs.Cited.{as_counted, mesh_shares}
use Rattle.claim_table.specs.declared.view.Key.{Key}
use Rattle.claim_table.specs.Faces.{buckets_of, opening_of}
use Rattle.claim_table.specs.Rule.{IsRule, opening_view}
use Rattle.claim_table.proofs.Opening.{starts}
use Rattle.claim_table.proofs.laying.board_for.Goals as goal

-- words, slots and the first pass of a table for the mesh meet the rule
pub new-requires : goal.new-requires
new-requires c =
    let mesh = c.args.mesh in
    let h : List Entry = mesh.history in
    let k : Key = record {
      grid = c.grid-grid.result;
      parts = c.args.parts;
      most = c.count-ticket.result +
          c.args.allowance;
      mesh = c.of.result;
    } in
    let t : c.count-ticket.result ≡ length h = as_counted c.count-ticket.result (length h) c.args.allowance
    c.count-ticket.ensures.count c.requires.room in
    let g : k.grid ≡ mesh.grid = c.grid-grid.ensures.grid in
    let is : opening_of k ≡ h = ap (λ (m : MeshView). m.history) c.of.ensures in
    let size = subst (λ (n : ℕ). is_grid_size n ≡ true) (sym g) c.grid-grid.ensures.size in
    let st = c.into_hold-home.ensures.stands in
    let slots = c.in_ok-slots.ensures ∙ mesh_shares mesh c.into_hold-home.result c.into_hold-home.ensures
    c.grid.ensures.placed ∙ ap (λ (n : ℕ). shares_from n h 0 (n * n * n)) (sym g) in
    let words : length h ∷ replicate (buckets_of k) 0 ≡ c.deref.result.now =
    (λ i. sym t i ∷ replicate (sym c.count-count.ensures.value i) 0) ∙ sym c.in_ok-words.ensures ∙ sym
    c.deref.ensures.value in (
      h,
      subst (λ (l : List ℕ). IsRule k (opening l c.in_ok-slots.slots.items (opening_view k)) h) words
          (starts k h c.args.allowance c.in_ok-slots.slots.items is (ap (λ (n : ℕ). n + c.args.allowance) t) size
          c.requires.parts.0 c.requires.parts.1 c.requires.room st.legal st.keys st.solid slots),
    )
