use Rattle.std.proofs.Common.{◌≡◌, ◌≤◌, ◌++◌, ℕ, List, Option, length, sym, ◌∙◌, ap, subst}
use Rattle.std.specs.Mem.Slots.{slots_items, slots_counts}
use Rattle.edit_history.specs.declared.history.Entry.{Entry}
use Rattle.cell_store.specs.Buckets.{BucketContent, InHand}
use Rattle.cell_store.specs.Meshes.{IsWhole}
use Rattle.cell_store.proofs.Cited.{history_is}
use Rattle.claim_rule.specs.Good.{StartsWith}
use Rattle.claim_table.specs.declared.view.View.{View}
use Rattle.claim_table.specs.Faces.{buckets_of, opening_of}
use Rattle.claim_table.specs.Homing.{AllHome}
use Rattle.claim_table.proofs.Cited.{homed, last_of, all_in_hand, stands_so}
use Rattle.grid_claims.proofs.table.MeshTable.close.Goals as goal

-- a pass that owns all parts and holds nothing leaves every bucket in its slot
pub gather-requires-clause-home : goal.gather-requires-clause-home
gather-requires-clause-home c =
    let k = c.self.inside.board.shared.key in
    let place = c.pass.inside.hands.place in
    let v : View = place.me.0 in
    let r = c.pass.invariant.0.rest in
    let told = c.close_with-closed.ensures in
    let closed = c.close_with-closed.result in
    let items : List (Option BucketContent) = slots_items closed.slots in
    let all : v.parts ≡ k.parts =
    (λ i. (c.pass.view_is i).parts) ∙ c.requires.all ∙ (λ i. (sym c.self.view_is i).parts) in
    let wide : length items ≡ buckets_of k = sym (slots_counts closed.slots).0 ∙ told.counts.1 ∙ c.self.invariant.1 in
    let d = homed k place.id v (slots_items closed.words) items wide (last_of told.values) r.some_part r.no_child all
    r.nothing in
    let grid = ap (λ (h : InHand). h.grid) c.self.invariant.2 in
    subst (λ (g : ℕ). AllHome g items) (sym grid) d.home

-- so all buckets are in hand, and stand for the opening entries with what the pass made
pub into_mesh-requires : goal.into_mesh-requires
into_mesh-requires c =
    let k = c.self.inside.board.shared.key in
    let place = c.pass.inside.hands.place in
    let v : View = place.me.0 in
    let r = c.pass.invariant.0.rest in
    let told = c.close_with-closed.ensures in
    let closed = c.close_with-closed.result in
    let items : List (Option BucketContent) = slots_items closed.slots in
    let all : v.parts ≡ k.parts =
    (λ i. (c.pass.view_is i).parts) ∙ c.requires.all ∙ (λ i. (sym c.self.view_is i).parts) in
    let wide : length items ≡ buckets_of k = sym (slots_counts closed.slots).0 ∙ told.counts.1 ∙ c.self.invariant.1 in
    let d = homed k place.id v (slots_items closed.words) items wide (last_of told.values) r.some_part r.no_child all
    r.nothing in
    let grid = ap (λ (h : InHand). h.grid) c.self.invariant.2 in
    record {
      all = all_in_hand k.grid items c.gather.new.hold.places c.gather.ensures.places d.home;
      stands = (
        opening_of k ++ v.made,
        stands_so k.grid items c.gather.new.hold (opening_of k ++ v.made) (c.gather.ensures.grid ∙ grid)
            c.gather.ensures.places d.stands,
      );
    }

-- that is the history of the mesh, which begins with what the pass knew, and is as long as what it had seen, or longer
pub returns : goal.returns
returns c =
    let k = c.self.inside.board.shared.key in
    let place = c.pass.inside.hands.place in
    let v : View = place.me.0 in
    let r = c.pass.invariant.0.rest in
    let told = c.close_with-closed.ensures in
    let closed = c.close_with-closed.result in
    let items : List (Option BucketContent) = slots_items closed.slots in
    let all : v.parts ≡ k.parts =
    (λ i. (c.pass.view_is i).parts) ∙ c.requires.all ∙ (λ i. (sym c.self.view_is i).parts) in
    let wide : length items ≡ buckets_of k = sym (slots_counts closed.slots).0 ∙ told.counts.1 ∙ c.self.invariant.1 in
    let d = homed k place.id v (slots_items closed.words) items wide (last_of told.values) r.some_part r.no_child all
    r.nothing in
    let grid = ap (λ (h : InHand). h.grid) c.self.invariant.2 in
    let hold = c.gather.new.hold in
    let history = opening_of k ++ v.made in
    let entries : history ≡ c.args.self.opening ++ c.args.pass.made =
    (λ i. (c.self.view_is i).opening ++ (c.pass.view_is i).made) in
    let st = stands_so k.grid items hold history (c.gather.ensures.grid ∙ grid) c.gather.ensures.places d.stands in
    let whole : IsWhole hold = record {
      has = record { size = c.grid.ensures.size; places = c.grid.ensures.places };
      all = all_in_hand k.grid items hold.places c.gather.ensures.places d.home;
    } in
    record {
      mesh = c.into_mesh.ensures.mesh ∙ (λ i. record {
        grid = ((c.gather.ensures.grid ∙ grid) ∙ (λ j. (c.self.view_is j).grid)) i;
        history = (history_is hold history whole st ∙ entries) i;
      });
      known = subst (λ (t : List Entry × List Entry). StartsWith t.0 t.1)
          (λ i. (entries i, (c.pass.view_is i).known)) d.known;
      seen = subst (λ (t : ℕ × List Entry). t.0 ≤ length t.1) (λ i. ((c.pass.view_is i).seen, entries i)) d.seen;
    }
