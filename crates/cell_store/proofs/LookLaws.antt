-- A mesh with one point more, for a while.
use Rattle.std.specs.Prelude.{◌≡◌, ℕ, ◌<◌, ◌*◌, List, length}
use Rattle.std.proofs.Common.{sym, ◌∙◌, ap, subst}
use Rattle.point_order.specs.declared.cell.Cell.{Cell}
use Rattle.point_order.specs.Complex.{complex}
use Rattle.point_order.specs.Sets.{with_point}
use Rattle.edit_history.specs.Histories.{replay}
use Rattle.hole_laws.specs.Edits.{IsNew}
use Rattle.cell_store.specs.Buckets.{InHand}
use Rattle.cell_store.specs.Between.{Enters, IsEntered, IsLeft, ShowsWhole}
use Rattle.cell_changes.specs.Changes.{IsChange}
use Rattle.cell_store.specs.Meshes.{IsHoldOf, MeshView, history_in, mesh_in, within_64_bits}
use Rattle.cell_store.proofs.BetweenLaws.{entered_shows, held_entered, left_is_same}
use Rattle.cell_store.proofs.MeshLaws.{all_are_held, held_by, roomed, shows_of}

-- the hold of a mesh, with other room, is entered
pub mesh_enters : (mesh : MeshView) (hold ready : InHand) (gone fresh : List Cell) (p : ℕ) → IsHoldOf mesh hold →
    ready.grid ≡ hold.grid → ready.places ≡ hold.places → IsNew (replay mesh.history) p →
    IsChange (complex (replay mesh.history)) (complex (with_point p (replay mesh.history))) gone fresh →
    Enters ready (replay mesh.history) gone fresh p
mesh_enters mesh hold ready gone fresh p i g e n ch =
    let own = roomed mesh hold ready g e i in
    record {
      shown = shows_of mesh ready own;
      new = n;
      change = ch;
      held = held_by mesh ready p own;
      gone_held = all_are_held ready gone own.whole.has own.whole.all;
      fresh_held = all_are_held ready fresh own.whole.has own.whole.all;
    }

-- it shows the set with the point then
pub whole_entered : (mesh : MeshView) (hold ready new : InHand) (gone fresh : List Cell) (p : ℕ) → IsHoldOf mesh hold →
    ready.grid ≡ hold.grid → ready.places ≡ hold.places → Enters ready (replay mesh.history) gone fresh p →
    IsEntered gone fresh p ready new → ShowsWhole new (with_point p (replay mesh.history))
whole_entered mesh hold ready new gone fresh p i g e en t =
    let own = roomed mesh hold ready g e i in
    let grid = t.put.grid ∙ t.swapped.grid in
    let count = t.put.count ∙ t.swapped.count in
    record {
      whole = record {
        has = record {
          size = rw grid own.whole.has.size;
          places =
              count ∙ own.whole.has.places ∙ ap (λ n. n * n * n) (sym grid);
        };
        all = λ b k. held_entered ready new gone fresh p b t (own.whole.all b (subst (λ n. b < n) count k));
      };
      shown = entered_shows ready new (replay mesh.history) gone fresh p en t;
    }

-- and is as before after it was left
pub mesh_left : (hold ready mid new : InHand) (s : List ℕ) (gone fresh : List Cell) (p n : ℕ) →
    IsHoldOf (mesh_in hold) hold × (n ≡ within_64_bits (length (history_in hold.places))) → ready.grid ≡ hold.grid →
    ready.places ≡ hold.places → Enters ready s gone fresh p → IsEntered gone fresh p ready mid →
    IsLeft gone fresh p mid new →
    (mesh_in new ≡ mesh_in hold) × (IsHoldOf (mesh_in new) new × (n ≡ within_64_bits (length (history_in new.places))))
mesh_left hold ready mid new s gone fresh p n i g e en t l =
    let back = left_is_same ready mid new s gone fresh p en t l in
    let grid = back.0 ∙ g in
    let places = back.1 ∙ e in
    let same : mesh_in new ≡ mesh_in hold = λ k. record { grid = grid k; history = history_in (places k) } in (
      same,
      (
        subst (λ (m : MeshView). IsHoldOf m new) (sym same) (roomed (mesh_in hold) hold new grid places i.0),
        i.1 ∙ ap (λ l. within_64_bits (length (history_in l))) (sym places),
      ),
    )
