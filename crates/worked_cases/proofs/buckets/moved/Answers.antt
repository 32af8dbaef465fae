use Rattle.std.specs.Prelude.{◌≡◌, ◌*◌, ◌<◌, ℕ, length, Some, None}
use Rattle.std.proofs.Common.{ap, refl, sym, subst, ◌∙◌}
use Rattle.std.proofs.lemmas.List.{get_or-set_same, length-replicate}
use Rattle.cell_store.specs.Buckets.{BucketContent, InHand, empty_hold, content_of, at_place, bucket_at}
use Rattle.cell_store.specs.Shares.{Stands, IsShare, share_at}
use Rattle.cell_store.specs.Meshes.{with_bucket}
use Rattle.cell_store.proofs.Cited.{empty_stands, put_stands, share_is_one, sound_of}
use Rattle.worked_cases.proofs.buckets.moved.Goals as goal

pub returns-clause-stands : goal.returns-clause-stands
returns-clause-stands c =
    let h = c.args.mesh.history in
    let g = c.grid.result in
    let content = content_of c.take-bucket.result in
    let st = c.into_hold-home.ensures.stands in
    let same = c.grid.ensures.grid ∙ ap (λ (x : InHand). x.grid) c.take-bucket.ensures.after in
    let share = subst (λ (n : ℕ). IsShare n c.args.b h content) (sym same)
    (st.shares c.args.b content c.take-bucket.ensures.bucket) in
    subst (λ (x : InHand). Stands x h) (sym (c.put.ensures ∙ ap (with_bucket c.args.b content) c.in_ok-pass.ensures))
    (put_stands (empty_hold g) c.args.b content h (empty_stands g h (sound_of c.into_hold-home.result h st)) share)

-- the bucket in hand is its share of the history of the mesh
pub returns-clause-bucket : goal.returns-clause-bucket
returns-clause-bucket c =
    let h = c.args.mesh.history in
    let g = c.grid.result in
    let b = c.args.b in
    let content = content_of c.take-bucket.result in
    let same = c.grid.ensures.grid ∙ ap (λ (x : InHand). x.grid) c.take-bucket.ensures.after in
    let size : g ≡ c.args.mesh.grid = same ∙ c.into_hold-home.ensures.grid in
    let share = subst (λ (n : ℕ). IsShare n b h content) (sym same)
    (c.into_hold-home.ensures.stands.shares b content c.take-bucket.ensures.bucket) in
    let one : at_place g b content ≡ share_at g b h =
    share_is_one g b h (at_place g b content) (record {
      points = share.points;
      cells = share.cells;
      entries =
          share.entries;
    }) refl in
    let below : b < length (empty_hold g).places =
    subst (λ (n : ℕ). b < n) (ap (λ (n : ℕ). n * n * n) (sym size) ∙ sym (length-replicate (g * g * g) None)) c.requires
    in
    ap (λ (x : InHand). bucket_at x.places b) (c.put.ensures ∙ ap (with_bucket b content) c.in_ok-pass.ensures)
    ∙ get_or-set_same (empty_hold g).places b (Some (at_place g b content)) None below
    ∙ ap (λ (x : BucketContent). Some x) one
    ∙ ap (λ (n : ℕ). Some (share_at n b h)) size
