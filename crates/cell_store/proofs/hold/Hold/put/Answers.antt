use Rattle.std.proofs.Common.{sym, ◌∙◌, ap, subst, ◌<◌, ◌≡◌, List, Option, length, Some, None}
use Rattle.std.specs.Prelude.{slice_set}
use Rattle.list_laws.proofs.Cited.{if_some, len_set}
use Rattle.cell_store.specs.Buckets.{BucketContent, FitsPlace, StandAtPlaces, at_place, bucket_at, content_of}
use Rattle.cell_store.specs.Buckets.{layout_at, shown}
use Rattle.cell_store.specs.Ready.{IsNoteReady, IsPointReady, ArePlansReady}
use Rattle.cell_store.proofs.Layouts.{map_none, shown_at, shown_set}
use Rattle.cell_store.proofs.NoteLaws.{hold_keeps, note_put, point_put, ready_put, stand_put}
use Rattle.cell_store.proofs.hold.Hold.put.Goals as goal

pub placed-requires : goal.placed-requires
placed-requires c = subst (λ g. FitsPlace g c.args.b (content_of c.args.bucket)) (sym (ap (λ h. h.grid) c.self.view_is))
    c.requires.place

-- what was ready stays so, with a bucket more
pub invariant_of-self : goal.invariant_of-self
invariant_of-self c =
    let i = c.self.inside in
    let b = c.args.b in
    let places = i.places.items in
    let now = ap (λ h. h.places) c.self.view_is in
    let free : bucket_at (shown places) b ≡ None = ap (λ l. bucket_at l b) now ∙ c.requires.absent in
    let absent : layout_at places b ≡ None = map_none (layout_at places b) (sym (shown_at places b) ∙ free) in
    let x = Some c.placed.result in
    let h : b < length (shown places) = subst (λ (l : List (Option BucketContent)). b < length l) (sym now)
    c.requires.below in
    let set = shown_set places b x in (
      len_set places b x ∙ c.self.invariant.0,
      if_some (λ e. ArePlansReady e.turned i.grid e.gone.items e.fresh.items places e.plans.items) _ i.exchange
          (λ e r. ready_put e.turned i.grid b e.gone.items e.fresh.items places e.plans.items x absent r)
          c.self.invariant.1,
      if_some (λ n. IsNoteReady i.grid places n) _ i.note (λ n r. note_put i.grid b places n x absent r)
          c.self.invariant.2,
      if_some (λ n. IsPointReady i.grid places n) _ i.point (λ n r. point_put i.grid b places n x absent r)
          c.self.invariant.3,
      subst (StandAtPlaces i.grid) (sym set) (stand_put i.grid b (shown places) (content_of c.placed.result) h
          (ap (λ z. z.cells.place) c.placed.ensures) c.self.invariant.4),
    )

pub returns : goal.returns
returns c =
    let i = c.self.inside in
    let b = c.args.b in
    let now = ap (λ h. h.places) c.self.view_is in
    let grid = ap (λ h. h.grid) c.self.view_is in
    hold_keeps c.args.self.now i.grid (shown i.places.items) _ _ _ c.self.view_is
    (shown_set i.places.items b (Some c.placed.result)
    ∙ ap (λ (l : List (Option BucketContent)). slice_set l b (Some (content_of c.placed.result))) now
    ∙ ap (λ (x : BucketContent). slice_set c.args.self.now.places b (Some x)) (ap content_of c.placed.ensures
    ∙ ap (λ g. at_place g b (content_of c.args.bucket)) grid))
