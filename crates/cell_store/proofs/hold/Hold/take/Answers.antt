use Rattle.std.proofs.Common.{sym, ap, subst, ◌<◌, ◌∙◌, List, Option, length, None, Some}
use Rattle.std.specs.Option.{option_map}
use Rattle.std.specs.Prelude.{slice_set, IsSome}
use Rattle.list_laws.proofs.Cited.{len_set, none_there, within_list}
use Rattle.cell_store.specs.Buckets.{BucketContent, StandAtPlaces, bucket_at, content_of, shown}
use Rattle.cell_store.proofs.Layouts.{shown_at, shown_is, shown_len, shown_set}
use Rattle.cell_store.proofs.RoomLaws.{in_hand_below}
use Rattle.cell_store.proofs.NoteLaws.{hold_with, stand_take}
use Rattle.cell_store.proofs.hold.Hold.take.Goals as goal

pub index_mut-requires : goal.index_mut-requires
index_mut-requires c =
    let i = c.self.inside in
    let b = c.args.b in
    let n : b < length (shown i.places.items) =
    subst (λ (l : List (Option BucketContent)). b < length l) (sym (ap (λ h. h.places) c.self.view_is))
    (in_hand_below c.args.self.now.places b c.requires) in
    subst (λ n. b < n) (shown_len i.places.items ∙ sym i.places.ok.0) n

pub unreachable-requires : goal.unreachable-requires
unreachable-requires c =
    let i = c.self.inside in
    let b = c.args.b in
    let now = ap (λ h. h.places) c.self.view_is in
    let held : IsSome (bucket_at (shown i.places.items) b) =
    subst (λ (l : List (Option BucketContent)). IsSome (bucket_at l b)) (sym now) c.requires in
    let h : b < length i.places.items = subst (λ n. b < n) (shown_len i.places.items)
    (in_hand_below (shown i.places.items) b held) in
    let e = within_list i.places.items b c.index_mut.result.now None h c.index_mut.ensures.value
    ∙ sym c.take.ensures.value ∙ c.in-None.is in
    none_there (bucket_at (shown i.places.items) b) (shown_at i.places.items b ∙ ap (option_map content_of) e) held

pub returns-clause-bucket : goal.returns-clause-bucket
returns-clause-bucket c =
    let i = c.self.inside in
    let b = c.args.b in
    let n : b < length (shown i.places.items) =
    subst (λ (l : List (Option BucketContent)). b < length l) (sym (ap (λ h. h.places) c.self.view_is))
    (in_hand_below c.args.self.now.places b c.requires) in
    let h : b < length i.places.items = subst (λ n. b < n) (shown_len i.places.items) n in
    let e = within_list i.places.items b c.index_mut.result.now None h c.index_mut.ensures.value
    ∙ sym c.in-Some.ensures.value in
    ap (λ h. bucket_at h.places b) (sym c.self.view_is) ∙ shown_is i.places.items b c.in-Some.bucket e

pub invariant_of-self : goal.invariant_of-self
invariant_of-self c =
    let i = c.self.inside in
    let b = c.args.b in
    let places = i.places.items in
    let h : b < length (shown places) = subst (λ (l : List (Option BucketContent)). b < length l)
    (sym (ap (λ h. h.places) c.self.view_is)) (in_hand_below c.args.self.now.places b c.requires) in (
      len_set places b _ ∙ c.self.invariant.0,
      tt,
      tt,
      tt,
      subst (λ o. StandAtPlaces i.grid (shown (slice_set places b o))) (sym c.take.ensures.after)
          (subst (StandAtPlaces i.grid) (sym (shown_set places b None))
          (stand_take i.grid b (shown places) h c.self.invariant.4)),
    )

pub returns-clause-place : goal.returns-clause-place
returns-clause-place c =
    let i = c.self.inside in
    let b = c.args.b in
    let n : b < length (shown i.places.items) =
    subst (λ (l : List (Option BucketContent)). b < length l) (sym (ap (λ h. h.places) c.self.view_is))
    (in_hand_below c.args.self.now.places b c.requires) in
    let h : b < length i.places.items = subst (λ n. b < n) (shown_len i.places.items) n in
    let e = within_list i.places.items b c.index_mut.result.now None h c.index_mut.ensures.value
    ∙ sym c.in-Some.ensures.value in
    c.self.invariant.4 b (content_of c.in-Some.bucket) (shown_is i.places.items b c.in-Some.bucket e)
    ∙ ap (λ g. Some (g, b)) (ap (λ h. h.grid) c.self.view_is)

pub returns-clause-after : goal.returns-clause-after
returns-clause-after c =
    let i = c.self.inside in
    let b = c.args.b in
    hold_with c.args.self.now i.grid (shown i.places.items) _ _ _ _ c.self.view_is
    (ap (λ o. shown (slice_set i.places.items b o)) c.take.ensures.after ∙ shown_set i.places.items b None
    ∙ ap (λ (l : List (Option BucketContent)). slice_set l b None) (ap (λ h. h.places) c.self.view_is))
