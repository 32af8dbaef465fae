use Rattle.std.proofs.Common.{Some, IsSome, ◌∙◌, ap, sym, subst}
use Rattle.std.specs.Option.{option_map}
use Rattle.list_laws.proofs.Cited.{none_there}
use Rattle.cell_store.specs.Buckets.{bucket_at, content_of, layout_at, shown}
use Rattle.cell_store.proofs.Layouts.{shown_at, shown_is}
use Rattle.cell_store.proofs.hold.Hold.bucket.Goals as goal

pub returns : goal.returns
returns c =
    let i = c.self.inside in
    let b = c.args.b in
    let is = shown_is i.places.items b c.in-Some.bucket.now (ap (λ l. layout_at l b) (sym c.deref.ensures.value)
    ∙ c.in-Some.ensures) in record {
      bucket = ap (λ h. bucket_at h.places b) (sym c.self.view_is) ∙ is;
      place = c.self.invariant.4 b (content_of c.in-Some.bucket.now) is
          ∙ ap (λ g. Some (g, b)) (ap (λ h. h.grid) c.self.view_is);
    }

pub unreachable-requires : goal.unreachable-requires
unreachable-requires c =
    let i = c.self.inside in
    let b = c.args.b in
    let none = shown_at i.places.items b ∙ ap (option_map content_of)
    (ap (λ l. layout_at l b) (sym c.deref.ensures.value) ∙ c.in-None.ensures) in
    none_there (bucket_at (shown i.places.items) b) none
    (subst (λ l. IsSome (bucket_at l b)) (sym (ap (λ h. h.places) c.self.view_is)) c.requires)
