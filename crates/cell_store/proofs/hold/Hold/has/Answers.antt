use Rattle.std.proofs.Common.{◌≡◌, Option, None, Some, is_some, ◌∙◌, ap, sym}
use Rattle.std.specs.Prelude.{MatchOption}
use Rattle.cell_store.specs.Buckets.{Layout, bucket_at, layout_at}
use Rattle.cell_store.proofs.Layouts.{shown_some}
use Rattle.cell_store.proofs.hold.Hold.has.Goals as goal

is_there : {R : Type 0} (f : R → Layout) (r : Option R) (o : Option Layout) →
    MatchOption r (o ≡ None) (λ c. o ≡ Some (f c)) → is_some r ≡ is_some o
is_there f None o m = ap is_some (sym m)
is_there f (Some c) o m = ap is_some (sym m)

pub returns : goal.returns
returns c =
    let i = c.self.inside in
    let b = c.args.b in
    c.is_some.ensures ∙ is_there (λ r. r.now) c.bucket_in.result (layout_at c.deref.result.now b) c.bucket_in.ensures
    ∙ ap (λ l. is_some (layout_at l b)) c.deref.ensures.value ∙ sym (shown_some i.places.items b)
    ∙ ap (λ h. is_some (bucket_at h.places b)) c.self.view_is
