use Rattle.std.proofs.Common.{◌≡◌, sym, ◌∙◌, ap, subst, ◌<◌, ◌*◌, Some, refl}
use Rattle.list_laws.proofs.Cited.{some_holds}
use Rattle.point_order.specs.Sets.{is_among}
use Rattle.cell_store.specs.Buckets.{points_at, shown}
use Rattle.bucket_grid.specs.Grids.{bucket_of}
use Rattle.cell_store.specs.Ready.{HasPlaceFor, IsPointReady}
use Rattle.cell_store.proofs.Homes.{IsHome, home, in_hand, kept_put, put_is}
use Rattle.cell_store.proofs.NoteLaws.{content_points, point_room}
use Rattle.cell_store.proofs.hold.Hold.put_point.Goals as goal

pub index_mut-requires : goal.index_mut-requires
index_mut-requires c =
    let i = c.self.inside in
    let b = c.bucket_of-b.result in
    let grid = c.grid.ensures.grid ∙ sym (ap (λ h. h.grid) c.self.view_is) in
    subst (λ n. b < n) (sym i.places.ok.0) (subst (λ n. b < n) (sym c.self.invariant.0)
    (subst (λ n. b < n * n * n) grid
    (subst (λ n. n < c.grid.result * c.grid.result * c.grid.result) (sym c.bucket_of-b.ensures.number)
    c.bucket_of-b.ensures.below)))

-- the bucket of the point is in hand
pub bucket_mut-requires : goal.bucket_mut-requires
bucket_mut-requires c =
    let i = c.self.inside in
    let p = c.args.p in
    let at = home i.grid c.grid.result c.bucket_of-b.result p i.places.items c.index_mut.result.now c.self.invariant.0
    (c.grid.ensures.grid ∙ sym (ap (λ h. h.grid) c.self.view_is)) c.bucket_of-b.ensures.number
    c.bucket_of-b.ensures.below c.index_mut.ensures.value in
    let back : i.point ≡ Some p = ap (λ h. h.room.point) c.self.view_is ∙ c.requires.room in
    in_hand (HasPlaceFor p) i.grid c.bucket_of-b.result p i.places.items c.index_mut.result.now at
    (some_holds (λ p. IsPointReady i.grid i.places.items p) i.point p (sym back) c.self.invariant.3)

-- it has room for the point, and not the point
pub put_point-requires : goal.put_point-requires
put_point-requires c =
    let i = c.self.inside in
    let b = c.bucket_of-b.result in
    let p = c.args.p in
    let places = i.places.items in
    let at = home i.grid c.grid.result b p places c.index_mut.result.now c.self.invariant.0
    (c.grid.ensures.grid ∙ sym (ap (λ h. h.grid) c.self.view_is)) c.bucket_of-b.ensures.number
    c.bucket_of-b.ensures.below c.index_mut.ensures.value in
    let back : i.point ≡ Some p = ap (λ h. h.room.point) c.self.view_is ∙ c.requires.room in
    let known = ap (λ h. is_among p (points_at h.places (bucket_of h.grid p))) c.self.view_is ∙ c.requires.absent in
    point_room i.grid b p places (Some c.bucket_mut.result.now)
    (some_holds (λ p. IsPointReady i.grid places p) i.point p (sym back) c.self.invariant.3) at.number
    (ap (λ m. is_among p (points_at (shown places) m)) at.number ∙ known) (at.is ∙ c.bucket_mut.ensures.value)

-- what was ready stays so, with the point put in
pub invariant_of-self : goal.invariant_of-self
invariant_of-self c =
    let i = c.self.inside in
    let b = c.bucket_of-b.result in
    let p = c.args.p in
    let at = subst (IsHome i.grid b p i.places.items) c.bucket_mut.ensures.value
    (home i.grid c.grid.result b p i.places.items c.index_mut.result.now c.self.invariant.0
    (c.grid.ensures.grid ∙ sym (ap (λ h. h.grid) c.self.view_is)) c.bucket_of-b.ensures.number
    c.bucket_of-b.ensures.below c.index_mut.ensures.value) in
    let e = c.put_point.ensures in
    kept_put i.grid b p i.places.items i.exchange i.note i.point c.bucket_mut.result.now c.put_point.new.self at
    (ap (λ h. h.room.point) c.self.view_is ∙ c.requires.room)
    (ap (λ h. is_among p (points_at h.places (bucket_of h.grid p))) c.self.view_is ∙ c.requires.absent)
    e.points e.cells e.for_points e.for_entries c.self.invariant

-- the hold is put: its bucket has the point more
pub returns-clause-put : goal.returns-clause-put
returns-clause-put c =
    let i = c.self.inside in
    let b = c.bucket_of-b.result in
    let p = c.args.p in
    let at = subst (IsHome i.grid b p i.places.items) c.bucket_mut.ensures.value
    (home i.grid c.grid.result b p i.places.items c.index_mut.result.now c.self.invariant.0
    (c.grid.ensures.grid ∙ sym (ap (λ h. h.grid) c.self.view_is)) c.bucket_of-b.ensures.number
    c.bucket_of-b.ensures.below c.index_mut.ensures.value) in
    let e = c.put_point.ensures in
    put_is c.args.self.now _ i.grid b p i.places.items c.bucket_mut.result.now c.put_point.new.self at
    (ap (λ h. h.grid) c.self.view_is) (ap (λ h. h.places) c.self.view_is) refl refl
    (content_points _ c.bucket_mut.result.now c.put_point.new.self e.points e.cells e.entries)
