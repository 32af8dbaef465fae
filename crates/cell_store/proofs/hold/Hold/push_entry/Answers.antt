use Rattle.std.proofs.Common.{ℕ, ◌<◌, ◌*◌, None, Some, sym, ◌∙◌, ap, subst, refl}
use Rattle.list_laws.proofs.Cited.{some_holds}
use Rattle.cell_store.specs.Ready.{HasRoom, IsNoteReady}
use Rattle.cell_store.proofs.Homes.{IsHome, at_home, home, in_hand, kept_changed, noted_is}
use Rattle.cell_store.proofs.hold.Hold.push_entry.Goals as goal

pub index_mut-requires : goal.index_mut-requires
index_mut-requires c =
    let i = c.self.inside in
    let b = c.bucket_of-b.result in
    let grid = c.grid.ensures.grid ∙ sym (ap (λ h. h.grid) c.self.view_is) in
    subst (λ n. b < n) (sym i.places.ok.0) (subst (λ n. b < n) (sym c.self.invariant.0)
    (subst (λ n. b < n * n * n) grid
    (subst (λ n. n < c.grid.result * c.grid.result * c.grid.result) (sym c.bucket_of-b.ensures.number)
    c.bucket_of-b.ensures.below)))

-- the bucket of the entry's point is in hand
pub bucket_mut-requires : goal.bucket_mut-requires
bucket_mut-requires c =
    let i = c.self.inside in
    let p = c.point.result in
    let at = home i.grid c.grid.result c.bucket_of-b.result p i.places.items c.index_mut.result.now c.self.invariant.0
    (c.grid.ensures.grid ∙ sym (ap (λ h. h.grid) c.self.view_is)) c.bucket_of-b.ensures.number
    c.bucket_of-b.ensures.below c.index_mut.ensures.value in
    in_hand HasRoom i.grid c.bucket_of-b.result p i.places.items c.index_mut.result.now at
    (some_holds (λ p. IsNoteReady i.grid i.places.items p) i.note p
    (ap (λ (q : ℕ). Some q) c.point.ensures ∙ sym (ap (λ h. h.room.push) c.self.view_is ∙ c.requires))
    c.self.invariant.2)

-- it has room for the entry
pub note-requires : goal.note-requires
note-requires c =
    let i = c.self.inside in
    let b = c.bucket_of-b.result in
    let p = c.point.result in
    let at = subst (IsHome i.grid b p i.places.items) c.bucket_mut.ensures.value
    (home i.grid c.grid.result b p i.places.items c.index_mut.result.now c.self.invariant.0
    (c.grid.ensures.grid ∙ sym (ap (λ h. h.grid) c.self.view_is)) c.bucket_of-b.ensures.number
    c.bucket_of-b.ensures.below c.index_mut.ensures.value) in
    at_home HasRoom i.grid b p i.places.items c.bucket_mut.result.now at
    (some_holds (λ p. IsNoteReady i.grid i.places.items p) i.note p
    (ap (λ (q : ℕ). Some q) c.point.ensures ∙ sym (ap (λ h. h.room.push) c.self.view_is ∙ c.requires))
    c.self.invariant.2)

-- what was ready stays so, with the entry noted
pub invariant_of-self : goal.invariant_of-self
invariant_of-self c =
    let i = c.self.inside in
    let b = c.bucket_of-b.result in
    let p = c.point.result in
    let r = c.self.invariant in
    let at = subst (IsHome i.grid b p i.places.items) c.bucket_mut.ensures.value
    (home i.grid c.grid.result b p i.places.items c.index_mut.result.now r.0
    (c.grid.ensures.grid ∙ sym (ap (λ h. h.grid) c.self.view_is)) c.bucket_of-b.ensures.number
    c.bucket_of-b.ensures.below c.index_mut.ensures.value) in
    kept_changed i.grid b p i.places.items i.exchange None None c.bucket_mut.result.now c.note.new.self at
    c.note.ensures.cells tt tt (r.0, r.1, tt, tt, r.4)

-- the hold is noted: its bucket has the entry
pub returns-clause-noted : goal.returns-clause-noted
returns-clause-noted c =
    let i = c.self.inside in
    let b = c.bucket_of-b.result in
    let p = c.point.result in
    let at = subst (IsHome i.grid b p i.places.items) c.bucket_mut.ensures.value
    (home i.grid c.grid.result b p i.places.items c.index_mut.result.now c.self.invariant.0
    (c.grid.ensures.grid ∙ sym (ap (λ h. h.grid) c.self.view_is)) c.bucket_of-b.ensures.number
    c.bucket_of-b.ensures.below c.index_mut.ensures.value) in
    noted_is c.args.self.now _ i.grid b i.places.items c.args.entry c.bucket_mut.result.now c.note.new.self
    (subst (λ p. IsHome i.grid b p i.places.items (Some c.bucket_mut.result.now)) c.point.ensures at)
    (ap (λ h. h.grid) c.self.view_is) (ap (λ h. h.places) c.self.view_is) refl refl c.note.ensures.content
