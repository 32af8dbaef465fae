-- The bucket of a point in a hold, and the hold where that bucket is changed.
use Rattle.std.specs.Prelude.{◌≡◌, ◌≢◌, ℕ, ◌+◌, ◌*◌, ◌<◌, ◌≤◌, ◌==◌, true, false, if◌then◌else◌, List, [], ◌∷◌, ◌++◌}
use Rattle.std.specs.Prelude.{Option, None, Some, IfSome, IsSome, IsSomeAnd, length, slice_index_or, slice_set}
use Rattle.std.specs.Option.{option_map}
use Rattle.std.proofs.Common.{refl, sym, ◌∙◌, ap, subst, inl, inr}
use Rattle.std.proofs.lemmas.List.{get_or-set_same, get_or-set_other}
use Rattle.std.proofs.lemmas.Bool.{cases_eq, ne_eqb}
use Rattle.list_laws.proofs.Cited.{if_some, len_set, of_some, same_true, some_holds, within_list}
use Rattle.point_order.specs.Sets.{is_among, with_point, without_point}
use Rattle.edit_history.specs.Edits.{changed, point_of}
use Rattle.edit_history.specs.declared.history.Entry.{Entry}
use Rattle.cell_store.specs.Buckets.{BucketContent, InHand, Layout, StandAtPlaces, bucket_at, content_of, layout_at}
use Rattle.cell_store.specs.Buckets.{points_at, shown}
use Rattle.cell_store.specs.Changes.{IsDropped, IsNoted, IsPut}
use Rattle.bucket_grid.specs.Grids.{bucket_of}
use Rattle.cell_store.specs.Ready.{HasPlaceFor, HasRoom, IsNoteReady, IsPointReady, ArePlansReady}
use Rattle.cell_store.specs.declared.room.Exchange.{Exchange}
use Rattle.cell_store.proofs.Layouts.{shown_is, shown_len, shown_set}
use Rattle.cell_store.proofs.NoteLaws.{dropped_has_place, dropped_note, known_more, point_is, point_ready}
use Rattle.cell_store.proofs.NoteLaws.{put_has_place, put_note, ready_noted, stand_noted}

-- the number is that of the bucket of the point, and stands among the places; there is what is told
pub record IsHome (g b p : ℕ) (places : List (Option Layout)) (o : Option Layout) : Type 0 where
  pub number : b ≡ bucket_of g p
  pub within : b < length places
  pub is : layout_at places b ≡ o

-- what a hold finds at the number that its grid tells
pub home : (g grid b p : ℕ) (places : List (Option Layout)) (o : Option Layout) → length places ≡ g * g * g →
    grid ≡ g → b ≡ bucket_of grid p → bucket_of grid p < grid * grid * grid → o ≡ slice_index_or places b o →
    IsHome g b p places o
home g grid b p places o count same e h at = record {
  number = e ∙ ap (λ n. bucket_of n p) same;
  within = inside;
  is = within_list places b o None inside at;
}
  where
    inside : b < length places
    inside = subst (λ n. b < n) (sym count)
        (subst (λ n. b < n * n * n) same (subst (λ n. n < grid * grid * grid) (sym e) h))

-- a bucket of which something is known is in hand
pub in_hand : (P : Layout → Type 0) (g b p : ℕ) (places : List (Option Layout)) (o : Option Layout) →
    IsHome g b p places o → IsSomeAnd (layout_at places (bucket_of g p)) P → IsSome o
in_hand P g b p places o w h = there o (subst (λ m. IsSomeAnd m P) (ap (layout_at places) (sym w.number) ∙ w.is) h)
  where
    there : (o : Option Layout) → IsSomeAnd o P → IsSome o
    there None h = absurd h
    there (Some c) h = refl

-- what is known of the bucket of the point
pub at_home : (P : Layout → Type 0) (g b p : ℕ) (places : List (Option Layout)) (c : Layout) →
    IsHome g b p places (Some c) → IsSomeAnd (layout_at places (bucket_of g p)) P → P c
at_home P g b p places c w h =
    of_some P (layout_at places (bucket_of g p)) c (ap (layout_at places) (sym w.number) ∙ w.is) h

-- what a hold keeps of its places: as many as its grid has, each with its bucket, and ready for its exchange, its entry
-- and its point
abbrev pub AreKept : ℕ → Option Exchange → Option ℕ → Option ℕ → List (Option Layout) → Type 0
AreKept g exchange note point places = (length places ≡ g * g * g)
    × IfSome exchange (λ e. ArePlansReady e.turned g e.gone.items e.fresh.items places e.plans.items)
    × IfSome note (λ p. IsNoteReady g places p)
    × IfSome point (λ p. IsPointReady g places p) × StandAtPlaces g (shown places)

-- so they are where the bucket of a point is changed that keeps its cells, and has room still
pub kept_changed : (g b p : ℕ) (places : List (Option Layout)) (exchange : Option Exchange) (note point : Option ℕ)
    (c d : Layout) → IsHome g b p places (Some c) → d.cells ≡ c.cells → IfSome note (λ q. HasRoom c → HasRoom d) →
    IfSome point (λ q. (q ≡ p) × HasPlaceFor p d) → AreKept g exchange note point places →
    AreKept g exchange note point (slice_set places b (Some d))
kept_changed g b p places exchange note point c d w same for_note for_point r = (
  len_set places b (Some d) ∙ r.0,
  if_some (λ e. ArePlansReady e.turned g e.gone.items e.fresh.items places e.plans.items)
      (λ e. ArePlansReady e.turned g e.gone.items e.fresh.items after e.plans.items) exchange
      (λ x q. ready_noted x.turned g b x.gone.items x.fresh.items places x.plans.items c d w.within w.is same q) r.1,
  noted note for_note r.2,
  if_some (λ q. (q ≡ p) × HasPlaceFor p d) (λ q. IsPointReady g after q) point
      (λ q k. subst (IsPointReady g after) (sym k.0) (point_ready g b places p d w.within w.number k.1)) for_point,
  subst (StandAtPlaces g) (sym (shown_set places b (Some d)))
      (stand_noted g b (shown places) (content_of c) (content_of d)
      (subst (λ n. b < n) (sym (shown_len places)) w.within) (shown_is places b c w.is) (ap (λ k. k.place) same) r.4),
)
  where
    after : List (Option Layout)
    after = slice_set places b (Some d)

    noted : (o : Option ℕ) → IfSome o (λ q. HasRoom c → HasRoom d) → IfSome o (λ q. IsNoteReady g places q) →
        IfSome o (λ q. IsNoteReady g after q)
    noted None f h = tt
    noted (Some q) f h = known_more HasRoom b (bucket_of g q) places c d w.within w.is f h

-- for whatever point that would be
any : {A : Type 0} (o : Option ℕ) → A → IfSome o (λ q. A)
any None h = tt
any (Some q) h = h

-- a point that can come and go has its place
place_in : (g b p : ℕ) (places : List (Option Layout)) (point : Option ℕ) (c : Layout) →
    IsHome g b p places (Some c) → point ≡ Some p → IfSome point (λ q. IsPointReady g places q) → HasPlaceFor p c
place_in g b p places point c w e h =
    at_home (HasPlaceFor p) g b p places c w (some_holds (λ q. IsPointReady g places q) point p (sym e) h)

-- where the point is put in
pub kept_put : (g b p : ℕ) (places : List (Option Layout)) (exchange : Option Exchange) (note point : Option ℕ)
    (c d : Layout) → IsHome g b p places (Some c) → point ≡ Some p →
    is_among p (points_at (shown places) (bucket_of g p)) ≡ false → d.points ≡ with_point p c.points →
    d.cells ≡ c.cells → c.room_points ≤ d.room_points + 1 → d.room_entries ≡ c.room_entries →
    AreKept g exchange note point places → AreKept g exchange note point (slice_set places b (Some d))
kept_put g b p places exchange note point c d w e absent f same u v r =
    kept_changed g b p places exchange note point c d w same (any note (put_note p c d has here u v))
    (subst (λ o. IfSome o (λ q. (q ≡ p) × HasPlaceFor p d)) (sym e) (refl, put_has_place p c d f has here u)) r
  where
    has : HasPlaceFor p c
    has = place_in g b p places point c w e r.3

    here : is_among p c.points ≡ false
    here = point_is b p false places c (ap (λ m. is_among p (points_at (shown places) m)) w.number ∙ absent) w.is

-- and where it is taken out
pub kept_dropped : (g b p : ℕ) (places : List (Option Layout)) (exchange : Option Exchange) (note point : Option ℕ)
    (c d : Layout) → IsHome g b p places (Some c) → point ≡ Some p →
    is_among p (points_at (shown places) (bucket_of g p)) ≡ true → d.cells ≡ c.cells →
    c.room_points < d.room_points → d.room_entries ≡ c.room_entries →
    AreKept g exchange note point places → AreKept g exchange note point (slice_set places b (Some d))
kept_dropped g b p places exchange note point c d w e there same u v r =
    kept_changed g b p places exchange note point c d w same (any note (dropped_note c d u v))
    (subst (λ o. IfSome o (λ q. (q ≡ p) × HasPlaceFor p d)) (sym e) (refl, dropped_has_place p c d has here u)) r
  where
    has : HasPlaceFor p c
    has = place_in g b p places point c w e r.3

    here : is_among p c.points ≡ true
    here = point_is b p true places c (ap (λ m. is_among p (points_at (shown places) m)) w.number ∙ there) w.is

-- ---- what is shown then

-- the content of a bucket, changed where it is that of a point
abbrev changed_at : ℕ → ℕ → (BucketContent → BucketContent) → ℕ → BucketContent → BucketContent
changed_at g p change n x = if bucket_of g p == n then change x else x

-- with the bucket of a point changed there are as many buckets, of which the others are as before
one_changed : (change : BucketContent → BucketContent) (old new : InHand) (g b p : ℕ) (places : List (Option Layout))
    (c d : Layout) → IsHome g b p places (Some c) → g ≡ old.grid → shown places ≡ old.places →
    new.places ≡ shown (slice_set places b (Some d)) → content_of d ≡ change (content_of c) →
    (length new.places ≡ length old.places)
    × ((n : ℕ) → bucket_at new.places n ≡ option_map (changed_at old.grid p change n) (bucket_at old.places n))
one_changed change old new g b p places c d w e1 e2 e3 f = (
  ap length after ∙ len_set was b (Some (content_of d)) ∙ ap length e2,
  λ n. ap (λ m. bucket_at m n) after ∙ by n
      ∙ ap (λ m. option_map (changed_at old.grid p change n) (bucket_at m n)) e2,
)
  where
    was : List (Option BucketContent)
    was = shown places

    after : new.places ≡ slice_set was b (Some (content_of d))
    after = e3 ∙ shown_set places b (Some d)

    number : b ≡ bucket_of old.grid p
    number = w.number ∙ ap (λ n. bucket_of n p) e1

    here : changed_at old.grid p change b (content_of c) ≡ change (content_of c)
    here = rw (same_true (bucket_of old.grid p) b (sym number)) refl

    elsewhere : (n : ℕ) (o : Option BucketContent) → n ≢ b → o ≡ option_map (changed_at old.grid p change n) o
    elsewhere n None h = refl
    elsewhere n (Some x) h = rw (ne_eqb (bucket_of old.grid p) n (λ q. h (sym q ∙ sym number))) refl

    by : (n : ℕ) → bucket_at (slice_set was b (Some (content_of d))) n
        ≡ option_map (changed_at old.grid p change n) (bucket_at was n)
    by n = elim (cases_eq n b) [
      | inl q ↦
          ap (bucket_at (slice_set was b (Some (content_of d)))) q
          ∙ get_or-set_same was b (Some (content_of d)) None
          (subst (λ n. b < n) (sym (shown_len places)) w.within)
          ∙ ap (λ (y : BucketContent). Some y) (f ∙ sym here)
          ∙ ap (λ m. option_map (changed_at old.grid p change m) (Some (content_of c))) (sym q)
          ∙ sym (ap (option_map (changed_at old.grid p change n)) (ap (bucket_at was) q ∙ shown_is places b c w.is))
      | inr q ↦ get_or-set_other was b n (Some (content_of d)) None q ∙ elsewhere n (bucket_at was n) q
    ]

-- a hold in which the point's bucket has the point more, and nothing else is changed, is put
pub put_is : (old new : InHand) (g b p : ℕ) (places : List (Option Layout)) (c d : Layout) →
    IsHome g b p places (Some c) → g ≡ old.grid → shown places ≡ old.places → new.grid ≡ g →
    new.places ≡ shown (slice_set places b (Some d)) →
    content_of d ≡ record (content_of c) { points = with_point p c.points } → IsPut p old new
put_is old new g b p places c d w e1 e2 e3 e4 f =
    let k = one_changed (λ x. record x { points = with_point p x.points }) old new g b p places c d w e1 e2 e4 f in
    record { grid = e3 ∙ e1; count = k.0; places = k.1 }

-- one in which it has the point less is dropped
pub dropped_is : (old new : InHand) (g b p : ℕ) (places : List (Option Layout)) (c d : Layout) →
    IsHome g b p places (Some c) → g ≡ old.grid → shown places ≡ old.places → new.grid ≡ g →
    new.places ≡ shown (slice_set places b (Some d)) →
    content_of d ≡ record (content_of c) { points = without_point p c.points } → IsDropped p old new
dropped_is old new g b p places c d w e1 e2 e3 e4 f =
    let k = one_changed (λ x. record x { points = without_point p x.points }) old new g b p places c d w e1 e2 e4 f in
    record { grid = e3 ∙ e1; count = k.0; places = k.1 }

-- and one in which the bucket of an entry's point has the entry last is noted
pub noted_is : (old new : InHand) (g b : ℕ) (places : List (Option Layout)) (e : Entry) (c d : Layout) →
    IsHome g b (point_of e.edit) places (Some c) → g ≡ old.grid → shown places ≡ old.places → new.grid ≡ g →
    new.places ≡ shown (slice_set places b (Some d)) → content_of d ≡ record (content_of c)
    { points = changed c.points (point_of e.edit) e.reply; entries = c.entries ++ e ∷ [] } → IsNoted e old new
noted_is old new g b places e c d w e1 e2 e3 e4 f =
    let k = one_changed (λ x. record x
    { points = changed x.points (point_of e.edit) e.reply; entries = x.entries ++ e ∷ [] })
    old new g b (point_of e.edit) places c d w e1 e2 e4 f in
    record { grid = e3 ∙ e1; count = k.0; places = k.1 }
