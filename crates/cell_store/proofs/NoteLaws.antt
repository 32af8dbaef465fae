-- What an entry makes of the points of its bucket, and of the buckets of a hold.
use Rattle.std.specs.Prelude.{◌≡◌, ℕ, ◌<◌, ◌≤◌, ◌==◌, Bool, true, false, cond, not, ◌||◌, List, [], ◌∷◌, Option, None}
use Rattle.std.specs.Prelude.{Some, IfSome, IsSome, IsSomeAnd, length, slice_index, slice_set, suc, ◌+◌, Result, Ok}
use Rattle.std.specs.Prelude.{Err, MatchResult, OnOk, OnErr}
use Rattle.std.specs.Option.{option_map, option_map_or}
use Rattle.std.proofs.Common.{refl, sym, ◌∙◌, ap, subst, inl, inr, arith}
use Rattle.std.proofs.lemmas.List.{get_or-set_same, get_or-set_other}
use Rattle.std.proofs.lemmas.Bool.{cases_eq}
use Rattle.list_laws.proofs.Cited.{among_true, below_each, if_some, index_in, of_some, one_value, to_some}
use Rattle.point_order.specs.declared.cell.Cell.{Cell}
use Rattle.point_order.specs.Sets.{IsIn, IsAscending, is_among, with_point, without_point}
use Rattle.point_order.proofs.Cited.{in_with_new, with_cases}
use Rattle.edit_history.specs.declared.history.Entry.{Entry}
use Rattle.edit_history.proofs.Cited.{among_gap}
use Rattle.bucket_grid.specs.Grids.{bucket_of}
use Rattle.cell_stars.specs.Places.{Placed, cells_of}
use Rattle.cell_store.specs.Buckets.{BucketContent, Layout, InHand, Room, bucket_at, content_of, layout_at, shown}
use Rattle.cell_store.specs.Buckets.{StandAtPlaces, points_at}
use Rattle.cell_store.specs.declared.room.PlanFor.{PlanFor}
use Rattle.cell_store.specs.Ready.{AllRoomier, AreRoomier, HasMuchRoom, HasPlaceFor, HasRoom, IsExchange, IsNoteReady}
use Rattle.cell_store.specs.Ready.{IsPointReady, ArePlansReady, IsReadyFor, IsRoomier}
use Rattle.cell_store.proofs.Layouts.{shown_at}

-- a point that is there is put in already
with_there : (p : ℕ) (s : List ℕ) → IsAscending s → IsIn p s → with_point p s ≡ s
with_there p [] a k = absurd k
with_there p (x ∷ s) a (inl e) =
    elim (with_cases p x s) [
      | inl w ↦ absurd (omega (arith, w.0, e))
      | inr o ↦ elim o
          [ inl w ↦ w.1 | inr w ↦ absurd (omega (arith, w.0, e)) ]
    ]
with_there p (x ∷ s) a (inr k) =
    let b : x < p = below_each x s a.0 a.1 p k in
    let r = with_there p s a.1 k in
    elim (with_cases p x s) [
      | inl w ↦ absurd (omega (arith, w.0, b))
      | inr o ↦ elim o
          [ inl w ↦ absurd (omega (arith, w.0, b)) | inr w ↦ w.1 ∙ ap (λ (t : List ℕ). x ∷ t) r ]
    ]

-- a point that is not there is taken out already
without_absent : (p : ℕ) (s : List ℕ) → is_among p s ≡ false → without_point p s ≡ s
without_absent p [] e = refl
without_absent p (x ∷ s) e = by (x == p) e (without_absent p s)
  where
    by : (b : Bool) → (b || is_among p s) ≡ false → (is_among p s ≡ false → without_point p s ≡ s) →
        cond (not b) (x ∷ without_point p s) (without_point p s) ≡ x ∷ s
    by true e r = cc
    by false e r = ap (λ (t : List ℕ). x ∷ t) (r e)

-- what a search found, for a point to be put in or taken out
pub found_with : (s : List ℕ) (p : ℕ) (r : Result ℕ ℕ) → IsAscending s →
    MatchResult r (λ i. (i < length s) × (slice_index s i ≡ p))
    (λ i. (i ≤ length s) × ((k : ℕ) → k < i → slice_index s k < p)
    × ((k : ℕ) → i ≤ k → k < length s → p < slice_index s k)) → OnOk r (with_point p s ≡ s)
found_with s p (Ok i) a h = with_there p s a (subst (λ q. IsIn q s) h.1 (index_in s i h.0))
found_with s p (Err i) a h = tt

-- a point that a search did not find is taken out already
pub found_without : (s : List ℕ) (p : ℕ) (r : Result ℕ ℕ) →
    MatchResult r (λ i. (i < length s) × (slice_index s i ≡ p))
    (λ i. (i ≤ length s) × ((k : ℕ) → k < i → slice_index s k < p)
    × ((k : ℕ) → i ≤ k → k < length s → p < slice_index s k)) → OnErr r (without_point p s ≡ s)
found_without s p (Ok i) h = tt
found_without s p (Err i) h = without_absent p s (among_gap s p i (record { within = h.0; below = h.1; above = h.2 }))

-- it is not there
pub found_absent : (s : List ℕ) (p : ℕ) (r : Result ℕ ℕ) →
    MatchResult r (λ i. (i < length s) × (slice_index s i ≡ p))
    (λ i. (i ≤ length s) × ((k : ℕ) → k < i → slice_index s k < p)
    × ((k : ℕ) → i ≤ k → k < length s → p < slice_index s k)) → OnErr r (is_among p s ≡ false)
found_absent s p (Ok i) h = tt
found_absent s p (Err i) h = among_gap s p i (record { within = h.0; below = h.1; above = h.2 })

-- ---- one bucket anew

-- what is ready for an exchange stays so where a bucket keeps its cells
pub ready_noted : (t : Bool) (g b : ℕ) (gone fresh : List Cell) (places : List (Option Layout)) (plans : List PlanFor)
    (c d : Layout) → b < length places → layout_at places b ≡ Some c → d.cells ≡ c.cells →
    ArePlansReady t g gone fresh places plans → ArePlansReady t g gone fresh (slice_set places b (Some d)) plans
ready_noted t g b gone fresh places plans c d h e f r =
    record { each = λ l i. by l (r.each l i); apart = r.apart; others = r.others }
  where
    after : List (Option Layout)
    after = slice_set places b (Some d)

    at_b : layout_at after b ≡ Some d
    at_b = get_or-set_same places b (Some d) None h

    here : (l : PlanFor) → l.number ≡ b → IsReadyFor t gone fresh places l → IsReadyFor t gone fresh after l
    here l w q =
        let k = of_some (λ y. IsExchange t gone fresh y.cells l.plan) (layout_at places l.number) c
        (ap (layout_at places) w ∙ e) q in
        to_some (λ y. IsExchange t gone fresh y.cells l.plan) (layout_at after l.number) d
        (ap (layout_at after) w ∙ at_b) (subst (λ y. IsExchange t gone fresh y l.plan) (sym f) k)

    by : (l : PlanFor) → IsReadyFor t gone fresh places l → IsReadyFor t gone fresh after l
    by l q = elim (cases_eq l.number b) [
      | inl w ↦ here l w q
      | inr w ↦ subst (λ o. IsSomeAnd o (λ y. IsExchange t gone fresh y.cells l.plan))
          (sym (get_or-set_other places b l.number (Some d) None w)) q
    ]

-- ---- places

-- with a bucket put where its place says, all stand at their places still
pub stand_put : (g b : ℕ) (places : List (Option BucketContent)) (d : BucketContent) → b < length places →
    d.place ≡ Some (g, b) → StandAtPlaces g places → StandAtPlaces g (slice_set places b (Some d))
stand_put g b places d h p st k y q = elim (cases_eq k b) [
  | inl w ↦ (
      let u : d ≡ y = one_value d y (sym (get_or-set_same places b (Some d) None h)
      ∙ ap (bucket_at (slice_set places b (Some d))) (sym w) ∙ q) in
      ap (λ z. z.place) (sym u) ∙ p ∙ ap (λ (n : ℕ). Some (g, n)) (sym w))
  | inr n ↦ st k y (sym (get_or-set_other places b k (Some d) None n) ∙ q)
]

-- so they do where one is changed that keeps its place
pub stand_noted : (g b : ℕ) (places : List (Option BucketContent)) (c d : BucketContent) → b < length places →
    bucket_at places b ≡ Some c → d.place ≡ c.place → StandAtPlaces g places →
    StandAtPlaces g (slice_set places b (Some d))
stand_noted g b places c d h e p st = stand_put g b places d h (p ∙ st b c e) st

-- and where one is taken out
pub stand_take : (g b : ℕ) (places : List (Option BucketContent)) → b < length places → StandAtPlaces g places →
    StandAtPlaces g (slice_set places b None)
stand_take g b places h st k y q = elim (cases_eq k b) [
  | inl w ↦ (let u = sym (get_or-set_same places b None None h) ∙ ap (bucket_at (slice_set places b None)) (sym w)
      ∙ q in absurd (cc u))
  | inr n ↦ st k y (sym (get_or-set_other places b k None None n) ∙ q)
]

-- ---- a bucket that is put where none was

-- what is ready for an exchange stays so
pub ready_put : (t : Bool) (g b : ℕ) (gone fresh : List Cell) (places : List (Option Layout)) (plans : List PlanFor)
    (x : Option Layout) → layout_at places b ≡ None → ArePlansReady t g gone fresh places plans →
    ArePlansReady t g gone fresh (slice_set places b x) plans
ready_put t g b gone fresh places plans x e r =
    record { each = λ l i. by l (r.each l i); apart = r.apart; others = r.others }
  where
    by : (l : PlanFor) → IsReadyFor t gone fresh places l → IsReadyFor t gone fresh (slice_set places b x) l
    by l q = elim (cases_eq l.number b) [
      | inl w ↦ absurd (subst (λ o. IsSomeAnd o (λ y. IsExchange t gone fresh y.cells l.plan))
          (ap (layout_at places) w ∙ e) q)
      | inr w ↦ subst (λ o. IsSomeAnd o (λ y. IsExchange t gone fresh y.cells l.plan))
          (sym (get_or-set_other places b l.number x None w)) q
    ]

-- what is known of a bucket in hand stays known
known_put : (P : Layout → Type 0) (b n : ℕ) (places : List (Option Layout)) (x : Option Layout) →
    layout_at places b ≡ None → IsSomeAnd (layout_at places n) P → IsSomeAnd (layout_at (slice_set places b x) n) P
known_put P b n places x e q = elim (cases_eq n b) [
  | inl w ↦ absurd (subst (λ o. IsSomeAnd o P) (ap (layout_at places) w ∙ e) q)
  | inr w ↦ subst (λ o. IsSomeAnd o P) (sym (get_or-set_other places b n x None w)) q
]

-- what is ready for an entry stays so
pub note_put : (g b : ℕ) (places : List (Option Layout)) (p : ℕ) (x : Option Layout) → layout_at places b ≡ None →
    IsNoteReady g places p → IsNoteReady g (slice_set places b x) p
note_put g b places p x e q = known_put HasRoom b (bucket_of g p) places x e q

-- and what is ready for a point
pub point_put : (g b : ℕ) (places : List (Option Layout)) (p : ℕ) (x : Option Layout) → layout_at places b ≡ None →
    IsPointReady g places p → IsPointReady g (slice_set places b x) p
point_put g b places p x e q = known_put (HasPlaceFor p) b (bucket_of g p) places x e q

-- ---- a bucket that has more room

-- a bucket with more room shows the same
same_shown : (c d : Layout) → IsRoomier c d → content_of d ≡ content_of c
same_shown c d r =
    ap (λ (l : List ℕ). record {
      points = l;
      cells = cells_of d.cells.slots;
      entries = d.entries;
      place =
          d.cells.place;
    }) r.points
    ∙ ap (λ (x : Placed). record { points = c.points; cells = cells_of x.slots; entries = d.entries; place = x.place })
    r.cells
    ∙ ap (λ (l : List Entry). record {
      points = c.points;
      cells = cells_of c.cells.slots;
      entries = l;
      place =
          c.cells.place;
    }) r.entries

-- what is ready is so over the same grid, cells and buckets
pub ready_same : (t : Bool) (g h : ℕ) (gone fresh eg ef : List Cell) (places qs : List (Option Layout))
    (plans : List PlanFor) → g ≡ h → gone ≡ eg → fresh ≡ ef → places ≡ qs → ArePlansReady t g gone fresh places plans →
    ArePlansReady t h eg ef qs plans
ready_same t g h gone fresh eg ef places qs plans e1 e2 e3 e4 r =
    subst (λ (n : ℕ). ArePlansReady t n eg ef qs plans) e1
    (subst (λ l. ArePlansReady t g l ef qs plans) e2
    (subst (λ l. ArePlansReady t g gone l qs plans) e3 (subst (λ l. ArePlansReady t g gone fresh l plans) e4 r)))

-- one bucket is another, of which holds what held of the first
pub known_more : (P : Layout → Type 0) (b n : ℕ) (places : List (Option Layout)) (c d : Layout) → b < length places →
    layout_at places b ≡ Some c → (P c → P d) → IsSomeAnd (layout_at places n) P →
    IsSomeAnd (layout_at (slice_set places b (Some d)) n) P
known_more P b n places c d h e more q = elim (cases_eq n b) [
  | inl w ↦ (
      let k = of_some P (layout_at places n) c (ap (layout_at places) w ∙ e) q in
      to_some P (layout_at (slice_set places b (Some d)) n) d (ap (layout_at (slice_set places b (Some d))) w
      ∙ get_or-set_same places b (Some d) None h) (more k))
  | inr w ↦ subst (λ o. IsSomeAnd o P) (sym (get_or-set_other places b n (Some d) None w)) q
]

-- what holds of a bucket with more room holds where all have more
pub kept_roomier : (P : Layout → Type 0) (o n : Option Layout) → ((c d : Layout) → IsRoomier c d → P c → P d) →
    AreRoomier o n → IsSomeAnd o P → IsSomeAnd n P
kept_roomier P None n f r q = absurd q
kept_roomier P (Some c) None f r q = absurd r
kept_roomier P (Some c) (Some d) f r q = f c d r q

-- a bucket with more room has room for an entry still
pub more_for_note : (c d : Layout) → IsRoomier c d → HasRoom c → HasRoom d
more_for_note c d r k = let x = k.points in let y = k.entries in let u = r.for_points in let v = r.for_entries in
    record { points = omega arith; entries = omega arith }

-- it has room for an entry and the point still
pub more_for_both : (c d : Layout) → IsRoomier c d → HasMuchRoom c → HasMuchRoom d
more_for_both c d r k = let x = k.points in let y = k.entries in let u = r.for_points in let v = r.for_entries in
    record { points = omega arith; entries = omega arith }

-- and for a point to come and go
pub more_for_point : (p : ℕ) (c d : Layout) → IsRoomier c d → HasPlaceFor p c → HasPlaceFor p d
more_for_point p c d r k = record {
  absent = λ n. let x = k.absent (ap (is_among p) (sym r.points) ∙ n) in let u = r.for_points in omega arith;
  there = λ n. let x = k.there (ap (is_among p) (sym r.points) ∙ n) in let u = r.for_points in omega arith;
}

-- much room is room for an entry, and for the point
pub much_for_note : (o : Option Layout) → IsSomeAnd o HasMuchRoom → IsSomeAnd o HasRoom
much_for_note None h = h
much_for_note (Some c) h = let x = h.points in record { points = omega arith; entries = h.entries }

-- and for the point alone
pub much_for_point : (p : ℕ) (o : Option Layout) → IsSomeAnd o HasMuchRoom → IsSomeAnd o (HasPlaceFor p)
much_for_point p None h = h
much_for_point p (Some c) h = let x = h.points in record { absent = λ n. x; there = λ n. omega arith }

-- the buckets with more room show the same
roomier_one : (o n : Option Layout) → AreRoomier o n → option_map content_of n ≡ option_map content_of o
roomier_one None n r = ap (option_map content_of) r
roomier_one (Some c) None r = absurd r
roomier_one (Some c) (Some d) r = ap (λ (x : BucketContent). Some x) (same_shown c d r)

-- so they do all together
pub all_shown : (old new : List (Option Layout)) → AllRoomier old new → shown new ≡ shown old
all_shown [] [] r = refl
all_shown [] (n ∷ new) r = let u = r.count in absurd (omega (arith, u))
all_shown (o ∷ old) [] r = let u = r.count in absurd (omega (arith, u))
all_shown (o ∷ old) (n ∷ new) r =
    ap (λ (x : Option BucketContent). x ∷ shown new) (roomier_one o n (r.each 0))
    ∙ ap (λ (l : List (Option BucketContent)). option_map content_of o ∷ l)
    (all_shown old new (record { count = (let u = r.count in omega (arith, u)); each = λ b. r.each (suc b) }))

-- a bucket in hand stays there
pub still_there : (o n : Option Layout) → AreRoomier o n → IsSome o → IsSome n
still_there None n r h = subst IsSome (sym r) h
still_there (Some c) None r h = absurd r
still_there (Some c) (Some d) r h = refl

-- what two steps made room for
pub both_rooms : (g : ℕ) (mid new : List (Option Layout)) (note point : Option ℕ) → AllRoomier mid new →
    IfSome note (λ p. IsSomeAnd (layout_at mid (bucket_of g p)) HasMuchRoom) →
    IfSome point (λ p. IsSomeAnd (layout_at new (bucket_of g p)) HasMuchRoom) →
    IfSome note (λ p. IsNoteReady g new p) × IfSome point (λ p. IsPointReady g new p)
both_rooms g mid new note point r a b = (
  if_some (λ p. IsSomeAnd (layout_at mid (bucket_of g p)) HasMuchRoom) (λ p. IsNoteReady g new p) note
      (λ p k. much_for_note (layout_at new (bucket_of g p))
      (kept_roomier HasMuchRoom (layout_at mid (bucket_of g p)) (layout_at new (bucket_of g p)) more_for_both
      (r.each (bucket_of g p)) k)) a,
  if_some (λ p. IsSomeAnd (layout_at new (bucket_of g p)) HasMuchRoom) (λ p. IsPointReady g new p) point
      (λ p k. much_for_point p (layout_at new (bucket_of g p)) k) b,
)

-- what is ready for notes and points stays so
pub all_noted : (g : ℕ) (old new : List (Option Layout)) (note : Option ℕ) → AllRoomier old new →
    IfSome note (λ p. IsNoteReady g old p) → IfSome note (λ p. IsNoteReady g new p)
all_noted g old new note r = if_some (λ p. IsNoteReady g old p) (λ p. IsNoteReady g new p) note
    (λ p k. kept_roomier HasRoom (layout_at old (bucket_of g p)) (layout_at new (bucket_of g p)) more_for_note
    (r.each (bucket_of g p)) k)

-- and so for a point
pub all_pointed : (g : ℕ) (old new : List (Option Layout)) (point : Option ℕ) → AllRoomier old new →
    IfSome point (λ p. IsPointReady g old p) → IfSome point (λ p. IsPointReady g new p)
all_pointed g old new point r = if_some (λ p. IsPointReady g old p) (λ p. IsPointReady g new p) point
    (λ p k. kept_roomier (HasPlaceFor p) (layout_at old (bucket_of g p)) (layout_at new (bucket_of g p))
    (more_for_point p) (r.each (bucket_of g p)) k)

-- what is ready stays so
pub all_ready : (t : Bool) (g : ℕ) (gone fresh : List Cell) (old new : List (Option Layout)) (plans : List PlanFor) →
    AllRoomier old new → ArePlansReady t g gone fresh old plans → ArePlansReady t g gone fresh new plans
all_ready t g gone fresh old new plans r q = record {
  each = λ l i. kept_roomier (λ c. IsExchange t gone fresh c.cells l.plan) (layout_at old l.number)
      (layout_at new l.number) (λ c d m k. subst (λ y. IsExchange t gone fresh y l.plan) (sym m.cells) k)
      (r.each l.number)
      (q.each l i);
  apart = q.apart;
  others = q.others;
}

-- all buckets have more room after two steps
pub all_twice : (old mid new : List (Option Layout)) → AllRoomier old mid → AllRoomier mid new → AllRoomier old new
all_twice old mid new r s = record {
  count = s.count ∙ r.count;
  each =
      λ b. by (layout_at old b) (layout_at mid b) (layout_at new b) (r.each b) (s.each b);
}
  where
    by : (o m n : Option Layout) → AreRoomier o m → AreRoomier m n → AreRoomier o n
    by None m n e f = subst (λ x. AreRoomier x n) e f
    by (Some c) None n e f = absurd e
    by (Some c) (Some d) None e f = absurd f
    by (Some c) (Some d) (Some x) e f =
        let u = e.for_points in
        let v = f.for_points in
        let w = e.for_entries in
        let y = f.for_entries in
        record {
          points = f.points ∙ e.points;
          cells = f.cells ∙ e.cells;
          entries = f.entries ∙ e.entries;
          for_points =
              omega arith;
          for_entries = omega arith;
        }

-- the bucket of a point that can come, and of one that can go
pub point_room : (g b p : ℕ) (places : List (Option Layout)) (x : Option Layout) → IsPointReady g places p →
    b ≡ bucket_of g p → is_among p (points_at (shown places) b) ≡ false → layout_at places b ≡ x →
    IsSomeAnd x (λ c. 0 < c.room_points)
point_room g b p places x ready e absent w = by x
    (subst (λ o. IsSomeAnd o (HasPlaceFor p)) (ap (layout_at places) (sym e) ∙ w) ready)
    (ap (λ o. option_map_or (λ (c : BucketContent). c.points) o []) (shown_at places b ∙ ap (option_map content_of) w))
  where
    by : (o : Option Layout) → IsSomeAnd o (HasPlaceFor p) →
        points_at (shown places) b ≡ option_map_or (λ (c : BucketContent). c.points) (option_map content_of o) [] →
        IsSomeAnd o (λ c. 0 < c.room_points)
    by None h q = h
    by (Some c) h q = (let x = h.absent (ap (is_among p) (sym q) ∙ absent) in omega arith)

-- a point is in a bucket exactly where what the bucket shows has it
pub point_is : (b p : ℕ) (t : Bool) (places : List (Option Layout)) (c : Layout) →
    is_among p (points_at (shown places) b) ≡ t → layout_at places b ≡ Some c → is_among p c.points ≡ t
point_is b p t places c e w = ap (λ o. is_among p (option_map_or (λ (x : BucketContent). x.points) o []))
    (sym (shown_at places b ∙ ap (option_map content_of) w)) ∙ e

-- so one that is shown in the hold is in its bucket
pub point_there : (b p : ℕ) (places : List (Option Layout)) (x : Option Layout) →
    is_among p (points_at (shown places) b) ≡ true → layout_at places b ≡ x →
    IsSomeAnd x (λ c. is_among p c.points ≡ true)
point_there b p places None e w = (let u : is_among p [] ≡ true =
    ap (λ o. is_among p (option_map_or (λ (x : BucketContent). x.points) o []))
    (sym (shown_at places b ∙ ap (option_map content_of) w)) ∙ e in absurd (cc u))
point_there b p places (Some c) e w = point_is b p true places c e w

-- a bucket with other points, as it is shown
pub content_points : (points : List ℕ) (c d : Layout) → d.points ≡ points → d.cells ≡ c.cells →
    d.entries ≡ c.entries → content_of d ≡ record (content_of c) { points = points }
content_points points c d e f h =
    λ i. record { points = e i; cells = cells_of (f i).slots; entries = h i; place = (f i).place }

-- the bucket of the point after it came or went
pub point_ready : (g b : ℕ) (places : List (Option Layout)) (p : ℕ) (d : Layout) → b < length places →
    b ≡ bucket_of g p → HasPlaceFor p d → IsPointReady g (slice_set places b (Some d)) p
point_ready g b places p d h e k = to_some (HasPlaceFor p) (layout_at (slice_set places b (Some d)) (bucket_of g p)) d
    (ap (layout_at (slice_set places b (Some d))) (sym e) ∙ get_or-set_same places b (Some d) None h) k

-- a point that was put in can go, and one that was taken out can come
pub put_has_place : (p : ℕ) (c d : Layout) → d.points ≡ with_point p c.points → HasPlaceFor p c →
    is_among p c.points ≡ false → c.room_points ≤ d.room_points + 1 → HasPlaceFor p d
put_has_place p c d e h n r = record {
  absent = λ k. absurd (cc (sym k ∙ ap (is_among p) e ∙ among_true p (with_point p c.points) (in_with_new p c.points)));
  there = λ k. let x = h.absent n in omega arith;
}

-- and there is room for an entry still
pub put_note : (p : ℕ) (c d : Layout) → HasPlaceFor p c → is_among p c.points ≡ false →
    c.room_points ≤ d.room_points + 1 → d.room_entries ≡ c.room_entries → HasRoom c → HasRoom d
put_note p c d h n r s k = (let x = h.absent n in let y = k.entries in
    record { points = omega arith; entries = subst (λ m. 0 < m) (sym s) y })

-- so there is where the point was taken out
pub dropped_note : (c d : Layout) → c.room_points < d.room_points → d.room_entries ≡ c.room_entries → HasRoom c →
    HasRoom d
dropped_note c d r s k = (let x = k.points in let y = k.entries in
    record { points = omega arith; entries = subst (λ m. 0 < m) (sym s) y })

-- and one that was taken out can come again
pub dropped_has_place : (p : ℕ) (c d : Layout) → HasPlaceFor p c → is_among p c.points ≡ true →
    c.room_points < d.room_points → HasPlaceFor p d
dropped_has_place p c d h n r = (let x = h.there n in record { absent = λ k. omega arith; there = λ k. omega arith })

-- the hold with other places
pub hold_with : (h : InHand) (g : ℕ) (ps qs xs : List (Option BucketContent)) (r s : Room) →
    record { grid = g; places = ps; room = r } ≡ h → qs ≡ xs →
    record { grid = g; places = qs; room = s } ≡ record h { places = xs; room = s }
hold_with h g ps qs xs r s e q = ap (λ (l : List (Option BucketContent)). record { grid = g; places = l; room = s }) q
    ∙ ap (λ (k : InHand). record k { places = xs; room = s }) e

-- with the same room the hold has other places alone
pub hold_keeps : (h : InHand) (g : ℕ) (ps qs xs : List (Option BucketContent)) (r : Room) →
    record { grid = g; places = ps; room = r } ≡ h → qs ≡ xs →
    record { grid = g; places = qs; room = r } ≡ record h { places = xs }
hold_keeps h g ps qs xs r e q = ap (λ (l : List (Option BucketContent)). record { grid = g; places = l; room = r }) q
    ∙ ap (λ (k : InHand). record k { places = xs }) e
