-- What an exchange makes of the buckets of a hold, from the lists that were ready.
use Rattle.std.specs.Prelude.{◌≡◌, ◌≢◌, ℕ, ◌+◌, zero, suc, ◌<◌, ◌==◌, Bool, true, false, not, List, [], ◌∷◌, ◌++◌, ◌⊎◌}
use Rattle.std.specs.Prelude.{Option, None, Some, IsSome, IsSomeAnd, length, map, slice_index_or, slice_set}
use Rattle.std.specs.List.{dedup}
use Rattle.std.specs.List.Sorted.{IsPermutation}
use Rattle.std.specs.Option.{option_map, option_map_or}
use Rattle.std.proofs.Common.{refl, sym, ◌∙◌, ap, subst, inl, inr, arith, drop, take, eqb, add-one, ◌≤◌}
use Rattle.std.proofs.Math.Seq.{drop-cons}
use Rattle.std.proofs.lemmas.Bool.{cases_eq}
use Rattle.std.proofs.lemmas.List.{drop-set-lt, take_all, take_more_set}
use Rattle.list_laws.proofs.Cited.{any_none, at_place, below_each, from_append, in_left, in_right, mapped_from}
use Rattle.list_laws.proofs.Cited.{mapped_true, numbers_same, of_some, one_value, same_from, take_next, take_suc}
use Rattle.list_laws.proofs.Cited.{to_some}
use Rattle.point_order.specs.declared.cell.Cell.{Cell}
use Rattle.point_order.specs.Facets.{points_of}
use Rattle.point_order.specs.Sets.{IsIn}
use Rattle.bucket_grid.specs.Grids.{bucket_of}
use Rattle.point_order.specs.Sets.{IsAscending}
use Rattle.cell_stars.specs.Places.{Placed, cells_of, swapped_at}
use Rattle.list_laws.specs.Lists.{Gathers}
use Rattle.cell_stars.specs.Plans.{AreVertices, PlanView, MakesExchange}
use Rattle.cell_stars.specs.Turns.{AreReady}
use Rattle.cell_store.specs.Buckets.{BucketContent, Layout, InHand, StandAtPlaces, bucket_at, cells_in, content_of}
use Rattle.cell_store.specs.Buckets.{layout_at, shown}
use Rattle.cell_store.specs.Changes.{NoneTouches, swapped_in, IsSwapped}
use Rattle.cell_store.specs.Ready.{AreForOthers, AreExchanged, AreFound, AreHeld, FindsCells, AreInHand, AreMade}
use Rattle.cell_store.specs.Ready.{AreTurned, CanTurn, IsAllowed, IsExchange, IsBucketAfter, IsBucketOf, ArePlansReady}
use Rattle.cell_store.specs.Ready.{IsReadyFor, IsTurned, IsTurnedIn, NoneIsFor, buckets_of_cells}
use Rattle.cell_store.specs.declared.room.PlanFor.{PlanFor}
use Rattle.cell_store.proofs.Layouts.{shown_at, shown_is, shown_some}
use Rattle.cell_store.specs.Swaps.{touches}
use Rattle.cell_stars.proofs.Cited.{swapped_none, turn_is_one, turn_leads_back}

-- ---- the numbers of the touched buckets

-- the number of the bucket of a cell's point is among those that are touched
in_numbers : (g : ℕ) (cells : List Cell) (c : Cell) (p : ℕ) → IsIn c cells → IsIn p (points_of c) →
    IsIn (bucket_of g p) (buckets_of_cells g cells)
in_numbers g [] c p i j = absurd i
in_numbers g (d ∷ cells) c p (inl e) j = in_left (bucket_of g p) (map (bucket_of g) (points_of d))
    (buckets_of_cells g cells)
    (mapped_true (bucket_of g) p (points_of d) (subst (λ (x : Cell). IsIn p (points_of x)) (sym e) j))
in_numbers g (d ∷ cells) c p (inr i) j = in_right (bucket_of g p) (map (bucket_of g) (points_of d))
    (buckets_of_cells g cells)
    (in_numbers g cells c p i j)

-- a vertex in the bucket
record HasVertex (g b : ℕ) (cells : List Cell) : Type 0 where
  pub cell : Cell
  pub listed : IsIn cell cells
  pub point : ℕ
  pub vertex : IsIn point (points_of cell)
  pub number : bucket_of g point ≡ b

-- each of these is that of a bucket with a vertex in it
numbers_from : (g b : ℕ) (cells : List Cell) → IsIn b (buckets_of_cells g cells) → HasVertex g b cells
numbers_from g b [] i = absurd i
numbers_from g b (c ∷ cells) i = elim (from_append b (map (bucket_of g) (points_of c)) (buckets_of_cells g cells) i) [
  | inl j ↦ (let r = mapped_from (bucket_of g) b (points_of c) j in
      record { cell = c; listed = inl refl; point = r.0; vertex = r.1; number = r.2 })
  | inr j ↦ (let r = numbers_from g b cells j in
      record { cell = r.cell; listed = inr r.listed; point = r.point; vertex = r.vertex; number = r.number })
]

-- the buckets of held cells are in hand
pub held_in_hand : (hold : InHand) (g : ℕ) (places : List (Option Layout)) (cells : List Cell) → g ≡ hold.grid →
    shown places ≡ hold.places → AreHeld hold cells → AreInHand places (buckets_of_cells g cells)
held_in_hand hold g places cells eg ep h b i =
    let r = numbers_from g b cells i in
    sym (shown_some places b) ∙ subst (λ l. IsSome (bucket_at l b)) (sym ep)
    (subst (λ n. IsSome (bucket_at hold.places n)) (ap (λ n. bucket_of n r.point) (sym eg) ∙ r.number)
    (h r.cell r.listed r.point r.vertex))

-- so is that of a held point
pub held_there : (hold : InHand) (g p : ℕ) (places : List (Option Layout)) → g ≡ hold.grid →
    shown places ≡ hold.places → IsSome (bucket_at hold.places (bucket_of hold.grid p)) →
    IsSome (layout_at places (bucket_of g p))
held_there hold g p places eg ep h =
    sym (shown_some places (bucket_of g p)) ∙ subst (λ l. IsSome (bucket_at l (bucket_of g p))) (sym ep)
    (subst (λ n. IsSome (bucket_at hold.places (bucket_of n p))) (sym eg) h)

-- a bucket whose number is not among them is not touched
pub not_touched : (g b : ℕ) (cells : List Cell) → (IsIn b (buckets_of_cells g cells) → ⊥) → NoneTouches g b cells
not_touched g b cells n c i = any_none (λ p. bucket_of g p == b) (points_of c) (λ p j. by p (bucket_of g p == b) refl j)
  where
    by : (p : ℕ) (t : Bool) → (bucket_of g p == b) ≡ t → IsIn p (points_of c) → (bucket_of g p == b) ≡ false
    by p true e j = absurd (n (subst (λ m. IsIn m (buckets_of_cells g cells)) (same_from (bucket_of g p) b e)
        (in_numbers g cells c p i j)))
    by p false e j = e

-- the numbers of the points of a list
pub numbers_are : (g : ℕ) (points none list sorted deduped : List ℕ) → none ≡ [] →
    Gathers (IsBucketOf g) points none list → IsPermutation list sorted → deduped ≡ dedup eqb sorted →
    (n : ℕ) → (IsIn n deduped → IsIn n (map (bucket_of g) points))
    × (IsIn n (map (bucket_of g) points) → IsIn n deduped)
numbers_are g points none list sorted deduped e s p d n =
    let k = numbers_same list sorted deduped p d n in (
      λ i. elim (s.each n (k.0 i)) [
        | inl m ↦ absurd (subst (IsIn n) e m)
        | inr r ↦ subst (λ m. IsIn m (map (bucket_of g) points)) r.2 (mapped_true (bucket_of g) r.0 points r.1)
      ],
      λ i. (let r = mapped_from (bucket_of g) n points i in k.1 (s.all r.0 r.1 n r.2)),
    )

-- those of the vertices of an exchange are those of its cells
pub vertex_numbers : (g : ℕ) (gone fresh : List Cell) (vertices : List ℕ) → AreVertices gone fresh vertices →
    (n : ℕ) → (IsIn n (map (bucket_of g) vertices) →
    IsIn n (buckets_of_cells g gone) ⊎ IsIn n (buckets_of_cells g fresh))
    × (IsIn n (buckets_of_cells g gone) ⊎ IsIn n (buckets_of_cells g fresh) → IsIn n (map (bucket_of g) vertices))
vertex_numbers g gone fresh vertices v n = (
  λ i.
      let r = mapped_from (bucket_of g) n vertices i in
      let x = v.each r.0 r.1 in
      elim x.1 [
        | inl j ↦ inl (subst (λ m. IsIn m (buckets_of_cells g gone)) r.2 (in_numbers g gone x.0 r.0 j x.2))
        | inr j ↦ inr (subst (λ m. IsIn m (buckets_of_cells g fresh)) r.2 (in_numbers g fresh x.0 r.0 j x.2))
      ],
  λ i. elim i [
    | inl j ↦ (let r = numbers_from g n gone j in
        subst (λ m. IsIn m (map (bucket_of g) vertices)) r.number
        (mapped_true (bucket_of g) r.point vertices (v.all r.point r.cell (inl r.listed) r.vertex)))
    | inr j ↦ (let r = numbers_from g n fresh j in
        subst (λ m. IsIn m (map (bucket_of g) vertices)) r.number
        (mapped_true (bucket_of g) r.point vertices (v.all r.point r.cell (inr r.listed) r.vertex)))
  ],
)

-- ---- plans for buckets

-- a plan that makes the exchange can be carried out, or turned back
can_turn : (t : Bool) (gone fresh : List Cell) (b : Placed) (p : PlanView) → IsExchange t gone fresh b p → CanTurn t p b
can_turn false gone fresh b p e = e.allows
can_turn true gone fresh b p e = record { plan = e.plan; bucket = e.bucket; turn = e.turn }

-- what it makes of the bucket
turn_place : (t : Bool) (p q : PlanView) (b c : Placed) → IsTurned t p b q c → c.place ≡ b.place
turn_place false p q b c s = ap (λ (x : Placed). x.place) s.bucket
turn_place true p q b c s = sym (ap (λ (x : Placed). x.place) s.bucket)

-- the bucket's cells are exchanged
turn_cells : (t : Bool) (gone fresh : List Cell) (p q : PlanView) (b c : Placed) → IsExchange t gone fresh b p →
    IsTurned t p b q c → cells_of c.slots ≡ swapped_at b.place gone fresh (cells_of b.slots)
turn_cells false gone fresh p q b c e s = ap (λ (x : Placed). cells_of x.slots) s.bucket ∙ e.cells
turn_cells true gone fresh p q b c e s =
    let one = turn_is_one q e.plan p c e.bucket b s e.turn in
    ap (λ (x : Placed). cells_of x.slots) one.1 ∙ e.cells

-- then it makes the exchange back
turn_ready : (t : Bool) (gone fresh : List Cell) (p q : PlanView) (b c : Placed) → IsExchange t gone fresh b p →
    IsTurned t p b q c → AreReady b.place gone fresh (cells_of b.slots) → IsExchange (not t) fresh gone c q
turn_ready false gone fresh p q b c e s r = turn_leads_back gone fresh p q b c e s r
turn_ready true gone fresh p q b c e s r =
    let one = turn_is_one q e.plan p c e.bucket b s e.turn in
    subst (λ (x : Placed). MakesExchange fresh gone x q) (sym one.1)
    (subst (λ (x : PlanView). MakesExchange fresh gone e.bucket x) (sym one.0) e.there)

-- ---- all plans, one after another

-- a plan for the bucket, carried out or turned back, if there is one
record HasTurn (t : Bool) (plans after : List PlanFor) (b : ℕ) (old new : List (Option Layout)) : Type 0 where
  pub plan : PlanFor
  pub made : PlanFor
  pub listed : IsIn plan plans
  pub among : IsIn made after
  pub number : plan.number ≡ b
  pub turned : IsTurnedIn t plan made old new

-- a bucket has a plan that was carried out or turned back, or no plan is for it
turn_of : (t : Bool) (plans after : List PlanFor) (b : ℕ) (old new : List (Option Layout)) →
    AreTurned t plans after old new → HasTurn t plans after b old new ⊎ NoneIsFor b plans
turn_of t [] [] b old new a = inr (λ l i. absurd i)
turn_of t [] (m ∷ ms) b old new a = absurd a
turn_of t (l ∷ ls) [] b old new a = absurd a
turn_of t (l ∷ ls) (m ∷ ms) b old new a = elim (cases_eq l.number b) [
  | inl e ↦ inl (record { plan = l; made = m; listed = inl refl; among = inl refl; number = e; turned = a.0 })
  | inr n ↦ elim (turn_of t ls ms b old new a.1) [
    | inl h ↦ inl (record {
      plan = h.plan;
      made = h.made;
      listed = inr h.listed;
      among = inr h.among;
      number =
          h.number;
      turned = h.turned;
    })
    | inr f ↦ inr (λ k i. elim i [ inl q ↦ subst (λ (x : PlanFor). x.number ≢ b) q n | inr j ↦ f k j ])
  ]
]

-- each plan as it is after is one of those before, carried out or turned back
turn_from : (t : Bool) (plans after : List PlanFor) (old new : List (Option Layout)) (m : PlanFor) →
    AreTurned t plans after old new → IsIn m after → (l : PlanFor) × IsIn l plans × IsTurnedIn t l m old new
turn_from t [] [] old new m a i = absurd i
turn_from t [] (n ∷ ms) old new m a i = absurd a
turn_from t (l ∷ ls) [] old new m a i = absurd a
turn_from t (l ∷ ls) (n ∷ ms) old new m a (inl e) =
    (l, inl refl, subst (λ (x : PlanFor). IsTurnedIn t l x old new) e a.0)
turn_from t (l ∷ ls) (n ∷ ms) old new m a (inr i) = (let r = turn_from t ls ms old new m a.1 i in (r.0, inr r.1, r.2))

-- the plans are for the same buckets
none_after : (t : Bool) (plans after : List PlanFor) (b : ℕ) (old new : List (Option Layout)) →
    AreTurned t plans after old new → NoneIsFor b plans → NoneIsFor b after
none_after t plans after b old new a n m i e =
    (let r = turn_from t plans after old new m a i in n r.0 r.1 (sym r.2.number ∙ e))

-- and back: where none after is for a bucket none before was
none_before : (t : Bool) (plans after : List PlanFor) (b : ℕ) (old new : List (Option Layout)) →
    AreTurned t plans after old new → NoneIsFor b after → NoneIsFor b plans
none_before t plans after b old new a n = elim (turn_of t plans after b old new a) [
  | inl h ↦ absurd (n h.made h.among (h.turned.number ∙ h.number))
  | inr f ↦ f
]

-- so no two of them are for one bucket, as before
apart_after : (t : Bool) (plans after : List PlanFor) (old new : List (Option Layout)) →
    AreTurned t plans after old new → AreForOthers plans → AreForOthers after
apart_after t [] [] old new a p = tt
apart_after t [] (m ∷ ms) old new a p = absurd a
apart_after t (l ∷ ls) [] old new a p = absurd a
apart_after t (l ∷ ls) (m ∷ ms) old new a p = (
  subst (λ (n : ℕ). NoneIsFor n ms) (sym a.0.number)
      (none_after t ls ms l.number old new a.1 p.0),
  apart_after t ls ms old new a.1 p.1,
)

-- the first k plans were made
pub record AreMadeFirst (t : Bool) (plans after : List PlanFor) (old new : List (Option Layout)) (k : ℕ) : Type 0 where
  pub count : length new ≡ length old
  pub turned : AreTurned t (take k plans) (take k after) old new
  pub rest : drop k after ≡ drop k plans
  pub others : (b : ℕ) → NoneIsFor b (take k plans) → layout_at new b ≡ layout_at old b

-- before the first none was made
pub made_none : (t : Bool) (plans : List PlanFor) (places : List (Option Layout)) →
    AreMadeFirst t plans plans places places 0
made_none t plans places = record { count = refl; turned = tt; rest = refl; others = λ b n. refl }

-- once as many were made as there are, all were
pub made_all : (t : Bool) (plans after : List PlanFor) (old new : List (Option Layout)) (k : ℕ) →
    length after ≡ length plans → length after ≤ k → AreMadeFirst t plans after old new k →
    AreMade t plans after old new
made_all t plans after old new k e h m =
    let first = take_all k plans (let q = e in omega arith) in
    let last = take_all k after h in
    record {
      count = m.count;
      turned = subst (λ ls. AreTurned t ls after old new) first
          (subst (λ ls. AreTurned t (take k plans) ls old new) last m.turned);
      others = λ b n. m.others b (subst (NoneIsFor b) (sym first) n);
    }

-- plans that were made are so in places where their buckets have the same
turned_moves : (t : Bool) (plans after : List PlanFor) (old new next : List (Option Layout)) →
    ((l : PlanFor) → IsIn l plans → layout_at next l.number ≡ layout_at new l.number) →
    AreTurned t plans after old new → AreTurned t plans after old next
turned_moves t [] [] old new next f a = tt
turned_moves t [] (m ∷ ms) old new next f a = absurd a
turned_moves t (l ∷ ls) [] old new next f a = absurd a
turned_moves t (l ∷ ls) (m ∷ ms) old new next f a = (
  (let r = a.0 in record {
    number = r.number;
    before = r.before;
    was = r.was;
    after = r.after;
    is =
        f l (inl refl) ∙ r.is;
    rest = r.rest;
    turned = r.turned;
  }),
  turned_moves t ls ms old new next (λ k i. f k (inr i)) a.1,
)

-- with one more that was made they are so
turned_snoc : (t : Bool) (plans after : List PlanFor) (l m : PlanFor) (old new : List (Option Layout)) →
    AreTurned t plans after old new → IsTurnedIn t l m old new → AreTurned t (plans ++ l ∷ []) (after ++ m ∷ []) old new
turned_snoc t [] [] l m old new a r = (r, tt)
turned_snoc t [] (n ∷ ms) l m old new a r = absurd a
turned_snoc t (k ∷ ls) [] l m old new a r = absurd a
turned_snoc t (k ∷ ls) (n ∷ ms) l m old new a r = (a.0, turned_snoc t ls ms l m old new a.1 r)

-- the plans before one are for other buckets
apart_before : (plans : List PlanFor) (k : ℕ) (l : PlanFor) → k < length plans → l ≡ slice_index_or plans k l →
    AreForOthers plans → NoneIsFor l.number (take k plans)
apart_before [] k l h e a = absurd (omega arith)
apart_before (x ∷ plans) zero l h e a = λ m i. absurd i
apart_before (x ∷ plans) (suc k) l h e a = λ m i. elim i [
  | inl q ↦ subst (λ (y : PlanFor). y.number ≢ l.number) q (λ s. a.0 l (at_place plans k l l (omega arith) e) (sym s))
  | inr j ↦ apart_before plans k l (omega arith) e a.1 m j
]

-- the next plan
next_plan : (t : Bool) (plans after : List PlanFor) (old new : List (Option Layout)) (k : ℕ) (l : PlanFor) →
    k < length after → length after ≡ length plans → l ≡ slice_index_or after k l →
    AreMadeFirst t plans after old new k → l ≡ slice_index_or plans k l
next_plan t plans after old new k l h e q m =
    let a = drop-cons after k l h in
    let b = drop-cons plans k l (let r = e in omega arith) in
    q ∙ cc (a, b, m.rest)

-- it can be made
pub next_allowed : (t : Bool) (plans after : List PlanFor) (old new : List (Option Layout)) (k : ℕ) (l : PlanFor) →
    k < length after → length after ≡ length plans → l ≡ slice_index_or after k l → AreForOthers plans →
    ((x : PlanFor) → IsIn x plans → IsAllowed t old x) → AreMadeFirst t plans after old new k → IsAllowed t new l
next_allowed t plans after old new k l h e q a f m =
    let p = next_plan t plans after old new k l h e q m in
    let within : k < length plans = (let r = e in omega arith) in
    subst (λ o. IsSomeAnd o (λ c. CanTurn t l.plan c.cells))
    (sym (m.others l.number (apart_before plans k l within p a))) (f l (at_place plans k l l within p))

-- and was
pub made_next : (t : Bool) (plans after : List PlanFor) (old new next : List (Option Layout)) (k : ℕ) (l m : PlanFor) →
    k < length after → length after ≡ length plans → l ≡ slice_index_or after k l → AreForOthers plans →
    AreMadeFirst t plans after old new k →
    length next ≡ length new → IsTurnedIn t l m new next → ((b : ℕ) → b ≢ l.number → layout_at next b ≡ layout_at new b)
    → AreMadeFirst t plans (slice_set after k m) old next (k + 1)
made_next t plans after old new next k l m h e q a s c r f = record {
  count = c ∙ s.count;
  turned = subst (λ ls. AreTurned t ls (take (k + 1) (slice_set after k m)) old next) (sym first)
      (subst (λ ls. AreTurned t (take k plans ++ l ∷ []) ls old next) (sym last)
      (turned_snoc t (take k plans) (take k after) l m old next there here));
  rest = (let u : k < k + 1 = omega arith in drop-set-lt (k + 1) after k m u) ∙ rest;
  others = λ b n. f b (λ w. n l (subst (IsIn l) (sym first) (in_right l (take k plans) (l ∷ []) (inl refl))) (sym w))
      ∙ s.others b (λ x i. n x (subst (IsIn x) (sym first) (in_left x (take k plans) (l ∷ []) i)));
}
  where
    p : l ≡ slice_index_or plans k l
    p = next_plan t plans after old new k l h e q s

    within : k < length plans
    within = let r = e in omega arith

    apart : NoneIsFor l.number (take k plans)
    apart = apart_before plans k l within p a

    first : take (k + 1) plans ≡ take k plans ++ l ∷ []
    first = take_next plans k l within p

    last : take (k + 1) (slice_set after k m) ≡ take k after ++ m ∷ []
    last = take_more_set after k m h

    rest : drop (k + 1) after ≡ drop (k + 1) plans
    rest =
        let u = drop-cons after k l h in
        let v = drop-cons plans k l within in
        ap (λ n. drop n after) (add-one k) ∙ cc (u, v, s.rest) ∙ ap (λ n. drop n plans) (sym (add-one k))

    there : AreTurned t (take k plans) (take k after) old next
    there = turned_moves t (take k plans) (take k after) old new next (λ x i. f x.number (apart x i)) s.turned

    here : IsTurnedIn t l m old next
    here = record {
      number = r.number;
      before = r.before;
      was = sym (s.others l.number apart) ∙ r.was;
      after =
          r.after;
      is = r.is;
      rest = r.rest;
      turned = r.turned;
    }

-- ---- what all plans make of the buckets

-- a plan that makes the exchange can be made
pub ready_allowed : (t : Bool) (g : ℕ) (gone fresh : List Cell) (places : List (Option Layout)) (plans : List PlanFor) →
    ArePlansReady t g gone fresh places plans → (l : PlanFor) → IsIn l plans → IsAllowed t places l
ready_allowed t g gone fresh places plans r l i = by (layout_at places l.number) (r.each l i)
  where
    by : (o : Option Layout) → IsSomeAnd o (λ c. IsExchange t gone fresh c.cells l.plan) →
        IsSomeAnd o (λ c. CanTurn t l.plan c.cells)
    by None h = h
    by (Some c) h = can_turn t gone fresh c.cells l.plan h

-- the exchange in one bucket
ready_at : (t : Bool) (g : ℕ) (gone fresh : List Cell) (places : List (Option Layout)) (plans : List PlanFor)
    (l : PlanFor) (c : Layout) → ArePlansReady t g gone fresh places plans → IsIn l plans →
    layout_at places l.number ≡ Some c → IsExchange t gone fresh c.cells l.plan
ready_at t g gone fresh places plans l c r i e =
    of_some (λ d. IsExchange t gone fresh d.cells l.plan) (layout_at places l.number) c e (r.each l i)

-- a plan that makes the exchange makes it in the bucket at its number
exchanged_one : (t : Bool) (g b : ℕ) (gone fresh : List Cell) (l m : PlanFor) (old new : List (Option Layout))
    (c : Layout) → IsTurnedIn t l m old new → l.number ≡ b → layout_at old b ≡ Some c → c.cells.place ≡ Some (g, b) →
    IsExchange t gone fresh c.cells l.plan → AreExchanged g b gone fresh (Some c) (layout_at new b)
exchanged_one t g b gone fresh l m old new c r q e home x =
    let same : r.before ≡ c = one_value r.before c (sym (ap (layout_at old) (sym q) ∙ r.was) ∙ e) in
    let turned : IsTurned t l.plan c.cells m.plan r.after.cells =
    subst (λ (y : Layout). IsTurned t l.plan y.cells m.plan r.after.cells) same r.turned in
    to_some (λ d. IsBucketAfter g b gone fresh c d) (layout_at new b) r.after (ap (layout_at new) (sym q) ∙ r.is)
    (record {
      rest = r.rest ∙ ap (λ (y : Layout). record y { cells = r.after.cells }) same;
      place = turn_place t l.plan m.plan c.cells r.after.cells turned;
      cells = turn_cells t gone fresh l.plan m.plan c.cells r.after.cells x turned
          ∙ ap (λ o. swapped_at o gone fresh (cells_of c.cells.slots)) home;
    })

-- so all plans that were ready make it in every bucket, also where none is for it
pub exchanged : (t : Bool) (g : ℕ) (gone fresh : List Cell) (old new : List (Option Layout))
    (plans after : List PlanFor) → ArePlansReady t g gone fresh old plans → StandAtPlaces g (shown old) →
    AreMade t plans after old new → (b : ℕ) → AreExchanged g b gone fresh (layout_at old b) (layout_at new b)
exchanged t g gone fresh old new plans after r st m b = by (layout_at old b) refl
  where
    by : (o : Option Layout) → layout_at old b ≡ o → AreExchanged g b gone fresh o (layout_at new b)
    by None e = elim (turn_of t plans after b old new m.turned) [
      | inl h ↦ absurd (cc (sym e ∙ ap (layout_at old) (sym h.number) ∙ h.turned.was))
      | inr n ↦ m.others b n ∙ e
    ]
    by (Some c) e = elim (turn_of t plans after b old new m.turned) [
      | inl h ↦ exchanged_one t g b gone fresh h.plan h.made old new c h.turned h.number e
          (st b (content_of c) (shown_is old b c e))
          (ready_at t g gone fresh old plans h.plan c r h.listed (ap (layout_at old) h.number ∙ e))
      | inr n ↦ (let u = r.others b n in to_some (λ d. IsBucketAfter g b gone fresh c d) (layout_at new b) c
          (m.others b n ∙ e) (record {
            rest = refl;
            place = refl;
            cells =
                sym (swapped_none g b gone fresh (cells_of c.cells.slots) u.0 u.1);
          }))
    ]

-- a bucket shows what it has after the exchange
shown_exchanged : (g b : ℕ) (gone fresh : List Cell) (c d : Layout) → IsBucketAfter g b gone fresh c d →
    content_of d ≡ swapped_in g b gone fresh (content_of c)
shown_exchanged g b gone fresh c d x = λ i. record {
  points = (x.rest i).points;
  cells = x.cells i;
  entries =
      (x.rest i).entries;
  place = x.place i;
}

-- so every bucket shows the exchange
pub swapped_places : (g : ℕ) (gone fresh : List Cell) (old new : List (Option Layout)) →
    ((b : ℕ) → AreExchanged g b gone fresh (layout_at old b) (layout_at new b)) → (b : ℕ) →
    bucket_at (shown new) b ≡ option_map (swapped_in g b gone fresh) (bucket_at (shown old) b)
swapped_places g gone fresh old new f b =
    shown_at new b ∙ by (layout_at old b) (layout_at new b) (f b)
    ∙ ap (option_map (swapped_in g b gone fresh)) (sym (shown_at old b))
  where
    by : (o n : Option Layout) → AreExchanged g b gone fresh o n →
        option_map content_of n ≡ option_map (swapped_in g b gone fresh) (option_map content_of o)
    by None n e = ap (option_map content_of) e
    by (Some c) None e = absurd e
    by (Some c) (Some d) e = ap (λ (x : BucketContent). Some x) (shown_exchanged g b gone fresh c d e)

-- it keeps all but its cells
pub rest_exchanged : (P : Layout → Type 0) (g : ℕ) (gone fresh : List Cell) (old new : List (Option Layout)) →
    ((c : Layout) (x : Placed) → P c → P (record c { cells = x })) →
    ((b : ℕ) → AreExchanged g b gone fresh (layout_at old b) (layout_at new b)) → (b : ℕ) →
    IsSomeAnd (layout_at old b) P → IsSomeAnd (layout_at new b) P
rest_exchanged P g gone fresh old new keeps f b = by (layout_at old b) (layout_at new b) (f b)
  where
    by : (o n : Option Layout) → AreExchanged g b gone fresh o n → IsSomeAnd o P → IsSomeAnd n P
    by None n e h = absurd h
    by (Some c) None e h = e
    by (Some c) (Some d) e h = subst P (sym e.rest) (keeps c d.cells h)

-- what the hold finds its buckets have
found_in : (g : ℕ) (old : List (Option Layout)) (gone fresh : List Cell) → StandAtPlaces g (shown old) →
    ((b : ℕ) (c : Cell) → IsIn c gone → touches g b c ≡ true → IsIn c (cells_in (shown old) b)) →
    ((b : ℕ) (c : Cell) → IsIn c fresh → touches g b c ≡ true → IsIn c (cells_in (shown old) b) → ⊥) →
    AreFound gone fresh old
found_in g old gone fresh st there absent b c e =
    let home : c.cells.place ≡ Some (g, b) = st b (content_of c) (shown_is old b c e) in
    let in_it : cells_in (shown old) b ≡ cells_of c.cells.slots =
    ap (λ o. option_map_or (λ (x : BucketContent). x.cells) o []) (shown_is old b c e) in
    subst (λ o. AreReady o gone fresh (cells_of c.cells.slots)) (sym home)
    (subst (λ l. AreReady (Some (g, b)) gone fresh l) in_it
    (record { there = λ d i q. there b d i q; absent = λ d i q. absent b d i q }))

-- so do the plans' buckets, where the hold finds its cells
pub hold_finds : (hold : InHand) (g : ℕ) (places : List (Option Layout)) (gone fresh : List Cell) → g ≡ hold.grid →
    shown places ≡ hold.places → StandAtPlaces g (shown places) → FindsCells hold gone fresh →
    AreFound gone fresh places
hold_finds hold g places gone fresh eg ep st f =
    found_in g places gone fresh st
    (λ b c i t. subst (λ l. IsIn c (cells_in l b)) (sym ep)
    (f.there b c i (subst (λ (n : ℕ). touches n b c ≡ true) eg t)))
    (λ b c i t m. f.absent b c i (subst (λ (n : ℕ). touches n b c ≡ true) eg t)
    (subst (λ l. IsIn c (cells_in l b)) ep m))

-- and is ready for the exchange back
pub ready_back : (t : Bool) (g : ℕ) (gone fresh : List Cell) (old new : List (Option Layout))
    (plans after : List PlanFor) → ArePlansReady t g gone fresh old plans → StandAtPlaces g (shown old) →
    AreMade t plans after old new →
    ((b : ℕ) (c : Cell) → IsIn c gone → touches g b c ≡ true → IsIn c (cells_in (shown old) b)) →
    ((b : ℕ) (c : Cell) → IsIn c fresh → touches g b c ≡ true → IsIn c (cells_in (shown old) b) → ⊥) →
    ArePlansReady (not t) g fresh gone new after
ready_back t g gone fresh old new plans after r st m there absent = record {
  each = each;
  apart = apart_after t plans after old new m.turned r.apart;
  others = λ b n. (let u = r.others b (none_before t plans after b old new m.turned n) in (u.1, u.0));
}
  where
    each : (l : PlanFor) → IsIn l after → IsReadyFor (not t) fresh gone new l
    each n i =
        let h = turn_from t plans after old new n m.turned i in
        let u = h.2 in
        to_some (λ (d : Layout). IsExchange (not t) fresh gone d.cells n.plan) (layout_at new n.number) u.after
        (ap (layout_at new) u.number ∙ u.is)
        (turn_ready t gone fresh h.0.plan n.plan u.before.cells u.after.cells
        (ready_at t g gone fresh old plans h.0 u.before r h.1 u.was) u.turned
        (found_in g old gone fresh st there absent h.0.number u.before u.was))

-- a hold in which each bucket has its cells exchanged, and nothing else is changed, is swapped
pub swap_is : (old new : InHand) (g : ℕ) (places after : List (Option BucketContent)) (gone fresh eg ef : List Cell) →
    g ≡ old.grid → places ≡ old.places → new.grid ≡ g → new.places ≡ after → length after ≡ length places → eg ≡ gone →
    ef ≡ fresh → ((b : ℕ) → bucket_at after b ≡ option_map (swapped_in g b eg ef) (bucket_at places b)) →
    IsSwapped gone fresh old new
swap_is old new g places after gone fresh eg ef e1 e2 e3 e4 e6 e7 e8 f = record {
  grid = e3 ∙ e1;
  count = ap length e4 ∙ e6 ∙ ap length e2;
  places = λ b.
      ap (λ l. bucket_at l b) e4 ∙ f b
      ∙ ap (λ n. option_map (swapped_in n b eg ef) (bucket_at places b)) e1
      ∙ ap (λ l. option_map (swapped_in old.grid b l ef) (bucket_at places b)) e7
      ∙ ap (λ l. option_map (swapped_in old.grid b gone l) (bucket_at places b)) e8
      ∙ ap (λ l. option_map (swapped_in old.grid b gone fresh) (bucket_at l b)) e2;
}

-- a bucket keeps its place in an exchange
pub stand_swapped : (g : ℕ) (gone fresh : List Cell) (places after : List (Option BucketContent)) →
    ((b : ℕ) → bucket_at after b ≡ option_map (swapped_in g b gone fresh) (bucket_at places b)) →
    StandAtPlaces g places → StandAtPlaces g after
stand_swapped g gone fresh places after f st b d e = by (bucket_at places b) refl (sym (f b) ∙ e)
  where
    by : (o : Option BucketContent) → bucket_at places b ≡ o → option_map (swapped_in g b gone fresh) o ≡ Some d →
        d.place ≡ Some (g, b)
    by None q k = absurd (cc k)
    by (Some c) q k = (let t : Some (swapped_in g b gone fresh c) ≡ Some d = k in
        let u : swapped_in g b gone fresh c ≡ d = cc t in ap (λ z. z.place) (sym u) ∙ st b c q)

-- a bucket in hand has its number below that of the places
pub in_hand_below : (places : List (Option BucketContent)) (b : ℕ) → IsSome (bucket_at places b) → b < length places
in_hand_below [] b s = absurd (cc s)
in_hand_below (o ∷ places) zero s = omega arith
in_hand_below (o ∷ places) (suc b) s = let h = in_hand_below places b s in omega arith

-- while more plans are made, they are for the first numbers
pub numbers_more : (plans next : List PlanFor) (l : PlanFor) (numbers : List ℕ) (i : ℕ) → i < length numbers →
    next ≡ plans ++ l ∷ [] → l.number ≡ slice_index_or numbers i 0 → map (λ k. k.number) plans ≡ take i numbers →
    map (λ k. k.number) next ≡ take (i + 1) numbers
numbers_more plans next l numbers i h e q m =
    ap (map (λ (k : PlanFor). k.number)) e ∙ last plans ∙ ap (λ (k : List ℕ). k ++ l.number ∷ []) m
    ∙ ap (λ n. take i numbers ++ n ∷ []) q ∙ sym (take_suc numbers i 0 h) ∙ ap (λ n. take n numbers) (sym (add-one i))
  where
    last : (ls : List PlanFor) → map (λ (k : PlanFor). k.number) (ls ++ l ∷ []) ≡ map (λ k. k.number) ls ++ l.number ∷
        []
    last [] = refl
    last (k ∷ ls) = ap (λ (n : List ℕ). k.number ∷ n) (last ls)

-- and each is ready
pub ready_more : (gone fresh : List Cell) (places : List (Option Layout)) (plans next : List PlanFor) (l : PlanFor) →
    next ≡ plans ++ l ∷ [] → ((k : PlanFor) → IsIn k plans → IsReadyFor false gone fresh places k) →
    IsReadyFor false gone fresh places l → (k : PlanFor) → IsIn k next → IsReadyFor false gone fresh places k
ready_more gone fresh places plans next l e f this k i = elim (from_append k plans (l ∷ []) (subst (IsIn k) e i)) [
  | inl j ↦ f k j
  | inr j ↦ elim j [ inl s ↦ subst (IsReadyFor false gone fresh places) s this | inr n ↦ absurd n ]
]

-- plans for numbers that ascend are apart
apart_from : (plans : List PlanFor) → IsAscending (map (λ l. l.number) plans) → AreForOthers plans
apart_from [] a = tt
apart_from (l ∷ plans) a = (
  λ k i e. (let b = below_each l.number (map (λ (k : PlanFor). k.number) plans) a.0 a.1
      k.number (mapped_true (λ (k : PlanFor). k.number) k plans i) in omega (arith, b, e)),
  apart_from plans a.1,
)

-- with plans for all the numbers of touched buckets
pub ready_all : (g : ℕ) (gone fresh : List Cell) (places : List (Option Layout)) (plans : List PlanFor)
    (numbers : List ℕ) → ((k : PlanFor) → IsIn k plans → IsReadyFor false gone fresh places k) →
    map (λ l. l.number) plans ≡ numbers → IsAscending numbers →
    ((b : ℕ) → (IsIn b (buckets_of_cells g gone) ⊎ IsIn b (buckets_of_cells g fresh)) → IsIn b numbers) →
    ArePlansReady false g gone fresh places plans
ready_all g gone fresh places plans numbers f e a all = record {
  each = f;
  apart = apart_from plans (subst IsAscending (sym e) a);
  others = λ b n. (
    not_touched g b gone (λ i. none b n (all b (inl i))),
    not_touched g b fresh (λ i. none b n (all b (inr i))),
  );
}
  where
    none : (b : ℕ) → NoneIsFor b plans → IsIn b numbers → ⊥
    none b n i = let r = mapped_from (λ (l : PlanFor). l.number) b plans (subst (IsIn b) (sym e) i) in n r.0 r.1 r.2
