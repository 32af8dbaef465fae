-- Plans that are carried out and turned back.
use Rattle.std.specs.Prelude.{◌≡◌, ℕ, suc, zero, ◌-◌, ◌<◌, ◌≤◌, List, [], ◌∷◌, length, Option, None, Some}
use Rattle.std.specs.Prelude.{slice_index_or, slice_set}
use Rattle.std.proofs.Common.{refl, sym, ◌∙◌, ap, subst, arith, take, drop, add-one}
use Rattle.std.proofs.Math.Seq.{drop-cons}
use Rattle.std.proofs.lemmas.List.{drop-set, get_or-set_same, get_or-take, take-set}
use Rattle.list_laws.proofs.Cited.{len_set, set_twice}
use Rattle.std.specs.List.Sorted.{IsStrictlySortedBy}
use Rattle.point_order.specs.CellOrder.{cell_cmp}
use Rattle.point_order.specs.declared.cell.Cell.{Cell}
use Rattle.cell_stars.specs.Places.{Placed, AreStars, cells_of, swapped_at}
use Rattle.cell_stars.specs.Plans.{PlanView, Allows, AreBelow, or_else, set_all, after_plan}
use Rattle.cell_stars.specs.Turns.{AreReady, IsPart, IsTurn, TurnIsOne, TurnLeadsBack, WasTurned, left, stood, replaced}
use Rattle.cell_stars.proofs.CellLaws.{swapped_back}
use Rattle.cell_stars.proofs.Moved.{placed_sorted}
use Rattle.cell_stars.proofs.Planned.{len_all}

-- ---- one place

-- what stands at a place is set there
set_own : {X : Type 0} (l : List X) (i : ℕ) (y : X) → y ≡ slice_index_or l i y → slice_set l i y ≡ l
set_own [] i y e = refl
set_own (x ∷ l) zero y e = ap (λ z. z ∷ l) e
set_own (x ∷ l) (suc i) y e = ap (λ m. x ∷ m) (set_own l i y e)

-- what is read at a place is set there
set_found : {X : Type 0} (l : List X) (i : ℕ) (x : X) → slice_set l i (slice_index_or l i x) ≡ l
set_found [] i x = refl
set_found (y ∷ l) zero x = refl
set_found (y ∷ l) (suc i) x = ap (λ m. y ∷ m) (set_found l i x)

-- within a list what stands for elements past its end does not count
any_default : {X : Type 0} (l : List X) (i : ℕ) (d u : X) → i < length l → slice_index_or l i d ≡ slice_index_or l i u
any_default [] i d u h = absurd (omega arith)
any_default (x ∷ l) zero d u h = refl
any_default (x ∷ l) (suc i) d u h = any_default l i d u (omega arith)

-- the number of a change is below
below_at : {X : Type 0} (n : ℕ) (cs : List (ℕ × X)) (i : ℕ) (s : ℕ × X) → AreBelow n cs → i < length cs →
    s ≡ slice_index_or cs i s → s.0 < n
below_at n [] i s b h e = absurd (omega arith)
below_at n (c ∷ cs) zero s b h e = subst (λ (k : ℕ). k < n) (ap (λ y. y.0) (sym e)) b.0
below_at n (c ∷ cs) (suc i) s b h e = below_at n cs i s b.1 (omega arith) e

-- lists with one front have the same there
front_same : {X : Type 0} (cs ds : List X) (k i : ℕ) (d : X) → i < k → take k cs ≡ take k ds →
    slice_index_or cs i d ≡ slice_index_or ds i d
front_same cs ds k i d h e = sym (get_or-take k cs i d h) ∙ ap (λ l. slice_index_or l i d) e ∙ get_or-take k ds i d h

-- a shorter front
take_less : {X : Type 0} (cs : List X) (i : ℕ) → take i (take (suc i) cs) ≡ take i cs
take_less [] zero = refl
take_less [] (suc i) = refl
take_less (c ∷ cs) zero = refl
take_less (c ∷ cs) (suc i) = ap (λ l. c ∷ l) (take_less cs i)

-- ---- the way back

-- What was done so far on the way back: the first k changes are as before, and the others,
-- carried out again, lead to what there was.
pub record IsBack {X : Type 0} (cs ds : List (ℕ × X)) (l m : List X) (k : ℕ) : Type 0 where
  pub front : take k cs ≡ take k ds
  pub list : set_all (drop k cs) l ≡ m
  pub changes : stood (drop k cs) l ≡ drop k ds

-- the next change
next_is : {X : Type 0} (cs ds : List (ℕ × X)) (k : ℕ) (s : ℕ × X) → 0 < k → take k cs ≡ take k ds →
    s ≡ slice_index_or cs (k - 1) s → s ≡ slice_index_or ds (k - 1) s
next_is cs ds k s h f e = e ∙ front_same cs ds k (k - 1) s (omega arith) f

-- its place is one of the list
pub back_below : {X : Type 0} (cs ds : List (ℕ × X)) (l m : List X) (k : ℕ) (s : ℕ × X) → length cs ≡ length ds →
    length l ≡ length m → 0 < k → k ≤ length ds → AreBelow (length m) ds → IsBack cs ds l m k →
    s ≡ slice_index_or cs (k - 1) s →
    (slice_index_or cs (k - 1) s).0 < length l
back_below cs ds l m k s e q h j b f t =
    let r = below_at (length m) ds (k - 1) s b (omega arith) (next_is cs ds k s h f.front t) in
    subst (λ (n : ℕ). n < length l) (ap (λ y. y.0) t) (subst (λ n. s.0 < n) (sym q) r)

-- one more change is turned back
back_one : {X : Type 0} (cs ds : List (ℕ × X)) (l m : List X) (i : ℕ) (s : ℕ × X) (y : X) → i < length cs →
    i < length ds → s.0 < length l → s ≡ slice_index_or ds i s → y ≡ slice_index_or l s.0 y → IsBack cs ds l m (suc i) →
    IsBack (slice_set cs i (s.0, y)) ds (slice_set l s.0 s.1) m i
back_one {X} cs ds l m i s y h g b f q t = record {
  front = take-set cs i (s.0, y) ∙ sym (take_less cs i) ∙ ap (take i) t.front ∙ take_less ds i;
  list = ap (λ v. set_all v (slice_set l s.0 s.1)) after ∙ ap (set_all (drop (suc i) cs)) again ∙ t.list;
  changes =
      ap (λ v. stood v (slice_set l s.0 s.1)) after
      ∙ ap (λ (x : X). (s.0, x) ∷ stood (drop (suc i) cs) (slice_set (slice_set l s.0 s.1) s.0 y))
      (get_or-set_same l s.0 s.1 y b)
      ∙ ap (λ v. s ∷ stood (drop (suc i) cs) v) again
      ∙ ap (λ v. s ∷ v) t.changes
      ∙ ap (λ v. v ∷ drop (suc i) ds) f
      ∙ sym (drop-cons ds i s g);
}
  where
    after : drop i (slice_set cs i (s.0, y)) ≡ (s.0, y) ∷ drop (suc i) cs
    after = drop-set cs i (s.0, y) h ∙ ap (λ n. (s.0, y) ∷ drop n cs) (add-one i)

    again : slice_set (slice_set l s.0 s.1) s.0 y ≡ l
    again = set_twice l s.0 s.1 y ∙ set_own l s.0 y q

-- and so of the whole way back
pub back_next : {X : Type 0} (cs ds : List (ℕ × X)) (l m : List X) (k : ℕ) (s : ℕ × X) (x y w : X) →
    length cs ≡ length ds → length l ≡ length m → 0 < k → k ≤ length ds → AreBelow (length m) ds → IsBack cs ds l m k →
    s ≡ slice_index_or cs (k - 1) s →
    x ≡ (slice_index_or cs (k - 1) s).1 → y ≡ slice_index_or l (slice_index_or cs (k - 1) s).0 w →
    IsBack (slice_set cs (k - 1) ((slice_index_or cs (k - 1) s).0, y)) ds
    (slice_set l (slice_index_or cs (k - 1) s).0 x) m (k - 1)
back_next {X} cs ds l m k s x y w e q h j b f t a r =
    let d = next_is cs ds k s h f.front t in
    let below : s.0 < length l = subst (λ n. s.0 < n) (sym q) (below_at (length m) ds (k - 1) s b (omega arith) d) in
    let own : y ≡ slice_index_or l s.0 w = r ∙ ap (λ (z : ℕ × X). slice_index_or l z.0 w) (sym t) in
    let more : k ≡ suc (k - 1) = omega arith in
    let made =
    back_one cs ds l m (k - 1) s y (omega arith) (omega arith) below d (own ∙ any_default l s.0 w y below)
    (subst (IsBack cs ds l m) more f) in
    subst (λ (z : X). IsBack (slice_set cs (k - 1) ((slice_index_or cs (k - 1) s).0, y)) ds
    (slice_set l (slice_index_or cs (k - 1) s).0 z) m (k - 1)) (sym a)
    (subst (λ (z : ℕ × X). IsBack (slice_set cs (k - 1) (z.0, y)) ds (slice_set l z.0 z.1) m (k - 1)) t made)

-- ---- plans and buckets with the same lists

-- plans with the same parts are one
same_plan : (o o' : Option (List (Option Cell))) (cs cs' : List (ℕ × Option Cell)) (r r' : Option (List (ℕ × List ℕ)))
    (es es' : List (ℕ × (ℕ × List ℕ))) (k k' : Option (List (List (ℕ × ℕ)))) (us us' : List (ℕ × List (ℕ × ℕ))) →
    o ≡ o' → cs ≡ cs' → r ≡ r' → es ≡ es' → k ≡ k' → us ≡ us' →
    ◌≡◌ {A = PlanView} (record { grown = o; slots = cs; more = r; stars = es; parts = k; keys = us })
    (record { grown = o'; slots = cs'; more = r'; stars = es'; parts = k'; keys = us' })
same_plan o o' cs cs' r r' es es' k k' us us' e f g h d j = λ i. record {
  grown = e i;
  slots = f i;
  more = g i;
  stars = h i;
  parts = d i;
  keys = j i;
}

-- buckets with the same parts are one
same_placed : (p p' : Option (ℕ × ℕ)) (s s' : List (Option Cell)) (k k' : List (List (ℕ × ℕ)))
    (t t' : List (ℕ × List ℕ)) →
    p ≡ p' → s ≡ s' → k ≡ k' → t ≡ t' →
    ◌≡◌ {A = Placed} (record { place = p; slots = s; keys = k; stars = t })
    (record { place = p'; slots = s'; keys = k'; stars = t' })
same_placed p p' s s' k k' t t' e f g h = λ i. record { place = e i; slots = f i; keys = g i; stars = h i }

-- ---- what comes of one plan and one bucket only

-- the same elements, exchanged at the same places
pub one_list : {X : Type 0} (cs ds : List (ℕ × X)) (l m : List X) → AreBelow (length l) cs → AreBelow (length m) ds →
    stood cs l ≡ stood ds m → set_all cs l ≡ set_all ds m → (cs ≡ ds) × (l ≡ m)
one_list [] [] l m a b e f = (refl, f)
one_list [] (d ∷ ds) l m a b e f = absurd (cc e)
one_list (c ∷ cs) [] l m a b e f = absurd (cc e)
one_list {X} (c ∷ cs) (d ∷ ds) l m a b e f =
    let place : c.0 ≡ d.0 = ap (λ y. y.0) (first e) in
    let was : slice_index_or l c.0 c.1 ≡ slice_index_or m d.0 d.1 = ap (λ y. y.1) (first e) in
    let r = one_list cs ds (slice_set l c.0 c.1) (slice_set m d.0 d.1) (below l c.0 c.1 cs a.1) (below m d.0 d.1 ds b.1)
    (rest e) f in
    let is : c.1 ≡ d.1 = sym (get_or-set_same l c.0 c.1 c.1 a.0) ∙ ap (λ k. slice_index_or k c.0 c.1) r.1 ∙ ap
    (λ n. slice_index_or (slice_set m d.0 d.1) n c.1) place ∙ get_or-set_same m d.0 d.1 c.1 b.0 in
    let old : l ≡ m = sym (back l c.0 c.1) ∙ ap (λ k. slice_set k c.0 (slice_index_or l c.0 c.1)) r.1 ∙ ap
    (λ n. slice_set (slice_set m d.0 d.1) n (slice_index_or l c.0 c.1)) place ∙ ap
    (slice_set (slice_set m d.0 d.1) d.0) was ∙ back m d.0 d.1 in
    (ap (λ (n : ℕ). (n, c.1) ∷ cs) place ∙ ap (λ (x : X). (d.0, x) ∷ cs) is ∙ ap (λ ks. d ∷ ks) r.0, old)
  where
    first : {u v : ℕ × X} {us vs : List (ℕ × X)} → u ∷ us ≡ v ∷ vs → u ≡ v
    first q = cc q

    rest : {u v : ℕ × X} {us vs : List (ℕ × X)} → u ∷ us ≡ v ∷ vs → us ≡ vs
    rest q = cc q

    below : (k : List X) (i : ℕ) (x : X) (us : List (ℕ × X)) → AreBelow (length k) us →
        AreBelow (length (slice_set k i x)) us
    below k i x us h = subst (λ n. AreBelow n us) (sym (len_set k i x)) h

    back : (k : List X) (i : ℕ) (x : X) → slice_set (slice_set k i x) i (slice_index_or k i x) ≡ k
    back k i x = set_twice k i x (slice_index_or k i x) ∙ set_found k i x

-- the same list, exchanged for the same one
one_option : {X : Type 0} (o r : Option X) (x y : X) → replaced o x ≡ replaced r y →
    or_else o x ≡ or_else r y → (o ≡ r) ×
    (x ≡ y)
one_option None None x y e f = (refl, f)
one_option None (Some v) x y e f = absurd (cc e)
one_option (Some u) None x y e f = absurd (cc e)
one_option (Some u) (Some v) x y e f = (ap Some f, cc e)

-- the same plan and bucket, by their parts
one_part : {X : Type 0} (o r : Option (List X)) (cs ds : List (ℕ × X)) (l m : List X) →
    AreBelow (length (or_else o l)) cs → AreBelow (length (or_else r m)) ds → replaced o l ≡ replaced r m →
    stood cs (or_else o l) ≡ stood ds (or_else r m) → set_all cs (or_else o l) ≡ set_all ds (or_else r m) → (o ≡ r) ×
    (cs ≡ ds) × (l ≡ m)
one_part o r cs ds l m a b e f h =
    let u = one_list cs ds (or_else o l) (or_else r m) a b f h in
    let v = one_option o r l m e u.1 in
    (v.0, u.0, v.1)

-- a plan and its bucket are told by the two as they are once it was carried out
pub turn_is_one : TurnIsOne
turn_is_one p q r b c d s t =
    let e : left p b ≡ left q c = sym s.plan ∙ t.plan in
    let f : after_plan p b ≡ after_plan q c = sym s.bucket ∙ t.bucket in
    let slots = one_part p.grown q.grown p.slots q.slots b.slots c.slots s.allows.slots t.allows.slots
    (ap (λ x. x.grown) e) (ap (λ x. x.slots) e) (ap (λ x. x.slots) f) in
    let stars = one_part p.more q.more p.stars q.stars b.stars c.stars s.allows.stars t.allows.stars
    (ap (λ x. x.more) e) (ap (λ x. x.stars) e) (ap (λ x. x.stars) f) in
    let keys = one_part p.parts q.parts p.keys q.keys b.keys c.keys s.allows.keys t.allows.keys
    (ap (λ x. x.parts) e) (ap (λ x. x.keys) e) (ap (λ x. x.keys) f) in (
      same_plan _ _ _ _ _ _ _ _ _ _ _ _ slots.0 slots.1 stars.0 stars.1 keys.0 keys.1,
      same_placed _ _ _ _ _ _ _ _ (ap (λ x. x.place) f) slots.2 keys.2 stars.2,
    )

-- ---- parts

-- the numbers of the changes stay
below_stood : {X : Type 0} (n : ℕ) (cs : List (ℕ × X)) (l : List X) → AreBelow n cs → AreBelow n (stood cs l)
below_stood n [] l b = tt
below_stood n (c ∷ cs) l b = (b.0, below_stood n cs (slice_set l c.0 c.1) b.1)

-- and back
stood_below : {X : Type 0} (n : ℕ) (cs : List (ℕ × X)) (l : List X) → AreBelow n (stood cs l) → AreBelow n cs
stood_below n [] l b = tt
stood_below n (c ∷ cs) l b = (b.0, stood_below n cs (slice_set l c.0 c.1) b.1)

-- what was exchanged can be exchanged back
pub part_below : {X : Type 0} (o r : Option (List X)) (cs ds : List (ℕ × X)) (l m : List X) → IsPart o cs l r ds m →
    AreBelow (length m) ds
part_below o r cs ds l m p =
    subst (λ u. AreBelow (length m) u) (sym p.changes)
    (subst (λ n. AreBelow n (stood cs (or_else o l))) (sym (ap length p.list ∙ len_all cs (or_else o l)))
    (below_stood (length (or_else o l)) cs (or_else o l) p.below))

-- an option exchanged for a value, and back, is as before
kept_back : {X : Type 0} (o : Option X) (x : X) → (replaced (replaced o x) (or_else o x) ≡ o) ×
    (or_else (replaced o x) (or_else o x) ≡ x)
kept_back None x = (refl, refl)
kept_back (Some y) x = (refl, refl)

-- a part that is exchanged back is as before
pub part_back : {X : Type 0} (o p r : Option (List X)) (cs bs ds : List (ℕ × X)) (l k m n : List X) →
    IsPart o cs l r ds m → length k ≡ length m → set_all bs k ≡ m → stood bs k ≡ ds → p ≡ replaced r k →
    n ≡ or_else r k →
    IsPart p bs n r ds m
part_back {X} o p r cs bs ds l k m n part len f e a b =
    let below : AreBelow (length k) bs = stood_below (length k) bs k
    (subst (λ u. AreBelow (length k) u) (sym e) (subst (λ n. AreBelow n ds) (sym len)
    (part_below o r cs ds l m part))) in
    let one = one_list bs cs k (or_else o l) below part.below (e ∙ part.changes) (f ∙ part.list) in
    let back = kept_back o l in
    let first : p ≡ o = a ∙ ap (λ u. replaced u k) part.grown ∙ ap (replaced (replaced o l)) one.1 ∙ back.0 in
    let last : n ≡ l = b ∙ ap (λ u. or_else u k) part.grown ∙ ap (or_else (replaced o l)) one.1 ∙ back.1 in
    subst (λ (u : Option (List X)). IsPart u bs n r ds m) (sym first)
    (subst (λ (u : List (ℕ × X)). IsPart o u n r ds m) (sym one.0)
    (subst (λ (u : List X). IsPart o cs u r ds m) (sym last) part))

-- ---- plans

-- a plan that was carried out
pub turned : (pl : Option (ℕ × ℕ)) (o p : Option (List (Option Cell))) (cs ds : List (ℕ × Option Cell))
    (l m : List (Option Cell)) (r s : Option (List (ℕ × List ℕ))) (es fs : List (ℕ × (ℕ × List ℕ)))
    (a b : List (ℕ × List ℕ)) (k h : Option (List (List (ℕ × ℕ)))) (us vs : List (ℕ × List (ℕ × ℕ)))
    (n w : List (List (ℕ × ℕ))) →
    AreStars (record { place = pl; slots = l; keys = n; stars = a }) →
    Allows (record { grown = o; slots = cs; more = r; stars = es; parts = k; keys = us })
    (record { place = pl; slots = l; keys = n; stars = a }) → IsPart o cs l p ds m → IsPart r es a s fs b →
    IsPart k us n h vs w →
    IsTurn (record { grown = o; slots = cs; more = r; stars = es; parts = k; keys = us })
    (record { place = pl; slots = l; keys = n; stars = a }) (record
    { grown = p; slots = ds; more = s; stars = fs; parts = h; keys = vs })
    (record { place = pl; slots = m; keys = w; stars = b })
turned pl o p cs ds l m r s es fs a b k h us vs n w before allows x y z = record {
  before = before;
  allows = allows;
  plan = same_plan _ _ _ _ _ _ _ _ _ _ _ _ x.grown x.changes y.grown y.changes z.grown z.changes;
  bucket = same_placed _ _ _ _ _ _ _ _ refl x.list z.list y.list;
}

-- and one that was taken back
pub turned_back : (pl : Option (ℕ × ℕ)) (o p : Option (List (Option Cell))) (cs ds : List (ℕ × Option Cell))
    (l m : List (Option Cell)) (r s : Option (List (ℕ × List ℕ))) (es fs : List (ℕ × (ℕ × List ℕ)))
    (a b : List (ℕ × List ℕ)) (k h : Option (List (List (ℕ × ℕ)))) (us vs : List (ℕ × List (ℕ × ℕ)))
    (n w : List (List (ℕ × ℕ))) →
    WasTurned (record { grown = p; slots = ds; more = s; stars = fs; parts = h; keys = vs })
    (record { place = pl; slots = m; keys = w; stars = b }) → IsPart o cs l p ds m → IsPart r es a s fs b →
    IsPart k us n h vs w →
    IsTurn (record { grown = o; slots = cs; more = r; stars = es; parts = k; keys = us })
    (record { place = pl; slots = l; keys = n; stars = a }) (record
    { grown = p; slots = ds; more = s; stars = fs; parts = h; keys = vs })
    (record { place = pl; slots = m; keys = w; stars = b })
turned_back pl o p cs ds l m r s es fs a b k h us vs n w was x y v =
    let t = was.turn in
    let q = was.plan in
    let c = was.bucket in
    let slots = one_part o q.grown cs q.slots l c.slots x.below t.allows.slots (sym x.grown ∙ ap (λ z. z.grown) t.plan)
    (sym x.changes ∙ ap (λ z. z.slots) t.plan) (sym x.list ∙ ap (λ z. z.slots) t.bucket) in
    let stars = one_part r q.more es q.stars a c.stars y.below t.allows.stars (sym y.grown ∙ ap (λ z. z.more) t.plan)
    (sym y.changes ∙ ap (λ z. z.stars) t.plan) (sym y.list ∙ ap (λ z. z.stars) t.bucket) in
    let keys = one_part k q.parts us q.keys n c.keys v.below t.allows.keys (sym v.grown ∙ ap (λ z. z.parts) t.plan)
    (sym v.changes ∙ ap (λ z. z.keys) t.plan) (sym v.list ∙ ap (λ z. z.keys) t.bucket) in
    subst (λ (z : PlanView). IsTurn z (record { place = pl; slots = l; keys = n; stars = a })
    (record { grown = p; slots = ds; more = s; stars = fs; parts = h; keys = vs })
    (record { place = pl; slots = m; keys = w; stars = b })) (sym
    (same_plan _ _ _ _ _ _ _ _ _ _ _ _ slots.0 slots.1 stars.0 stars.1 keys.0 keys.1))
    (subst (λ (z : Placed). IsTurn q z (record { grown = p; slots = ds; more = s; stars = fs; parts = h; keys = vs })
    (record { place = pl; slots = m; keys = w; stars = b })) (sym
    (same_placed _ _ _ _ _ _ _ _ (ap (λ z. z.place) t.bucket) slots.2 keys.2 stars.2)) t)

-- the same, of plans and buckets that are these
pub turn_same : (p p' q q' : PlanView) (b b' c c' : Placed) → p ≡ p' → b ≡ b' → q ≡ q' → c ≡ c' → IsTurn p b q c →
    IsTurn p' b' q' c'
turn_same p p' q q' b b' c c' e f g h t =
    subst (λ (z : PlanView). IsTurn z b' q' c') e (subst (λ (z : Placed). IsTurn p z q' c') f
    (subst (λ (z : PlanView). IsTurn p b z c') g (subst (λ (z : Placed). IsTurn p b q z) h t)))

-- the same of plans that can be turned back
pub was_same : (q q' : PlanView) (c c' : Placed) → q ≡ q' → c ≡ c' → WasTurned q c → WasTurned q' c'
was_same q q' c c' e f w = subst (λ (z : PlanView). WasTurned z c') e (subst (λ (z : Placed). WasTurned q z) f w)

-- the bucket after a plan
pub turn_stars : (p q : PlanView) (b c : Placed) → IsTurn p b q c → AreStars c
turn_stars p q b c t = subst AreStars (sym t.bucket) t.allows.after

-- ---- the way back of an exchange

-- an exchange that found its cells is undone by the other one, also in a bucket that is new
swapped_back_at : (place : Option (ℕ × ℕ)) (gone fresh l : List Cell) → IsStrictlySortedBy cell_cmp l →
    AreReady place gone fresh l → swapped_at place fresh gone (swapped_at place gone fresh l) ≡ l
swapped_back_at None gone fresh l s r = refl
swapped_back_at (Some w) gone fresh l s r = swapped_back w.0 w.1 gone fresh l s r.there r.absent

-- so a plan for an exchange that found its cells, turned, is one for the exchange back
pub turn_leads_back : TurnLeadsBack
turn_leads_back gone fresh p q b c plan turn ready = record {
  plan = p;
  bucket = b;
  turn = turn;
  there = plan;
  cells =
      sym (swapped_back_at b.place gone fresh (cells_of b.slots) (placed_sorted b.slots) ready)
      ∙ ap (swapped_at b.place fresh gone) (sym plan.cells ∙ sym (ap (λ (x : Placed). cells_of x.slots) turn.bucket))
      ∙ ap (λ (o : Option (ℕ × ℕ)). swapped_at o fresh gone (cells_of c.slots))
      (sym (ap (λ (x : Placed). x.place) turn.bucket));
}
