-- Pairs that are made or wait.
use Rattle.std.specs.Prelude.{◌≡◌, ◌⊎◌, ℕ, ◌+◌, ◌*◌, ◌-◌, ◌<◌, ◌≤◌, true, false, List, [], ◌∷◌, ◌++◌, map, length, take}
use Rattle.std.specs.Prelude.{All, AllPairs, IsPermutation}
use Rattle.std.proofs.Common.{refl, sym, ◌∙◌, ap, subst, inl, inr, arith, get_or, length-append, append-nil}
use Rattle.std.proofs.lemmas.Bool.{false≢true}
use Rattle.std.proofs.lemmas.List.{append_assoc, length-map, length-take, map-append, take_all}
use Rattle.std.proofs.lemmas.List.Elements.{All-append}
use Rattle.std.proofs.lemmas.List.Sorted.{IsPermutation-append_comm, IsPermutation-append_left}
use Rattle.std.proofs.lemmas.List.Sorted.{IsPermutation-append_right, IsPermutation-refl, IsPermutation-sym}
use Rattle.std.proofs.lemmas.List.Sorted.{IsPermutation-trans, length_permutation}
use Rattle.list_laws.proofs.Cited.{EachLater, all_of_each, any_true, each_of_all, from_append, in_left, in_permutation}
use Rattle.list_laws.proofs.Cited.{in_right, later_across, later_append, later_left, later_pairs, later_right}
use Rattle.list_laws.proofs.Cited.{mapped_from, pairs_later, take_next}
use Rattle.point_order.specs.Sets.{IsIn}
use Rattle.edit_history.specs.declared.history.Entry.{Entry}
use Rattle.edit_history.specs.Edits.{point_of, share_point}
use Rattle.edit_history.specs.OneThread.{line_of}
use Rattle.claim_table.specs.declared.view.Act.{Act}
use Rattle.grid_claims.specs.Passes.{Opened, Standing}
use Rattle.claim_table.specs.Plays.{entry_of}
use Rattle.plain_laws.specs.Running.{Pair}
use Rattle.edit_workers.specs.declared.rounds.Waiting.{Waiting}
use Rattle.edit_workers.specs.Running.{AscendAtPoint}
use Rattle.edit_workers.specs.Rounds.{AllFew, AllFresh, AreMadeOrWait, IsBusy, IsMadeInRound, IsTriedOrWaits}
use Rattle.edit_workers.specs.Rounds.{IsWorkedInRounds, Waits, fresh, pairs_of, tries_of, waits_with}
use Rattle.edit_workers.specs.Trying.{OwnsAll}
use Rattle.edit_workers.specs.Working.{AreEntriesOf, HasMade}
use Rattle.edit_workers.proofs.Sharing.{same_shares}
use Rattle.edit_workers.proofs.Worked.{entries_more, made_as_before, made_more, misses_both, no_entries, nothing_made}
use Rattle.edit_workers.proofs.Worked.{standing_is, still_all}

-- ---- lists of pairs, some of which come first

-- one pair alone stands by its tag
single : (x : Pair) → EachLater AscendAtPoint (x ∷ [])
single x = ((λ y i. absurd i), tt)

module _ (list made kept : List Pair) (x : Pair) (same : IsPermutation list (made ++ kept))
    (order : AllPairs AscendAtPoint list → AllPairs AscendAtPoint (made ++ kept)) where
  -- one more that waits
  same_waits : IsPermutation (list ++ x ∷ []) (made ++ (kept ++ x ∷ []))
  same_waits =
      subst (IsPermutation (list ++ x ∷ [])) (append_assoc made kept (x ∷ []))
      (IsPermutation-append_left (x ∷ []) list (made ++ kept) same)

  -- and one more that is made
  same_made : IsPermutation (list ++ x ∷ []) ((made ++ x ∷ []) ++ kept)
  same_made =
      IsPermutation-trans (list ++ x ∷ []) (made ++ (kept ++ x ∷ [])) ((made ++ x ∷ []) ++ kept) same_waits
      (subst (IsPermutation (made ++ (kept ++ x ∷ []))) (sym (append_assoc made (x ∷ []) kept))
      (IsPermutation-append_right made (kept ++ x ∷ []) (x ∷ kept) (IsPermutation-append_comm kept (x ∷ []))))

  module _ (ascend : AllPairs AscendAtPoint (list ++ x ∷ [])) where
    -- pairs of one point stand by their tags, with the one more
    later : EachLater AscendAtPoint (list ++ x ∷ [])
    later = pairs_later AscendAtPoint (list ++ x ∷ []) ascend

    -- so do those made with those that wait behind them
    was : EachLater AscendAtPoint (made ++ kept)
    was =
        pairs_later AscendAtPoint (made ++ kept)
        (order (later_pairs AscendAtPoint list (later_left AscendAtPoint list (x ∷ []) later)))

    -- each of these has a lower tag than the one more if the points are one
    before : (y z : Pair) → IsIn y (made ++ kept) → IsIn z (x ∷ []) → AscendAtPoint y z
    before y z i j =
        later_across AscendAtPoint list (x ∷ []) later y z
        (in_permutation (made ++ kept) list y (IsPermutation-sym list (made ++ kept) same) i) j

    -- so they do with it behind those that wait
    order_waits : AllPairs AscendAtPoint (made ++ (kept ++ x ∷ []))
    order_waits =
        later_pairs AscendAtPoint (made ++ (kept ++ x ∷ []))
        (subst (EachLater AscendAtPoint) (append_assoc made kept (x ∷ []))
        (later_append AscendAtPoint (made ++ kept) (x ∷ []) was (single x) before))

    -- and with it behind those made, where none that waits is of its point
    order_made : ((z : Pair) → IsIn z kept → point_of x.1 ≡ point_of z.1 → ⊥) →
        AllPairs AscendAtPoint ((made ++ x ∷ []) ++ kept)
    order_made apart =
        later_pairs AscendAtPoint ((made ++ x ∷ []) ++ kept)
        (later_append AscendAtPoint (made ++ x ∷ []) kept
        (later_append AscendAtPoint made (x ∷ []) (later_left AscendAtPoint made kept was) (single x)
        (λ y z i j. before y z (in_left y made kept i) j))
        (later_right AscendAtPoint made kept was) across)
      where
        across : (y z : Pair) → IsIn y (made ++ x ∷ []) → IsIn z kept → AscendAtPoint y z
        across y z i j = elim (from_append y made (x ∷ []) i) [
          | inl k ↦ later_across AscendAtPoint made kept was y z k j
          | inr (inl e) ↦ λ one. absurd (apart z j (ap (λ (p : Pair). point_of p.1) e ∙ one))
          | inr (inr k) ↦ absurd k
        ]

-- what shares no point with those that wait is of none of their points
apart_waits : (x : Pair) (kept : List Waiting) → waits_with x.1 kept ≡ false → (z : Pair) → IsIn z (pairs_of kept) →
    point_of x.1 ≡ point_of z.1 → ⊥
apart_waits x kept none z i one =
    let w = mapped_from (λ (w : Waiting). w.pair) z kept i in
    let shared = same_shares w.0.pair.1 x.1 (ap (λ (p : Pair). point_of p.1) w.2 ∙ sym one) in
    false≢true (sym none ∙ any_true (λ (w : Waiting). share_point w.pair.1 x.1) kept w.0 w.1 shared)

-- ---- lists of those that wait

-- the pairs of those that wait, with one more
pairs_more : (l : List Waiting) (one : Waiting) → pairs_of (l ++ one ∷ []) ≡ pairs_of l ++ one.pair ∷ []
pairs_more l one = map-append (λ (w : Waiting). w.pair) l (one ∷ [])

-- and how often they were tried
tries_more : (l : List Waiting) (one : Waiting) → tries_of (l ++ one ∷ []) ≡ tries_of l + one.tries
tries_more [] one = omega arith
tries_more (x ∷ l) one = omega (arith, tries_more l one)

-- what holds of all with one more
module _ (P : Waiting → Type 0) (l : List Waiting) (one : Waiting) (all : All P (l ++ one ∷ [])) where
  -- it holds of all before
  all_first : All P l
  all_first = all_of_each P l (λ x i. each_of_all P (l ++ one ∷ []) all x (in_left x l (one ∷ []) i))

  -- and of the one
  last_one : P one
  last_one = each_of_all P (l ++ one ∷ []) all one (in_right one l (one ∷ []) (inl refl))

-- and where it does, of all with it
all_more : (P : Waiting → Type 0) (l : List Waiting) (one : Waiting) → All P l → P one → All P (l ++ one ∷ [])
all_more P l one all p =
    All-append P l (one ∷ []) all
    (all_of_each P (one ∷ []) (λ x i. elim i [ inl e ↦ subst P e p | inr j ↦ absurd j ]))

-- ---- one pair more

-- all wait
pub all_wait : (l : List Waiting) (p : Standing) → AreMadeOrWait l l p p
all_wait l p = record {
  made = [];
  entries = [];
  steps = [];
  entries_are = no_entries p;
  pass = nothing_made p;
  same = IsPermutation-refl (pairs_of l);
  order = λ h. h;
  few = λ h. h;
  tries = omega arith;
  alone = λ o f. (refl, f);
}

module _ (list kept : List Waiting) (one : Waiting) (old now : Standing) (w : AreMadeOrWait list kept old now) where
  -- the pairs with one more are those made, those that wait, and that one
  same_is : IsPermutation (pairs_of list ++ one.pair ∷ []) (w.made ++ (pairs_of kept ++ one.pair ∷ []))
  same_is = same_waits (pairs_of list) w.made (pairs_of kept) one.pair w.same w.order

  -- so it is where that one waits with another number of tries
  same_all : (last : Waiting) → last.pair ≡ one.pair →
      IsPermutation (pairs_of (list ++ one ∷ [])) (w.made ++ pairs_of (kept ++ last ∷ []))
  same_all last e =
      let a = pairs_more kept last ∙ ap (λ (p : Pair). pairs_of kept ++ p ∷ []) e in
      subst (λ (l : List Pair). IsPermutation l (w.made ++ pairs_of (kept ++ last ∷ []))) (sym (pairs_more list one))
      (subst (λ (l : List Pair). IsPermutation (pairs_of list ++ one.pair ∷ []) (w.made ++ l)) (sym a) same_is)

  -- and they stand by their tags where the points are one
  order_all : (last : Waiting) → last.pair ≡ one.pair → AllPairs AscendAtPoint (pairs_of (list ++ one ∷ [])) →
      AllPairs AscendAtPoint (w.made ++ pairs_of (kept ++ last ∷ []))
  order_all last e h =
      let a = pairs_more kept last ∙ ap (λ (p : Pair). pairs_of kept ++ p ∷ []) e in
      subst (λ (l : List Pair). AllPairs AscendAtPoint (w.made ++ l)) (sym a)
      (order_waits (pairs_of list) w.made (pairs_of kept) one.pair w.same w.order
      (subst (AllPairs AscendAtPoint) (pairs_more list one) h))

  -- it waits untried
  pub one_waits : AreMadeOrWait (list ++ one ∷ []) (kept ++ one ∷ []) old now
  one_waits = record {
    made = w.made;
    entries = w.entries;
    steps = w.steps;
    entries_are = w.entries_are;
    pass = w.pass;
    same = same_all one refl;
    order = order_all one refl;
    few = λ h. all_more (λ (x : Waiting). x.tries ≤ 64) kept one
        (w.few (all_first (λ (x : Waiting). x.tries ≤ 64) list one h))
        (last_one (λ (x : Waiting). x.tries ≤ 64) list one h);
    tries = (let t = w.tries in omega (arith, t, tries_more list one, tries_more kept one));
    alone = λ o f.
        let a = w.alone o (all_first (λ (x : Waiting). x.tries ≡ 0) list one f) in (
          ap (λ (l : List Pair). w.made ++ l) (pairs_more kept one)
              ∙ sym (append_assoc w.made (pairs_of kept) (one.pair ∷ []))
              ∙ ap (λ (l : List Pair). l ++ one.pair ∷ []) a.0
              ∙ sym (pairs_more list one),
          all_more (λ (x : Waiting). x.tries ≡ 0) kept one a.1 (last_one (λ (x : Waiting). x.tries ≡ 0) list one f),
        );
  }

  module _ (after : List Waiting) (new : Standing) where
    -- a pair that waits behind one of its point leaves each pair made or waiting
    waited : Waits one kept after now new → AreMadeOrWait (list ++ one ∷ []) after old new
    waited f =
        subst (λ (l : List Waiting). AreMadeOrWait (list ++ one ∷ []) l old new) (sym f.behind)
        (subst (λ (p : Standing). AreMadeOrWait (list ++ one ∷ []) (kept ++ one ∷ []) old p) (sym f.as_before)
        one_waits)

    -- so does one that was busy, which waits once more
    busy : IsBusy one kept after now new → AreMadeOrWait (list ++ one ∷ []) after old new
    busy f =
        let last : Waiting = record one { tries = one.tries + 1 } in
        subst (λ (l : List Waiting). AreMadeOrWait (list ++ one ∷ []) l old new) (sym f.behind) (record {
          made = w.made;
          entries = w.entries;
          steps = w.steps ++ f.missed.steps;
          entries_are = w.entries_are;
          pass = made_as_before old now new w.entries w.steps 1 w.pass f.missed;
          same = same_all last refl;
          order = order_all last refl;
          few = λ h. all_more (λ (x : Waiting). x.tries ≤ 64) kept last
              (w.few (all_first (λ (x : Waiting). x.tries ≤ 64) list one h))
              (let few = f.few in omega (arith, few));
          tries = (
              let t = w.tries in
              let m = f.missed.missed in
              omega (arith, t, m, misses_both w.steps f.missed.steps, tries_more list one, tries_more kept last)
              );
          alone = λ o g. absurd (f.missed.others (omega arith) (still_all old now w.entries w.steps w.pass o));
        })

    -- and one that was made
    is_made : (OwnsAll old → AllFresh list → kept ≡ []) → IsMadeInRound one kept after now new →
        AreMadeOrWait (list ++ one ∷ []) after old new
    is_made none f =
        let x : Pair = one.pair in
        let e : Entry = entry_of f.made.number old.first x.0 x.1 f.made.reply in
        subst (λ (l : List Waiting). AreMadeOrWait (list ++ one ∷ []) l old new) (sym f.same) (record {
          made = w.made ++ x ∷ [];
          entries = w.entries ++ e ∷ [];
          steps = w.steps ++ f.made.steps;
          entries_are = entries_more old now new w.made w.entries w.steps 1 x.0 x.1 w.entries_are w.pass f.made;
          pass = made_more old now new w.entries w.steps 1 x.0 x.1 w.pass f.made;
          same =
              subst (λ (l : List Pair). IsPermutation l ((w.made ++ x ∷ []) ++ pairs_of kept))
              (sym (pairs_more list one))
              (same_made (pairs_of list) w.made (pairs_of kept) x w.same w.order);
          order = λ h. order_made (pairs_of list) w.made (pairs_of kept) x w.same w.order
              (subst (AllPairs AscendAtPoint) (pairs_more list one) h) (apart_waits x kept f.apart);
          few = λ h. w.few (all_first (λ (x : Waiting). x.tries ≤ 64) list one h);
          tries = (
              let t = w.tries in
              let m = f.made.few in
              let few = f.few in
              omega (
                arith,
                t,
                m,
                few,
                misses_both w.steps f.made.steps,
                tries_more list one,
                length-append w.made (x ∷ []),
              )
              );
          alone = λ o g.
              let first = all_first (λ (x : Waiting). x.tries ≡ 0) list one g in
              let a = w.alone o first in
              let k = none o first in (
                ap (λ (l : List Waiting). (w.made ++ x ∷ []) ++ pairs_of l) k
                    ∙ append-nil (w.made ++ x ∷ [])
                    ∙ ap (λ (l : List Pair). l ++ x ∷ []) (sym (append-nil w.made)
                    ∙ ap (λ (l : List Waiting). w.made ++ pairs_of l) (sym k) ∙ a.0)
                    ∙ sym (pairs_more list one),
                a.1,
              );
        })

  module _ (none : OwnsAll old → AllFresh list → kept ≡ []) (after : List Waiting) (new : Standing) where
    -- so whatever comes of a pair, those so far are made or wait
    pub tried_one : IsTriedOrWaits one kept after now new → AreMadeOrWait (list ++ one ∷ []) after old new
    tried_one (inl f) = waited after new f
    tried_one (inr (inl f)) = busy after new f
    tried_one (inr (inr f)) = is_made after new none f

    -- a pass that owns all parts makes it
    pub none_waits : IsTriedOrWaits one kept after now new → OwnsAll old → AllFresh (list ++ one ∷ []) → after ≡ []
    none_waits t o g = by t
      where
        k : kept ≡ []
        k = none o (all_first (λ (x : Waiting). x.tries ≡ 0) list one g)

        zero_tries : one.tries ≡ 0
        zero_tries = last_one (λ (x : Waiting). x.tries ≡ 0) list one g

        why_not : (one.tries ≡ 64) ⊎ (waits_with one.pair.1 kept ≡ true) → ⊥
        why_not (inl e) = let z = zero_tries in omega (arith, e, z)
        why_not (inr e) = false≢true (sym (ap (waits_with one.pair.1) k) ∙ e)

        by : IsTriedOrWaits one kept after now new → after ≡ []
        by (inl f) = absurd (why_not f.why)
        by (inr (inl f)) = absurd (f.missed.others (omega arith) (still_all old now w.entries w.steps w.pass o))
        by (inr (inr f)) = f.same ∙ k

-- ---- rounds after rounds

module _ (old now new : Standing) (first second : List Entry) (front behind : List Act)
    (h : HasMade old now first front) (k : HasMade now new second behind) where
  -- what is made in two stretches is made in one
  made_both : HasMade old new (first ++ second) (front ++ behind)
  made_both =
      let a = h.new_is in
      let b = k.new_is in
      record {
        new_is = standing_is new (record old {
          left = old.left - length (first ++ second);
          seen = new.seen;
          made = old.made ++ (first ++ second);
          trail = old.trail ++ (front ++ behind);
        })
            (ap (λ (p : Standing). p.table) b ∙ ap (λ (p : Standing). p.table) a)
            (ap (λ (p : Standing). p.first) b ∙ ap (λ (p : Standing). p.first) a)
            (ap (λ (p : Standing). p.parts) b ∙ ap (λ (p : Standing). p.parts) a)
            (let e = ap (λ (p : Standing). p.left) b in
            let f = ap (λ (p : Standing). p.left) a in
            omega (arith, e, f, length-append first second))
            refl
            (ap (λ (p : Standing). p.made) b ∙ ap (λ (p : Standing). p.made ++ second) a
            ∙ append_assoc old.made first second)
            (ap (λ (p : Standing). p.known) b ∙ ap (λ (p : Standing). p.known) a)
            (ap (λ (p : Standing). p.trail) b ∙ ap (λ (p : Standing). p.trail ++ behind) a
            ∙ append_assoc old.trail front behind);
        later = (let l = h.later in let m = k.later in omega (arith, l, m));
        seen_all = All-append (λ (e : Entry). e.number < new.seen) first second
            (all_of_each (λ (e : Entry). e.number < new.seen) first (λ e i.
            let l = each_of_all (λ (e : Entry). e.number < now.seen) first h.seen_all e i in
            let m = k.later in
            omega (arith, l, m))) k.seen_all;
      }

  -- and so are the entries of the pairs of both
  entries_both : (p q : List Pair) → AreEntriesOf old p first → AreEntriesOf now q second →
      AreEntriesOf old (p ++ q) (first ++ second)
  entries_both p q a b = record {
    pairs_are = map-append line_of first second ∙ (λ i. a.pairs_are i ++ b.pairs_are i);
    by_pass = All-append (λ (e : Entry). e.by ≡ old.first) first second a.by_pass
        (all_of_each (λ (e : Entry). e.by ≡ old.first) second
        (λ e i. each_of_all (λ (e : Entry). e.by ≡ now.first) second b.by_pass e i
        ∙ ap (λ (p : Standing). p.first) h.new_is));
    ascending = later_pairs (λ (d e : Entry). d.number < e.number) (first ++ second)
        (later_append (λ (d e : Entry). d.number < e.number) first second
        (pairs_later (λ (d e : Entry). d.number < e.number) first a.ascending)
        (pairs_later (λ (d e : Entry). d.number < e.number) second b.ascending)
        (λ d e i j.
        let l = each_of_all (λ (e : Entry). e.number < now.seen) first h.seen_all d i in
        let m = each_of_all (λ (e : Entry). now.seen ≤ e.number) second b.later e j in
        omega (arith, l, m)));
    later = All-append (λ (e : Entry). old.seen ≤ e.number) first second a.later
        (all_of_each (λ (e : Entry). old.seen ≤ e.number) second (λ e i.
        let l = each_of_all (λ (e : Entry). now.seen ≤ e.number) second b.later e i in
        let m = h.later in
        omega (arith, l, m)));
  }

-- what waits after a round goes into the next
module _ (list middle waiting : List Waiting) (old now new : Standing) (a : AreMadeOrWait list middle old now)
    (b : AreMadeOrWait middle waiting now new) where
  -- the pairs that were made in both
  abbrev all_made : List Pair
  all_made = a.made ++ b.made

  -- those made before and those that waited then are those made in both and those that wait now
  behind_same : IsPermutation (a.made ++ pairs_of middle) (all_made ++ pairs_of waiting)
  behind_same =
      subst (IsPermutation (a.made ++ pairs_of middle)) (sym (append_assoc a.made b.made (pairs_of waiting)))
      (IsPermutation-append_right a.made (pairs_of middle) (b.made ++ pairs_of waiting) b.same)

  -- and they stand by their tags where the points are one
  both_order : AllPairs AscendAtPoint (pairs_of list) → AllPairs AscendAtPoint (all_made ++ pairs_of waiting)
  both_order h =
      let rest = b.made ++ pairs_of waiting in
      let was = pairs_later AscendAtPoint (a.made ++ pairs_of middle) (a.order h) in
      let next = pairs_later AscendAtPoint rest
      (b.order (later_pairs AscendAtPoint (pairs_of middle) (later_right AscendAtPoint a.made (pairs_of middle)
      was))) in
      later_pairs AscendAtPoint (all_made ++ pairs_of waiting)
      (subst (EachLater AscendAtPoint) (sym (append_assoc a.made b.made (pairs_of waiting)))
      (later_append AscendAtPoint a.made rest (later_left AscendAtPoint a.made (pairs_of middle) was) next
      (λ y z i j. later_across AscendAtPoint a.made (pairs_of middle) was y z i
      (in_permutation rest (pairs_of middle) z (IsPermutation-sym (pairs_of middle) rest b.same) j))))

  -- so after both rounds each pair is made or waits
  pub both_rounds : AreMadeOrWait list waiting old new
  both_rounds = record {
    made = all_made;
    entries = a.entries ++ b.entries;
    steps = a.steps ++ b.steps;
    entries_are =
        entries_both old now new a.entries b.entries a.steps b.steps a.pass b.pass a.made b.made a.entries_are
        b.entries_are;
    pass = made_both old now new a.entries b.entries a.steps b.steps a.pass b.pass;
    same =
        IsPermutation-trans (pairs_of list) (a.made ++ pairs_of middle) (all_made ++ pairs_of waiting) a.same
        behind_same;
    order = both_order;
    few = λ h. b.few (a.few h);
    tries = (
        let s = a.tries in
        let t = b.tries in
        omega (arith, s, t, misses_both a.steps b.steps, length-append a.made b.made)
        );
    alone = λ o f.
        let s = a.alone o f in
        let t = b.alone (still_all old now a.entries a.steps a.pass o) s.1 in (
          append_assoc a.made b.made (pairs_of waiting) ∙ ap (λ (l : List Pair). a.made ++ l) t.0 ∙ s.0,
          t.1,
        );
  }

-- ---- what may still be made

-- as many as were made are no longer allowed
pub still_left : (list waiting : List Waiting) (old now : Standing) (n : ℕ) → AreMadeOrWait list waiting old now →
    length list ≤ n → n ≤ old.left → n - length list + length waiting ≤ now.left
still_left list waiting old now n w l m =
    let e = ap (λ (p : Standing). p.left) w.pass.new_is in
    let c = sym (length-map w.entries line_of) ∙ ap length w.entries_are.pairs_are in
    let s = length_permutation (pairs_of list) (w.made ++ pairs_of waiting) w.same in
    omega (
      arith,
      e,
      c,
      s,
      l,
      m,
      length-append w.made (pairs_of waiting),
      length-map list (λ (x : Waiting). x.pair),
      length-map waiting (λ (x : Waiting). x.pair),
    )

-- the pass stays with its table
pub one_table : (list waiting : List Waiting) (old now : Standing) (t : Opened) → AreMadeOrWait list waiting old now →
    old.table ≡ t → now.table ≡ t
one_table list waiting old now t w e = ap (λ (p : Standing). p.table) w.pass.new_is ∙ e

-- ---- the loop of a round

-- before the first pair nothing is made and nothing waits
pub round_first : (kept : List Waiting) (p : Standing) → kept ≡ [] → AreMadeOrWait [] kept p p
round_first kept p e = subst (λ (l : List Waiting). AreMadeOrWait [] l p p) (sym e) (all_wait [] p)

module _ (list kept : List Waiting) (n : ℕ) (old now : Standing) (w : AreMadeOrWait (take n list) kept old now) where
  -- while there are pairs, and as many may be made as there are, one may be made
  pub round_left : n < length list → length list ≤ old.left → 0 < now.left
  round_left l m =
      let s =
      still_left (take n list) kept old now (length list) w (let t = length-take n list in omega (arith, t, l)) m in
      let t = length-take n list in
      omega (arith, s, t, l)

  -- with the next pair tried, one more is made or waits
  pub round_next : (after : List Waiting) (x : Waiting) (new : Standing) → n < length list → x ≡ get_or list n x →
      (OwnsAll old → AllFresh (take n list) → kept ≡ []) → IsTriedOrWaits x kept after now new →
      AreMadeOrWait (take (n + 1) list) after old new × (OwnsAll old → AllFresh (take (n + 1) list) → after ≡ [])
  round_next after x new l e none t =
      let more = sym (take_next list n x l e) in (
        subst (λ (l : List Waiting). AreMadeOrWait l after old new) more
            (tried_one (take n list) kept x old now w none after new t),
        λ o f. none_waits (take n list) kept x old now w none after new t o (subst AllFresh (sym more) f),
      )

  -- at the end of the list all are made or wait
  pub round_all : length list ≤ n → AreMadeOrWait list kept old now
  round_all l = subst (λ (l : List Waiting). AreMadeOrWait l kept old now) (take_all n list l) w

-- ---- the last rounds

-- where nothing waits but what was not tried, a pass that owns all parts makes it
pub last_round : (list kept after : List Waiting) (old now : Standing) → AreMadeOrWait list kept old now →
    (OwnsAll now → AllFresh kept → after ≡ []) → OwnsAll old → AllFresh list → after ≡ []
last_round list kept after old now w none o f =
    none (still_all old now w.entries w.steps w.pass o) ((w.alone o f).1)

-- as many may still be made as wait
pub allowed : (list waiting : List Waiting) (old now : Standing) → AreMadeOrWait list waiting old now →
    length list ≤ old.left → length waiting ≤ now.left
allowed list waiting old now w l =
    let s = still_left list waiting old now (length list) w (omega arith) l in omega (arith, s)

-- ---- pairs that were not tried

-- pairs that were not tried were tried at most 64 times
pub fresh_few : (l : List Pair) → AllFew (map fresh l)
fresh_few l =
    all_of_each (λ (x : Waiting). x.tries ≤ 64) (map fresh l) (λ x i.
    let y = mapped_from fresh x l i in
    let e = ap (λ (x : Waiting). x.tries) y.2 in
    omega (arith, e))

-- they are all fresh
all_fresh : (l : List Pair) → AllFresh (map fresh l)
all_fresh l =
    all_of_each (λ (x : Waiting). x.tries ≡ 0) (map fresh l)
    (λ x i. let y = mapped_from fresh x l i in sym (ap (λ (x : Waiting). x.tries) y.2))

-- they are the pairs themselves
fresh_pairs : (l : List Pair) → pairs_of (map fresh l) ≡ l
fresh_pairs [] = refl
fresh_pairs (x ∷ l) = ap (λ (t : List Pair). x ∷ t) (fresh_pairs l)

-- they have no tries
no_tries : (l : List Pair) → tries_of (map fresh l) ≡ 0
no_tries [] = refl
no_tries (x ∷ l) = let e = no_tries l in omega (arith, e)

-- pairs of at most 64 tries have at most 64 times as many as there are pairs
few_tries : (l : List Waiting) → AllFew l → tries_of l ≤ 64 * length l
few_tries [] h = omega arith
few_tries (x ∷ l) h =
    let first = each_of_all (λ (x : Waiting). x.tries ≤ 64) (x ∷ l) h x (inl refl) in
    let r = few_tries l (all_of_each (λ (x : Waiting). x.tries ≤ 64) l
    (λ y i. each_of_all (λ (x : Waiting). x.tries ≤ 64) (x ∷ l) h y (inr i))) in
    omega (arith, first, r)

-- ---- the loop over a list

-- before the first pair of the list nothing waits
pub list_first : (list : List Pair) (kept : List Waiting) (p : Standing) → kept ≡ [] →
    AreMadeOrWait (map fresh (take 0 list)) kept p p
list_first list kept p e = round_first kept p e

module _ (list : List Pair) (waiting : List Waiting) (n : ℕ) (old now : Standing)
    (w : AreMadeOrWait (map fresh (take n list)) waiting old now) where
  -- while there are pairs, more may be made than wait
  pub list_left : n < length list → length list ≤ old.left → length waiting < now.left
  list_left l m =
      let c = length-map (take n list) fresh in
      let t = length-take n list in
      let s = still_left (map fresh (take n list)) waiting old now (length list) w (omega (arith, c, t, l)) m in
      omega (arith, s, c, t, l)

  -- none that waits was tried more than 64 times
  pub list_few : AllFew waiting
  list_few = w.few (fresh_few (take n list))

  -- with the next pair among those that wait, and a round, one more is made or waits
  pub list_next : (after : List Waiting) (x : Pair) (new : Standing) → n < length list → x ≡ get_or list n x →
      AreMadeOrWait (waiting ++ fresh x ∷ []) after now new →
      AreMadeOrWait (map fresh (take (n + 1) list)) after old new
  list_next after x new l e f =
      let came = one_waits (map fresh (take n list)) waiting (fresh x) old now w in
      let more = ap (map fresh) (take_next list n x l e) ∙ map-append fresh (take n list) (x ∷ []) in
      subst (λ (l : List Waiting). AreMadeOrWait l after old new) (sym more)
      (both_rounds (map fresh (take n list) ++ fresh x ∷ []) (waiting ++ fresh x ∷ []) after old now new came f)

  -- at the end of the list all its pairs are made or wait
  pub list_all : length list ≤ n → AreMadeOrWait (map fresh list) waiting old now
  list_all l = subst (λ (l : List Pair). AreMadeOrWait (map fresh l) waiting old now) (take_all n list l) w

-- the list is done: what still waits is left over
pub list_done : (list left : List Pair) (waiting kept : List Waiting) (old now new : Standing) →
    AreMadeOrWait (map fresh list) waiting old now → AreMadeOrWait waiting kept now new →
    (OwnsAll now → AllFresh waiting → kept ≡ []) → left ≡ pairs_of kept → IsWorkedInRounds list left old new
list_done list left waiting kept old now new w f none e =
    let all = both_rounds (map fresh list) waiting kept old now new w f in
    let p = fresh_pairs list in
    let behind = ap (λ (l : List Pair). all.made ++ l) (sym e) in
    let same = subst (λ (l : List Pair). IsPermutation l (all.made ++ left)) p
    (subst (IsPermutation (pairs_of (map fresh list))) behind all.same) in
    record {
      made = all.made;
      entries = all.entries;
      steps = all.steps;
      entries_are = all.entries_are;
      pass = all.pass;
      same = same;
      order = λ h.
          subst (AllPairs AscendAtPoint) behind (all.order (subst (AllPairs AscendAtPoint) (sym p) h));
      few = (
          let t = all.tries in
          let z = no_tries list in
          let b = few_tries kept (all.few (fresh_few list)) in
          let s = length_permutation list (all.made ++ left) same in
          let k = ap length e ∙ length-map kept (λ (x : Waiting). x.pair) in
          omega (arith, t, z, b, s, k, length-append all.made left)
          );
      alone = λ o.
          let a = all.alone o (all_fresh list) in
          let empty = last_round (map fresh list) waiting kept old now w none o (all_fresh list) in (
            e ∙ ap pairs_of empty,
            sym (append-nil all.made) ∙ ap (λ (l : List Waiting). all.made ++ pairs_of l) (sym empty) ∙ a.0 ∙ p,
          );
    }
