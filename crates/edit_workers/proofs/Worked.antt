-- The work on a list, pair by pair.
use Rattle.std.specs.Prelude.{◌≡◌, ◌⊎◌, ℕ, zero, suc, ◌+◌, ◌-◌, ◌<◌, ◌≤◌, Bool, true, false, List, [], ◌∷◌, ◌++◌, map}
use Rattle.std.specs.Prelude.{length, take, drop, slice_index_or}
use Rattle.std.proofs.Common.{refl, sym, ◌∙◌, ap, subst, inl, inr, arith, length-append, append-nil}
use Rattle.std.specs.List.{flat_map}
use Rattle.std.proofs.lemmas.Bool.{false≢true}
use Rattle.std.proofs.lemmas.List.{length-map, length-take, map-append, append_assoc, take_all, take-append-drop}
use Rattle.std.proofs.Math.Seq.{take-suc}
use Rattle.std.proofs.lemmas.List.Elements.{All-append}
use Rattle.list_laws.proofs.Cited.{all_of_each, each_of_all, later_append, later_pairs, not_both, pairs_later}
use Rattle.point_order.specs.Sets.{IsIn}
use Rattle.edit_history.specs.declared.history.Edit.{Edit}
use Rattle.edit_history.specs.declared.history.Entry.{Entry}
use Rattle.edit_history.specs.declared.history.Reply.{Reply}
use Rattle.edit_history.specs.OneThread.{line_of}
use Rattle.claim_table.specs.declared.view.Act.{Act}
use Rattle.claim_table.specs.declared.view.Act.TheVariants.{Claim, Miss, Commit, Release, Look}
use Rattle.grid_claims.specs.Passes.{Opened, Standing}
use Rattle.claim_table.specs.Plays.{entry_of}
use Rattle.claim_table.specs.Trails.{misses}
use Rattle.grid_claims.specs.Tries.{AreClaimsAround, IsAsBefore, IsOthersWord, IsEdited}
use Rattle.plain_laws.specs.Running.{Pair}
use Rattle.edit_workers.specs.Working.{Marked, Stretch, left_over, first_ones, AreEntriesOf, HasMade, IsWorked}
use Rattle.edit_workers.specs.Working.{IsBroken, pairs_done}
use Rattle.edit_workers.specs.Trying.{OwnsAll, HasMadeOne, HasMissed, HasMissedSome, FollowsLeft, IsLeftOver}
use Rattle.edit_workers.specs.Trying.{IsTriedAndMade, IsWorkedOn, shares_with}
use Rattle.edit_workers.proofs.Stretches.{flat_more, tried_more}
use Rattle.edit_workers.proofs.FirstOnes.{first_same, first_more, left_more, left_same, done_more, done_same, all_left}
use Rattle.edit_workers.proofs.FirstOnes.{all_parted, none_done, done_few, later_more}

-- ---- trails

-- the failed claims of two trails are those of both
pub misses_both : (a b : List Act) → misses (a ++ b) ≡ misses a + misses b
misses_both [] b = omega arith
misses_both (Claim c ∷ a) b = misses_both a b
misses_both (Miss c word ∷ a) b = let e = misses_both a b in omega (arith, e)
misses_both (Commit n ∷ a) b = misses_both a b
misses_both (Release c ∷ a) b = misses_both a b
misses_both (Look n ∷ a) b = misses_both a b

-- claims that were done are none
no_claims : (bs : List ℕ) → misses (map Claim bs) ≡ 0
no_claims [] = refl
no_claims (b ∷ bs) = no_claims bs

-- nor are releases
no_releases : (bs : List ℕ) → misses (map Release bs) ≡ 0
no_releases [] = refl
no_releases (b ∷ bs) = no_releases bs

-- the steps around some have just their failed claims
pub misses_around : (middle steps : List Act) → AreClaimsAround middle steps → misses steps ≡ misses middle
misses_around middle steps a =
    let front = map Claim a.claims in
    let behind = map Release a.releases in
    let e = ap misses a.steps_are ∙ misses_both (front ++ middle) behind in
    let f = misses_both front middle in
    let c = no_claims a.claims in
    let r = no_releases a.releases in
    omega (arith, e, f, c, r)

-- two passes that agree in all are one
pub standing_is : (a b : Standing) → a.table ≡ b.table → a.first ≡ b.first → a.parts ≡ b.parts → a.left ≡ b.left →
    a.seen ≡ b.seen → a.made ≡ b.made → a.known ≡ b.known → a.trail ≡ b.trail → a ≡ b
standing_is a b t f p l s m k r =
    λ i. record { table = t i; first = f i; parts = p i; left = l i; seen = s i; made = m i; known = k i; trail = r i }

-- ---- tries

-- before a try no claim has failed
pub tried_nothing : (p : Standing) → HasMissed 0 p p
tried_nothing p = record {
  steps = [];
  missed = refl;
  new_is = let e = sym (append-nil p.trail) in λ i. record p { trail = e i };
  others = λ l. absurd (omega (arith, l));
}

-- a word of another's: not all parts are the pass's
pub not_all : (p : Standing) (word : ℕ) → IsOthersWord p word → ¬ (OwnsAll p)
not_all p word o a = by o.others
  where
    by : (word ≤ p.first) ⊎ (p.first + p.parts < word) → ⊥
    by (inl l) = let s = o.some_pass in let f = a.0 in omega (arith, l, s, f)
    by (inr l) = let b = o.of_parts in let f = a.0 in let q = a.1 in omega (arith, l, b, f, q)

-- a claim failed
pub missed_once : (old new : Standing) (bucket word : ℕ) → IsOthersWord old word →
    IsAsBefore (Miss bucket word ∷ []) old new → HasMissed 1 old new
missed_once old new bucket word o b = record {
  steps = b.steps;
  missed = (let m = misses_around (Miss bucket word ∷ []) b.steps b.around in omega (arith, m));
  new_is = b.new_is;
  others = λ z a. not_all old word o a;
}

-- an edit was made
pub made_once : (tag : ℕ) (edit : Edit) (number : ℕ) (reply : Reply) (old new : Standing) →
    IsEdited tag edit number reply old new → HasMadeOne 1 tag edit old new
made_once tag edit number reply old new e = record {
  number = number;
  reply = reply;
  later = e.later;
  steps = e.steps;
  few = (let m : misses e.steps ≡ 0 = misses_around (Commit number ∷ []) e.steps e.around in omega (arith, m));
  new_is = e.new_is;
}

-- memory was wanting: no claim failed
pub missed_none : (old new : Standing) → IsAsBefore [] old new → HasMissed 0 old new
missed_none old new b = record {
  steps = b.steps;
  missed = misses_around [] b.steps b.around;
  new_is = b.new_is;
  others = λ z. absurd (omega (arith, z));
}

-- steps after steps, with the failed claims of both
pub missed_both : (old now new : Standing) (m n : ℕ) → HasMissed m old now → HasMissed n now new →
    HasMissed (m + n) old new
missed_both old now new m n h k =
    let n_is = h.new_is in
    let both = misses_both h.steps k.steps in
    let a = h.missed in
    let b = k.missed in
    record {
      steps = h.steps ++ k.steps;
      missed = omega (arith, both, a, b);
      new_is = k.new_is ∙ (λ i. record (n_is i) { trail = (n_is i).trail ++ k.steps })
          ∙ (let e = append_assoc old.trail h.steps k.steps in λ i. record old { trail = e i });
      others = λ z. by m refl z;
    }
  where
    same : OwnsAll old → OwnsAll now
    same o = let e = h.new_is in (
      ap (λ (p : Standing). p.first) e ∙ o.0,
      ap (λ (p : Standing). p.parts) e ∙ o.1
          ∙ ap (λ (p : Standing). p.table.parts) (sym e),
    )

    by : (c : ℕ) → m ≡ c → 0 < m + n → ¬ (OwnsAll old)
    by zero e z o = k.others (omega (arith, e, z)) (same o)
    by (suc c) e z o = h.others (omega (arith, e)) o

-- memory was wanting, after some tries
pub broken_after : (old now new : Standing) (m : ℕ) → m ≤ 64 → HasMissed m old now → HasMissed 0 now new →
    HasMissedSome old new
broken_after old now new m l h k = (m + 0, omega (arith, l), missed_both old now new m 0 h k)

-- the edit was made, after some tries
pub made_after : (tag : ℕ) (edit : Edit) (old now new : Standing) (m most : ℕ) → m < most → HasMissed m old now →
    HasMadeOne 1 tag edit now new → HasMadeOne most tag edit old new
made_after tag edit old now new m most l h e =
    let n_is = h.new_is in
    record {
      number = e.number;
      reply = e.reply;
      later = (let l = e.later in let s = ap (λ (p : Standing). p.seen) n_is in omega (arith, l, s));
      steps = h.steps ++ e.steps;
      few =
          (let both = misses_both h.steps e.steps in let a = h.missed in let b = e.few in omega (arith, both, a, b, l));
      new_is = e.new_is
          ∙ (λ i. record (n_is i) {
            left = (n_is i).left - 1;
            seen = e.number + 1;
            made =
                (n_is i).made ++ entry_of e.number (n_is i).first tag edit e.reply ∷ [];
            trail =
                (n_is i).trail ++ e.steps;
          })
          ∙ (let t = append_assoc old.trail h.steps e.steps in λ i.
          record old {
            left = old.left - 1;
            seen = e.number + 1;
            made = old.made ++ entry_of e.number old.first tag
                edit e.reply ∷ [];
            trail = t i;
          });
    }

-- ---- entries

-- nothing yet
pub worked_nothing : (p : Standing) → IsWorked [] [] p p
worked_nothing p = record {
  marked = [];
  parted = refl;
  left_is = refl;
  later = λ i j d l m. absurd (omega arith);
  entries = [];
  made = record {
    pairs_are = refl;
    by_pass = all_of_each (λ (e : Entry). e.by ≡ p.first) [] (λ x i. absurd i);
    ascending =
        later_pairs (λ (d e : Entry). d.number < e.number) [] tt;
    later =
        all_of_each (λ (e : Entry). p.seen ≤ e.number) [] (λ x i. absurd i);
  };
  steps = [];
  pass = record {
    new_is = (let l : p.left ≡ p.left - 0 = omega arith in let m = sym (append-nil p.made) in
        let t = sym (append-nil p.trail) in λ i. record p { left = l i; made = m i; trail = t i });
    later = omega arith;
    seen_all = all_of_each (λ (e : Entry). e.number < p.seen) [] (λ x i. absurd i);
  };
  stretches = [];
  pairs_are = refl;
  steps_are = refl;
  tried = tt;
  tries = omega arith;
  alone = λ f q. refl;
}

-- of no pair there is no entry
pub no_entries : (p : Standing) → AreEntriesOf p [] []
unfolding worked_nothing
no_entries p = (worked_nothing p).made

-- a pass that has made nothing is as it was
pub nothing_made : (p : Standing) → HasMade p p [] []
unfolding worked_nothing
nothing_made p = (worked_nothing p).pass

-- steps without an entry
pub made_as_before : (old now new : Standing) (entries : List Entry) (steps : List Act) (n : ℕ) →
    HasMade old now entries steps → (m : HasMissed n now new) → HasMade old new entries (steps ++ m.steps)
made_as_before old now new entries steps n h m =
    let a = h.new_is in
    let b = m.new_is in
    let seen : new.seen ≡ now.seen = ap (λ (p : Standing). p.seen) b in
    record {
      new_is =
          standing_is new (record old {
            left = old.left - length entries;
            seen = new.seen;
            made = old.made ++ entries;
            trail = old.trail ++ (steps ++ m.steps);
          })
          (ap (λ (p : Standing). p.table) b ∙ ap (λ (p : Standing). p.table) a)
          (ap (λ (p : Standing). p.first) b ∙ ap (λ (p : Standing). p.first) a)
          (ap (λ (p : Standing). p.parts) b ∙ ap (λ (p : Standing). p.parts) a)
          (ap (λ (p : Standing). p.left) b ∙ ap (λ (p : Standing). p.left) a)
          refl
          (ap (λ (p : Standing). p.made) b ∙ ap (λ (p : Standing). p.made) a)
          (ap (λ (p : Standing). p.known) b ∙ ap (λ (p : Standing). p.known) a)
          (ap (λ (p : Standing). p.trail) b ∙ ap (λ (p : Standing). p.trail ++ m.steps) a
          ∙ append_assoc old.trail steps m.steps);
      later = (let l = h.later in omega (arith, l, seen));
      seen_all = all_of_each (λ (e : Entry). e.number < new.seen) entries
          (λ e i. let l = each_of_all (λ (e : Entry). e.number < now.seen) entries h.seen_all e i in
          omega (arith, l, seen));
    }

-- an entry more
pub made_more : (old now new : Standing) (entries : List Entry) (steps : List Act) (most tag : ℕ) (edit : Edit) →
    HasMade old now entries steps → (m : HasMadeOne most tag edit now new) →
    HasMade old new (entries ++ entry_of m.number old.first tag edit m.reply ∷ []) (steps ++ m.steps)
made_more old now new entries steps most tag edit h m =
    let a = h.new_is in
    let b = m.new_is in
    let e : Entry = entry_of m.number old.first tag edit m.reply in
    let seen : new.seen ≡ m.number + 1 = ap (λ (p : Standing). p.seen) b in
    let count = length-append entries (e ∷ []) in
    let left : new.left ≡ old.left - length (entries ++ e ∷ []) =
    (let x : new.left ≡ now.left - 1 = ap (λ (p : Standing). p.left) b in let y : now.left ≡ old.left - length entries =
    ap (λ (p : Standing). p.left) a in omega (arith, x, y, count)) in
    record {
      new_is =
          standing_is new (record old {
            left = old.left - length (entries ++ e ∷ []);
            seen = new.seen;
            made = old.made ++ (entries ++ e ∷ []);
            trail = old.trail ++ (steps ++ m.steps);
          })
          (ap (λ (p : Standing). p.table) b ∙ ap (λ (p : Standing). p.table) a)
          (ap (λ (p : Standing). p.first) b ∙ ap (λ (p : Standing). p.first) a)
          (ap (λ (p : Standing). p.parts) b ∙ ap (λ (p : Standing). p.parts) a)
          left
          refl
          (ap (λ (p : Standing). p.made) b ∙ ap (λ (p : Standing). p.made ++ entry_of m.number p.first tag edit m.reply
          ∷ []) a ∙ append_assoc old.made entries (e ∷ []))
          (ap (λ (p : Standing). p.known) b ∙ ap (λ (p : Standing). p.known) a)
          (ap (λ (p : Standing). p.trail) b ∙ ap (λ (p : Standing). p.trail ++ m.steps) a
          ∙ append_assoc old.trail steps m.steps);
      later = (let l = h.later in let k = m.later in omega (arith, l, k, seen));
      seen_all = All-append (λ (e : Entry). e.number < new.seen) entries (e ∷ [])
          (all_of_each (λ (e : Entry). e.number < new.seen) entries
          (λ d i. let l = each_of_all (λ (e : Entry). e.number < now.seen) entries h.seen_all d i in
          let k = m.later in omega (arith, l, k, seen)))
          (all_of_each (λ (e : Entry). e.number < new.seen) (e ∷ []) (λ d i. last d i seen));
    }
  where
    last : (d : Entry) → IsIn d (entry_of m.number old.first tag edit m.reply ∷ []) → new.seen ≡ m.number + 1 →
        d.number < new.seen
    last d (inl q) s = let n = ap (λ (e : Entry). e.number) q in omega (arith, n, s)
    last d (inr i) s = absurd i

-- with an entry more there is one for each pair, with one more
pub entries_more : (old now new : Standing) (pairs : List Pair) (entries : List Entry) (steps : List Act) (most tag : ℕ)
    (edit : Edit) → AreEntriesOf old pairs entries → HasMade old now entries steps →
    (m : HasMadeOne most tag edit now new) →
    AreEntriesOf old (pairs ++ (tag, edit) ∷ []) (entries ++ entry_of m.number old.first tag edit m.reply ∷ [])
entries_more old now new pairs entries steps most tag edit a h m =
    let e : Entry = entry_of m.number old.first tag edit m.reply in
    record {
      pairs_are = map-append line_of entries (e ∷ []) ∙ ap (λ (l : List Pair). l ++ (tag, edit) ∷ []) a.pairs_are;
      by_pass = All-append (λ (e : Entry). e.by ≡ old.first) entries (e ∷ []) a.by_pass
          (all_of_each (λ (e : Entry). e.by ≡ old.first) (e ∷ []) (λ d i. by_it d i));
      ascending = later_pairs (λ (d e : Entry). d.number < e.number) (entries ++ e ∷ [])
          (later_append (λ (d e : Entry). d.number < e.number) entries (e ∷ [])
          (pairs_later (λ (d e : Entry). d.number < e.number) entries a.ascending) ((λ y i. absurd i), tt) across);
      later = All-append (λ (e : Entry). old.seen ≤ e.number) entries (e ∷ []) a.later
          (all_of_each (λ (e : Entry). old.seen ≤ e.number) (e ∷ []) (λ d i. above d i));
    }
  where
    by_it : (d : Entry) → IsIn d (entry_of m.number old.first tag edit m.reply ∷ []) → d.by ≡ old.first
    by_it d (inl q) = ap (λ (e : Entry). e.by) (sym q)
    by_it d (inr i) = absurd i

    across : (x y : Entry) → IsIn x entries → IsIn y (entry_of m.number old.first tag edit m.reply ∷ []) →
        x.number < y.number
    across x y i (inl q) =
        let l = each_of_all (λ (e : Entry). e.number < now.seen) entries h.seen_all x i in let k = m.later in
        let n = ap (λ (e : Entry). e.number) q in omega (arith, l, k, n)
    across x y i (inr j) = absurd j

    above : (d : Entry) → IsIn d (entry_of m.number old.first tag edit m.reply ∷ []) → old.seen ≤ d.number
    above d (inl q) =
        let l = h.later in let k = m.later in let n = ap (λ (e : Entry). e.number) q in omega (arith, l, k, n)
    above d (inr i) = absurd i

-- ---- one pair more

-- where nothing was left over no edit shares a point with it
nothing_shares : (edit : Edit) (l : List Pair) → l ≡ [] → shares_with edit l ≡ true → ⊥
nothing_shares edit l e s = false≢true (sym (ap (shares_with edit) e) ∙ s)

-- a pass that owned all parts does so still
pub still_all : (old now : Standing) (entries : List Entry) (steps : List Act) → HasMade old now entries steps →
    OwnsAll old → OwnsAll now
still_all old now entries steps h o =
    let a = h.new_is in (
      ap (λ (p : Standing). p.first) a ∙ o.0,
      ap (λ (p : Standing). p.parts) a ∙ o.1
          ∙ ap (λ (p : Standing). p.table.parts) (sym a),
    )

module _ (list left : List Pair) (pair : Pair) (old now new : Standing) (w : IsWorked list left old now) where
  -- without their marks the pairs are the list, with the one more
  parted_more : (b : Bool) → map (λ (m : Marked). m.1) (w.marked ++ (b, pair) ∷ []) ≡ list ++ pair ∷ []
  parted_more b =
      map-append (λ (m : Marked). m.1) w.marked ((b, pair) ∷ []) ∙ ap (λ (l : List Pair). l ++ pair ∷ []) w.parted

  -- without their steps the stretches are the marked pairs, with it
  stretched_more : (b : Bool) (steps : List Act) → map (λ (s : Stretch). s.0) (w.stretches ++ ((b, pair), steps) ∷ [])
      ≡ w.marked ++ (b, pair) ∷ []
  stretched_more b steps =
      map-append (λ (s : Stretch). s.0) w.stretches (((b, pair), steps) ∷ [])
      ∙ ap (λ (l : List Marked). l ++ (b, pair) ∷ []) w.pairs_are

  -- the steps of all are those of the stretches, with its own
  steps_more : (b : Bool) (steps : List Act) → w.steps ++ steps ≡ flat_map (λ (s : Stretch). s.1)
      (w.stretches ++ ((b, pair), steps) ∷ [])
  steps_more b steps = ap (λ (l : List Act). l ++ steps) w.steps_are ∙ sym (flat_more w.stretches ((b, pair), steps))

  -- what is left is what has a mark
  over_is : left ≡ left_over (map (λ (s : Stretch). s.0) w.stretches)
  over_is = w.left_is ∙ ap left_over (sym w.pairs_are)

  -- a pair more that shares a point with one left over is left over, untried
  pub worked_follows : (after : List Pair) → FollowsLeft pair left after now new →
      IsWorked (list ++ pair ∷ []) after old new
  worked_follows after f =
      let same = f.as_before in
      record {
        marked = w.marked ++ (true, pair) ∷ [];
        parted = parted_more true;
        left_is = f.behind ∙ ap (λ (l : List Pair). l ++ pair ∷ []) w.left_is ∙ sym (left_more w.marked pair);
        later = later_more w.marked (true, pair) w.later (λ i. refl);
        entries = w.entries;
        made = subst (λ (l : List Pair). AreEntriesOf old l w.entries) (sym (done_same w.marked pair)) w.made;
        steps = w.steps;
        pass = subst (λ (p : Standing). HasMade old p w.entries w.steps) (sym same) w.pass;
        stretches = w.stretches ++ ((true, pair), []) ∷ [];
        pairs_are = stretched_more true [];
        steps_are = sym (append-nil w.steps) ∙ steps_more true [];
        tried = tried_more [] w.stretches ((true, pair), []) w.tried (
          (λ t a c. absurd (not_both (shares_with pair.1 left) f.shared (ap (shares_with pair.1) over_is ∙ c))),
          omega arith,
        );
        tries = (
            let t = w.tries in
            let e = ap (first_ones []) f.behind ∙ first_same [] left pair (inr f.shared) in
            omega (arith, t, e)
            );
        alone = λ z q. absurd (nothing_shares pair.1 left (w.alone z q) f.shared);
      }

  -- one that was busy 64 times is left over
  pub worked_left : (after : List Pair) → IsLeftOver pair left after now new →
      IsWorked (list ++ pair ∷ []) after old new
  worked_left after f =
      record {
        marked = w.marked ++ (true, pair) ∷ [];
        parted = parted_more true;
        left_is = f.behind ∙ ap (λ (l : List Pair). l ++ pair ∷ []) w.left_is ∙ sym (left_more w.marked pair);
        later = later_more w.marked (true, pair) w.later (λ i. refl);
        entries = w.entries;
        made = subst (λ (l : List Pair). AreEntriesOf old l w.entries) (sym (done_same w.marked pair)) w.made;
        steps = w.steps ++ f.missed.steps;
        pass = made_as_before old now new w.entries w.steps 64 w.pass f.missed;
        stretches = w.stretches ++ ((true, pair), f.missed.steps) ∷ [];
        pairs_are = stretched_more true f.missed.steps;
        steps_are = steps_more true f.missed.steps;
        tried = tried_more [] w.stretches ((true, pair), f.missed.steps) w.tried
            ((λ t a c. f.missed.missed), (let m = f.missed.missed in omega (arith, m)));
        tries = (let t = w.tries in let e = ap (first_ones []) f.behind in let l = first_more [] left pair in
            let m = f.missed.missed in let b = misses_both w.steps f.missed.steps in omega (arith, t, e, l, m, b));
        alone = λ z q. absurd (f.missed.others (omega arith) (still_all old now w.entries w.steps w.pass (z, q)));
      }

  -- and one that was made is done
  pub worked_done : (after : List Pair) → IsTriedAndMade pair left after now new →
      IsWorked (list ++ pair ∷ []) after old new
  worked_done after f =
      record {
        marked = w.marked ++ (false, pair) ∷ [];
        parted = parted_more false;
        left_is = f.none ∙ w.left_is ∙ sym (left_same w.marked pair);
        later = later_more w.marked (false, pair) w.later (λ i. absurd
            (not_both (shares_with pair.1 left) (ap (shares_with pair.1) w.left_is ∙ i) f.first));
        entries = w.entries ++ entry_of f.made.number old.first pair.0 pair.1 f.made.reply ∷ [];
        made = subst (λ (l : List Pair). AreEntriesOf old l (w.entries ++ entry_of f.made.number old.first pair.0 pair.1
            f.made.reply ∷ [])) (sym (done_more w.marked pair))
            (entries_more old now new (pairs_done w.marked) w.entries
            w.steps 64 pair.0 pair.1 w.made w.pass f.made);
        steps = w.steps ++ f.made.steps;
        pass = made_more old now new w.entries w.steps 64 pair.0 pair.1 w.pass f.made;
        stretches = w.stretches ++ ((false, pair), f.made.steps) ∷ [];
        pairs_are = stretched_more false f.made.steps;
        steps_are = steps_more false f.made.steps;
        tried = tried_more [] w.stretches ((false, pair), f.made.steps) w.tried
            ((λ t a c. absurd (false≢true t)), (let m = f.made.few in omega (arith, m)));
        tries = (let t = w.tries in let e = ap (first_ones []) f.none in let b = misses_both w.steps f.made.steps in
            omega (arith, t, e, b));
        alone = λ z q. f.none ∙ w.alone z q;
      }

  -- so whatever comes of the pair, the list with it is worked on
  pub worked_on : (after : List Pair) → IsWorkedOn pair left after now new → IsWorked (list ++ pair ∷ []) after old new
  worked_on after (inl f) = worked_follows after f
  worked_on after (inr (inl f)) = worked_left after f
  worked_on after (inr (inr f)) = worked_done after f

-- ---- the allowance is there, and what breaks off

-- while there are pairs, and as many may be made as there are, one may be made
pub some_left : (list left : List Pair) (old now : Standing) (n : ℕ) → IsWorked list left old now → length list < n →
    n ≤ old.left → 0 < now.left
some_left list left old now n w l a =
    let e = ap (λ (p : Standing). p.left) w.pass.new_is in
    let c = sym (length-map w.entries line_of) ∙ ap length w.made.pairs_are in
    let d = done_few w.marked in
    let m = sym (length-map w.marked (λ (m : Marked). m.1)) ∙ ap length w.parted in
    omega (arith, e, c, d, m, l, a)

-- the pass stays with its table
pub same_table : (list left : List Pair) (old now : Standing) (t : Opened) → IsWorked list left old now →
    old.table ≡ t → now.table ≡ t
same_table list left old now t w e = ap (λ (p : Standing). p.table) w.pass.new_is ∙ e

-- work that lacks memory has broken off: some pairs were made
pub broken_off : (list left : List Pair) (n : ℕ) (old now new : Standing) → IsWorked (take n list) left old now →
    HasMissedSome now new → IsBroken list old new
broken_off list left n old now new w m =
    record {
      marked = w.marked ++ all_left (drop n list);
      parted = map-append (λ (m : Marked). m.1) w.marked (all_left (drop n list))
          ∙ (let e = w.parted in let f = all_parted (drop n list) in λ i. e i ++ f i) ∙ take-append-drop n list;
      entries = w.entries;
      made = subst (λ (l : List Pair). AreEntriesOf old l w.entries) (sym (none_done w.marked (drop n list))) w.made;
      steps = w.steps ++ m.2.steps;
      pass = made_as_before old now new w.entries w.steps m.0 w.pass m.2;
    }

-- ---- the loop over a list

-- the first n + 1 of a list are the first n and the one behind them
pub take_more : (l : List Pair) (n : ℕ) (x : Pair) → n < length l → x ≡ slice_index_or l n x →
    take (n + 1) l ≡ take n l ++ x ∷ []
take_more l n x b e = ap (λ (k : ℕ). take k l) (up n) ∙ take-suc l n x b ∙ ap (λ (y : Pair). take n l ++ y ∷ []) (sym e)
  where
    up : (n : ℕ) → n + 1 ≡ suc n
    up n = omega arith

-- before the first pair nothing is left
pub worked_first : (left : List Pair) (p : Standing) → left ≡ [] → IsWorked [] left p p
worked_first left p e = subst (λ (l : List Pair). IsWorked [] l p p) (sym e) (worked_nothing p)

-- one pair more of the list
pub worked_next : (list all left after : List Pair) (n : ℕ) (x : Pair) (old now new : Standing) → all ≡ list →
    n < length all → x ≡ slice_index_or all n x →
    IsWorked (take n list) left old now → IsWorkedOn x left after now new → IsWorked (take (n + 1) list) after old new
worked_next list all left after n x old now new a b e w f =
    let more : take (n + 1) list ≡ take n list ++ x ∷ [] =
    subst (λ (l : List Pair). take (n + 1) l ≡ take n l ++ x ∷ []) a (take_more all n x b e) in
    subst (λ (l : List Pair). IsWorked l after old new) (sym more)
    (worked_on (take n list) left x old now new w after f)

-- the whole list
pub worked_all : (list all left : List Pair) (n : ℕ) (old now : Standing) → all ≡ list → length all ≤ n →
    IsWorked (take n list) left old now → IsWorked list left old now
worked_all list all left n old now a b w =
    let c = ap length a in
    subst (λ (l : List Pair). IsWorked l left old now) (take_all n list (omega (arith, b, c))) w

-- what may still be made, in the middle of the list
pub left_inside : (list all left : List Pair) (n : ℕ) (old now : Standing) → all ≡ list → n < length all →
    length list ≤ old.left → IsWorked (take n list) left old now → 0 < now.left
left_inside list all left n old now a b l w =
    let c = ap length a in
    let t = length-take n list in
    some_left (take n list) left old now (length list) w (omega (arith, b, c, t)) l
