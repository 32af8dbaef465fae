-- A commit keeps the rule: at the ticket step the pass's view has the shares of the new history, and its trail the
-- buckets that the edit touched.
use Rattle.std.specs.Prelude.{◌≡◌, ◌≢◌, ℕ, zero, suc, ◌+◌, ◌-◌, ◌^◌, ◌%◌, ◌<◌, ◌≤◌, Bool, true, false, cond, List, []}
use Rattle.std.specs.Prelude.{◌∷◌, ◌++◌, drop, take, Some, length, slice_index, slice_index_or, slice_set, ltb}
use Rattle.std.specs.List.{filter}
use Rattle.std.specs.Option.{option_map, option_map_or}
use Rattle.std.proofs.Common.{refl, sym, ◌∙◌, ap, subst, inl, inr, arith, length-set}
use Rattle.std.proofs.Math.Nat.{mod-eq_of_lt}
use mathlib.Core.Option.{some, some-injective}
use lib.ListN.{get_elem?}
use Rattle.atomic_table.specs.Table.{keeps, stepped}
use Rattle.atomic_table.proofs.Lists.{at_last}
use Rattle.list_laws.specs.Lists.{AreDistinct}
use Rattle.edit_history.specs.Edits.{HasKeys}
use Rattle.point_order.specs.Sets.{IsIn}
use Rattle.edit_history.specs.declared.history.Edit.{Edit}
use Rattle.edit_history.specs.declared.history.Entry.{Entry}
use Rattle.edit_history.specs.declared.history.Reply.{Reply}
use Rattle.edit_history.specs.Edits.{reply_to}
use Rattle.edit_history.specs.Histories.{replay}
use Rattle.claim_rule.specs.Boards.{BoardState, view_at, is_by, made_by, left_in}
use Rattle.claim_rule.specs.Good.{IsGood, StartsWith, AreSharesOf}
use Rattle.claim_rule.specs.Events.{committed, entry_after, renewed_from}
use Rattle.cell_store.specs.Touches.{HoldTouched}
use Rattle.cell_store.proofs.Cited.{stands_shows}
use Rattle.claim_rule.specs.Boards.{in_hand_of}
use Rattle.claim_rule.proofs.Cited.{by_parts, commit_keeps, left_one, length_more, parts_by, renewed_back}
use Rattle.claim_rule.proofs.Cited.{renewed_length, renewed_there, starts_more}
use Rattle.claim_table.specs.declared.view.Key.{Key}
use Rattle.claim_table.specs.declared.view.View.{View}
use Rattle.claim_table.specs.declared.view.Act.{Act as Deed}
use Rattle.claim_table.specs.declared.view.Act.TheVariants.{Claim, Miss, Commit, Release, Look}
use Rattle.claim_table.specs.Faces.{buckets_of, opening_of, plain, plain_child, passes_of, passes_in, board_of}
use Rattle.claim_table.specs.Trails.{in_hand, in_hand_after, AreStepsFrom, IsStepOf, IsCommitOf, IsExact, AreAllTouched}
use Rattle.claim_table.specs.Rule.{IsSeatInOrder, IsRule}
use Rattle.claim_table.specs.Plays.{Seated, commits, Committed, IsReady, HandStands, HandShows, entry_of}
use Rattle.claim_table.proofs.Boarded.{Table, Live, alone, shown, views_set, seats_differ, own_pass}
use Rattle.claim_table.proofs.LivePasses.{passes_to}
use Rattle.claim_table.specs.declared.view.Child.{Child}
use Rattle.list_laws.proofs.Cited.{each_of_all}
use Rattle.claim_table.proofs.Trailed.{in_hand_snoc, steps_snoc}
use Rattle.claim_table.specs.Reached.{IsLedTo}
use Rattle.claim_table.proofs.Reached.{reached_commit}
use Rattle.claim_table.proofs.Claims.{IsAlone, below, on_board, hand_stands, set_rule, Taken}

-- ---- a history with one more entry

-- as many of the entries as were there before one more came are those
taken_all : (h : List Entry) (e : Entry) → take (length h) (h ++ e ∷ []) ≡ h
taken_all [] e = refl
taken_all (d ∷ h) e = ap (λ (l : List Entry). d ∷ l) (taken_all h e)

-- and so it is with fewer
taken_more : (n : ℕ) (h : List Entry) (e : Entry) → n < length h → take n (h ++ e ∷ []) ≡ take n h
taken_more n [] e l = absurd (omega arith)
taken_more zero (d ∷ h) e l = refl
taken_more (suc n) (d ∷ h) e l = ap (λ (m : List Entry). d ∷ m) (taken_more n h e (omega arith))

-- an entry at a place before the new one was there
older : (n : ℕ) (h : List Entry) (e d : Entry) → n < length h → get_elem? (h ++ e ∷ []) n ≡ some d →
    get_elem? h n ≡ some d
older n [] e d l q = absurd (omega arith)
older zero (x ∷ h) e d l q = q
older (suc n) (x ∷ h) e d l q = older n h e d (omega arith) q

-- a commit of the history before is one of the history after
commit_grows : (g : ℕ) (h : List Entry) (e : Entry) (bs : List ℕ) (n : ℕ) → IsCommitOf g h bs n →
    IsCommitOf g (h ++ e ∷ []) bs n
commit_grows g h e bs n c = record {
  below = let q = c.below in let l = length_more h e in omega arith;
  exact = λ d at x. subst (λ (l : List Entry). AreAllTouched g (replay l) d.edit bs) (sym (taken_more n h e c.below))
      (c.exact d (older n h e d c.below at) x);
}

-- so is a step of the trail
step_grows : (g : ℕ) (h : List Entry) (e : Entry) (bs : List ℕ) (a : Deed) → IsStepOf g h bs a →
    IsStepOf g (h ++ e ∷ []) bs a
step_grows g h e bs (Commit n) p = commit_grows g h e bs n p
step_grows g h e bs (Claim b) p = tt
step_grows g h e bs (Miss b w) p = tt
step_grows g h e bs (Release b) p = tt
step_grows g h e bs (Look n) p = tt

-- and so are all its steps
steps_grow_from : (g : ℕ) (h : List Entry) (e : Entry) (bs : List ℕ) (t : List Deed) → AreStepsFrom g h bs t →
    AreStepsFrom g (h ++ e ∷ []) bs t
steps_grow_from g h e bs [] s = tt
steps_grow_from g h e bs (a ∷ t) s = (step_grows g h e bs a s.0, steps_grow_from g h e (in_hand_after bs a) t s.1)

-- what some parts have made, with one more entry
dropped_more : (c : ℕ) (h : List Entry) (e : Entry) → c ≤ length h → drop c (h ++ e ∷ []) ≡ drop c h ++ e ∷ []
dropped_more zero h e l = refl
dropped_more (suc c) [] e l = absurd (omega arith)
dropped_more (suc c) (d ∷ h) e l = dropped_more c h e (omega arith)

-- of a list with an entry more those that pass are those before, and that one if it does
filter_snoc : (p : Entry → Bool) (l : List Entry) (e : Entry) → filter p (l ++ e ∷ []) ≡ filter p l ++ filter p (e ∷ [])
filter_snoc p [] e = refl
filter_snoc p (d ∷ l) e = by (p d) (filter_snoc p l e)
  where
    by : (t : Bool) → filter p (l ++ e ∷ []) ≡ filter p l ++ filter p (e ∷ []) →
        cond t (d ∷ filter p (l ++ e ∷ [])) (filter p (l ++ e ∷ [])) ≡ cond t (d ∷ filter p l) (filter p l)
        ++ filter p (e ∷ [])
    by true r = ap (λ (m : List Entry). d ∷ m) r
    by false r = r

-- so some parts have made what they had, and the new entry if it is by one of them
made_more : (first parts c : ℕ) (h : List Entry) (e : Entry) → c ≤ length h → made_by first parts c (h ++ e ∷ [])
    ≡ made_by first parts c h ++ filter (is_by first parts) (e ∷ [])
made_more first parts c h e l =
    ap (filter (is_by first parts)) (dropped_more c h e l) ∙ filter_snoc (is_by first parts) (drop c h) e

-- the front of a history is no longer than it
starts_count : (front rest : List Entry) → length front ≤ length (front ++ rest)
starts_count [] rest = omega arith
starts_count (x ∷ front) rest = let r = starts_count front rest in omega arith

-- ---- words

-- setting the ticket leaves the words of the buckets
behind : (words : List ℕ) (x : ℕ) → drop 1 (slice_set words 0 x) ≡ drop 1 words
behind [] x = refl
behind (w ∷ words) x = refl

-- and is the ticket then
front : (words : List ℕ) (x n : ℕ) → length words ≡ n + 1 → slice_index_or (slice_set words 0 x) 0 0 ≡ x
front [] x n e = absurd (omega arith)
front (w ∷ words) x n e = refl

-- ---- seats that differ

-- the pass that was split off a seat and has none yet is one of the seat's
child_pass : (count : ℕ) (u : View) (c : Child) → u.child ≡ Some c → IsIn (plain_child count c) (passes_of count u)
child_pass count u c e = by (ltb 0 u.parts)
  where
    by : (t : Bool) → IsIn (plain_child count c) (cond t (plain u ∷ []) [] ++ option_map_or
        (λ c. plain_child count c ∷ []) u.child [])
    by true =
        inr (subst (λ o. IsIn (plain_child count c) (option_map_or (λ c. plain_child count c ∷ []) o [])) (sym e)
        (inl refl))
    by false =
        subst (λ o. IsIn (plain_child count c) (option_map_or (λ c. plain_child count c ∷ []) o [])) (sym e) (inl refl)

-- ---- the commit

-- a commit of a pass that holds what its edit touches keeps the rule
pub commits_keep : (k : Key) (slots id tag : ℕ) (edit : Edit) (reply : Reply) (me : Seated) (s : Table)
    (h : List Entry) → IsRule k s h → IsAlone k s id me.0 → IsReady me.0 edit reply → 0 < me.0.left → HasKeys edit
    → Taken k s 0 id me (Committed tag edit reply me (slice_index s.words 0)) ((slice_index s.words 0 + 1) % 2 ^ 64)
commits_keep k slots id tag edit reply me s h r a ready some_left key =
    let v : View = me.0 in
    let count : ℕ = buckets_of k in
    let old : BoardState = board_of k s in
    let good = r.good in
    let ok = r.seats id v a.there in
    let shows = on_board k s h id v r a in
    let order = good.passes (plain v) shows in
    let found : ℕ = slice_index s.words 0 in
    let ticket : found ≡ length h = good.ticket in
    let ok_seen : v.seen ≤ length h = order.seen in
    let stands : HandStands v h = hand_stands k s h v.grid v.held r (ok.table a.live).0 order.shares in
    let seen : HandShows v (replay h) = stands_shows (in_hand_of v.grid v.held) h stands in
    let right : reply ≡ reply_to (replay h) edit = ready.right (replay h) seen in
    let part : v.left ≤ left_in old.views = left_one old.views v.first (plain v) shows in
    let room = good.room in
    let most = good.shape.most in
    let few : (found + 1) % 2 ^ 64 ≡ found + 1 = mod-eq_of_lt (omega arith) in
    let e : Entry = entry_of found v.first tag edit reply in
    let d : Entry = entry_after h found v.first tag edit in
    let same_entry : e ≡ d = ap (λ (x : Reply). entry_of found v.first tag edit x) right in
    let h' : List Entry = h ++ e ∷ [] in
    let more : length h' ≡ length h + 1 = length_more h e in
    let w : View = commits v h' e in
    let x : ℕ = (found + 1) % 2 ^ 64 in
    let s' : Table = stepped s 0 x id me.1 w keeps in
    let inside : v.first < k.parts = below k s h id v r a in
    let is_v : passes_of count v ≡ plain v ∷ [] = alone count v a.live a.lone in
    let touched : HoldTouched k.grid (replay h) edit v.held =
    subst (λ (g : ℕ). HoldTouched g (replay h) edit v.held) (ok.table a.live).0 (ready.touched (replay h) seen) in
    let good1 : IsGood (committed h old v.first tag edit) (h ++ d ∷ []) =
    commit_keeps old h v.first tag edit (plain v) good shows key some_left touched in
    -- the board after the step is that of the event
    let f : Live → Live =
    λ u. record u { left = u.left - 1; seen = found + 1; held = renewed_from k.grid (h ++ d ∷ []) 0 u.held } in
    let is_f : plain w ≡ f (plain v) = (λ i. record (plain v) {
      left = v.left - 1;
      seen = found + 1;
      held = renewed_from ((ok.table a.live).0 i) (h ++ same_entry i ∷ []) 0 v.held;
    }) in
    let views = views_set k s id v w r.apart a.there a.live a.live a.lone a.lone refl inside in
    let event : board_of k s' ≡ committed h old v.first tag edit =
    (λ i. record old { ticket = (front s.words x count r.words ∙ few) i; words = behind s.words x i; views = views i })
    ∙ (λ i. record old { ticket = found + 1; views = slice_set old.views v.first (Some (is_f i)) })
    ∙ (λ i. record old { ticket = found + 1; views = slice_set old.views v.first (option_map f (sym shows i)) }) in
    let good' : IsGood (board_of k s') h' = subst (λ (t : BoardState × List Entry). IsGood t.0 t.1)
    (λ i. (sym event i, h ++ sym same_entry i ∷ [])) good1 in
    -- the trail
    let in_hands : in_hand w.trail ≡ in_hand v.trail = in_hand_snoc v.trail (Commit found) in
    let commit_of : IsCommitOf k.grid h' (in_hand v.trail) found = record {
      below = omega arith;
      exact = λ y at exact.
          let is_e : e ≡ y = some-injective e y (sym (at_last h e found (sym ticket)) ∙ at) in
          let is_h : take found h' ≡ h = ap (λ (n : ℕ). take n h') ticket ∙ taken_all h e in
          let no_other = ready.exact (subst (λ (z : Entry). IsExact z.edit z.reply) (sym is_e) exact) (replay h) seen in
          subst (λ (z : List Entry × Entry). AreAllTouched k.grid (replay z.0) z.1.edit (in_hand v.trail))
          (λ i. (sym is_h i, is_e i))
          (λ b. (
            (λ i. subst (λ (g : ℕ). Rattle.cell_store.specs.Touches.IsTouched g (replay h) edit b) (ok.table a.live).0
                (no_other b ((ok.holds b).1 i))),
            (λ t. (ok.holds b).0 (touched b t)),
          ));
    } in
    let begun : StartsWith h (opening_of k) = good.starts in
    let c_below : length (opening_of k) ≤ length h = subst (λ (l : List Entry). length (opening_of k) ≤ length l)
    (sym begun.1) (starts_count (opening_of k) begun.0) in
    let by_me : is_by v.first v.parts e ≡ true =
    parts_by v.first v.parts e (omega arith) (let q = a.live in omega arith) in
    let mine : IsSeatInOrder k h' w = record {
      table = ok.table;
      places = λ q. renewed_length v.grid h' 0 v.held ∙ ok.places q;
      idle = λ z. absurd (let q = a.live in omega arith);
      made = λ q. ap (λ (l : List Entry). l ++ e ∷ []) (ok.made q)
          ∙ (λ i. made_by v.first v.parts (length (opening_of k)) h ++ cond (sym by_me i) (e ∷ []) [])
          ∙ sym (made_more v.first v.parts (length (opening_of k)) h e c_below);
      known = starts_more h v.known e ok.known;
      holds = λ b. (
        (λ t. subst (λ (l : List ℕ). IsIn b l) (sym in_hands) ((ok.holds b).0 (renewed_back v.grid h' v.held b t))),
        (λ i. renewed_there v.grid h' v.held b ((ok.holds b).1 (subst (λ (l : List ℕ). IsIn b l) in_hands i))),
      );
      once = subst (λ (l : List ℕ). AreDistinct l) (sym in_hands) ok.once;
      steps = steps_snoc k.grid h' v.trail (Commit found) (steps_grow_from k.grid h e [] v.trail ok.steps) commit_of;
      child = λ c q. absurd (cc (sym a.lone ∙ q));
    } in
    let not_by : (first parts : ℕ) → (is_by first parts e ≡ true → ⊥) → made_by first parts (length (opening_of k)) h
    ≡ made_by first parts (length (opening_of k)) h' = λ first parts no_one.
    sym (made_more first parts (length (opening_of k)) h e c_below
    ∙ none_more (made_by first parts (length (opening_of k)) h) (is_by first parts e) no_one) in
    -- an entry by this pass is by no part of another seat's
    let not_theirs : (j : ℕ) (u : View) (y : Live) → j ≢ id → get_elem? s.views j ≡ some u →
    IsIn y (passes_of count u) → is_by y.first y.parts e ≡ true → ⊥ = λ j u y n at i t.
    let listed_y : IsIn y (passes_in count s.views) = passes_to count s.views j u y at i in
    let y_below : y.first < k.parts =
    each_of_all (λ (z : Live). z.first < k.parts) (passes_in count s.views) r.below y listed_y in
    let y_live : view_at old y.first ≡ Some y = shown k s y r.apart y_below listed_y in
    let owner = good.owners v.first inside in
    let one : y ≡ plain v = owner.only y y_live (by_parts y.first y.parts e t)
    ∙ sym (owner.only (plain v) shows (omega arith, (let q = a.live in omega arith))) in
    seats_differ count s.views j id u v y (plain v) n at a.there i
    (subst (λ (l : List Live). IsIn (plain v) l) (sym is_v) (inl refl)) r.apart (ap (λ (z : Live). z.first) one) in
    let other : (j : ℕ) (u : View) → j ≢ id → get_elem? s.views j ≡ some u → IsSeatInOrder k h' u = λ j u n at.
    let o = r.seats j u at in record {
      table = o.table;
      places = o.places;
      idle = o.idle;
      made = λ q. o.made q ∙ not_by u.first u.parts (λ t. not_theirs j u (plain u) n at (own_pass count u q) t);
      known = starts_more h u.known e o.known;
      holds = o.holds;
      once = o.once;
      steps = steps_grow_from k.grid h e [] u.trail o.steps;
      child = λ c q. let p = o.child c q in record {
        some_part = p.some_part;
        made =
            p.made ∙ not_by c.first c.parts (λ t. not_theirs j u (plain_child count c) n at (child_pass count u c q) t);
      };
    } in
    let rule : IsRule k s' h' = set_rule k s h h' id v w s'.words s'.homes r a refl a.live a.lone
    (length-set s.words 0 x ∙ r.words)
    (λ one. subst (λ (x : Entry). IsLedTo k s' (h ++ x ∷ [])) (sym same_entry)
    (reached_commit k s s' h id tag edit v w r.reached one refl shows key some_left touched event)) good' mine other
    in (
      w,
      keeps,
      tt,
      (h', rule),
      record {
        history = h;
        count = sym ticket;
        stands = stands;
        shares = subst (λ (g : ℕ). AreSharesOf g h v.held) (sym (ok.table a.live).0) order.shares;
        known = ok.known;
        later = let q = ok_seen in omega arith;
        few = omega arith;
        view = refl;
        slots = refl;
      },
    )
  where
    none_more : (l : List Entry) (t : Bool) → (t ≡ true → ⊥) →
        l ++ cond t (entry_of (slice_index s.words 0) me.0.first tag edit reply ∷ []) [] ≡ l
    none_more l true n = absurd (n refl)
    none_more l false n = Rattle.std.proofs.lemmas.List.append-nil l
