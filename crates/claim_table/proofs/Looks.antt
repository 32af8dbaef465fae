-- A failed claim and a look keep the rule.
use Rattle.std.specs.Prelude.{◌≡◌, ◌≢◌, ℕ, ◌+◌, ◌<◌, ◌≤◌, List, [], ◌∷◌, ◌++◌, None, IsSome, length, slice_index}
use Rattle.std.specs.Prelude.{slice_set}
use Rattle.std.specs.Option.{option_map}
use Rattle.std.proofs.Common.{refl, sym, ◌∙◌, ap, subst, inl, inr, arith}
use Rattle.std.proofs.lemmas.List.{append-nil}
use mathlib.Core.Logic.{dite}
use mathlib.Core.Option.{none}
use native.Mathlib.Decide.{dec_le}
use Rattle.atomic_table.specs.Table.{step, keeps}
use Rattle.list_laws.specs.Lists.{AreDistinct}
use Rattle.list_laws.proofs.Cited.{all_of_each, each_of_all, set_there}
use Rattle.point_order.specs.Sets.{IsIn}
use Rattle.edit_history.specs.declared.history.Entry.{Entry}
use Rattle.cell_store.specs.Buckets.{bucket_at}
use Rattle.claim_rule.specs.Boards.{BoardState, word_of, view_at}
use Rattle.claim_rule.specs.Boards as board
use Rattle.claim_rule.specs.Good.{IsGood, StartsWith}
use Rattle.claim_rule.specs.Events.{looked}
use Rattle.claim_rule.proofs.Cited.{look_keeps}
use Rattle.claim_table.specs.declared.view.Key.{Key}
use Rattle.claim_table.specs.declared.view.View.{View}
use Rattle.claim_table.specs.declared.view.Act.TheVariants.{Miss, Look}
use Rattle.claim_table.specs.Faces.{buckets_of, plain, board_of}
use Rattle.claim_table.specs.Rule.{IsSeatInOrder, IsRule}
use Rattle.claim_table.specs.Plays.{Seated, fails, looks, shows, Claimed, Looked, Shown, IsOthers}
use Rattle.claim_table.proofs.Boarded.{Table, Live, views_set}
use Rattle.claim_table.proofs.Trailed.{in_hand_snoc, steps_snoc}
use Rattle.claim_table.proofs.Reached.{reached_look, reached_miss}
use Rattle.claim_table.proofs.Claims.{IsAlone, below, on_board, hand_stands, set_rule, Taken, word_behind, word_stays}
use Rattle.claim_table.proofs.Claims.{behind_count}
use Rattle.claim_table.specs.declared.view.Act.{Act}
use Rattle.claim_table.specs.Trails.{in_hand, in_hand_after, IsStepOf}

-- a step that leaves what is in hand leaves the seat in order, whatever it has seen and knows
seat_stays : (k : Key) (h known : List Entry) (seen : ℕ) (v : View) (a : Act) → IsSeatInOrder k h v →
    StartsWith h known → in_hand_after (in_hand v.trail) a ≡ in_hand v.trail →
    IsStepOf k.grid h (in_hand v.trail) a →
    IsSeatInOrder k h (record v { seen = seen; known = known; trail = v.trail ++ a ∷ [] })
seat_stays k h known seen v a ok starts stays step =
    let hand : in_hand (v.trail ++ a ∷ []) ≡ in_hand v.trail = in_hand_snoc v.trail a ∙ stays in record {
      table = ok.table;
      places = ok.places;
      idle = ok.idle;
      made = ok.made;
      known = starts;
      holds = λ x. (
        (λ t. subst (λ (l : List ℕ). IsIn x l) (sym hand) ((ok.holds x).0 t)),
        (λ i. (ok.holds x).1 (subst (λ (l : List ℕ). IsIn x l) hand i)),
      );
      once = subst (λ (l : List ℕ). AreDistinct l) (sym hand) ok.once;
      steps = steps_snoc k.grid h v.trail a ok.steps step;
      child = ok.child;
    }

-- ---- a failed claim

-- a claim that finds another word than 0 keeps the rule, and leaves the word
pub misses_keep : (k : Key) (slots id b : ℕ) (me : Seated) (s : Table) (h : List Entry) → IsRule k s h →
    IsAlone k s id me.0 → b < buckets_of k → bucket_at me.0.held b ≡ None → slice_index s.words (b + 1) ≢ 0
    → Taken k s (b + 1) id me (Claimed (step slots (b + 1) 0 (me.0.first + 1) none) me (slice_index s.words (b + 1)))
    (slice_index s.words (b + 1))
misses_keep k slots id b me s h r a inside lacks away =
    let v : View = me.0 in
    let count : ℕ = buckets_of k in
    let old : BoardState = board_of k s in
    let found : ℕ = slice_index s.words (b + 1) in
    let good = r.good in
    let ok = r.seats id v a.there in
    let shown = on_board k s h id v r a in
    let w : View = fails v b found in
    let views = views_set k s id v w r.apart a.there a.live a.live a.lone a.lone refl (below k s h id v r a) in
    let event : board_of k record { words = s.words; homes = s.homes; views = slice_set s.views id w } ≡ old =
    (λ i. record old { views = (views ∙ set_there old.views v.first (plain v) shown) i }) in
    let words_count : length old.words ≡ count = behind_count s.words count r.words in
    let word : word_of old b ≡ found = word_behind s.words b in
    let s' : Table = record { words = s.words; homes = s.homes; views = slice_set s.views id w } in
    let rule : IsRule k s' h = set_rule k s h h id v w s.words s.homes r a refl a.live a.lone r.words
    (λ one. reached_miss k s s' h id b found v w r.reached one refl shown (omega arith) lacks away (sym word) event)
    (subst (λ (t : BoardState). IsGood t h) (sym event) good)
    (seat_stays k h v.known v.seen v (Miss b found) ok ok.known refl tt) (λ j u n e. r.seats j u e) in
    let holder = good.away b (omega arith) (λ q. away (sym word ∙ q)) in
    let theirs : word_of old b ≡ holder.view.first + 1 = (good.passes holder.view holder.live).words b holder.holds in
    let u_inside : holder.view.first + holder.view.parts ≤ k.parts = (good.passes holder.view holder.live).inside in
    let u_some : 0 < holder.view.parts = (good.passes holder.view holder.live).some_part in
    let parts_same : v.all ≡ k.parts = (ok.table a.live).1 in
    let others : bucket_at v.held b ≡ None → IsOthers v found = λ lacks.
    let apart : (v.first ≤ holder.view.first) → (holder.view.first < v.first + v.parts) → ⊥ = λ c d.
    let owner = good.owners holder.view.first (omega arith) in
    let one : plain v ≡ holder.view =
    owner.only (plain v) shown (c, d) ∙ sym (owner.only holder.view holder.live (omega arith, omega arith)) in
    absurd (Rattle.list_laws.proofs.Cited.none_there (bucket_at v.held b) lacks
    (subst (λ (x : Live). IsSome (bucket_at x.held b)) (sym one) holder.holds)) in (
      omega arith,
      dite (dec_le (v.first + 1) found)
          (λ low. dite (dec_le found (v.first + v.parts)) (λ high. absurd (apart (omega arith) (omega arith)))
          (λ n. inr (omega arith)))
          (λ n. inl (omega arith)),
      omega arith,
    ) in (
      w,
      keeps,
      tt,
      word_stays k s h id (b + 1) w rule,
      λ x is.
          let q : b ≡ x = omega arith in (
            (λ hit. absurd (away hit)),
            (λ miss. (
              (λ i. (fails v (q i) found, me.1)),
              (λ lacks. others (ap (λ (z : ℕ). bucket_at v.held z) q
                  ∙ lacks)),
            )),
          ),
    )

-- ---- a look

-- The pass sees the ticket, and knows a front of the history.
pub sees : (k : Key) (s : Table) (h known : List Entry) (id : ℕ) (v : View) → IsRule k s h → IsAlone k s id v →
    StartsWith h known
    → IsRule k record {
      words = s.words;
      homes = s.homes;
      views =
          slice_set s.views id (shows v (slice_index s.words 0) known);
    } h
sees k s h known id v r a starts =
    let old : BoardState = board_of k s in
    let found : ℕ = slice_index s.words 0 in
    let shown = on_board k s h id v r a in
    let ok = r.seats id v a.there in
    let w : View = shows v found known in
    let views = views_set k s id v w r.apart a.there a.live a.live a.lone a.lone refl (below k s h id v r a) in
    let f : Live → Live = λ u. record u { seen = found } in
    let event : board_of k record { words = s.words; homes = s.homes; views = slice_set s.views id w }
    ≡ looked old v.first =
    (λ i. record old { views = views i }) ∙ (λ i. record old {
      views = slice_set old.views v.first
          (option_map f (sym shown i));
    }) in
    set_rule k s h h id v w s.words s.homes r a refl a.live a.lone r.words
    (λ one. reached_look k s record { words = s.words; homes = s.homes; views = slice_set s.views id w } h id v w
    r.reached one refl shown event)
    (subst (λ (t : BoardState). IsGood t h) (sym event) (look_keeps old h v.first (plain v) r.good shown))
    (seat_stays k h known found v (Look found) ok starts refl tt) (λ j u n e. r.seats j u e)

-- a look keeps the rule: the pass has seen the ticket
pub looks_keep : (k : Key) (slots id : ℕ) (me : Seated) (s : Table) (h : List Entry) → IsRule k s h →
    IsAlone k s id me.0 → Taken k s 0 id me (Looked (step slots 0 0 0 none) me (slice_index s.words 0))
    (slice_index s.words 0)
looks_keep k slots id me s h r a =
    let v : View = me.0 in
    let found : ℕ = slice_index s.words 0 in
    let ok = r.seats id v a.there in
    let order = r.good.passes (plain v) (on_board k s h id v r a) in
    let seen : v.seen ≤ length h = order.seen in
    let ticket : found ≡ length h = r.good.ticket in (
      looks v found,
      keeps,
      tt,
      word_stays k s h id 0 (looks v found) (sees k s h v.known id v r a ok.known),
      (refl, refl, omega arith),
    )

-- a look at buckets in hand, for a snapshot
pub shows_keep : (k : Key) (slots id : ℕ) (me : Seated) (s : Table) (h : List Entry) → IsRule k s h →
    IsAlone k s id me.0 → Taken k s 0 id me (Shown me (slice_index s.words 0)) (slice_index s.words 0)
shows_keep k slots id me s h r a =
    let v : View = me.0 in
    let found : ℕ = slice_index s.words 0 in
    let ok = r.seats id v a.there in
    let order = r.good.passes (plain v) (on_board k s h id v r a) in
    let seen : v.seen ≤ length h = order.seen in
    let ticket : found ≡ length h = r.good.ticket in (
      shows v found h,
      keeps,
      tt,
      word_stays k s h id 0 (shows v found h) (sees k s h h id v r a ([], sym (append-nil h))),
      record {
        history = h;
        count = sym ticket;
        stands = hand_stands k s h v.grid v.held r (ok.table a.live).0 order.shares;
        known = ok.known;
        made = ok.made a.live ∙ ap (λ (l : List Entry). Rattle.claim_rule.specs.Boards.made_by v.first v.parts
            (length l) h) (sym (ok.table a.live).2);
        later = omega arith;
        view = refl;
        slots = refl;
      },
    )
