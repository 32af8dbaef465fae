-- One more event leads one board further.
use Rattle.std.specs.Prelude.{cond, ◌==◌, slice_set, ◌≡◌, ◌≢◌, ℕ, ◌+◌, ◌<◌, ◌≤◌, List, [], ◌∷◌, ◌++◌, length, map}
use Rattle.std.specs.Prelude.{Option, None, Some, IsSome, IsSomeAnd}
use Rattle.std.proofs.Common.{refl, sym, ◌∙◌, ap, subst, inl, inr, arith, eq-eqb, ne_eqb}
use Rattle.std.proofs.lemmas.List.{append-nil, append_assoc}
use mathlib.Core.Option.{some}
use lib.ListN.{get_elem?}
use Rattle.atomic_table.proofs.Lists.{at_set}
use Rattle.list_laws.specs.Lists.{AreDistinct}
use Rattle.list_laws.proofs.Cited.{is_there}
use Rattle.edit_history.specs.declared.history.Edit.{Edit}
use Rattle.edit_history.specs.declared.history.Entry.{Entry}
use Rattle.edit_history.specs.Edits.{HasKeys}
use Rattle.edit_history.specs.Histories.{replay}
use Rattle.cell_store.specs.Buckets.{bucket_at}
use Rattle.cell_store.specs.Touches.{HoldTouched}
use Rattle.claim_rule.specs.Boards.{BoardState, word_of, view_at}
use Rattle.claim_rule.specs.Boards as board
use Rattle.claim_rule.specs.Good.{IsGood}
use Rattle.claim_rule.specs.Events.{Next, HoldsNothing, history_after, entry_after, HasKey, claimed, committed}
use Rattle.claim_rule.specs.Events.{released, looked, split, after_join}
use Rattle.claim_rule.specs.declared.event.Event.{Event}
use Rattle.claim_rule.specs.declared.event.Event.TheVariants.{Claim, Commit, Release, Look, Split, Join}
use Rattle.claim_rule.specs.declared.event.Played.{Played}
use Rattle.claim_rule.specs.declared.event.Played.TheVariants.{Done, Taken}
use Rattle.claim_table.specs.declared.view.Key.{Key}
use Rattle.claim_table.specs.declared.view.View.{View}
use Rattle.claim_table.specs.declared.view.Act.{Act}
use Rattle.claim_table.specs.declared.view.Act.TheVariants.{Claim as DidClaim, Miss as DidMiss, Commit as DidCommit}
use Rattle.claim_table.specs.declared.view.Act.TheVariants.{Release as DidRelease, Look as DidLook}
use Rattle.claim_table.specs.Plays.{no_pass}
use Rattle.claim_table.specs.Faces.{buckets_of, opening_of, plain, passes_in, board_of}
use Rattle.claim_rule.specs.Laws.{Runs}
use Rattle.claim_rule.proofs.Cited.{events_keep_good, one_history_of_board}
use Rattle.claim_table.specs.Laws.{EveryStateIsReached, ReachedByARun}
use Rattle.claim_table.specs.Reached.{Turn, CameAbout, LeadOn, player, step_of, steps_by, EndsWith, opened_as, IsLedTo}
use Rattle.claim_table.proofs.Boarded.{Table, firsts, seats_differ, own_pass}

-- turns that lead to a board lead, with an event that comes next there, to the one after it
leads_snoc : (h k : List Entry) (s m m' : BoardState) (turns : List Turn) (t : Turn) → LeadOn h s turns k m →
    HasKey t.event → CameAbout t.answer → t.ticket ≡ m.ticket → Next k m t.event t.answer m'
    → LeadOn h s (turns ++ t ∷ []) (history_after k m t.event t.answer) m'
leads_snoc h k s m m' [] t l key came found next = (
  m',
  key,
  came,
  subst (λ (x : BoardState). t.ticket ≡ x.ticket) l.1 found,
  subst (λ (x : List Entry × BoardState). Next x.0 x.1 t.event t.answer m') (λ i. (l.0 i, l.1 i)) next,
  ((λ i. history_after (l.0 i) (l.1 i) t.event t.answer), refl),
)
leads_snoc h k s m m' (u ∷ turns) t l key came found next = (
  l.0,
  l.1,
  l.2,
  l.3,
  l.4,
  leads_snoc (history_after h s u.event u.answer) k l.0 m m' turns t l.5 key came found
      next,
)

-- ---- trails

-- with one turn more the steps of a number are those before, and the turn's if it is its own
steps_snoc_turn : (n : ℕ) (turns : List Turn) (t : Turn) → steps_by n (turns ++ t ∷ []) ≡ steps_by n turns
    ++ cond (player t.event == n) (step_of t.event t.answer t.ticket) []
steps_snoc_turn n [] t = append-nil (cond (player t.event == n) (step_of t.event t.answer t.ticket) [])
steps_snoc_turn n (u ∷ turns) t =
    let front : List Act = cond (player u.event == n) (step_of u.event u.answer u.ticket) [] in
    ap (λ (l : List Act). front ++ l) (steps_snoc_turn n turns t)
    ∙ sym (append_assoc front (steps_by n turns) (cond (player t.event == n) (step_of t.event t.answer t.ticket)
    []))

-- a turn of its own, and one of another's
own_turn : (n : ℕ) (turns : List Turn) (t : Turn) (trail : List Act) → player t.event ≡ n →
    EndsWith (steps_by n turns) trail → EndsWith (steps_by n (turns ++ t ∷ []))
    (trail ++ step_of t.event t.answer t.ticket)
own_turn n turns t trail mine e =
    let new : List Act = step_of t.event t.answer t.ticket in (
      e.0,
      steps_snoc_turn n turns t ∙ (λ i. steps_by n turns ++ cond (eq-eqb (player t.event) n mine i) new [])
          ∙ ap (λ (l : List Act). l ++ new) e.1 ∙ append_assoc e.0 trail new,
    )

-- a turn of another's leaves how the steps of a number end
others_turn : (n : ℕ) (turns : List Turn) (t : Turn) (trail : List Act) → player t.event ≢ n →
    EndsWith (steps_by n turns) trail → EndsWith (steps_by n (turns ++ t ∷ [])) trail
others_turn n turns t trail theirs e = (
  e.0,
  steps_snoc_turn n turns t ∙ (λ i. steps_by n turns ++ cond (ne_eqb (player t.event) n theirs i)
      (step_of t.event t.answer t.ticket) []) ∙ append-nil (steps_by n turns) ∙ e.1,
)

-- One live seat's view was set: its number is as before.
pub record IsOneSet (k : Key) (s s' : Table) (id : ℕ) (v w : View) : Type 0 where
  pub apart : AreDistinct (firsts (passes_in (buckets_of k) s.views))
  pub there : get_elem? s.views id ≡ some v
  pub live : 0 < v.parts
  pub views : s'.views ≡ slice_set s.views id w
  pub first : w.first ≡ v.first

-- a step of the table that is an event of the pass in this seat
pub reached_by : (k : Key) (s s' : Table) (h : List Entry) (id : ℕ) (v w : View) (event : Event) (answer : Played) →
    IsLedTo k s h → IsOneSet k s s' id v w → HasKey event → CameAbout answer → player event ≡ v.first →
    w.trail ≡ v.trail ++ step_of event answer (board_of k s).ticket → Next h (board_of k s) event answer (board_of k s')
    → IsLedTo k s' (history_after h (board_of k s) event answer)
reached_by k s s' h id v w event answer r one key came mine trail next =
    let t : Turn = record { event = event; answer = answer; ticket = (board_of k s).ticket } in
    record {
      began = r.began;
      turns = r.turns ++ t ∷ [];
      lead =
          leads_snoc (opening_of k) h (opened_as k) (board_of k s) (board_of k s') r.turns t r.lead key came refl next;
      trails =
          λ j u at some_part. elim (at_set s.views id j w u (ap (λ (l : List View). get_elem? l j) (sym one.views)
          ∙ at)) [
            | inl q ↦ subst (λ (x : View). EndsWith (steps_by x.first (r.turns ++ t ∷ [])) x.trail) q.1
                (subst (λ (x : ℕ × List Act). EndsWith (steps_by x.0 (r.turns ++ t ∷ [])) x.1)
                (λ i. (sym one.first i, sym trail i))
                (own_turn v.first r.turns t v.trail mine (r.trails id v one.there one.live)))
            | inr q ↦ others_turn u.first r.turns t u.trail
                (λ e. seats_differ (buckets_of k) s.views id j v u (plain v) (plain u) (λ f. q.0 (sym f)) one.there q.1
                (own_pass (buckets_of k) v one.live) (own_pass (buckets_of k) u some_part) one.apart (sym mine ∙ e))
                (r.trails j u q.1 some_part)
          ];
    }

-- the same board, with other seats
pub reached_unseen : (k : Key) (s s' : Table) (h : List Entry) → (r : IsLedTo k s h) → board_of k s' ≡ board_of k s
    → ((j : ℕ) (v : View) → get_elem? s'.views j ≡ some v → 0 < v.parts → EndsWith (steps_by v.first r.turns) v.trail) →
    IsLedTo k s' h
reached_unseen k s s' h r e trails = record {
  began = r.began;
  turns = r.turns;
  lead = subst (λ (x : BoardState). LeadOn (opening_of k) (opened_as k) r.turns h x) (sym e) r.lead;
  trails = trails;
}

-- every list ends with nothing
pub ends_empty : (l : List Act) → EndsWith l []
ends_empty l = (l, sym (append-nil l))

-- a new table
pub reached_first : (k : Key) (s : Table) (h : List Entry) → h ≡ opening_of k → board_of k s ≡ opened_as k →
    IsGood (board_of k s) h → ((j : ℕ) (v : View) → get_elem? s.views j ≡ some v → v.trail ≡ []) → IsLedTo k s h
reached_first k s h e f good none_yet = record {
  began = subst (λ (x : BoardState × List Entry). IsGood x.0 x.1) (λ i. (f i, e i)) good;
  turns = [];
  lead = (e, f);
  trails = λ j v at some_part. ([], sym (none_yet j v at));
}

-- ---- each step, with what its event needs

-- of a pass that is there
said : (o : Option board.View) (v : board.View) (P : board.View → Type 0) → o ≡ Some v → P v → IsSomeAnd o P
said o v P e p = subst (λ (x : Option board.View). IsSomeAnd x P) (sym e) p

-- a claim that was done
pub reached_claim : (k : Key) (s s' : Table) (h : List Entry) (id b : ℕ) (v w : View) → IsLedTo k s h →
    IsOneSet k s s' id v w → w.trail ≡ v.trail ++ DidClaim b ∷ [] → view_at (board_of k s) v.first ≡ Some (plain v) →
    b < length (board_of k s).words → bucket_at v.held b ≡ None → word_of (board_of k s) b ≡ 0
    → board_of k s' ≡ claimed (board_of k s) v.first b → IsLedTo k s' h
reached_claim k s s' h id b v w r one trail there inside lacks word event =
    reached_by k s s' h id v w (Claim v.first b) Done r one tt tt refl trail (
      (inside, said (view_at (board_of k s) v.first) (plain v) (λ u. bucket_at u.held b ≡ None) there lacks),
      word,
      event,
    )

-- a claim that found the bucket away
pub reached_miss : (k : Key) (s s' : Table) (h : List Entry) (id b word : ℕ) (v w : View) → IsLedTo k s h →
    IsOneSet k s s' id v w → w.trail ≡ v.trail ++ DidMiss b word ∷ [] → view_at (board_of k s) v.first
    ≡ Some (plain v) → b < length (board_of k s).words → bucket_at v.held b ≡ None → word ≢ 0 →
    word ≡ word_of (board_of k s) b
    → board_of k s' ≡ board_of k s → IsLedTo k s' h
reached_miss k s s' h id b word v w r one trail there inside lacks away is event =
    reached_by k s s' h id v w (Claim v.first b) (Taken word) r one tt tt refl trail (
      (inside, said (view_at (board_of k s) v.first) (plain v) (λ u. bucket_at u.held b ≡ None) there lacks),
      away,
      is,
      event,
    )

-- a commit, which adds its entry to the history
pub reached_commit : (k : Key) (s s' : Table) (h : List Entry) (id tag : ℕ) (edit : Edit) (v w : View) →
    IsLedTo k s h → IsOneSet k s s' id v w → w.trail ≡ v.trail ++ DidCommit (board_of k s).ticket ∷ [] →
    view_at (board_of k s) v.first ≡ Some (plain v) → HasKeys edit → 0 < v.left →
    HoldTouched k.grid (replay h) edit v.held
    → board_of k s' ≡ committed h (board_of k s) v.first tag edit →
    IsLedTo k s' (h ++ entry_after h (board_of k s).ticket v.first tag edit ∷ [])
reached_commit k s s' h id tag edit v w r one trail there key left touched event =
    reached_by k s s' h id v w (Commit v.first tag edit) Done r one key tt refl trail (
      said (view_at (board_of k s) v.first) (plain v) (λ u. (0 < u.left) × HoldTouched k.grid (replay h) edit u.held)
          there (left, touched),
      event,
    )

-- a release
pub reached_release : (k : Key) (s s' : Table) (h : List Entry) (id b : ℕ) (v w : View) → IsLedTo k s h →
    IsOneSet k s s' id v w → w.trail ≡ v.trail ++ DidRelease b ∷ [] → view_at (board_of k s) v.first ≡ Some (plain v) →
    IsSome (bucket_at v.held b)
    → board_of k s' ≡ released (board_of k s) v.first b → IsLedTo k s' h
reached_release k s s' h id b v w r one trail there holds event =
    reached_by k s s' h id v w (Release v.first b) Done r one tt tt refl trail
    (said (view_at (board_of k s) v.first) (plain v) (λ u. IsSome (bucket_at u.held b)) there holds, event)

-- a look
pub reached_look : (k : Key) (s s' : Table) (h : List Entry) (id : ℕ) (v w : View) → IsLedTo k s h →
    IsOneSet k s s' id v w → w.trail ≡ v.trail ++ DidLook (board_of k s).ticket ∷ [] → view_at (board_of k s) v.first
    ≡ Some (plain v)
    → board_of k s' ≡ looked (board_of k s) v.first → IsLedTo k s' h
reached_look k s s' h id v w r one trail there event =
    reached_by k s s' h id v w (Look v.first) Done r one tt tt refl trail
    (is_there (view_at (board_of k s) v.first) (plain v) there, event)

-- a split, which leaves nothing in the trail
pub reached_split : (k : Key) (s s' : Table) (h : List Entry) (id parts left : ℕ) (v w : View) → IsLedTo k s h →
    IsOneSet k s s' id v w → w.trail ≡ v.trail → view_at (board_of k s) v.first ≡ Some (plain v) →
    HoldsNothing (plain v) → 0 < parts → parts < v.parts → left ≤ v.left
    → board_of k s' ≡ split (board_of k s) v.first parts left → IsLedTo k s' h
reached_split k s s' h id parts left v w r one trail there nothing some_parts fewer less event =
    reached_by k s s' h id v w (Split v.first parts left) Done r one tt tt refl (trail ∙ sym (append-nil v.trail)) (
      said (view_at (board_of k s) v.first) (plain v) (λ u. HoldsNothing u × (0 < parts) × (parts < u.parts)
          × (left ≤ u.left)) there (nothing, some_parts, fewer, less),
      event,
    )

-- The second pass's seat is spent.
pub reached_join : (k : Key) (s s' : Table) (h : List Entry) (id other : ℕ) (v both w : View) → IsLedTo k s h →
    AreDistinct (firsts (passes_in (buckets_of k) s.views)) → get_elem? s.views id ≡ some v → 0 < v.parts →
    both.first ≡ v.first → both.trail ≡ v.trail → s'.views ≡ slice_set (slice_set s.views id both) other no_pass
    → view_at (board_of k s) v.first ≡ Some (plain v) → view_at (board_of k s) w.first ≡ Some (plain w) →
    HoldsNothing (plain v) → HoldsNothing (plain w) → w.first ≡ v.first + v.parts
    → board_of k s' ≡ after_join (board_of k s) v.first w.first → IsLedTo k s' h
reached_join k s s' h id other v both w r d at live first trail views there there' nothing nothing' next event =
    let t : Turn = record { event = Join v.first w.first; answer = Done; ticket = (board_of k s).ticket } in
    record {
      began = r.began;
      turns = r.turns ++ t ∷ [];
      lead = leads_snoc (opening_of k) h (opened_as k) (board_of k s) (board_of k s') r.turns t r.lead tt tt refl (
        (
          said (view_at (board_of k s) v.first) (plain v) (λ u. HoldsNothing u × (w.first ≡ u.first + u.parts)) there
              (nothing, next),
          said (view_at (board_of k s) w.first) (plain w) (λ u. HoldsNothing u) there' nothing',
        ),
        event,
      );
      trails =
          λ j u here some_part. elim (at_set (slice_set s.views id both) other j no_pass u
          (ap (λ (l : List View). get_elem? l j) (sym views) ∙ here)) [
            | inl q ↦ absurd (let z : 0 ≡ u.parts = ap (λ (x : View). x.parts) q.1 in omega arith)
            | inr q ↦ elim (at_set s.views id j both u q.1) [
              | inl y ↦ subst (λ (x : View). EndsWith (steps_by x.first (r.turns ++ t ∷ [])) x.trail) y.1
                  (subst (λ (x : ℕ × List Act). EndsWith (steps_by x.0 (r.turns ++ t ∷ [])) x.1)
                  (λ i. (sym first i, (append-nil v.trail ∙ sym trail) i))
                  (own_turn v.first r.turns t v.trail refl (r.trails id v at live)))
              | inr y ↦ others_turn u.first r.turns t u.trail
                  (λ e. seats_differ (buckets_of k) s.views id j v u (plain v) (plain u) (λ f. y.0 (sym f)) at y.1
                  (own_pass (buckets_of k) v live) (own_pass (buckets_of k) u some_part) d e)
                  (r.trails j u y.1 some_part)
            ]
          ];
    }

-- ---- the laws

-- every state that meets the rule is a good board, and reached
pub every_state : EveryStateIsReached
every_state k s rule = (rule.0, rule.1.good, rule.1.reached)

-- each event comes next for the one history with which the board before it is good
runs_of : (h h' : List Entry) (s s' : BoardState) (turns : List Turn) → IsGood s h → LeadOn h s turns h' s' →
    Runs s (map (λ (t : Turn). t.event) turns) s'
runs_of h h' s s' [] good l = l.1
runs_of h h' s s' (t ∷ turns) good l =
    let good' : IsGood l.0 (history_after h s t.event t.answer) =
    events_keep_good h s t.event t.answer l.0 good l.1 l.4 in (
      l.1,
      (
        t.answer,
        l.0,
        (λ k other. subst (λ (x : List Entry). Next x s t.event t.answer l.0) (one_history_of_board s h k good other)
            l.4),
        runs_of (history_after h s t.event t.answer) h' l.0 s' turns good' l.5,
      ),
    )

-- and its turns are a run of the board
pub by_a_run : ReachedByARun
by_a_run k s h r = runs_of (opening_of k) h (opened_as k) (board_of k s) r.turns r.began r.lead
