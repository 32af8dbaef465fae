-- A split keeps the rule, at its load and where the child takes its seat.
use Rattle.std.specs.Prelude.{◌≡◌, ℕ, zero, suc, ◌+◌, ◌-◌, ◌<◌, ◌≤◌, Bool, true, false, cond, List, [], ◌∷◌, ◌++◌, drop}
use Rattle.std.specs.Prelude.{replicate, Option, None, Some, length, slice_index_or, slice_set}
use Rattle.std.specs.List.{filter}
use Rattle.std.specs.Option.{option_map_or}
use Rattle.std.proofs.Common.{refl, sym, ◌∙◌, ap, subst, inl, inr, arith}
use Rattle.std.proofs.lemmas.List.{length-replicate}
use Rattle.std.proofs.lemmas.Bool.Decides.{nat_tests}
use mathlib.Core.Logic.{dite}
use mathlib.Core.Option.{some, some-injective, some-ne-none}
use native.Mathlib.Decide.{ℕ_discrete}
use lib.ListN.{get_elem?}
use Rattle.atomic_table.specs.Table.{Splits}
use Rattle.atomic_table.proofs.Lists.{at_set, at_snoc}
use Rattle.list_laws.specs.Lists.{AreDistinct}
use Rattle.list_laws.proofs.Cited.{all_of_each, at_middle, distinct_push, distinct_with, each_of_all, in_snoc, in_wider}
use Rattle.list_laws.proofs.Cited.{none_at, none_there}
use Rattle.point_order.specs.Sets.{IsIn}
use Rattle.edit_history.specs.declared.history.Entry.{Entry}
use Rattle.cell_store.specs.Buckets.{bucket_at}
use Rattle.claim_rule.specs.Boards.{BoardState, view_at, is_by, made_by}
use Rattle.claim_rule.specs.Good.{IsGood}
use Rattle.claim_rule.specs.Events.{split, split_of}
use Rattle.claim_rule.proofs.Cited.{split_keeps}
use Rattle.claim_table.specs.declared.view.Key.{Key}
use Rattle.claim_table.specs.declared.view.View.{View}
use Rattle.claim_table.specs.declared.view.Child.{Child}
use Rattle.claim_table.specs.Faces.{buckets_of, opening_of, plain, plain_child, passes_of, passes_in, board_of}
use Rattle.claim_table.specs.Lists.{entries_by}
use Rattle.claim_table.specs.Trails.{in_hand}
use Rattle.claim_table.specs.Rule.{IsSeatInOrder, IsChildInOrder, IsRule, Rule}
use Rattle.claim_table.specs.Plays.{splits, seated, without_child}
use Rattle.claim_table.proofs.LivePasses.{passes_from, passes_to}
use Rattle.claim_table.proofs.Boarded.{Table, Live, firsts, firsts_append, alone, with_child, shown, set_at}
use Rattle.claim_table.proofs.Boarded.{others_from}
use Rattle.claim_table.proofs.SplitEvents.{one_more, split_is_event, seating_is_unseen}
use Rattle.claim_table.proofs.Claims.{IsAlone, on_board, behind_count}
use Rattle.claim_table.proofs.Reached.{ends_empty, reached_split, reached_unseen}
use Rattle.claim_table.specs.Reached.{EndsWith, steps_by}

-- the entries of fewer parts are those among the entries of more
by_fewer : (first parts first' parts' : ℕ) (l : List Entry) → first ≤ first' → first' + parts' ≤ first + parts →
    filter (is_by first' parts') (filter (is_by first parts) l) ≡ filter (is_by first' parts') l
by_fewer first parts first' parts' [] a b = refl
by_fewer first parts first' parts' (e ∷ l) a b =
    by (is_by first parts e) refl (is_by first' parts' e) refl (by_fewer first parts first' parts' l a b)
  where
    by : (t : Bool) → is_by first parts e ≡ t → (u : Bool) → is_by first' parts' e ≡ u →
        filter (is_by first' parts') (filter (is_by first parts) l) ≡ filter (is_by first' parts') l
        → filter (is_by first' parts') (cond t (e ∷ filter (is_by first parts) l) (filter (is_by first parts) l))
        ≡ cond u (e ∷ filter (is_by first' parts') l) (filter (is_by first' parts') l)
    by true p u q r =
        (λ i. cond (q i) (e ∷ filter (is_by first' parts') (filter (is_by first parts) l))
        (filter (is_by first' parts') (filter (is_by first parts) l))) ∙ ap (λ (m : List Entry). cond u (e ∷ m) m) r
    by false p false q r = r
    by false p true q r = absurd (let x : is_by first parts e ≡ true = wider q in cc)
      where
        wider : is_by first' parts' e ≡ true → is_by first parts e ≡ true
        wider q = grind (arith, nat_tests)

-- so what fewer parts have made is that part of what more have made
pub made_of_fewer : (first parts first' parts' c : ℕ) (h : List Entry) → first ≤ first' →
    first' + parts' ≤ first + parts → entries_by first' parts' (made_by first parts c h) ≡ made_by first' parts' c h
unfolding entries_by
made_of_fewer first parts first' parts' c h a b = by_fewer first parts first' parts' (drop c h) a b

-- the load of a split
pub split_keeps_rule : (k : Key) (s : Table) (h : List Entry) (id parts left : ℕ) (v : View) → IsRule k s h →
    IsAlone k s id v → ((b : ℕ) → bucket_at v.held b ≡ None) → 0 < parts → parts < v.parts → left ≤ v.left
    → IsRule k record {
      words = s.words;
      homes = s.homes;
      views =
          slice_set s.views id (splits v parts left (slice_index_or s.words 0 0));
    } h
split_keeps_rule k s h id parts left v r a nothing some_parts fewer less =
    let count : ℕ = buckets_of k in
    let old : BoardState = board_of k s in
    let good = r.good in
    let ok = r.seats id v a.there in
    let shows = on_board k s h id v r a in
    let order = good.passes (plain v) shows in
    let inside : v.first + v.parts ≤ k.parts = order.inside in
    let found : ℕ = slice_index_or s.words 0 0 in
    let m : ℕ = v.first + (v.parts - parts) in
    let w : View = splits v parts left found in
    let child : Child =
    record { first = m; parts = parts; left = left; seen = found; made = entries_by m parts v.made } in
    let views' : List View = slice_set s.views id w in
    let is_v : passes_of count v ≡ plain v ∷ [] = alone count v a.live a.lone in
    let is_w : passes_of count w ≡ plain w ∷ plain_child count child ∷ [] =
    with_child count w child (omega arith) refl in
    let free : ¬ (IsIn m (firsts (passes_in count s.views))) = λ i.
    let x = first_in (passes_in count s.views) m i in
    let x_live : view_at old x.0.first ≡ Some x.0 = shown k s x.0 r.apart
    (each_of_all (λ (u : Live). u.first < k.parts) (passes_in count s.views) r.below x.0 x.1) x.1 in
    let x_some : 0 < x.0.parts = (good.passes x.0 x_live).some_part in
    let f : x.0.first ≡ m = x.2 in
    let owner = good.owners m (omega arith) in
    let one : x.0 ≡ plain v = owner.only x.0 x_live (omega arith, omega arith)
    ∙ sym (owner.only (plain v) shows (omega arith, omega arith)) in
    let g : x.0.first ≡ v.first = ap (λ (u : Live). u.first) one in omega arith in
    let words_count : length (drop 1 s.words) ≡ count = behind_count s.words count r.words in
    let event = split_is_event k s id parts left v r.apart a.there a.lone some_parts fewer inside free words_count in
    let split_good : IsGood (split old v.first parts left) h =
    split_keeps old h v.first parts left (plain v) good shows nothing some_parts fewer less in
    let is_split : split old v.first parts left ≡ split_of old (plain v) parts left =
    ap (λ (o : Option Live). option_map_or (λ u. split_of old u parts left) o old) shows in
    let between = one_more count s.views id v w v.first m a.there (ap firsts is_v) (ap firsts is_w) in
    let mine : IsSeatInOrder k h w = record {
      table = λ q. ok.table a.live;
      places = λ q. ok.places a.live;
      idle = λ e. absurd (omega arith);
      made = λ q. ap (entries_by v.first (v.parts - parts)) (ok.made a.live)
          ∙ made_of_fewer v.first v.parts v.first (v.parts - parts) (length (opening_of k)) h (omega arith)
          (omega arith);
      known = ok.known;
      holds = ok.holds;
      once = ok.once;
      steps = ok.steps;
      child = λ c e. subst (IsChildInOrder k h) (one_child child c e) record {
        some_part = some_parts;
        made = ap (entries_by m parts) (ok.made a.live) ∙ made_of_fewer v.first v.parts m parts (length (opening_of k))
            h (omega arith) (omega arith);
      };
    } in
    record {
      good = subst (λ (t : BoardState). IsGood t h) (is_split ∙ sym event) split_good;
      words = r.words;
      apart = subst (λ (l : List ℕ). AreDistinct l) (sym between.is)
          (distinct_with between.front between.back m (subst (λ (l : List ℕ). AreDistinct l) between.was r.apart)
          (λ i. free (subst (λ (l : List ℕ). IsIn m l) (sym between.was) i)));
      below = all_of_each (λ (u : Live). u.first < k.parts) (passes_in count views') (λ u i.
          dite (ℕ_discrete u.first v.first)
          (λ q. omega arith)
          (λ n. dite (ℕ_discrete u.first m)
          (λ q. omega arith)
          (λ n'. each_of_all (λ (z : Live). z.first < k.parts) (passes_in count s.views) r.below u
          (others_from count s.views id w u (λ j. elim (subst (λ (l : List Live). IsIn u l) is_w j) [
            | inl q ↦ n (ap (λ (z : Live). z.first) (sym q))
            | inr q ↦ elim q [
              | inl y ↦ n' (ap (λ (z : Live). z.first) (sym y))
              | inr y ↦ y
            ]
          ]) i))));
      seats = λ j u q. elim (at_set s.views id j w u q) [
        | inl y ↦ subst (IsSeatInOrder k h) y.1 mine
        | inr y ↦ r.seats j u y.1
      ];
      reached = reached_split k s record { words = s.words; homes = s.homes; views = views' } h id parts left v w
          r.reached record { apart = r.apart; there = a.there; live = a.live; views = refl; first = refl } refl shows
          nothing some_parts fewer less (event ∙ sym is_split);
    }
  where
    first_in : (l : List Live) (n : ℕ) → IsIn n (firsts l) → (x : Live) × IsIn x l × (x.first ≡ n)
    first_in [] n i = absurd i
    first_in (y ∷ l) n (inl e) = (y, inl refl, e)
    first_in (y ∷ l) n (inr i) = let r = first_in l n i in (r.0, inr r.1, r.2)

    one_child : (x y : Child) → ◌≡◌ {A = Option Child} (Some x) (Some y) → x ≡ y
    one_child x y e = cc

-- nothing is in hand after no steps
pub empty_hand : (b : ℕ) → IsIn b (in_hand []) → ⊥
unfolding in_hand
empty_hand b i = i

-- and so nothing twice
pub empty_once : AreDistinct (in_hand [])
unfolding in_hand
empty_once = tt

-- the child takes a seat of its own
pub seating_keeps_rule : (k : Key) (id : ℕ) (w : View) (c : Child) → w.child ≡ Some c → 0 < w.parts →
    Splits (Rule k) id w (without_child w) (seated w c)
seating_keeps_rule k id w c has some_part s rule at =
    let h = rule.0 in
    let r = rule.1 in
    let count : ℕ = buckets_of k in
    let ok = r.seats id w at in
    let w0 : View = without_child w in
    let o : View = seated w c in
    let kid = ok.child c has in
    let cut : List View = slice_set s.views id w0 in
    let views : List View = cut ++ o ∷ [] in
    let is_w : passes_of count w ≡ plain w ∷ plain_child count c ∷ [] = with_child count w c some_part has in
    let is_w0 : passes_of count w0 ≡ plain w ∷ [] = alone count w0 some_part refl in
    let is_o : passes_of count o ≡ plain_child count c ∷ [] = alone count o kid.some_part refl
    ∙ (λ i. record {
      first = c.first;
      parts = c.parts;
      left = c.left;
      seen = c.seen;
      since = c.seen;
      held = replicate (ok.places some_part i) None;
    } ∷ []) in
    let here : get_elem? cut id ≡ some w0 = set_at s.views id w w0 at in
    -- the numbers, the child's behind all others
    let back = one_more count cut id w0 w w.first c.first here (ap firsts is_w0) (ap firsts is_w) in
    let again : slice_set cut id w ≡ s.views = set_back s.views id w0 w at in
    let d : AreDistinct (back.front ++ c.first ∷ back.back) = subst (λ (l : List ℕ). AreDistinct l)
    (ap (λ (l : List View). firsts (passes_in count l)) (sym again) ∙ back.is) r.apart in
    let all : firsts (passes_in count views) ≡ (back.front ++ back.back) ++ c.first ∷ [] =
    ap firsts (passes_append count cut o) ∙ firsts_append (passes_in count cut) (passes_of count o)
    ∙ (λ i. back.was i ++ ap firsts is_o i) in
    let d' : AreDistinct (firsts (passes_in count views)) =
    subst (λ (l : List ℕ). AreDistinct l) (sym all) (moved_back back.front back.back c.first d) in
    let unseen = seating_is_unseen k s id w c r.apart at has some_part kid.some_part (ok.places some_part) d' in (
      h,
      record {
        good = subst (λ (t : BoardState). IsGood t h) (sym unseen) r.good;
        words = r.words;
        apart = d';
        below = all_of_each (λ (u : Live). u.first < k.parts) (passes_in count views) (λ u i.
            let x = passes_from count views u i in
            elim (at_snoc cut o x.view x.seat x.there) [
              | inl e ↦ elim (at_set s.views id x.seat w0 x.view e) [
                | inl y ↦ each_of_all (λ (z : Live). z.first < k.parts) (passes_in count s.views) r.below u
                    (passes_to count s.views id w u at
                    (elim (subst (λ (l : List Live). IsIn u l) (ap (passes_of count) (sym y.1) ∙ is_w0) x.is_of) [
                      | inl z ↦ subst (λ (l : List Live). IsIn u l) (sym is_w) (inl z)
                      | inr z ↦ absurd z
                    ]))
                | inr y ↦ each_of_all (λ (z : Live). z.first < k.parts) (passes_in count s.views) r.below u
                    (passes_to count s.views x.seat x.view u y.1 x.is_of)
              ]
              | inr e ↦ each_of_all (λ (z : Live). z.first < k.parts) (passes_in count s.views) r.below u
                  (passes_to count s.views id w u at
                  (elim (subst (λ (l : List Live). IsIn u l) (ap (passes_of count) (sym e) ∙ is_o) x.is_of) [
                    | inl z ↦ subst (λ (l : List Live). IsIn u l) (sym is_w) (inr (inl z))
                    | inr z ↦ absurd z
                  ]))
            ]);
        seats = λ j u e. elim (at_snoc cut o u j e) [
          | inl y ↦ elim (at_set s.views id j w0 u y) [
            | inl z ↦ subst (IsSeatInOrder k h) z.1 record {
              table = ok.table;
              places = ok.places;
              idle = λ q. absurd (omega arith);
              made = ok.made;
              known = ok.known;
              holds = ok.holds;
              once = ok.once;
              steps = ok.steps;
              child = λ x q. absurd (cc q);
            }
            | inr z ↦ r.seats j u z.1
          ]
          | inr y ↦ subst (IsSeatInOrder k h) y record {
            table = λ q. ok.table some_part;
            places = λ q. length-replicate (length w.held) None ∙ ok.places some_part;
            idle = λ q. absurd (let z = kid.some_part in omega arith);
            made = λ q. kid.made;
            known = ok.known;
            holds = λ b. (
              (λ t. absurd (none_there (bucket_at o.held b) (none_at (length w.held) b) t)),
              (λ i. absurd (empty_hand b i)),
            );
            once = empty_once;
            steps = tt;
            child = λ x q. absurd (cc q);
          }
        ];
        reached =
            reached_unseen k s record { words = s.words; homes = s.homes; views = views } h r.reached unseen
            (λ j u e live. elim (at_snoc cut o u j e) [
              | inl y ↦ elim (at_set s.views id j w0 u y) [
                | inl z ↦ subst (λ (x : View). EndsWith (steps_by x.first r.reached.turns) x.trail) z.1
                    (r.reached.trails id w at some_part)
                | inr z ↦ r.reached.trails j u z.1 live
              ]
              | inr y ↦ subst (λ (x : View). EndsWith (steps_by x.first r.reached.turns) x.trail) y
                  (ends_empty (steps_by o.first r.reached.turns))
            ]);
      },
    )
  where
    set_back : (l : List View) (i : ℕ) (x y : View) → get_elem? l i ≡ some y → slice_set (slice_set l i x) i y ≡ l
    set_back [] i x y e = absurd (some-ne-none y (sym e))
    set_back (z ∷ l) zero x y e = λ j. sym (some-injective z y e) j ∷ l
    set_back (z ∷ l) (suc i) x y e = ap (λ (m : List View). z ∷ m) (set_back l i x y e)

    passes_append : (count : ℕ) (l : List View) (o : View) → passes_in count (l ++ o ∷ []) ≡ passes_in count l
        ++ passes_of count o
    passes_append count [] o = Rattle.std.proofs.lemmas.List.append-nil (passes_of count o)
    passes_append count (x ∷ l) o =
        ap (λ (m : List Live). passes_of count x ++ m) (passes_append count l o)
        ∙ sym (Rattle.std.proofs.lemmas.List.append_assoc (passes_of count x) (passes_in count l) (passes_of count o))

    moved_back : (l m : List ℕ) (x : ℕ) → AreDistinct (l ++ x ∷ m) → AreDistinct ((l ++ m) ++ x ∷ [])
    moved_back [] m x d = distinct_push m x d.1 d.0
    moved_back (y ∷ l) m x d = (
      (λ i. elim (in_snoc (l ++ m) x y i) [
        | inl j ↦ d.0 (in_wider l m x y j)
        | inr e ↦ d.0 (subst (λ (z : ℕ). IsIn z (l ++ x ∷ m)) e (at_middle l m x))
      ]),
      moved_back l m x d.1,
    )
