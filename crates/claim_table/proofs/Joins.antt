-- A join keeps the rule.
use Rattle.std.specs.Prelude.{◌≡◌, ◌≢◌, ℕ, zero, suc, ◌+◌, ◌<◌, Bool, true, false, cond, leb, List, [], ◌∷◌, ◌++◌, map}
use Rattle.std.specs.Prelude.{Option, None, Some, length, slice_index_or, slice_set}
use Rattle.std.specs.List.{range_with_len}
use Rattle.std.specs.Option.{option_map_or}
use Rattle.std.proofs.Common.{refl, sym, ◌∙◌, ap, subst, inl, inr, arith, get_or-set_other, get_or-set_same, length-set}
use Rattle.std.proofs.Common.{ext_get_or}
use Rattle.std.proofs.lemmas.List.{append_assoc}
use mathlib.Core.Logic.{dite}
use mathlib.Core.Option.{some, some-injective, some-ne-none}
use native.Mathlib.Decide.{ℕ_discrete}
use lib.ListN.{get_elem?}
use Rattle.atomic_table.specs.Table.{Joins}
use Rattle.atomic_table.proofs.Lists.{at_set, set_else}
use Rattle.list_laws.specs.Lists.{AreDistinct}
use Rattle.list_laws.proofs.Cited.{all_of_each, distinct_less, each_of_all}
use Rattle.point_order.specs.Sets.{IsIn}
use Rattle.edit_history.specs.declared.history.Entry.{Entry}
use Rattle.cell_store.specs.Buckets.{bucket_at}
use Rattle.claim_rule.specs.Boards.{BoardState, made_by}
use Rattle.claim_rule.specs.Good.{IsGood, StartsWith}
use Rattle.claim_rule.specs.Events.{join_of, after_join}
use Rattle.claim_rule.proofs.Cited.{join_keeps}
use Rattle.claim_table.specs.declared.view.Key.{Key}
use Rattle.claim_table.specs.declared.view.View.{View}
use Rattle.claim_table.specs.Faces.{buckets_of, opening_of, plain, passes_of, passes_in, board_of, view_numbered}
use Rattle.cell_store.specs.Meshes.{by_number}
use Rattle.claim_table.specs.Lists.{longer}
use Rattle.claim_table.specs.Rule.{IsSeatInOrder, IsRule, Rule}
use Rattle.claim_table.specs.Plays.{joins, no_pass}
use Rattle.claim_table.proofs.LivePasses.{numbered_from, same_numbered, at_place, places_count, in_firsts}
use Rattle.claim_table.proofs.Boarded.{Table, Live, firsts, firsts_append, alone, others_to, others_from, same_firsts}
use Rattle.claim_table.proofs.Boarded.{views_set}
use Rattle.claim_table.proofs.SplitEvents.{Between}
use Rattle.claim_table.proofs.Claims.{IsAlone, below, on_board}
use Rattle.claim_table.proofs.Closing.{spent_in_order}
use Rattle.claim_table.proofs.Reached.{reached_join}
use Rattle.claim_table.proofs.JoinedEntries.{made_united}

-- ---- a seat without a pass

-- where a seat with one pass comes to have none, that one's number is gone from between
one_less : (count : ℕ) (views : List View) (id : ℕ) (w : View) (x : ℕ) → get_elem? views id ≡ some w →
    firsts (passes_of count w) ≡ x ∷ [] → Between (firsts (passes_in count (slice_set views id no_pass)))
    (firsts (passes_in count views)) x
one_less count [] id w x at e = absurd (some-ne-none w (sym at))
one_less count (y ∷ views) zero w x at e = record {
  front = [];
  back = firsts (passes_in count views);
  was = refl;
  is = firsts_append (passes_of count y) (passes_in count views)
      ∙ ap (λ (l : List ℕ). l ++ firsts (passes_in count views))
      (ap (λ (u : View). firsts (passes_of count u)) (some-injective y w at) ∙ e);
}
one_less count (y ∷ views) (suc id) w x at e =
    let r = one_less count views id w x at e in
    let p = firsts (passes_of count y) in
    record {
      front = p ++ r.front;
      back = r.back;
      was = firsts_append (passes_of count y) (passes_in count (slice_set views id no_pass))
          ∙ ap (λ (l : List ℕ). p ++ l) r.was ∙ sym (append_assoc p r.front r.back);
      is = firsts_append (passes_of count y) (passes_in count views) ∙ ap (λ (l : List ℕ). p ++ l) r.is
          ∙ sym (append_assoc p r.front (x ∷ r.back));
    }

-- a number that no pass has shows none
none_shown : (n : ℕ) (l : List Live) → ¬ (IsIn n (firsts l)) → view_numbered n l ≡ None
none_shown n l f = by (view_numbered n l) refl
  where
    by : (o : Option Live) → view_numbered n l ≡ o → view_numbered n l ≡ None
    by None e = e
    by (Some v) e =
        absurd (let r = numbered_from n l v e in f (subst (λ (k : ℕ). IsIn k (firsts l)) r.1 (in_firsts l v r.0)))

-- one pass is gone
place_cleared : (p : ℕ) (l m : List Live) (n : ℕ) → AreDistinct (firsts l) → AreDistinct (firsts m) → n < p →
    ¬ (IsIn n (firsts m)) → ((v : Live) → v.first ≢ n → IsIn v l → IsIn v m) →
    ((v : Live) → v.first ≢ n → IsIn v m → IsIn v l)
    → map (λ n. view_numbered n m) (range_with_len 0 p)
    ≡ slice_set (map (λ n. view_numbered n l) (range_with_len 0 p)) n None
place_cleared p l m n d d' b gone f g =
    let old = map (λ n. view_numbered n l) (range_with_len 0 p) in
    let new = map (λ n. view_numbered n m) (range_with_len 0 p) in
    let c : length old ≡ p = places_count p l in
    let c' : length new ≡ p = places_count p m in
    ext_get_or None new (slice_set old n None) (c' ∙ sym c ∙ sym (length-set old n None)) (λ k h.
    dite (ℕ_discrete k n)
    (λ e.
    ap (λ (x : ℕ). slice_index_or new x None) e ∙ at_place p m n b ∙ none_shown n m gone
    ∙ sym (get_or-set_same old n None None (omega arith)) ∙ ap (λ (x : ℕ). slice_index_or (slice_set old n None) x None)
    (sym e))
    (λ q.
    at_place p m k (omega arith)
    ∙ same_numbered m l k d' d (λ v e j. g v (λ z. q (sym e ∙ z)) j) (λ v e j. f v (λ z. q (sym e ∙ z)) j)
    ∙ sym (at_place p l k (omega arith)) ∙ sym (get_or-set_other old n k None None q)))

-- two places of a list can be set in either order
set_swapped : (l : List View) (i j : ℕ) (a b : View) → i ≢ j → slice_set (slice_set l i a) j b
    ≡ slice_set (slice_set l j b) i a
set_swapped [] i j a b n = refl
set_swapped (x ∷ l) zero zero a b n = absurd (n refl)
set_swapped (x ∷ l) zero (suc j) a b n = refl
set_swapped (x ∷ l) (suc i) zero a b n = refl
set_swapped (x ∷ l) (suc i) (suc j) a b n = ap (λ (m : List View). x ∷ m) (set_swapped l i j a b (λ e. n (ap suc e)))

-- a history that begins with each of two lists begins with the longer
longer_starts : (h l m : List Entry) → StartsWith h l → StartsWith h m → StartsWith h (longer l m)
longer_starts h l m a b = by (leb (length l) (length m))
  where
    by : (t : Bool) → StartsWith h (cond t m l)
    by true = b
    by false = a

-- ---- the join

-- a join of two passes that hold nothing, of which the second's parts come next, keeps the rule
pub joins_keep : (k : Key) (id other : ℕ) (v w : View) → 0 < v.parts → 0 < w.parts → v.child ≡ None → w.child ≡ None →
    ((b : ℕ) → bucket_at v.held b ≡ None) → ((b : ℕ) → bucket_at w.held b ≡ None) → w.first ≡ v.first + v.parts →
    Joins (Rule k) id v other w (joins v w) no_pass
joins_keep k id other v w live live' lone lone' nothing nothing' next s rule at apart there' =
    let h = rule.0 in
    let r = rule.1 in
    let count : ℕ = buckets_of k in
    let old : BoardState = board_of k s in
    let good = r.good in
    let both : View = joins v w in
    let there : get_elem? s.views other ≡ some w = sym (set_else s.views id other both apart) ∙ there' in
    let a : IsAlone k s id v = record { there = at; live = live; lone = lone } in
    let a' : IsAlone k s other w = record { there = there; live = live'; lone = lone' } in
    let ok = r.seats id v at in
    let ok' = r.seats other w there in
    let shown = on_board k s h id v r a in
    let shown' = on_board k s h other w r a' in
    let v_below : v.first < k.parts = below k s h id v r a in
    let w_below : w.first < k.parts = below k s h other w r a' in
    let is_w : passes_of count w ≡ plain w ∷ [] = alone count w live' lone' in
    let views1 : List View = slice_set s.views other no_pass in
    let between = one_less count s.views other w w.first there (ap firsts is_w) in
    let less =
    distinct_less between.front between.back w.first (subst (λ (l : List ℕ). AreDistinct l) between.is r.apart) in
    let d1 : AreDistinct (firsts (passes_in count views1)) =
    subst (λ (l : List ℕ). AreDistinct l) (sym between.was) less.0 in
    let gone : ¬ (IsIn w.first (firsts (passes_in count views1))) =
    λ i. less.1 (subst (λ (l : List ℕ). IsIn w.first l) between.was i) in
    let first_step =
    place_cleared k.parts (passes_in count s.views) (passes_in count views1) w.first r.apart d1 w_below gone
    (λ u n i. others_to count s.views other w no_pass u there (λ j. elim (subst (λ (l : List Live). IsIn u l) is_w j) [
      | inl e ↦ n (ap (λ (x : Live). x.first) (sym e))
      | inr e ↦ e
    ]) i)
    (λ u n i. others_from count s.views other no_pass u (λ j. j) i) in
    let s1 : Table = record { words = s.words; homes = s.homes; views = views1 } in
    let at1 : get_elem? views1 id ≡ some v = set_else s.views other id no_pass (λ e. apart (sym e)) ∙ at in
    let second_step = views_set k s1 id v both d1 at1 live (omega arith) lone lone refl v_below in
    let views2 : List View = slice_set views1 id both in
    let swapped : slice_set (slice_set s.views id both) other no_pass ≡ views2 =
    set_swapped s.views id other both no_pass (λ e. apart (sym e)) in
    let s2 : Table = record { words = s.words; homes = s.homes; views = views2 } in
    let event : board_of k s2 ≡ join_of old (plain v) (plain w) =
    (λ i. record old { views = (second_step ∙ (λ j. slice_set (first_step j) v.first (Some (plain both)))) i }) in
    let is_joined : after_join old v.first w.first ≡ join_of old (plain v) (plain w) =
    (λ i. option_map_or (λ x. option_map_or (λ y. join_of old x y) (shown' i) old) (shown i) old) in
    let good' : IsGood (board_of k s2) h = subst (λ (t : BoardState). IsGood t h) (is_joined ∙ sym event)
    (join_keeps old h v.first w.first (plain v) (plain w) good shown shown' nothing nothing' next) in
    let is_v : passes_of count v ≡ plain v ∷ [] = alone count v live lone in
    let is_both : passes_of count both ≡ plain both ∷ [] = alone count both (omega arith) lone in
    let same : firsts (passes_in count views2) ≡ firsts (passes_in count views1) =
    same_firsts count views1 id v both at1 (ap firsts is_both ∙ sym (ap firsts is_v)) in
    let d2 : AreDistinct (firsts (passes_in count views2)) = subst (λ (l : List ℕ). AreDistinct l) (sym same) d1 in
    let mine : IsSeatInOrder k h both = record {
      table = λ q. ok.table live;
      places = λ q. ok.places live;
      idle = λ e. absurd (omega arith);
      made = λ q. (λ i. by_number (ok.made live i ++ (ok'.made live'
          ∙ ap (λ (f : ℕ). made_by f w.parts (length (opening_of k)) h) next) i))
          ∙ made_united v.first v.parts w.parts (length (opening_of k)) h good.legal;
      known = longer_starts h v.known w.known ok.known ok'.known;
      holds = ok.holds;
      once = ok.once;
      steps = ok.steps;
      child = λ c e. absurd (cc (sym lone ∙ e));
    } in
    let result : IsRule k s2 h = record {
      good = good';
      words = r.words;
      apart = d2;
      below = all_of_each (λ (u : Live). u.first < k.parts) (passes_in count views2) (λ u i.
          dite (ℕ_discrete u.first v.first)
          (λ q. omega arith)
          (λ n. each_of_all (λ (z : Live). z.first < k.parts) (passes_in count s.views) r.below u
          (others_from count s.views other no_pass u (λ j. j)
          (others_from count views1 id both u (λ j. elim (subst (λ (l : List Live). IsIn u l) is_both j) [
            | inl q ↦ n (ap (λ (z : Live). z.first) (sym q))
            | inr q ↦ q
          ]) i))));
      seats = λ j u q. elim (at_set views1 id j both u q) [
        | inl y ↦ subst (IsSeatInOrder k h) y.1 mine
        | inr y ↦ elim (at_set s.views other j no_pass u y.1) [
          | inl z ↦ subst (IsSeatInOrder k h) z.1 (spent_in_order k h)
          | inr z ↦ r.seats j u z.1
        ]
      ];
      reached = reached_join k s s2 h id other v both w r.reached r.apart at live refl refl (sym swapped) shown shown'
          nothing nothing' next (event ∙ sym is_joined);
    } in (
      h,
      subst (λ (l : List View). IsRule k record { words = s.words; homes = s.homes; views = l } h) (sym swapped)
          result,
    )
