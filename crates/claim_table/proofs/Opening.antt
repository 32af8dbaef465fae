-- A new table meets the rule.
use Rattle.std.specs.Prelude.{◌≡◌, ℕ, zero, suc, ◌+◌, ◌-◌, ◌^◌, ◌<◌, ◌≤◌, ◌==◌, true, false, cond, List, [], ◌∷◌, map}
use Rattle.std.specs.Prelude.{replicate, Option, None, Some, All, length, slice_index_or}
use Rattle.std.specs.List.{filter, range_with_len}
use Rattle.std.proofs.Common.{refl, sym, ◌∙◌, ap, subst, inl, inr, arith, ext_get_or, ne_eqb}
use Rattle.std.proofs.lemmas.List.{length-replicate, append-nil}
use mathlib.Core.Option.{some, some-injective, some-ne-none}
use lib.ListN.{get_elem?}
use Rattle.atomic_table.specs.Table.{opening}
use Rattle.list_laws.specs.Lists.{AreDistinct}
use Rattle.list_laws.proofs.Cited.{all_of_each, none_at, none_there}
use Rattle.point_order.specs.Solid.{is_solid}
use Rattle.edit_history.specs.declared.history.Entry.{Entry}
use Rattle.edit_history.specs.Histories.{replay, IsLegal}
use Rattle.del_laws.specs.Keys.{AreKeys}
use Rattle.bucket_grid.specs.Grids.{is_grid_size}
use Rattle.cell_store.specs.Buckets.{BucketContent, bucket_at}
use Rattle.claim_rule.specs.Boards.{BoardState, is_by, made_by}
use Rattle.claim_rule.specs.Good.{IsGood}
use Rattle.claim_rule.specs.Opening.{shares_from, opening_board}
use Rattle.claim_rule.proofs.Cited.{dropped_all, opening_is_good}
use Rattle.claim_table.specs.declared.view.Key.{Key}
use Rattle.claim_table.specs.declared.view.View.{View}
use Rattle.claim_table.specs.Faces.{buckets_of, opening_of, plain, passes_of, passes_in, at_home, board_of}
use Rattle.claim_table.specs.Faces.{view_numbered}
use Rattle.claim_table.specs.Rule.{IsSeatInOrder, IsRule, opening_view}
use Rattle.claim_table.proofs.LivePasses.{at_place, places_count}
use Rattle.claim_table.proofs.Boarded.{Table, Live, firsts, alone}
use Rattle.claim_table.proofs.Divides.{empty_hand, empty_once}
use Rattle.claim_table.specs.Reached.{opened_as}
use Rattle.claim_table.proofs.Reached.{reached_first}

-- contents that are all in their slots are at home as they are
homes_are : (slots : List (Option BucketContent)) → map at_home (map some slots) ≡ slots
homes_are [] = refl
homes_are (o ∷ slots) = ap (λ (l : List (Option BucketContent)). o ∷ l) (homes_are slots)

-- Words, slots and the first pass of a table for a mesh of this history: the ticket counts it, and every bucket is at
-- home with its share.
pub starts : (k : Key) (h : List Entry) (allowance : ℕ) (slots : List (Option BucketContent)) → opening_of k ≡ h →
    k.most ≡ length h + allowance → is_grid_size k.grid ≡ true → 0 < k.parts → k.parts ≤ 64 →
    length h + allowance ≤ 2 ^ 32
    → IsLegal h → AreKeys (replay h) → is_solid (replay h) ≡ true → slots ≡ shares_from k.grid h 0 (buckets_of k)
    → IsRule k (opening (length h ∷ replicate (buckets_of k) 0) slots (opening_view k)) h
starts k h allowance slots is most size some_part few fits legal keys solid all_shares =
    let count : ℕ = buckets_of k in
    let v : View = opening_view k in
    let s : Table = opening (length h ∷ replicate count 0) slots v in
    let passes : List Live = passes_in count s.views in
    let opened : BoardState = opening_board k.grid k.parts allowance h in
    let first : Live = record {
      first = 0;
      parts = k.parts;
      left = allowance;
      seen = length h;
      since = length h;
      held = replicate count None;
    } in
    let left : k.most - length (opening_of k) ≡ allowance = let q = ap length is in omega arith in
    let one : passes ≡ plain v ∷ [] = append-nil (passes_of count v) ∙ alone count v some_part refl in
    let plain_is : plain v ≡ first = (λ i. record {
      first = 0;
      parts = k.parts;
      left = left i;
      seen = length (is i);
      since = length (is i);
      held = replicate count None;
    }) in
    let listed : passes ≡ first ∷ [] = one ∙ (λ i. plain_is i ∷ []) in
    let more : length (replicate (k.parts - 1) (nowhere first)) ≡ k.parts - 1 =
    length-replicate (k.parts - 1) (nowhere first) in
    let views : map (λ n. view_numbered n passes) (range_with_len 0 k.parts)
    ≡ Some first ∷ replicate (k.parts - 1) None =
    ext_get_or None (map (λ n. view_numbered n passes) (range_with_len 0 k.parts))
    (Some first ∷ replicate (k.parts - 1) None) (let c = places_count k.parts passes in omega arith)
    (λ i l. let c = places_count k.parts passes in at_place k.parts passes i (omega arith) ∙ ap (view_numbered i) listed
    ∙ shows first i) in
    let event : board_of k s ≡ opened =
    (λ i. record {
      grid = k.grid;
      parts = k.parts;
      most = most i;
      opening = is i;
      ticket = length h;
      words = replicate count 0;
      homes = (homes_are slots ∙ all_shares) i;
      views = views i;
    }) in
    let began : opened ≡ opened_as k = (λ i. opening_board k.grid k.parts (sym left i) (sym is i)) in
    let good : IsGood opened h = opening_is_good k.grid k.parts allowance h size some_part few fits legal keys solid in
    let ok : IsSeatInOrder k h v = record {
      table = λ q. (refl, refl, refl);
      places = λ q. length-replicate count None;
      idle = λ e. (refl, none_at count);
      made = λ q. sym (ap (λ (l : List Entry). made_by 0 k.parts (length l) h) is
          ∙ ap (filter (is_by 0 k.parts)) (dropped_all h));
      known = ([], sym is ∙ sym (append-nil (opening_of k)));
      holds =
          λ b. ((λ t. absurd (none_there (bucket_at v.held b) (none_at count b) t)), (λ i. absurd (empty_hand b i)));
      once = empty_once;
      steps = tt;
      child = λ c e. absurd (cc e);
    } in
    record {
      good = subst (λ (t : BoardState). IsGood t h) (sym event) good;
      words = let zero_word : ℕ = 0 in let q : length (replicate count zero_word) ≡ count =
          length-replicate count zero_word in omega arith;
      apart = subst (λ (l : List Live). AreDistinct (firsts l)) (sym listed) ((λ i. i), tt);
      below =
          subst (λ (l : List Live). All (λ (u : Live). u.first < k.parts) l) (sym listed)
          (all_of_each (λ (u : Live). u.first < k.parts) (first ∷ []) (λ u i. elim i [
            | inl e ↦ (let q : 0 ≡ u.first = ap (λ (x : Live). x.first) e in omega arith)
            | inr e ↦ absurd e
          ]));
      seats = λ j u e. subst (IsSeatInOrder k h) (only v u j e) ok;
      reached = reached_first k s h (sym is) (event ∙ began) (subst (λ (t : BoardState). IsGood t h) (sym event) good)
          (λ j u e. ap (λ (x : View). x.trail) (sym (only v u j e)));
    }
  where
    nowhere : Live → Option Live
    nowhere u = None

    shows : (u : Live) (i : ℕ) → view_numbered i (record u { first = 0 } ∷ [])
        ≡ slice_index_or (Some (record u { first = 0 }) ∷ replicate (k.parts - 1) None) i None
    shows u zero = refl
    shows u (suc i) =
        (let q : (0 == suc i) ≡ false = ne_eqb 0 (suc i) (λ e. omega arith) in
        λ j. cond (q j) (Some (record u { first = 0 })) None) ∙ sym (none_at (k.parts - 1) i)

    only : (v u : View) (j : ℕ) → get_elem? (v ∷ []) j ≡ some u → v ≡ u
    only v u zero e = some-injective v u e
    only v u (suc j) e = absurd (some-ne-none u (sym e))
