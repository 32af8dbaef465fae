-- The opening board is good.
use Rattle.std.specs.Prelude.{◌≡◌, ℕ, zero, suc, ◌-◌, ◌*◌, ◌<◌, List, [], ◌∷◌, Option, None, Some, All, length}
use Rattle.std.specs.Prelude.{replicate, slice_index_or}
use Rattle.std.specs.List.{filter}
use Rattle.std.proofs.Common.{refl, sym, ◌∙◌, ap, subst, arith}
use Rattle.std.proofs.lemmas.List.{append-nil, length-replicate}
use Rattle.list_laws.proofs.Cited.{is_there, none_at, none_there, nothing, one_value, zero_at}
use Rattle.edit_history.specs.declared.history.Entry.{Entry}
use Rattle.cell_store.specs.Buckets.{BucketContent, bucket_at}
use Rattle.claim_rule.specs.Boards.{View, BoardState, IsLive, is_by, made_by}
use Rattle.claim_rule.specs.Good.{IsViewInOrder}
use Rattle.cell_store.specs.Shares.{share_at}
use Rattle.claim_rule.specs.Opening.{shares_from, opening_board}
use Rattle.claim_rule.specs.Laws.{OpeningIsGood}
use Rattle.claim_rule.proofs.Places.{left_none}
use Rattle.claim_rule.proofs.Histories.{dropped_all}
use Rattle.claim_rule.proofs.OneHistory.{shares_count, all_shares, only_shares}

-- the one view of a list with one view in front
only_front : (v u : View) (n i : ℕ) → slice_index_or (Some v ∷ replicate n None) i None ≡ Some u → (i ≡ 0) × (u ≡ v)
only_front v u n zero e = (refl, sym (one_value v u e))
only_front v u n (suc i) e = absurd (cc (sym (none_at n i) ∙ e))

-- of the opening entries no pass has made one
none_made : (P : Entry → Type 0) (first parts : ℕ) (h : List Entry) → All P (made_by first parts (length h) h)
none_made P first parts h =
    subst (λ (l : List Entry). All P (filter (is_by first parts) l)) (sym (dropped_all h))
    (λ k d i. absurd (omega arith))

-- the opening board of a legal history of a solid set is good
pub opening_is_good : OpeningIsGood
opening_is_good g parts allowance h size some few most legal keys solid =
    let s : BoardState = opening_board g parts allowance h in
    let homes : List (Option BucketContent) = shares_from g h 0 (g * g * g) in
    let wide : length homes ≡ g * g * g = shares_count g h 0 (g * g * g) in
    let v : View = record {
      first = 0;
      parts = parts;
      left = allowance;
      seen = length h;
      since = length h;
      held = replicate (g * g * g) None;
    } in
    let zeros : (b : ℕ) → ◌≡◌ {A = ℕ} (slice_index_or s.words b 0) 0 = zero_at (g * g * g) in
    let nowhere : (b : ℕ) → bucket_at v.held b ≡ None = none_at (g * g * g) in
    let count : length s.words ≡ g * g * g = length-replicate (g * g * g) 0 in
    let is_v : (u : View) → IsLive s u → u ≡ v = λ u l. (only_front v u (parts - 1) u.first l).1 in
    let rest : length (replicate (parts - 1) (nothing {X = View})) ≡ parts - 1 =
    length-replicate (parts - 1) (nothing {X = View}) in
    record {
      shape = record {
        size = size;
        words = count;
        homes = wide ∙ sym count;
        views = omega arith;
        some_part = some;
        few_parts = few;
        most = most;
        named = λ i u e. let k = only_front v u (parts - 1) i e in ap (λ (x : View). x.first) k.1 ∙ sym k.0;
      };
      legal = legal;
      starts = ([], sym (append-nil h));
      ticket = refl;
      keys = keys;
      solid = solid;
      shares = only_shares g h;
      home = λ b l. (
        (λ z. is_there (bucket_at homes b) (share_at g b h) (all_shares g h b (omega (arith, l, count)))),
        (λ t. zeros b),
      );
      away = λ b l n. absurd (n (zeros b));
      passes = λ u l. subst (IsViewInOrder s h) (sym (is_v u l)) record {
        some_part = some;
        inside = omega arith;
        places = length-replicate (g * g * g) None ∙ sym count;
        shares = λ b c e. absurd (cc (sym (nowhere b) ∙ e));
        words = λ b t. absurd (none_there (bucket_at v.held b) (nowhere b) t);
        since = omega arith;
        seen = omega arith;
        made = none_made (λ e. e.number < length h) 0 parts h;
      };
      owners = λ p i. record { view = v; live = refl; owns = (omega arith, omega arith); only = λ u l o. is_v u l };
      makers =
          subst (λ (l : List Entry). All (λ e. e.by < parts) l) (sym (dropped_all h)) (λ k d i. absurd (omega arith));
      room = let z = left_none (parts - 1) in omega arith;
    }
