-- A commit keeps a board good: at that step the contents of all buckets in the pass's hands change, and no other's.
use Rattle.std.specs.Prelude.{◌≡◌, ◌≢◌, ℕ, zero, suc, ◌+◌, ◌-◌, ◌<◌, true, List, [], ◌∷◌, ◌++◌, Option, None, Some}
use Rattle.std.specs.Prelude.{IsSome, drop, length, slice_set}
use Rattle.std.specs.Option.{option_map}
use Rattle.std.proofs.Common.{refl, sym, ◌∙◌, ap, subst, inl, inr, arith}
use Rattle.list_laws.proofs.Cited.{filtered_from, filtered_true, is_there, one_value, same_there, some_mapped}
use Rattle.list_laws.proofs.Cited.{within_some}
use mathlib.Core.Logic.{dite}
use native.Mathlib.Decide.{ℕ_discrete}
use Rattle.edit_history.specs.declared.history.Edit.{Edit}
use Rattle.edit_history.specs.declared.history.Entry.{Entry}
use Rattle.edit_history.specs.Edits.{HasKeys}
use Rattle.edit_history.specs.Histories.{replay}
use Rattle.cell_store.specs.Buckets.{BucketContent, bucket_at}
use Rattle.cell_store.specs.Touches.{HoldTouched}
use Rattle.claim_rule.specs.Boards.{View, BoardState, word_of, view_at, IsLive, is_by, made_by}
use Rattle.claim_rule.specs.Good.{AreSharesOf, IsViewInOrder, IsGood}
use Rattle.cell_store.specs.Shares.{share_at}
use Rattle.claim_rule.specs.Events.{committed, entry_after, renewed_from}
use Rattle.claim_rule.proofs.Places.{left_set}
use Rattle.claim_rule.proofs.Histories.{length_more, starts_more, in_dropped_more, all_from_in, in_all, made_below}
use Rattle.claim_rule.proofs.Histories.{by_parts}
use Rattle.claim_rule.proofs.Nexts.{some_next, stays_outside}
use Rattle.claim_rule.proofs.Keeps.{renewed, keeps}
use Rattle.claim_rule.proofs.Steps.{live_at, one_view}

-- ---- contents that are renewed

-- where a content was, its share of the history is after it is renewed, and else there is none
pub renewed_at : (g : ℕ) (h : List Entry) (k : ℕ) (l : List (Option BucketContent)) (b : ℕ) →
    bucket_at (renewed_from g h k l) b ≡ option_map (λ c. share_at g (k + b) h) (bucket_at l b)
renewed_at g h k [] b = refl
renewed_at g h k (o ∷ l) zero = let q : k ≡ k + 0 = omega arith in ap (λ (n : ℕ). option_map (λ c. share_at g n h) o) q
renewed_at g h k (o ∷ l) (suc b) =
    let q : k + 1 + b ≡ k + suc b =
    omega arith in renewed_at g h (k + 1) l b ∙ ap (λ (n : ℕ). option_map (λ c. share_at g n h) (bucket_at l b)) q

-- renewing leaves as many places
pub renewed_length : (g : ℕ) (h : List Entry) (k : ℕ) (l : List (Option BucketContent)) → length (renewed_from g h k l)
    ≡ length l
renewed_length g h k [] = refl
renewed_length g h k (o ∷ l) = let r = renewed_length g h (k + 1) l in omega arith

-- a mapped option that has a value had one
mapped_back : {X Y : Type 0} (f : X → Y) (o : Option X) → IsSome (option_map f o) → IsSome o
mapped_back f None s = absurd (cc s)
mapped_back f (Some x) s = refl

-- an option that is mapped to one value has none but that
mapped_is : {X Y : Type 0} (y : Y) (o : Option X) (z : Y) → option_map (λ x. y) o ≡ Some z → z ≡ y
mapped_is y None z e = absurd (cc e)
mapped_is y (Some x) z e = sym (one_value y z e)

-- all contents that are renewed are shares of the history
pub renewed_shares : (g : ℕ) (h : List Entry) (l : List (Option BucketContent)) → AreSharesOf g h (renewed_from g h 0 l)
renewed_shares g h l b c e =
    let q : 0 + b ≡ b = omega arith in
    mapped_is (share_at g (0 + b) h) (bucket_at l b) c (sym (renewed_at g h 0 l b) ∙ e)
    ∙ ap (λ (n : ℕ). share_at g n h) q

-- a content that is there is there once renewed
pub renewed_there : (g : ℕ) (h : List Entry) (l : List (Option BucketContent)) (b : ℕ) → IsSome (bucket_at l b) →
    IsSome (bucket_at (renewed_from g h 0 l) b)
renewed_there g h l b t =
    same_there (option_map (λ c. share_at g (0 + b) h) (bucket_at l b)) (bucket_at (renewed_from g h 0 l) b)
    (sym (renewed_at g h 0 l b)) (some_mapped (λ c. share_at g (0 + b) h) (bucket_at l b) t)

-- and what is there once renewed was there
pub renewed_back : (g : ℕ) (h : List Entry) (l : List (Option BucketContent)) (b : ℕ) →
    IsSome (bucket_at (renewed_from g h 0 l) b) → IsSome (bucket_at l b)
renewed_back g h l b t =
    mapped_back (λ c. share_at g (0 + b) h) (bucket_at l b) (same_there (bucket_at (renewed_from g h 0 l) b)
    (option_map (λ c. share_at g (0 + b) h) (bucket_at l b)) (renewed_at g h 0 l b) t)

-- ---- the step

-- where the pass may make an edit and holds what it touches, a commit leaves a good board, with its entry more
pub commit_keeps : (s : BoardState) (h : List Entry) (n tag : ℕ) (edit : Edit) (v : View) → IsGood s h →
    view_at s n ≡ Some v → HasKeys edit → 0 < v.left → HoldTouched s.grid (replay h) edit v.held
    → IsGood (committed h s n tag edit) (h ++ entry_after h s.ticket n tag edit ∷ [])
commit_keeps s h n tag edit v good at key some touched =
    let live : IsLive s v = live_at s h n v good at in
    let named : v.first ≡ n = good.shape.named n v at in
    let ok : IsViewInOrder s h v = good.passes v live in
    let g : ℕ = s.grid in
    let c : ℕ = length s.opening in
    let counts : s.ticket ≡ length h = good.ticket in
    let e : Entry = entry_after h s.ticket v.first tag edit in
    let h' : List Entry = h ++ e ∷ [] in
    let more : length h' ≡ length h + 1 = length_more h e in
    let w : View = record v { left = v.left - 1; seen = s.ticket + 1; held = renewed_from g h' 0 v.held } in
    let s' : BoardState = renewed s (s.ticket + 1) s.words s.homes v.first w in
    let next = some_next s h v.first tag edit good key in
    -- a bucket that the pass does not hold keeps its share
    let else_where : (b : ℕ) → (IsSome (bucket_at v.held b) → ⊥) → share_at g b h' ≡ share_at g b h =
    λ b no. stays_outside s h b s.ticket v.first tag edit good key (λ t. no (touched b t)) in
    let not_held : (u : View) (b : ℕ) → IsLive s u → u.first ≢ v.first → IsSome (bucket_at u.held b) →
    IsSome (bucket_at v.held b) → ⊥ = λ u b l d a t.
    let x : word_of s b ≡ u.first + 1 = (good.passes u l).words b a in
    let y : word_of s b ≡ v.first + 1 = ok.words b t in d (omega arith) in
    let at_home : (b : ℕ) → IsSome (bucket_at s.homes b) → IsSome (bucket_at v.held b) → ⊥ = λ b a t.
    let y : word_of s b ≡ v.first + 1 = ok.words b t in
    let z : word_of s b ≡ 0 =
    (good.home b (let q = within_some v.held b t in let r = ok.places in omega arith)).1 a in omega arith in
    let other_parts : (u : View) → IsLive s u → u.first ≢ v.first → is_by u.first u.parts e ≡ true → ⊥ = λ u l d t.
    let k = by_parts u.first u.parts e t in
    let p : v.first < s.parts = (let i = ok.inside in let j = ok.some_part in omega arith) in
    let q = good.owners v.first p in
    d (ap (λ (x : View). x.first) (q.only u l k ∙ sym (q.only v live
    (omega arith, (let j = ok.some_part in omega arith))))) in
    let result : IsGood s' h' = keeps s h h' (s.ticket + 1) s.words s.homes v w good live record {
      first = refl;
      parts = refl;
      as_many_words = refl;
      as_many_homes = refl;
      legal = next.legal;
      starts = starts_more h s.opening e good.starts;
      counts = omega arith;
      keys = next.keys;
      solid = next.solid;
      shares = λ b x q. good.shares b x q ∙ sym (else_where b (at_home b (is_there (bucket_at s.homes b) x q)));
      home = good.home;
      away = λ b l z.
          let o = good.away b l z in
          dite (ℕ_discrete o.view.first v.first)
          (λ q. inl (renewed_there g h' v.held b (subst (λ (x : View). IsSome (bucket_at x.held b))
          (one_view s o.view v o.live live q) o.holds)))
          (λ q. inr (o.view, o.live, q, o.holds));
      mine = record {
        some_part = ok.some_part;
        inside = ok.inside;
        places = renewed_length g h' 0 v.held ∙ ok.places;
        shares = renewed_shares g h' v.held;
        words = λ b t. ok.words b (renewed_back g h' v.held b t);
        since = let q = ok.since in let r = ok.seen in omega arith;
        seen = omega arith;
        made = λ k d i. let q = made_below v.first v.parts c h' next.legal k d i in omega arith;
      };
      others = λ u l d. let k = good.passes u l in record {
        some_part = k.some_part;
        inside = k.inside;
        places = k.places;
        shares = λ b x q. k.shares b x q ∙ sym (else_where b (not_held u b l d (is_there (bucket_at u.held b) x q)));
        words = k.words;
        since = k.since;
        seen = let q = k.seen in omega arith;
        made = all_from_in (λ x. x.number < u.seen) (made_by u.first u.parts c h') (λ x i.
            let y = filtered_from (is_by u.first u.parts) (drop c h') x i in
            elim (in_dropped_more c h e x y.0) [
              | inl j ↦ in_all (λ z. z.number < u.seen) (made_by u.first u.parts c h) x k.made
                  (filtered_true (is_by u.first u.parts) (drop c h) x j y.1)
              | inr q ↦ absurd (other_parts u l d (subst (λ (z : Entry). is_by u.first u.parts z ≡ true) (sym q) y.1))
            ]);
      };
      makers = all_from_in (λ x. x.by < s.parts) (drop c h') (λ x i. elim (in_dropped_more c h e x i) [
        | inl j ↦ in_all (λ z. z.by < s.parts) (drop c h) x good.makers j
        | inr q ↦ subst (λ (z : Entry). z.by < s.parts) q (let i = ok.inside in let j = ok.some_part in omega arith)
      ]);
      room = let r = good.room in let l = left_set s.views v.first v w live in omega arith;
    } in
    let f : View → View = λ x. record x { left = x.left - 1; seen = s.ticket + 1; held = renewed_from g h' 0 x.held } in
    let here : IsGood (committed h s v.first tag edit) h' = subst (λ (t : BoardState). IsGood t h')
    (λ i. record s { ticket = s.ticket + 1; views = slice_set s.views v.first (sym (ap (option_map f) live) i) })
    result in
    subst (λ (m : ℕ). IsGood (committed h s m tag edit) (h ++ entry_after h s.ticket m tag edit ∷ [])) named here
