-- Commits of two passes commute.
use Rattle.std.specs.Prelude.{◌≡◌, ◌≢◌, ℕ, suc, ◌+◌, ◌-◌, ◌<◌, List, [], ◌∷◌, ◌++◌, map, Option, None, Some, IsSome}
use Rattle.std.specs.Prelude.{◌==◌, slice_set}
use Rattle.std.specs.List.{filter}
use Rattle.point_order.specs.Complex.{complex}
use Rattle.cell_store.specs.Swaps.{touches}
use Rattle.std.specs.Option.{option_map}
use Rattle.std.proofs.Common.{refl, sym, ◌∙◌, ap, subst, arith, get_or-set_other}
use Rattle.list_laws.proofs.Cited.{map_set, set_swapped, some_and, to_some}
use Rattle.edit_history.specs.declared.history.Edit.{Edit}
use Rattle.edit_history.specs.declared.history.Entry.{Entry}
use Rattle.edit_history.specs.Edits.{reply_to, after}
use Rattle.edit_history.specs.Histories.{replay}
use Rattle.hole_laws.specs.Commuting.{Reaches, DoCommute}
use Rattle.hole_laws.proofs.Cited.{edits_commute}
use Rattle.bucket_grid.specs.Grids.{bucket_of}
use Rattle.cell_store.specs.Buckets.{BucketContent, bucket_at}
use Rattle.cell_store.specs.Touches.{HoldTouched}
use Rattle.claim_rule.specs.Boards.{View, BoardState, word_of, view_at, IsLive}
use Rattle.claim_rule.specs.Good.{IsGood}
use Rattle.cell_store.specs.Shares.{share_at}
use Rattle.claim_rule.specs.Events.{CanCommit, committed, entry_after, renewed_from}
use Rattle.claim_rule.specs.Commuting.{Figure, figure, figures, figures_of, AreAlike, BoardCommitsCommute}
use Rattle.edit_history.proofs.Cited.{replay_more}
use Rattle.claim_rule.proofs.Nexts.{set_of, stays_outside}
use Rattle.claim_rule.proofs.Steps.{live_at}
use Rattle.claim_rule.proofs.Commits.{commit_keeps}

-- ---- lists

-- two histories that give the buckets the same points and cells renew contents to the same
figures_alike : (g : ℕ) (h h' : List Entry) (k : ℕ) (l : List (Option BucketContent)) →
    ((b : ℕ) → IsSome (bucket_at l b) → figure (share_at g (k + b) h) ≡ figure (share_at g (k + b) h')) →
    figures (renewed_from g h k l) ≡ figures (renewed_from g h' k l)
figures_alike g h h' k [] f = refl
figures_alike g h h' k (o ∷ l) f =
    let rest = figures_alike g h h' (k + 1) l (λ b t. let q : k + suc b ≡ k + 1 + b = omega arith in
    subst (λ (n : ℕ). figure (share_at g n h) ≡ figure (share_at g n h')) q (f (suc b) t)) in
    λ i. by o (λ t. let q : k + 0 ≡ k = omega arith in subst (λ (n : ℕ). figure (share_at g n h)
    ≡ figure (share_at g n h')) q (f 0 t)) i ∷ rest i
  where
    by : (o : Option BucketContent) → (IsSome o → figure (share_at g k h) ≡ figure (share_at g k h')) →
        option_map figure (option_map (λ c. share_at g k h) o) ≡ option_map figure (option_map (λ c. share_at g k h') o)
    by None f = refl
    by (Some c) f = ap (λ (x : Figure). Some x) (f refl)

-- the points and the cells of a share are of the set that the history leaves
same_figure : (g b : ℕ) (h k : List Entry) → replay h ≡ replay k → figure (share_at g b h) ≡ figure (share_at g b k)
same_figure g b h k e = λ i. (filter (λ p. bucket_of g p == b) (e i), filter (touches g b) (complex (e i)))

-- what a commit makes of a pass
abbrev renews : ℕ → ℕ → List Entry → View → View
renews g ticket l v = record v { left = v.left - 1; seen = ticket + 1; held = renewed_from g l 0 v.held }

-- ---- the two orders

-- the view of a pass after a commit by another
other_view : (h : List Entry) (s : BoardState) (n m tag : ℕ) (edit : Edit) → m ≢ n →
    view_at (committed h s n tag edit) m ≡ view_at s m
other_view h s n m tag edit d = get_or-set_other s.views n m _ None d

-- two commits of two passes come in the other order too, and leave boards that are alike
pub commits_commute : BoardCommitsCommute
commits_commute h s n m tag tag' edit edit' middle last good key key' apart first second =
    let g : ℕ = s.grid in
    let S : List ℕ = replay h in
    let a : Entry = entry_after h s.ticket n tag edit in
    let b : Entry = entry_after h s.ticket m tag' edit' in
    let h1 : List Entry = h ++ a ∷ [] in
    let k1 : List Entry = h ++ b ∷ [] in
    let mid : BoardState = committed h s n tag edit in
    let mid' : BoardState = committed h s m tag' edit' in
    let h2 : List Entry = h1 ++ entry_after h1 mid.ticket m tag' edit' ∷ [] in
    let k2 : List Entry = k1 ++ entry_after k1 mid'.ticket n tag edit ∷ [] in
    let end : BoardState = committed h1 mid m tag' edit' in
    let end' : BoardState = committed k1 mid' n tag edit in
    let fv = some_and (view_at s n) (λ v. (0 < v.left) × HoldTouched g S edit v.held) first.0 in
    let v : View = fv.0 in
    let second_in : CanCommit h1 mid m edit' = subst (λ (t : BoardState). CanCommit h1 t m edit') first.1 second.0 in
    let fw = some_and (view_at mid m) (λ w. (0 < w.left) × HoldTouched g (replay h1) edit' w.held) second_in in
    let w : View = fw.0 in
    let at_v : view_at s n ≡ Some v = fv.1 in
    let at_w : view_at s m ≡ Some w = sym (other_view h s n m tag edit (λ e. apart (sym e))) ∙ fw.1 in
    let at_v' : view_at mid' n ≡ Some v = other_view h s m n tag' edit' apart ∙ at_v in
    let live : IsLive s v = live_at s h n v good at_v in
    let live' : IsLive s w = live_at s h m w good at_w in
    let r1 : replay h1 ≡ after S edit = replay_more [] h a in
    let q1 : replay k1 ≡ after S edit' = replay_more [] h b in
    -- a bucket that is in both hands
    let no_both : (x : ℕ) → IsSome (bucket_at v.held x) → IsSome (bucket_at w.held x) → ⊥ = λ x t u.
    let i : word_of s x ≡ v.first + 1 = (good.passes v live).words x t in
    let j : word_of s x ≡ w.first + 1 = (good.passes w live').words x u in
    let e : v.first ≡ n = good.shape.named n v at_v in
    let f : w.first ≡ m = good.shape.named m w at_w in apart (omega arith) in
    let disjoint : (e : ℕ) → Reaches S edit e → ¬ (Reaches (after S edit) edit' e) = λ e r r'.
    no_both (bucket_of g e) (fv.2.1 (bucket_of g e) record { point = e; reached = r; number = refl })
    (fw.2.1 (bucket_of g e) record {
      point = e;
      reached = subst (λ (x : List ℕ). Reaches x edit' e) (sym r1) r';
      number = refl;
    }) in
    let both : DoCommute S edit edit' = edits_commute S edit edit' (set_of s h good) key key' disjoint in
    let touched' : HoldTouched g S edit' w.held = λ x t. fw.2.1 x
    record {
      point = t.point;
      reached = subst (λ (y : List ℕ). Reaches y edit' t.point) (sym r1)
          ((both.reach_b t.point).0 t.reached);
      number = t.number;
    } in
    let touched : HoldTouched g (replay k1) edit v.held = λ x t. fv.2.1 x
    record {
      point = t.point;
      reached = (both.reach_a t.point).0
          (subst (λ (y : List ℕ). Reaches y edit t.point) q1 t.reached);
      number = t.number;
    } in
    let good1 : IsGood mid h1 = commit_keeps s h n tag edit v good at_v key fv.2.0 fv.2.1 in
    let good2 : IsGood end h2 = commit_keeps mid h1 m tag' edit' w good1 fw.1 key' fw.2.0 fw.2.1 in
    let good1' : IsGood mid' k1 = commit_keeps s h m tag' edit' w good at_w key' fw.2.0 touched' in
    let good2' : IsGood end' k2 = commit_keeps mid' k1 n tag edit v good1' at_v' key fv.2.0 touched in
    let r2 : replay h2 ≡ after (after S edit) edit' = replay_more [] h1 _ ∙ ap (λ (x : List ℕ). after x edit') r1 in
    let q2 : replay k2 ≡ after (after S edit') edit = replay_more [] k1 _ ∙ ap (λ (x : List ℕ). after x edit) q1 in
    let same : replay h2 ≡ replay k2 = r2 ∙ sym both.same ∙ sym q2 in
    let v_alike : figures (renewed_from g h1 0 v.held) ≡ figures (renewed_from g k2 0 v.held) =
    figures_alike g h1 k2 0 v.held (λ x t.
    let z : 0 + x ≡ x = omega arith in
    let there : IsSome (bucket_at v.held (0 + x)) = subst (λ (y : ℕ). IsSome (bucket_at v.held y)) (sym z) t in
    ap figure (sym (stays_outside mid h1 (0 + x) mid.ticket m tag' edit' good1 key'
    (λ y. no_both (0 + x) there (fw.2.1 (0 + x) y))))
    ∙ same_figure g (0 + x) h2 k2 same) in
    let w_alike : figures (renewed_from g h2 0 w.held) ≡ figures (renewed_from g k1 0 w.held) =
    figures_alike g h2 k1 0 w.held (λ x t.
    let z : 0 + x ≡ x = omega arith in
    let there : IsSome (bucket_at w.held (0 + x)) = subst (λ (y : ℕ). IsSome (bucket_at w.held y)) (sym z) t in
    same_figure g (0 + x) h2 k2 same
    ∙ ap figure (stays_outside mid' k1 (0 + x) mid'.ticket n tag edit good1' key
    (λ y. no_both (0 + x) (touched (0 + x) y) there))) in
    let V = map (option_map figures_of) s.views in
    let fig : View → List Entry → Option (ℕ × List (Option Figure)) =
    λ u l. Some (u.first, figures (renewed_from g l 0 u.held)) in
    let at_n : (t : BoardState) (l : List Entry) → view_at t n ≡ Some v →
    option_map figures_of (option_map (renews g t.ticket l) (view_at t n)) ≡ fig v l =
    λ t l e. ap (λ (o : Option View). option_map figures_of (option_map (renews g t.ticket l) o)) e in
    let at_m : (t : BoardState) (l : List Entry) → view_at t m ≡ Some w →
    option_map figures_of (option_map (renews g t.ticket l) (view_at t m)) ≡ fig w l =
    λ t l e. ap (λ (o : Option View). option_map figures_of (option_map (renews g t.ticket l) o)) e in
    let left_side : map (option_map figures_of) end.views ≡ slice_set (slice_set V n (fig v h1)) m (fig w h2) =
    map_set (option_map figures_of) mid.views m (option_map (renews g mid.ticket h2) (view_at mid m))
    ∙ (λ i. slice_set (map_set (option_map figures_of) s.views n (option_map (renews g s.ticket h1) (view_at s n))
    i) m (at_m mid h2 fw.1 i)) ∙ (λ i. slice_set (slice_set V n (at_n s h1 at_v i)) m (fig w h2)) in
    let right_side : map (option_map figures_of) end'.views ≡ slice_set (slice_set V m (fig w k1)) n (fig v k2) =
    map_set (option_map figures_of) mid'.views n (option_map (renews g mid'.ticket k2) (view_at mid' n))
    ∙ (λ i. slice_set (map_set (option_map figures_of) s.views m (option_map (renews g s.ticket k1) (view_at s m))
    i) n (at_n mid' k2 at_v' i)) ∙ (λ i. slice_set (slice_set V m (at_m s k1 at_w i)) n (fig v k2)) in
    let held : map (option_map figures_of) end.views ≡ map (option_map figures_of) end'.views =
    left_side ∙ (λ i. slice_set (slice_set V n (Some (v.first, v_alike i))) m (Some (w.first, w_alike i)))
    ∙ set_swapped V n m (fig v k2) (fig w k1) apart ∙ sym right_side in
    let is_end : last ≡ end = second.1 ∙ ap (λ (t : BoardState). committed h1 t m tag' edit') first.1 in
    let alike : AreAlike end end' = record { homes = refl; words = refl; held = held } in
    record {
      middle' = mid';
      last' = end';
      first' = (to_some _ (view_at s m) w at_w (fw.2.0, touched'), refl);
      second' = (to_some _ (view_at mid' n) v at_v' (fv.2.0, touched), refl);
      reply = sym both.reply_a ∙ ap (λ (x : List ℕ). reply_to x edit) (sym q1);
      reply' = ap (λ (x : List ℕ). reply_to x edit') r1 ∙ sym both.reply_b;
      ticket = refl;
      alike = subst (λ (t : BoardState). AreAlike t end') (sym is_end) alike;
    }
