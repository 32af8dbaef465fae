-- After a round the history goes on with the lines in the order of their tags.
use Rattle.std.specs.Prelude.{◌≡◌, ℕ, suc, ◌+◌, List, [], ◌∷◌, ◌++◌, length, map}
use Rattle.std.proofs.Common.{refl, sym, ◌∙◌, subst, inl, inr, arith}
use Rattle.list_laws.proofs.Cited.{EachLater, later_append, later_pairs, not_both, pairs_later}
use Rattle.point_order.specs.Sets.{IsIn}
use Rattle.edit_history.specs.declared.history.Entry.{Entry}
use Rattle.edit_history.specs.Edits.{after, share_point}
use Rattle.edit_history.specs.Histories.{IsLegalFrom, replay, replay_from}
use Rattle.cell_slots.specs.Clouds.{AreCellsOf}
use Rattle.part_edits.specs.Made.{AreAnswered, ShareNone, set_after}
use Rattle.part_edits.specs.Rounds.{AreNumberedFrom, Work, all_made, all_new, made_of}
use Rattle.part_edits.specs.Laws.{RoundIsLegal}
use Rattle.part_edits.proofs.Beside.{of_worker, workers_compose}
use Rattle.part_edits.proofs.Sorted.{InOrder, ordered_by_tags}

-- numbered entries with the replies of a set are legal there
legal_numbered : (n : ℕ) (s : List ℕ) (entries : List Entry) → AreNumberedFrom n entries →
    AreAnswered s (map made_of entries) → IsLegalFrom n s entries
legal_numbered n s [] f g = tt
legal_numbered n s (e ∷ entries) f g = (f.0, g.0, legal_numbered (n + 1) (after s e.edit) entries f.1 g.1)

-- and leave what their lines do
leave_same : (s : List ℕ) (entries : List Entry) → replay_from s entries ≡ set_after s (map made_of entries)
leave_same s [] = refl
leave_same s (e ∷ entries) = leave_same (after s e.edit) entries

-- a legal history, and then entries that are legal behind it
legal_both : (n : ℕ) (s : List ℕ) (h entries : List Entry) → IsLegalFrom n s h →
    IsLegalFrom (n + length h) (replay_from s h) entries → IsLegalFrom n s (h ++ entries)
legal_both n s [] entries f g =
    let e : n + 0 ≡ n = omega arith in
    subst (λ (k : ℕ). IsLegalFrom k s entries) e g
legal_both n s (e ∷ h) entries f g =
    let k : n + suc (length h) ≡ n + 1 + length h = omega arith in (
      f.0,
      f.1,
      legal_both (n + 1) (after s e.edit) h entries f.2
          (subst (λ (j : ℕ). IsLegalFrom j (replay_from (after s e.edit) h) entries) k g),
    )

-- what both leave
replay_both : (s : List ℕ) (h entries : List Entry) → replay_from s (h ++ entries) ≡
    replay_from (replay_from s h) entries
replay_both s [] entries = refl
replay_both s (e ∷ h) entries = replay_both (after s e.edit) h entries

-- where each worker's lines that share a point are in the order of their tags, so are those of all
all_order : (works : List Work) → ((w : Work) → IsIn w works → EachLater InOrder w.made) →
    EachLater (λ (v w : Work). ShareNone v.made w.made) works → EachLater InOrder (all_made works)
all_order [] f apart = tt
all_order (w ∷ works) f apart =
    later_append InOrder w.made (all_made works) (f w (inl refl)) (all_order works (λ v i. f v (inr i)) apart.1)
    (λ x y i j t. (let r = of_worker works y j in
    absurd (not_both (share_point x.0.1 y.0.1) t (apart.0 r.0 r.1 x y i r.2))))

pub round_is_legal : RoundIsLegal
round_is_legal h entries works rest four legal k f apart o w e numbered =
    let made = all_made works in
    let c = workers_compose (replay h) works rest k f apart in
    let order = later_pairs InOrder made (all_order works (λ v i. pairs_later InOrder v.made (o v i))
    (pairs_later (λ (v w : Work). ShareNone v.made w.made) works apart)) in
    let r = ordered_by_tags (replay h) made (map made_of entries) four k.solid.set.ascending w order e c.0 in
    let left : replay (h ++ entries) ≡ set_after (replay h) made =
    replay_both [] h entries ∙ leave_same (replay h) entries ∙ r.1 in (
      legal_both 0 [] h entries legal
          (let z : length h ≡ 0 + length h = omega arith in
          subst (λ (j : ℕ). IsLegalFrom j (replay h) entries) z
          (legal_numbered (length h) (replay h) entries numbered r.0)),
      subst (λ (t : List ℕ). AreCellsOf t (all_new works ++ rest)) (sym left) c.1,
    )
