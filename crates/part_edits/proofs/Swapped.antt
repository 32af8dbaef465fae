-- Edits that share no point are made in either order.
use Rattle.std.specs.Prelude.{◌≡◌, ℕ, Bool, true, false, List, [], ◌∷◌, ◌++◌}
use Rattle.std.proofs.Common.{refl, sym, ◌∙◌, ap, subst, inl, inr}
use Rattle.list_laws.proofs.Cited.{among_from, among_true, not_both, same_members}
use Rattle.point_order.specs.Sets.{IsIn, IsAscending, is_among}
use Rattle.edit_history.specs.declared.history.Edit.{Edit}
use Rattle.edit_history.specs.declared.history.Reply.{Reply}
use Rattle.edit_history.specs.Edits.{after, edit_points, reply_to, share_point}
use Rattle.plain_laws.proofs.There.{among_after, effect, effect_other, has_point, reply_there, shares}
use Rattle.part_edits.specs.Made.{AreAnswered, Made, set_after}
use Rattle.part_edits.proofs.Calm.{HasAll, MakeSolid, Spares, spared}
use Rattle.part_edits.proofs.Known.{ascending_after, known_other}

-- a point of one of them is none of the other
not_own : (x y : Edit) (q : ℕ) → share_point x y ≡ false → has_point q y ≡ true → ¬ (IsIn q (edit_points x))
not_own x y q e f i = not_both (share_point x y) (shares q x y (among_true q (edit_points x) i) f) e

-- the effects of both on a point
effects_swap : (x y : Edit) (rx ry : Reply) (q : ℕ) (b : Bool) → share_point x y ≡ false →
    effect y ry q (effect x rx q b) ≡ effect x rx q (effect y ry q b)
effects_swap x y rx ry q b e = by (has_point q x) (has_point q y) refl refl
  where
    by : (i j : Bool) → has_point q x ≡ i → has_point q y ≡ j →
        effect y ry q (effect x rx q b) ≡ effect x rx q (effect y ry q b)
    by true true f g = absurd (not_both (share_point x y) (shares q x y f g) e)
    by false j f g =
        ap (effect y ry q) (effect_other x rx q b f) ∙ sym (effect_other x rx q (effect y ry q b) f)
    by true false f g =
        effect_other y ry q (effect x rx q b) g ∙ ap (effect x rx q) (sym (effect_other y ry q b g))

module _ (four : List ℕ) (solid : MakeSolid four) (s : List ℕ) (x y : Edit) (h : HasAll four s)
    (sx : Spares four x) (sy : Spares four y) (e : share_point x y ≡ false) where
  -- the other has the reply as if the one was not made
  pub reply_swaps : reply_to (after s x) y ≡ reply_to s y
  reply_swaps =
      reply_there (after s x) (λ p. is_among p s) y
      (λ p own. known_other p s x (reply_to s x) (not_own x y p e own))
      (spared four solid (after s x) y (spared four solid s x h sx).1 sy).0
      ∙ sym (reply_there s (λ p. is_among p s) y (λ p own. refl) (spared four solid s y h sy).0)

-- and the set is the same
module _ (four : List ℕ) (solid : MakeSolid four) (s : List ℕ) (x y : Edit) (h : HasAll four s)
    (sx : Spares four x) (sy : Spares four y) (e : share_point x y ≡ false) (e' : share_point y x ≡ false)
    (up : IsAscending s) where
  both_ways : (q : ℕ) → is_among q (after (after s x) y) ≡ is_among q (after (after s y) x)
  both_ways q =
      among_after (after s x) y q (spared four solid (after s x) y (spared four solid s x h sx).1 sy).0
      ∙ (λ i. effect y (reply_swaps four solid s x y h sx sy e i) q
      (among_after s x q (spared four solid s x h sx).0 i))
      ∙ effects_swap x y (reply_to s x) (reply_to s y) q (is_among q s) e
      ∙ sym (among_after (after s y) x q (spared four solid (after s y) x (spared four solid s y h sy).1 sx).0
      ∙ (λ i. effect x (reply_swaps four solid s y x h sy sx e' i) q
      (among_after s y q (spared four solid s y h sy).0 i)))

  pub set_swaps : after (after s x) y ≡ after (after s y) x
  set_swaps =
      same_members (after (after s x) y) (after (after s y) x)
      (ascending_after (after s x) y (ascending_after s x up)) (ascending_after (after s y) x (ascending_after s y up))
      (λ q i. among_from q (after (after s y) x) (sym (both_ways q) ∙ among_true q (after (after s x) y) i))
      (λ q i. among_from q (after (after s x) y) (both_ways q ∙ among_true q (after (after s y) x) i))

-- ---- a line comes to the front

pub record IsFront (s : List ℕ) (a : List Made) (m : Made) (b : List Made) : Type 0 where
  pub answered : AreAnswered s (m ∷ (a ++ b))
  pub left : set_after s (m ∷ (a ++ b)) ≡ set_after s (a ++ m ∷ b)

module _ (four : List ℕ) (solid : MakeSolid four) where
  pub to_front : (s : List ℕ) (a : List Made) (m : Made) (b : List Made) → IsAscending s → HasAll four s →
      ((x : Made) → IsIn x a → Spares four x.0.1) → Spares four m.0.1 →
      ((x : Made) → IsIn x a → share_point x.0.1 m.0.1 ≡ false) →
      ((x : Made) → IsIn x a → share_point m.0.1 x.0.1 ≡ false) →
      AreAnswered s (a ++ m ∷ b) → IsFront s a m b
  to_front s [] m b up h sa sm e e' k = record { answered = k; left = refl }
  to_front s (x ∷ a) m b up h sa sm e e' k =
      let sx = sa x (inl refl) in
      let r = to_front (after s x.0.1) a m b (ascending_after s x.0.1 up) (spared four solid s x.0.1 h sx).1
      (λ z i. sa z (inr i)) sm (λ z i. e z (inr i)) (λ z i. e' z (inr i)) k.1 in
      let same = set_swaps four solid s x.0.1 m.0.1 h sx sm (e x (inl refl)) (e' x (inl refl)) up in
      record {
        answered = (
          r.answered.0 ∙ reply_swaps four solid s x.0.1 m.0.1 h sx sm (e x (inl refl)),
          (
            k.0 ∙ sym (reply_swaps four solid s m.0.1 x.0.1 h sm sx (e' x (inl refl))),
            subst (λ (t : List ℕ). AreAnswered t (a ++ b)) same r.answered.1,
          ),
        );
        left = sym (ap (λ (t : List ℕ). set_after t (a ++ b)) same) ∙ r.left;
      }
