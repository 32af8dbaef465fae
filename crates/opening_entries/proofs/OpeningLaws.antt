-- The mesh of four independent points stands for the history that begins with them.
use Rattle.std.specs.Prelude.{◌≡◌, refl, ℕ, map, ◌+◌, true, false, Bool, List, [], ◌∷◌, pos}
use Rattle.std.proofs.Common.{inl, inr, ap, sym, subst, ◌∙◌, arith}
use Rattle.std.proofs.lemmas.Int.{ints}
use Rattle.list_laws.proofs.Cited.{among_from, self_negative}
use Rattle.point_order.specs.Orientation.{orientation, is_flat}
use Rattle.point_order.specs.Sets.{IsIn, AreFour, ascending, is_among, with_point}
use Rattle.point_order.proofs.Cited.{ascending_is, ascending_with, in_with, in_with_new, in_with_old, last_first}
use Rattle.point_order.proofs.Cited.{last_second, last_third, swap_first, swap_middle, zero_true}
use Rattle.edit_history.specs.declared.history.Reply.TheVariants.{Inserted}
use Rattle.edit_history.specs.Edits.{reply_to, changed}
use Rattle.edit_history.specs.Histories.{replay, replay_from, IsLegalFrom}
use Rattle.opening_entries.specs.Opening.{inserted, inserted_from, opening_history}

-- ---- independent points are distinct

-- four points that are not in one plane are four
pub four_apart : (a b c d : ℕ) → is_flat a b c d ≡ false → AreFour a b c d
four_apart a b c d f = (
  (λ e. no (subst (λ x. orientation a x c d ≡ pos 0) e (self_negative _ (swap_first a a c d)))),
  (λ e. no (subst (λ x. orientation a b x d ≡ pos 0) e (from_swap b d))),
  (λ e. no (subst (λ x. orientation a b c x ≡ pos 0) e (last_first a b c))),
  (λ e. no (subst (λ x. orientation a b x d ≡ pos 0) e (self_negative _ (swap_middle a b b d)))),
  (λ e. no (subst (λ x. orientation a b c x ≡ pos 0) e (last_second a b c))),
  (λ e. no (subst (λ x. orientation a b c x ≡ pos 0) e (last_third a b c))),
)
  where
    no : orientation a b c d ≡ pos 0 → ⊥
    no e = cc (zero_true (orientation a b c d) e, f)

    from_swap : (b d : ℕ) → orientation a b a d ≡ pos 0
    from_swap b d =
        let e = self_negative _ (swap_first a a b d) in let s = swap_middle a b a d in omega (arith, ints, e, s)

-- ---- the history

-- each point is new where it comes
abbrev pub AreNew : List ℕ → List (ℕ × ℕ) → Type 0
AreNew s [] = Unit {0}
AreNew s (line ∷ lines) = (¬ (IsIn line.1 s)) × AreNew (with_point line.1 s) lines

-- the set with the points
abbrev with_all : List ℕ → List (ℕ × ℕ) → List ℕ
with_all s [] = s
with_all s (line ∷ lines) = with_all (with_point line.1 s) lines

-- a new point is inserted
inserts : (s : List ℕ) (n : ℕ) (line : ℕ × ℕ) → ¬ (IsIn line.1 s) → reply_to s (inserted n line).edit ≡ Inserted
inserts s n line a = by (is_among line.1 s) refl
  where
    by : (b : Bool) → is_among line.1 s ≡ b → reply_to s (inserted n line).edit ≡ Inserted
    by true e = absurd (a (among_from line.1 s e))
    by false e = rw e refl

-- entries that insert points, each new where it comes, are legal
pub legal_from : (n : ℕ) (s : List ℕ) (lines : List (ℕ × ℕ)) → AreNew s lines → IsLegalFrom n s (inserted_from n lines)
legal_from n s [] a = tt
legal_from n s (line ∷ lines) a =
    let i = inserts s n line a.0 in (
      refl,
      sym i,
      subst (λ (t : List ℕ). IsLegalFrom (n + 1) t (inserted_from (n + 1) lines))
          (ap (changed s line.1) (sym i)) (legal_from (n + 1) (with_point line.1 s) lines a.1),
    )

-- and leave the set with these points
replay_is : (n : ℕ) (s : List ℕ) (lines : List (ℕ × ℕ)) → AreNew s lines → replay_from s (inserted_from n lines)
    ≡ with_all s lines
replay_is n s [] a = refl
replay_is n s (line ∷ lines) a =
    let i = inserts s n line a.0 in
    ap (λ (t : List ℕ). replay_from t (inserted_from (n + 1) lines)) (ap (changed s line.1) i)
    ∙ replay_is (n + 1) (with_point line.1 s) lines a.1

-- four independent points are each new
pub four_new : (a b c d : ℕ × ℕ) → is_flat a.1 b.1 c.1 d.1 ≡ false → AreNew [] (a ∷ b ∷ c ∷ d ∷ [])
four_new a b c d f =
    let n = four_apart a.1 b.1 c.1 d.1 f in (
      (λ i. i),
      (
        (λ i. elim (in_with a.1 b.1 [] i) [ inl e ↦ n.0 e | inr j ↦ j ]),
        (
          (λ i. elim (in_with b.1 c.1 (with_point a.1 []) i) [
            | inl e ↦ n.3 e
            | inr j ↦ elim (in_with a.1 c.1 [] j) [ inl e ↦ n.1 e | inr k ↦ k ]
          ]),
          (
            (λ i. elim (in_with c.1 d.1 (with_point b.1 (with_point a.1 [])) i) [
              | inl e ↦ n.5 e
              | inr j ↦ elim (in_with b.1 d.1 (with_point a.1 []) j) [
                | inl e ↦ n.4 e
                | inr k ↦ elim (in_with a.1 d.1 [] k) [ inl e ↦ n.2 e | inr m ↦ m ]
              ]
            ]),
            tt,
          ),
        ),
      ),
    )

-- what the opening leaves: the four in order
pub leaves_four : (a b c d : ℕ × ℕ) → is_flat a.1 b.1 c.1 d.1 ≡ false → replay (opening_history (a ∷ b ∷ c ∷ d ∷ []))
    ≡ ascending (a.1 ∷ b.1 ∷ c.1 ∷ d.1 ∷ [])
leaves_four a b c d f =
    replay_is 0 [] (a ∷ b ∷ c ∷ d ∷ []) (four_new a b c d f)
    ∙ ascending_is (with_all [] (a ∷ b ∷ c ∷ d ∷ [])) (a.1 ∷ b.1 ∷ c.1 ∷ d.1 ∷ [])
    (ascending_with d.1 three (ascending_with c.1 two (ascending_with b.1 one (ascending_with a.1 [] tt))))
    (λ p i. elim (in_with d.1 p three i) [
      | inl e ↦ inr (inr (inr (inl e)))
      | inr j ↦ elim (in_with c.1 p two j) [
        | inl e ↦ inr (inr (inl e))
        | inr k ↦ elim (in_with b.1 p one k) [
          | inl e ↦ inr (inl e)
          | inr m ↦ elim (in_with a.1 p [] m) [ inl e ↦ inl e | inr z ↦ absurd z ]
        ]
      ]
    ])
    (λ p i. elim i [
      | inl e ↦ in_with_old d.1 p three (in_with_old c.1 p two (in_with_old b.1 p one
          (subst (λ (v : ℕ). IsIn v one) e (in_with_new a.1 []))))
      | inr i ↦ elim i [
        | inl e ↦ in_with_old d.1 p three (in_with_old c.1 p two
            (subst (λ (v : ℕ). IsIn v two) e (in_with_new b.1 one)))
        | inr i ↦ elim i [
          | inl e ↦ in_with_old d.1 p three (subst (λ (v : ℕ). IsIn v three) e (in_with_new c.1 two))
          | inr i ↦ elim i [
            | inl e ↦ subst (λ (v : ℕ). IsIn v (with_point d.1 three)) e (in_with_new d.1 three)
            | inr none ↦ absurd none
          ]
        ]
      ]
    ])
  where
    one : List ℕ
    one = with_point a.1 []

    two : List ℕ
    two = with_point b.1 one

    three : List ℕ
    three = with_point c.1 two

-- the points of tagged lines
abbrev pub points_of_lines : List (ℕ × ℕ) → List ℕ
points_of_lines lines = map (λ l. l.1) lines
