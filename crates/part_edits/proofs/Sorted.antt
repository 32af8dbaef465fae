-- Lines in the order of their tags.
use Rattle.std.specs.Prelude.{◌≡◌, ℕ, ◌<◌, true, false, List, [], ◌∷◌, ◌++◌}
use Rattle.std.proofs.Common.{refl, sym, ◌∙◌, ap, subst, inl, inr, arith}
use Rattle.list_laws.proofs.Cited.{EachLater, false_if, from_append, in_left, in_right, later_across, later_append}
use Rattle.list_laws.proofs.Cited.{later_left, later_right, pairs_later, split_at}
use Rattle.point_order.specs.Sets.{IsIn, IsAscending}
use Rattle.edit_history.specs.Edits.{after, share_point}
use Rattle.plain_laws.proofs.Cited.{share_flips}
use Rattle.plain_laws.proofs.There.{shares_own}
use Rattle.part_edits.specs.Made.{AreAnswered, Made, set_after}
use Rattle.part_edits.specs.Laws.{OrderedByTags}
use Rattle.part_edits.proofs.Calm.{HasAll, MakeSolid, Spares, spared, witnesses_solid, witnesses_spared}
use Rattle.part_edits.proofs.Known.{ascending_after}
use Rattle.part_edits.proofs.Swapped.{IsFront, to_front}

-- of two that share a point the first has the lower tag
abbrev pub InOrder : Made → Made → Type 0
InOrder x y = share_point x.0.1 y.0.1 ≡ true → x.0.0 < y.0.0

-- the first has the lower tag
abbrev Below : Made → Made → Type 0
Below x y = x.0.0 < y.0.0

-- the two lists have the same lines
abbrev Same : List Made → List Made → Type 0
Same made sorted = (m : Made) → (IsIn m made → IsIn m sorted) × (IsIn m sorted → IsIn m made)

-- what is left of the lines where the first of those in order is taken out of them
record IsSplit (four : List ℕ) (s : List ℕ) (m : Made) (sorted made : List Made) : Type 0 where
  pub a : List Made
  pub b : List Made
  pub parts : made ≡ a ++ m ∷ b
  pub front : IsFront s a m b
  pub spares : (x : Made) → IsIn x (a ++ b) → Spares four x.0.1
  pub order : EachLater InOrder (a ++ b)
  pub same : Same (a ++ b) sorted

module _ (four : List ℕ) (solid : MakeSolid four) where
  split_first : (m : Made) (sorted made : List Made) (s : List ℕ) → IsAscending s → HasAll four s →
      ((x : Made) → IsIn x made → Spares four x.0.1) → EachLater InOrder made → EachLater Below (m ∷ sorted) →
      Same made (m ∷ sorted) → AreAnswered s made → IsSplit four s m sorted made
  split_first m sorted made s up h sp o l e k =
      let c = split_at made m ((e m).1 (inl refl)) in
      let a = c.0 in
      let b = c.1 in
      let o' = subst (EachLater InOrder) c.2 o in
      let in_all : (x : Made) → IsIn x (a ++ m ∷ b) → IsIn x made =
      λ x i. subst (λ (t : List Made). IsIn x t) (sym c.2) i in
      let tail = later_right InOrder a (m ∷ b) o' in
      let before : (x : Made) → IsIn x a → share_point x.0.1 m.0.1 ≡ true → ⊥ =
      λ x i t. let low = later_across InOrder a (m ∷ b) o' x m i (inl refl) t in
      elim ((e x).0 (in_all x (in_left x a (m ∷ b) i))) [
        | inl d ↦ let n = ap (λ (z : Made). z.0.0) d in omega (arith, low, n)
        | inr j ↦ let n = l.0 x j in omega (arith, low, n)
      ] in
      let apart : (x : Made) → IsIn x a → share_point x.0.1 m.0.1 ≡ false =
      λ x i. false_if (share_point x.0.1 m.0.1) (before x i) in
      let rest_in : (x : Made) → IsIn x (a ++ b) → IsIn x (a ++ m ∷ b) =
      λ x i. elim (from_append x a b i) [
        | inl j ↦ in_left x a (m ∷ b) j
        | inr j ↦ in_right x a (m ∷ b) (inr j)
      ] in
      let not_first : (x : Made) → IsIn x (a ++ b) → m ≡ x → ⊥ =
      λ x i d. let n = ap (λ (z : Made). z.0.0) d in
      elim (from_append x a b i) [
        | inl j ↦ let low = later_across InOrder a (m ∷ b) o' x m j (inl refl)
            (subst (λ (z : Made). share_point z.0.1 m.0.1 ≡ true) d (shares_own m.0.1)) in omega (arith, low, n)
        | inr j ↦ let low = tail.0 x j
            (subst (λ (z : Made). share_point m.0.1 z.0.1 ≡ true) d (shares_own m.0.1)) in omega (arith, low, n)
      ] in
      record {
        a = a;
        b = b;
        parts = c.2;
        front = to_front four solid s a m b up h (λ x i. sp x (in_all x (in_left x a (m ∷ b) i)))
            (sp m (in_all m (in_right m a (m ∷ b) (inl refl)))) apart
            (λ x i. share_flips m.0.1 x.0.1 ∙ apart x i) (subst (AreAnswered s) c.2 k);
        spares = λ x i. sp x (in_all x (rest_in x i));
        order = later_append InOrder a b (later_left InOrder a (m ∷ b) o') tail.1
            (λ x y i j. later_across InOrder a (m ∷ b) o' x y i (inr j));
        same = λ x. (
          λ i. elim ((e x).0 (in_all x (rest_in x i))) [ inl d ↦ absurd (not_first x i d) | inr j ↦ j ],
          λ i. elim (from_append x a (m ∷ b) (subst (λ (t : List Made). IsIn x t) c.2 ((e x).1 (inr i)))) [
            | inl j ↦ in_left x a b j
            | inr j ↦ elim j [
              | inl d ↦ absurd (let low = l.0 x i in let n = ap (λ (z : Made). z.0.0) d in omega (arith, low, n))
              | inr n ↦ in_right x a b n
            ]
          ],
        );
      }

  sorted_from : (sorted made : List Made) (s : List ℕ) → IsAscending s → HasAll four s →
      ((m : Made) → IsIn m made → Spares four m.0.1) → EachLater InOrder made → EachLater Below sorted →
      Same made sorted → AreAnswered s made → AreAnswered s sorted × (set_after s sorted ≡ set_after s made)
  sorted_from [] [] s up h sp o l e k = (tt, refl)
  sorted_from [] (x ∷ made) s up h sp o l e k = absurd ((e x).0 (inl refl))
  sorted_from (m ∷ sorted) made s up h sp o l e k =
      let f = split_first m sorted made s up h sp o l e k in
      let r = sorted_from sorted (f.a ++ f.b) (after s m.0.1) (ascending_after s m.0.1 up)
      (spared four solid s m.0.1 h (sp m ((e m).1 (inl refl)))).1 f.spares f.order l.1 f.same f.front.answered.1 in (
        (f.front.answered.0, r.0),
        r.1 ∙ f.front.left ∙ ap (set_after s) (sym f.parts),
      )

pub ordered_by_tags : OrderedByTags
ordered_by_tags s made sorted four up w o e k =
    sorted_from four (witnesses_solid s made four w) sorted made s up w.there (witnesses_spared s made four w)
    (pairs_later InOrder made o) (pairs_later Below sorted e.order) (λ m. e.same m) k
