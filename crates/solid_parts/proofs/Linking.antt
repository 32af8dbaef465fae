-- Links between cells around triples, put one behind another.
use Rattle.std.proofs.Common.{◌≡◌, refl, sym, subst, ap, ◌∙◌, ℕ, ◌<◌, ◌≤◌, ◌+◌, inl, inr, List, [], ◌∷◌, ◌++◌, All}
use Rattle.std.proofs.Common.{take, length, get_or, arith}
use Rattle.std.specs.Prelude.{IsPermutation}
use Rattle.std.proofs.lemmas.Bool.{cases_lt}
use Rattle.std.proofs.lemmas.List.{take_all}
use Rattle.list_laws.specs.Lists.{IsIn}
use Rattle.list_laws.proofs.Cited.{all_of_each, each_of_all, from_append, in_left, in_permutation, in_pushed, in_right}
use Rattle.list_laws.proofs.Cited.{take_next}
use Rattle.point_order.specs.declared.cell.Cell.{Cell}
use Rattle.face_list.specs.Seen.{FaceLists}
use Rattle.face_list.specs.Tables.{cells_numbered}
use Rattle.solid_parts.specs.declared.links.Link.{Link}
use Rattle.solid_parts.specs.Links.{AreLinksBelow, AreLinked, HasLinks, IsLinked, KeepsLinks, link_between}
use Rattle.solid_parts.proofs.Merging.{own_value}

-- where some links were put behind others
pub record LinkedSoFar (leasts ones others : List ℕ) (old now : List Link) : Type 0 where
  pub keeps : KeepsLinks old now
  pub has : HasLinks leasts ones others now
  pub below : AreLinksBelow (length leasts) now

-- before the first other cell no link is put
pub no_others : (leasts : List ℕ) (one : ℕ) (old : List Link) → AreLinksBelow (length leasts) old
    → LinkedSoFar leasts (one ∷ []) [] old old
no_others leasts one old b = record { keeps = λ l i. i; has = λ u v i j. absurd j; below = b }

-- the others up to the next one
next_others : (leasts : List ℕ) (one : ℕ) (others : List ℕ) (i : ℕ) (old now : List Link) → i < length others
    → LinkedSoFar leasts (one ∷ []) (take i others ++ get_or others i 0 ∷ []) old now
    → LinkedSoFar leasts (one ∷ []) (take (i + 1) others) old now
next_others leasts one others i old now h s =
    subst (λ (v : List ℕ). LinkedSoFar leasts (one ∷ []) v old now)
    (sym (take_next others i (get_or others i 0) h (own_value others i h))) s

-- one that is not greater is passed over
pub other_over : (leasts : List ℕ) (one : ℕ) (others : List ℕ) (i : ℕ) (old now new : List Link) → i < length others
    → get_or others i 0 ≤ one → new ≡ now → LinkedSoFar leasts (one ∷ []) (take i others) old now
    → LinkedSoFar leasts (one ∷ []) (take (i + 1) others) old new
other_over leasts one others i old now new h l e s =
    subst (LinkedSoFar leasts (one ∷ []) (take (i + 1) others) old) (sym e)
    (next_others leasts one others i old now h (record {
      keeps = s.keeps;
      has = λ u v j k m. elim (in_pushed (take i others) _ (get_or others i 0) v refl k) [
        | inl n ↦ s.has u v j n m
        | inr n ↦ absurd (never u v j n m)
      ];
      below = s.below;
    }))
  where
    never : (u v : ℕ) → IsIn u (one ∷ []) → get_or others i 0 ≡ v → u < v → ⊥
    never u v (inl f) n m = omega (arith, l, f, n, m)
    never u v (inr none) n m = none

-- the link to a greater one is put
pub other_put : (leasts : List ℕ) (one : ℕ) (others : List ℕ) (i : ℕ) (old now new : List Link) (link : Link) →
    i < length others
    → one < length leasts → All (λ n. n < length leasts) others → link ≡ link_between leasts one (get_or others i 0)
    → new ≡ now ++ link ∷ [] → LinkedSoFar leasts (one ∷ []) (take i others) old now
    → LinkedSoFar leasts (one ∷ []) (take (i + 1) others) old new
other_put leasts one others i old now new link h low high f e s =
    subst (LinkedSoFar leasts (one ∷ []) (take (i + 1) others) old) (sym (e ∙ ap (λ (l : Link). now ++ l ∷ []) f))
    (next_others leasts one others i old (now ++ link_between leasts one (get_or others i 0) ∷ []) h (record {
      keeps = λ l j. in_left l now (link_between leasts one (get_or others i 0) ∷ []) (s.keeps l j);
      has = λ u v j k m. elim (in_pushed (take i others) _ (get_or others i 0) v refl k) [
        | inl n ↦ in_left (link_between leasts u v) now (link_between leasts one (get_or others i 0) ∷ [])
            (s.has u v j n m)
        | inr n ↦ in_right (link_between leasts u v) now (link_between leasts one (get_or others i 0) ∷ [])
            (last u v j n)
      ];
      below = all_of_each (λ (l : Link). (l.one < length leasts) × (l.other < length leasts))
          (now ++ link_between leasts one (get_or others i 0) ∷ [])
          (λ l j. elim (from_append l now (link_between leasts one (get_or others i 0) ∷ []) j) [
            | inl k ↦ each_of_all (λ (l : Link). (l.one < length leasts) × (l.other < length leasts)) now s.below l k
            | inr k ↦ within l k
          ]);
    }))
  where
    last : (u v : ℕ) → IsIn u (one ∷ []) → get_or others i 0 ≡ v →
        IsIn (link_between leasts u v) (link_between leasts one (get_or others i 0) ∷ [])
    last u v (inl g) n = inl (ap (λ m. link_between leasts m (get_or others i 0)) g
        ∙ ap (λ m. link_between leasts u m) n)
    last u v (inr none) n = absurd none

    within : (l : Link) → IsIn l (link_between leasts one (get_or others i 0) ∷ []) → (l.one < length leasts) ×
        (l.other < length leasts)
    within l (inl g) = subst (λ (m : Link). (m.one < length leasts) × (m.other < length leasts)) g (low, high i 0 h)
    within l (inr none) = absurd none

-- all others are done
pub others_done : (leasts : List ℕ) (one : ℕ) (others : List ℕ) (i : ℕ) (old now : List Link) → length others ≤ i
    → LinkedSoFar leasts (one ∷ []) (take i others) old now → LinkedSoFar leasts (one ∷ []) others old now
others_done leasts one others i old now h s =
    subst (λ (v : List ℕ). LinkedSoFar leasts (one ∷ []) v old now) (take_all i others h) s

-- one cell more is linked with all
pub one_more : (leasts ones : List ℕ) (i : ℕ) (old now new : List Link) → i < length ones
    → LinkedSoFar leasts (take i ones) ones old now → KeepsLinks now new →
    HasLinks leasts (get_or ones i 0 ∷ []) ones new
    → AreLinksBelow (length leasts) new → LinkedSoFar leasts (take (i + 1) ones) ones old new
one_more leasts ones i old now new h s keeps has below =
    subst (λ (v : List ℕ). LinkedSoFar leasts v ones old new) (sym
    (take_next ones i (get_or ones i 0) h (own_value ones i h)))
    (record {
      keeps = λ l j. keeps l (s.keeps l j);
      has = λ u v j k m. elim (from_append u (take i ones) (get_or ones i 0 ∷ []) j) [
        | inl n ↦ keeps (link_between leasts u v) (s.has u v n k m)
        | inr n ↦ has u v n k m
      ];
      below = below;
    })

-- once all cells were linked, there is a link for each two
pub ones_done : (leasts ones : List ℕ) (i : ℕ) (old now : List Link) → length ones ≤ i
    → LinkedSoFar leasts (take i ones) ones old now → LinkedSoFar leasts ones ones old now
ones_done leasts ones i old now h s = subst (λ (v : List ℕ). LinkedSoFar leasts v ones old now) (take_all i ones h) s

-- ---- triples

-- where the first triples are done
pub record TriplesSoFar (faces : FaceLists) (leasts : List ℕ) (k : ℕ) (links : List Link) : Type 0 where
  pub linked : AreLinked faces leasts k links
  pub below : AreLinksBelow (length leasts) links

-- before the first triple there is no link
pub no_triples : (faces : FaceLists) (leasts : List ℕ) (links : List Link) → links ≡ [] →
    TriplesSoFar faces leasts 0 links
no_triples faces leasts links e = record {
  linked = λ t l. absurd (omega (arith, l));
  below = subst (AreLinksBelow (length leasts)) (sym e)
      (all_of_each (λ (l : Link). (l.one < length leasts) × (l.other < length leasts)) [] (λ l i. absurd i));
}

-- a triple whose cells are linked is so with more links
still_linked : (faces : FaceLists) (leasts : List ℕ) (old new : List Link) (triple : List ℕ × List Cell) →
    KeepsLinks old new
    → IsLinked faces leasts old triple → IsLinked faces leasts new triple
still_linked faces leasts old new triple keeps l = record {
  numbers = l.numbers;
  around = l.around;
  below = l.below;
  has = λ u v i j m. keeps (link_between leasts u v) (l.has u v i j m);
}

-- with the links of the next triple, one triple more is linked
pub triple_more : (faces : FaceLists) (leasts : List ℕ) (k : ℕ) (numbers : List ℕ) (old new : List Link)
    → cells_numbered faces.cells numbers ≡ (get_or faces.triples k ([], [])).1 →
    All (λ n. n < length faces.cells) numbers
    → TriplesSoFar faces leasts k old → KeepsLinks old new → HasLinks leasts numbers numbers new →
    AreLinksBelow (length leasts) new
    → TriplesSoFar faces leasts (k + 1) new
triple_more faces leasts k numbers old new e below s keeps has b = record {
  linked = λ t l. elim (cases_lt t k) [
    | inl m ↦ still_linked faces leasts old new _ keeps (s.linked t m)
    | inr m ↦ subst (λ t. IsLinked faces leasts new (get_or faces.triples t ([], []))) (last t l m)
        (record { numbers = numbers; around = e; below = below; has = has })
  ];
  below = b;
}
  where
    last : (t : ℕ) → t < k + 1 → k ≤ t → k ≡ t
    last t l m = omega (arith, l, m)

-- in another order
pub arranged : (faces : FaceLists) (leasts : List ℕ) (k : ℕ) (old new : List Link) → IsPermutation old new
    → AreLinked faces leasts k old → AreLinked faces leasts k new
arranged faces leasts k old new p l t m =
    still_linked faces leasts old new _ (λ x i. in_permutation old new x p i) (l t m)
