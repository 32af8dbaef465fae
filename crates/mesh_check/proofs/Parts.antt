-- The facets part by part: what is found in the parts so far is found of all.
use Rattle.std.specs.Prelude.{◌≡◌, ◌<◌, ◌≤◌, refl, ℕ, true, not, nat_lt, List, [], ◌∷◌, Option, None, Some, IfOk}
use Rattle.std.specs.Prelude.{Result, Ok, Err}
use Rattle.std.specs.Ordering.{ordering_then, nat_cmp}
use Rattle.std.specs.Cmp.Lexicographic.{slice_cmp}
use Rattle.std.specs.declared.cmp.Ordering.{Ordering}
use Rattle.std.specs.declared.cmp.Ordering.TheVariants.{Less, Greater}
use Rattle.std.proofs.Common.{arith, inl, inr, subst}
use Rattle.std.proofs.lemmas.Bool.{cases_lt}
use Rattle.list_laws.proofs.Cited.{below_from, below_true, both_true, false_if, not_true, ordered, second_true}
use Rattle.point_order.specs.declared.cell.Cell.{Cell}
use Rattle.point_order.specs.declared.cell.Facet.{Facet}
use Rattle.point_order.specs.declared.cell.Facet.TheVariants.{Three, Two}
use Rattle.mesh_check.specs.declared.gaps.Part.TheVariants.{Between, From, Pairs}
use Rattle.mesh_check.specs.Flaws.{facet_cmp, IsFacet, IsInTwo, IsLeastOpen}
use Rattle.mesh_check.specs.Sides.{OpenIn, OpenIs, IsLeastOpenIn, front}

-- the triples whose first point is below a key are of two cells each
abbrev pub TwoBelow : List Cell → ℕ → Type 0
TwoBelow l low = (t : List ℕ) → IsFacet l (Three t) → front t < low → IsInTwo l (Three t)

-- all triples are
abbrev pub TwoAll : List Cell → Type 0
TwoAll l = (t : List ℕ) → IsFacet l (Three t) → IsInTwo l (Three t)

-- below 0 no triple begins
pub none_below : (l : List Cell) → TwoBelow l 0
none_below l t i h = absurd (let g : ⊥ = omega (arith, h) in g)

-- a key that is not below another
not_less : (a low : ℕ) → low ≤ a → not (nat_lt a low) ≡ true
not_less a low h = not_true (nat_lt a low) (false_if (nat_lt a low)
    (λ t. (let l = below_from a low t in let g : ⊥ = omega (arith, h, l) in g)))

-- of two triples in order the first point of the first is no later
front_order : (u t : List ℕ) → slice_cmp nat_cmp u t ≡ Less → front u ≤ front t
front_order [] [] e = absurd (cc)
front_order [] (b ∷ t) e = omega arith
front_order (a ∷ u) [] e = absurd (cc)
front_order (a ∷ u) (b ∷ t) e = elim (ordered a b) [
  | inl p ↦ (let k = p.0 in let g : a ≤ b = omega (arith, k) in g)
  | inr (inl p) ↦ (let k = p.0 in let g : a ≤ b = omega (arith, k) in g)
  | inr (inr p) ↦ absurd (clash (subst (λ (o : Ordering). ordering_then o (slice_cmp nat_cmp u t) ≡ Less) p.1 e))
]
  where
    clash : Greater ≡ Less → ⊥
    clash e = cc

-- where the last part has none that is open, no facet is
pub two_all : (l : List Cell) (low : ℕ) → TwoBelow l low → OpenIn (From low) l None → TwoAll l
two_all l low b o t i = elim (cases_lt (front t) low) [
  | inl k ↦ b t i k
  | inr k ↦ o (Three t) i (not_less (front t) low k)
]

-- what is the least in the next part is the least of all
pub least_between : (l : List Cell) (low high : ℕ) (f : Facet) → TwoBelow l low → IsLeastOpenIn (Between low high) l f →
    IsLeastOpen l f
least_between l low high (Two p) b o = absurd (cc)
least_between l low high (Three t) b o = record { is = o.is; open_facet = o.open_facet; least = least }
  where
    least : (g : Facet) → IsFacet l g → facet_cmp g (Three t) ≡ Less → IsInTwo l g
    least (Two p) i e = absurd (cc)
    least (Three u) i e = elim (cases_lt (front u) low) [
      | inl k ↦ b u i k
      | inr k ↦ o.least (Three u) i (both_true (not (nat_lt (front u) low)) (nat_lt (front u) high)
          (not_less (front u) low k) (below_true (front u) high
          (let w = below_from (front t) high (second_true (not (nat_lt (front t) low)) (nat_lt (front t) high) o.within)
          in
          let v = front_order u t e in omega (arith, w, v)))) e
    ]

-- behind all triples the pairs
pub pairs_last : (l : List Cell) (o : Option Facet) → TwoAll l → OpenIn Pairs l o → OpenIs l o
pairs_last l None b o = each
  where
    each : (f : Facet) → IsFacet l f → IsInTwo l f
    each (Three t) i = b t i
    each (Two p) i = o (Two p) i refl
pairs_last l (Some (Three t)) b o = absurd (cc)
pairs_last l (Some (Two p)) b o = record { is = o.is; open_facet = o.open_facet; least = least }
  where
    least : (g : Facet) → IsFacet l g → facet_cmp g (Two p) ≡ Less → IsInTwo l g
    least (Three t) i e = b t i
    least (Two q) i e = o.least (Two q) i refl e

-- and so where they are looked at
pub of_pairs : {E : Type 0} (l : List Cell) (r : Result (Option Facet) E) → TwoAll l → IfOk r (OpenIn Pairs l) →
    IfOk r (OpenIs l)
of_pairs l (Ok o) b i = pairs_last l o b i
of_pairs l (Err e) b i = tt
