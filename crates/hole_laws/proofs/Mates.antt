-- The mate of an Open cell: the point against its triple in the cell behind it. What goes is judged by it.
use Rattle.std.specs.Prelude.{◌≡◌, ℕ, Bool, true, false, List, [], ◌∷◌, ◌⊎◌, MatchBool, not, Some, None}
use Rattle.std.specs.List.{find}
use Rattle.std.proofs.Common.{sym, subst, inl, inr, arith}
use Rattle.list_laws.proofs.Cited.{IsFound, among_from, among_true, at_most, distinct_ascending, found_from, not_both}
use Rattle.list_laws.proofs.Cited.{not_from, not_true, searched, true_or_false}
use Rattle.point_order.specs.declared.cell.Cell.{Cell}
use Rattle.point_order.specs.declared.cell.Cell.TheVariants.{Full, Open}
use Rattle.point_order.specs.declared.cell.Facet.TheVariants.{Three}
use Rattle.point_order.specs.Complex.{complex}
use Rattle.point_order.specs.Conflicts.{is_in_conflict}
use Rattle.point_order.specs.Facets.{points_of}
use Rattle.point_order.specs.Sets.{IsIn, ascending, is_among}
use Rattle.point_order.proofs.Cited.{in_ascending}
use Rattle.del_laws.specs.Listed.{IsListedFull}
use Rattle.del_laws.proofs.Cited.{listed_is_cell, listed_mate, not_both_kinds}
use Rattle.hole_laws.specs.Edits.{IsSet, IsSolidSet, IsNew, IsMate, GoesFrom, StaysFrom}
use Rattle.hole_laws.proofs.Judged.{goes_in_conflict, stays_without_conflict}
use Rattle.hole_laws.specs.Others.{IsOtherOf}
use Rattle.hole_laws.proofs.Standing.{one_of_two, triple_on}

-- all of l are in m
abbrev AllAmong : List ℕ → List ℕ → Type 0
AllAmong l m = (p : ℕ) → IsIn p l → IsIn p m

-- p is in l and not in m
record IsAgainst (l m : List ℕ) (p : ℕ) : Type 0 where
  pub here : IsIn p l
  pub apart : ¬ (IsIn p m)

-- so is what a search finds
against_from : (l m : List ℕ) (p : ℕ) → find (λ p. not (is_among p m)) l ≡ Some p → IsAgainst l m p
against_from l m p e = pick (searched (λ p. not (is_among p m)) l)
  where
    pick : (find (λ p. not (is_among p m)) l ≡ None) ⊎ IsFound (λ p. not (is_among p m)) l → IsAgainst l m p
    pick (inl n) = absurd (cc (n, e))
    pick (inr f) =
        let q : f.at ≡ p = (cc (f.is, e)) in
        subst (λ (v : ℕ). IsAgainst l m v) q (record {
          here = f.has;
          apart = λ k. not_both (is_among f.at m)
              (among_true f.at m k) (not_from (is_among f.at m) f.holds);
        })

-- and where it finds none, all are among
all_among : (l m : List ℕ) → find (λ p. not (is_among p m)) l ≡ None → AllAmong l m
all_among l m e p k = elim (true_or_false (is_among p m)) [
  | inl t ↦ among_from p m t
  | inr t ↦ (let f = found_from (λ p. not (is_among p m)) l p k (not_true (is_among p m) t) in absurd (cc (f.is, e)))
]

module _ (s : List ℕ) (i : IsSet s) where
  -- the cell behind a triple is that with the mate
  behind : (a b c : ℕ) (x : Cell) → IsIn (Open (a ∷ b ∷ c ∷ [])) (complex s) →
      IsOtherOf (complex s) (Open (a ∷ b ∷ c ∷ [])) (Three (a ∷ b ∷ c ∷ [])) x →
      (m : ℕ) × IsMate s (Open (a ∷ b ∷ c ∷ [])) m × (x ≡ Full (ascending (a ∷ b ∷ c ∷ m ∷ [])))
  behind a b c x m o =
      let k = listed_mate s a b c i.ascending i.keys m in (
        k.mate,
        (k.inside, k.off),
        pick (one_of_two s i (Three (a ∷ b ∷ c ∷ [])) (Open (a ∷ b ∷ c ∷ [])) x
            (Full (ascending (a ∷ b ∷ c ∷ k.mate ∷ []))) m (triple_on s i (a ∷ b ∷ c ∷ []) m) o.listed o.has o.differs
            k.listed k.has),
      )
    where
      pick : {q : List ℕ} → (Open (a ∷ b ∷ c ∷ []) ≡ Full q) ⊎ (x ≡ Full q) → x ≡ Full q
      pick {q} (inl e) = absurd (not_both_kinds q (a ∷ b ∷ c ∷ []) (sym e))
      pick (inr e) = e

  -- so a point of it that is none of the triple is the mate
  mate_of_three : (a b c : ℕ) (x : Cell) (m : ℕ) → IsIn (Open (a ∷ b ∷ c ∷ [])) (complex s) →
      IsOtherOf (complex s) (Open (a ∷ b ∷ c ∷ [])) (Three (a ∷ b ∷ c ∷ [])) x →
      IsAgainst (points_of x) (a ∷ b ∷ c ∷ []) m → IsMate s (Open (a ∷ b ∷ c ∷ [])) m
  mate_of_three a b c x m k o g =
      let r = behind a b c x k o in
      pick r.0 r.1 (in_ascending (a ∷ b ∷ c ∷ r.0 ∷ []) m (subst (λ (q : Cell). IsIn m (points_of q)) r.2 g.here))
    where
      pick : (n : ℕ) → IsMate s (Open (a ∷ b ∷ c ∷ [])) n → IsIn m (a ∷ b ∷ c ∷ n ∷ []) →
          IsMate s (Open (a ∷ b ∷ c ∷ [])) m
      pick n j (inl e) = absurd (g.apart (inl e))
      pick n j (inr (inl e)) = absurd (g.apart (inr (inl e)))
      pick n j (inr (inr (inl e))) = absurd (g.apart (inr (inr (inl e))))
      pick n j (inr (inr (inr (inl e)))) = subst (λ (v : ℕ). IsMate s (Open (a ∷ b ∷ c ∷ [])) v) e j
      pick n j (inr (inr (inr (inr e)))) = absurd e

  -- a Full cell has four points, so not all are among three
  four_apart : (a b c : ℕ) (q : List ℕ) → IsIn (Full q) (complex s) → ¬ (AllAmong q (a ∷ b ∷ c ∷ []))
  four_apart a b c q m all = by (listed_is_cell s (Full q) i.ascending m)
    where
      by : IsListedFull s q → ⊥
      by r =
          let k = at_most (r.a ∷ r.b ∷ r.c ∷ r.d ∷ []) (a ∷ b ∷ c ∷ [])
          (distinct_ascending (r.a ∷ r.b ∷ r.c ∷ r.d ∷ []) (r.first, (r.second, (r.third, (tt, tt)))))
          (λ p j. all p (subst (λ (v : List ℕ). IsIn p v) (sym r.is) j)) in
          absurd (omega arith)

  -- of any triple: what a search for such a point finds
  pub mate_against : (t : List ℕ) (x : Cell) (m : ℕ) → IsIn (Open t) (complex s) →
      IsOtherOf (complex s) (Open t) (Three t) x → Some m ≡ find (λ p. not (is_among p t)) (points_of x) →
      IsMate s (Open t) m
  mate_against t x m k o g =
      let r = listed_is_cell s (Open t) i.ascending k in
      subst (λ (v : List ℕ). IsMate s (Open v) m) (sym r.is)
      (mate_of_three r.a r.b r.c x m (subst (λ (v : List ℕ). IsIn (Open v) (complex s)) r.is k)
      (subst (λ (v : List ℕ). IsOtherOf (complex s) (Open v) (Three v) x) r.is o)
      (subst (λ (v : List ℕ). IsAgainst (points_of x) v m) r.is (against_from (points_of x) t m (sym g))))

  -- and it finds one
  pub some_against : (t : List ℕ) (x : Cell) → IsIn (Open t) (complex s) → IsOtherOf (complex s) (Open t) (Three t) x →
      ¬ (None ≡ find (λ p. not (is_among p t)) (points_of x))
  some_against t x k o g =
      let r = listed_is_cell s (Open t) i.ascending k in
      let b = behind r.a r.b r.c x (subst (λ (v : List ℕ). IsIn (Open v) (complex s)) r.is k)
      (subst (λ (v : List ℕ). IsOtherOf (complex s) (Open v) (Three v) x) r.is o) in
      four_apart r.a r.b r.c (ascending (r.a ∷ r.b ∷ r.c ∷ b.0 ∷ []))
      (subst (λ (q : Cell). IsIn q (complex s)) b.2 o.listed)
      (subst (λ (q : Cell). AllAmong (points_of q) (r.a ∷ r.b ∷ r.c ∷ [])) b.2
      (subst (λ (v : List ℕ). AllAmong (points_of x) v) r.is (all_among (points_of x) t (sym g))))

-- what the predicate says of a cell with a mate
pub judged : (s : List ℕ) (p : ℕ) → IsSolidSet s → IsNew s p → (q : Cell) (m : ℕ) → IsIn q (complex s) → IsMate s q m →
    (r : Bool) → r ≡ is_in_conflict q m p → MatchBool r (GoesFrom s p q) (StaysFrom s p q)
judged s p i n q m k j true e = (goes_in_conflict s p i n q m k j).0 (sym e)
judged s p i n q m k j false e = (stays_without_conflict s p i n q m k j).0 (sym e)
