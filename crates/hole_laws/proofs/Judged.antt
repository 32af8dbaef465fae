-- Conflict of the listed cells of a complex decides which of them stay.
-- What a cell is, only `del_laws` knows: here are its laws of cells that are kept, and of listed cells and their mates.
use Rattle.std.specs.Prelude.{◌≡◌, ℕ, ◌<◌, true, false, List, [], ◌∷◌, ◌↔◌}
use Rattle.std.proofs.Common.{refl, sym, ◌∙◌, subst, inl, inr}
use Rattle.std.proofs.lemmas.Bool.{false≢true}
use Rattle.list_laws.proofs.Cited.{among_from, false_if, not_from, not_true, true_or_false}
use Rattle.point_order.specs.Orientation.{is_flat}
use Rattle.point_order.specs.Sets.{IsIn, with_point, is_among}
use Rattle.point_order.specs.Complex.{complex}
use Rattle.point_order.specs.Conflicts.{is_in_conflict, CanJudge}
use Rattle.point_order.specs.declared.cell.Cell.{Cell}
use Rattle.point_order.specs.declared.cell.Cell.TheVariants.{Full, Open}
use Rattle.del_laws.specs.Vertices.{is_full_cell, is_open_cell}
use Rattle.del_laws.proofs.Cited.{cell_is_listed, full_is_kept, full_not_flat, listed_full, listed_inside}
use Rattle.del_laws.proofs.Cited.{listed_is_cell, listed_mate, listed_open, of_four, open_is_kept}
use Rattle.hole_laws.specs.Edits.{IsSet, IsNew, IsMate}
use Rattle.hole_laws.specs.Laws.{StaysWithoutConflict, GoesInConflict, SomeMate, MatesJudge}
use Rattle.hole_laws.proofs.OfSets.{more_set}

module _ (s : List ℕ) (p : ℕ) (i : IsSet s) (n : IsNew s p) where
  -- the set with p
  more : IsSet (with_point p s)
  more = more_set s p i n.key

  -- of a Full cell
  full_listed : (a b c d m : ℕ) → a < b → b < c → c < d → is_full_cell s a b c d ≡ true →
      (is_in_conflict (Full (a ∷ b ∷ c ∷ d ∷ [])) m p ≡ false) ↔ IsIn (Full (a ∷ b ∷ c ∷ d ∷ []))
      (complex (with_point p s))
  full_listed a b c d m ab bc cd t =
      let q = Full (a ∷ b ∷ c ∷ d ∷ []) in
      let k = full_is_kept s a b c d m p i.keys n.key n.absent t in (
        λ h. cell_is_listed (with_point p s) q more.ascending (record {
          a = a;
          b = b;
          c = c;
          d = d;
          is = refl;
          first = ab;
          second = bc;
          third = cd;
          test = k ∙ not_true (is_in_conflict q m p) h;
        }),
        λ h. not_from (is_in_conflict q m p) (sym k ∙ listed_full (with_point p s) a b c d
            (listed_is_cell (with_point p s) q more.ascending h)),
      )

  -- of an Open cell
  open_listed : (a b c m : ℕ) → a < b → b < c → is_open_cell s a b c ≡ true → IsIn m s → is_flat a b c m ≡ false →
      (is_in_conflict (Open (a ∷ b ∷ c ∷ [])) m p ≡ false) ↔ IsIn (Open (a ∷ b ∷ c ∷ [])) (complex (with_point p s))
  open_listed a b c m ab bc t mm f =
      let q = Open (a ∷ b ∷ c ∷ []) in
      let k = open_is_kept s a b c m p i.keys n.key n.absent t mm f in (
        λ h. cell_is_listed (with_point p s) q more.ascending (record {
          a = a;
          b = b;
          c = c;
          is = refl;
          first = ab;
          second = bc;
          test = k ∙ not_true (is_in_conflict q m p) h;
        }),
        λ h. not_from (is_in_conflict q m p) (sym k ∙ listed_open (with_point p s) a b c
            (listed_is_cell (with_point p s) q more.ascending h)),
      )

  -- of any listed cell
  decides : (q : Cell) (m : ℕ) → IsIn q (complex s) → IsMate s q m → (is_in_conflict q m p ≡ false)
      ↔ IsIn q (complex (with_point p s))
  decides (Full l) m h k =
      let r = listed_is_cell s (Full l) i.ascending h in
      subst (λ (v : List ℕ). (is_in_conflict (Full v) m p ≡ false) ↔ IsIn (Full v) (complex (with_point p s)))
      (sym r.is) (full_listed r.a r.b r.c r.d m r.first r.second r.third r.test)
  decides (Open l) m h k =
      let r = listed_is_cell s (Open l) i.ascending h in
      let k' : IsMate s (Open (r.a ∷ r.b ∷ r.c ∷ [])) m = subst (λ (v : List ℕ). IsMate s (Open v) m) r.is k in
      subst (λ (v : List ℕ). (is_in_conflict (Open v) m p ≡ false) ↔ IsIn (Open v) (complex (with_point p s)))
      (sym r.is) (open_listed r.a r.b r.c m r.first r.second r.test k'.0 k'.1)

-- ---- the laws

-- what is not in conflict stays
pub stays_without_conflict : StaysWithoutConflict
stays_without_conflict s p i n q m h k =
    let d = decides s p i.set n q m h k in
    (λ e. record { before = h; after = d.0 e }, λ r. d.1 r.after)

-- and what is goes
pub goes_in_conflict : GoesInConflict
goes_in_conflict s p i n q m h k =
    let d = decides s p i.set n q m h k in (
      λ e. record { before = h; after = λ r. false≢true (sym (d.1 r) ∙ e) },
      λ g. elim (true_or_false (is_in_conflict q m p)) [ inl e ↦ e | inr e ↦ absurd (g.after (d.0 e)) ],
    )

-- a cell has a mate
pub some_mate : SomeMate
some_mate s i (Full l) h = (0, tt)
some_mate s i (Open l) h =
    let r = listed_is_cell s (Open l) i.ascending h in
    let m = listed_mate s r.a r.b r.c i.ascending i.keys (subst (λ (v : List ℕ). IsIn (Open v) (complex s)) r.is h) in
    (m.mate, subst (λ (v : List ℕ). IsMate s (Open v) m.mate) (sym r.is) (m.inside, m.off))

-- p is none of a list of points of s
not_among : (s l : List ℕ) (p : ℕ) → IsNew s p → ((e : ℕ) → IsIn e l → IsIn e s) → is_among p l ≡ false
not_among s l p n f = false_if (is_among p l) (λ h. n.absent (f p (among_from p l h)))

-- and can be judged by it
pub mates_judge : MatesJudge
mates_judge s p i n (Full l) m h k =
    let r = listed_is_cell s (Full l) i.ascending h in
    let points = λ (e : ℕ) (j : IsIn e (r.a ∷ r.b ∷ r.c ∷ r.d ∷ [])). listed_inside s (Full l) r e
    (subst (λ (v : List ℕ). IsIn e v) (sym r.is) j) in
    subst (λ (v : List ℕ). CanJudge (Full v) m p) (sym r.is) (
      full_not_flat s r.a r.b r.c r.d r.test,
      not_among s (r.a ∷ r.b ∷ r.c ∷ r.d ∷ []) p n points,
    )
mates_judge s p i n (Open l) m h k =
    let r = listed_is_cell s (Open l) i.ascending h in
    let k' : IsMate s (Open (r.a ∷ r.b ∷ r.c ∷ [])) m = subst (λ (v : List ℕ). IsMate s (Open v) m) r.is k in
    let inside = λ (e : ℕ) (j : IsIn e (r.a ∷ r.b ∷ r.c ∷ [])). listed_inside s (Open l) r e
    (subst (λ (v : List ℕ). IsIn e v) (sym r.is) j) in
    let points = λ (e : ℕ) (j : IsIn e (r.a ∷ r.b ∷ r.c ∷ m ∷ [])). with_fourth s r.a r.b r.c m inside k'.0 e j in
    subst (λ (v : List ℕ). CanJudge (Open v) m p) (sym r.is) (k'.1, not_among s (r.a ∷ r.b ∷ r.c ∷ m ∷ []) p n points)
  where
    -- three points and the mate
    with_fourth : (s : List ℕ) (a b c m : ℕ) → ((e : ℕ) → IsIn e (a ∷ b ∷ c ∷ []) → IsIn e s) → IsIn m s → (e : ℕ) →
        IsIn e (a ∷ b ∷ c ∷ m ∷ []) → IsIn e s
    with_fourth s a b c m f mm e j =
        of_four (λ v. IsIn v s) j (f a (inl refl)) (f b (inr (inl refl))) (f c (inr (inr (inl refl)))) mm
