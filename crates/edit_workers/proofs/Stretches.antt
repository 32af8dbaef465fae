-- The steps of the pairs of a list, one after another.
use Rattle.std.specs.Prelude.{◌≡◌, ◌≤◌, ◌||◌, Bool, true, false, List, [], ◌∷◌, ◌++◌, map, if◌then◌else◌}
use Rattle.std.specs.List.{filter, flat_map}
use Rattle.std.proofs.Common.{refl, sym, ◌∙◌, ap, append-nil}
use Rattle.std.proofs.lemmas.Bool.{false≢true}
use Rattle.std.proofs.lemmas.List.{append_assoc}
use Rattle.edit_history.specs.Edits.{share_point}
use Rattle.claim_table.specs.declared.view.Act.{Act}
use Rattle.claim_table.specs.Trails.{misses}
use Rattle.plain_laws.specs.Running.{Pair}
use Rattle.edit_workers.specs.Trying.{shares_with}
use Rattle.edit_workers.specs.Working.{Marked, Stretch, AreTried, left_over}

-- of two tests that fail together each fails
neither : (a b : Bool) → (a || b) ≡ false → (a ≡ false) × (b ≡ false)
neither false b e = (refl, e)
neither true b e = absurd (false≢true (sym e))

-- all steps, with one pair more
pub flat_more : (l : List Stretch) (s : Stretch) → flat_map (λ (s : Stretch). s.1) (l ++ s ∷ [])
    ≡ flat_map (λ (s : Stretch). s.1) l ++ s.1
flat_more [] s = append-nil s.1
flat_more (x ∷ l) s =
    ap (λ (t : List Act). x.1 ++ t) (flat_more l s) ∙ sym (append_assoc x.1 (flat_map (λ (s : Stretch). s.1) l) s.1)

-- what has to be shown of the last one: it was tried to the end, if it is left over and shares no point with these, nor
-- with an earlier one left over
abbrev pub IsTriedLast : List Pair → List Stretch → Stretch → Type 0
IsTriedLast over l s =
    (s.0.0 ≡ true → shares_with s.0.1.1 over ≡ false →
    shares_with s.0.1.1 (left_over (map (λ (x : Stretch). x.0) l)) ≡ false → misses s.1 ≡ 64)
    × (misses s.1 ≤ 64)

-- those tried before, and one pair more
pub tried_more : (over : List Pair) (l : List Stretch) (s : Stretch) → AreTried over l → IsTriedLast over l s →
    AreTried over (l ++ s ∷ [])
tried_more over [] s h f = ((λ t e. f.0 t e refl), f.1, tt)
tried_more over (x ∷ l) s h f =
    (h.0, h.1, by x.0.0 h.2 f (tried_more over l s) (tried_more (x.0.1 ∷ over) l s))
  where
    by : (b : Bool) → AreTried (if b then x.0.1 ∷ over else over) l
        → ((s.0.0 ≡ true → shares_with s.0.1.1 over ≡ false → shares_with s.0.1.1 (map (λ (m : Marked). m.1)
        (if b
        then x.0 ∷ filter (λ (m : Marked). m.0) (map (λ (x : Stretch). x.0) l)
        else filter (λ (m : Marked). m.0) (map (λ (x : Stretch). x.0) l))) ≡ false → misses s.1 ≡ 64)
        × (misses s.1 ≤ 64))
        → (AreTried over l → IsTriedLast over l s → AreTried over (l ++ s ∷ []))
        → (AreTried (x.0.1 ∷ over) l → IsTriedLast (x.0.1 ∷ over) l s → AreTried (x.0.1 ∷ over) (l ++ s ∷ []))
        → AreTried (if b then x.0.1 ∷ over else over) (l ++ s ∷ [])
    by true h f one two = two h (
      (λ t a c.
          let e = neither (share_point x.0.1.1 s.0.1.1) (shares_with s.0.1.1 over) a in
          f.0 t e.1 (none (share_point x.0.1.1 s.0.1.1) e.0 c)),
      f.1,
    )
      where
        none : (b : Bool) → b ≡ false → shares_with s.0.1.1 (left_over (map (λ (x : Stretch). x.0) l)) ≡ false →
            (b || shares_with s.0.1.1 (left_over (map (λ (x : Stretch). x.0) l))) ≡ false
        none false e c = c
        none true e c = absurd (false≢true (sym e))
    by false h f one two = one h f
