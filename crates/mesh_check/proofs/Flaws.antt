-- The flaw that is found is true of the lists, and where none is found each cell passes.
use Rattle.std.specs.Prelude.{◌≡◌, refl, ℕ, Bool, true, false, List, [], ◌∷◌, Option, None, Some, if◌then◌else◌}
use Rattle.std.specs.List.{find, list_any}
use Rattle.std.proofs.Common.{inl, inr, sym, subst}
use Rattle.std.proofs.lemmas.Option.{none-some}
use Rattle.list_laws.proofs.Cited.{any_from, any_true, false_if, not_both}
use Rattle.point_order.specs.declared.cell.Cell.{Cell}
use Rattle.point_order.specs.declared.cell.Cell.TheVariants.{Full, Open}
use Rattle.point_order.specs.Sets.{IsIn}
use Rattle.mesh_check.specs.declared.flaw.Flaw.{Flaw}
use Rattle.mesh_check.specs.declared.flaw.Flaw.TheVariants.{Empty, FlatCell, Sides, Inside, OpenFacet}
use Rattle.mesh_check.specs.Flaws.{are_apart, first_flaw, first_flaw_of, flaw_of, inside_of, inside_with, is_flat_cell}
use Rattle.mesh_check.specs.Flaws.{is_inside, opposite, sides_from, sides_of, sides_with}
use Rattle.mesh_check.specs.Laws.{IsFlaw}

-- ---- searches

-- what is there is one
some_same : {X : Type 0} (a b : X) → Some a ≡ Some b → a ≡ b
some_same a b e = cc

-- what a search finds is a member that passes
pub found : {X : Type 0} (p : X → Bool) (s : List X) (x : X) → find p s ≡ Some x → IsIn x s × (p x ≡ true)
found p [] x e = absurd (none-some x e)
found {X} p (y ∷ s) x e = go (p y) refl e (λ f. found p s x f)
  where
    -- at the first, or further on
    go : (b : Bool) → p y ≡ b → (if b then Some y else find p s) ≡ Some x →
        (find p s ≡ Some x → IsIn x s × (p x ≡ true)) → IsIn x (y ∷ s) × (p x ≡ true)
    go true t f h = let q = some_same y x f in (inl q, subst (λ v. p v ≡ true) q t)
    go false t f h = let r = h f in (inr r.0, r.1)

-- a search that finds none has no member that passes
pub none_found : {X : Type 0} (p : X → Bool) (s : List X) → find p s ≡ None → (x : X) → IsIn x s → p x ≡ false
none_found p [] e x m = absurd m
none_found {X} p (y ∷ s) e x m = go (p y) refl e (λ f r. none_found p s f x r)
  where
    -- the first is passed over
    go : (b : Bool) → p y ≡ b → (if b then Some y else find p s) ≡ None → (find p s ≡ None → IsIn x s → p x ≡ false) →
        p x ≡ false
    go true t f h = absurd (none-some y (sym f))
    go false t f h = elim m [ inl q ↦ subst (λ v. p v ≡ false) q t | inr r ↦ h f r ]

-- where none passes a search finds none
pub finds_none : {X : Type 0} (p : X → Bool) (s : List X) → ((x : X) → IsIn x s → p x ≡ false) → find p s ≡ None
finds_none p [] f = refl
finds_none p (y ∷ s) f = rw (f y (inl refl)) (finds_none p s (λ x m. f x (inr m)))

-- tests that are one on all members find the same
pub find_same : {X : Type 0} (p q : X → Bool) (s : List X) → ((x : X) → IsIn x s → p x ≡ q x) → find p s ≡ find q s
find_same p q [] f = refl
find_same p q (y ∷ s) f = rw (f y (inl refl), find_same p q s (λ x m. f x (inr m))) refl

-- ---- a flaw of a cell

-- of one of two, what holds of both holds
either_of : (P : Flaw → Type 0) (o r : Option Flaw) (flaw : Flaw) → (o ≡ Some flaw → P flaw) →
    (r ≡ Some flaw → P flaw) → first_flaw_of o r ≡ Some flaw → P flaw
either_of P None r flaw f g e = g e
either_of P (Some x) r flaw f g e = f e

-- points on opposite sides are as it says
sides_true : (s : List ℕ) (l : List Cell) (c : Cell) (flaw : Flaw) → IsIn c l → sides_of s c ≡ Some flaw →
    IsFlaw s l flaw
sides_true s l (Full q) flaw m e = absurd (none-some flaw
    (full_none (find (λ e. list_any (λ f. are_apart (Full q) e f) s) s) e))
  where
    -- a Full cell has none
    full_none : (o : Option ℕ) → sides_from s (Full q) o ≡ Some flaw → None ≡ Some flaw
    full_none o e = e
sides_true s l (Open t) flaw m e = go (find (λ e. list_any (λ f. are_apart (Open t) e f) s) s) refl e
  where
    -- with both points
    with_both : (e f : ℕ) → IsIn e s → find (λ f. are_apart (Open t) e f) s ≡ Some f → IsFlaw s l (Sides t e f)
    with_both e f me i = let r = found (λ f. are_apart (Open t) e f) s f i in (m, me, r.0, r.1)

    -- with the first point
    with_first : (e : ℕ) → IsIn e s → (o : Option ℕ) → find (λ f. are_apart (Open t) e f) s ≡ o →
        sides_with s (Open t) (Some e) o ≡ Some flaw → IsFlaw s l flaw
    with_first e me None i h = absurd (none-some flaw h)
    with_first e me (Some f) i h = subst (λ v. IsFlaw s l v) (some_same (Sides t e f) flaw h) (with_both e f me i)

    -- by the first search
    go : (o : Option ℕ) → find (λ e. list_any (λ f. are_apart (Open t) e f) s) s ≡ o →
        sides_from s (Open t) o ≡ Some flaw → IsFlaw s l flaw
    go None i h = absurd (none-some flaw h)
    go (Some e) i h = with_first e (found (λ e. list_any (λ f. are_apart (Open t) e f) s) s e i).0
        (find (λ f. are_apart (Open t) e f) s) refl h

-- a point that is not outside is as it says
inside_true : (s : List ℕ) (l : List Cell) (c : Cell) (flaw : Flaw) → IsIn c l → inside_of s c ≡ Some flaw →
    IsFlaw s l flaw
inside_true s l c flaw m e = go (find (is_inside s c) s) refl e
  where
    -- by the search
    go : (o : Option ℕ) → find (is_inside s c) s ≡ o → inside_with c o ≡ Some flaw → IsFlaw s l flaw
    go None i h = absurd (none-some flaw h)
    go (Some p) i h = subst (λ v. IsFlaw s l v) (some_same (Inside c p) flaw h) (let r = found (is_inside s c) s p i in
        (m, r.0, r.1))

-- the flaw of a cell is true
cell_true : (s : List ℕ) (l : List Cell) (c : Cell) (flaw : Flaw) → IsIn c l → flaw_of s c ≡ Some flaw → IsFlaw s l flaw
cell_true s l c flaw m e = go (is_flat_cell c) refl e
  where
    -- by the first test
    go : (b : Bool) → is_flat_cell c ≡ b → (if b then Some (FlatCell c) else first_flaw_of (sides_of s c)
        (inside_of s c)) ≡
        Some flaw → IsFlaw s l flaw
    go true t h = subst (λ v. IsFlaw s l v) (some_same (FlatCell c) flaw h) (m, t)
    go false t h = either_of (λ v. IsFlaw s l v) (sides_of s c) (inside_of s c) flaw (sides_true s l c flaw m)
        (inside_true s l c flaw m) h

-- so is the first of the cells of a list
pub first_true : (s : List ℕ) (l k : List Cell) (flaw : Flaw) → ((c : Cell) → IsIn c k → IsIn c l) →
    first_flaw s k ≡ Some flaw → IsFlaw s l flaw
unfolding first_flaw
first_true s l [] flaw f e = absurd (none-some flaw e)
first_true s l (c ∷ k) flaw f e =
    either_of (λ v. IsFlaw s l v) (flaw_of s c) (first_flaw s k) flaw (cell_true s l c flaw (f c (inl refl)))
    (first_true s l k flaw (λ d m. f d (inr m))) e

-- ---- no flaw

-- neither of two
none_of : (o r : Option Flaw) → first_flaw_of o r ≡ None → (o ≡ None) × (r ≡ None)
none_of None r e = (refl, e)
none_of (Some x) r e = absurd (none-some x (sym e))

-- no cell of the list has a flaw
pub none_flawed : (s : List ℕ) (l : List Cell) → first_flaw s l ≡ None → (c : Cell) → IsIn c l → flaw_of s c ≡ None
unfolding first_flaw
none_flawed s [] e c m = absurd m
none_flawed s (d ∷ l) e c m =
    let r = none_of (flaw_of s d) (first_flaw s l) e in
    elim m [ inl q ↦ subst (λ v. flaw_of s v ≡ None) q r.0 | inr i ↦ none_flawed s l r.1 c i ]

-- what a cell without a flaw shows
pub record IsSound (s : List ℕ) (c : Cell) : Type 0 where
  pub upright : is_flat_cell c ≡ false
  pub together : (e f : ℕ) → IsIn e s → IsIn f s → are_apart c e f ≡ false
  pub outside : (p : ℕ) → IsIn p s → is_inside s c p ≡ false

-- tests that all fail where one is found, if none is
none_any : (s : List ℕ) (p : ℕ → ℕ → Bool) → ((e : ℕ) → IsIn e s → list_any (p e) s ≡ false) → (e f : ℕ) → IsIn e s →
    IsIn f s → p e f ≡ false
none_any s p h e f me mf = false_if (p e f) (λ t. not_both (list_any (p e) s) (any_true (p e) s f mf t) (h e me))

-- of a triple: no points on opposite sides, where the search finds none
apart_none : (s : List ℕ) (t : List ℕ) → sides_of s (Open t) ≡ None → (e f : ℕ) → IsIn e s → IsIn f s →
    are_apart (Open t) e f ≡ false
apart_none s t h = go (find (λ e. list_any (λ f. are_apart (Open t) e f) s) s) refl h
  where
    -- the first point found has one opposite, so that the second search finds it
    second : (e : ℕ) → list_any (λ f. are_apart (Open t) e f) s ≡ true → (o : Option ℕ) →
        find (λ f. are_apart (Open t) e f) s ≡ o → sides_with s (Open t) (Some e) o ≡ None → ⊥
    second e a None i h = let r = any_from (λ f. are_apart (Open t) e f) s a in
        not_both (are_apart (Open t) e r.0) r.2 (none_found (λ f. are_apart (Open t) e f) s i r.0 r.1)
    second e a (Some f) i h = none-some (Sides t e f) (sym h)

    -- by the first search
    go : (o : Option ℕ) → find (λ e. list_any (λ f. are_apart (Open t) e f) s) s ≡ o → sides_from s (Open t) o ≡ None →
        (e f : ℕ) → IsIn e s → IsIn f s → are_apart (Open t) e f ≡ false
    go None i h = none_any s (are_apart (Open t)) (none_found (λ e. list_any (λ f. are_apart (Open t) e f) s) s i)
    go (Some e) i h = absurd (second e (found (λ e. list_any (λ f. are_apart (Open t) e f) s) s e i).1
        (find (λ f. are_apart (Open t) e f) s) refl h)

-- no point is inside, where the search finds none
inside_none : (s : List ℕ) (c : Cell) → inside_of s c ≡ None → (p : ℕ) → IsIn p s → is_inside s c p ≡ false
inside_none s c h = go (find (is_inside s c) s) refl h
  where
    -- by the search
    go : (o : Option ℕ) → find (is_inside s c) s ≡ o → inside_with c o ≡ None → (p : ℕ) → IsIn p s →
        is_inside s c p ≡ false
    go None i h = none_found (is_inside s c) s i
    go (Some p) i h = absurd (none-some (Inside c p) (sym h))

-- a cell without a flaw is sound
pub sound : (s : List ℕ) (c : Cell) → flaw_of s c ≡ None → IsSound s c
sound s c e = go (is_flat_cell c) refl e
  where
    -- of each kind
    apart : (c : Cell) → sides_of s c ≡ None → (e f : ℕ) → IsIn e s → IsIn f s → are_apart c e f ≡ false
    apart (Full q) h e f me mf = refl
    apart (Open t) h e f me mf = apart_none s t h e f me mf

    -- by the first test
    go : (b : Bool) → is_flat_cell c ≡ b → (if b then Some (FlatCell c) else first_flaw_of (sides_of s c)
        (inside_of s c)) ≡
        None → IsSound s c
    go true t h = absurd (none-some (FlatCell c) (sym h))
    go false t h = let r = none_of (sides_of s c) (inside_of s c) h in
        record { upright = t; together = apart c r.0; outside = inside_none s c r.1 }

-- ---- which flaws are those of cells

-- the flaw is one of a cell
abbrev pub IsOfCell : Flaw → Type 0
IsOfCell Empty = ⊥
IsOfCell (FlatCell c) = Unit {0}
IsOfCell (Sides t e f) = Unit {0}
IsOfCell (Inside c p) = Unit {0}
IsOfCell (OpenFacet f) = ⊥

-- points on opposite sides are one
sides_of_cell : (s : List ℕ) (c : Cell) (flaw : Flaw) → sides_of s c ≡ Some flaw → IsOfCell flaw
sides_of_cell s c flaw e = go c (find (λ e. list_any (λ f. are_apart c e f) s) s)
    (opposite s c (find (λ e. list_any (λ f. are_apart c e f) s) s)) e
  where
    -- whatever is found
    go : (d : Cell) (o r : Option ℕ) → sides_with s d o r ≡ Some flaw → IsOfCell flaw
    go (Full q) o r h = absurd (none-some flaw h)
    go (Open t) None r h = absurd (none-some flaw h)
    go (Open t) (Some e) None h = absurd (none-some flaw h)
    go (Open t) (Some e) (Some f) h = subst IsOfCell (some_same (Sides t e f) flaw h) tt

-- a point inside is one
inside_of_cell : (s : List ℕ) (c : Cell) (flaw : Flaw) → inside_of s c ≡ Some flaw → IsOfCell flaw
inside_of_cell s c flaw e = go (find (is_inside s c) s) e
  where
    -- whatever is found
    go : (o : Option ℕ) → inside_with c o ≡ Some flaw → IsOfCell flaw
    go None h = absurd (none-some flaw h)
    go (Some p) h = subst IsOfCell (some_same (Inside c p) flaw h) tt

-- what is found of a cell is one
of_cell : (s : List ℕ) (c : Cell) (flaw : Flaw) → flaw_of s c ≡ Some flaw → IsOfCell flaw
of_cell s c flaw e = go (is_flat_cell c) e
  where
    -- by the first test
    go : (b : Bool) → (if b then Some (FlatCell c) else first_flaw_of (sides_of s c) (inside_of s c)) ≡ Some flaw →
        IsOfCell flaw
    go true h = subst IsOfCell (some_same (FlatCell c) flaw h) tt
    go false h = either_of IsOfCell (sides_of s c) (inside_of s c) flaw (sides_of_cell s c flaw)
        (inside_of_cell s c flaw) h

-- and so is the first of a list
pub first_of_cell : (s : List ℕ) (l : List Cell) (flaw : Flaw) → first_flaw s l ≡ Some flaw → IsOfCell flaw
unfolding first_flaw
first_of_cell s [] flaw e = absurd (none-some flaw e)
first_of_cell s (c ∷ l) flaw e = either_of IsOfCell (flaw_of s c) (first_flaw s l) flaw (of_cell s c flaw)
    (first_of_cell s l flaw) e
