-- Rows of a front of a list of cells.
use Rattle.std.proofs.Common.{◌≡◌, ◌∙◌, sym, subst, inl, inr, refl, ap, arith, ℕ, zero, suc, ◌<◌, ◌+◌, ◌++◌, List, []}
use Rattle.std.proofs.Common.{◌∷◌, length, map, take, get_or}
use Rattle.std.proofs.lemmas.Bool.{cases_lt}
use Rattle.point_order.specs.declared.cell.Cell.{Cell}
use Rattle.point_order.specs.declared.cell.Cell.TheVariants.{Full, Open}
use Rattle.face_list.specs.Faces.{full_cells}
use Rattle.mesh_rows.specs.Rows.{open_cells}

-- the rows of the Full cells of a front and of one cell more
pub full_more : {Y : Type 0} (f : List ℕ → Y) (cells : List Cell) (i : ℕ) (d : Cell) → i < length cells →
    map f (full_cells (take (suc i) cells))
    ≡ map f (full_cells (take i cells)) ++ map f (full_cells (get_or cells i d ∷ []))
full_more f [] i d h = absurd (omega (arith, h))
full_more f (Full q ∷ cells) zero d h = refl
full_more f (Open t ∷ cells) zero d h = refl
full_more {Y} f (Full q ∷ cells) (suc i) d h = ap (λ (l : List Y). f q ∷ l) (full_more f cells i d (omega (arith, h)))
full_more f (Open t ∷ cells) (suc i) d h = full_more f cells i d (omega (arith, h))

-- of the Open ones
pub open_more : {Y : Type 0} (f : List ℕ → Y) (cells : List Cell) (i : ℕ) (d : Cell) → i < length cells →
    map f (open_cells (take (suc i) cells))
    ≡ map f (open_cells (take i cells)) ++ map f (open_cells (get_or cells i d ∷ []))
open_more f [] i d h = absurd (omega (arith, h))
open_more f (Full q ∷ cells) zero d h = refl
open_more f (Open t ∷ cells) zero d h = refl
open_more f (Full q ∷ cells) (suc i) d h = open_more f cells i d (omega (arith, h))
open_more {Y} f (Open t ∷ cells) (suc i) d h = ap (λ (l : List Y). f t ∷ l) (open_more f cells i d (omega (arith, h)))

-- how many of them there are
pub count_more : (cells : List Cell) (i : ℕ) (d : Cell) → i < length cells →
    length (full_cells (take (suc i) cells))
    ≡ length (full_cells (take i cells)) + length (full_cells (get_or cells i d ∷ []))
count_more [] i d h = absurd (omega (arith, h))
count_more (Full q ∷ cells) zero d h = refl
count_more (Open t ∷ cells) zero d h = refl
count_more (Full q ∷ cells) (suc i) d h =
    let r = count_more cells i d (omega (arith, h)) in omega (arith, r)
count_more (Open t ∷ cells) (suc i) d h = count_more cells i d (omega (arith, h))

-- a list with one more row keeps those it has
push_old : {X : Type 0} (xs : List X) (x d : X) (i : ℕ) → i < length xs → get_or (xs ++ x ∷ []) i d ≡ get_or xs i d
push_old [] x d i h = absurd (omega (arith, h))
push_old (y ∷ xs) x d zero h = refl
push_old (y ∷ xs) x d (suc i) h = push_old xs x d i (omega (arith, h))

-- and has it behind them
push_last : {X : Type 0} (xs : List X) (x d : X) → get_or (xs ++ x ∷ []) (length xs) d ≡ x
push_last [] x d = refl
push_last (y ∷ xs) x d = push_last xs x d

-- how long it is
long : {X : Type 0} (xs : List X) (x : X) → length (xs ++ x ∷ []) ≡ length xs + 1
long [] x = refl
long (y ∷ xs) x = let r = long xs x in omega (arith, r)

-- what holds of each row so far and of one more
pub push_each : {X : Type 0} (P : ℕ → X → Type 0) (xs more : List X) (x : X) (n : ℕ) → more ≡ xs ++ x ∷ [] →
    (length xs ≡ n) × ((i : ℕ) (d : X) → i < n → P i (get_or xs i d)) → P n x →
    (length more ≡ n + 1) × ((i : ℕ) (d : X) → i < n + 1 → P i (get_or more i d))
push_each {X} P xs more x n m f p =
    subst (λ (l : List X). (length l ≡ n + 1) × ((i : ℕ) (d : X) → i < n + 1 → P i (get_or l i d))) (sym m)
    (long xs x ∙ ap (λ (k : ℕ). k + 1) f.0, each)
  where
    each : (i : ℕ) (d : X) → i < n + 1 → P i (get_or (xs ++ x ∷ []) i d)
    each i d h = elim (cases_lt i n) [
      | inl u ↦ (
          let e = f.0 in
          subst (P i) (sym (push_old xs x d i (omega (arith, e, u)))) (f.1 i d u))
      | inr u ↦ (
          let e = f.0 in
          let s : i ≡ length xs = omega (arith, e, u, h) in
          let q : get_or (xs ++ x ∷ []) i d ≡ x =
          ap (λ (k : ℕ). get_or (xs ++ x ∷ []) k d) s ∙ push_last xs x d in
          subst (P i) (sym q) (subst (λ (k : ℕ). P k x) (sym (s ∙ e)) p))
    ]
