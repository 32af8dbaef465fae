-- The numbers of faces by the cells around them.
use Rattle.std.proofs.Common.{◌≡◌, ℕ, ◌<◌, ◌+◌, min, max, sym, subst, arith, Bool, List, [], length, get_or}
use Rattle.std.specs.List.{All}
use Rattle.std.proofs.lemmas.List.Elements.{All-get_or}
use Rattle.list_laws.proofs.Cited.{length_zip}
use Rattle.point_order.specs.declared.cell.Cell.{Cell}
use Rattle.point_order.specs.declared.cell.Cell.TheVariants.{Full}
use Rattle.face_list.specs.Tables.{cell_at}
use Rattle.alpha_complex.specs.Leasts.{AreLeastOf, IsLeastOf}
use Rattle.alpha_complex.proofs.Cited.{AllLeft, AnyLeft, all_step, any_step, zip_at}

-- the number of a cell is the least alpha of whatever the numbers are
least_of : (test : ℕ → Cell → Bool) (cells : List Cell) (leasts : List ℕ) (n m : ℕ) → AreLeastOf test cells leasts →
    n < length leasts → m ≡ get_or leasts n 0 → IsLeastOf (λ a. test a (cell_at cells n)) m
least_of test cells leasts n m z h e =
    let P : Cell → ℕ → Type 0 = λ x k. IsLeastOf (λ a. test a x) k in
    let k = length_zip P cells leasts z in
    subst (IsLeastOf (λ a. test a (cell_at cells n))) (sym e)
    (zip_at P cells leasts n (Full []) 0 z (omega (arith, h, k)))

-- the least so far and what is left, whatever the numbers are the least alphas of
abbrev pub SomeLeft : List ℕ → List ℕ → ℕ → ℕ → Type 0
SomeLeft leasts around i least = (cells : List Cell) (test : ℕ → Cell → Bool) → AreLeastOf test cells leasts →
    AnyLeft test (cell_at cells) around i least

-- with one more
pub some_step : (leasts around : List ℕ) (i d least m r : ℕ) → i < length around →
    All (λ n. n < length leasts) around → m ≡ get_or leasts (get_or around i d) 0 → r ≡ min least m →
    SomeLeft leasts around i least → SomeLeft leasts around (i + 1) r
some_step leasts around i d least m r h k e q left cells test z =
    any_step test (cell_at cells) around i d least m r h
    (least_of test cells leasts (get_or around i d) m z
    (All-get_or (λ n. n < length leasts) around i d h k) e) q (left cells test z)

-- so of the greatest
abbrev pub EachLeft : List ℕ → List ℕ → ℕ → ℕ → Type 0
EachLeft leasts around i most = (cells : List Cell) (test : ℕ → Cell → Bool) → AreLeastOf test cells leasts →
    AllLeft test (cell_at cells) around i most

pub each_step : (leasts around : List ℕ) (i d most m r : ℕ) → i < length around →
    All (λ n. n < length leasts) around → m ≡ get_or leasts (get_or around i d) 0 → r ≡ max most m →
    EachLeft leasts around i most → EachLeft leasts around (i + 1) r
each_step leasts around i d most m r h k e q left cells test z =
    all_step test (cell_at cells) around i d most m r h
    (least_of test cells leasts (get_or around i d) m z
    (All-get_or (λ n. n < length leasts) around i d h k) e) q (left cells test z)
