-- Lines of a text, from one number to another.
use Rattle.std.proofs.Common.{◌≡◌, ◌≤◌, ◌∙◌, ℕ, List, ◌++◌, length, take, drop, arith, sym, ap}
use Rattle.std.specs.List.{concat}
use Rattle.std.proofs.lemmas.List.{drop-append-le, length-take, take-append-drop, take-take}
use Rattle.std.proofs.lemmas.List.Folds.{concat-append}
use Rattle.text_sheets.specs.Ways.{lines_from}

-- the lines from one number on are those up to another, and those from there on
pub lines_cut : (from to : ℕ) (lines : List (List ℕ)) → from ≤ to → to ≤ length lines →
    lines_from from to lines ++ concat (drop to lines) ≡ concat (drop from lines)
lines_cut from to lines order within =
    let inside : from ≤ length (take to lines) = omega (arith, length-take to lines) in
    sym (concat-append (drop from (take to lines)) (drop to lines))
    ∙ ap concat (sym (drop-append-le from (take to lines) (drop to lines) inside)
    ∙ ap (λ (l : List (List ℕ)). drop from l) (take-append-drop to lines))

-- the lines of two ranges, the second of which begins where the first ends, are those of both
pub ranges_cut : (from middle to : ℕ) (lines : List (List ℕ)) → from ≤ middle → middle ≤ to → to ≤ length lines →
    lines_from from middle lines ++ lines_from middle to lines ≡ lines_from from to lines
ranges_cut from middle to lines low high within =
    let inside : middle ≤ length (take to lines) = omega (arith, length-take to lines) in
    ap (λ (l : List (List ℕ)). concat (drop from l) ++ lines_from middle to lines)
    (sym (take-take middle to lines high))
    ∙ lines_cut from middle (take to lines) low inside
