use Rattle.std.proofs.Common.{◌<◌, ◌≤◌, [], List, ℕ, length, get_or, take, arith, refl}
use Rattle.std.specs.List.{concat}
use Rattle.std.proofs.lemmas.List.{get_or-take, length-take}
use Rattle.text_sheets.proofs.Places.{own_item}
use Rattle.text_sheets.proofs.Sheets.{ends, goes_on, leaves_all}
use Rattle.text_sheets.proofs.ways.put_range.Goals as goal

pub loop-number-init : goal.loop-number-init
loop-number-init g c = leaves_all

pub loop-number-preserved : goal.loop-number-preserved
loop-number-preserved g c =
    let lines : List (List ℕ) = g.L.Lines.lines_of c.args.lines.now in
    let number = c.loop-number.number in
    let some : List (List ℕ) = take c.args.to lines in
    let before = c.loop-number-test.true in
    let within = c.requires.within in
    let inside : number < length some = omega (arith, length-take c.args.to lines, before, within) in
    goes_on (λ (l : List (List ℕ)). concat l) (λ (l : List ℕ). l) (λ x xs. refl) some number (get_or some number [])
    inside (own_item [] some number inside) c.loop-number.invariant
    (rw (get_or-take c.args.to lines number [] before) c.put_line.ensures)

pub returns : goal.returns
returns g c =
    let lines : List (List ℕ) = g.L.Lines.lines_of c.args.lines.now in
    let some : List (List ℕ) = take c.args.to lines in
    let behind = c.loop-number-test.false in
    let past : length some ≤ c.loop-number.number = omega (arith, length-take c.args.to lines, behind) in
    ends (λ (l : List (List ℕ)). concat l) refl some c.loop-number.number past c.loop-number.invariant
