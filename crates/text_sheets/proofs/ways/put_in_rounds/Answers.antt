use Rattle.std.proofs.Common.{◌+◌, ◌≤◌, List, ℕ, drop, length, refl, arith, rules}
use Rattle.std.specs.List.{concat}
use Rattle.text_sheets.specs.Ways.{lines_from}
use Rattle.text_sheets.proofs.Ranges.{lines_cut}
use Rattle.text_sheets.proofs.Sheets.{ends, goes_on_by, leaves_all}
use Rattle.text_sheets.proofs.ways.put_in_rounds.Goals as goal

pub loop-from-init : goal.loop-from-init
loop-from-init g c = record { within = omega arith; all = c.count-count.ensures; puts = leaves_all }

pub loop-from-preserved : goal.loop-from-preserved
loop-from-preserved g c =
    let lines : List (List ℕ) = g.L.Lines.lines_of c.args.lines.now in
    let from = c.loop-from.from in
    let to : ℕ = from + c.min.result in
    let all = c.loop-from.invariant.all in
    let inside : to ≤ c.count-count.result = search rules in
    let within : to ≤ length lines = omega (arith, inside, all) in
    let order : from ≤ to = omega arith in
    record {
      within = inside;
      all = all;
      puts = goes_on_by (lines_from from to lines) (concat (drop to lines)) (lines_cut from to lines order within)
          c.loop-from.invariant.puts c.put_made.ensures;
    }

pub returns : goal.returns
returns g c =
    let lines : List (List ℕ) = g.L.Lines.lines_of c.args.lines.now in
    let all = c.loop-from.invariant.all in
    let behind = c.loop-from-test.false in
    let past : length lines ≤ c.loop-from.from = omega (arith, all, behind) in
    ends (λ (l : List (List ℕ)). concat l) refl lines c.loop-from.from past c.loop-from.invariant.puts
