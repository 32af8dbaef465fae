use Rattle.std.proofs.Common.{List, ℕ, refl, ◌++◌}
use Rattle.std.specs.Prelude.{map, codes, decimal}
use Rattle.std.specs.List.{concat}
use Rattle.text_sheets.specs.Indices.{index_of}
use Rattle.text_sheets.proofs.Sheets.{ends, goes_on, leaves_all}
use Rattle.text_sheets.proofs.indices.put_indices.Goals as goal

pub loop-corner-init : goal.loop-corner-init
loop-corner-init g c = leaves_all

pub loop-corner-preserved : goal.loop-corner-preserved
loop-corner-preserved g c =
    goes_on (λ (xs : List ℕ). concat (map (λ (p : ℕ). decimal (index_of c.args.indices.now p) ++ codes " ") xs))
    (λ (p : ℕ). decimal (index_of c.args.indices.now p) ++ codes " ") (λ x xs. refl)
    c.args.corners.now c.loop-corner.corner-index c.corner-item.result c.loop-corner-test.true c.corner-item.is
    c.loop-corner.invariant (rw c.index.ensures at c.put_number_and.ensures)

pub returns : goal.returns
returns g c =
    ends (λ (xs : List ℕ). concat (map (λ (p : ℕ). decimal (index_of c.args.indices.now p) ++ codes " ") xs))
    refl c.args.corners.now c.loop-corner.corner-index c.loop-corner-test.false c.loop-corner.invariant
