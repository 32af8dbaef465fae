use Rattle.std.proofs.Common.{List, refl, length, sym}
use Rattle.std.specs.Prelude.{map, codes}
use Rattle.std.specs.List.{concat}
use Rattle.std.proofs.lemmas.List.{length-map}
use Rattle.text_sheets.proofs.Cited.{ends, goes_on, starts}
use Rattle.nearest_points.specs.declared.answers.Near.{Near}
use Rattle.near_texts.specs.Text.{near_line}
use Rattle.near_texts.proofs.texts.put_nears.Goals as goal

pub loop-near-init : goal.loop-near-init
loop-near-init g c =
    starts (codes "queries") (map (near_line c.args.indices.now) c.args.nears.now) (length c.args.nears.now)
    (sym (length-map c.args.nears.now (near_line c.args.indices.now))) c.put_title.ensures

pub loop-near-preserved : goal.loop-near-preserved
loop-near-preserved g c =
    goes_on (λ (xs : List Near). concat (map (near_line c.args.indices.now) xs)) (near_line c.args.indices.now)
    (λ x xs. refl) c.args.nears.now c.loop-near.near-index c.near-item.result c.loop-near-test.true c.near-item.is
    c.loop-near.invariant c.put_near_line.ensures

pub returns : goal.returns
returns g c =
    ends (λ (xs : List Near). concat (map (near_line c.args.indices.now) xs)) refl c.args.nears.now
    c.loop-near.near-index c.loop-near-test.false c.loop-near.invariant
