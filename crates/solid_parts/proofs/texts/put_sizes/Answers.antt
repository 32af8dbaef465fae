use Rattle.std.proofs.Common.{List, refl, length, sym, get_or}
use Rattle.std.specs.Prelude.{map, codes}
use Rattle.std.specs.List.{concat}
use Rattle.std.proofs.lemmas.List.{length-map}
use Rattle.text_sheets.proofs.Cited.{ends, goes_on, own_item, starts}
use Rattle.solid_parts.specs.declared.part.PartSize.{PartSize}
use Rattle.solid_parts.specs.Text.{size_line}
use Rattle.solid_parts.proofs.texts.put_sizes.Goals as goal

pub loop-size-init : goal.loop-size-init
loop-size-init g c =
    starts (codes "parts") (map size_line c.args.sizes.now) (length c.args.sizes.now)
    (sym (length-map c.args.sizes.now size_line))
    c.put_title.ensures

pub loop-size-preserved : goal.loop-size-preserved
loop-size-preserved g c =
    let sizes = c.args.sizes.now in
    let i = c.loop-size.size-index in
    let none : PartSize = record { cells = 0; triangles = 0 } in
    goes_on (λ (xs : List PartSize). concat (map size_line xs)) size_line (λ x xs. refl) sizes i (get_or sizes i none)
    c.loop-size-test.true
    (own_item none sizes i c.loop-size-test.true) c.loop-size.invariant c.put_size.ensures

pub returns : goal.returns
returns g c =
    ends (λ (xs : List PartSize). concat (map size_line xs)) refl c.args.sizes.now c.loop-size.size-index
    c.loop-size-test.false
    c.loop-size.invariant
