use Rattle.std.proofs.Common.{◌∙◌, ap, map}
use Rattle.std.proofs.lemmas.List.{take_all}
use Rattle.hole_laws.specs.Lists.{cell_over}
use Rattle.list_laws.proofs.Cited.{at_place}
use Rattle.cavity.proofs.Filling.{fresh_more}
use Rattle.cavity.proofs.fill_hole.cells_of.Goals as goal

pub cell_of-requires : goal.cell_of-requires
cell_of-requires c = c.requires c.facet-item.result
    (at_place c.args.facets.now c.loop-facet.facet-index c.facet-item.result c.facet-item.result c.loop-facet-test.true
    c.facet-item.is)

pub loop-facet-preserved : goal.loop-facet-preserved
loop-facet-preserved c =
    fresh_more c.args.p c.args.facets.now c.loop-facet.facet-index c.facet-item.result c.cell_of.result
    c.loop-facet.cells.items c.push.new.self.items
    c.loop-facet-test.true c.facet-item.is c.cell_of.ensures c.loop-facet.invariant c.in_ok-push.ensures.items

pub returns : goal.returns
returns c =
    c.loop-facet.invariant
    ∙ ap (map (λ f. cell_over f c.args.p)) (take_all c.loop-facet.facet-index c.args.facets.now c.loop-facet-test.false)
