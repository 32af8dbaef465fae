use Rattle.std.proofs.Common.{◌∙◌, ap, sym, subst}
use Rattle.point_order.specs.Sets.{IsIn}
use Rattle.cell_stars.specs.Places.{named}
use Rattle.cell_stars.proofs.Least.{named_has, has_named}
use Rattle.cell_stars.proofs.cells.Cells.cells_around.Goals as goal

pub returns : goal.returns
returns c d =
    let b = c.args.self.now in
    let star = c.star_of.result.now in
    let same = c.deref.ensures.value ∙ ap (λ v. v.slots) c.self.view_is in (
      λ m. named_has b c.args.p star c.star_of.ensures.stars c.star_of.ensures.places d
          (subst (λ l. IsIn d (named l star)) same m),
      λ m. subst (λ l. IsIn d (named l star)) (sym same)
          (has_named b c.args.p star c.star_of.ensures.stars c.star_of.ensures.places c.requires d m),
    )
