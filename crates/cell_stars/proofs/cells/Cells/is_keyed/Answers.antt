use Rattle.std.proofs.Common.{subst, ap, ◌∙◌, ℕ, List, ◌≡◌}
use Rattle.point_order.specs.Sets.{IsIn}
use Rattle.cell_stars.specs.Places.{star_at}
use Rattle.cell_stars.proofs.WriteLaws.{held_key}
use Rattle.cell_stars.proofs.cells.Cells.is_keyed.Goals as goal

pub returns-then-has_places : goal.returns-then-has_places
returns-then-has_places c t =
    let b = c.args.self.now in
    let h = rw c.if-has_places.true at c.has_places.ensures in
    let o = rw t at c.is_own.ensures in
    let e : c.deref.result.now ≡ b.stars = c.deref.ensures.value ∙ ap (λ v. v.stars) c.self.view_is in
    record {
      key = held_key b c.args.around.now.0 c.args.n c.requires
          (o.1.0, subst (λ (l : List (ℕ × List ℕ)). IsIn o.1.0 (star_at l c.args.n).1) e o.1.1);
      place = h.0;
      filled = h.1;
    }
