use Rattle.std.proofs.Common.{◌<◌, length, subst, sym, List, ℕ}
use Rattle.std.proofs.lemmas.List.{length-map}
use Rattle.list_laws.proofs.Cited.{at_place}
use Rattle.cell_lists.specs.Rows.{corners_of}
use Rattle.cell_lists.proofs.list.QuadList.at.Goals as goal

pub quad_in-requires : goal.quad_in-requires
quad_in-requires c =
    let rows = c.self.inside.rows.items in
    let row = c.index.result.now in
    let within : c.args.place < length rows =
    subst (λ (n : ℕ). c.args.place < n) (length-map rows (corners_of c.self.inside.points.items))
    (subst (λ (l : List (List ℕ)). c.args.place < length l) (sym c.self.view_is) c.requires) in
    rw c.deref.ensures.value (c.self.invariant row (at_place rows c.args.place row row within c.index.ensures))
