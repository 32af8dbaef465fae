use Rattle.std.proofs.Common.{subst, sym, List, ℕ, map}
use Rattle.list_laws.proofs.Cited.{filtered_ascending}
use Rattle.point_order.specs.Sets.{IsIn, IsAscending}
use Rattle.cell_stars.specs.Places.{lies_in}
use Rattle.cell_stars.proofs.cells.Cells.writes.Goals as goal

pub stars_after-requires-clause-inside : goal.stars_after-requires-clause-inside
stars_after-requires-clause-inside c n p m =
    c.requires.touched.inside p (c.in_ok-turns.ensures.numbered.each n p
    (subst (λ (l : List (ℕ × ℕ)). IsIn (n, p) l) c.deref.ensures.value m))

pub stars_after-requires-clause-vertices : goal.stars_after-requires-clause-vertices
stars_after-requires-clause-vertices c =
    subst (λ (l : List (ℕ × ℕ)). IsAscending (map (λ t. t.1) l)) (sym c.deref.ensures.value)
    (subst IsAscending (sym c.in_ok-turns.ensures.vertices)
    (filtered_ascending (lies_in c.args.self.now.place) c.args.vertices.now c.requires.vertices))

pub stars_after-requires-clause-numbers : goal.stars_after-requires-clause-numbers
stars_after-requires-clause-numbers c n p m =
    c.in_ok-turns.ensures.numbered.held n p
    (subst (λ (l : List (ℕ × ℕ)). IsIn (n, p) l) c.deref.ensures.value m)
