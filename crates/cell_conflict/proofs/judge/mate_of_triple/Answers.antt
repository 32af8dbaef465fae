use Rattle.std.specs.Prelude.{not, List}
use Rattle.std.specs.List.{find}
use Rattle.std.proofs.Common.{sym, subst, ◌≡◌, ◌∙◌, ap, ℕ, None, Some, Option}
use Rattle.point_order.specs.declared.cell.Cell.{Cell}
use Rattle.point_order.specs.declared.cell.Cell.TheVariants.{Open}
use Rattle.point_order.specs.declared.cell.Facet.TheVariants.{Three}
use Rattle.point_order.specs.Complex.{complex}
use Rattle.point_order.specs.Facets.{points_of}
use Rattle.point_order.specs.Sets.{IsIn, is_among}
use Rattle.cell_store.specs.Shares.{IsAcross}
use Rattle.cell_store.proofs.Cited.{solid_set}
use Rattle.hole_laws.proofs.Cited.{mate_against, some_against, triple_on}
use Rattle.cell_conflict.proofs.judge.mate_of_triple.Goals as goal

pub spot_across-behind-requires-clause-shown : goal.spot_across-behind-requires-clause-shown
spot_across-behind-requires-clause-shown c = rw c.requires.triple c.requires.shown

pub spot_across-behind-requires-clause-facet : goal.spot_across-behind-requires-clause-facet
spot_across-behind-requires-clause-facet c =
    let r = c.requires.shown in
    rw c.requires.triple (triple_on _ (solid_set c.args.hold.now r.0 r.1).set c.args.tri.now r.2)

-- what a search among the points of a cell found, for equal cells
moved : (o : Option ℕ) (a b x y : Cell) → a ≡ x → b ≡ y → o ≡ find (λ p. not (is_among p (points_of b))) (points_of a) →
    o ≡ find (λ p. not (is_among p (points_of y))) (points_of x)
moved o a b x y e f h =
    h ∙ ap (λ (q : Cell). find (λ p. not (is_among p (points_of q))) (points_of a)) f
    ∙ ap (λ (q : Cell). find (λ p. not (is_among p (points_of y))) (points_of q)) e

-- what lies across the triple of an equal cell
across : (s : List ℕ) (c : Cell) (t : List ℕ) (other : Cell) → c ≡ Open t →
    (IsIn c (complex s) → IsAcross s c (Three t) other) → IsIn (Open t) (complex s) →
    IsAcross s (Open t) (Three t) other
across s c t other e h m =
    subst (λ (q : Cell). IsAcross s q (Three t) other) e (h (subst (λ (q : Cell). IsIn q (complex s)) (sym e) m))

pub unreachable-requires : goal.unreachable-requires
unreachable-requires c =
    let r = c.requires.shown in
    some_against _ (solid_set c.args.hold.now r.0 r.1).set c.args.tri.now c.spot_across-behind.result r.2
    (across r.0 c.args.spot.now c.args.tri.now c.spot_across-behind.result c.requires.triple
    (c.spot_across-behind.ensures r.0 r.1) r.2)
    (moved None c.cell.result.now c.cell-2.result.now c.spot_across-behind.result (Open c.args.tri.now) c.cell.ensures
    (c.cell-2.ensures ∙ c.requires.triple) c.in-None.ensures)

pub returns : goal.returns
returns c h st k =
    mate_against _ (solid_set c.args.hold.now h st).set c.args.tri.now c.spot_across-behind.result c.in-Some.mate k
    (across h c.args.spot.now c.args.tri.now c.spot_across-behind.result c.requires.triple
    (c.spot_across-behind.ensures h st) k)
    (moved (Some c.in-Some.mate) c.cell.result.now c.cell-2.result.now c.spot_across-behind.result (Open c.args.tri.now)
    c.cell.ensures (c.cell-2.ensures ∙ c.requires.triple) c.in-Some.ensures)
