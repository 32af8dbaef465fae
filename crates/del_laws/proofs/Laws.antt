-- The laws of specs/Laws and specs/Walks, from the theorems of the other files.
use Rattle.std.specs.Prelude.{pos, ◌≤ℤ◌, ◌∷◌}
use Rattle.std.proofs.Common.{inl, inr}
use Rattle.list_laws.proofs.Cited.{not_both}
use Rattle.point_order.specs.Orientation.{is_collinear}
use Rattle.point_order.specs.Heights.{lifted}
use Rattle.del_laws.specs.Cells.{point, far, Cell, IsOutside}
use Rattle.del_laws.specs.Laws.{SwapFirst, SwapMiddle, SwapLast, AcrossFull, AcrossOpen, OneFullOnASide, OneOpenOnASide}
use Rattle.del_laws.specs.Laws.{SmallerSet, BetweenSets, NoFlatTriple, AnyMate, FullStays, OpenStays, KeysHaveNoTies}
use Rattle.del_laws.specs.Laws.{KeysAreConvex, TestOfCells}
use Rattle.del_laws.specs.Walks.{CloserAcross, FartherAcross, AwayFromAPoint, SolidHasCells, EveryPoint}
use Rattle.del_laws.specs.Walks.{SomeFacetBehind, CrossingTowards, FewerAreNearer}
use Rattle.del_laws.proofs.CellFacts.{full_against, open_under}
use Rattle.del_laws.proofs.Orders.{cell_12, cell_23, cell_34}
use Rattle.del_laws.proofs.Across.{across_full, across_open}
use Rattle.del_laws.proofs.Sides.{unique, one_open}
use Rattle.del_laws.proofs.Pairs.{same_point}
use Rattle.del_laws.proofs.Planes.{off_plane}
use Rattle.del_laws.proofs.Smaller.{smaller, union}
use Rattle.del_laws.proofs.Conflict.{full_stays, full_kept, open_stays, open_kept, outside_any}
use Rattle.del_laws.proofs.Walks.{nearer, farther, every_point}
use Rattle.del_laws.proofs.Existence.{away, exists_full}
use Rattle.del_laws.proofs.Nearness.{some_behind, cross, fewer_nearer}
use Rattle.del_laws.proofs.Perturbed.{no_ties, is_convex}
use Rattle.del_laws.proofs.Bools.{cell_true, cell_from, line_true}

-- the law SwapFirst
pub swap_first : SwapFirst
swap_first h s w x y z c = cell_12 c

-- the law SwapMiddle
pub swap_middle : SwapMiddle
swap_middle h s w x y z c = cell_23 c

-- the law SwapLast
pub swap_last : SwapLast
swap_last h s w x y z c = cell_34 c

-- the law AcrossFull
pub across_full_law : AcrossFull
across_full_law h s a b c d F = across_full F

-- the law AcrossOpen
pub across_open_law : AcrossOpen
across_open_law h s a b c F = across_open F

-- the law OneFullOnASide
pub one_full_on_a_side : OneFullOnASide
one_full_on_a_side h s a b c d e n F G = same_point d e (unique h s a b c n (point d) (point e) F G)

-- the law OneOpenOnASide
pub one_open_on_a_side : OneOpenOnASide
one_open_on_a_side h s a b x y n F G = one_open n F G

-- the law SmallerSet
pub smaller_set : SmallerSet
smaller_set h t s u i w x y z c mw mx my mz =
    record { held = smaller h t s u i w x y z c.held (record { first = mw; second = mx; third = my; fourth = mz }) }

-- the law BetweenSets
pub between_sets : BetweenSets
between_sets h r s t u i rs rt su g w x y z c d = record { held = union h r s t u i rs rt su g w x y z c.held d.held }

-- the law NoFlatTriple
pub no_flat_triple : NoFlatTriple
no_flat_triple s a b c i e = off_plane s a b c i (λ l. not_both (is_collinear a b c) (line_true a b c l) e)

-- the law AnyMate
pub any_mate : AnyMate
any_mate h a b c m k p lm lk t = outside_any h a b c m k p lm lk t

-- the law FullStays
pub full_stays_law : FullStays
full_stays_law h s a b c d p F = (to, λ k. record { held = inl (full_stays F k) })
  where
    -- in the order of F, since the orientation tells it
    to : Cell h (p ∷ s) (point a) (point b) (point c) (point d) → pos 0 ≤ℤ lifted h a b c d p
    to C = elim C.held [ inl G ↦ full_kept G | inr G ↦ absurd (full_against F G) ]

-- the law OpenStays
pub open_stays_law : OpenStays
open_stays_law h s a b c m p F mm l = (to, λ k. record { held = inr (open_stays F m l k) })
  where
    -- in the order of F, since the mate tells it
    to : Cell h (p ∷ s) (point a) (point b) (point c) far → IsOutside h a b c m p
    to C = elim C.held [ inl G ↦ absurd (open_under _ (inr mm) l G) | inr G ↦ open_kept G mm l ]

-- the law KeysHaveNoTies
pub keys_have_no_ties : KeysHaveNoTies
keys_have_no_ties s k = no_ties s k

-- the law KeysAreConvex
pub keys_are_convex : KeysAreConvex
keys_are_convex s k = is_convex s k

-- the law TestOfCells
pub test_of_cells : TestOfCells
test_of_cells s k w x y z = (λ e. record { held = cell_from s w x y z e }, λ c. cell_true s k w x y z c.held)

-- the law CloserAcross
pub closer_across : CloserAcross
closer_across h s a b c d f e n F G l = nearer n F G e l

-- the law FartherAcross
pub farther_across : FartherAcross
farther_across h s a b c d f e n F G l = farther n F G e l

-- the law AwayFromAPoint
pub away_from_a_point : AwayFromAPoint
away_from_a_point h s p n F = away n F.full p

-- the law SolidHasCells
pub solid_has_cells : SolidHasCells
solid_has_cells h s n i = exists_full n i

-- the law EveryPoint
pub every_point_law : EveryPoint
every_point_law h s e n v i m = every_point n v (exists_full n i).full e m

-- the law SomeFacetBehind
pub some_facet_behind : SomeFacetBehind
some_facet_behind h s a b c d p v F l o = some_behind p v F l o

-- the law CrossingTowards
pub crossing_towards : CrossingTowards
crossing_towards h s a b c d p n F l = cross n F p l

-- the law FewerAreNearer
pub fewer_are_nearer : (X : Type 0) → FewerAreNearer X
fewer_are_nearer X rank x y held l m = fewer_nearer rank x y l held m
