-- Edits that share a point.
use Rattle.std.specs.Prelude.{◌≡◌, true}
use Rattle.std.proofs.Common.{refl, inl, sym, subst}
use Rattle.list_laws.proofs.Cited.{among_true, any_true}
use Rattle.point_order.specs.Sets.{IsIn, is_among}
use Rattle.edit_history.specs.declared.history.Edit.{Edit}
use Rattle.edit_history.specs.declared.history.Edit.TheVariants.{Add, Take, Move}
use Rattle.edit_history.specs.Edits.{edit_points, point_of, share_point}

-- the point of an edit is one of its points
own_point : (d : Edit) → IsIn (point_of d) (edit_points d)
own_point (Add p) = inl refl
own_point (Take p) = inl refl
own_point (Move a b) = inl refl

-- edits of one point share it
pub same_shares : (d e : Edit) → point_of d ≡ point_of e → share_point d e ≡ true
same_shares d e same =
    any_true (λ p. is_among p (edit_points e)) (edit_points d) (point_of d) (own_point d)
    (among_true (point_of d) (edit_points e) (subst (λ p. IsIn p (edit_points e)) (sym same) (own_point e)))
