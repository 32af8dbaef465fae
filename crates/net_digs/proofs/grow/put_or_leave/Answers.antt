use Rattle.std.proofs.Common.{append-nil, subst, sym, ◌∙◌, ◌∷◌, [], ℕ, List, Option}
use Rattle.std.proofs.lemmas.Bool.{MatchBool-at_false, MatchBool-at_true}
use Rattle.point_order.specs.declared.cell.Cell.{Cell}
use Rattle.cell_slots.specs.Nets.{AreMoved, cells_of_slots}
use Rattle.cell_slots.specs.Parts.{Grow}
use Rattle.cell_slots.proofs.Cited.{moved_none, put_each, put_none}
use Rattle.net_digs.proofs.grow.put_or_leave.Goals as goal

pub insert-requires : goal.insert-requires
insert-requires c = rw c.point.ensures c.requires

pub returns-then-is_put-clause-put : goal.returns-then-is_put-clause-put
returns-then-is_put-clause-put c =
    let old = cells_of_slots c.args.net.now in
    let new = cells_of_slots c.insert.new.net in (
      [],
      sym (append-nil c.args.left.now.items),
      put_each (c.args.turn.now ∷ []) old new (subst (λ (p : ℕ). Grow (p ∷ []) old new) c.point.ensures
          (MatchBool-at_true _ _ c.if-is_put.true c.in_ok-is_put.ensures)),
    )

pub returns-clause-put : goal.returns-clause-put
returns-clause-put c =
    let old = cells_of_slots c.args.net.now in
    let new = cells_of_slots c.insert.new.net in (
      c.args.turn.now ∷ [],
      rw c.tried.ensures at c.in_ok-push.ensures.items,
      put_none (c.args.turn.now ∷ []) old new
          (subst (λ (n : List (Option Cell)). AreMoved old (cells_of_slots n))
          (sym (MatchBool-at_false _ _ c.if-is_put.false c.in_ok-is_put.ensures).1) (moved_none old)),
    )

-- of the whole none is left
pub returns-clause-all : goal.returns-clause-all
returns-clause-all c e =
    let p = (MatchBool-at_false _ _ c.if-is_put.false c.in_ok-is_put.ensures).0 in absurd (cc (sym e ∙ p))
