use Rattle.std.proofs.Common.{◌≡◌, ◌∙◌, ap, sym, true, false}
use Rattle.list_laws.proofs.Cited.{on_err}
use Rattle.point_order.specs.Sets.{is_among}
use Rattle.point_order.specs.Solid.{is_solid}
use Rattle.edit_history.specs.Edits.{moved_to}
use Rattle.linked_mesh.proofs.Replied.{left_flat, left_missing, left_moved, left_occupied, move_flat, move_made}
use Rattle.linked_mesh.proofs.Replied.{move_missing, move_occupied}
use Rattle.linked_mesh.proofs.set.LinkedSet.shift.Goals as goal

pub returns-then-not-has-clause-reply : goal.returns-then-not-has-clause-reply
returns-then-not-has-clause-reply c =
    let s = c.args.self.now in
    let e : is_among c.args.a s ≡ false = ap (is_among c.args.a) (sym c.self.view_is) ∙ sym c.has.ensures
    ∙ c.if-not-has.true in
    move_missing s c.args.a c.args.b e

pub returns-then-not-has-clause-set : goal.returns-then-not-has-clause-set
returns-then-not-has-clause-set c =
    let s = c.args.self.now in
    let e : is_among c.args.a s ≡ false = ap (is_among c.args.a) (sym c.self.view_is) ∙ sym c.has.ensures
    ∙ c.if-not-has.true in
    left_missing s c.args.a c.args.b e

pub returns-then-has-clause-reply : goal.returns-then-has-clause-reply
returns-then-has-clause-reply c =
    let s = c.args.self.now in
    let e : is_among c.args.a s ≡ true = ap (is_among c.args.a) (sym c.self.view_is) ∙ sym c.has.ensures
    ∙ c.if-not-has.false in
    let f : is_among c.args.b s ≡ true = ap (is_among c.args.b) (sym c.self.view_is) ∙ sym c.has-2.ensures
    ∙ c.if-has.true in
    move_occupied s c.args.a c.args.b e f

pub returns-then-has-clause-set : goal.returns-then-has-clause-set
returns-then-has-clause-set c =
    let s = c.args.self.now in
    let e : is_among c.args.a s ≡ true = ap (is_among c.args.a) (sym c.self.view_is) ∙ sym c.has.ensures
    ∙ c.if-not-has.false in
    let f : is_among c.args.b s ≡ true = ap (is_among c.args.b) (sym c.self.view_is) ∙ sym c.has-2.ensures
    ∙ c.if-has.true in
    left_occupied s c.args.a c.args.b e f

pub move_over-requires-clause-there : goal.move_over-requires-clause-there
move_over-requires-clause-there c = sym c.has.ensures ∙ c.if-not-has.false

pub move_over-requires-clause-free : goal.move_over-requires-clause-free
move_over-requires-clause-free c = sym c.has-2.ensures ∙ c.if-has.false

pub returns-in_err-is_moved-clause-refused : goal.returns-in_err-is_moved-clause-refused
returns-in_err-is_moved-clause-refused c =
    on_err c.from_residual.result (c.in_err-is_moved.ensures.refused ∙ c.self.view_is)

pub returns-then-is_moved-clause-reply : goal.returns-then-is_moved-clause-reply
returns-then-is_moved-clause-reply c =
    let s = c.args.self.now in
    let e : is_among c.args.a s ≡ true = ap (is_among c.args.a) (sym c.self.view_is) ∙ sym c.has.ensures
    ∙ c.if-not-has.false in
    let f : is_among c.args.b s ≡ false = ap (is_among c.args.b) (sym c.self.view_is) ∙ sym c.has-2.ensures
    ∙ c.if-has.false in
    let g : is_solid (moved_to c.args.a c.args.b s) ≡ true = ap (λ k. is_solid (moved_to c.args.a c.args.b k))
    (sym c.self.view_is) ∙ sym c.in_ok-is_moved.ensures.solid ∙ c.if-is_moved.true in
    move_made s c.args.a c.args.b e f g

pub returns-then-is_moved-clause-set : goal.returns-then-is_moved-clause-set
returns-then-is_moved-clause-set c =
    let s = c.args.self.now in
    let e : is_among c.args.a s ≡ true = ap (is_among c.args.a) (sym c.self.view_is) ∙ sym c.has.ensures
    ∙ c.if-not-has.false in
    let f : is_among c.args.b s ≡ false = ap (is_among c.args.b) (sym c.self.view_is) ∙ sym c.has-2.ensures
    ∙ c.if-has.false in
    let g : is_solid (moved_to c.args.a c.args.b s) ≡ true = ap (λ k. is_solid (moved_to c.args.a c.args.b k))
    (sym c.self.view_is) ∙ sym c.in_ok-is_moved.ensures.solid ∙ c.if-is_moved.true in
    let left = rw c.if-is_moved.true at c.in_ok-is_moved.ensures.points in
    left ∙ ap (moved_to c.args.a c.args.b) c.self.view_is ∙ left_moved s c.args.a c.args.b e f g

pub returns-clause-reply : goal.returns-clause-reply
returns-clause-reply c =
    let s = c.args.self.now in
    let e : is_among c.args.a s ≡ true = ap (is_among c.args.a) (sym c.self.view_is) ∙ sym c.has.ensures
    ∙ c.if-not-has.false in
    let f : is_among c.args.b s ≡ false = ap (is_among c.args.b) (sym c.self.view_is) ∙ sym c.has-2.ensures
    ∙ c.if-has.false in
    let g : is_solid (moved_to c.args.a c.args.b s) ≡ false = ap (λ k. is_solid (moved_to c.args.a c.args.b k))
    (sym c.self.view_is) ∙ sym c.in_ok-is_moved.ensures.solid ∙ c.if-is_moved.false in
    move_flat s c.args.a c.args.b e f g

pub returns-clause-set : goal.returns-clause-set
returns-clause-set c =
    let s = c.args.self.now in
    let e : is_among c.args.a s ≡ true = ap (is_among c.args.a) (sym c.self.view_is) ∙ sym c.has.ensures
    ∙ c.if-not-has.false in
    let f : is_among c.args.b s ≡ false = ap (is_among c.args.b) (sym c.self.view_is) ∙ sym c.has-2.ensures
    ∙ c.if-has.false in
    let g : is_solid (moved_to c.args.a c.args.b s) ≡ false = ap (λ k. is_solid (moved_to c.args.a c.args.b k))
    (sym c.self.view_is) ∙ sym c.in_ok-is_moved.ensures.solid ∙ c.if-is_moved.false in
    let left = rw c.if-is_moved.false at c.in_ok-is_moved.ensures.points in
    left ∙ c.self.view_is ∙ left_flat s c.args.a c.args.b e f g
