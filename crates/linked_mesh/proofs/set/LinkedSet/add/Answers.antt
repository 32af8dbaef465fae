use Rattle.std.proofs.Common.{◌∙◌, ap, sym}
use Rattle.list_laws.proofs.Cited.{on_err}
use Rattle.point_order.specs.Sets.{is_among, with_point}
use Rattle.edit_history.proofs.Cited.{duplicate, inserts}
use Rattle.linked_mesh.proofs.Replied.{added_new, added_there}
use Rattle.linked_mesh.proofs.set.LinkedSet.add.Goals as goal

pub returns-then-has-clause-reply : goal.returns-then-has-clause-reply
returns-then-has-clause-reply c =
    sym (duplicate c.args.self.now c.args.p
    (ap (is_among c.args.p) (sym c.self.view_is) ∙ sym c.has.ensures ∙ c.if-has.true))

pub returns-then-has-clause-set : goal.returns-then-has-clause-set
returns-then-has-clause-set c =
    added_there c.args.self.now c.args.p
    (ap (is_among c.args.p) (sym c.self.view_is) ∙ sym c.has.ensures ∙ c.if-has.true)

pub put_in-requires-clause-absent : goal.put_in-requires-clause-absent
put_in-requires-clause-absent c = sym c.has.ensures ∙ c.if-has.false

pub returns-clause-reply : goal.returns-clause-reply
returns-clause-reply c =
    sym (inserts c.args.self.now c.args.p
    (ap (is_among c.args.p) (sym c.self.view_is) ∙ sym c.has.ensures ∙ c.if-has.false))

pub returns-clause-set : goal.returns-clause-set
returns-clause-set c =
    c.in_ok-put_in.ensures.points ∙ ap (with_point c.args.p) c.self.view_is
    ∙ added_new c.args.self.now c.args.p
    (ap (is_among c.args.p) (sym c.self.view_is) ∙ sym c.has.ensures ∙ c.if-has.false)

pub returns-in_err-put_in-clause-refused : goal.returns-in_err-put_in-clause-refused
returns-in_err-put_in-clause-refused c =
    on_err c.from_residual.result (c.in_err-put_in.ensures.refused ∙ c.self.view_is)
