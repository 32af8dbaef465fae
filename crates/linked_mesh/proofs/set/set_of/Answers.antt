use Rattle.std.proofs.Common.{◌+◌, ◌∙◌, subst, sym, List, ℕ}
use Rattle.std.proofs.lemmas.List.{take_all}
use Rattle.point_history.proofs.Cited.{key_put}
use Rattle.linked_mesh.proofs.Keys.{AreFirst, first_all, first_more, first_none}
use Rattle.linked_mesh.proofs.set.set_of.Goals as goal

pub loop-p-init : goal.loop-p-init
loop-p-init c = subst (λ (k : List ℕ). AreFirst c.args.points.now 0 k) (sym c.new-set.ensures.empty)
    (first_none c.args.points.now)

pub loop-p-preserved : goal.loop-p-preserved
loop-p-preserved c =
    subst (λ (k : List ℕ). AreFirst c.args.points.now (c.loop-p.p-index + 1) k)
    (sym (c.in_ok-insert.ensures.keys ∙ key_put c.p-item.result c.loop-p.set.keys))
    (first_more c.args.points.now c.loop-p.p-index c.loop-p.set.keys c.p-item.result c.loop-p-test.true c.p-item.is
    c.loop-p.invariant)

pub returns : goal.returns
returns c =
    first_all c.args.points.now c.loop-p.p-index c.loop-p.set.keys c.requires
    (take_all c.loop-p.p-index c.args.points.now c.loop-p-test.false) c.loop-p.invariant
