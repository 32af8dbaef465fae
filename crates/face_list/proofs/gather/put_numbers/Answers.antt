use Rattle.std.proofs.Common.{sym, ◌∙◌}
use Rattle.face_list.proofs.Failing.{no_value, not_ok}
use Rattle.face_list.proofs.Putting.{put_all, put_own, put_passed}
use Rattle.face_list.proofs.gather.put_numbers.Goals as goal

pub returns-in-Greater-clause-numbers : goal.returns-in-Greater-clause-numbers
returns-in-Greater-clause-numbers g c =
    put_all g.K.Ord.cmp g.met.K.Ord.total _ _ _ _ c.args.key _ _ c.in-Some.ensures.cases.0 c.loop-first.invariant
    (sym c.cmp.ensures ∙ c.in-Greater.is)

pub loop-first-preserved-in-Less : goal.loop-first-preserved-in-Less
loop-first-preserved-in-Less g c =
    put_passed g.K.Ord.cmp g.met.K.Ord.total _ _ _ _ c.args.key _ _ c.in-Some.ensures.cases.0 c.loop-first.invariant
    (sym c.cmp.ensures ∙ c.in-Less.is)

pub loop-first-preserved : goal.loop-first-preserved
loop-first-preserved g c =
    put_own g.K.Ord.cmp g.met.K.Ord.total _ _ _ _ c.args.key _ _ c.in-Some.ensures.cases.0 c.loop-first.invariant _
    c.in_ok-push-in-Equal.ensures.items (sym c.cmp.ensures ∙ c.in-Equal.is)

pub returns-in_err-push-in-Equal : goal.returns-in_err-push-in-Equal
returns-in_err-push-in-Equal g c =
    let r = c.from_residual.result in
    let f = c.from_residual.ensures.0 in
    record { numbers = not_ok _ r f; order = no_value _ r f; later = no_value _ r f }
