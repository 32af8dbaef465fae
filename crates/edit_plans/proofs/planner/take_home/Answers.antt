use Rattle.std.proofs.Common.{sym, ◌∙◌}
use Rattle.edit_history.proofs.Cited.{ok_then}
use Rattle.list_laws.proofs.Cited.{among_from}
use Rattle.edit_plans.proofs.Planned.{plan_missing}
use Rattle.edit_plans.proofs.planner.take_home.Goals as goal

pub go_on-requires : goal.go_on-requires
go_on-requires c =
    let s = c.requires.shown.0 in
    let sh = c.requires.shown.1 in
    (s, sh, (c.requires.home, among_from c.args.p s (sym (c.holds_point.ensures.in_set s sh) ∙ c.if-holds_point.true)))

pub returns-then-holds_point : goal.returns-then-holds_point
returns-then-holds_point c =
    ok_then _ _ c.go_on.result (λ turn k s sh u. k s sh (
      c.requires.home,
      among_from c.args.p s (sym (c.holds_point.ensures.in_set s sh) ∙ c.if-holds_point.true),
    ))
    c.go_on.ensures

pub returns : goal.returns
returns c s sh k =
    plan_missing c.args.hold.now s c.args.p c.no_change.result c.no_change.ensures c.key.ensures.bound c.requires.home
    (sym (c.holds_point.ensures.in_set s sh) ∙ c.if-holds_point.false)
