use Rattle.std.proofs.Common.{sym, ◌∙◌}
use Rattle.edit_history.proofs.Cited.{ok_then}
use Rattle.list_laws.proofs.Cited.{not_among}
use Rattle.edit_plans.proofs.Planned.{plan_duplicate}
use Rattle.edit_plans.proofs.planner.add_home.Goals as goal

pub returns-then-holds_point : goal.returns-then-holds_point
returns-then-holds_point c s sh k =
    plan_duplicate c.args.hold.now s c.args.p c.no_change.result c.no_change.ensures c.key.ensures.bound c.requires.home
    (sym (c.holds_point.ensures.in_set s sh) ∙ c.if-holds_point.true)

-- the point is new, and its bucket in hand
pub come_on-requires : goal.come_on-requires
come_on-requires c =
    let s = c.requires.shown.0 in
    let sh = c.requires.shown.1 in (
      s,
      sh,
      (
        c.requires.home,
        c.begin.ensures c.args.hold.now s c.args.p (record {
          key = c.key.ensures.bound;
          absent = not_among s c.args.p (sym (c.holds_point.ensures.in_set s sh) ∙ c.if-holds_point.false);
        }),
      ),
    )

pub returns : goal.returns
returns c =
    ok_then _ _ c.come_on.result (λ turn k s sh u. k s sh (
      c.requires.home,
      c.begin.ensures c.args.hold.now s c.args.p (record {
        key = c.key.ensures.bound;
        absent = not_among s c.args.p (sym (c.holds_point.ensures.in_set s sh) ∙ c.if-holds_point.false);
      }),
    )) c.come_on.ensures
