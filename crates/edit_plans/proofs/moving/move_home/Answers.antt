use Rattle.std.proofs.Common.{sym, ◌∙◌, ap, subst, ℕ, IsSome}
use Rattle.list_laws.proofs.Cited.{among_from, not_among}
use Rattle.edit_history.proofs.Cited.{ok_then}
use Rattle.cell_store.specs.Buckets.{bucket_at}
use Rattle.bucket_grid.specs.Grids.{bucket_of}
use Rattle.edit_plans.proofs.Moved.{plan_away, plan_occupied}
use Rattle.edit_plans.proofs.moving.move_home.Goals as goal

pub returns-then-not-holds_point : goal.returns-then-not-holds_point
returns-then-not-holds_point c s sh u =
    plan_away c.args.hold.now s c.args.a c.args.b c.no_change.result c.no_change.ensures c.key.ensures.bound
    c.key-2.ensures.bound c.requires.home
    (subst (λ (n : ℕ). IsSome (bucket_at c.args.hold.now.places n))
    (c.bucket_of-goal.ensures.number ∙ ap (λ (g : ℕ). bucket_of g c.args.b) c.grid.ensures.grid)
    (sym c.has.ensures ∙ c.if-not-has.false))
    (sym (c.holds_point.ensures.in_set s sh) ∙ c.if-not-holds_point.true)

pub returns-then-holds_point : goal.returns-then-holds_point
returns-then-holds_point c s sh u =
    plan_occupied c.args.hold.now s c.args.a c.args.b c.no_change-then-holds_point.result
    c.no_change-then-holds_point.ensures c.key.ensures.bound c.key-2.ensures.bound c.requires.home
    (subst (λ (n : ℕ). IsSome (bucket_at c.args.hold.now.places n))
    (c.bucket_of-goal.ensures.number ∙ ap (λ (g : ℕ). bucket_of g c.args.b) c.grid.ensures.grid)
    (sym c.has.ensures ∙ c.if-not-has.false))
    (sym (c.holds_point.ensures.in_set s sh) ∙ c.if-not-holds_point.false)
    (sym (c.holds_point-2.ensures.in_set s sh) ∙ c.if-holds_point.true)

-- the new place is free, and its bucket in hand
pub land_on-requires : goal.land_on-requires
land_on-requires c =
    let s = c.requires.shown.0 in
    let sh = c.requires.shown.1 in (
      s,
      sh,
      (
        c.requires.home,
        (subst (λ (n : ℕ). IsSome (bucket_at c.args.hold.now.places n))
            (c.bucket_of-goal.ensures.number ∙ ap (λ (g : ℕ). bucket_of g c.args.b) c.grid.ensures.grid)
            (sym c.has.ensures ∙ c.if-not-has.false)),
        (among_from c.args.a s (sym (c.holds_point.ensures.in_set s sh) ∙ c.if-not-holds_point.false)),
        (c.begin.ensures c.args.hold.now s c.args.b (record {
          key = c.key-2.ensures.bound;
          absent = not_among s c.args.b (sym (c.holds_point-2.ensures.in_set s sh) ∙ c.if-holds_point.false);
        })),
      ),
    )

-- a look from the start of a move: its point is missing, its new place taken, or the new place has landed
pub returns : goal.returns
returns c =
    ok_then _ _ c.land_on.result (λ look k s sh u. k s sh (
      c.requires.home,
      (subst (λ (n : ℕ). IsSome (bucket_at c.args.hold.now.places n))
          (c.bucket_of-goal.ensures.number ∙ ap (λ (g : ℕ). bucket_of g c.args.b) c.grid.ensures.grid)
          (sym c.has.ensures ∙ c.if-not-has.false)),
      (among_from c.args.a s (sym (c.holds_point.ensures.in_set s sh) ∙ c.if-not-holds_point.false)),
      (c.begin.ensures c.args.hold.now s c.args.b (record {
        key = c.key-2.ensures.bound;
        absent = not_among s c.args.b (sym (c.holds_point-2.ensures.in_set s sh) ∙ c.if-holds_point.false);
      })),
    ))
    c.land_on.ensures
