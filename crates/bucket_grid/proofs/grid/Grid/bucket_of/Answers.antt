use Rattle.std.proofs.Common.{◌≡◌, true, subst}
use Rattle.bucket_grid.specs.Grids.{is_grid_size}
use Rattle.bucket_grid.proofs.GridLaws.{bucket_below, bucket_is, only_bucket}
use Rattle.bucket_grid.proofs.grid.Grid.bucket_of.Goals as goal

pub returns-then-self-eq1-clause-number : goal.returns-then-self-eq1-clause-number
returns-then-self-eq1-clause-number c =
    only_bucket c.self.inside.size c.args.self.now c.args.p c.self.invariant c.self.view_is c.if-self-eq1.true

pub returns-then-self-eq1-clause-below : goal.returns-then-self-eq1-clause-below
returns-then-self-eq1-clause-below c =
    bucket_below c.args.self.now c.args.p (subst (λ n. is_grid_size n ≡ true) c.self.view_is c.self.invariant)

pub returns-clause-number : goal.returns-clause-number
returns-clause-number c =
    bucket_is c.self.inside.size c.args.self.now c.args.p c.key.result c.key-2.result c.key-3.result c.self.invariant
    c.self.view_is c.key.ensures.value c.key-2.ensures.value c.key-3.ensures.value

pub returns-clause-below : goal.returns-clause-below
returns-clause-below c =
    bucket_below c.args.self.now c.args.p (subst (λ n. is_grid_size n ≡ true) c.self.view_is c.self.invariant)
