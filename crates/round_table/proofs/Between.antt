-- What holds of a table between any two steps.
use Rattle.std.proofs.Common.{refl, ◌∙◌, ap, eq-eqb}
use Rattle.round_table.specs.Counts.{one, is_taken, is_by}
use Rattle.round_table.specs.Laws.{NoneClaimed, OneOwner}

module _ {T : Type 0} where
  pub none_claimed : NoneClaimed T
  none_claimed k s r z = record { home = λ b l. r.home b l (z b); none = λ b. r.once b ∙ ap is_taken (z b) }

  pub one_owner : OneOwner T
  one_owner k s b m r e = (
    r.once b ∙ ap is_taken e,
    r.whose m b ∙ ap (is_by m) e ∙ ap one (eq-eqb m m refl),
  )
