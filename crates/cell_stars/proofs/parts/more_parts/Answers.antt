use Rattle.std.proofs.Common.{subst, sym, ◌∙◌}
use Rattle.cell_stars.specs.Moves.{AreKeysOf, HaveOneKey}
use Rattle.cell_stars.proofs.KeyLaws.{Keys}
use Rattle.cell_stars.proofs.PartLaws.{filed_anew, filed_once}
use Rattle.cell_stars.proofs.parts.more_parts.Goals as goal

pub filed_keys-requires-clause-once : goal.filed_keys-requires-clause-once
filed_keys-requires-clause-once c = subst HaveOneKey (sym (c.deref.ensures.value ∙ c.in_ok-keys.ensures))
    (filed_once c.args.parts.now c.requires.filed)

pub returns-clause-same : goal.returns-clause-same
returns-clause-same c =
    let new = c.in_ok-filed_keys.field-0.items in
    filed_anew c.args.parts.now new c.requires.filed (subst (λ (l : Keys). AreKeysOf l new)
    (c.deref.ensures.value ∙ c.in_ok-keys.ensures) c.in_ok-filed_keys.ensures.keys)
