use Rattle.one_mesh.proofs.lists.into_parts.Goals as goal

pub returns-clause-ascending : goal.returns-clause-ascending
returns-clause-ascending c = c.into_parts.ensures.sound.set.set.ascending

pub returns-clause-solid : goal.returns-clause-solid
returns-clause-solid c = c.into_parts.ensures.sound.set.solid

pub returns-clause-keys : goal.returns-clause-keys
returns-clause-keys c = c.into_parts.ensures.sound.set.set.keys
