use Rattle.std.proofs.Common.{rules, ◌<◌, length}
use Rattle.std.proofs.lemmas.List.Sorted.{All-permutation, IsNonDecreasingBy-from_sort_by_key}
use Rattle.solid_parts.specs.declared.links.Link.{Link}
use Rattle.solid_parts.proofs.Linking.{arranged}
use Rattle.solid_parts.proofs.links.ordered_links.Goals as goal

pub returns-clause-linked : goal.returns-clause-linked
returns-clause-linked c =
    arranged c.args.faces.now c.args.leasts.now (length c.args.faces.now.triples) c.in_ok-links.links.items _
    c.sort_unstable_by_key.ensures.permutation c.in_ok-links.ensures.linked

pub returns-clause-below : goal.returns-clause-below
returns-clause-below c =
    All-permutation (λ (l : Link). (l.one < length c.args.leasts.now) × (l.other < length c.args.leasts.now))
    c.in_ok-links.links.items
    c.sort_unstable_by_key.new.self.items c.sort_unstable_by_key.ensures.permutation c.in_ok-links.ensures.below

pub returns-clause-rise : goal.returns-clause-rise
returns-clause-rise c =
    IsNonDecreasingBy-from_sort_by_key (λ (l : Link). l.alpha) c.sort_unstable_by_key.new.self.items
    c.sort_unstable_by_key.ensures.sorted
    (λ a r q k. search rules)
