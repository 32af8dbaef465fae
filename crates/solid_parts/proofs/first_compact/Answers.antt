use Rattle.std.proofs.Common.{get_or, length, refl, subst, sym}
use Rattle.solid_parts.proofs.Counting.{IsClimbing, apart_at_least, climbs_on, least_count, starts_climbing}
use Rattle.solid_parts.proofs.Few.{found, lent_levels, none_more, not_found}
use Rattle.solid_parts.proofs.Paths.{written_back}
use Rattle.solid_parts.proofs.first_compact.Goals as goal

pub ordered_links-requires : goal.ordered_links-requires
ordered_links-requires c = least_count c.args.faces.now.cells c.args.leasts.now c.requires.own

pub loop-level-init : goal.loop-level-init
loop-level-init c = record {
  none = λ s h n i. absurd i;
  climbing = starts_climbing (length c.args.leasts.now) c.in_ok-links.links.items c.in_ok-leads.leads.items
      c.in_ok-leads.ensures;
}

pub is_compact-requires-clause-start : goal.is_compact-requires-clause-start
is_compact-requires-clause-start c s h l = c.requires.start s h (get_or c.deref-level-items.result.now
    c.loop-level.level-index 0) l

-- there are at least as many parts as were counted
pub is_compact-requires-clause-apart : goal.is_compact-requires-clause-apart
is_compact-requires-clause-apart c s h small compact =
    let climb = c.climb_to-climb in
    let links = c.in_ok-links.links.items in
    let now = climbs_on (length c.args.leasts.now) links c.deref.result.now c.loop-level.climb climb.result
    c.loop-level.leads.items c.deref_mut.result.now
    climb.new.leads c.deref.ensures.value c.deref_mut.ensures.value climb.ensures.within climb.ensures.down
    climb.ensures.climbs climb.auto.leads
    c.loop-level.invariant.climbing in
    apart_at_least s c.args.faces.now c.args.leasts.now links c.deref.result.now climb.result climb.new.leads
    c.in_ok-numbers.numbers.items
    c.deref-in-loop-level.result.now (get_or c.deref-level-items.result.now c.loop-level.level-index 0) c.args.k
    c.count_to.result _ h c.requires.own
    c.in_ok-links.ensures.linked c.deref.ensures.value now climb.ensures.past small compact
    c.deref-in-loop-level.ensures.value
    (c.in_ok-numbers.ensures.same (get_or c.deref-level-items.result.now c.loop-level.level-index 0)) c.count_to.ensures
    c.saturating_sub-apart.ensures

-- at one number more it does not hold
pub loop-level-preserved : goal.loop-level-preserved
loop-level-preserved c =
    let climb = c.climb_to-climb in
    let links = c.in_ok-links.links.items in
    let now = climbs_on (length c.args.leasts.now) links c.deref.result.now c.loop-level.climb climb.result
    c.loop-level.leads.items c.deref_mut.result.now
    climb.new.leads c.deref.ensures.value c.deref_mut.ensures.value climb.ensures.within climb.ensures.down
    climb.ensures.climbs climb.auto.leads
    c.loop-level.invariant.climbing in
    record {
      none = λ s h. none_more s c.args.k c.deref-level-items.result.now c.loop-level.level-index
          c.in_ok-is_compact.field-0 c.loop-level-test.true
          c.if-branch.false (c.in_ok-is_compact.ensures s h) (c.loop-level.invariant.none s h);
      climbing = subst (IsClimbing (length c.args.leasts.now) links climb.result)
          (sym (written_back c.loop-level.leads.len c.loop-level.leads.items c.deref_mut.result.now climb.new.leads
          c.deref_mut.ensures.value
          c.deref_mut.ensures.len climb.auto.leads)) now;
    }

pub returns-then-branch : goal.returns-then-branch
returns-then-branch c s h =
    let leasts = c.args.leasts.now in
    let levels = lent_levels leasts c.in_ok-levels.levels.items leasts c.deref-level-items.result.now refl
    c.deref-level-items.ensures.value c.in_ok-levels.ensures in
    found s leasts c.deref-level-items.result.now c.args.k c.loop-level.level-index _ h.solid (c.requires.told s h)
    levels c.loop-level-test.true refl
    (c.loop-level.invariant.none s h) ((c.in_ok-is_compact.ensures s h).0 c.if-branch.true)

pub returns : goal.returns
returns c s h =
    let leasts = c.args.leasts.now in
    let levels = lent_levels leasts c.in_ok-levels.levels.items leasts c.deref-level-items.result.now refl
    c.deref-level-items.ensures.value c.in_ok-levels.ensures in
    not_found s leasts c.deref-level-items.result.now c.args.k c.loop-level.level-index h.solid (c.requires.told s h)
    levels c.loop-level-test.false
    (c.loop-level.invariant.none s h)
