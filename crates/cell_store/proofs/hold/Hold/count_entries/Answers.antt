use Rattle.std.proofs.Common.{◌∙◌, ap, sym, subst, length, [], ◌<◌, ◌*◌, ◌≤◌}
use Rattle.std.specs.Option.{option_map_or}
use Rattle.cell_store.proofs.MeshLaws.{count_next, count_is}
use Rattle.cell_store.proofs.hold.Hold.count_entries.Goals as goal

pub loop-b-preserved : goal.loop-b-preserved
loop-b-preserved c =
    let l = c.args.self.now.places in
    let h : c.loop-b.b < length l = subst (λ n. c.loop-b.b < n)
    (c.count-b-end.ensures.value ∙ ap (λ g. g * g * g) c.grid.ensures.grid ∙ sym c.grid.ensures.places)
    c.loop-b-test.true in
    c.saturating_add-count.ensures ∙ count_next l c.loop-b.b c.loop-b.count (length c.entries.result.now) h
    c.loop-b.invariant
    (ap length (c.entries.ensures ∙ sym (ap (λ o. option_map_or (λ c. c.entries) o []) c.bucket.ensures.bucket)))

pub returns-clause-count : goal.returns-clause-count
returns-clause-count c =
    count_is c.args.self.now c.loop-b.b c.loop-b.count
    (subst (λ n. n ≤ c.loop-b.b) (c.count-b-end.ensures.value ∙ ap (λ g. g * g * g) c.grid.ensures.grid
    ∙ sym c.grid.ensures.places) c.loop-b-test.false) c.loop-b.invariant

pub returns-clause-has : goal.returns-clause-has
returns-clause-has c = record { size = c.grid.ensures.size; places = c.grid.ensures.places }
