use Rattle.std.proofs.Common.{refl, subst, sym, ap, arith, [], ◌∙◌, ℕ, ◌<◌, ◌≤◌, ◌*◌}
use Rattle.std.specs.List.{flat_map}
use Rattle.cell_store.specs.Buckets.{content_of}
use Rattle.cell_store.specs.Gathered.{HasHome}
use Rattle.cell_store.proofs.Gathering.{gathered_list, gathered_none, gathered_past, left_here, left_next, list_all}
use Rattle.cell_store.proofs.Gathering.{list_next}
use Rattle.cell_store.proofs.MeshLaws.{entries_of}
use Rattle.cell_store.proofs.hold.Hold.into_lists.Goals as goal

pub loop-b-init : goal.loop-b-init
loop-b-init c = (
  c.in_ok-log.ensures.items,
  gathered_none c.args.self _ (ap (flat_map (λ list. list.items)) c.in_ok-lists.ensures.items),
  λ b h. refl,
)

pub take-bucket-requires : goal.take-bucket-requires
take-bucket-requires c = left_here c.args.self c.loop-b.self c.loop-b.b c.requires c.loop-b.invariant.2
    (subst (λ (n : ℕ). c.loop-b.b < n) (c.count-b-end.ensures.value ∙ ap (λ (v : ℕ). v * v * v) c.grid-grid.ensures.grid
    ∙ sym c.grid-grid.ensures.places) c.loop-b-test.true)

pub loop-b-preserved : goal.loop-b-preserved
loop-b-preserved c =
    let b = content_of c.take-bucket.result in
    let h = subst (λ (n : ℕ). c.loop-b.b < n) (c.count-b-end.ensures.value
    ∙ ap (λ (v : ℕ). v * v * v) c.grid-grid.ensures.grid ∙ sym c.grid-grid.ensures.places) c.loop-b-test.true in
    let left = c.loop-b.invariant.2 in
    let here = sym (left c.loop-b.b (omega arith)) ∙ c.take-bucket.ensures.bucket in (
      list_next entries_of c.args.self.places c.loop-b.b b c.loop-b.log.items c.entries.result.now
          c.extend_from_slice.new.self.items h here c.loop-b.invariant.0 c.entries.ensures
          c.in_ok-extend_from_slice.ensures.items,
      gathered_list c.args.self c.loop-b.b b c.loop-b.lists.items c.push.new.self.items c.in_ok-list.list h here
          (subst (λ (g : ℕ). HasHome g c.loop-b.b b.cells [] c.in_ok-list.list.items) c.grid-grid.ensures.grid
          c.in_ok-list.ensures) c.in_ok-push.ensures.items c.loop-b.invariant.1,
      left_next c.args.self c.loop-b.self c.take-bucket.new.self c.loop-b.b c.take-bucket.ensures.after left,
    )

pub returns-clause-entries : goal.returns-clause-entries
returns-clause-entries c =
    list_all entries_of c.args.self.places c.loop-b.b c.loop-b.log.items
    (subst (λ (n : ℕ). n ≤ c.loop-b.b) (c.count-b-end.ensures.value ∙ ap (λ (v : ℕ). v * v * v) c.grid-grid.ensures.grid
    ∙ sym c.grid-grid.ensures.places) c.loop-b-test.false) c.loop-b.invariant.0

pub returns-clause-lists : goal.returns-clause-lists
returns-clause-lists c =
    gathered_past c.args.self c.loop-b.b (flat_map (λ list. list.items) c.loop-b.lists.items)
    (subst (λ (n : ℕ). n ≤ c.loop-b.b) (c.count-b-end.ensures.value ∙ ap (λ (v : ℕ). v * v * v) c.grid-grid.ensures.grid
    ∙ sym c.grid-grid.ensures.places) c.loop-b-test.false) c.loop-b.invariant.1

pub returns-clause-whole : goal.returns-clause-whole
returns-clause-whole c = record {
  has = record { size = c.grid-grid.ensures.size; places = c.grid-grid.ensures.places };
  all = c.requires;
}
