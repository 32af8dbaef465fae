use Rattle.std.proofs.Common.{ap, sym, subst, ◌∙◌, ℕ, ◌<◌, ◌≤◌, ◌*◌}
use Rattle.cell_store.specs.Buckets.{content_of}
use Rattle.cell_store.proofs.Gathering.{list_all, list_next}
use Rattle.cell_store.proofs.MeshLaws.{entries_of}
use Rattle.cell_store.proofs.hold.Hold.all_entries.Goals as goal

pub loop-b-preserved : goal.loop-b-preserved
loop-b-preserved c =
    list_next entries_of c.args.self.now.places c.loop-b.b (content_of c.bucket.result.now) c.loop-b.list.items
    c.entries.result.now c.extend_from_slice.new.self.items
    (subst (λ (n : ℕ). c.loop-b.b < n) (c.count-b-end.ensures.value ∙ ap (λ (v : ℕ). v * v * v) c.grid.ensures.grid
    ∙ sym c.grid.ensures.places) c.loop-b-test.true)
    c.bucket.ensures.bucket c.loop-b.invariant c.entries.ensures c.in_ok-extend_from_slice.ensures.items

pub returns-clause-list : goal.returns-clause-list
returns-clause-list c =
    list_all entries_of c.args.self.now.places c.loop-b.b c.loop-b.list.items
    (subst (λ (n : ℕ). n ≤ c.loop-b.b) (c.count-b-end.ensures.value ∙ ap (λ (v : ℕ). v * v * v) c.grid.ensures.grid
    ∙ sym c.grid.ensures.places) c.loop-b-test.false) c.loop-b.invariant

pub returns-clause-whole : goal.returns-clause-whole
returns-clause-whole c = record {
  has = record { size = c.grid.ensures.size; places = c.grid.ensures.places };
  all =
      c.requires;
}
