use Rattle.std.proofs.Common.{◌≡◌, ◌∙◌, ◌<◌, ◌+◌, List, ℕ, arith, get_or, length, subst, sym}
use Rattle.std.specs.Prelude.{Option, Vec}
use Rattle.std.specs.declared.alloc.Global.{Global}
use Rattle.std.proofs.lemmas.List.{length-map}
use Rattle.solid_parts.specs.declared.part.Part.{Part}
use Rattle.solid_parts.specs.Seen.{parts_seen}
use Rattle.solid_parts.proofs.Gathered.{SoFar, gathered, no_number_told, number_told, passed, put_next, starts_empty}
use Rattle.solid_parts.proofs.gathering.gather.Goals.{in-Some+in_ok-put_cell-in-Some, in-None}
use Rattle.solid_parts.proofs.gathering.gather.Goals as goal

pub loop-index-init : goal.loop-index-init
loop-index-init c =
    subst (λ (v : List Part). SoFar c.args.cells.now c.args.marks.now c.args.labels.now 0 c.in_ok-places.places.items
    (parts_seen v)) (sym c.new-parts.ensures.items)
    (starts_empty c.args.cells.now c.args.marks.now c.args.labels.now c.in_ok-places.places.items
    c.in_ok-places.ensures.count c.in_ok-places.ensures.none)

pub put_cell-requires-clause-label : goal.put_cell-requires-clause-label
put_cell-requires-clause-label c =
    let i = c.loop-index.index in
    subst (λ n. get_or c.args.labels.now i 0 < n) (sym c.loop-index.invariant.size)
    (c.requires.below i (subst (λ n. i < n) (sym c.requires.labels) c.loop-index-test.true))

pub put_cell-requires-clause-place : goal.put_cell-requires-clause-place
put_cell-requires-clause-place c p e =
    subst (λ n. p < n) (length-map c.loop-index.parts.items (λ (v : Part). v.cells.items))
    (c.loop-index.invariant.within (get_or c.args.labels.now c.loop-index.index 0) p e)

-- one cell more was looked at
pub loop-index-preserved : goal.loop-index-preserved
loop-index-preserved c =
    let cells = c.args.cells.now in
    let marks = c.args.marks.now in
    let labels = c.args.labels.now in
    let k = c.loop-index.index in
    let now = λ (p : Vec (Option ℕ) Global) (v : Vec Part Global). SoFar cells marks labels (k + 1) p.items
    (parts_seen v.items) in
    elim c.match-marked_at.branch [
      | in-Some+in_ok-put_cell-in-Some w ↦
          subst (λ (p : Vec (Option ℕ) Global). now p c.match-marked_at.parts) (sym w.places-is)
          (subst (λ (v : Vec Part Global). now w.put_cell.new.places v) (sym w.parts-is)
          (put_next cells marks labels k c.loop-index.places.items _ _ _ w.in-Some.quad c.requires.order
          c.loop-index-test.true (number_told cells marks k w.in-Some.quad (sym c.marked_at.ensures ∙ w.in-Some.is))
          (subst (λ n. get_or labels k 0 < n) (sym c.loop-index.invariant.size)
          (c.requires.below k (subst (λ n. k < n) (sym c.requires.labels) c.loop-index-test.true)))
          c.loop-index.invariant w.in_ok-put_cell-in-Some.ensures))
      | in-None w ↦
          subst (λ (p : Vec (Option ℕ) Global). now p c.match-marked_at.parts) (sym w.places-is)
          (subst (λ (v : Vec Part Global). now c.loop-index.places v) (sym w.parts-is)
          (passed cells marks labels k c.loop-index.places.items _
          (no_number_told cells marks k (sym c.marked_at.ensures ∙ w.in-None.is)) c.loop-index.invariant))
    ]

pub returns : goal.returns
returns c =
    let cells = c.args.cells.now in
    let all : c.loop-index.index ≡ length cells = omega (arith, c.loop-index-test.false, c.loop-index.auto.index-end) in
    gathered cells c.args.marks.now c.args.labels.now c.loop-index.places.items _ c.requires.order
    (subst (λ k. SoFar cells c.args.marks.now c.args.labels.now k c.loop-index.places.items
    (parts_seen c.loop-index.parts.items)) all c.loop-index.invariant)
