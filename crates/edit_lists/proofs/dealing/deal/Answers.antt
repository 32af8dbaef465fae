use Rattle.std.proofs.Common.{◌≡◌, sym, ◌∙◌, ap, subst, arith, ◌+◌, ◌≤◌, ℕ, length, List, length-append}
use Rattle.std.specs.Prelude.{[], take, map, ◌++◌, ◌∷◌}
use Rattle.std.specs.List.{enumerate_from}
use Rattle.std.proofs.lemmas.List.{length-map, take_all}
use Rattle.std.proofs.lemmas.List.FromFn.{length-enumerate_from}
use Rattle.edit_history.specs.declared.history.Edit.{Edit}
use Rattle.edit_history.specs.declared.history.Edit.TheVariants.{Add}
use Rattle.edit_history.specs.OneThread.{tagged_lines}
use Rattle.plain_laws.specs.Running.{Pair, dealt, other_lines}
use Rattle.edit_history.proofs.Cited.{ok_then}
use Rattle.edit_lists.specs.Dealing.{lists_of, segments_of}
use Rattle.edit_lists.specs.declared.lists.List as lists
use Rattle.edit_lists.specs.declared.cutting.Cutter.{Cutter}
use Rattle.edit_lists.specs.Cutting.{AreCut}
use Rattle.edit_lists.proofs.Cuts.{cut_all}
use Rattle.edit_lists.proofs.Deals.{dealt_count, next_comes, passed_by}
use Rattle.edit_lists.proofs.dealing.deal.Goals as goal
use Rattle.edit_lists.proofs.dealing.deal.Goals.{then-not-contains+in_ok-put, else-not-contains}

lines_count : (points : List ℕ) (edits : List Edit) →
    length (map Add points ++ edits) ≡ length points + length edits
lines_count points edits =
    length-append (map Add points) edits ∙ ap (λ (k : ℕ). k + length edits) (length-map points Add)

all_taken : (points : List ℕ) (edits : List Edit) (n : ℕ) → length points + length edits ≤ n →
    take n (tagged_lines points edits) ≡ tagged_lines points edits
all_taken points edits n l = take_all n (tagged_lines points edits) (
    let a = length-enumerate_from 0 (map Add points ++ edits) in
    let b = lines_count points edits in
    omega (arith, l, a, b)
    )

pub put-requires : goal.put-requires
put-requires c =
    let cut = c.loop-place.invariant in
    let count = sym (length-map c.loop-place.cutter.present.each.items (λ (l : lists.List). l.pairs.items))
    ∙ ap length cut.present_is ∙ dealt_count c.args.workers cut.present in
    record { some = c.requires.workers.0; lists = count }

-- one place more: the line there is one of the four, or it is cut and dealt behind the others
pub loop-place-preserved : goal.loop-place-preserved
loop-place-preserved c =
    let points = c.args.file.now.points.items in
    let edits = c.args.file.now.edits.items in
    let lines = map Add points ++ edits in
    let four = c.args.four in
    let tag = c.loop-place.place-counter in
    elim c.if-not-contains.branch [
      | then-not-contains+in_ok-put w ↦
          subst (λ (k : Cutter). AreCut c.args.workers (other_lines four (take (tag + 1) (enumerate_from 0 lines))) k)
          (sym w.cutter-is)
          (subst (λ (l : List Pair). AreCut c.args.workers l w.put.new.self)
          (sym (next_comes four lines tag w.line_at.result w.line_at.ensures
          (sym c.contains.ensures.value ∙ w.if-not-contains.true)))
          (w.in_ok-put.ensures (other_lines four (take tag (enumerate_from 0 lines))) c.loop-place.invariant))
      | else-not-contains w ↦
          subst (λ (k : Cutter). AreCut c.args.workers (other_lines four (take (tag + 1) (enumerate_from 0 lines))) k)
          (sym w.cutter-is)
          (subst (λ (l : List Pair). AreCut c.args.workers l c.loop-place.cutter)
          (sym (passed_by four lines tag
          (let a = lines_count points edits in let b = c.loop-place-test.true in omega (arith, a, b))
          (sym c.contains.ensures.value ∙ w.if-not-contains.false))) c.loop-place.invariant)
    ]

-- at the end of the lines what was cut and dealt is `dealt`
pub returns : goal.returns
returns c =
    let points = c.args.file.now.points.items in
    let edits = c.args.file.now.edits.items in
    let four = c.args.four in
    let cutter = c.loop-place.cutter in
    let whole = all_taken points edits c.loop-place.place-counter
    (let b = c.loop-place-test.false in omega (arith, b)) in
    let are =
    subst (λ (l : List Pair). AreCut c.args.workers (other_lines four l) cutter) whole c.loop-place.invariant in
    record {
      dealt = ok_then (λ l. segments_of l ≡ map lists_of cutter.finished.items ++ lists_of cutter.present ∷ [])
          (λ l. segments_of l ≡ dealt c.args.workers four (tagged_lines points edits)) c.finish.result
          (λ l e. cut_all c.args.workers (other_lines four (tagged_lines points edits)) cutter (segments_of l) are e)
          c.finish.ensures;
    }
