use Rattle.std.proofs.Common.{◌≡◌, sym, ◌∙◌, ap, subst, arith, ◌+◌, ◌≤◌, ◌<◌, ℕ, zero, suc, length, List}
use Rattle.std.specs.Prelude.{[], take, ◌++◌, ◌∷◌, slice_index_or}
use Rattle.std.specs.List.{enumerate_from}
use Rattle.std.proofs.lemmas.List.{length-map, take_all}
use Rattle.std.proofs.lemmas.List.FromFn.{length-enumerate_from}
use Rattle.list_laws.proofs.Cited.{take_next}
use Rattle.edit_history.specs.declared.history.Edit.{Edit}
use Rattle.plain_laws.specs.Running.{Pair, edit_lines}
use Rattle.edit_lists.specs.Dealing.{segments_of}
use Rattle.edit_lists.specs.declared.lists.List as lists
use Rattle.edit_lists.specs.Cutting.{AreCut}
use Rattle.edit_lists.proofs.Cuts.{cut_all}
use Rattle.edit_lists.proofs.Deals.{dealt_count}
use Rattle.edit_lists.proofs.dealing.deal_edits.Goals as goal

-- the next line, with its number
numbered_at : (n : ℕ) (edits : List Edit) (k : ℕ) (x : Edit) → k < length edits → x ≡ slice_index_or edits k x →
    (n + k, x) ≡ slice_index_or (enumerate_from n edits) k (n + k, x)
numbered_at n [] k x l e = absurd (omega (arith, l))
numbered_at n (y ∷ edits) zero x l e = (let z : n + 0 ≡ n = omega arith in λ i. (z i, e i))
numbered_at n (y ∷ edits) (suc k) x l e =
    let z : n + suc k ≡ n + 1 + k = omega arith in
    subst (λ (m : ℕ). (m, x) ≡ slice_index_or (enumerate_from (n + 1) edits) k (m, x)) (sym z)
    (numbered_at (n + 1) edits k x (omega (arith, l)) e)

pub put-requires : goal.put-requires
put-requires c =
    let cut = c.loop-place.invariant in
    let count = sym (length-map c.loop-place.cutter.present.each.items (λ (l : lists.List). l.pairs.items))
    ∙ ap length cut.present_is ∙ dealt_count c.args.workers cut.present in
    record { some = c.requires.workers.0; lists = count }

-- it is cut and dealt behind the others
pub loop-place-preserved : goal.loop-place-preserved
loop-place-preserved c =
    let points = c.args.file.now.points.items in
    let edits = c.args.file.now.edits.items in
    let lines = edit_lines points edits in
    let n = c.loop-place.place in
    let x = c.index.result.now in
    let below : n < length edits =
    (let a = c.loop-place-test.true in let b = c.len-place-end.ensures in omega (arith, a, b)) in
    let within : n < length lines = (let a = length-enumerate_from (length points) edits in omega (arith, a, below)) in
    let tag : length points + n ≡ c.len.result + n = (let a = c.len.ensures in omega (arith, a)) in
    let next =
    take_next lines n (length points + n, x) within (numbered_at (length points) edits n x below c.index.ensures)
    ∙ ap (λ (m : ℕ). take n lines ++ (m, x) ∷ []) tag in
    subst (λ (l : List Pair). AreCut c.args.workers l c.put.new.self) (sym next)
    (c.in_ok-put.ensures (take n lines) c.loop-place.invariant)

-- at the end of the lines what was cut and dealt is `dealt_lines`
pub returns : goal.returns
returns c =
    let lines = edit_lines c.args.file.now.points.items c.args.file.now.edits.items in
    let cutter = c.loop-place.cutter in
    let past : length lines ≤ c.loop-place.place = (
    let a = length-enumerate_from (length c.args.file.now.points.items) c.args.file.now.edits.items in
    let b = c.loop-place-test.false in
    let d = c.len-place-end.ensures in
    omega (arith, a, b, d)
    ) in
    let are =
    subst (λ (l : List Pair). AreCut c.args.workers l cutter) (take_all c.loop-place.place lines past)
    c.loop-place.invariant in
    record { dealt = cut_all c.args.workers lines cutter (segments_of c.in_ok-lists.lists) are c.in_ok-lists.ensures }
