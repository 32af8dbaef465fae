use Rattle.std.proofs.Common.{◌∙◌, ap, arith, length, subst, sym, List}
use Rattle.std.proofs.lemmas.List.{length-map}
use Rattle.std.proofs.lemmas.List.Sorted.{length_permutation}
use Rattle.plain_laws.specs.Running.{Pair}
use Rattle.edit_lists.specs.declared.lists.List as lists
use Rattle.edit_lists.specs.Dealing.{pairs_in}
use Rattle.edit_workers.specs.Running.{AreApplied, AreByTag}
use Rattle.edit_workers.proofs.Unworked.{run_by_tags, run_of_one_list}
use Rattle.edit_workers.proofs.running.run_alone.Goals as goal

pub returns-then-lists-eq1-clause-run : goal.returns-then-lists-eq1-clause-run
returns-then-lists-eq1-clause-run c =
    let count = length-map c.args.lists.now (λ (l : lists.List). l.pairs.items) in
    run_of_one_list (pairs_in c.args.lists.now) c.args.mesh.now.history c.apply_lists.new.mesh.history
    (count ∙ c.if-lists-eq1.true) c.requires.lists c.in_ok-apply_lists.ensures.applied

pub apply_all-requires : goal.apply_all-requires
apply_all-requires c =
    let sorted = length_permutation c.in_ok-all.all.pairs.items c.sort_by_tag.new.left.pairs.items
    c.sort_by_tag.ensures.same in
    let m = c.requires.room in
    record { room = omega (arith, m, sorted, ap length c.in_ok-all.ensures, ap length c.deref.ensures.value) }

pub returns-clause-run : goal.returns-clause-run
returns-clause-run c =
    let count = length-map c.args.lists.now (λ (l : lists.List). l.pairs.items) in
    let many = c.if-lists-eq1.false in
    let old = c.args.mesh.now.history in
    let new = c.apply_all.new.mesh.history in
    let sorted = c.sort_by_tag.new.left.pairs.items in
    run_by_tags (pairs_in c.args.lists.now) sorted old new (λ e. many (sym count ∙ e)) c.requires.lists
    (subst (λ (l : List Pair). AreByTag l sorted) c.in_ok-all.ensures c.sort_by_tag.ensures)
    (subst (λ (l : List Pair). AreApplied l old new) c.deref.ensures.value c.in_ok-apply_all.ensures.applied)
    c.count.ensures.sound.legal
