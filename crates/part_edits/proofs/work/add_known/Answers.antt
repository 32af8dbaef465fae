use Rattle.std.proofs.Common.{◌∙◌, ap, sym, subst}
use Rattle.std.proofs.lemmas.Bool.{MatchBool-at_true}
use Rattle.point_order.specs.Sets.{IsAscending, without_point}
use Rattle.point_order.proofs.Cited.{ascending_with}
use Rattle.point_history.proofs.Cited.{key_put}
use Rattle.part_edits.proofs.Changed.{made_inserted, part_lacking}
use Rattle.part_edits.proofs.Keys.{out_again}
use Rattle.part_edits.proofs.work.add_known.Goals as goal

pub add_here-requires : goal.add_here-requires
add_here-requires c =
    part_lacking c.args.known.now.keys c.args.p c.args.linked.now.cells c.requires.part c.key.ensures.bound
    (sym c.has.ensures ∙ c.if-has.false)

pub returns-then-could-clause-made : goal.returns-then-could-clause-made
returns-then-could-clause-made c =
    made_inserted c.args.known.now.keys c.args.p c.args.linked.now.cells c.add_here.new.linked.cells c.key.ensures.bound
    (sym c.has.ensures ∙ c.if-has.false) (MatchBool-at_true _ _ c.if-could.true c.in-Ok-add_here.ensures.added)

pub returns-then-could-clause-known : goal.returns-then-could-clause-known
returns-then-could-clause-known c = c.in-Ok.ensures.keys ∙ key_put c.args.p c.args.known.now.keys

pub remove_from-requires : goal.remove_from-requires
remove_from-requires c =
    let s = c.args.known.now.keys in
    subst IsAscending (sym (c.in-Ok.ensures.keys ∙ key_put c.args.p s)) (ascending_with c.args.p s c.requires.ascending)

pub remove_from-requires-in-Err-add_here : goal.remove_from-requires-in-Err-add_here
remove_from-requires-in-Err-add_here c =
    let s = c.args.known.now.keys in
    subst IsAscending (sym (c.in-Ok.ensures.keys ∙ key_put c.args.p s)) (ascending_with c.args.p s c.requires.ascending)

pub returns-else-could-clause-known : goal.returns-else-could-clause-known
returns-else-could-clause-known c =
    let s = c.args.known.now.keys in
    c.remove_from.ensures ∙ ap (without_point c.args.p) (c.in-Ok.ensures.keys ∙ key_put c.args.p s)
    ∙ out_again c.args.p s c.requires.ascending (sym c.has.ensures ∙ c.if-has.false)

pub returns-in-Err-add_here-clause-known : goal.returns-in-Err-add_here-clause-known
returns-in-Err-add_here-clause-known c =
    let s = c.args.known.now.keys in
    c.remove_from-in-Err-add_here.ensures ∙ ap (without_point c.args.p) (c.in-Ok.ensures.keys ∙ key_put c.args.p s)
    ∙ out_again c.args.p s c.requires.ascending (sym c.has.ensures ∙ c.if-has.false)
