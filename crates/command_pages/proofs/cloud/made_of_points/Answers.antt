use Rattle.std.proofs.Common.{◌∙◌, [], sym, ap, subst, List, ℕ}
use Rattle.point_order.specs.Complex.{complex}
use Rattle.point_order.specs.Sets.{IsAscending, ascending}
use Rattle.point_order.specs.Solid.{is_solid}
use Rattle.del_laws.specs.Keys.{AreKeys}
use Rattle.edit_history.specs.Histories.{replay}
use Rattle.edit_history.specs.OneThread.{one_thread}
use Rattle.edit_files.specs.Held.{content}
use Rattle.point_history.proofs.Cited.{leaves_points}
use Rattle.command_pages.proofs.Clouds.{kept_by_any}
use Rattle.command_pages.proofs.cloud.made_of_points.Goals as goal

pub parts_of-requires-clause-points : goal.parts_of-requires-clause-points
parts_of-requires-clause-points g c =
    let points = c.args.file.now.points.items in
    let kept = c.in_ok-kept.ensures ∙ ap (λ (p : List ℕ). one_thread p []) c.deref-4.ensures.value in
    let left = ap replay c.deref-5.ensures.value ∙ leaves_points points c.args.four c.in_ok-kept.kept.items
    c.one_thread_is_legal.ensures.replay c.requires.found kept in
    c.in_ok-points.ensures.set ∙ ap ascending c.deref.ensures.value ∙ sym left

pub parts_of-requires-clause-cells : goal.parts_of-requires-clause-cells
parts_of-requires-clause-cells g c =
    c.in_ok-cells.ensures ∙ ap complex (c.deref-3.ensures.value ∙ parts_of-requires-clause-points g c)

pub parts_of-requires-clause-ascending : goal.parts_of-requires-clause-ascending
parts_of-requires-clause-ascending g c = subst IsAscending (parts_of-requires-clause-points g c)
    c.in_ok-points.ensures.ascending

pub parts_of-requires-clause-keys : goal.parts_of-requires-clause-keys
parts_of-requires-clause-keys g c = subst AreKeys
    (c.deref-2.ensures.value ∙ parts_of-requires-clause-points g c) c.read_keys.ensures

pub parts_of-requires-clause-solid : goal.parts_of-requires-clause-solid
parts_of-requires-clause-solid g c =
    let points = c.args.file.now.points.items in
    let kept = c.in_ok-kept.ensures ∙ ap (λ (p : List ℕ). one_thread p []) c.deref-4.ensures.value in
    let left = ap replay c.deref-5.ensures.value ∙ leaves_points points c.args.four c.in_ok-kept.kept.items
    c.one_thread_is_legal.ensures.replay c.requires.found kept in
    ap is_solid left ∙ c.solidity_is_of_the_set.ensures points ∙ c.requires.solid

pub returns-clause-kept : goal.returns-clause-kept
returns-clause-kept g c =
    let kept = c.in_ok-kept.ensures ∙ ap (λ (p : List ℕ). one_thread p []) c.deref-4.ensures.value in
    kept_by_any (content c.args.file.now) c.args.four c.in_ok-kept.kept.items c.one_thread_is_legal.ensures.keeps
    c.requires.found (kept ∙ ap (one_thread c.args.file.now.points.items) (sym c.requires.no_edits))
