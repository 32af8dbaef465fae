use Rattle.std.proofs.Common.{◌∙◌, List, [], ℕ, refl, sym}
use Rattle.std.specs.Prelude.{map, codes}
use Rattle.std.specs.List.{concat}
use Rattle.std.proofs.lemmas.List.{length-map}
use Rattle.text_sheets.proofs.Cited.{below_end, ends, goes_on, own_item, past_end, starts}
use Rattle.alpha_steps.specs.declared.threshold.Threshold.{Threshold}
use Rattle.alpha_steps.specs.declared.threshold.Threshold.TheVariants.{Never}
use Rattle.alpha_steps.specs.Text.{step_line}
use Rattle.alpha_steps.proofs.texts.put_pairs.Goals as goal

pub loop-index-init : goal.loop-index-init
loop-index-init g c =
    let list = c.args.list.now in
    starts (codes "edges") (map (step_line c.args.indices.now) list.pairs) c.pair_count.result
    (c.pair_count.ensures ∙ sym (length-map list.pairs (step_line c.args.indices.now))) c.put_title.ensures

pub put_pair-requires : goal.put_pair-requires
put_pair-requires g c = below_end _ _ _ c.loop-index-test.true
    c.pair_count-index-end.ensures

pub loop-index-preserved : goal.loop-index-preserved
loop-index-preserved g c =
    let list = c.args.list.now in
    let within = below_end _ _ _ c.loop-index-test.true c.pair_count-index-end.ensures in
    goes_on (λ (xs : List (List ℕ × Threshold)). concat (map (step_line c.args.indices.now) xs))
    (step_line c.args.indices.now)
    (λ x xs. refl) list.pairs c.loop-index.index
    _ within (own_item ([], Never) list.pairs c.loop-index.index within) c.loop-index.invariant
    c.put_pair.ensures

pub returns : goal.returns
returns g c =
    let list = c.args.list.now in
    ends (λ (xs : List (List ℕ × Threshold)). concat (map (step_line c.args.indices.now) xs)) refl list.pairs
    c.loop-index.index
    (past_end _ _ _ c.loop-index-test.false c.pair_count-index-end.ensures) c.loop-index.invariant
