use Rattle.std.proofs.Common.{List, ℕ, [], ◌∙◌, ap, ◌++◌, ◌∷◌}
use Rattle.cell_stars.proofs.AtOnce.{map_all, map_more}
use Rattle.cell_stars.proofs.at_once.bare_stars.Goals as goal

pub loop-p-preserved : goal.loop-p-preserved
loop-p-preserved c =
    let f = λ (p : ℕ). (let s : ℕ × List ℕ = (p, []) in s) in
    map_more f c.args.vertices.now c.loop-p.p-index c.p-item.result c.loop-p.stars.items c.push.new.self.items
    c.loop-p-test.true c.p-item.is
    (c.in_ok-push.ensures.items ∙ ap (λ (v : List ℕ). (let s : ℕ × List ℕ = (c.p-item.result, v) in
    c.loop-p.stars.items ++ s ∷ [])) c.new.ensures.items)
    c.loop-p.invariant

pub returns : goal.returns
returns c =
    let f = λ (p : ℕ). (let s : ℕ × List ℕ = (p, []) in s) in
    map_all f c.args.vertices.now c.loop-p.p-index c.loop-p.stars.items c.loop-p-test.false c.loop-p.invariant
