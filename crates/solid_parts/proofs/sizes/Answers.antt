use Rattle.std.proofs.Common.{◌≡◌, ◌≤◌, ◌∙◌, ◌++◌, ◌∷◌, [], List, ap, ap₂, length, map, sym, take, arith}
use Rattle.std.proofs.lemmas.List.{map-append, take_all}
use Rattle.list_laws.proofs.Cited.{take_next}
use Rattle.solid_parts.specs.declared.part.Part.{Part}
use Rattle.solid_parts.specs.declared.part.PartSize.{PartSize}
use Rattle.solid_parts.specs.Seen.{parts_seen}
use Rattle.solid_parts.specs.Text.{size_of}
use Rattle.solid_parts.proofs.sizes.Goals as goal

-- the sizes of some parts and of one behind them
one_more : (parts : List Part) (part : Part) (sizes : List PartSize) (size : PartSize) →
    sizes ≡ map size_of (parts_seen parts)
    → size ≡ size_of part.cells.items → sizes ++ size ∷ [] ≡ map size_of (parts_seen (parts ++ part ∷ []))
one_more parts part sizes size e f =
    ap₂ (λ (xs : List PartSize) (x : PartSize). xs ++ x ∷ []) e f
    ∙ sym (ap (map size_of) (map-append (λ (p : Part). p.cells.items) parts (part ∷ []))
    ∙ map-append size_of (parts_seen parts) (parts_seen (part ∷ [])))

pub loop-part-preserved : goal.loop-part-preserved
loop-part-preserved c =
    let parts = c.args.parts.now in
    let i = c.loop-part.part-index in
    let part = c.part-item.result in
    let cells = c.len.ensures ∙ part.cells.ok.0 in
    let triangles = c.len-in-loop-part.ensures ∙ c.in_ok-outside.outside.ok.0 ∙ ap length c.in_ok-outside.ensures in
    let size = c.size.ensures ∙ ap₂ (λ m n. let s : PartSize = record { cells = m; triangles = n } in s) cells triangles
    in
    c.in_ok-push.ensures.items ∙ one_more (take i parts) part c.loop-part.sizes.items c.size.result
    c.loop-part.invariant size
    ∙ ap (λ (ps : List Part). map size_of (parts_seen ps)) (sym (take_next parts i part c.loop-part-test.true
    c.part-item.is))

pub returns : goal.returns
returns c =
    let past : length c.args.parts.now ≤ c.loop-part.part-index = omega (arith, c.loop-part-test.false) in
    c.loop-part.invariant ∙ ap (λ (ps : List Part). map size_of (parts_seen ps))
    (take_all c.loop-part.part-index c.args.parts.now past)
