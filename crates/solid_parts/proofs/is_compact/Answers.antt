use Rattle.std.proofs.Common.{◌∙◌, ◌<◌, ◌≤◌, ◌^◌, arith, sym}
use Rattle.std.proofs.lemmas.List.{length-map}
use Rattle.solid_parts.specs.declared.part.Part.{Part}
use Rattle.solid_parts.specs.Seen.{parts_seen}
use Rattle.solid_parts.proofs.Few.{compact_test}
use Rattle.solid_parts.proofs.is_compact.Goals as goal

pub returns : goal.returns
returns c s h =
    let parts = c.in_ok-parts.parts.items in
    let small : c.args.alpha < 2 ^ 34 = omega (arith, c.if-alpha-ge-BEYOND.false) in
    let from : c.args.start ≤ c.args.alpha = omega (arith, c.if-alpha-start.false) in
    compact_test s c.args.k c.args.alpha c.args.start c.len.result (parts_seen parts) small from
    (c.requires.start s h small) (c.in_ok-parts.ensures s h)
    (c.len.ensures ∙ c.in_ok-parts.parts.ok.0 ∙ sym (length-map parts (λ (p : Part). p.cells.items)))
