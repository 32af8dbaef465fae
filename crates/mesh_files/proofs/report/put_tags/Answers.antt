use Rattle.std.proofs.Common.{List, ℕ, refl, length, sym, get_or}
use Rattle.std.specs.Prelude.{map, codes}
use Rattle.std.specs.List.{concat}
use Rattle.std.proofs.lemmas.List.{length-map}
use Rattle.mesh_files.specs.Text.{tag_line}
use Rattle.text_sheets.proofs.Cited.{own_item, ends, goes_on, starts}
use Rattle.mesh_files.proofs.report.put_tags.Goals as goal

pub loop-tag-init : goal.loop-tag-init
loop-tag-init g c = starts (codes "order") (map tag_line c.args.tags.now) (length c.args.tags.now)
    (sym (length-map c.args.tags.now tag_line)) c.put_title.ensures

pub loop-tag-preserved : goal.loop-tag-preserved
loop-tag-preserved g c =
    goes_on (λ (xs : List ℕ). concat (map tag_line xs)) tag_line (λ x xs. refl) c.args.tags.now c.loop-tag.tag-index
    (get_or c.args.tags.now c.loop-tag.tag-index 0) c.loop-tag-test.true
    (own_item 0 c.args.tags.now c.loop-tag.tag-index c.loop-tag-test.true) c.loop-tag.invariant c.put_tag.ensures

pub returns : goal.returns
returns g c =
    ends (λ (xs : List ℕ). concat (map tag_line xs)) refl c.args.tags.now c.loop-tag.tag-index c.loop-tag-test.false
    c.loop-tag.invariant
