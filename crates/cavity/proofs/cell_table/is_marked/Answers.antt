use Rattle.std.proofs.Common.{◌≡◌, sym, ◌∙◌, refl}
use Rattle.std.proofs.lemmas.List.{get_or_past}
use Rattle.list_laws.proofs.Cited.{not_both}
use Rattle.cavity.specs.declared.cell_table.Mark.TheVariants.{Free, Gone}
use Rattle.cavity.proofs.Tables.{in_at, no_test, not_there, none_goes, passed_more}
use Rattle.cavity.proofs.cell_table.is_marked.Goals as goal

pub returns-in-Free : goal.returns-in-Free
returns-in-Free c =
    no_test c.args.cell.now c.args.goes.now
    (none_goes c.args.marks.now c.args.home c.args.goes.now c.args.cell.now c.loop-at.at c.loop-at.invariant
    c.loop-at.auto.at c.in-Free.is c.requires)

pub returns-then-is_at : goal.returns-then-is_at
returns-then-is_at c = (
  λ t. in_at c.args.goes.now c.in-Gone.i c.args.cell.now (c.is_at.ensures.0 c.if-is_at.true),
  λ m. refl,
)

-- one place more was passed, which does not have the cell
pub loop-at-preserved : goal.loop-at-preserved
loop-at-preserved c =
    passed_more c.args.marks.now c.args.home c.args.goes.now c.args.cell.now c.loop-at.at c.loop-at.invariant (record {
      taken = λ e. let d : Gone c.in-Gone.i ≡ Free = sym c.in-Gone.is ∙ e in (cc);
      other = λ i e k. not_there c.args.goes.now c.args.cell.now c.in-Gone.i i (let d : Gone c.in-Gone.i ≡ Gone i =
          sym c.in-Gone.is ∙ e in (cc)) k (λ j. not_both _ (c.is_at.ensures.1 j) c.if-is_at.false);
    })

pub returns : goal.returns
returns c =
    no_test c.args.cell.now c.args.goes.now
    (none_goes c.args.marks.now c.args.home c.args.goes.now c.args.cell.now c.loop-at.at c.loop-at.invariant
    c.loop-at.auto.at (get_or_past c.args.marks.now c.loop-at.at Free c.loop-at-test.false) c.requires)
