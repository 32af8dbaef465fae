use Rattle.std.proofs.Common.{inl, sym, ◌∙◌}
use Rattle.del_laws.proofs.Cited.{against}
use Rattle.cell_walk.proofs.Searching.{not_self}
use Rattle.cell_walk.proofs.search.lesser.Goals as goal

pub returns-in-Less-clause-best : goal.returns-in-Less-clause-best
returns-in-Less-clause-best c = rw c.in-Some.is
    (λ e. against c.args.cell.now c.in-Some.old (sym c.compare.ensures ∙ c.in-Less.is) e)

pub returns-in-Less-clause-cell : goal.returns-in-Less-clause-cell
returns-in-Less-clause-cell c = not_self c.args.cell.now

pub returns-in_default : goal.returns-in_default
returns-in_default c = record {
  one = inl c.in-Some.is;
  best = rw c.in-Some.is (not_self c.in-Some.old);
  cell =
      λ e. c.in_default.not-Less (c.compare.ensures ∙ e);
}

pub returns-in-None-clause-cell : goal.returns-in-None-clause-cell
returns-in-None-clause-cell c = not_self c.args.cell.now
