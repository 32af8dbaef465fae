use Rattle.std.proofs.Common.{inl, inr, refl, ◌∙◌, sym, ap}
use Rattle.std.specs.Prelude.{Option, is_some}
use Rattle.clap.specs.Words.{app_of, kind_of, subcommand_rows_of}
use Rattle.command_words.specs.declared.task.Making.{Making}
use Rattle.command_words.proofs.CommandLine.{grid_refused, refused, taken, task_is}
use Rattle.command_words.proofs.words.read_words.Goals as goal
use Rattle.command_words.proofs.words.read_words.Goals.{in-OutOfMemory, in_default-kind}

pub returns-in_default-clause-refused : goal.returns-in_default-clause-refused
returns-in_default-clause-refused c =
    inr (
      refl,
      grid_refused (app_of c.in_ok-program.program) c.args.words.now (subcommand_rows_of c.in-Ok.matches)
          c.in_ok-program.ensures (λ s. (c.in-Ok.ensures.matches s).1)
          (sym (ap (λ (o : Option Making). is_some o) c.in_default.is) ∙ c.making_of.ensures.size),
    )

pub returns-in-Some-clause-taken : goal.returns-in-Some-clause-taken
returns-in-Some-clause-taken c =
    taken (app_of c.in_ok-program.program) c.args.words.now (subcommand_rows_of c.in-Ok.matches) c.in_ok-program.ensures
    c.in-Ok.ensures.kinds
    (λ s. (c.in-Ok.ensures.matches s).1) (sym c.making_of.ensures.size
    ∙ ap (λ (o : Option Making). is_some o) c.in-Some.is)

pub returns-in-Some-clause-task : goal.returns-in-Some-clause-task
returns-in-Some-clause-task c =
    task_is (app_of c.in_ok-program.program) c.args.words.now (subcommand_rows_of c.in-Ok.matches) c.task_of.result
    c.in_ok-program.ensures c.task_of.ensures (λ s. (c.in-Ok.ensures.matches s).1)

pub returns-after-kind-clause-refused : goal.returns-after-kind-clause-refused
returns-after-kind-clause-refused c =
    elim c.match-kind.branch [
      | in-OutOfMemory w ↦ inl w.result-is
      | in_default-kind w ↦ inr (
        w.result-is,
        refused (app_of c.in_ok-program.program) c.args.words.now (kind_of c.in-Err.error) c.in_ok-program.ensures
            c.in-Err.ensures.kinds
            (λ k. w.in_default-kind.not-OutOfMemory (c.kind.ensures ∙ k)),
      )
    ]
