use Rattle.command_words.proofs.Cited.{check_words, default_words, gen_text_words, gen_words, mesh_order_words}
use Rattle.command_words.proofs.Cited.{mesh_words, mesh_workers_words, near_words, near_workers_words, parts_asked}
use Rattle.command_words.proofs.Cited.{parts_at_words, parts_words, parts_workers_words, shape_order_words, shape_words}
use Rattle.command_words.proofs.Cited.{shape_workers_words, steps_words, steps_workers_words}
use Rattle.command_ends.proofs.MadeAsAsked.{mesh_reading, reading}
use Rattle.command_ends.proofs.laws.words_are_taken.Goals as goal

pub returns-clause-mesh : goal.returns-clause-mesh
returns-clause-mesh c = λ words w. (mesh_words words w).0

pub returns-clause-mesh_order : goal.returns-clause-mesh_order
returns-clause-mesh_order c = λ words w. (mesh_order_words words w).0

pub returns-clause-shape : goal.returns-clause-shape
returns-clause-shape c = λ words w. (shape_words words w).0

pub returns-clause-shape_order : goal.returns-clause-shape_order
returns-clause-shape_order c = λ words w. (shape_order_words words w).0

pub returns-clause-one_worker : goal.returns-clause-one_worker
returns-clause-one_worker c = λ words w. (default_words words w).0

pub returns-clause-report : goal.returns-clause-report
returns-clause-report c = λ words w. (default_words words w).1

pub returns-clause-steps : goal.returns-clause-steps
returns-clause-steps c = λ words w. let a = steps_words words w in (a.0.0, a.2, a.1.0, a.1.1)

pub returns-clause-parts : goal.returns-clause-parts
returns-clause-parts c =
    λ words w.
    let a = parts_words words w in
    let d = parts_asked words w in
    (a.0.0, a.2, a.1.0, a.1.1, d.0, d.1, d.2)

pub returns-clause-near : goal.returns-clause-near
returns-clause-near c = λ words w. let a = near_words words w in (a.0.0, a.2, a.1.0, a.1.1)

pub returns-clause-check : goal.returns-clause-check
returns-clause-check c = check_words

pub returns-clause-parts_at : goal.returns-clause-parts_at
returns-clause-parts_at c = parts_at_words

pub returns-clause-mesh_workers : goal.returns-clause-mesh_workers
returns-clause-mesh_workers c = mesh_workers_words

pub returns-clause-shape_workers : goal.returns-clause-shape_workers
returns-clause-shape_workers c = shape_workers_words

pub returns-clause-steps_workers : goal.returns-clause-steps_workers
returns-clause-steps_workers c =
    λ words workers grid some few size w.
    let a = steps_workers_words words workers grid some few size w in
    (a.0, a.1, a.2, a.4)

pub returns-clause-parts_workers : goal.returns-clause-parts_workers
returns-clause-parts_workers c =
    λ words workers grid some few size w.
    let a = parts_workers_words words workers grid some few size w in
    (a.0, a.1, a.2, a.4)

pub returns-clause-near_workers : goal.returns-clause-near_workers
returns-clause-near_workers c =
    λ words workers grid some few size w.
    let a = near_workers_words words workers grid some few size w in
    (a.0, a.1, a.2, a.4)

pub returns-clause-generator : goal.returns-clause-generator
returns-clause-generator c = gen_words

pub returns-clause-generator_text : goal.returns-clause-generator_text
returns-clause-generator_text c = gen_text_words

pub returns-clause-read : goal.returns-clause-read
returns-clause-read c = reading

pub returns-clause-read_mesh : goal.returns-clause-read_mesh
returns-clause-read_mesh c = mesh_reading
