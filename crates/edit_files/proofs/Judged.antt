-- Judging a text decides the grammar, and finds the one fault.
use Rattle.std.proofs.Common.{◌≡◌, ℕ, List, true, Result, Err, refl, ap, subst, inl, inr}
use Rattle.std.specs.Prelude.{◌⊎◌, IfOk}
use Rattle.text_readings.specs.declared.fault.Fault.{Fault}
use Rattle.text_readings.specs.declared.fault.ReadRefused.{ReadRefused}
use Rattle.text_readings.specs.declared.fault.ReadRefused.TheVariants as refusals
use Rattle.text_readings.specs.Readings.{lines_of, AllLead}
use Rattle.text_readings.specs.Judging.{Gives, judge}
use Rattle.text_readings.proofs.Cited.{IsJudgedBy, end_or_fault, given_fault, given_right, no_fault, one_end, one_fault}
use Rattle.edit_files.specs.declared.file.File.{File}
use Rattle.edit_files.specs.declared.place.Due.{Due}
use Rattle.edit_files.specs.declared.place.Due.TheVariants.{Title, Heading, Body, Nothing}
use Rattle.edit_files.specs.Content.{Content}
use Rattle.edit_files.specs.Held.{content}
use Rattle.edit_files.specs.Faults.{IsFault, file_reading}
use Rattle.edit_files.specs.Grammar.{IsFile, LeadsOn, Limits, Reached, at_end, at_title}
use Rattle.edit_files.specs.Judging.{file_judge, none_due, whole}
use Rattle.edit_files.proofs.Decided.{reason_step, step_complete, step_reason, step_sound}

-- where nothing is due the text may end
nothing_due : (due : Due) → none_due due ≡ true → due ≡ Nothing
nothing_due Nothing h = refl
nothing_due Title h = absurd cc
nothing_due Heading h = absurd cc
nothing_due (Body p) h = absurd cc

-- a line is judged as the reading says
file_decided : (limits : Limits) → IsJudgedBy (file_reading limits) (file_judge limits)
file_decided limits = record {
  sound = step_sound limits;
  complete = step_complete limits;
  reason = step_reason limits;
  because = reason_step limits;
  ended = λ a h. nothing_due a.due h;
  ends = λ a h. ap none_due h;
}

-- ---- what a call gave

-- what a call gives that gives what judging does is the file of the text
pub given_is_file : (limits : Limits) (bytes : List ℕ) (r : Result File ReadRefused) →
    Gives whole r (judge (file_judge limits) 1 at_title (lines_of bytes)) →
    IfOk r (λ f. IsFile limits bytes (content f))
given_is_file limits bytes r h =
    given_right (file_reading limits) (file_judge limits) (file_decided limits) whole at_title (lines_of bytes) r h

-- and the fault that it gives is the text's
pub given_is_fault : (limits : Limits) (bytes : List ℕ) (r : Result File ReadRefused) (fault : Fault) →
    Gives whole r (judge (file_judge limits) 1 at_title (lines_of bytes)) → r ≡ Err (refusals.Bad fault) →
    IsFault limits bytes fault
given_is_fault limits bytes r fault h e =
    given_fault (file_reading limits) (file_judge limits) (file_decided limits) whole at_title (lines_of bytes) r fault
    h e

-- ---- laws

-- a text is of at most one file
pub one_file_of : (limits : Limits) (bytes : List ℕ) (f g : Content) → IsFile limits bytes f → IsFile limits bytes g →
    f ≡ g
one_file_of limits bytes f g h k =
    ap (λ (r : Reached). r.taken)
    (one_end (file_reading limits) (file_judge limits) (file_decided limits) at_title (at_end f) (at_end g)
    (lines_of bytes) h refl k refl)

-- a text of a file has no fault
pub no_fault_of : (limits : Limits) (bytes : List ℕ) (f : Content) (fault : Fault) → IsFile limits bytes f →
    IsFault limits bytes fault → ⊥
no_fault_of limits bytes f fault h k =
    no_fault (file_reading limits) (file_judge limits) (file_decided limits) at_title (at_end f) (lines_of bytes) fault
    h refl k

-- a text has at most one fault
pub one_fault_of : (limits : Limits) (bytes : List ℕ) (a b : Fault) → IsFault limits bytes a → IsFault limits bytes b →
    a ≡ b
one_fault_of limits bytes a b h k =
    one_fault (file_reading limits) (file_judge limits) (file_decided limits) at_title (lines_of bytes) a b h k

-- every text is of a file or has a fault
pub some_answer : (limits : Limits) (bytes : List ℕ) → ((f : Content) × IsFile limits bytes f) ⊎ ((fault : Fault) ×
    IsFault limits bytes fault)
some_answer limits bytes = elim
    (end_or_fault (file_reading limits) (file_judge limits) (file_decided limits) at_title (lines_of bytes)) [
      | inl k ↦ inl (
        k.0.taken,
        subst (λ (d : Due). AllLead (LeadsOn limits) (lines_of bytes) at_title (record { due = d; taken = k.0.taken }))
            k.2 k.1,
      )
      | inr k ↦ inr k
    ]
