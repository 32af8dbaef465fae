-- Judging all lines decides the grammar and finds the fault.
use Rattle.std.proofs.Common.{◌≡◌, ℕ, List, true, Result, Ok, refl, ap, subst, inl, inr}
use Rattle.std.specs.Prelude.{◌⊎◌, IfOk, Err}
use Rattle.text_readings.specs.declared.fault.Fault.{Fault}
use Rattle.text_readings.specs.declared.fault.ReadRefused.{ReadRefused}
use Rattle.text_readings.specs.declared.fault.ReadRefused.TheVariants as refusals
use Rattle.text_readings.specs.Readings.{lines_of, AllLead}
use Rattle.text_readings.specs.Judging.{Gives, judge}
use Rattle.text_readings.proofs.Cited.{IsJudgedBy, end_or_fault, given_fault, given_right, judged_right, no_fault}
use Rattle.text_readings.proofs.Cited.{one_end, one_fault, right_judged}
use Rattle.mesh_reader.specs.declared.mesh_file.PackedMesh.{PackedMesh}
use Rattle.mesh_reader.specs.declared.place.Due.{Due}
use Rattle.mesh_reader.specs.declared.place.Due.TheVariants.{Title, Head, Body, Last, Nothing}
use Rattle.mesh_reader.specs.Grammar.{IsMeshText, LeadsOn, MeshParts, Reached, at_end, at_title}
use Rattle.mesh_reader.specs.Packed.{parts}
use Rattle.mesh_reader.specs.Faults.{IsMeshFault, mesh_reading}
use Rattle.mesh_reader.specs.Judging.{none_due, mesh_judge, whole}
use Rattle.mesh_reader.proofs.Decided.{reason_step, step_complete, step_reason, step_sound}

-- where nothing is due the text may end
nothing_due : (due : Due) → none_due due ≡ true → due ≡ Nothing
nothing_due Nothing h = refl
nothing_due Title h = absurd cc
nothing_due (Head p) h = absurd cc
nothing_due (Body p n) h = absurd cc
nothing_due Last h = absurd cc

-- a line is judged as the reading says
pub mesh_decided : IsJudgedBy mesh_reading mesh_judge
mesh_decided = record {
  sound = step_sound;
  complete = step_complete;
  reason = step_reason;
  because = reason_step;
  ended = λ a h. nothing_due a.due h;
  ends = λ a h. ap none_due h;
}

-- lines of which a mesh comes lead from one to the next up to the end
pub leads_all : (n : ℕ) (a b : Reached) (lines : List (List ℕ)) → judge mesh_judge n a lines ≡ Ok b →
    AllLead LeadsOn lines a b
leads_all n a b lines h = (judged_right mesh_reading mesh_judge mesh_decided n a b lines h).0

-- the text of a mesh is judged to be it
pub mesh_judged : (bytes : List ℕ) (f : MeshParts) → IsMeshText bytes f →
    judge mesh_judge 1 at_title (lines_of bytes) ≡ Ok (at_end f)
mesh_judged bytes f h = right_judged mesh_reading mesh_judge mesh_decided (lines_of bytes) 1 at_title (at_end f) h refl

-- ---- what a call gave

-- what a call gives that gives what judging does is the mesh of the text
pub given_mesh : (bytes : List ℕ) (r : Result PackedMesh ReadRefused) →
    Gives whole r (judge mesh_judge 1 at_title (lines_of bytes)) → IfOk r (λ m. IsMeshText bytes (parts m))
given_mesh bytes r h = given_right mesh_reading mesh_judge mesh_decided whole at_title (lines_of bytes) r h

-- and the fault that it gives is the text's
pub given_mesh_fault : (bytes : List ℕ) (r : Result PackedMesh ReadRefused) (fault : Fault) →
    Gives whole r (judge mesh_judge 1 at_title (lines_of bytes)) → r ≡ Err (refusals.Bad fault) →
    IsMeshFault bytes fault
given_mesh_fault bytes r fault h e =
    given_fault mesh_reading mesh_judge mesh_decided whole at_title (lines_of bytes) r fault h e

-- ---- laws

-- a text is of at most one mesh
pub one_mesh_of : (bytes : List ℕ) (f g : MeshParts) → IsMeshText bytes f → IsMeshText bytes g → f ≡ g
one_mesh_of bytes f g h k =
    ap (λ (r : Reached). r.taken)
    (one_end mesh_reading mesh_judge mesh_decided at_title (at_end f) (at_end g) (lines_of bytes) h refl k refl)

-- a text of a mesh has no fault
pub no_fault_of_mesh : (bytes : List ℕ) (f : MeshParts) (fault : Fault) → IsMeshText bytes f → IsMeshFault bytes fault
    → ⊥
no_fault_of_mesh bytes f fault h k =
    no_fault mesh_reading mesh_judge mesh_decided at_title (at_end f) (lines_of bytes) fault h refl k

-- a text has at most one fault
pub one_fault_of : (bytes : List ℕ) (a b : Fault) → IsMeshFault bytes a → IsMeshFault bytes b → a ≡ b
one_fault_of bytes a b h k = one_fault mesh_reading mesh_judge mesh_decided at_title (lines_of bytes) a b h k

-- every text is of a mesh or has a fault
pub mesh_or_fault_of : (bytes : List ℕ) → ((f : MeshParts) × IsMeshText bytes f) ⊎ ((fault : Fault)
    × IsMeshFault bytes fault)
mesh_or_fault_of bytes = elim (end_or_fault mesh_reading mesh_judge mesh_decided at_title (lines_of bytes)) [
  | inl k ↦ inl (
    k.0.taken,
    subst (λ (d : Due). AllLead LeadsOn (lines_of bytes) at_title (record { due = d; taken = k.0.taken })) k.2 k.1,
  )
  | inr k ↦ inr k
]
