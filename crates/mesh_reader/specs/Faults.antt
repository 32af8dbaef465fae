-- The one fault of a text that is of no mesh.
use Rattle.std.specs.Prelude.{◌≡◌, ◌≢◌, ℕ, List, ⊤, codes}
use Rattle.text_readings.specs.declared.fault.Why.{Why}
use Rattle.text_readings.specs.declared.fault.Why.TheVariants.{Section, Field, Range, TooMany}
use Rattle.text_readings.specs.declared.fault.Fault.{Fault}
use Rattle.text_readings.specs.Readings.{lines_of, IsFaultOf, Reading}
use Rattle.mesh_reader.specs.declared.place.Due.{Due}
use Rattle.mesh_reader.specs.declared.place.Due.TheVariants.{Title, Head, Body, Last, Nothing}
use Rattle.mesh_reader.specs.Grammar.{HasFormOf, HasHeadForm, IsHead, IsTaken, LeadsOn, MeshParts, Reached, at_title}

-- Why a line is wrong where this is due. Section: another word is due, or no line at all. TooMany: a head announces
-- more lines than there may be, or fewer than none. Field: a line of a list is not of its form. Range: it is, and is
-- not taken.
abbrev pub IsMeshReason : Due → MeshParts → List ℕ → Why → Type 0
IsMeshReason Title f line Section = line ≢ codes "mesh3-out 1"
IsMeshReason (Head p) f line Section = ¬ (HasHeadForm p line)
IsMeshReason (Head p) f line TooMany = HasHeadForm p line × ((n : ℕ) → ¬ (IsHead p n line))
IsMeshReason (Body p n) f line Field = ¬ (HasFormOf p line)
IsMeshReason (Body p n) f line Range = HasFormOf p line × ((g : MeshParts) → ¬ (IsTaken p f line g))
IsMeshReason Last f line Section = line ≢ codes "end"
IsMeshReason Nothing f line Section = ⊤
IsMeshReason _ f line _ = ⊥

-- how the text of a mesh is read, up to where nothing is due
abbrev pub mesh_reading : Reading Reached
mesh_reading =
    record {
      Leads = LeadsOn;
      IsReason = λ a line why. IsMeshReason a.due a.taken line why;
      IsEnd = λ a. a.due ≡ Nothing;
    }

-- the text is of no mesh, and this is its fault
abbrev pub IsMeshFault : List ℕ → Fault → Type 0
IsMeshFault bytes fault = IsFaultOf mesh_reading at_title (lines_of bytes) fault
