-- Text put on a sheet, which has its sink and remembers whether that failed.
use Rattle.std.specs.Prelude.{◌≡◌, ℕ, ◌≤◌, true, false, List, [], Result, OnOk}
use Rattle.std.specs.declared.option.Option.{Option}
use Rattle.std.specs.Borrow.{MutBor}
use Rattle.std.specs.Io.KnownBytes.{Appends}
use Rattle.std.specs.Result.{IsErr}
use Rattle.byte_ends.specs.Ends.{AppendsFront, HasCause, Rose}
use Rattle.text_sheets.specs.Pages.{Flows, FlowsInPart}
use Rattle.text_sheets.specs.declared.sheet.Sheet.{Sheet}

-- a sheet on its way into the sink behind a reference, on which nothing waits
pub record IsBlank {O : Type 0} (out : MutBor O) (s : Sheet O) : Type 0 where
  pub lent : s.out.ghost_name ≡ out.ghost_name
  pub sink : s.out.now ≡ out.now
  pub waits : s.page ≡ []
  pub works : s.failed ≡ false

-- what waited was written, or a front of it
pub record Written {T E : Type 0} (old new : Option (List ℕ)) (f g : ℕ) (waits : List ℕ) (result : Result T E) : Type 0
  where
    pub whole : OnOk result (Appends old new waits)
    pub front : AppendsFront old new waits
    pub cause : HasCause f g result

-- by what sinks hold and how often they failed
module _ {O : Type 0} (holds : O → Option (List ℕ)) (faults : O → ℕ) where
  -- a call that failed: the sink took a front of what waited and the piece
  pub record Breaks (s t : Sheet O) (piece : List ℕ) : Type 0 where
    pub front : FlowsInPart (holds s.out.now) (holds t.out.now) s.page piece
    pub rose : Rose (faults s.out.now) (faults t.out.now)

  -- The piece was put. After a failure the sheet stays failed and the sink holds what it held; before, the whole piece
  -- went on its way, or the sink failed on the way.
  pub record Puts (s t : Sheet O) (piece : List ℕ) : Type 0 where
    pub lent : t.out.ghost_name ≡ s.out.ghost_name
    pub later : faults s.out.now ≤ faults t.out.now
    pub stays : s.failed ≡ true → t.failed ≡ true
    pub still : s.failed ≡ true → holds s.out.now ≡ holds t.out.now
    pub whole : s.failed ≡ false → t.failed ≡ false → Flows (holds s.out.now) (holds t.out.now) s.page t.page piece
    pub broken : s.failed ≡ false → t.failed ≡ true → Breaks s t piece

  -- The sheet was closed: after a failure nothing is written and the answer is an error; before, what waits is written.
  pub record Closes {T E : Type 0} (s t : Sheet O) (result : Result T E) : Type 0 where
    pub lent : t.out.ghost_name ≡ s.out.ghost_name
    pub later : faults s.out.now ≤ faults t.out.now
    pub fails : s.failed ≡ true → IsErr result
    pub still : s.failed ≡ true → holds s.out.now ≡ holds t.out.now
    pub written : s.failed ≡ false →
        Written (holds s.out.now) (holds t.out.now) (faults s.out.now) (faults t.out.now) s.page result
