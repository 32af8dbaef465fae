-- The command `parts`: what is made of the points that a history leaves.
use Rattle.std.specs.Prelude.{◌≡◌, ◌⊎◌, ◌≤◌, ◌<◌, ℕ, zero, suc, List, [], length, Option, None, Some, IfSome}
use Rattle.std.specs.Prelude.{slice_index_or}
use Rattle.edit_history.specs.declared.history.Entry.{Entry}
use Rattle.edit_history.specs.Histories.{replay}
use Rattle.alpha_complex.specs.Shapes.{shape_of}
use Rattle.mesh_files.specs.Off.{off_text}
use Rattle.solid_parts.specs.Boundary.{boundary_of}
use Rattle.solid_parts.specs.LeastAlpha.{IsLeastAlpha}
use Rattle.solid_parts.specs.Parts.{AreSolidParts}
use Rattle.solid_parts.specs.Text.{parts_text}
use Rattle.edit_files.specs.Faults.{IsFault}
use Rattle.command_words.specs.Words.{asked_alpha, asked_index, asked_most, worker_count}
use Rattle.command_pages.specs.Command.{Command}
use Rattle.command_pages.specs.Files.{HasNoMesh, IsOfFile}
use Rattle.command_pages.specs.Run.{input_limit, file_limits}

-- The alpha at which the parts are taken: the one that is given, and where a most of parts above 0 is asked for, the
-- least at which every point is in an admitted cell and there are at most so many; then there may be none.
abbrev pub IsAskedAlpha : List ℕ → ℕ → ℕ → Option ℕ → Type 0
IsAskedAlpha s alpha zero at = at ≡ Some alpha
IsAskedAlpha s alpha (suc k) at = IsLeastAlpha s (suc k) at

-- what is told of the parts at an alpha, the status and the text: of all, or where one is asked for by its index, its
-- boundary; where there is none of that index, the status is 8 and the text is empty
abbrev pub TellsOf : List ℕ → ℕ → List (List (List ℕ)) → Option ℕ → ℕ → List ℕ → Type 0
TellsOf s at parts None status text = (status ≡ 0) × (text ≡ parts_text at parts)
TellsOf s at parts (Some i) status text =
    ((i < length parts) × (status ≡ 0) × (text ≡ off_text s (boundary_of (slice_index_or parts i []))))
    ⊎ ((length parts ≤ i) × (status ≡ 8) × (text ≡ []))

-- The parts of a set at an alpha, and what is told of them.
pub record HasParts (s : List ℕ) (at : ℕ) (index : Option ℕ) (status : ℕ) (text : List ℕ) : Type 0 where
  pub parts : List (List (List ℕ))
  pub are_parts : AreSolidParts (shape_of s at).cells parts
  pub told : TellsOf s at parts index status text

-- what is told at an alpha, if there is one; else the status is 9 and the text is empty
abbrev pub TellsAt : List ℕ → Option ℕ → Option ℕ → ℕ → List ℕ → Type 0
TellsAt s (Some at) index status text = HasParts s at index status text
TellsAt s None index status text = (status ≡ 9) × (text ≡ [])

-- What is told of a set for an alpha, a most of parts and the index of a part, if one is given.
pub record IsParted (s : List ℕ) (alpha most : ℕ) (index : Option ℕ) (status : ℕ) (text : List ℕ) : Type 0 where
  pub at : Option ℕ
  pub asked : IsAskedAlpha s alpha most at
  pub told : TellsAt s at index status text

-- the bytes are a solid file, which the history keeps, and this is told of the points that the history leaves
abbrev pub IsPartedFile : ℕ → ℕ → ℕ → Option ℕ → ℕ → List Entry → List ℕ → List ℕ → Type 0
IsPartedFile workers alpha most index status h text bytes =
    IsOfFile workers h (λ file. IsParted (replay h) alpha most index status text) bytes

-- the status is 0, or 8 or 9 beside an empty text
abbrev pub TellsParts : ℕ → List ℕ → Type 0
TellsParts status text = (status ≡ 0) ⊎ (((status ≡ 8) ⊎ (status ≡ 9)) × (text ≡ []))

-- there is no alpha with so few parts: the cause of status 9
abbrev pub HasNoAlpha : List ℕ → ℕ → Type 0
HasNoAlpha s most = (0 < most) × IsLeastAlpha s most None

-- There is an alpha, and no part of the index: the cause of status 8.
pub record HasNoPart (s : List ℕ) (alpha most i : ℕ) : Type 0 where
  pub at : ℕ
  pub asked : IsAskedAlpha s alpha most (Some at)
  pub parts : List (List (List ℕ))
  pub are_parts : AreSolidParts (shape_of s at).cells parts
  pub past : length parts ≤ i

-- The command.
abbrev pub parting : Command
parting =
    record {
      limit = input_limit;
      is_fault = λ bytes fault. IsFault file_limits bytes fault;
      makes = λ words left late h text. TellsParts late text
          × IfSome left (IsPartedFile (worker_count words) (asked_alpha words) (asked_most words) (asked_index words)
          late h text);
      makes_none = λ left failed stop. HasNoMesh left failed stop;
    }
