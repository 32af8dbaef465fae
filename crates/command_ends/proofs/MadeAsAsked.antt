-- What a command makes is what the words ask for.
use Rattle.std.specs.declared.alloc.Global.{Global}
use Rattle.std.specs.Prelude.{Option, None, IfSome, IfOk, IfErr, Result, Ok, Err, String}
use Rattle.std.proofs.Common.{◌≡◌, ◌≢◌, ◌⊎◌, inl, inr, refl, sym, subst, ap, ap₂, ◌∙◌, ℕ, Bool, List, []}
use Rattle.edit_history.specs.declared.history.Entry.{Entry}
use Rattle.edit_history.specs.Histories.{replay}
use Rattle.edit_files.specs.Content.{Content}
use Rattle.command_words.specs.declared.stop.Stop.{Stop}
use Rattle.command_words.specs.declared.stop.Stop.TheVariants.{Memory, Usage}
use Rattle.command_words.specs.declared.task.Asked.{Asked}
use Rattle.command_words.specs.declared.task.Drawn.{Drawn}
use Rattle.command_words.specs.declared.task.Making.{Making}
use Rattle.command_words.specs.declared.task.Wanted.{Wanted}
use Rattle.command_words.specs.declared.task.Task.{Task}
use Rattle.command_words.specs.declared.task.Task.TheVariants.{Report, Step, Part, Query, Check, Draw}
use Rattle.command_words.specs.Stops.{status_of_end}
use Rattle.command_words.specs.Tasks.{IsTask}
use Rattle.command_words.specs.Words.{Checks, Draws, Kind, Parts, Queries, ReadsFile, ReadsSource, Reports, Steps}
use Rattle.command_words.specs.Words.{asked_alpha, asked_index, asked_most, asks_order, asks_shape, AreWordsTaken}
use Rattle.command_words.specs.Words.{kind_of_words, worker_count, Asks}
use Rattle.command_words.proofs.Cited.{check_task, draw_task, part_task, query_task, report_task, step_task}
use Rattle.command_pages.specs.declared.made.Made.{Made}
use Rattle.command_pages.specs.Checked.{IsChecked, TellsVerdict}
use Rattle.command_pages.specs.Files.{IsOfFile}
use Rattle.command_pages.specs.Page.{text_of_page}
use Rattle.command_pages.specs.Report.{text_of_history}
use Rattle.command_pages.specs.Run.{ReadsTo}
use Rattle.edit_files.specs.Generator.{generated}
use Rattle.command_ends.specs.Commands.{command_of, command_of_words}
use Rattle.command_ends.specs.Drawn.{IsDrawn}
use Rattle.command_ends.specs.Ends.{IsMadeOfWords, IsUnmade}
use Rattle.command_ends.specs.Parted.{IsPartedFile, TellsParts}
use Rattle.command_ends.specs.Queried.{IsQueried}
use Rattle.command_ends.specs.Meshed.{IsQueriedFile, IsReported, IsSteppedFile}
use Rattle.command_ends.specs.Stepped.{IsStepped}
use Rattle.command_ends.proofs.CommandPromises.{carried}
use Rattle.command_ends.proofs.DrawnFiles.{drawn_asked}

-- what the command of a task does
abbrev pub kind_of_task : Task → Kind
kind_of_task (Report making asked) = Reports
kind_of_task (Step making) = Steps
kind_of_task (Part making wanted) = Parts
kind_of_task (Query making) = Queries
kind_of_task Check = Checks
kind_of_task (Draw making drawn) = Draws

-- the command of the words does what their task is, whatever it is found to be
pub kind_is : (words : List (String Global)) (task found : Task) → IsTask words task → task ≡ found →
    kind_of_words words ≡ kind_of_task found
kind_is words task (Report making asked) t e = (report_task words making asked (subst (IsTask words) e t)).0
kind_is words task (Step making) t e = (step_task words making (subst (IsTask words) e t)).0
kind_is words task (Part making wanted) t e = (part_task words making wanted (subst (IsTask words) e t)).0
kind_is words task (Query making) t e = (query_task words making (subst (IsTask words) e t)).0
kind_is words task Check t e = check_task words (subst (IsTask words) e t)
kind_is words task (Draw making drawn) t e = (draw_task words making drawn (subst (IsTask words) e t)).0

-- words of a kind that neither draws nor checks read a file
reads_of : (words : List (String Global)) (kind : Kind) → kind ≢ Draws → kind ≢ Checks → kind_of_words words ≡ kind →
    ReadsFile words
reads_of words kind n m w = (λ e. n (sym w ∙ e), λ e. m (sym w ∙ e))

-- a file is read for a report, for the least alphas, for the parts, or for the answers to its queries
pub reading : (words : List (String Global)) →
    Asks Reports words ⊎ Asks Steps words ⊎ Asks Parts words ⊎ Asks Queries words → ReadsFile words
reading words (inl w) = reads_of words Reports (λ e. cc) (λ e. cc) w
reading words (inr (inl w)) = reads_of words Steps (λ e. cc) (λ e. cc) w
reading words (inr (inr (inl w))) = reads_of words Parts (λ e. cc) (λ e. cc) w
reading words (inr (inr (inr w))) = reads_of words Queries (λ e. cc) (λ e. cc) w

-- and for a verdict the source is
pub mesh_reading : (words : List (String Global)) → Asks Checks words → ReadsSource words
mesh_reading words w e = let z : Checks ≡ Draws = sym w ∙ e in cc

-- where their task draws nothing, the source is read
pub reads_source : (words : List (String Global)) (task found : Task) → IsTask words task → task ≡ found →
    kind_of_task found ≢ Draws → ReadsSource words
reads_source words task found t e n d = n (sym (kind_is words task found t e) ∙ d)

-- of the task that the words are found to ask for
module _ (words : List (String Global)) (task found : Task) (taken : AreWordsTaken words) (t : IsTask words task)
    (e : task ≡ found) (left : Option (List ℕ)) where
  -- the command of the words is of this kind
  k : kind_of_words words ≡ kind_of_task found
  k = kind_is words task found t e

  -- what is made is what the words ask for
  pub made_as : (m : Result Made Stop) →
      IfOk m (λ made. (command_of (kind_of_task found)).makes words left (status_of_end made.after)
      made.kept.items (text_of_page made.page)) →
      IfOk m (λ made. IsMadeOfWords words left (status_of_end made.after) made.kept.items (text_of_page made.page))
  made_as (Err stop) r = tt
  made_as (Ok made) r = (
    taken,
    subst (λ (kind : Kind). (command_of kind).makes words left (status_of_end made.after) made.kept.items
        (text_of_page made.page)) (sym k) r,
  )

  -- why nothing was made is why the words make nothing
  pub unmade_as : {A : Type 0} (failed : Type 0) (m : Result A Stop) →
      IfErr m ((command_of (kind_of_task found)).makes_none left failed) →
      IfErr m (IsUnmade words left failed)
  unmade_as failed (Ok made) u = tt
  unmade_as failed (Err Memory) u = tt
  unmade_as failed (Err Usage) u = absurd (((carried (kind_of_task found)).stops left failed Usage u).2 refl)
  unmade_as failed (Err stop) u =
      (taken, subst (λ (kind : Kind). (command_of kind).makes_none left failed stop) (sym k) u)

  -- and how much was read is as it may be
  pub reads_as : (new : Option (List ℕ)) (status : ℕ) →
      ReadsTo (command_of (kind_of_task found)).limit left new status →
      ReadsTo (command_of_words words).limit left new status
  reads_as new status r = subst (λ (kind : Kind). ReadsTo (command_of kind).limit left new status) (sym k) r

-- what was made of a file, by the words
module _ (words : List (String Global)) (left : Option (List ℕ)) (making : Making) (m : Result Made Stop) where
  -- with as many workers as they ask for, and what holds of it by them
  of_words : (P Q : List Entry → List ℕ → Content → Type 0) → making.workers ≡ worker_count words → P ≡ Q →
      IfOk m (λ made. IfSome left (IsOfFile making.workers made.kept.items (P made.kept.items
      (text_of_page made.page)))) → IfOk m (λ made. made.after ≡ None) →
      IfOk m (λ made. (status_of_end made.after ≡ 0) × IfSome left (IsOfFile (worker_count words) made.kept.items
      (Q made.kept.items (text_of_page made.page))))
  of_words P Q w e r n = by m r n
    where
      by : (m : Result Made Stop) → IfOk m (λ made. IfSome left (IsOfFile making.workers made.kept.items
          (P made.kept.items (text_of_page made.page)))) → IfOk m (λ made. made.after ≡ None) →
          IfOk m (λ made. (status_of_end made.after ≡ 0) × IfSome left (IsOfFile (worker_count words) made.kept.items
          (Q made.kept.items (text_of_page made.page))))
      by (Err stop) r n = tt
      by (Ok made) r n = (
        ap status_of_end n,
        subst (λ (P : List Entry → List ℕ → Content → Type 0). IfSome left (IsOfFile (worker_count words)
            made.kept.items (P made.kept.items (text_of_page made.page)))) e
            (subst (λ (k : ℕ). IfSome left (IsOfFile k made.kept.items
            (P made.kept.items (text_of_page made.page)))) w r),
      )

  -- the report
  pub reported : (asked : Asked) → IsTask words (Report making asked) →
      IfOk m (λ made. IfSome left (IsReported making.workers asked.shape asked.order made.kept.items
      (text_of_page made.page))) → IfOk m (λ made. made.after ≡ None) →
      IfOk m (λ made. (command_of Reports).makes words left (status_of_end made.after) made.kept.items
      (text_of_page made.page))
  reported asked t r n =
      let k = report_task words making asked t in
      let P : Bool → Bool → List Entry → List ℕ → Content → Type 0 =
      λ shape order h text file. text ≡ text_of_history shape order file h in
      of_words (P asked.shape asked.order) (P (asks_shape words) (asks_order words)) k.3 (ap₂ P k.1 k.2) r n

  -- the least alphas
  pub stepped : IsTask words (Step making) →
      IfOk m (λ made. IfSome left (IsSteppedFile making.workers made.kept.items (text_of_page made.page))) →
      IfOk m (λ made. made.after ≡ None) →
      IfOk m (λ made. (command_of Steps).makes words left (status_of_end made.after) made.kept.items
      (text_of_page made.page))
  stepped t r n =
      let P : List Entry → List ℕ → Content → Type 0 = λ h text file. IsStepped (replay h) text in
      of_words P P (step_task words making t).1 refl r n

  -- the answers to queries
  pub queried : IsTask words (Query making) →
      IfOk m (λ made. IfSome left (IsQueriedFile making.workers made.kept.items (text_of_page made.page))) →
      IfOk m (λ made. made.after ≡ None) →
      IfOk m (λ made. (command_of Queries).makes words left (status_of_end made.after) made.kept.items
      (text_of_page made.page))
  queried t r n =
      let P : List Entry → List ℕ → Content → Type 0 = λ h text file. IsQueried (replay h) file.queries text in
      of_words P P (query_task words making t).1 refl r n

-- what was told of parts, by the words
pub parted : (words : List (String Global)) (left : Option (List ℕ)) (making : Making) (wanted : Wanted) →
    IsTask words (Part making wanted) → (m : Result Made Stop) →
    IfOk m (λ made. IfSome left (IsPartedFile making.workers wanted.alpha wanted.most wanted.off
    (status_of_end made.after) made.kept.items (text_of_page made.page))) →
    IfOk m (λ made. TellsParts (status_of_end made.after) (text_of_page made.page)) →
    IfOk m (λ made. (command_of Parts).makes words left (status_of_end made.after) made.kept.items
    (text_of_page made.page))
parted words left making wanted t (Err stop) r n = tt
parted words left making wanted t (Ok made) r n =
    let k = part_task words making wanted t in
    let told : ℕ → ℕ → ℕ → Option ℕ → Type 0 =
    λ workers alpha most index. IfSome left (IsPartedFile workers alpha most index (status_of_end made.after)
    made.kept.items (text_of_page made.page)) in (
      n,
      subst (λ (w : ℕ). told w (asked_alpha words) (asked_most words) (asked_index words)) k.4
          (subst (λ (a : ℕ). told making.workers a (asked_most words) (asked_index words)) k.1
          (subst (λ (b : ℕ). told making.workers wanted.alpha b (asked_index words)) k.2
          (subst (λ (i : Option ℕ). told making.workers wanted.alpha wanted.most i) k.3 r))),
    )

-- what was made of a drawn file, by the words
pub drawn : (words : List (String Global)) (left : Option (List ℕ)) (making : Making) (asked : Drawn) →
    IsTask words (Draw making asked) → (m : Result Made Stop) →
    IfOk m (λ made. IsDrawn asked.text making.workers (generated asked.count asked.start) made.kept.items
    (text_of_page made.page)) → IfOk m (λ made. made.after ≡ None) →
    IfOk m (λ made. (command_of Draws).makes words left (status_of_end made.after) made.kept.items
    (text_of_page made.page))
drawn words left making asked t (Err stop) d n = tt
drawn words left making asked t (Ok made) d n = (
  ap status_of_end n,
  drawn_asked making asked words made.kept.items (text_of_page made.page) (draw_task words making asked t) d,
)

-- the verdict that was told
pub checked : (words : List (String Global)) (left : Option (List ℕ)) (m : Result Made Stop) →
    IfOk m (λ made. TellsVerdict (status_of_end made.after)) → IfOk m (λ made. made.kept.items ≡ []) →
    IfOk m (λ made. IfSome left (IsChecked (status_of_end made.after) (text_of_page made.page))) →
    IfOk m (λ made. (command_of Checks).makes words left (status_of_end made.after) made.kept.items
    (text_of_page made.page))
checked words left (Err stop) v n r = tt
checked words left (Ok made) v n r = (v, n, r)
