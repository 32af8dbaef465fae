-- What is written of the points that an anchored file leaves goes by the file's lines.
use Rattle.std.proofs.Common.{◌≡◌, ◌↔◌, inl, inr, subst, ℕ, List}
use Rattle.std.specs.Prelude.{None, Option, Some, IfSome, String}
use Rattle.std.specs.Io.KnownBytes.{Appends}
use Rattle.std.specs.declared.alloc.Global.{Global}
use Rattle.byte_ends.specs.Ends.{AppendsFront}
use Rattle.edit_history.specs.declared.history.Entry.{Entry}
use Rattle.edit_history.specs.Histories.{replay}
use Rattle.edit_files.specs.Content.{Content}
use Rattle.edit_files.specs.Grammar.{IsFile}
use Rattle.plain_laws.specs.Plain.{IsAnchored}
use Rattle.plain_laws.proofs.Cited.{anchored_is_plain}
use Rattle.command_ends.specs.Ends.{Ends}
use Rattle.command_ends.specs.Parted.{HasNoAlpha, HasNoPart, IsParted}
use Rattle.command_ends.specs.PlainText.{plain_points}
use Rattle.command_ends.specs.Queried.{IsQueried}
use Rattle.command_pages.specs.Run.{IsKept, file_limits}
use Rattle.command_pages.specs.Statuses.{HasText}
use Rattle.command_ends.specs.Stepped.{IsStepped}
use Rattle.command_words.specs.Words.{asked_alpha, asked_index, asked_most, worker_count, Asks, Parts, Queries, Steps}
use Rattle.command_ends.proofs.MadeAsAsked.{reading}
use Rattle.command_ends.proofs.Promised.{no_alpha, no_part, of_kept, of_near, of_one, of_parts, of_steps}

-- what follows of two facts on the bytes, where they are told
both_told : (left : Option (List ℕ)) (P Q R : List ℕ → Type 0) → ((bytes : List ℕ) → P bytes → Q bytes → R bytes) →
    IfSome left P → IfSome left Q → IfSome left R
both_told None P Q R f p q = tt
both_told (Some bytes) P Q R f p q = f bytes p q

module _ {words : List (String Global)} {left left_after : Option (List ℕ)} {read_failed : Type 0}
    {held holds : Option (List ℕ)} {write_failed : Type 0} {status : ℕ} {kept : List Entry}
    (e : Ends words left left_after read_failed held holds write_failed status kept) where
  -- the points that the history of an anchored file leaves are those that its lines tell
  left_plainly : (file : Content) → IsKept file (worker_count words) kept → IsAnchored file.points file.edits →
      replay kept ≡ plain_points file
  left_plainly file k anchored =
      (anchored_is_plain file.points file.edits (worker_count words) kept anchored k.keeps e.legal).set

  -- of an anchored file the text of the points that its lines tell has become part of the output
  abbrev IsPlainly : (Content → List ℕ → List ℕ → Type 0) → (List ℕ → Type 0) → Content → Type 0
  IsPlainly P written file =
      IsAnchored file.points file.edits → (text : List ℕ) × P file (plain_points file) text × written text

  -- as it is that of the points that the history leaves
  plainly : (P : Content → List ℕ → List ℕ → Type 0) (written : List ℕ → Type 0) (file : Content) →
      IsKept file (worker_count words) kept → P file (replay kept) e.text → written e.text → IsPlainly P written file
  plainly P written file k p w anchored =
      (e.text, subst (λ (s : List ℕ). P file s e.text) (left_plainly file k anchored) p, w)

  -- the text of the least alphas
  abbrev OfSteps : Content → List ℕ → List ℕ → Type 0
  OfSteps file s text = IsStepped s text

  -- of parts that are told with a status
  abbrev OfParts : ℕ → Content → List ℕ → List ℕ → Type 0
  OfParts n file s text = IsParted s (asked_alpha words) (asked_most words) (asked_index words) n text

  -- of the answers to the queries
  abbrev OfNear : Content → List ℕ → List ℕ → Type 0
  OfNear file s text = IsQueried s file.queries text

  -- what follows of the file that the bytes are
  abbrev OfBytes : (Content → Type 0) → Type 0
  OfBytes P = IfSome left (λ bytes. (file : Content) → IsFile file_limits bytes file → P file)

  -- the least alphas
  pub steps_plainly : Asks Steps words → status ≡ 0 → OfBytes (IsPlainly OfSteps (Appends held holds))
  steps_plainly w z = of_one e (IsPlainly OfSteps (Appends held holds)) (λ file. OfSteps file (replay kept) e.text)
      (λ file k t. plainly OfSteps (Appends held holds) file k t (e.whole (inl z))) ((of_steps e w).made (inl (inl z)))

  -- or a front of them
  pub steps_plainly_front : Asks Steps words → status ≡ 4 → OfBytes (IsPlainly OfSteps (AppendsFront held holds))
  steps_plainly_front w z =
      of_one e (IsPlainly OfSteps (AppendsFront held holds)) (λ file. OfSteps file (replay kept) e.text)
      (λ file k t. plainly OfSteps (AppendsFront held holds) file k t (e.front z)) ((of_steps e w).made (inr z))

  -- the parts
  pub parts_plainly : Asks Parts words → status ≡ 0 → OfBytes (IsPlainly (OfParts 0) (Appends held holds))
  parts_plainly w z =
      of_one e (IsPlainly (OfParts 0) (Appends held holds)) (λ file. OfParts status file (replay kept) e.text)
      (λ file k t. plainly (OfParts 0) (Appends held holds) file k
      (subst (λ (n : ℕ). OfParts n file (replay kept) e.text) z t) (e.whole (inl z))) ((of_parts e w).made (inl z))

  -- or a front of them
  pub parts_plainly_front : Asks Parts words → status ≡ 4 → OfBytes (IsPlainly (OfParts 0) (AppendsFront held holds))
  parts_plainly_front w z =
      of_one e (IsPlainly (OfParts 0) (AppendsFront held holds)) (λ file. OfParts 0 file (replay kept) e.text)
      (λ file k t. plainly (OfParts 0) (AppendsFront held holds) file k t (e.front z)) ((of_parts e w).cut z)

  -- the answers to the queries
  pub near_plainly : Asks Queries words → status ≡ 0 → OfBytes (IsPlainly OfNear (Appends held holds))
  near_plainly w z = of_one e (IsPlainly OfNear (Appends held holds)) (λ file. OfNear file (replay kept) e.text)
      (λ file k t. plainly OfNear (Appends held holds) file k t (e.whole (inl z))) ((of_near e w).made (inl (inl z)))

  -- or a front of them
  pub near_plainly_front : Asks Queries words → status ≡ 4 → OfBytes (IsPlainly OfNear (AppendsFront held holds))
  near_plainly_front w z =
      of_one e (IsPlainly OfNear (AppendsFront held holds)) (λ file. OfNear file (replay kept) e.text)
      (λ file k t. plainly OfNear (AppendsFront held holds) file k t (e.front z)) ((of_near e w).made (inr z))

  -- the points that the history leaves are those of the lines of the file that the bytes are
  plain_of_bytes : Asks Parts words → HasText status →
      OfBytes (λ file. IsAnchored file.points file.edits → replay kept ≡ plain_points file)
  plain_of_bytes w s = of_kept e (λ file. IsAnchored file.points file.edits → replay kept ≡ plain_points file)
      left_plainly (reading words (inr (inr (inl w)))) s

  -- what is so of a status and the points that the history leaves is so of the points that the lines tell
  status_plainly : (Told : List ℕ → Type 0) → Asks Parts words → HasText status →
      IfSome left (λ bytes. Told (replay kept)) →
      OfBytes (λ file. IsAnchored file.points file.edits → Told (plain_points file))
  status_plainly Told w s told = both_told left (λ bytes. Told (replay kept))
      (λ bytes. (file : Content) → IsFile file_limits bytes file → IsAnchored file.points file.edits →
      replay kept ≡ plain_points file)
      (λ bytes. (file : Content) → IsFile file_limits bytes file → IsAnchored file.points file.edits →
      Told (plain_points file))
      (λ bytes t same file i a. subst Told (same file i a) t) told (plain_of_bytes w s)

  -- no alpha has so few parts
  pub no_alpha_plainly : Asks Parts words → HasText status →
      OfBytes (λ file. IsAnchored file.points file.edits →
      (status ≡ 9 ↔ HasNoAlpha (plain_points file) (asked_most words)))
  no_alpha_plainly w s =
      status_plainly (λ l. status ≡ 9 ↔ HasNoAlpha l (asked_most words)) w s (no_alpha e w s)

  -- no part has the index
  pub no_part_plainly : (i : ℕ) → Asks Parts words → HasText status → asked_index words ≡ Some i →
      OfBytes (λ file. IsAnchored file.points file.edits →
      (status ≡ 8 ↔ HasNoPart (plain_points file) (asked_alpha words) (asked_most words) i))
  no_part_plainly i w s o =
      status_plainly (λ l. status ≡ 8 ↔ HasNoPart l (asked_alpha words) (asked_most words) i) w s (no_part e i w s o)
