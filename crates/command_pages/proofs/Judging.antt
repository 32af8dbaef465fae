-- What the judging of a file says of its bytes.
use Rattle.std.proofs.Common.{◌≡◌, refl, subst, ap, ◌∙◌, ℕ, ◌+◌, ◌<◌, ◌≤◌, List, [], ◌∷◌, ◌++◌, length, arith, inl, inr}
use Rattle.std.specs.Prelude.{Option, None, Some, IfSome, IfErr, IfOk, Result, Ok, Err}
use Rattle.std.specs.List.{AllByRecursion}
use Rattle.edit_files.proofs.Cited.{file_is_within}
use Rattle.edit_files.specs.Content.{Content, row}
use Rattle.edit_files.specs.Held.{content}
use Rattle.edit_files.specs.declared.file.File.{File}
use Rattle.edit_files.specs.Grammar.{IsFile, Limits}
use Rattle.command_pages.specs.Reading.{AreRadii, IsFileOf, IsFileWithin}
use Rattle.command_pages.specs.Run.{file_limits, ReadsTo, input_limit}
use Rattle.edit_files.specs.Faults.{IsFault}
use Rattle.command_words.specs.declared.stop.Stop.{Stop}
use Rattle.command_words.specs.declared.stop.Stop.TheVariants.{Memory, BadLine, Flat, TooLong}
use Rattle.command_pages.specs.Files.{HasNoMesh, IsFlatFile}
use Rattle.std.proofs.lemmas.List.Elements.{All-cons}
use Rattle.std.proofs.lemmas.List.{length-append}
use Rattle.std.specs.Io.KnownBytes.{IsAtEnd}
use Rattle.byte_ends.specs.Ends.{TakesInto}

-- a file has at most as many points and edits as lines are allowed
pub file_small : (limits : Limits) (bytes : List ℕ) (f : Content) → IsFile limits bytes f →
    length f.points + length f.edits ≤ limits.lines
file_small limits bytes f h = (file_is_within limits bytes f h).line_count

-- the radii of a file are in the range of its version
pub radii_small : (limits : Limits) (bytes : List ℕ) (f : Content) → IsFile limits bytes f →
    AreRadii f.version f.radii
radii_small limits bytes f h = each_small f.radii (file_is_within limits bytes f h).radii
  where
    each_small : (radii : List ℕ) → AllByRecursion (λ r. r < (row f.version).radius_end) radii →
        AreRadii f.version radii
    each_small [] z = λ k d l. absurd (omega arith)
    each_small (r ∷ radii) z = All-cons (λ radius. radius < (row f.version).radius_end) r radii z.0
        (each_small radii z.1)

-- what holds of the bytes that were read to the end holds of those that the source told
pub if_told : (P : List ℕ → Type 0) (left : Option (List ℕ)) (old bytes now : List ℕ) → old ≡ [] → now ≡ bytes →
    IfSome left (λ told. bytes ≡ old ++ told) → P now → IfSome left P
if_told P None old bytes now e f h p = tt
if_told P (Some told) old bytes now e f h p = subst P (f ∙ h ∙ ap (λ (v : List ℕ). v ++ told) e) p

-- why there is no mesh of these bytes tells why there is none of what the source told
pub unmeshed_told : {A : Type 0} (left : Option (List ℕ)) (failed : Type 0) (old bytes now : List ℕ) → old ≡ [] →
    now ≡ bytes → IfSome left (λ told. bytes ≡ old ++ told) → (m : Result A Stop) → IfErr m (HasNoMesh (Some now) ⊥) →
    IfErr m (HasNoMesh left failed)
unmeshed_told left failed old bytes now e f h (Ok made) u = tt
unmeshed_told left failed old bytes now e f h (Err Memory) u = tt
unmeshed_told left failed old bytes now e f h (Err (BadLine line)) u = (
  record {
    fault = u.0.fault;
    line_is = u.0.line_is;
    cause = if_told (λ (b : List ℕ). IsFault file_limits b u.0.fault)
        left old bytes now e f h u.0.cause;
  },
  if_told (λ (b : List ℕ). length b ≤ input_limit) left old bytes now e f h u.1,
)
unmeshed_told left failed old bytes now e f h (Err Flat) u = if_told IsFlatFile left old bytes now e f h u
unmeshed_told left failed old bytes now e f h (Err TooLong) u = if_told (λ (b : List ℕ). input_limit < length b) left
    old bytes now e f h u
unmeshed_told left failed old bytes now e f h (Err stop) u = absurd u

-- ---- how much was taken of the source

-- a list that grew by the limit, and one more, took so many bytes
took : {a b : Option (List ℕ)} {old new : List ℕ} {limit : ℕ} (t : TakesInto a b old new limit) →
    length new ≡ length old + limit → length t.taken ≡ limit
took {old = old} t l = omega (arith, l, ap length t.kept, length-append old t.taken)

-- then the source had more than the limit left
pub past_limit : (a b : Option (List ℕ)) (old new : List ℕ) → TakesInto a b old new (input_limit + 1) →
    length new ≡ length old + (input_limit + 1) → IfSome a (λ bytes. input_limit < length bytes)
past_limit None b old new t l = tt
past_limit (Some xs) None old new t l = absurd t.consumed
past_limit (Some xs) (Some ys) old new t l = over (length t.taken) (length ys) (length xs) (took t l)
    (ap length t.consumed ∙ length-append t.taken ys)
  where
    over : (n m k : ℕ) → n ≡ input_limit + 1 → k ≡ n + m → input_limit < k
    over n m k e h = omega (arith, e, h)

-- and the input is too long
pub reads_past : {a b : Option (List ℕ)} {old new : List ℕ} → TakesInto a b old new (input_limit + 1) →
    length new ≡ length old + (input_limit + 1) → ReadsTo input_limit a b 7
reads_past t l = record {
  taken = t.taken;
  consumed = t.consumed;
  within = t.within;
  whole = λ n. inr (took t l);
  past =
      λ k. inl refl;
}

-- a list that grew by less took all that the source told
pub reads_all : {a b : Option (List ℕ)} {new : List ℕ} (old : List ℕ) (status : ℕ) →
    TakesInto a b old new (input_limit + 1) → IsAtEnd b → (length new ≡ length old + (input_limit + 1) → ⊥) →
    ReadsTo input_limit a b status
reads_all old status t e n = record {
  taken = t.taken;
  consumed = t.consumed;
  within = t.within;
  whole = λ k. inl e;
  past = λ k. absurd (n (ap length t.kept ∙ length-append old t.taken ∙ ap (λ (m : ℕ). length old + m) k));
}

-- where all is read, what comes behind it changes nothing of that
pub reads_front : (limit : ℕ) (old new : Option (List ℕ)) (status : ℕ) → ReadsTo limit old new 0 →
    ReadsTo limit old new status
reads_front limit old new status r =
    record {
      taken = r.taken;
      consumed = r.consumed;
      within = r.within;
      whole = λ late. r.whole (λ e. elim e [
        | inl a ↦ omega (arith, a)
        | inr t ↦ elim t
            [ inl a ↦ omega (arith, a) | inr a ↦ omega (arith, a) ]
      ]);
      past = λ e. absurd (elim (r.past e) [ inl a ↦ omega (arith, a) | inr a ↦ omega (arith, a) ]);
    }

-- what was read to the end is the file, and so is what the source told
pub file_told : (left : Option (List ℕ)) (old bytes now : List ℕ) → old ≡ [] → now ≡ bytes →
    IfSome left (λ told. bytes ≡ old ++ told) → (m : Result File Stop) →
    IfOk m (λ file. IsFileOf (Some now) (content file)) → IfOk m (λ file. IsFileOf left (content file))
file_told left old bytes now e f h (Err stop) r = tt
file_told left old bytes now e f h (Ok file) r = record {
  lines = r.lines;
  radii = r.radii;
  told = if_told (IsFileWithin (content file)) left old bytes now e f h r.told;
}
