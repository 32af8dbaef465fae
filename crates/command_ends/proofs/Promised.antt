-- What follows of a run that ended, command by command.
use Rattle.std.specs.Prelude.{Option, None, Some, IfSome, String, suc, zero, ⊤}
use Rattle.std.specs.declared.alloc.Global.{Global}
use Rattle.edit_history.specs.declared.history.Entry.{Entry}
use Rattle.edit_history.specs.Histories.{replay}
use Rattle.std.specs.Io.KnownBytes.{Appends, Keeps}
use Rattle.std.proofs.Common.{◌≡◌, ◌≢◌, ◌⊎◌, ◌↔◌, inl, inr, refl, sym, subst, ap, ◌∙◌, ℕ, ◌≤◌, Bool, List, [], ◌++◌}
use Rattle.std.proofs.Common.{append-nil, false, true, arith, ◌<◌, length}
use Rattle.std.proofs.lemmas.Bool.{cases_eq, cases_lt}
use Rattle.list_laws.proofs.Cited.{if_some}
use Rattle.byte_ends.specs.Ends.{AppendsFront}
use Rattle.edit_files.specs.Content.{Content}
use Rattle.edit_files.specs.Grammar.{IsFile}
use Rattle.command_pages.specs.Run.{file_limits, IsKept, IsSolidFile, Writes, WritesFront, input_limit}
use Rattle.edit_files.proofs.Cited.{no_fault_of, one_file_of}
use Rattle.mesh_files.specs.Text.{report_text}
use Rattle.nearest_points.specs.declared.answers.Near.{Near}
use Rattle.nearest_points.specs.Points.{AreNear}
use Rattle.near_texts.specs.Text.{near_text}
use Rattle.plain_laws.specs.Plain.{IsAnchored}
use Rattle.solid_parts.specs.Parts.{AreSolidParts}
use Rattle.solid_parts.proofs.Cited.{same_count}
use Rattle.alpha_complex.specs.Shapes.{shape_of}
use Rattle.command_ends.specs.Drawn.{IsKeptOfDrawn, drawn_file}
use Rattle.command_ends.specs.Ends.{Ends}
use Rattle.command_ends.specs.PlainText.{plain_drawn, plain_text}
use Rattle.command_pages.specs.Report.{text_of_history}
use Rattle.command_pages.specs.Files.{IsOfFile}
use Rattle.command_ends.specs.Parted.{HasNoAlpha, HasNoPart, HasParts, IsAskedAlpha, IsParted, IsPartedFile, TellsAt}
use Rattle.command_ends.specs.Queried.{IsQueried}
use Rattle.command_ends.specs.Meshed.{IsReported, IsSteppedFile}
use Rattle.command_ends.specs.Stepped.{IsStepped}
use Rattle.command_pages.specs.Statuses.{HasText, IsEarly, IsWrittenWhole}
use Rattle.command_words.specs.Words.{Checks, Draws, Kind, Parts, Queries, ReadsFile, Reports, Steps, asked_alpha}
use Rattle.command_words.specs.Words.{asked_index, asked_most, asks_order, asks_shape, asks_text, worker_count}
use Rattle.command_words.specs.Words.{AreWordsTaken, kind_of_words, Asks}
use Rattle.command_ends.proofs.CommandEnds.{TellsOfBytes, ends_of}
use Rattle.command_ends.proofs.CommandPromises.{of_bytes, of_done}
use Rattle.command_ends.proofs.MadeAsAsked.{reading}
use Rattle.command_ends.proofs.TextStatuses.{has_text, stopped_only}
use Rattle.command_ends.proofs.PlainTexts.{drawn_is_plain, kept_is_plain}

-- no status above 10 comes, 8 and 9 only of `parts`, and 10 only of `check`
IsUpTo : Kind → ℕ → Type 0
IsUpTo kind status =
    (status ≤ 10) × ((status ≡ 8) ⊎ (status ≡ 9) → kind ≡ Parts) × (status ≡ 10 → kind ≡ Checks)

-- a status of at most 7 comes of every command
few : (kind : Kind) (status : ℕ) → status ≤ 7 → IsUpTo kind status
unfolding IsUpTo
few kind status l = (
  omega (arith, l),
  λ k. absurd (elim k [ inl e ↦ omega (arith, l, e) | inr e ↦ omega (arith, l, e) ]),
  λ e. absurd (omega (arith, l, e)),
)

-- what a command promises tells which statuses come
up_to_10 : (kind : Kind) (words : List (String Global)) (left : Option (List ℕ)) (status : ℕ) (h : List Entry)
    (text : List ℕ) → ends_of kind words left status h text → IsUpTo kind status
unfolding IsUpTo
up_to_10 Reports words left status h text p = few Reports status p.statuses
up_to_10 Steps words left status h text p = few Steps status p.statuses
up_to_10 Parts words left status h text p =
    let l = p.statuses in (omega (arith, l), λ k. refl, λ e. absurd (omega (arith, l, e)))
up_to_10 Queries words left status h text p = few Queries status p.statuses
up_to_10 Checks words left status h text p = elim p.statuses [
  | inl l ↦ few Checks status (omega (arith, l))
  | inr (inl e) ↦ few Checks status (omega (arith, e))
  | inr (inr e) ↦ (
    omega (arith, e),
    λ k. absurd (elim k [ inl z ↦ omega (arith, e, z) | inr z ↦ omega (arith, e, z) ]),
    λ k. refl,
  )
]
up_to_10 Draws words left status h text p = elim p.statuses [
  | inl l ↦ few Draws status (omega (arith, l))
  | inr e ↦ few Draws status (omega (arith, e))
]

-- ---- what is told of parts

-- at one alpha alone the parts are taken
one_alpha : (s : List ℕ) (alpha most : ℕ) (a b : Option ℕ) → IsAskedAlpha s alpha most a →
    IsAskedAlpha s alpha most b → a ≡ b
one_alpha s alpha zero a b p q = p ∙ sym q
one_alpha s alpha (suc k) None None p q = refl
one_alpha s alpha (suc k) None (Some b) p q = absurd (p b q.0 q.1)
one_alpha s alpha (suc k) (Some a) None p q = absurd (q a p.0 p.1)
one_alpha s alpha (suc k) (Some a) (Some b) p q = elim (cases_lt a b) [
  | inl l ↦ absurd (q.2 a l p.1)
  | inr l ↦ elim (cases_lt b a) [
    | inl m ↦ absurd (p.2 b m q.1)
    | inr m ↦ ap (λ (n : ℕ). Some n) (omega (arith, l, m))
  ]
]

-- where no alpha is asked for, a most of parts is, and there is none for it
asked_none : (s : List ℕ) (alpha most : ℕ) → IsAskedAlpha s alpha most None → HasNoAlpha s most
asked_none s alpha zero e = absurd (cc)
asked_none s alpha (suc k) p = (omega arith, p)

-- and where there is none for it, no alpha is asked for
none_asked : (s : List ℕ) (alpha most : ℕ) → HasNoAlpha s most → IsAskedAlpha s alpha most None
none_asked s alpha zero p = absurd (let l = p.0 in omega (arith, l))
none_asked s alpha (suc k) p = p.1

-- what is told at an alpha has status 0 or 8
told_at : (s : List ℕ) (at : ℕ) (index : Option ℕ) (status : ℕ) (text : List ℕ) → HasParts s at index status text →
    (status ≡ 0) ⊎ (status ≡ 8)
told_at s at None status text p = inl p.told.0
told_at s at (Some i) status text p = elim p.told [ inl t ↦ inl t.1 | inr t ↦ inr t.1 ]

-- what is not there has no value
not_some : (at : ℕ) (o : Option ℕ) → o ≡ None → o ≡ Some at → ⊥
not_some at o e f = cc

-- status 9 comes exactly where there is no alpha
pub nine_is : (s : List ℕ) (alpha most : ℕ) (index : Option ℕ) (status : ℕ) (text : List ℕ) →
    IsParted s alpha most index status text → (status ≡ 9) ↔ HasNoAlpha s most
nine_is s alpha most index status text p = by p.at p.asked p.told
  where
    by : (at : Option ℕ) → IsAskedAlpha s alpha most at → TellsAt s at index status text →
        (status ≡ 9) ↔ HasNoAlpha s most
    by None a t = (λ e. asked_none s alpha most a, λ n. t.0)
    by (Some at) a t = (
      λ e. absurd (elim (told_at s at index status text t)
          [ inl z ↦ omega (arith, z, e) | inr z ↦ omega (arith, z, e) ]),
      λ n. absurd (not_some at (Some at) (one_alpha s alpha most (Some at) None a (none_asked s alpha most n)) refl),
    )

-- status 8 comes exactly where there is no part of the index
pub eight_is : (s : List ℕ) (alpha most i status : ℕ) (text : List ℕ) →
    IsParted s alpha most (Some i) status text → (status ≡ 8) ↔ HasNoPart s alpha most i
eight_is s alpha most i status text p = by p.at p.asked p.told
  where
    counted : (a b : ℕ) (ps qs : List (List (List ℕ))) → Some a ≡ Some b → AreSolidParts (shape_of s a).cells ps →
        AreSolidParts (shape_of s b).cells qs → length ps ≡ length qs
    counted a b ps qs e p q =
        let same : a ≡ b = cc in
        same_count (shape_of s b).cells ps qs (subst (λ (n : ℕ). AreSolidParts (shape_of s n).cells ps) same p) q

    by : (at : Option ℕ) → IsAskedAlpha s alpha most at → TellsAt s at (Some i) status text →
        (status ≡ 8) ↔ HasNoPart s alpha most i
    by None a t = (
      λ e. absurd (let z = t.0 in omega (arith, z, e)),
      λ n. absurd (not_some n.at (Some n.at) (one_alpha s alpha most (Some n.at) None n.asked a) refl),
    )
    by (Some at) a t = (
      λ e. elim t.told [
        | inl k ↦ absurd (let z = k.1 in omega (arith, z, e))
        | inr k ↦ record { at = at; asked = a; parts = t.parts; are_parts = t.are_parts; past = k.0 }
      ],
      λ n. elim t.told [
        | inl k ↦
            absurd (let l = k.0 in let m = n.past in let c = counted at n.at t.parts n.parts
            (one_alpha s alpha most (Some at) (Some n.at) a n.asked) t.are_parts n.are_parts in omega (arith, l, m, c))
        | inr k ↦ k.1
      ],
    )

-- without an index it never comes
pub never_eight : (s : List ℕ) (alpha most status : ℕ) (text : List ℕ) →
    IsParted s alpha most None status text → status ≢ 8
never_eight s alpha most status text p e = by p.at p.told
  where
    by : (at : Option ℕ) → TellsAt s at None status text → ⊥
    by None t = let z = t.0 in omega (arith, z, e)
    by (Some at) t = let z = t.told.0 in omega (arith, z, e)

-- what the end of a run says of it
module _ {words : List (String Global)} {left left_after : Option (List ℕ)} {read_failed : Type 0}
    {held holds : Option (List ℕ)} {write_failed : Type 0} {status : ℕ} {kept : List Entry}
    (e : Ends words left left_after read_failed held holds write_failed status kept) where
  -- what follows of how the words were done
  promise : ends_of (kind_of_words words) words left status kept e.text
  promise = of_done words left read_failed status kept e.text e.done

  -- how high the status is, and of what command
  pub highest : (status ≤ 10) × ((status ≡ 8) ⊎ (status ≡ 9) → Asks Parts words) × (status ≡ 10 → Asks Checks words)
  unfolding IsUpTo
  highest = up_to_10 (kind_of_words words) words left status kept e.text promise

  -- the status is none of a text
  pub no_text : status ≢ 0 → status ≢ 4 → status ≤ 7 → HasText status → ⊥
  no_text a b l = stopped_only status l a b

  -- what a command of the kind of the words promises
  of_kind : {kind : Kind} → kind_of_words words ≡ kind → ends_of kind words left status kept e.text
  of_kind w = subst (λ (kind : Kind). ends_of kind words left status kept e.text) w promise

  -- what is promised of a report, of the least alphas, of parts, of queries, of a mesh, and of a drawn file
  pub of_report : Asks Reports words → ends_of Reports words left status kept e.text
  of_report w = of_kind w

  -- of the least alphas
  pub of_steps : Asks Steps words → ends_of Steps words left status kept e.text
  of_steps w = of_kind w

  -- of parts
  pub of_parts : Asks Parts words → ends_of Parts words left status kept e.text
  of_parts w = of_kind w

  -- of queries
  pub of_near : Asks Queries words → ends_of Queries words left status kept e.text
  of_near w = of_kind w

  -- of a mesh
  pub of_check : Asks Checks words → ends_of Checks words left status kept e.text
  of_check w = of_kind w

  -- and of a drawn file
  pub of_drawn : Asks Draws words → ends_of Draws words left status kept e.text
  of_drawn d = of_kind d

  -- what the statuses tell of the bytes
  verdict : ReadsFile words → (IsEarly status → ⊥) → IfSome left (TellsOfBytes status)
  verdict w late = (of_bytes (kind_of_words words) w.0 w.1).verdict words left status kept e.text promise late

  -- what follows of the verdict follows of the bytes that are read
  pub of_verdict : (P : List ℕ → Type 0) → ((bytes : List ℕ) → TellsOfBytes status bytes → P bytes) → ReadsFile words →
      (IsEarly status → ⊥) → IfSome left P
  of_verdict P f w late = if_some (TellsOfBytes status) P left f (verdict w late)

  -- what is kept of the file
  pub of_one : (P Q : Content → Type 0) → ((file : Content) → IsKept file (worker_count words) kept → Q file → P file)
      → IfSome left (IsOfFile (worker_count words) kept Q) → IfSome left
      (λ bytes. (file : Content) → IsFile file_limits bytes file → P file)
  of_one P Q f m =
      if_some (IsOfFile (worker_count words) kept Q)
      (λ bytes. (file : Content) → IsFile file_limits bytes file →
      P file) left (λ bytes m file is. subst P (one_file_of file_limits bytes m.file file m.is_file is)
      (f m.file m.kept m.text_is)) m

  -- what follows of a kept file follows of the file that the bytes are
  pub of_kept : (P : Content → Type 0) → ((file : Content) → IsKept file (worker_count words) kept → P file)
      → ReadsFile words → HasText status → IfSome left
      (λ bytes. (file : Content) → IsFile file_limits bytes file → P file)
  of_kept P f w s = of_one P (λ file. ⊤) (λ file k t. f file k)
      ((of_bytes (kind_of_words words) w.0 w.1).kept words left status kept e.text promise s)

  -- the answers to the queries of the file, whose text has become part of the output
  abbrev IsAnsweredIn : (List ℕ → Type 0) → Content → Type 0
  IsAnsweredIn written file =
      (nears : List Near) × AreNear (replay kept) file.queries nears × written (near_text (replay kept) nears)

  -- the text is that of the answers to the queries
  answers_of : (written : List ℕ → Type 0) (file : Content) → IsQueried (replay kept) file.queries e.text →
      written e.text → IsAnsweredIn written file
  answers_of written file q w = (q.nears, q.are_near, subst written q.text_is w)

  -- and what is written of it
  pub of_file : (P : Content → Type 0) → ((file : Content) → IsKept file (worker_count words) kept →
      e.text ≡ text_of_history (asks_shape words) (asks_order words) file kept → P file)
      → Asks Reports words → (status ≡ 0) ⊎ (status ≡ 4) → IfSome left
      (λ bytes. (file : Content) → IsFile file_limits bytes file → P file)
  of_file P f w s = of_one P (λ file. e.text ≡ text_of_history (asks_shape words) (asks_order words) file kept) f
      ((of_report w).made (has_text status s))

  -- the text of an anchored file, and of a drawn one
  pub anchored_text : (file : Content) → IsKept file (worker_count words) kept →
      e.text ≡ text_of_history (asks_shape words) (asks_order words) file kept → asks_order words ≡ false →
      IsAnchored file.points file.edits
      → e.text ≡ plain_text (asks_shape words) file
  anchored_text file k t o anchored =
      t ∙ ap (λ (b : Bool). text_of_history (asks_shape words) b file kept) o ∙ ap report_text
      (kept_is_plain (asks_shape words) file (worker_count words) kept anchored k.keeps e.legal)

  -- what is written of a drawn file goes by the words alone
  pub plain_of_drawn : Asks Draws words → (status ≡ 0) ⊎ (status ≡ 4) → e.text ≡ plain_drawn words
  plain_of_drawn d s = let m = (of_drawn d).made (has_text status s) in m.1 ∙ drawn_is_plain words (worker_count words)
      kept e.legal m.0

  -- of a solid file within the limit a run ends with status 1 or one of a whole text
  pub completes : AreWordsTaken words → ReadsFile words → IfSome left (λ bytes. IsSolidFile bytes → (read_failed → ⊥) →
      (write_failed → ⊥) → IsWrittenWhole status ⊎ (status ≡ 1))
  completes w k = by left (verdict k)
    where
      by : (left : Option (List ℕ)) → ((IsEarly status → ⊥) → IfSome left (TellsOfBytes status)) →
          IfSome left (λ bytes. IsSolidFile bytes → (read_failed → ⊥) → (write_failed → ⊥) → IsWrittenWhole status ⊎
          (status ≡ 1))
      by None v = tt
      by (Some bytes) v =
          λ solid nr nw.
          let ne2 : status ≢ 2 = λ k. (e.usage (λ m. absurd (omega (arith, k, m)))).0 k w in
          let ne3 : status ≢ 3 = λ k. nr (e.read_fault k) in
          let ne4 : status ≢ 4 = λ k. nw (e.write_fault k) in
          elim (cases_eq status 1) [
            | inl k ↦ inr k
            | inr ne1 ↦
                let told : TellsOfBytes status bytes = v (λ s. elim s
                [ inl k ↦ ne1 k | inr t ↦ elim t [ inl k ↦ ne2 k | inr k ↦ ne3 k ] ]) in
                let ne7 : status ≢ 7 = λ k. let l : input_limit < length bytes = told.too_long.0 k in let m =
                solid.0 in omega (arith, l, m) in
                let ne5 : status ≢ 5 = λ k. let f = (told.bad_line ne7).0 k in no_fault_of file_limits bytes solid.1.0
                f.0 solid.1.1 f.1 in
                let ne6 : status ≢ 6 = λ k. let flat = (told.not_solid ne7 solid.1.0 solid.1.1).0 k in let q =
                solid.1.2 in cc in
                inl (elim (cases_lt 7 status) [
                  | inl above ↦ inr above
                  | inr le ↦ inl (omega (arith, le, ne1, ne2, ne3, ne4, ne5, ne6, ne7))
                ])
          ]

  -- and of a command other than `parts` with 0 or 1
  pub completes_plainly : AreWordsTaken words → Asks Reports words ⊎ Asks Steps words ⊎ Asks Queries words →
      IfSome left (λ bytes. IsSolidFile bytes → (read_failed → ⊥) → (write_failed → ⊥) → (status ≡ 0) ⊎ (status ≡ 1))
  completes_plainly w k =
      let few : status ≤ 7 = elim k [
        | inl r ↦ (of_report r).statuses
        | inr (inl r) ↦ (of_steps r).statuses
        | inr (inr r) ↦ (of_near r).statuses
      ] in
      let reads : ReadsFile words = reading words (elim k [
        | inl r ↦ inl r
        | inr (inl r) ↦ inr (inl r)
        | inr (inr r) ↦ inr (inr (inr r))
      ]) in
      if_some (λ bytes. IsSolidFile bytes → (read_failed → ⊥) → (write_failed → ⊥) →
      IsWrittenWhole status ⊎ (status ≡ 1))
      (λ bytes. IsSolidFile bytes → (read_failed → ⊥) → (write_failed → ⊥) → (status ≡ 0) ⊎ (status ≡ 1)) left
      (λ bytes f solid nr nw. elim (f solid nr nw) [
        | inl (inl z) ↦ inl z
        | inl (inr l) ↦ absurd (omega (arith, l, few))
        | inr z ↦ inr z
      ]) (completes w reads)

  -- what follows of what a run tells of parts, by a status of a whole text, and where a text of status 0 is cut off
  abbrev Told : ℕ → Type 0
  Told n = IsParted (replay kept) (asked_alpha words) (asked_most words) (asked_index words) n e.text

  -- these bytes are a file of which parts are told so
  abbrev ToldFile : ℕ → List ℕ → Type 0
  ToldFile n bytes =
      IsPartedFile (worker_count words) (asked_alpha words) (asked_most words) (asked_index words) n kept e.text bytes

  -- what follows of parts that are told follows of the bytes that are read
  of_told : (P : Type 0) → (Told status → P) → (status ≡ 4 → Told 0 → P) → Asks Parts words → HasText status →
      IfSome left (λ bytes. P)
  of_told P f g w s = elim s [
    | inl whole ↦ if_some (ToldFile status) (λ bytes. P) left (λ bytes m. f m.text_is) ((of_parts w).made whole)
    | inr four ↦ if_some (ToldFile 0) (λ bytes. P) left (λ bytes m. g four m.text_is) ((of_parts w).cut four)
  ]

  -- 9 comes exactly where there is no alpha for the most of parts
  pub no_alpha : Asks Parts words → HasText status →
      IfSome left (λ bytes. status ≡ 9 ↔ HasNoAlpha (replay kept) (asked_most words))
  no_alpha = of_told (status ≡ 9 ↔ HasNoAlpha (replay kept) (asked_most words))
      (λ t. nine_is (replay kept) (asked_alpha words) (asked_most words) (asked_index words) status e.text t)
      (λ four t. (
        λ n. absurd (omega (arith, four, n)),
        λ h. absurd (let z = (nine_is (replay kept) (asked_alpha words) (asked_most words) (asked_index words) 0 e.text
            t).1 h in omega (arith, z)),
      ))

  -- 8 comes exactly where there is no part of the index
  pub no_part : (i : ℕ) → Asks Parts words → HasText status → asked_index words ≡ Some i →
      IfSome left (λ bytes. status ≡ 8 ↔ HasNoPart (replay kept) (asked_alpha words) (asked_most words) i)
  no_part i w s o = of_told (status ≡ 8 ↔ HasNoPart (replay kept) (asked_alpha words) (asked_most words) i)
      (λ t. eight_is (replay kept) (asked_alpha words) (asked_most words) i status e.text (at status t))
      (λ four t. (
        λ n. absurd (omega (arith, four, n)),
        λ h. absurd (let z = (eight_is (replay kept) (asked_alpha words) (asked_most words) i 0 e.text (at 0 t)).1 h in
            omega (arith, z)),
      )) w s
    where
      at : (n : ℕ) → Told n → IsParted (replay kept) (asked_alpha words) (asked_most words) (Some i) n e.text
      at n t = subst (λ (v : Option ℕ). IsParted (replay kept) (asked_alpha words) (asked_most words) v n e.text) o t

  -- and without an index it never comes
  pub no_index : Asks Parts words → HasText status → asked_index words ≡ None → IfSome left (λ bytes. status ≢ 8)
  no_index w s o = of_told (status ≢ 8)
      (λ t. never_eight (replay kept) (asked_alpha words) (asked_most words) status e.text
      (subst (λ (v : Option ℕ). IsParted (replay kept) (asked_alpha words) (asked_most words) v status e.text) o t))
      (λ four t n. omega (arith, four, n)) w s

  -- and what is written of it
  pub parts_written : Asks Parts words → status ≡ 0 →
      IfSome left (λ bytes. (text : List ℕ) × IsParted (replay kept) (asked_alpha words) (asked_most words)
      (asked_index words) 0 text × Appends held holds text)
  parts_written w z = if_some (ToldFile status)
      (λ bytes. (text : List ℕ) × IsParted (replay kept) (asked_alpha words) (asked_most words) (asked_index words) 0
      text × Appends held holds text) left
      (λ bytes m. (e.text, subst Told z m.text_is, e.whole (inl z))) ((of_parts w).made (inl z))

  -- or a front of it
  pub parts_front : Asks Parts words → status ≡ 4 →
      IfSome left (λ bytes. (text : List ℕ) × IsParted (replay kept) (asked_alpha words) (asked_most words)
      (asked_index words) 0 text × AppendsFront held holds text)
  parts_front w z = if_some (ToldFile 0)
      (λ bytes. (text : List ℕ) × IsParted (replay kept) (asked_alpha words) (asked_most words) (asked_index words) 0
      text × AppendsFront held holds text) left
      (λ bytes m. (e.text, m.text_is, e.front z)) ((of_parts w).cut z)

  -- what is written of the least alphas
  pub steps_written : Asks Steps words → status ≡ 0 →
      IfSome left (λ bytes. (text : List ℕ) × IsStepped (replay kept) text × Appends held holds text)
  steps_written w z = if_some (IsSteppedFile (worker_count words) kept e.text)
      (λ bytes. (text : List ℕ) × IsStepped (replay kept) text × Appends held holds text) left
      (λ bytes m. (e.text, m.text_is, e.whole (inl z))) ((of_steps w).made (inl (inl z)))

  -- or a front of it
  pub steps_front : Asks Steps words → status ≡ 4 →
      IfSome left (λ bytes. (text : List ℕ) × IsStepped (replay kept) text × AppendsFront held holds text)
  steps_front w z = if_some (IsSteppedFile (worker_count words) kept e.text)
      (λ bytes. (text : List ℕ) × IsStepped (replay kept) text × AppendsFront held holds text) left
      (λ bytes m. (e.text, m.text_is, e.front z)) ((of_steps w).made (inr z))

  -- what is written of the queries of the file that the bytes are
  pub near_written : Asks Queries words → status ≡ 0 → IfSome left
      (λ bytes. (file : Content) → IsFile file_limits bytes file → IsAnsweredIn (Appends held holds) file)
  near_written w z = of_one (IsAnsweredIn (Appends held holds)) (λ file. IsQueried (replay kept) file.queries e.text)
      (λ file k q. answers_of (Appends held holds) file q (e.whole (inl z))) ((of_near w).made (inl (inl z)))

  -- or a front of it
  pub near_front : Asks Queries words → status ≡ 4 → IfSome left
      (λ bytes. (file : Content) → IsFile file_limits bytes file → IsAnsweredIn (AppendsFront held holds) file)
  near_front w z = of_one (IsAnsweredIn (AppendsFront held holds)) (λ file. IsQueried (replay kept) file.queries e.text)
      (λ file k q. answers_of (AppendsFront held holds) file q (e.front z)) ((of_near w).made (inr z))

  -- above 7 it is 8, 9 or 10
  above : 7 < status → status ≢ 10 → (status ≡ 8) ⊎ (status ≡ 9)
  above l n = elim (cases_eq status 8) [
    | inl k ↦ inl k
    | inr m ↦ inr (let t = highest.0 in omega (arith, l, n, m, t))
  ]

  -- where none of them comes with a history, none is kept
  pub none_kept : status ≢ 0 → status ≢ 4 → status ≢ 8 → status ≢ 9 → kept ≡ []
  none_kept a b c d = elim (cases_lt 7 status) [
    | inl l ↦ elim (cases_eq status 10) [
      | inl t ↦ (of_check (highest.2 t)).no_history
      | inr n ↦ absurd (elim (above l n) [ inl k ↦ c k | inr k ↦ d k ])
    ]
    | inr l ↦ e.none_kept (no_text a b l)
  ]

  -- of no text nothing is written
  pub unchanged : status ≢ 0 → status ≢ 4 → status ≢ 10 → Keeps held holds
  unchanged a b n = elim (cases_lt 7 status) [
    | inl l ↦ kept_by held holds e.text ((of_parts (highest.1 (above l n))).nothing l) (e.whole (inr l))
    | inr l ↦ e.nothing (no_text a b l)
  ]
    where
      kept_by : (old new : Option (List ℕ)) (text : List ℕ) → text ≡ [] → Appends old new text → Keeps old new
      kept_by None new text n w = tt
      kept_by (Some x) None text n w = absurd w
      kept_by (Some x) (Some y) text n w = w ∙ ap (λ (l : List ℕ). x ++ l) n ∙ append-nil x

  -- what is written of the file that the bytes are
  pub written : Asks Reports words → status ≡ 0 → IfSome left (λ bytes. Writes (asks_shape words) (asks_order words)
      bytes held holds kept)
  written w s =
      if_some (IsReported (worker_count words) (asks_shape words) (asks_order words) kept e.text)
      (λ bytes. Writes (asks_shape words) (asks_order words) bytes held holds kept)
      left (λ bytes m. (m.file, m.is_file, subst (Appends held holds) m.text_is (e.whole (inl s))))
      ((of_report w).made (inl (inl s)))

  -- or a front of it
  pub written_front : Asks Reports words → status ≡ 4 → IfSome left
      (λ bytes. WritesFront (asks_shape words) (asks_order words) bytes held holds kept)
  written_front w s =
      if_some (IsReported (worker_count words) (asks_shape words) (asks_order words) kept e.text)
      (λ bytes. WritesFront (asks_shape words) (asks_order words) bytes held holds kept)
      left (λ bytes m. (m.file, m.is_file, subst (AppendsFront held holds) m.text_is (e.front s)))
      ((of_report w).made (inr s))

  -- where the text of a drawn file is asked for, no history is kept
  pub drawn_none : Asks Draws words → asks_text words ≡ true → kept ≡ []
  drawn_none d t =
      let none : (status ≡ 0) ⊎ (status ≡ 4) → kept ≡ [] =
      λ s. subst (λ (b : Bool). IsKeptOfDrawn b (drawn_file words) (worker_count words) kept) t
      ((of_drawn d).made (has_text status s)).0 in
      elim (cases_eq status 0) [
        | inl k ↦ none (inl k)
        | inr n ↦ elim (cases_eq status 4) [
          | inl k ↦ none (inr k)
          | inr m ↦ e.none_kept (no_text n m (elim (of_drawn d).statuses
              [ inl l ↦ omega (arith, l) | inr k ↦ omega (arith, k) ]))
        ]
      ]

  -- a drawn file ends a run with status 0 or 1
  pub drawn_completes : AreWordsTaken words → Asks Draws words → (write_failed → ⊥) → (status ≡ 0) ⊎ (status ≡ 1)
  drawn_completes w d nw =
      elim (cases_eq status 1) [
        | inl k ↦ inr k
        | inr ne1 ↦
            let ne2 : status ≢ 2 = λ k. (e.usage ne1).0 k w in
            let ne4 : status ≢ 4 = λ k. nw (e.write_fault k) in
            elim (of_drawn d).statuses [ inl l ↦ inl (omega (arith, l, ne1, ne2)) | inr k ↦ absurd (ne4 k) ]
      ]
