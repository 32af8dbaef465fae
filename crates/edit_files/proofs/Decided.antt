-- Judging a line finds whether it leads on where a reading is, and why it does not.
use Rattle.std.proofs.Common.{◌≡◌, ℕ, ◌<◌, ◌≤◌, Bool, true, false, cond, leb, List, [], ◌∷◌, ◌++◌, Option, Some, None}
use Rattle.std.proofs.Common.{Result, Ok, Err, refl, sym, ap, subst, ◌∙◌, inl, inr}
use Rattle.std.specs.Prelude.{◌⊎◌, codes}
use Rattle.std.specs.Str.{bytes_eq}
use Rattle.std.proofs.lemmas.Bool.{both_ways, cases_lt, false_from_ne_true, leb-false, leb-true, le-leb, lt-leb}
use Rattle.std.proofs.lemmas.Slice.Eq.{bytes_eq-Decides}
use Rattle.edit_history.specs.declared.history.Edit.{Edit}
use Rattle.edit_history.specs.declared.history.Edit.TheVariants.{Add, Take, Move}
use Rattle.text_readings.specs.declared.fault.Why.{Why}
use Rattle.text_readings.specs.declared.fault.Why.TheVariants.{Section, Field, Range, TooMany, Truncated}
use Rattle.text_readings.specs.Judging.{then_at}
use Rattle.text_readings.specs.PointLines.{IsNumber, HasPointForm, IsPointLine}
use Rattle.text_readings.specs.Scanning.{point}
use Rattle.text_readings.proofs.Cited.{Decides, err_one, off_form, off_range, ok_err, ok_one, point_form}
use Rattle.text_readings.proofs.Cited.{points_decided, takes, then_err, then_ok, word_err, word_is, word_not, word_ok}
use Rattle.edit_files.specs.declared.place.Part.{Part}
use Rattle.edit_files.specs.declared.place.Part.TheVariants.{Points, Edits, Radii, Queries}
use Rattle.edit_files.specs.declared.place.Due.{Due}
use Rattle.edit_files.specs.declared.place.Due.TheVariants.{Title, Heading, Body, Nothing}
use Rattle.edit_files.specs.declared.version.Version.{Version}
use Rattle.edit_files.specs.declared.version.Version.TheVariants.{One, Two, Three, Four}
use Rattle.edit_files.specs.Content.{Content, row}
use Rattle.edit_files.specs.Faults.{IsReason, is_word}
use Rattle.edit_files.specs.Grammar.{HasEditForm, IsEditLine, IsRadiusLine, HasFormOf, IsTaken, IsWithinNewest, Leads}
use Rattle.edit_files.specs.Grammar.{Limits, Reached, due_behind, lines_in, most_of, word_behind}
use Rattle.edit_files.specs.Judging.{after_line, edit, is_list_full, radius, step_at, taken, with_title, titled}
use Rattle.edit_files.proofs.DecidedEdits.{edits_decided, radii_decided}
use Rattle.edit_files.proofs.Words.{none_behind, none_word, not_behind, taken_none}

-- a place by its parts
abbrev pub at : Due → Content → Reached
at due f = record { due = due; taken = f }

-- what was taken, in a file of this version
abbrev pub of_version : Version → Content → Content
of_version v f = record f { version = v }

-- ---- the first line

-- the first line of a version tells it
titled_title : (v : Version) → titled (row v).title ≡ Some v
titled_title One = refl
titled_title Two = refl
titled_title Three = refl
titled_title Four = refl

-- a version that a line tells
abbrev told : Version → Option Version
told v = Some v

-- it tells one version
told_same : (v w : Version) → told v ≡ told w → v ≡ w
told_same v w h = cc

-- the first line that tells a version is its title
title_is : (line : List ℕ) (w : Version) → titled line ≡ Some w → line ≡ (row w).title
title_is line w = by (bytes_eq line (row One).title) (bytes_eq line (row Two).title) (bytes_eq line (row Three).title)
    (bytes_eq line (row Four).title) refl refl refl refl
  where
    is : (v : Version) → bytes_eq line (row v).title ≡ true → told v ≡ Some w → line ≡ (row w).title
    is v e h = (bytes_eq-Decides line (row v).title).0 e ∙ ap (λ (u : Version). (row u).title) (told_same v w h)

    by : (a b c d : Bool) → bytes_eq line (row One).title ≡ a → bytes_eq line (row Two).title ≡ b →
        bytes_eq line (row Three).title ≡ c → bytes_eq line (row Four).title ≡ d
        → cond a (Some One) (cond b (Some Two) (cond c (Some Three) (cond d (Some Four) None))) ≡ Some w →
        line ≡ (row w).title
    by true b c d p q r s h = is One p h
    by false true c d p q r s h = is Two q h
    by false false true d p q r s h = is Three r h
    by false false false true p q r s h = is Four s h
    by false false false false p q r s h = absurd cc

-- a first line that led on tells a version that is none after the newest
title_ok : (newest : Version) (f : Content) (o : Option Version) (b : Reached) → with_title newest f o ≡ Ok b →
    (v : Version) × (o ≡ told v) × ((row v).number ≤ (row newest).number) × (b ≡ at Heading (of_version v f))
title_ok newest f None b h = absurd (ok_err b Section (sym h))
title_ok newest f (Some w) b h = by (leb (row w).number (row newest).number) refl h
  where
    by : (t : Bool) → leb (row w).number (row newest).number ≡ t → cond t (Ok (at Heading (of_version w f)))
        (Err Section) ≡ Ok b → (v : Version) × (told w ≡ told v) × ((row v).number ≤ (row newest).number)
        × (b ≡ at Heading (of_version v f))
    by true le k = (w, refl, leb-true _ _ le, sym (ok_one (at Heading (of_version w f)) b k))
    by false le k = absurd (ok_err b Section (sym k))

-- such a line leads on
title_goes : (limits : Limits) (f : Content) (v : Version) → IsWithinNewest limits v →
    with_title limits.newest f (titled (row v).title) ≡ Ok (at Heading (of_version v f))
title_goes limits f v le =
    let within : leb (row v).number (row limits.newest).number ≡ true = le-leb _ _ le in
    ap (with_title limits.newest f) (titled_title v) ∙ rw within refl

-- another is refused as a section
title_err : (newest : Version) (f : Content) (o : Option Version) (why : Why) → with_title newest f o ≡ Err why →
    why ≡ Section
title_err newest f None why h = sym (err_one {A = Reached} Section why h)
title_err newest f (Some w) why h = by (leb (row w).number (row newest).number) h
  where
    by : (t : Bool) → cond t (Ok (at Heading (of_version w f))) (Err Section) ≡ Err why → why ≡ Section
    by true k = absurd (ok_err (at Heading (of_version w f)) why k)
    by false k = sym (err_one {A = Reached} Section why k)

-- and a wrong one is refused
title_wrong : (limits : Limits) (f : Content) (line : List ℕ) → IsReason limits Title f line Section →
    (o : Option Version) → titled line ≡ o → with_title limits.newest f o ≡ Err Section
title_wrong limits f line h None e = refl
title_wrong limits f line h (Some w) e =
    let late : leb (row w).number (row limits.newest).number ≡ false =
    false_from_ne_true _ (λ t. h w (title_is line w e) (leb-true _ _ t)) in
    rw late refl

-- ---- what is taken

-- an edit line has its form
edit_form : (v : Version) (line : List ℕ) (e : Edit) → IsEditLine v line e → HasEditForm v line
edit_form v line (Add p) s = (s.0, inl (inl s.1, point_form s.0 p s.2))
edit_form v line (Take p) s = (s.0, inl (inr s.1, point_form s.0 p s.2))
edit_form v line (Move a b) s = (
  s.0,
  inr (
    s.1,
    s.2,
    record {
      from = s.3.from;
      to = s.3.to;
      fields = s.3.fields;
      from_form = point_form s.3.from a s.3.from_point;
      to_form = point_form s.3.to b s.3.to_point;
    },
  ),
)

-- a line that is taken has its form
taken_form : (p : Part) (f : Content) (line : List ℕ) (g : Content) → IsTaken p f line g → HasFormOf f.version p line
taken_form Points f line g h = point_form line h.0 h.1
taken_form Edits f line g h = edit_form f.version line h.0 h.1
taken_form Radii f line g h = h.1.0.number
taken_form Queries f line g h = point_form line h.0 h.1

-- what is taken is taken of the lines that say it
pub taken_decided : (p : Part) (f : Content) → Decides (taken p f) (IsTaken p f) (HasFormOf f.version p)
taken_decided Points f = takes point (λ p. record f { points = f.points ++ p ∷ [] }) IsPointLine HasPointForm
    points_decided point_form
taken_decided Edits f = takes (edit f.version) (λ e. record f { edits = f.edits ++ e ∷ [] }) (IsEditLine f.version)
    (HasEditForm f.version) (edits_decided f.version) (edit_form f.version)
taken_decided Radii f = takes (radius f.version) (λ r. record f { radii = f.radii ++ r ∷ [] }) (IsRadiusLine f.version)
    IsNumber (radii_decided f.version) (λ line r s. s.0.number)
taken_decided Queries f = takes point (λ q. record f { queries = f.queries ++ q ∷ [] }) IsPointLine HasPointForm
    points_decided point_form

-- ---- a line in a list, by what is tested of it

-- a line that led on is the word behind the list, or one that was taken
body_ok : (w k full : Bool) (next : Reached) (r : Result Reached Why) (b : Reached) →
    cond w (Ok next) (cond k (Err Section) (cond full (Err TooMany) r)) ≡ Ok b →
    ((w ≡ true) × (b ≡ next)) ⊎ ((full ≡ false) × (r ≡ Ok b))
body_ok true k full next r b h = inl (refl, sym (ok_one next b h))
body_ok false true full next r b h = absurd (ok_err b Section (sym h))
body_ok false false true next r b h = absurd (ok_err b TooMany (sym h))
body_ok false false false next r b h = inr (refl, h)

-- why a line was refused
body_err : (w k full : Bool) (next : Reached) (r : Result Reached Why) (why : Why) →
    cond w (Ok next) (cond k (Err Section) (cond full (Err TooMany) r)) ≡ Err why →
    (w ≡ false) × (((k ≡ true) × (why ≡ Section)) ⊎ ((k ≡ false) × (((full ≡ true) × (why ≡ TooMany))
    ⊎ ((full ≡ false) × (r ≡ Err why)))))
body_err true k full next r why h = absurd (ok_err next why h)
body_err false true full next r why h = (refl, inl (refl, sym (err_one {A = Reached} Section why h)))
body_err false false true next r why h =
    (refl, inr (refl, inl (refl, sym (err_one {A = Reached} TooMany why h))))
body_err false false false next r why h = (refl, inr (refl, inr (refl, h)))

-- a line that is no word, where the list has room
body_is : (w k full : Bool) (next : Reached) (r : Result Reached Why) → w ≡ false → k ≡ false → full ≡ false →
    cond w (Ok next) (cond k (Err Section) (cond full (Err TooMany) r)) ≡ r
body_is w k full next r a b c = rw (a, b, c) refl

-- a list that is not full has room
has_room : (limits : Limits) (p : Part) (f : Content) → is_list_full limits p f ≡ false →
    lines_in p f < most_of limits p
has_room limits p f h = leb-false (most_of limits p) (lines_in p f) h

-- one with room is not full
room_has : (limits : Limits) (p : Part) (f : Content) → lines_in p f < most_of limits p →
    is_list_full limits p f ≡ false
room_has limits p f h = lt-leb (most_of limits p) (lines_in p f) h

-- and one without is
no_room : (limits : Limits) (p : Part) (f : Content) → ¬ (lines_in p f < most_of limits p) →
    is_list_full limits p f ≡ true
no_room limits p f h = elim (cases_lt (lines_in p f) (most_of limits p)) [
  | inl lt ↦ absurd (h lt)
  | inr le ↦ le-leb (most_of limits p) (lines_in p f) le
]

-- ---- a line, where this is due

-- where the reading goes on, the line leads there
at_sound : (limits : Limits) (due : Due) (f : Content) (line : List ℕ) (b : Reached) → step_at limits due f line ≡ Ok b
    → Leads limits due f line b
at_sound limits Title f line b h =
    let k = title_ok limits.newest f (titled line) b h in
    (k.0, title_is line k.0 k.1, k.2, k.3)
at_sound limits Heading f line b h = word_ok line (codes "points") (at (Body Points) f) b h
at_sound limits (Body p) f line b h =
    elim (body_ok (bytes_eq line (word_behind f.version p)) (is_word f.version line) (is_list_full limits p f)
    (at (due_behind f.version p) f) (then_at (at (Body p)) (taken p f line)) b h) [
      | inl c ↦ inl ((bytes_eq-Decides line (word_behind f.version p)).0 c.0, c.1)
      | inr c ↦
          let k = then_ok (at (Body p)) (taken p f line) b c.1 in
          inr (k.0, has_room limits p f c.0, (taken_decided p f).sound line k.0 k.1, k.2)
    ]
at_sound limits Nothing f line b h = absurd (ok_err b Section (sym h))

-- where a line leads on, the reading goes there
at_complete : (limits : Limits) (due : Due) (f : Content) (line : List ℕ) (b : Reached) → Leads limits due f line b
    → step_at limits due f line ≡ Ok b
at_complete limits Title f line b h =
    ap (λ (l : List ℕ). with_title limits.newest f (titled l)) h.1 ∙ title_goes limits f h.0 h.2
    ∙ ap (λ (r : Reached). Ok r) (sym h.3)
at_complete limits Heading f line b h =
    word_is line (codes "points") (at (Body Points) f) h.0 ∙ ap (λ (r : Reached). Ok r) (sym h.1)
at_complete limits (Body p) f line b h = elim h [
  | inl c ↦
      let e : bytes_eq line (word_behind f.version p) ≡ true =
      (bytes_eq-Decides line (word_behind f.version p)).1 c.0 in
      rw e (ap (λ (r : Reached). Ok r) (sym c.1))
  | inr c ↦
      let read : taken p f line ≡ Ok c.0 = (taken_decided p f).complete line c.0 c.2 in
      let none = taken_none p f line c.0 read in
      body_is (bytes_eq line (word_behind f.version p)) (is_word f.version line) (is_list_full limits p f)
      (at (due_behind f.version p) f) (then_at (at (Body p)) (taken p f line)) (none_behind f.version p line none)
      (none_word f.version line none) (room_has limits p f c.1)
      ∙ ap (then_at (at (Body p))) read ∙ ap (λ (r : Reached). Ok r) (sym c.3)
]
at_complete limits Nothing f line b h = absurd h

-- why a line of a list was refused is why it is wrong
taken_reason : (limits : Limits) (p : Part) (f : Content) (line : List ℕ) (why : Why) → taken p f line ≡ Err why →
    is_word f.version line ≡ false → lines_in p f < most_of limits p → IsReason limits (Body p) f line why
taken_reason limits p f line why h word room = elim ((taken_decided p f).only line why h) [
  | inl k ↦ subst (λ (w : Why). IsReason limits (Body p) f line w) (sym k) (
    λ t. both_ways _ word t,
    room,
    (taken_decided p f).field line (h ∙ ap (λ (w : Why). Err w) k),
  )
  | inr k ↦ subst (λ (w : Why). IsReason limits (Body p) f line w) (sym k) (
    λ t. both_ways _ word t,
    room,
    (taken_decided p f).range line (h ∙ ap (λ (w : Why). Err w) k),
    λ g is. ok_err g why (sym ((taken_decided p f).complete line g is) ∙ h),
  )
]

-- why a line was refused
at_reason : (limits : Limits) (due : Due) (f : Content) (line : List ℕ) (why : Why) → step_at limits due f line
    ≡ Err why → IsReason limits due f line why
at_reason limits Title f line why h =
    subst (λ (w : Why). IsReason limits Title f line w) (sym (title_err limits.newest f (titled line) why h))
    (λ v e le. ok_err (at Heading (of_version v f)) why (sym (ap (λ (l : List ℕ). with_title limits.newest f
    (titled l)) e ∙ title_goes limits f v le) ∙ h))
at_reason limits Heading f line why h =
    let k = word_err line (codes "points") (at (Body Points) f) why h in
    subst (λ (w : Why). IsReason limits Heading f line w) (sym k.1) k.0
at_reason limits (Body p) f line why h =
    let k = body_err (bytes_eq line (word_behind f.version p)) (is_word f.version line) (is_list_full limits p f)
    (at (due_behind f.version p) f) (then_at (at (Body p)) (taken p f line)) why h in
    elim k.1 [
      | inl c ↦ subst (λ (w : Why). IsReason limits (Body p) f line w) (sym c.1) (
        c.0,
        λ e. both_ways _ k.0 ((bytes_eq-Decides line (word_behind f.version p)).1 e),
      )
      | inr c ↦ elim c.1 [
        | inl d ↦ subst (λ (w : Why). IsReason limits (Body p) f line w) (sym d.1) (
          λ t. both_ways _ c.0 t,
          λ lt. both_ways _ (room_has limits p f lt) d.0,
        )
        | inr d ↦ taken_reason limits p f line why (then_err (at (Body p)) (taken p f line) why d.1) c.0
            (has_room limits p f d.0)
      ]
    ]
at_reason limits Nothing f line why h = subst (λ (w : Why). IsReason limits Nothing f line w)
    (err_one {A = Reached} Section why h) tt

-- a line of a list that is no word, where the list has room, comes to what is taken
refused_taken : (limits : Limits) (p : Part) (f : Content) (line : List ℕ) (why : Why) →
    ¬ (is_word f.version line ≡ true) → lines_in p f < most_of limits p → taken p f line ≡ Err why →
    step_at limits (Body p) f line ≡ Err why
refused_taken limits p f line why n room h =
    body_is (bytes_eq line (word_behind f.version p)) (is_word f.version line) (is_list_full limits p f)
    (at (due_behind f.version p) f) (then_at (at (Body p)) (taken p f line)) (not_behind f.version p line n)
    (false_from_ne_true _ n) (room_has limits p f room)
    ∙ ap (then_at (at (Body p))) h

-- where a line of a list is wrong, it is refused, and for this reason
reason_body : (limits : Limits) (p : Part) (f : Content) (line : List ℕ) (why : Why) → IsReason limits (Body p) f line
    why → step_at limits (Body p) f line ≡ Err why
reason_body limits p f line Section h =
    let other : bytes_eq line (word_behind f.version p) ≡ false =
    false_from_ne_true _ (λ t. h.1 ((bytes_eq-Decides line (word_behind f.version p)).0 t)) in
    let word : is_word f.version line ≡ true = h.0 in
    rw (other, word) refl
reason_body limits p f line TooMany h =
    let other : bytes_eq line (word_behind f.version p) ≡ false = not_behind f.version p line h.0 in
    let word : is_word f.version line ≡ false = false_from_ne_true _ h.0 in
    let full : is_list_full limits p f ≡ true = no_room limits p f h.1 in
    rw (other, word, full) refl
reason_body limits p f line Field h = refused_taken limits p f line Field h.0 h.1
    (off_form (taken p f) (IsTaken p f) (HasFormOf f.version p) (taken_decided p f) (taken_form p f) line
    (taken p f line) refl h.2)
reason_body limits p f line Range h = refused_taken limits p f line Range h.0 h.1
    (off_range (taken p f) (IsTaken p f) (HasFormOf f.version p) (taken_decided p f) line (taken p f line) refl h.2
    h.3)
reason_body limits p f line Truncated h = absurd h

-- so it is wherever the reading is
reason_at : (limits : Limits) (due : Due) (f : Content) (line : List ℕ) (why : Why) → IsReason limits due f line why
    → step_at limits due f line ≡ Err why
reason_at limits (Body p) f line why h = reason_body limits p f line why h
reason_at limits Title f line Section h = title_wrong limits f line h (titled line) refl
reason_at limits Title f line TooMany h = absurd h
reason_at limits Title f line Field h = absurd h
reason_at limits Title f line Range h = absurd h
reason_at limits Title f line Truncated h = absurd h
reason_at limits Heading f line Section h = word_not line (codes "points") (at (Body Points) f) h
reason_at limits Heading f line TooMany h = absurd h
reason_at limits Heading f line Field h = absurd h
reason_at limits Heading f line Range h = absurd h
reason_at limits Heading f line Truncated h = absurd h
reason_at limits Nothing f line Section h = refl
reason_at limits Nothing f line TooMany h = absurd h
reason_at limits Nothing f line Field h = absurd h
reason_at limits Nothing f line Range h = absurd h
reason_at limits Nothing f line Truncated h = absurd h

-- ---- a step

-- a step leads where it goes
pub step_sound : (limits : Limits) (a : Reached) (line : List ℕ) (b : Reached) → after_line limits a line ≡ Ok b →
    Leads limits a.due a.taken line b
unfolding after_line
step_sound limits a line b h = at_sound limits a.due a.taken line b h

-- and goes where the line leads
pub step_complete : (limits : Limits) (a : Reached) (line : List ℕ) (b : Reached) →
    Leads limits a.due a.taken line b → after_line limits a line ≡ Ok b
unfolding after_line
step_complete limits a line b h = at_complete limits a.due a.taken line b h

-- the reason of a refusal is why the line is wrong
pub step_reason : (limits : Limits) (a : Reached) (line : List ℕ) (why : Why) → after_line limits a line ≡ Err why →
    IsReason limits a.due a.taken line why
unfolding after_line
step_reason limits a line why h = at_reason limits a.due a.taken line why h

-- and where a line is wrong it is refused for that reason
pub reason_step : (limits : Limits) (a : Reached) (line : List ℕ) (why : Why) →
    IsReason limits a.due a.taken line why → after_line limits a line ≡ Err why
unfolding after_line
reason_step limits a line why h = reason_at limits a.due a.taken line why h
