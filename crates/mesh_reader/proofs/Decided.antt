-- Judging a line finds whether it leads on where a reading is, and why it does not.
use Rattle.std.proofs.Common.{◌≡◌, ℕ, ◌<◌, ◌≤◌, Bool, true, false, cond, eqb, leb, List, [], ◌∷◌, ◌++◌, Option, Some}
use Rattle.std.proofs.Common.{None, Ok, Err, refl, sym, ap, subst, ◌∙◌, arith, inl, inr, eq-eqb}
use Rattle.std.specs.Prelude.{◌⊎◌, ◌≢◌, codes, MatchOption}
use Rattle.std.specs.Borrow.{Bor}
use Rattle.std.proofs.lemmas.Bool.{eqb-true, leb-true, le-leb, cases_lt, lt-leb}
use Rattle.text_readings.specs.declared.fault.Why.{Why}
use Rattle.text_readings.specs.declared.fault.Why.TheVariants.{Section, Field, Range, TooMany, Truncated}
use Rattle.text_readings.specs.Scanning.{far, number}
use Rattle.text_readings.proofs.Cited.{err_one, number_of, number_read, number_some, of_number, ok_err, ok_one}
use Rattle.text_readings.proofs.Cited.{off_form, off_range, reading, then_err, then_ok, word_err, word_is, word_not}
use Rattle.text_readings.proofs.Cited.{word_ok}
use Rattle.mesh_reader.specs.declared.place.Part.{Part}
use Rattle.mesh_reader.specs.declared.place.Part.TheVariants.{Replies, Points, Cells, Hull}
use Rattle.mesh_reader.specs.declared.place.Due.{Due}
use Rattle.mesh_reader.specs.declared.place.Due.TheVariants.{Title, Head, Body, Last, Nothing}
use Rattle.mesh_reader.specs.Grammar.{HasFormOf, HasHeadForm, IsHead, IsTaken, Leads, MeshParts, Reached, lines_due}
use Rattle.mesh_reader.specs.Grammar.{most_of, head_word}
use Rattle.mesh_reader.specs.Faults.{IsMeshReason}
use Rattle.mesh_reader.specs.Judging.{announced, head_count, headed, stripped, taken, then_due, transition}
use Rattle.mesh_reader.specs.Judging.{transition_at}
use Rattle.mesh_reader.proofs.Fields.{not_none, same_value}
use Rattle.mesh_reader.proofs.Taken.{taken_decided, taken_form}

-- ---- a word

-- a line behind its word
pub strip_front : (word rest : List ℕ) → stripped word (word ++ rest) ≡ Some rest
strip_front [] rest = refl
strip_front (w ∷ word) rest = let e : eqb w w ≡ true = eq-eqb w w refl in rw e (strip_front word rest)

-- and where something is left behind a word, the line begins with the word
pub strip_back : (word line rest : List ℕ) → stripped word line ≡ Some rest → line ≡ word ++ rest
strip_back [] line rest h = same_value line rest h
strip_back (w ∷ word) [] rest h = absurd (not_none rest h)
strip_back (w ∷ word) (b ∷ line) rest h = by_test (eqb b w) refl (strip_back word line rest) h
  where
    -- by the test
    by_test : (t : Bool) → eqb b w ≡ t → (stripped word line ≡ Some rest → line ≡ word ++ rest) → cond t
        (stripped word line) None ≡ Some rest → b ∷ line ≡ w ∷ (word ++ rest)
    by_test true e next k = let first : b ≡ w = eqb-true b w e in let back : line ≡ word ++ rest = next k in cc
    by_test false e next k = absurd (not_none rest k)

-- what the search for a word came to
pub strip_cases : (word line : List ℕ) (r : Option (Bor (List ℕ))) → MatchOption r ((rest : List ℕ)
    → line ≢ word ++ rest) (λ x. line ≡ word ++ x.now) → MatchOption r (stripped word line ≡ None)
    (λ x. stripped word line ≡ Some x.now)
strip_cases word line None h = by_result (stripped word line) refl
  where
    -- by what follows the word
    by_result : (o : Option (List ℕ)) → stripped word line ≡ o → o ≡ None
    by_result None e = refl
    by_result (Some rest) e = absurd (h rest (strip_back word line rest e))
strip_cases word line (Some x) h = ap (stripped word) h ∙ strip_front word x.now

-- ---- a head

-- by the word as it was searched for
pub announced_by : (p : Part) (line word : List ℕ) (o : Option (List ℕ)) → word ≡ head_word p → stripped word line ≡ o
    → announced p line ≡ head_count o
unfolding announced
announced_by p line word o e h = ap head_count (ap (λ (w : List ℕ). stripped w line) (sym e) ∙ h)

-- what a head announces is the number behind its word
announced_is : (p : Part) (line digits : List ℕ) → line ≡ head_word p ++ digits → announced p line ≡ number digits
unfolding announced
announced_is p line digits h = ap (λ (l : List ℕ). head_count (stripped (head_word p) l)) h ∙ ap head_count (strip_front
    (head_word p) digits)

-- a number that was read, with what it was read of
in_some : (o : Option (List ℕ)) (n : ℕ) → head_count o ≡ Some n → (digits : List ℕ) × (o ≡ Some digits) ×
    (number digits ≡ Some n)
in_some None n h = absurd (not_none n h)
in_some (Some digits) n h = (digits, refl, h)

-- a line of which a number is read is the word of the list and that number
announced_some : (p : Part) (line : List ℕ) (n : ℕ) → announced p line ≡ Some n → (digits : List ℕ) × (line
    ≡ head_word p ++ digits) × (number digits ≡ Some n)
unfolding announced
announced_some p line n h =
    let k = in_some (stripped (head_word p) line) n h in
    (k.0, strip_back (head_word p) line k.0 k.1, k.2)

-- the most lines are far from the bound of what is read
most_below : (p : Part) → most_of p < far
most_below Replies = omega arith
most_below Points = omega arith
most_below Cells = omega arith
most_below Hull = omega arith

-- a number that is read and is not too great makes a head
head_read : (p : Part) (n : ℕ) (line : List ℕ) → announced p line ≡ Some n → n ≤ most_of p → IsHead p n line
head_read p n line h le =
    let k = announced_some p line n h in
    record { digits = k.0; fields = k.1; value = of_number k.0 n k.2 (omega (arith, le, most_below p)); most = le }

-- and of a head its number is read
read_head : (p : Part) (n : ℕ) (line : List ℕ) → IsHead p n line → announced p line ≡ Some n
read_head p n line h = announced_is p line h.digits h.fields ∙ number_of h.digits n h.value (omega
    (arith, h.most, most_below p))

-- of a line of a head's form a number is read
form_some : (p : Part) (line : List ℕ) → HasHeadForm p line → (n : ℕ) × (announced p line ≡ Some n)
form_some p line h = (reading h.digits, announced_is p line h.digits h.fields ∙ number_read h.digits h.number)

-- and a line of which one is read is of the form
some_form : (p : Part) (line : List ℕ) (n : ℕ) → announced p line ≡ Some n → HasHeadForm p line
some_form p line n h = let k = announced_some p line n h in record {
  digits = k.0;
  fields = k.1;
  number = number_some
      k.0 n k.2;
}

-- where the number is, is the reading
headed_ok : (p : Part) (f : MeshParts) (o : Option ℕ) (b : Reached) → headed p f o ≡ Ok b → (n : ℕ) × (o ≡ Some n) ×
    (n ≤ most_of p) × (b ≡ record { due = lines_due p n; taken = f })
headed_ok p f None b h = absurd (ok_err b Section (sym h))
headed_ok p f (Some n) b h = by_test (leb n (most_of p)) refl h
  where
    -- by the test
    by_test : (t : Bool) → leb n (most_of p) ≡ t → cond t (Ok (record { due = lines_due p n; taken = f }))
        (Err TooMany) ≡ Ok b → (m : ℕ) × (◌≡◌ {A = Option ℕ} (Some n) (Some m)) × (m ≤ most_of p) × (b
        ≡ record { due = lines_due p m; taken = f })
    by_test true e k = (n, refl, leb-true n (most_of p) e, sym (ok_one (record { due = lines_due p n; taken = f }) b k))
    by_test false e k = absurd (ok_err b TooMany (sym k))

-- a head that announces few enough lines leads to them
headed_is : (p : Part) (f : MeshParts) (n : ℕ) → n ≤ most_of p → headed p f (Some n) ≡ Ok
    (record { due = lines_due p n; taken = f })
headed_is p f n le = let e : leb n (most_of p) ≡ true = le-leb n (most_of p) le in rw e refl

-- one that announces too many is refused for that
headed_many : (p : Part) (f : MeshParts) (n : ℕ) → most_of p < n → headed p f (Some n) ≡ Err TooMany
headed_many p f n lt = let e : leb n (most_of p) ≡ false = lt-leb n (most_of p) lt in rw e refl

-- a head is refused as a section where it is none, or for too many lines
headed_err : (p : Part) (f : MeshParts) (o : Option ℕ) (why : Why) → headed p f o ≡ Err why → ((o ≡ None) × (why
    ≡ Section)) ⊎ ((n : ℕ) × (o ≡ Some n) × (most_of p < n) × (why ≡ TooMany))
headed_err p f None why h = inl (refl, sym (err_one {A = Reached} Section why h))
headed_err p f (Some n) why h = elim (cases_lt (most_of p) n) [
  | inl lt ↦ inr (n, refl, lt, sym (err_one {A = Reached} TooMany why (sym (headed_many p f n lt) ∙ h)))
  | inr le ↦ absurd (ok_err (record { due = lines_due p n; taken = f }) why (sym (headed_is p f n le) ∙ h))
]

-- ---- a line, where this is due

-- where a line of a list leads
abbrev due_then : Due → MeshParts → Reached
due_then due g = record { due = due; taken = g }

-- where the reading goes on, the line leads there
at_sound : (due : Due) (f : MeshParts) (line : List ℕ) (b : Reached) → transition_at due f line ≡ Ok b
    → Leads due f line b
at_sound Title f line b h = word_ok line (codes "mesh3-out 1") (record { due = Head Replies; taken = f }) b h
at_sound (Head p) f line b h =
    let k = headed_ok p f (announced p line) b h in
    (k.0, head_read p k.0 line k.1 k.2, k.3)
at_sound (Body p n) f line b h =
    let k = then_ok (due_then (lines_due p n)) (taken p f line) b h in
    (k.0, (taken_decided p f).sound line k.0 k.1, k.2)
at_sound Last f line b h = word_ok line (codes "end") (record { due = Nothing; taken = f }) b h
at_sound Nothing f line b h = absurd (ok_err b Section (sym h))

-- where a line leads on, the reading goes there
at_complete : (due : Due) (f : MeshParts) (line : List ℕ) (b : Reached) → Leads due f line b
    → transition_at due f line ≡ Ok b
at_complete Title f line b h = word_is line (codes "mesh3-out 1") (record { due = Head Replies; taken = f }) h.0 ∙ ap
    (λ (r : Reached). Ok r) (sym h.1)
at_complete (Head p) f line b h =
    ap (headed p f) (read_head p h.0 line h.1) ∙ headed_is p f h.0 h.1.most ∙ ap (λ (r : Reached). Ok r) (sym h.2)
at_complete (Body p n) f line b h =
    ap (then_due (lines_due p n)) ((taken_decided p f).complete line h.0 h.1) ∙ ap (λ (r : Reached). Ok r) (sym h.2)
at_complete Last f line b h = word_is line (codes "end") (record { due = Nothing; taken = f }) h.0 ∙ ap (λ
    (r : Reached). Ok r) (sym h.1)
at_complete Nothing f line b h = absurd h

-- a line that leads on is not refused
no_reason : (due : Due) (f : MeshParts) (line : List ℕ) (b : Reached) (why : Why) → transition_at due f line ≡ Err why
    → Leads due f line b → ⊥
no_reason due f line b why h leads = ok_err b why (sym (at_complete due f line b leads) ∙ h)

-- why a head was refused is why it is wrong
head_reason : (p : Part) (f : MeshParts) (line : List ℕ) (why : Why) → headed p f (announced p line) ≡ Err why
    → IsMeshReason (Head p) f line why
head_reason p f line why h = elim (headed_err p f (announced p line) why h) [
  | inl k ↦ subst (λ (w : Why). IsMeshReason (Head p) f line w) (sym k.1) (λ form. let s = form_some p line form in
      not_none s.0 (sym k.0 ∙ s.1))
  | inr k ↦ subst (λ (w : Why). IsMeshReason (Head p) f line w) (sym k.3) (
    some_form p line k.0 k.1,
    λ n head. no_reason (Head p) f line (record { due = lines_due p n; taken = f }) why h
        (n, head, refl),
  )
]

-- and so with a line of a list
body_reason : (p : Part) (n : ℕ) (f : MeshParts) (line : List ℕ) (why : Why) → taken p f line ≡ Err why → IsMeshReason
    (Body p n) f line why
body_reason p n f line why h = elim ((taken_decided p f).only line why h) [
  | inl k ↦ subst (λ (w : Why). IsMeshReason (Body p n) f line w) (sym k)
      (λ form. (taken_decided p f).field line (h ∙ ap
      (λ (w : Why). Err w) k) form)
  | inr k ↦ subst (λ (w : Why). IsMeshReason (Body p n) f line w) (sym k) (
    (taken_decided p f).range line (h ∙ ap (λ (w : Why). Err w) k),
    λ g is. ok_err g why (sym
        ((taken_decided p f).complete line g is) ∙ h),
  )
]

-- why a line was refused
at_reason : (due : Due) (f : MeshParts) (line : List ℕ) (why : Why) → transition_at due f line ≡ Err why
    → IsMeshReason due f line why
at_reason Title f line why h =
    let k = word_err line (codes "mesh3-out 1") (record { due = Head Replies; taken = f }) why h in
    subst (λ (w : Why). IsMeshReason Title f line w) (sym k.1) k.0
at_reason (Head p) f line why h = head_reason p f line why h
at_reason (Body p n) f line why h =
    body_reason p n f line why (then_err (due_then (lines_due p n)) (taken p f line) why h)
at_reason Last f line why h =
    let k = word_err line (codes "end") (record { due = Nothing; taken = f }) why h in
    subst (λ (w : Why). IsMeshReason Last f line w) (sym k.1) k.0
at_reason Nothing f line why h = subst (λ (w : Why). IsMeshReason Nothing f line w)
    (err_one {A = Reached} Section why h) tt

-- ---- the other way round

-- a head that is none is refused
none_head : (p : Part) (f : MeshParts) (line : List ℕ) (o : Option ℕ) → announced p line ≡ o → ¬ (HasHeadForm p line)
    → headed p f o ≡ Err Section
none_head p f line None e h = refl
none_head p f line (Some n) e h = absurd (h (some_form p line n e))

-- and one that announces too many
many_head : (p : Part) (f : MeshParts) (line : List ℕ) → HasHeadForm p line → ((n : ℕ) → ¬ (IsHead p n line))
    → headed p f (announced p line) ≡ Err TooMany
many_head p f line form h =
    let s = form_some p line form in
    elim (cases_lt (most_of p) s.0) [
      | inl lt ↦ ap (headed p f) s.1 ∙ headed_many p f s.0 lt
      | inr le ↦ absurd (h s.0 (head_read p s.0 line s.1 le))
    ]

-- where a line is wrong, it is refused, and for this reason
reason_at : (due : Due) (f : MeshParts) (line : List ℕ) (why : Why) → IsMeshReason due f line why
    → transition_at due f line
    ≡ Err why
reason_at Title f line Section h = word_not line (codes "mesh3-out 1") (record { due = Head Replies; taken = f }) h
reason_at (Head p) f line Section h = none_head p f line (announced p line) refl h
reason_at (Body p n) f line Section h = absurd h
reason_at Last f line Section h = word_not line (codes "end") (record { due = Nothing; taken = f }) h
reason_at Nothing f line Section h = refl
reason_at Title f line TooMany h = absurd h
reason_at (Head p) f line TooMany h = many_head p f line h.0 h.1
reason_at (Body p n) f line TooMany h = absurd h
reason_at Last f line TooMany h = absurd h
reason_at Nothing f line TooMany h = absurd h
reason_at Title f line Field h = absurd h
reason_at (Head p) f line Field h = absurd h
reason_at (Body p n) f line Field h =
    ap (then_due (lines_due p n)) (off_form (taken p f) (IsTaken p f) (HasFormOf p) (taken_decided p f) (taken_form p f)
    line (taken p f line) refl h)
reason_at Last f line Field h = absurd h
reason_at Nothing f line Field h = absurd h
reason_at Title f line Range h = absurd h
reason_at (Head p) f line Range h = absurd h
reason_at (Body p n) f line Range h =
    ap (then_due (lines_due p n)) (off_range (taken p f) (IsTaken p f) (HasFormOf p) (taken_decided p f) line
    (taken p f line) refl h.0 h.1)
reason_at Last f line Range h = absurd h
reason_at Nothing f line Range h = absurd h
reason_at Title f line Truncated h = absurd h
reason_at (Head p) f line Truncated h = absurd h
reason_at (Body p n) f line Truncated h = absurd h
reason_at Last f line Truncated h = absurd h
reason_at Nothing f line Truncated h = absurd h

-- ---- a step

-- a step leads where it goes
pub step_sound : (a : Reached) (line : List ℕ) (b : Reached) → transition a line ≡ Ok b → Leads a.due a.taken line b
unfolding transition
step_sound a line b h = at_sound a.due a.taken line b h

-- and goes where the line leads
pub step_complete : (a : Reached) (line : List ℕ) (b : Reached) → Leads a.due a.taken line b → transition a line ≡ Ok b
unfolding transition
step_complete a line b h = at_complete a.due a.taken line b h

-- the reason of a refusal is why the line is wrong
pub step_reason : (a : Reached) (line : List ℕ) (why : Why) → transition a line ≡ Err why
    → IsMeshReason a.due a.taken line why
unfolding transition
step_reason a line why h = at_reason a.due a.taken line why h

-- and where a line is wrong it is refused for that reason
pub reason_step : (a : Reached) (line : List ℕ) (why : Why) → IsMeshReason a.due a.taken line why
    → transition a line ≡ Err why
unfolding transition
reason_step a line why h = reason_at a.due a.taken line why h
