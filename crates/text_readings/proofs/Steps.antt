-- What a step comes to: where a word is due, and where a line of a list is.
use Rattle.std.proofs.Common.{◌≡◌, ℕ, Bool, true, false, cond, List, Result, Ok, Err, refl, sym, ap, ◌∙◌, inl, inr}
use Rattle.std.specs.Prelude.{◌⊎◌, ◌≢◌}
use Rattle.std.specs.Str.{bytes_eq}
use Rattle.std.proofs.lemmas.Slice.Eq.{bytes_eq-Decides}
use Rattle.text_readings.specs.declared.fault.Why.{Why}
use Rattle.text_readings.specs.declared.fault.Why.TheVariants.{Section, Field, Range}
use Rattle.text_readings.specs.Judging.{then_at, with_one}
use Rattle.text_readings.proofs.Decided.{Decides}
use Rattle.text_readings.proofs.Results.{err_one, ok_err, ok_one}

-- ---- a word that is due

-- a word that was due was that word, and led on
pub word_ok : {S : Type 0} (line word : List ℕ) (next b : S) → cond (bytes_eq line word) (Ok next) (Err Section) ≡ Ok b
    → (line ≡ word) × (b ≡ next)
word_ok {S} line word next b h = by_test (bytes_eq line word) refl h
  where
    -- by the test
    by_test : (t : Bool) → bytes_eq line word ≡ t → cond t (Ok next) (Err Section) ≡ Ok b → (line ≡ word) × (b ≡ next)
    by_test true e k = ((bytes_eq-Decides line word).0 e, sym (ok_one next b k))
    by_test false e k = absurd (ok_err b Section (sym k))

-- that word leads on
pub word_is : {S : Type 0} (line word : List ℕ) (next : S) → line ≡ word → ◌≡◌ {A = Result S Why} (cond
    (bytes_eq line word) (Ok next) (Err Section)) (Ok next)
word_is line word next h = let e : bytes_eq line word ≡ true = (bytes_eq-Decides line word).1 h in rw e refl

-- what was refused was another line, and is wrong as a section
pub word_err : {S : Type 0} (line word : List ℕ) (next : S) (why : Why) → cond (bytes_eq line word) (Ok next)
    (Err Section) ≡ Err why → (line ≢ word) × (why ≡ Section)
word_err {S} line word next why h = by_test (bytes_eq line word) refl h
  where
    -- by the test
    by_test : (t : Bool) → bytes_eq line word ≡ t → cond t (Ok next) (Err Section) ≡ Err why → (line ≢ word) × (why
        ≡ Section)
    by_test true e k = absurd (ok_err next why k)
    by_test false e k = (
      λ same. ok_err next why (sym (word_is line word next same) ∙ h),
      sym (err_one {A = S} Section why k),
    )

-- another line is refused so
pub word_not : {S : Type 0} (line word : List ℕ) (next : S) → line ≢ word → ◌≡◌ {A = Result S Why} (cond
    (bytes_eq line word) (Ok next) (Err Section)) (Err Section)
word_not {S} line word next h = by_test (bytes_eq line word) refl
  where
    -- by the test
    by_test : (t : Bool) → bytes_eq line word ≡ t → ◌≡◌ {A = Result S Why} (cond t (Ok next) (Err Section))
        (Err Section)
    by_test true e = absurd (h ((bytes_eq-Decides line word).0 e))
    by_test false e = refl

-- ---- a line of a list

-- a line that led on was taken
pub then_ok : {Y S : Type 0} (place : Y → S) (r : Result Y Why) (b : S) → then_at place r ≡ Ok b → (g : Y) × (r ≡ Ok g)
    × (b ≡ place g)
then_ok place (Err why) b h = absurd (ok_err b why (sym h))
then_ok place (Ok g) b h = (g, refl, sym (ok_one (place g) b h))

-- and one that was refused was not, for the same reason
pub then_err : {Y S : Type 0} (place : Y → S) (r : Result Y Why) (why : Why) → then_at place r ≡ Err why → r ≡ Err why
then_err {S = S} place (Err w) why h = ap (λ v. Err v) (err_one {A = S} w why h)
then_err place (Ok g) why h = absurd (ok_err (place g) why h)

-- what was added
added_ok : {A Y : Type 0} (may : A → Bool) (add : A → Y) (r : Result A Why) (g : Y) → with_one may add r ≡ Ok g
    → (a : A) × (r ≡ Ok a) × (may a ≡ true) × (g ≡ add a)
added_ok may add (Err why) g h = absurd (ok_err g why (sym h))
added_ok {A} may add (Ok a) g h = by_test (may a) refl h
  where
    -- by the test
    by_test : (t : Bool) → may a ≡ t → cond t (Ok (add a)) (Err Range) ≡ Ok g → (b : A) × (◌≡◌ {A = Result A Why}
        (Ok a) (Ok b)) × (may b ≡ true) × (g ≡ add b)
    by_test true e k = (a, refl, e, sym (ok_one (add a) g k))
    by_test false e k = absurd (ok_err g Range (sym k))

-- why nothing was
added_err : {A Y : Type 0} (may : A → Bool) (add : A → Y) (r : Result A Why) (why : Why) → with_one may add r
    ≡ Err why → (r ≡ Err why) ⊎ ((a : A) × (r ≡ Ok a) × (why ≡ Range))
added_err {Y = Y} may add (Err w) why h = inl (ap (λ v. Err v) (err_one {A = Y} w why h))
added_err {A} {Y} may add (Ok a) why h = inr (a, refl, by_test (may a) h)
  where
    -- by the test
    by_test : (t : Bool) → cond t (Ok (add a)) (Err Range) ≡ Err why → why ≡ Range
    by_test true k = absurd (ok_err (add a) why k)
    by_test false k = sym (err_one {A = Y} Range why k)

-- what is added of a line that was read, and why not
pub record Adds {A Y : Type 0} (read : List ℕ → Result A Why) (may : A → Bool) (add : A → Y) (Says : List ℕ → A
    → Type 0) (Form : List ℕ → Type 0) : Type 0 where
  pub sound : (line : List ℕ) (g : Y) → with_one may add (read line) ≡ Ok g → (a : A) × Says line a × (may a ≡ true)
      × (g ≡ add a)
  pub complete : (line : List ℕ) (a : A) → Says line a → may a ≡ true → with_one may add (read line) ≡ Ok (add a)
  pub field : (line : List ℕ) → with_one may add (read line) ≡ Err Field → Form line → ⊥
  pub range : (line : List ℕ) → with_one may add (read line) ≡ Err Range → Form line
  pub only : (line : List ℕ) (why : Why) → with_one may add (read line) ≡ Err why → (why ≡ Field) ⊎ (why ≡ Range)

-- the form is not the range
field_not_range : Field ≡ Range → ⊥
field_not_range h = cc

-- where reading decides what a line says, adding decides what is taken
pub adds : {A Y : Type 0} (read : List ℕ → Result A Why) (may : A → Bool) (add : A → Y) (Says : List ℕ → A → Type 0)
    (Form : List ℕ → Type 0) → Decides read Says Form → ((line : List ℕ) (a : A) → Says line a → Form line)
    → Adds read may add Says Form
adds {A} {Y} read may add Says Form d form = record {
  sound = λ line g h. let k = added_ok may add (read line) g h in (k.0, d.sound line k.0 k.1, k.2, k.3);
  complete = λ line a says fits. ap (with_one may add) (d.complete line a says) ∙ ap (λ (t : Bool). cond t (Ok
      (add a)) (Err Range)) fits;
  field = λ line h has. elim (added_err may add (read line) Field h) [
    | inl k ↦ d.field line k has
    | inr k ↦ field_not_range k.2
  ];
  range = λ line h. elim (added_err may add (read line) Range h) [
    | inl k ↦ d.range line k
    | inr k ↦ form line k.0 (d.sound line k.0 k.1)
  ];
  only = λ line why h. elim (added_err may add (read line) why h) [
    | inl k ↦ d.only line why k
    | inr k ↦ inr k.2
  ];
}

-- so it is where whatever is read may stand
pub takes : {A Y : Type 0} (read : List ℕ → Result A Why) (add : A → Y) (Says : List ℕ → A → Type 0)
    (Form : List ℕ → Type 0) → Decides read Says Form → ((line : List ℕ) (a : A) → Says line a → Form line)
    → Decides (λ line. with_one (λ a. true) add (read line)) (λ line g. (a : A) × Says line a × (g ≡ add a)) Form
takes read add Says Form d form =
    let k = adds read (λ a. true) add Says Form d form in
    record {
      sound = λ line g h. let m = k.sound line g h in (m.0, m.1, m.3);
      complete = λ line g h. k.complete line h.0 h.1 refl ∙ ap (λ y. Ok y) (sym h.2);
      field = k.field;
      range = k.range;
      only = k.only;
    }

-- ---- a line that is not taken

module _ {A : Type 0} (read : List ℕ → Result A Why) (Says : List ℕ → A → Type 0) (Form : List ℕ → Type 0)
    (d : Decides read Says Form) where
  -- a line that is not of its list's form
  pub off_form : ((line : List ℕ) (a : A) → Says line a → Form line) → (line : List ℕ) (r : Result A Why) →
      read line ≡ r → ¬ (Form line) → r ≡ Err Field
  off_form form line (Ok a) e h = absurd (h (form line a (d.sound line a e)))
  off_form form line (Err why) e h = elim (d.only line why e) [
    | inl k ↦ ap (λ (w : Why). Err w) k
    | inr k ↦ absurd (h (d.range line (e ∙ ap (λ (w : Why). Err w) k)))
  ]

  -- and one that is, and is not taken
  pub off_range : (line : List ℕ) (r : Result A Why) → read line ≡ r → Form line → ((a : A) → ¬ (Says line a)) →
      r ≡ Err Range
  off_range line (Ok a) e form h = absurd (h a (d.sound line a e))
  off_range line (Err why) e form h = elim (d.only line why e) [
    | inl k ↦ absurd (d.field line (e ∙ ap (λ (w : Why). Err w) k) form)
    | inr k ↦ ap (λ (w : Why). Err w) k
  ]
