-- What is taken of a line of a list, and why it is not.
use Rattle.std.proofs.Common.{◌≡◌, ℕ, ◌<◌, Bool, true, false, cond, ltb, List, [], ◌∷◌, ◌++◌, Ok, Err, refl, sym, ap}
use Rattle.std.proofs.Common.{◌∙◌, arith, inl, inr}
use Rattle.std.specs.Prelude.{◌⊎◌, nat_lt}
use Rattle.std.specs.Str.{bytes_eq}
use Rattle.std.specs.Cmp.Lexicographic.{slice_cmp}
use Rattle.std.specs.Ordering.{nat_cmp, is_lt}
use Rattle.std.specs.declared.cmp.Ordering.{Ordering}
use Rattle.std.specs.declared.cmp.Ordering.TheVariants.{Less, Equal, Greater}
use Rattle.std.specs.Cmp.{nat_cmp_is}
use Rattle.std.proofs.lemmas.Bool.{cases_lt, le-ltb, ltb-true, lt-ltb}
use Rattle.std.proofs.lemmas.Slice.Eq.{bytes_eq-Decides}
use Rattle.edit_history.specs.declared.history.Reply.{Reply}
use Rattle.edit_history.specs.declared.history.Reply.TheVariants.{Inserted, Duplicate, Removed, Missing, Flat, Moved}
use Rattle.edit_history.specs.declared.history.Reply.TheVariants.{Occupied}
use Rattle.text_readings.specs.declared.fault.Why.{Why}
use Rattle.text_readings.specs.declared.fault.Why.TheVariants.{Field, Range}
use Rattle.text_readings.specs.PointLines.{HasPointForm, IsPointLine}
use Rattle.text_readings.specs.Scanning.{point}
use Rattle.text_readings.proofs.Cited.{Adds, Decides, adds, err_one, ok_err, ok_one, point_form, points_decided}
use Rattle.mesh_reader.specs.declared.place.Part.{Part}
use Rattle.mesh_reader.specs.declared.place.Part.TheVariants.{Replies, Points, Cells, Hull}
use Rattle.mesh_reader.specs.Grammar.{HasFormOf, HasNumbers, IsAfter, IsIndexLine, IsLess, IsTaken, MeshParts}
use Rattle.mesh_reader.specs.Grammar.{reply_word}
use Rattle.mesh_reader.specs.Judging.{indexed_corners, is_after_last, is_less, reply_among, reply_of, taken}
use Rattle.mesh_reader.proofs.Corners.{corners_decided, index_form}
use Rattle.list_laws.proofs.Cited.{is_less as less_from}

-- the form is not the range
field_not_range : Field ≡ Range → ⊥
field_not_range h = cc

-- ---- the last of a list

-- where the test decides the order, it decides it of the last
pub after_says : {X : Type 0} (before : X → X → Bool) (Before : X → X → Type 0) → ((a b : X) → before a b ≡ true
    → Before a b) → (l : List X) (q : X) → is_after_last before l q ≡ true → IsAfter Before l q
after_says before Before f [] q h = tt
after_says before Before f (r ∷ []) q h = f r q h
after_says before Before f (r ∷ o ∷ l) q h = after_says before Before f (o ∷ l) q h

-- and where it is so the test passes
pub says_after : {X : Type 0} (before : X → X → Bool) (Before : X → X → Type 0) → ((a b : X) → Before a b → before a b
    ≡ true) → (l : List X) (q : X) → IsAfter Before l q → is_after_last before l q ≡ true
says_after before Before f [] q h = refl
says_after before Before f (r ∷ []) q h = f r q h
says_after before Before f (r ∷ o ∷ l) q h = says_after before Before f (o ∷ l) q h

-- a list that is found less is less
less_says : (a b : List ℕ) → is_less a b ≡ true → IsLess a b
less_says a b h = less_from (slice_cmp nat_cmp a b) h

-- and one that is less is found so
says_less : (a b : List ℕ) → IsLess a b → is_less a b ≡ true
says_less a b h = ap is_lt h

-- ---- replies

-- the line is the word of the reply
abbrev pub IsReplyLine : List ℕ → Reply → Type 0
IsReplyLine line r = line ≡ reply_word r

-- a reply that was found is the one whose word the line is
among_sound : (rs : List Reply) (line : List ℕ) (r : Reply) → reply_among rs line ≡ Ok r → IsReplyLine line r
among_sound [] line r h = absurd cc
among_sound (x ∷ rs) line r h = by_test (bytes_eq line (reply_word x)) refl (among_sound rs line r) h
  where
    -- by the test
    by_test : (t : Bool) → bytes_eq line (reply_word x) ≡ t → (reply_among rs line ≡ Ok r → IsReplyLine line r)
        → cond t (Ok x) (reply_among rs line) ≡ Ok r → IsReplyLine line r
    by_test true e next k = (bytes_eq-Decides line (reply_word x)).0 e ∙ ap reply_word (ok_one x r k)
    by_test false e next k = next k

-- a line that is no word of a reply is wrong in form
among_only : (rs : List Reply) (line : List ℕ) (why : Why) → reply_among rs line ≡ Err why → why ≡ Field
among_only [] line why h = err_one {A = Reply} why Field (sym h)
among_only (x ∷ rs) line why h = by_test (bytes_eq line (reply_word x)) (among_only rs line why) h
  where
    -- by the test
    by_test : (t : Bool) → (reply_among rs line ≡ Err why → why ≡ Field) → cond t (Ok x) (reply_among rs line)
        ≡ Err why → why ≡ Field
    by_test true next k = absurd (ok_err x why k)
    by_test false next k = next k

-- each word is read as its reply
word_read : (r : Reply) → reply_of (reply_word r) ≡ Ok r
unfolding reply_of
word_read Inserted = refl
word_read Duplicate = refl
word_read Removed = refl
word_read Missing = refl
word_read Flat = refl
word_read Moved = refl
word_read Occupied = refl

-- a reply that is read of a line is the one whose word it is
reply_sound : (line : List ℕ) (r : Reply) → reply_of line ≡ Ok r → IsReplyLine line r
unfolding reply_of
reply_sound line r h = among_sound (Inserted ∷ Duplicate ∷ Removed ∷ Missing ∷ Flat ∷ Moved ∷ Occupied ∷ []) line r h

-- the word of a reply is read as it
reply_complete : (line : List ℕ) (r : Reply) → IsReplyLine line r → reply_of line ≡ Ok r
reply_complete line r h = ap reply_of h ∙ word_read r

-- a reply line is refused for its form
reply_only : (line : List ℕ) (why : Why) → reply_of line ≡ Err why → why ≡ Field
unfolding reply_of
reply_only line why h = among_only (Inserted ∷ Duplicate ∷ Removed ∷ Missing ∷ Flat ∷ Moved ∷ Occupied ∷ []) line why h

-- so reading a reply decides what a line says
replies_decided : Decides reply_of IsReplyLine (HasFormOf Replies)
replies_decided = record {
  sound = reply_sound;
  complete = reply_complete;
  field = λ line h form. ok_err form.0 Field (sym (reply_complete line form.0 form.1) ∙ h);
  range = λ line h. absurd (field_not_range (sym (reply_only line Range h)));
  only = λ line why h. inl (reply_only line why h);
}

-- ---- one line of a list

-- so it is with replies
reply_adds : (f : MeshParts) → Adds reply_of (λ r. true) (λ r. record f { replies = f.replies ++ r ∷ [] }) IsReplyLine
    (HasFormOf Replies)
reply_adds f = adds reply_of (λ r. true) (λ r. record f { replies = f.replies ++ r ∷ [] }) IsReplyLine
    (HasFormOf Replies) replies_decided (λ line r h. (r, h))

-- with points, which are to come behind those before
point_adds : (f : MeshParts) → Adds point (is_after_last nat_lt f.points)
    (λ p. record f { points = f.points ++ p ∷ [] })
    IsPointLine HasPointForm
point_adds f = adds point (is_after_last nat_lt f.points) (λ p. record f { points = f.points ++ p ∷ [] }) IsPointLine
    HasPointForm points_decided point_form

-- with cells
cell_adds : (f : MeshParts) → Adds (indexed_corners 4 f.points) (is_after_last is_less f.cells)
    (λ q. record f { cells = f.cells ++ q ∷ [] }) (IsIndexLine 4 f.points) (HasNumbers 4)
cell_adds f = adds (indexed_corners 4 f.points) (is_after_last is_less f.cells)
    (λ q. record f { cells = f.cells ++ q ∷ [] })
    (IsIndexLine 4 f.points) (HasNumbers 4) (corners_decided 3 f.points) (λ line q h. index_form 4 f.points line q h)

-- and with triples
triple_adds : (f : MeshParts) → Adds (indexed_corners 3 f.points) (is_after_last is_less f.hull)
    (λ q. record f { hull = f.hull ++ q ∷ [] }) (IsIndexLine 3 f.points) (HasNumbers 3)
triple_adds f = adds (indexed_corners 3 f.points) (is_after_last is_less f.hull)
    (λ q. record f { hull = f.hull ++ q ∷ [] })
    (IsIndexLine 3 f.points) (HasNumbers 3) (corners_decided 2 f.points) (λ line q h. index_form 3 f.points line q h)

-- ---- all lists

-- what is taken of a line is what it says
taken_sound : (p : Part) (f : MeshParts) (line : List ℕ) (g : MeshParts) → taken p f line ≡ Ok g → IsTaken p f line g
taken_sound Replies f line g h = let k = (reply_adds f).sound line g h in (k.0, k.1, k.3)
taken_sound Points f line g h = let k = (point_adds f).sound line g h in (
  k.0,
  k.1,
  after_says nat_lt (λ r q. r < q)
      (λ a b e. ltb-true a b e) f.points k.0 k.2,
  k.3,
)
taken_sound Cells f line g h = let k = (cell_adds f).sound line g h in (
  k.0,
  k.1,
  after_says is_less IsLess less_says
      f.cells k.0 k.2,
  k.3,
)
taken_sound Hull f line g h = let k = (triple_adds f).sound line g h in
    (k.0, k.1, after_says is_less IsLess less_says f.hull k.0 k.2, k.3)

-- and what it says is taken
taken_complete : (p : Part) (f : MeshParts) (line : List ℕ) (g : MeshParts) → IsTaken p f line g → taken p f line ≡ Ok g
taken_complete Replies f line g h = (reply_adds f).complete line h.0 h.1 refl ∙ ap (λ (m : MeshParts). Ok m) (sym h.2)
taken_complete Points f line g h = (point_adds f).complete line h.0 h.1 (says_after nat_lt (λ r q. r < q)
    (λ a b e. lt-ltb a b e) f.points h.0 h.2) ∙ ap (λ (m : MeshParts). Ok m) (sym h.3)
taken_complete Cells f line g h = (cell_adds f).complete line h.0 h.1 (says_after is_less IsLess says_less f.cells h.0
    h.2) ∙ ap (λ (m : MeshParts). Ok m) (sym h.3)
taken_complete Hull f line g h = (triple_adds f).complete line h.0 h.1 (says_after is_less IsLess says_less f.hull h.0
    h.2) ∙ ap (λ (m : MeshParts). Ok m) (sym h.3)

-- a line that is refused for its form is not of it
taken_field : (p : Part) (f : MeshParts) (line : List ℕ) → taken p f line ≡ Err Field → HasFormOf p line → ⊥
taken_field Replies f line h = (reply_adds f).field line h
taken_field Points f line h = (point_adds f).field line h
taken_field Cells f line h = (cell_adds f).field line h
taken_field Hull f line h = (triple_adds f).field line h

-- one that is refused for its range is of the form
taken_range : (p : Part) (f : MeshParts) (line : List ℕ) → taken p f line ≡ Err Range → HasFormOf p line
taken_range Replies f line h = (reply_adds f).range line h
taken_range Points f line h = (point_adds f).range line h
taken_range Cells f line h = (cell_adds f).range line h
taken_range Hull f line h = (triple_adds f).range line h

-- a line of a list is refused for its form or for its range
taken_only : (p : Part) (f : MeshParts) (line : List ℕ) (why : Why) → taken p f line ≡ Err why → (why ≡ Field) ⊎ (why
    ≡ Range)
taken_only Replies f line why h = (reply_adds f).only line why h
taken_only Points f line why h = (point_adds f).only line why h
taken_only Cells f line why h = (cell_adds f).only line why h
taken_only Hull f line why h = (triple_adds f).only line why h

-- what is taken is taken of the lines that say it
pub taken_decided : (p : Part) (f : MeshParts) → Decides (taken p f) (IsTaken p f) (HasFormOf p)
taken_decided p f = record {
  sound = λ line g h. taken_sound p f line g h;
  complete = λ line g h. taken_complete p f line g h;
  field = λ line h. taken_field p f line h;
  range = λ line h. taken_range p f line h;
  only = λ line why h. taken_only p f line why h;
}

-- a line that is taken has its form
pub taken_form : (p : Part) (f : MeshParts) (line : List ℕ) (g : MeshParts) → IsTaken p f line g → HasFormOf p line
taken_form Replies f line g h = (h.0, h.1)
taken_form Points f line g h = point_form line h.0 h.1
taken_form Cells f line g h = index_form 4 f.points line h.0 h.1
taken_form Hull f line g h = index_form 3 f.points line h.0 h.1

-- ---- the last of a list, as it is found

-- the last of a list with one behind it is that one
pub after_last : {X : Type 0} (before : X → X → Bool) (front : List X) (r q : X)
    → is_after_last before (front ++ r ∷ []) q
    ≡ before r q
after_last before [] r q = refl
after_last before (x ∷ []) r q = refl
after_last before (x ∷ y ∷ front) r q = after_last before (y ∷ front) r q

-- a list that compares as less is found less
pub less_is : (a b : List ℕ) → slice_cmp nat_cmp a b ≡ Less → is_less a b ≡ true
less_is a b h = ap is_lt h

-- and one that does not is not
pub less_not : (a b : List ℕ) → (slice_cmp nat_cmp a b ≡ Less → ⊥) → is_less a b ≡ false
less_not a b h = by_order (slice_cmp nat_cmp a b) h
  where
    -- by the order
    by_order : (o : Ordering) → (o ≡ Less → ⊥) → is_lt o ≡ false
    by_order Less n = absurd (n refl)
    by_order Equal n = refl
    by_order Greater n = refl

-- the order of numbers, as it is compared
pub lt_is : (a b : ℕ) → is_lt (nat_cmp a b) ≡ ltb a b
lt_is a b = elim (cases_lt a b) [
  | inl lt ↦ ap is_lt (sym (nat_cmp_is a b Less lt)) ∙ sym (lt-ltb a b lt)
  | inr le ↦ elim (cases_lt b a) [
    | inl gt ↦ ap is_lt (sym (nat_cmp_is a b Greater gt)) ∙ sym (le-ltb a b le)
    | inr ge ↦ ap is_lt (sym (nat_cmp_is a b Equal (omega (arith, le, ge)))) ∙ sym (le-ltb a b le)
  ]
]
