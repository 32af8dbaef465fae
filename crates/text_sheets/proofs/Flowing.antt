-- Text on its way into a sink, a piece after another.
use Rattle.std.proofs.Common.{◌≡◌, refl, ◌++◌, List, [], ℕ, ◌≤◌, arith, sym, ap, subst, ◌∙◌, append_assoc, append-nil}
use Rattle.std.specs.Prelude.{Result, Ok, Err, OnOk, OnErr, Option}
use Rattle.std.specs.Io.KnownBytes.{Appends}
use Rattle.std.proofs.KnownBytes.{Appends-trans, Appends-nil}
use Rattle.std.specs.Result.{IsErr, IsOk}
use Rattle.byte_ends.specs.Ends.{AppendsFront, HasCause, Rose}
use Rattle.byte_ends.proofs.Cited.{AppendsFront_after}
use Rattle.text_sheets.specs.Pages.{Flows, FlowsInPart}

-- ---- a piece and what waits before it

-- what waits is written, and then the piece
pub passed_ok : {T E : Type 0} (a b c : Option (List ℕ)) (p q x : List ℕ) (o : Result T E) → Appends a b p → q ≡ [] →
    OnOk o (Appends b c x) → OnOk o (Flows a c p q x)
passed_ok a b c p q x (Ok v) w n g = record {
  written = p ++ x;
  parts = sym (append-nil (p ++ x)) ∙ ap (λ (l : List ℕ). (p ++ x) ++ l) (sym n);
  appended = Appends-trans a b c p x w g;
}
passed_ok a b c p q x (Err e) w n g = tt

-- what waits is written, and then a front of the piece
pub passed_err : {T E : Type 0} (a b c : Option (List ℕ)) (p x : List ℕ) (o : Result T E) → Appends a b p →
    AppendsFront b c x → OnErr o (FlowsInPart a c p x)
passed_err a b c p x (Ok v) w g = tt
passed_err a b c p x (Err e) w g = record {
  written = p ++ g.front;
  rest = g.rest;
  parts = ap (λ (l : List ℕ). p ++ l) g.parts ∙ sym (append_assoc p g.front g.rest);
  appended = Appends-trans a b c p g.front w g.appended;
}

-- a front of what waits is written
pub stopped : (a b : Option (List ℕ)) (p x : List ℕ) → AppendsFront a b p → FlowsInPart a b p x
stopped a b p x f = record {
  written = f.front;
  rest = f.rest ++ x;
  parts = ap (λ (l : List ℕ). l ++ x) f.parts ∙ append_assoc f.front f.rest x;
  appended = f.appended;
}

-- the piece waits behind what waits
pub waits : (a : Option (List ℕ)) (p q x : List ℕ) → q ≡ p ++ x → Flows a a p q x
waits a p q x e = record { written = []; parts = sym e; appended = Appends-nil a }

-- what waits is written, and the piece waits
pub waits_after : {a b : Option (List ℕ)} (p m q x : List ℕ) → Appends a b p → m ≡ [] → q ≡ m ++ x → Flows a b p q x
waits_after p m q x w n e = record {
  written = p;
  parts = ap (λ (l : List ℕ). p ++ l) (sym (e ∙ ap (λ (l : List ℕ). l ++ x) n));
  appended = w;
}

-- ---- pieces, one after another

-- nothing is put
pub flows_nothing : (a : Option (List ℕ)) (p : List ℕ) → Flows a a p p []
flows_nothing a p = record { written = []; parts = append-nil p; appended = Appends-nil a }

-- a piece, and then another
pub flows_then : {a b c : Option (List ℕ)} {p q r x y : List ℕ} → Flows a b p q x → Flows b c q r y →
    Flows a c p r (x ++ y)
flows_then {a} {b} {c} {p} {q} {r} {x} {y} f g = record {
  written = f.written ++ g.written;
  parts = sym (append_assoc p x y) ∙ ap (λ (l : List ℕ). l ++ y) f.parts ∙ append_assoc f.written q y ∙
      ap (λ (l : List ℕ). f.written ++ l) g.parts ∙ sym (append_assoc f.written g.written r);
  appended = Appends-trans a b c f.written g.written f.appended g.appended;
}

-- a piece, and then a front of another
pub flows_fails : {a b c : Option (List ℕ)} {p q x y : List ℕ} → Flows a b p q x → FlowsInPart b c q y →
    FlowsInPart a c p (x ++ y)
flows_fails {a} {b} {c} {p} {q} {x} {y} f g = record {
  written = f.written ++ g.written;
  rest = g.rest;
  parts = sym (append_assoc p x y) ∙ ap (λ (l : List ℕ). l ++ y) f.parts ∙ append_assoc f.written q y ∙
      ap (λ (l : List ℕ). f.written ++ l) g.parts ∙ sym (append_assoc f.written g.written g.rest);
  appended = Appends-trans a b c f.written g.written f.appended g.appended;
}

-- a front of a text is one of a longer text
pub more : {a b : Option (List ℕ)} {p x : List ℕ} (y : List ℕ) → FlowsInPart a b p x → FlowsInPart a b p (x ++ y)
more {a} {b} {p} {x} y f = record {
  written = f.written;
  rest = f.rest ++ y;
  parts = sym (append_assoc p x y) ∙ ap (λ (l : List ℕ). l ++ y) f.parts ∙ append_assoc f.written f.rest y;
  appended = f.appended;
}

-- ---- what a call answers

-- what fails owes nothing of Ok
pub not_ok : {T E : Type 0} (P : Type 0) (r : Result T E) → IsErr r → OnOk r P
not_ok P (Ok v) f = cc
not_ok P (Err e) f = tt

-- the cause of an error is that of the call that returns it
pub caused : {T U E : Type 0} {a b : ℕ} {e : E} (r : Result T E) → HasCause {T = U} a b (Err e) → HasCause a b r
caused (Ok v) h = record { later = h.later; failed = tt }
caused (Err e) h = record { later = h.later; failed = h.failed }

-- a count that rose in a later call rose in both together
pub rose_after : (a b c : ℕ) → a ≤ b → Rose b c → Rose a c
rose_after a b c l h = omega arith

-- where the count did not fall before the call
pub caused_after : {T U E : Type 0} {a b c : ℕ} {e : E} (r : Result T E) → a ≤ b → HasCause {T = U} b c (Err e) →
    HasCause a c r
caused_after {a = a} {b = b} {c = c} (Ok v) l h = record { later = omega (arith, l, h.later); failed = tt }
caused_after {a = a} {b = b} {c = c} (Err e) l h = record {
  later = omega (arith, l, h.later);
  failed =
      rose_after a b c l h.failed;
}

-- the same of what a call answers, whatever it is
pub cause_from : {T E : Type 0} {a b c : ℕ} (r : Result T E) → a ≤ b → HasCause b c r → HasCause a c r
cause_from (Ok v) l h = record { later = omega (arith, l, h.later); failed = tt }
cause_from (Err e) l h = caused_after (Err e) l h

-- a number is at most itself
pub at_once : (a : ℕ) → a ≤ a
at_once a = omega arith

-- what is at most a number is at most a greater one
pub up_to : (a b c : ℕ) → a ≤ b → b ≤ c → a ≤ c
up_to a b c l m = omega (arith, l, m)

-- ---- the last page

-- what was put is written, or a front of it
pub flushed_in_part : {a b : Option (List ℕ)} {q x : List ℕ} (c : Option (List ℕ)) → Flows a b [] q x →
    AppendsFront b c q → AppendsFront a c x
flushed_in_part {a} {b} {q} {x} c f w = subst (λ (t : List ℕ). AppendsFront a c t) (sym f.parts)
    (AppendsFront_after a b c f.written q f.appended w)

-- a front of what was put is written, where nothing waited before
pub fronted : {a b : Option (List ℕ)} {p x : List ℕ} → p ≡ [] → FlowsInPart a b p x → AppendsFront a b x
fronted {x = x} n f = record {
  front = f.written;
  rest = f.rest;
  parts = sym (ap (λ (l : List ℕ). l ++ x) n) ∙ f.parts;
  appended = f.appended;
}

-- what was put is written, where nothing waited before
pub flushed : {T E : Type 0} {a b : Option (List ℕ)} {p q x : List ℕ} (c : Option (List ℕ)) (r : Result T E) →
    p ≡ [] → Flows a b p q x → OnOk r (Appends b c q) → OnOk r (Appends a c x)
flushed {a = a} {b = b} {q = q} {x = x} c (Ok v) n f w =
    subst (λ (t : List ℕ). Appends a c t) (sym f.parts ∙ ap (λ (l : List ℕ). l ++ x) n)
    (Appends-trans a b c f.written q f.appended w)
flushed c (Err e) n f w = tt

-- a count that did not rise is of a call that went well
pub went_well : {T E : Type 0} {a b : ℕ} (r : Result T E) → HasCause a b r → (Rose a b → ⊥) → IsOk r
went_well (Ok v) h n = refl
went_well (Err e) h n = absurd (n h.failed)
