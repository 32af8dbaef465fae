-- Laws of counts of faults and of text that arrived in part, for loops over sources and sinks.
use Rattle.std.proofs.Common.{◌≡◌, ℕ, ◌+◌, ◌-◌, ◌≤◌, ◌<◌, List, ◌++◌, length, length-append, IfSome, ap, sym, ◌∙◌}
use Rattle.std.proofs.Common.{append_assoc, append-nil, false, true, arith, [], Result, Ok, Err, IsErr, IsErrAnd}
use Rattle.std.specs.declared.option.Option.{Option}
use Rattle.std.specs.Io.KnownBytes.{Appends, IsAtEnd, Keeps}
use Rattle.std.proofs.KnownBytes.{Appends-trans, Consumes-all, Consumes-kept, Consumes-nil, Consumes-trans}
use Rattle.std.proofs.Common.{take, drop, take-append-drop, length-take, min, OnErr}
use Rattle.std.proofs.lemmas.List.{take_rest, take-append-le, length-take-le}
use Rattle.byte_ends.specs.Ends.{AppendsFront, TakesInto}

-- a piece arrived whole, and then a front of what comes after it
pub AppendsFront_after : (a b c : Option (List ℕ)) (piece text : List ℕ) → Appends a b piece → AppendsFront b c text →
    AppendsFront a c (piece ++ text)
AppendsFront_after a b c piece text whole f = record {
  front = piece ++ f.front;
  rest = f.rest;
  parts = ap (λ l. piece ++ l) f.parts ∙ sym (append_assoc piece f.front f.rest);
  appended = Appends-trans a b c piece f.front whole f.appended;
}

-- a text was written up to its rest, and then a part of the rest: what is left is the range behind that part
pub written_more : (a b c : Option (List ℕ)) (text rest : List ℕ) (count : ℕ) →
    ((front : List ℕ) × (text ≡ front ++ rest) × Appends a b front)
    → Appends b c (take count rest) → (front : List ℕ) × (text ≡ front ++ take (length rest - count) (drop count rest))
    × Appends a c front
written_more a b c text rest count before part =
    let split : rest ≡ take count rest ++ take (length rest - count) (drop count rest) =
    sym (ap (λ l. take count rest ++ l) (take_rest rest count) ∙ take-append-drop count rest) in
    let whole : text ≡ (before.0 ++ take count rest) ++ take (length rest - count) (drop count rest) =
    before.1 ∙ ap (λ l. before.0 ++ l) split ∙ sym (append_assoc before.0 (take count rest)
    (take (length rest - count) (drop count rest))) in
    (before.0 ++ take count rest, whole, Appends-trans a b c before.0 (take count rest) before.2 part)

-- bytes were taken, and then more
pub TakesInto_then : {a b c : Option (List ℕ)} {old mid new : List ℕ} {m n : ℕ} (limit : ℕ) → TakesInto a b old mid m
    → TakesInto b c mid new n → m + n ≤ limit → TakesInto a c old new limit
TakesInto_then {a} {b} {c} {old} limit f h k = record {
  taken = f.taken ++ h.taken;
  consumed = Consumes-trans a b c f.taken h.taken f.consumed h.consumed;
  within = simp length-append (omega (arith, f.within, h.within, k));
  kept = h.kept ∙ ap (λ l. l ++ h.taken) f.kept ∙ append_assoc old f.taken h.taken;
}

-- as many bytes were taken as the list grew by
pub TakesInto_count : {a b : Option (List ℕ)} {old new : List ℕ} {m : ℕ} (n : ℕ) → TakesInto a b old new m
    → length new ≡ length old + n → TakesInto a b old new n
TakesInto_count {a} {b} {old} n h e =
    let l : length old + length h.taken ≡ length old + n = sym (ap length h.kept ∙ length-append old h.taken) ∙ e in
    record { taken = h.taken; consumed = h.consumed; within = omega (arith, l); kept = h.kept }

-- what was taken up to the end is all that was left
pub TakesInto_all : {a b : Option (List ℕ)} {old new : List ℕ} {m : ℕ} → TakesInto a b old new m → IsAtEnd b
    → IfSome a (λ told. new ≡ old ++ told)
TakesInto_all {a} {b} {old} {new} h e = Consumes-all a b h.taken old new h.consumed e h.kept

-- a list grew by a front of what a reading left in a buffer, no longer than the part that the reading wrote
pub grown_by_front : {new now old : List ℕ} (buffer rest : List ℕ) (count : ℕ) →
    new ≡ now ++ take count (buffer ++ rest) → now ≡ old → count ≤ length buffer
    → new ≡ old ++ take count buffer
grown_by_front {new} {now} buffer rest count e f h =
    e ∙ ap (λ l. now ++ l) (take-append-le count buffer rest h) ∙ ap (λ l. l ++ take count buffer) f

-- with a front of a buffer behind it a list is as much longer
pub longer_by_front : {new now old : ℕ} (buffer rest : List ℕ) (count : ℕ) →
    new ≡ now + length (take count (buffer ++ rest)) → now ≡ old → count ≤ length buffer
    → new ≡ old + count
longer_by_front buffer rest count e f h =
    let l : length (take count (buffer ++ rest)) ≡ count =
    length-take-le count (buffer ++ rest) (omega (arith, length-append buffer rest)) in
    omega (arith, e, f, l)

-- nothing was taken
pub takes_none : {a b : Option (List ℕ)} {old new : List ℕ} (limit : ℕ) → Keeps a b → new ≡ old →
    TakesInto a b old new limit
takes_none {a} {b} {old} limit k e = record {
  taken = [];
  consumed = Consumes-kept a a b [] (Consumes-nil a) k;
  within = omega arith;
  kept = e ∙ sym (append-nil old);
}

-- What a reading of a part of a buffer gave, the part being no longer than the room: it is within the room, it fits
-- where the part does, and there is a part.
module _ (buffer whole : List ℕ) (count part room : ℕ) (bound : count ≤ length buffer)
    (read : length buffer ≡ length (take part whole)) where
  -- what was read is within the room
  pub within_part : (most : ℕ) → part ≡ min room most → count ≤ room
  within_part most p = omega (arith, length-take part whole)

  -- a list with it fits where one with the part does
  pub fits_front : (rest : List ℕ) (len capacity : ℕ) → len + part ≤ capacity →
      len + length (take count (buffer ++ rest)) ≤ capacity
  fits_front rest len capacity h = omega (arith, length-take part whole, length-take count (buffer ++ rest))

  -- where there is room and a buffer, there is a part
  pub some_part : part ≡ min room (length whole) → 0 < room → 0 < length whole → 0 < length buffer
  some_part p h k = omega (arith, length-take part whole)

-- the front of a buffer is no longer than the room, where its length is not
pub front_within : (buffer : List ℕ) (count room : ℕ) → count ≤ room → length (take count buffer) ≤ room
front_within buffer count room h = omega (arith, length-take count buffer)

-- a count is as it was
pub same_count : (n : ℕ) → n ≤ n
same_count n = omega arith

-- an error is no value
pub no_value : {T E : Type 0} {P : Type 0} {v : T} (r : Result T E) → IsErr r → r ≡ Ok v → P
no_value (Ok x) f e = absurd (cc)
no_value (Err y) f e = absurd (cc)

-- an error is no other error
pub no_other : {T E : Type 0} {P : Type 0} {x y : E} (r : Result T E) → IsErrAnd r (λ e. e ≡ x) → (x ≡ y → ⊥) →
    r ≡ Err y → P
no_other (Ok v) f differ e = absurd f
no_other (Err z) f differ e = absurd (differ (cc))

-- what holds in any case holds where there is an error
pub on_error : {T E P : Type 0} (r : Result T E) → P → OnErr r P
on_error (Ok x) p = tt
on_error (Err e) p = p

-- equal values of Ok
pub same_value : {T E : Type 0} {x y : T} → ◌≡◌ {A = Result T E} (Ok x) (Ok y) → x ≡ y
same_value e = cc

-- what succeeds is no error
pub no_error : false ≡ true → ⊥
no_error e = cc
