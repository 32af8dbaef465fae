-- How much of a source was read, piece by piece, as the text of a mesh.
use Rattle.std.specs.Prelude.{Option, None, Some, IfSome, IsErrAnd, Result, Ok, Err, Vec}
use Rattle.std.specs.Vec.{vec_len}
use Rattle.std.specs.declared.alloc.Global.{Global}
use Rattle.std.specs.Io.KnownBytes.{Consumes, IsAtEnd}
use Rattle.std.proofs.KnownBytes.{Consumes-nil, Consumes-trans}
use Rattle.std.proofs.Common.{◌≡◌, ◌⊎◌, inl, inr, refl, sym, subst, ap, ◌∙◌, ℕ, ◌+◌, ◌-◌, ◌<◌, ◌≤◌, List, [], ◌++◌}
use Rattle.std.proofs.Common.{append-nil, length, length-append, arith}
use Rattle.byte_ends.specs.declared.loops.Reached.{Reached}
use Rattle.byte_ends.specs.declared.loops.ReadError.{ReadError}
use Rattle.byte_ends.specs.declared.loops.ReadError.TheVariants.{Fault as SourceFault, Memory as NoRoom}
use Rattle.byte_ends.specs.Ends.{TakesInto}
use Rattle.command_pages.specs.Reading.{HasTakenAll}
use Rattle.command_pages.specs.Run.{ReadsTo, mesh_limit}
use Rattle.command_pages.specs.Statuses.{IsEarly}
use Rattle.command_words.specs.declared.stop.Stop.{Stop}
use Rattle.command_words.specs.declared.stop.Stop.TheVariants.{Memory}
use Rattle.command_words.specs.Stops.{status_of_made, stop_of_read}
use Rattle.command_words.specs.Lines.{status_of}

-- bytes were taken of a source, so many fewer than one more than the limit
pub record HasRoom (old now : Option (List ℕ)) (taken : List ℕ) (room : ℕ) : Type 0 where
  pub consumed : Consumes old now taken
  pub count : length taken + room ≡ mesh_limit + 1

-- nothing yet
pub none_read : (left : Option (List ℕ)) (taken : List ℕ) → taken ≡ [] → HasRoom left left taken (mesh_limit + 1)
none_read left taken e =
    subst (λ (t : List ℕ). HasRoom left left t (mesh_limit + 1)) (sym e)
    (record { consumed = Consumes-nil left; count = omega arith })

-- one piece more
pub piece_read : (old mid now : Option (List ℕ)) (taken before piece : List ℕ) (room most rest : ℕ) →
    HasRoom old mid taken room → TakesInto mid now before piece most → before ≡ [] → length piece + rest ≡ room →
    HasRoom old now (taken ++ piece) rest
piece_read old mid now taken before piece room most rest h t e l =
    let same : t.taken ≡ piece = sym (t.kept ∙ ap (λ (b : List ℕ). b ++ t.taken) e) in
    record {
      consumed = Consumes-trans old mid now taken piece h.consumed
          (subst (λ (p : List ℕ). Consumes mid now p) same t.consumed);
      count = let c = h.count in omega (arith, c, l, length-append taken piece);
    }

-- so it is with a reader that takes the piece
pub reader_read : (old mid now : Option (List ℕ)) (taken next before piece given : List ℕ) (room most rest : ℕ) →
    HasRoom old mid taken room → TakesInto mid now before piece most → before ≡ [] → length piece + rest ≡ room →
    given ≡ piece → next ≡ taken ++ given → HasRoom old now next rest
reader_read old mid now taken next before piece given room most rest h t e l g n =
    subst (λ (p : List ℕ). HasRoom old now p rest) (sym (n ∙ ap (λ (p : List ℕ). taken ++ p) g))
    (piece_read old mid now taken before piece room most rest h t e l)

-- a piece is no longer than what was asked for
pub piece_within : (mid now : Option (List ℕ)) (before piece : List ℕ) (most : ℕ) →
    TakesInto mid now before piece most → before ≡ [] → length piece ≤ most
piece_within mid now before piece most t e =
    let l : length piece ≡ length t.taken = ap length (t.kept ∙ ap (λ (b : List ℕ). b ++ t.taken) e) in
    let w = t.within in omega (arith, l, w)

-- the room that is left behind a piece, and that there is some where the piece is shorter than what was asked for
pub left_room : (room most piece : ℕ) → most ≤ room → piece ≤ most → piece + (room - piece) ≡ room
left_room room most piece a b = omega (arith, a, b)

-- and that there is some
pub some_room : (room most piece : ℕ) → most ≤ room → piece ≤ most → (piece ≡ most → ⊥) → 0 < room - piece
some_room room most piece a b n = omega (arith, a, b, n)

-- what is left of a room behind a piece that is shorter than what was asked for
pub read_on : (left mid now : Option (List ℕ)) (taken : List ℕ) (room most : ℕ) (before piece : List ℕ) →
    HasRoom left mid taken room → most ≤ room → before ≡ [] → TakesInto mid now before piece most →
    HasRoom left now (taken ++ piece) (room - length piece)
read_on left mid now taken room most before piece h l e t =
    piece_read left mid now taken before piece room most (room - length piece) h t e
    (left_room room most (length piece) l (piece_within mid now before piece most t e))

-- a piece is as long as what was asked for exactly where the limit was reached
pub full : {r : Result Reached ReadError} (old new : Vec ℕ Global) (most : ℕ) → old.items ≡ [] →
    (r ≡ Ok Reached.Limit → vec_len new ≡ vec_len old + most) → r ≡ Ok Reached.Limit → length new.items ≡ most
full old new most e f k =
    let n : length old.items ≡ 0 = ap (λ (l : List ℕ). length l) e in
    let v = f k in omega (arith, v, n, old.ok.0, new.ok.0)

-- else a piece is shorter than what was asked for
pub not_full : {r : Result Reached ReadError} (old new : Vec ℕ Global) (most : ℕ) → old.items ≡ [] →
    (vec_len new ≡ vec_len old + most → r ≡ Ok Reached.Limit) → (r ≡ Ok Reached.Limit → ⊥) →
    length new.items ≡ most → ⊥
not_full old new most e f n k =
    let z : length old.items ≡ 0 = ap (λ (l : List ℕ). length l) e in
    n (f (omega (arith, k, z, old.ok.0, new.ok.0)))

-- where the end was reached the limit was not
pub not_end : {E : Type 0} (r : Result Reached E) → r ≡ Ok Reached.End → r ≡ Ok Reached.Limit → ⊥
not_end r e l = cc

-- nor where the reading failed
pub not_err : {E : Type 0} (r : Result Reached E) (why : E) → r ≡ Err why → r ≡ Ok Reached.Limit → ⊥
not_err r why e l = cc

-- a reading that failed ended early, and so one for which there was no memory
pub early_read : {A : Type 0} (r : Result A Stop) (why : ReadError) → IsErrAnd r (λ e. e ≡ stop_of_read why) →
    IsEarly (status_of_made r)
early_read (Ok v) why e = absurd e
early_read (Err stop) why e = subst (λ (s : Stop). IsEarly (status_of s)) (sym e) (by why)
  where
    by : (why : ReadError) → IsEarly (status_of (stop_of_read why))
    by SourceFault = inr (inr refl)
    by NoRoom = inl refl

-- and its status is 1
pub wanting_read : {A : Type 0} (r : Result A Stop) → IsErrAnd r (λ e. e ≡ Memory) → status_of_made r ≡ 1
wanting_read (Ok v) e = absurd e
wanting_read (Err stop) e = ap status_of e

-- what a run has read then, where it ends early or at the end, with room left or for want of memory
pub reads_so : (old now : Option (List ℕ)) (taken : List ℕ) (room status : ℕ) → HasRoom old now taken room →
    IsEarly status ⊎ IsAtEnd now → (0 < room) ⊎ (status ≡ 1) → ReadsTo mesh_limit old now status
reads_so old now taken room status h e s =
    record {
      taken = taken;
      consumed = h.consumed;
      within = let c = h.count in omega (arith, c);
      whole = λ late. elim e [ inl k ↦ absurd (late k) | inr k ↦ inl k ];
      past = λ k. elim s [
        | inl l ↦ absurd (let c = h.count in omega (arith, c, k, l))
        | inr z ↦ inr z
      ];
    }

-- then the source told too much
pub told_past : (old now : Option (List ℕ)) (taken : List ℕ) → HasRoom old now taken 0 →
    IfSome old (λ bytes. mesh_limit < length bytes)
told_past None now taken h = tt
told_past (Some xs) None taken h = absurd h.consumed
told_past (Some xs) (Some ys) taken h =
    let c = h.count in let l = ap length h.consumed ∙ length-append taken ys in omega (arith, c, l)

-- at the end all that the source told was taken
pub all_read : (old now : Option (List ℕ)) (taken : List ℕ) (room : ℕ) → HasRoom old now taken room → 0 < room →
    IsAtEnd now → HasTakenAll old taken
all_read old now taken room h l e = record {
  within = let c = h.count in omega (arith, c, l);
  told = told old now h.consumed e;
}
  where
    told : (a b : Option (List ℕ)) → Consumes a b taken → IsAtEnd b → IfSome a (λ told. told ≡ taken)
    told None b c e = tt
    told (Some xs) None c e = absurd c
    told (Some xs) (Some ys) c e = c ∙ ap (λ (l : List ℕ). taken ++ l) e ∙ append-nil taken
