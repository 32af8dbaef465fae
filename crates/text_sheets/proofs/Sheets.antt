-- Text put on a sheet, a piece after another.
use Rattle.std.proofs.Common.{◌≡◌, refl, ◌++◌, List, [], ◌∷◌, ℕ, zero, suc, ◌+◌, ◌<◌, ◌≤◌, Bool, true, false, length}
use Rattle.std.proofs.Common.{get_or, drop, arith, sym, ap, subst, ◌∙◌, append_assoc, append-nil}
use Rattle.std.specs.Prelude.{Result, Ok, Err, OnOk, OnErr, Option, codes, decimal, is_err}
use Rattle.std.specs.Borrow.{MutBor}
use Rattle.std.specs.Io.KnownBytes.{Appends}
use Rattle.std.specs.Result.{IsErr}
use Rattle.std.specs.List.{concat}
use Rattle.std.proofs.lemmas.List.{at_drop_all}
use Rattle.byte_ends.specs.Ends.{AppendsFront, HasCause, Rose}
use Rattle.text_sheets.specs.Lines.{block}
use Rattle.text_sheets.specs.Pages.{Flows, FlowsInPart}
use Rattle.text_sheets.specs.Sheets.{Closes, IsBlank, Puts}
use Rattle.text_sheets.specs.declared.sheet.Sheet.{Sheet}
use Rattle.text_sheets.proofs.Flowing.{at_once, cause_from, flows_fails, flows_nothing, flows_then, flushed}
use Rattle.text_sheets.proofs.Flowing.{flushed_in_part, fronted, more, not_ok, rose_after, up_to}

-- either a sheet failed or it did not
by_failed : {P : Type 0} (b : Bool) → (b ≡ true → P) → (b ≡ false → P) → P
by_failed true t f = t refl
by_failed false t f = f refl

-- a test does not both pass and fail
never : {P : Type 0} {b : Bool} → b ≡ true → b ≡ false → P
never y n = cc

-- a count that rose has risen when more calls have come
rose_then : (a b c : ℕ) → Rose a b → b ≤ c → Rose a c
rose_then a b c r l = omega arith

-- an error has its cause
erred : {T E : Type 0} {a b : ℕ} (r : Result T E) → IsErr r → a ≤ b → Rose a b → HasCause a b r
erred (Ok v) f l h = cc
erred (Err e) f l h = record { later = l; failed = h }

-- a text of items: what it is of an item and those behind it
abbrev pub IsOfItems : {X : Type 0} → (List X → List ℕ) → (X → List ℕ) → Type 0
IsOfItems {X} text piece = (x : X) (xs : List X) → text (x ∷ xs) ≡ piece x ++ text xs

-- the rest is the next item, and what is behind it
rest_is : {X : Type 0} (text : List X → List ℕ) (piece : X → List ℕ) → IsOfItems text piece →
    (xs : List X) (i : ℕ) (x : X) → i < length xs → x ≡ get_or xs i x →
    text (drop i xs) ≡ piece x ++ text (drop (i + 1) xs)
rest_is text piece of [] i x l e = absurd (omega (arith, l))
rest_is text piece of (y ∷ xs) zero x l e = of y xs ∙ ap (λ v. piece v ++ text xs) (sym e)
rest_is {X} text piece of (y ∷ xs) (suc i) x l e = rest_is text piece of xs i x (omega (arith, l)) e ∙
    ap (λ (k : ℕ). piece x ++ text (drop k (y ∷ xs))) (up i)
  where
    up : (i : ℕ) → suc (i + 1) ≡ suc i + 1
    up i = omega arith

-- a front of the whole was put, and the rest is not yet
pub record PutsBut {O : Type 0} (h : O → Option (List ℕ)) (f : O →
    ℕ) (s t : Sheet O) (rest whole : List ℕ) : Type 0 where
  pub done : List ℕ
  pub parts : done ++ rest ≡ whole
  pub puts : Puts h f s t done

module _ {O : Type 0} {h : O → Option (List ℕ)} {f : O → ℕ} where
  -- ---- one piece

  -- a page took the piece, or failed
  pub tried : {T E : Type 0} {s t : Sheet O} {x : List ℕ} (r : Result T E) → s.failed ≡ false → t.failed ≡ is_err r →
      t.out.ghost_name ≡ s.out.ghost_name →
      OnOk r (Flows (h s.out.now) (h t.out.now) s.page t.page x) →
      OnErr r (FlowsInPart (h s.out.now) (h t.out.now) s.page x) → HasCause (f s.out.now) (f t.out.now) r →
      Puts h f s t x
  tried (Ok v) n e m w i c = record {
    lent = m;
    later = c.later;
    stays = λ y. never y n;
    still = λ y. never y n;
    whole = λ a b. w;
    broken = λ a b. never b e;
  }
  tried (Err k) n e m w i c = record {
    lent = m;
    later = c.later;
    stays = λ y. never y n;
    still = λ y. never y n;
    whole = λ a b. never e b;
    broken = λ a b. record { front = i; rose = c.failed };
  }

  -- nothing is put
  pub nothing : {s : Sheet O} → Puts h f s s []
  nothing {s} = record {
    lent = refl;
    later = at_once (f s.out.now);
    stays = λ e. e;
    still = λ e. refl;
    whole = λ e d. flows_nothing (h s.out.now) s.page;
    broken = λ e d. never d e;
  }

  -- a piece, and then another
  pub then : {s t u : Sheet O} {x y : List ℕ} → Puts h f s t x → Puts h f t u y → Puts h f s u (x ++ y)
  then {s} {t} {u} {x} {y} p q = record {
    lent = q.lent ∙ p.lent;
    later = up_to (f s.out.now) (f t.out.now) (f u.out.now) p.later q.later;
    stays = λ e. q.stays (p.stays e);
    still = λ e. p.still e ∙ q.still (p.stays e);
    whole = λ e d. by_failed t.failed (λ k. never (q.stays k) d) (λ k. flows_then (p.whole e k) (q.whole k d));
    broken = λ e d. by_failed t.failed
        (λ k. record {
          front = subst (λ (v : Option (List ℕ)). FlowsInPart (h s.out.now) v s.page (x ++ y)) (q.still k) (more y
              (p.broken e k).front);
          rose = rose_then (f s.out.now) (f t.out.now) (f u.out.now) (p.broken e k).rose q.later;
        })
        (λ k. record {
          front = flows_fails (p.whole e k) (q.broken k d).front;
          rose = rose_after (f s.out.now) (f t.out.now) (f u.out.now) p.later (q.broken k d).rose;
        });
  }

  -- ---- a text that is put item by item

  -- nothing was put yet
  pub leaves_all : {s : Sheet O} {whole : List ℕ} → PutsBut h f s s whole whole
  leaves_all = record { done = []; parts = refl; puts = nothing }

  -- the first line of a block was put, and the others are not yet
  pub starts : {s t : Sheet O} (title : List ℕ) (lines : List (List ℕ)) (n : ℕ) → n ≡ length lines →
      Puts h f s t (title ++ codes " " ++ decimal n ++ codes "\n") → PutsBut h f s t (concat lines) (block title lines)
  starts {s} {t} title lines n e p = record {
    done = title ++ codes " " ++ decimal (length lines) ++ codes "\n";
    parts = refl;
    puts = subst (λ (k : ℕ). Puts h f s t (title ++ codes " " ++ decimal k ++ codes "\n")) e p;
  }

  -- no item is left
  pub ends : {X : Type 0} {s t : Sheet O} {whole : List ℕ} (text : List X → List ℕ) → text [] ≡ [] →
      (xs : List X) (i : ℕ) → length xs ≤ i →
      PutsBut h f s t (text (drop i xs)) whole → Puts h f s t whole
  ends {s = s} {t = t} text none xs i l p =
      let all = sym (append-nil p.done) ∙ ap (λ (v : List ℕ). p.done ++ v) (sym (at_drop_all text xs i l ∙ none)) ∙
      p.parts in
      subst (λ (v : List ℕ). Puts h f s t v) all p.puts

  -- one item more
  pub goes_on : {X : Type 0} {s t u : Sheet O} {whole : List ℕ} (text : List X → List ℕ) (piece : X → List ℕ) →
      IsOfItems text piece → (xs : List X) (i : ℕ) (x : X) → i < length xs → x ≡ get_or xs i x →
      PutsBut h f s t (text (drop i xs)) whole → Puts h f t u (piece x) → PutsBut h f s u (text (drop (i + 1) xs)) whole
  goes_on text piece of xs i x l e p q = record {
    done = p.done ++ piece x;
    parts = append_assoc p.done (piece x) (text (drop (i + 1) xs)) ∙
        ap (λ (v : List ℕ). p.done ++ v) (sym (rest_is text piece of xs i x l e)) ∙ p.parts;
    puts = then p.puts q;
  }

  -- a text more
  pub goes_on_by : {s t u : Sheet O} {whole rest : List ℕ} (text more : List ℕ) → text ++ more ≡ rest →
      PutsBut h f s t rest whole → Puts h f t u text → PutsBut h f s u more whole
  goes_on_by text more e p q = record {
    done = p.done ++ text;
    parts = append_assoc p.done text more ∙ ap (λ (v : List ℕ). p.done ++ v) e ∙ p.parts;
    puts = then p.puts q;
  }

  -- the first line of a block and then its lines were put
  pub block_put : {s t u : Sheet O} (title : List ℕ) (lines : List (List ℕ)) (text : List ℕ) (n : ℕ) →
      n ≡ length lines → text ≡ concat lines → Puts h f s t (title ++ codes " " ++ decimal n ++ codes "\n") →
      Puts h f t u text → Puts h f s u (block title lines)
  block_put {s} {t} {u} title lines text n e k p q =
      then (subst (λ (m : ℕ). Puts h f s t (title ++ codes " " ++ decimal m ++ codes "\n")) e p)
      (subst (λ (v : List ℕ). Puts h f t u v) k q)

  -- ---- a sheet that is closed

  -- before, what waits is written
  pub wrote : {T E : Type 0} {s t : Sheet O} (r : Result T E) → s.failed ≡ false →
      t.out.ghost_name ≡ s.out.ghost_name → OnOk r (Appends (h s.out.now) (h t.out.now) s.page) →
      AppendsFront (h s.out.now) (h t.out.now) s.page → HasCause (f s.out.now) (f t.out.now) r → Closes h f s t r
  wrote r n m w i c = record {
    lent = m;
    later = c.later;
    fails = λ y. never y n;
    still = λ y. never y n;
    written = λ k. record { whole = w; front = i; cause = c };
  }

  -- the whole text was written where the answer is no error; the sink is left as the sheet leaves it
  pub closed : {T E : Type 0} {out : MutBor O} {left : O} {s t u : Sheet O} {x : List ℕ} (r : Result T E) →
      u.out.now ≡ left → IsBlank out s → Puts h f s t x → Closes h f t u r →
      OnOk r (Appends (h out.now) (h left) x)
  closed {out = out} {t = t} {u = u} {x = x} r e o p q =
      subst (λ (v : O). OnOk r (Appends (h out.now) (h v) x)) e
      (by_failed t.failed (λ k. not_ok _ r (q.fails k))
      (λ k. subst (λ (v : O). OnOk r (Appends (h v) (h u.out.now) x)) o.sink (flushed (h u.out.now) r o.waits
      (p.whole o.works k) (q.written k).whole)))

  -- a front of it in any case
  pub closed_front : {T E : Type 0} {out : MutBor O} {left : O} {s t u : Sheet O} {x : List ℕ} (r : Result T E) →
      u.out.now ≡ left → IsBlank out s → Puts h f s t x → Closes h f t u r →
      AppendsFront (h out.now) (h left) x
  closed_front {out = out} {s = s} {t = t} {u = u} {x = x} r e o p q =
      subst (λ (v : O). AppendsFront (h out.now) (h v) x) e
      (subst (λ (v : O). AppendsFront (h v) (h u.out.now) x) o.sink
      (by_failed t.failed
      (λ k. subst (λ (v : Option (List ℕ)). AppendsFront (h s.out.now) v x) (q.still k) (fronted o.waits
      (p.broken o.works k).front))
      (λ k. flushed_in_part (h u.out.now) (subst (λ (v : List ℕ). Flows (h s.out.now) (h t.out.now) v t.page x)
      o.waits (p.whole o.works k)) (q.written k).front)))

  -- an error has its cause
  pub closed_cause : {T E : Type 0} {out : MutBor O} {left : O} {s t u : Sheet O} {x : List ℕ} (r : Result T E) →
      u.out.now ≡ left → IsBlank out s → Puts h f s t x → Closes h f t u r →
      HasCause (f out.now) (f left) r
  closed_cause {out = out} {s = s} {t = t} {u = u} r e o p q =
      subst (λ (v : O). HasCause (f out.now) (f v) r) e
      (subst (λ (v : O). HasCause (f v) (f u.out.now) r) o.sink
      (by_failed t.failed
      (λ k. erred r (q.fails k) (up_to (f s.out.now) (f t.out.now) (f u.out.now) p.later q.later) (rose_then
      (f s.out.now) (f t.out.now) (f u.out.now) (p.broken o.works k).rose q.later))
      (λ k. cause_from r p.later (q.written k).cause)))
