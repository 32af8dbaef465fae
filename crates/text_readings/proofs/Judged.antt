-- Judging lines one by one decides whether they lead to an end, and finds their one fault.
use Rattle.std.proofs.Common.{◌≡◌, ℕ, ◌+◌, Bool, true, false, cond, List, [], ◌∷◌, ◌++◌, length, Result, Ok, Err, refl}
use Rattle.std.proofs.Common.{sym, ap, ap₂, subst, ◌∙◌, arith, inl, inr, append-nil}
use Rattle.std.specs.Prelude.{◌⊎◌, IfOk}
use Rattle.text_readings.specs.declared.fault.Why.{Why}
use Rattle.text_readings.specs.declared.fault.Why.TheVariants.{Truncated}
use Rattle.text_readings.specs.declared.fault.Fault.{Fault}
use Rattle.text_readings.specs.declared.fault.ReadRefused.{ReadRefused}
use Rattle.text_readings.specs.declared.fault.ReadRefused.TheVariants as refusals
use Rattle.text_readings.specs.Readings.{AllLead, IsCutOff, IsFaultOf, IsWrongLine, Reading}
use Rattle.text_readings.specs.Judging.{Gives, Judge, judge, judged_end, judged_on}
use Rattle.text_readings.proofs.Results.{err_one, ok_err, ok_one}
use Rattle.text_readings.proofs.Turns.{judge_bad, judge_cons, judge_nil, judge_on}

-- The judge tells just what the reading says: where a line leads, why it is wrong, and where a text may end.
pub record IsJudgedBy {S : Type 0} (R : Reading S) (J : Judge S) : Type 0 where
  pub sound : (a : S) (line : List ℕ) (b : S) → J.step a line ≡ Ok b → R.Leads a line b
  pub complete : (a : S) (line : List ℕ) (b : S) → R.Leads a line b → J.step a line ≡ Ok b
  pub reason : (a : S) (line : List ℕ) (why : Why) → J.step a line ≡ Err why → R.IsReason a line why
  pub because : (a : S) (line : List ℕ) (why : Why) → R.IsReason a line why → J.step a line ≡ Err why
  pub ended : (a : S) → J.may_end a ≡ true → R.IsEnd a
  pub ends : (a : S) → R.IsEnd a → J.may_end a ≡ true

-- the fault that line n is missing
abbrev cut_at : ℕ → Fault
cut_at n = record { line = n; why = Truncated }

-- a fault by its two parts
fault_is : (fault : Fault) (n : ℕ) (why : Why) → n ≡ fault.line → why ≡ fault.why →
    ◌≡◌ {A = Fault} (record { line = n; why = why }) fault
fault_is fault n why a b = ap₂ (λ (x : ℕ) (y : Why). record { line = x; why = y }) a b

-- what came of a step that was made, and of the lines behind it
on_ok : {S : Type 0} (n : ℕ) (r : Result S Why) (rest : S → Result S Fault) (b : S) → judged_on n r rest ≡ Ok b →
    (m : S) × (r ≡ Ok m) × (rest m ≡ Ok b)
on_ok n (Err why) rest b h = absurd (ok_err b _ (sym h))
on_ok n (Ok m) rest b h = (m, refl, h)

-- a fault came of the step, or of the lines behind it
on_err : {S : Type 0} (n : ℕ) (r : Result S Why) (rest : S → Result S Fault) (fault : Fault) →
    judged_on n r rest ≡ Err fault → ((why : Why) × (r ≡ Err why) × (◌≡◌ {A = Fault} (record { line = n; why = why })
    fault)) ⊎ ((m : S) × (r ≡ Ok m) × (rest m ≡ Err fault))
on_err {S} n (Err why) rest fault h = inl (why, refl, err_one {A = S} (record { line = n; why = why }) fault h)
on_err n (Ok m) rest fault h = inr (m, refl, h)

-- lines that lead on, and others from there, lead together
pub lead_append : {S : Type 0} (Leads : S → List ℕ → S → Type 0) (front rest : List (List ℕ)) (a m b : S) →
    AllLead Leads front a m → AllLead Leads rest m b → AllLead Leads (front ++ rest) a b
lead_append {S} Leads [] rest a m b h k = subst (λ (r : S). AllLead Leads rest r b) (sym h) k
lead_append Leads (line ∷ front) rest a m b h k = (h.0, h.1, lead_append Leads front rest h.0 m b h.2 k)

-- the fault of the lines from line n on, of which some are right
record Faulty {S : Type 0} (R : Reading S) (n : ℕ) (a : S) (lines : List (List ℕ)) (fault : Fault) : Type 0 where
  front : List (List ℕ)
  at : S
  right : AllLead R.Leads front a at
  number : fault.line ≡ n + length front
  rest : ((line : List ℕ) × (behind : List (List ℕ)) × (lines ≡ front ++ line ∷ behind)
      × R.IsReason at line fault.why) ⊎ ((lines ≡ front) × (R.IsEnd at → ⊥) × (fault.why ≡ Truncated))

module _ {S : Type 0} (R : Reading S) (J : Judge S) (D : IsJudgedBy R J) where
  -- ---- what is right

  -- lines that lead somewhere are judged from there
  all_judged : (front rest : List (List ℕ)) (n : ℕ) (a b : S) → AllLead R.Leads front a b →
      judge J n a (front ++ rest) ≡ judge J (n + length front) b rest
  all_judged [] rest n a b h = ap (λ (r : S). judge J n r rest) h ∙ ap (λ (k : ℕ). judge J k b rest) (omega arith)
  all_judged (line ∷ front) rest n a b h =
      judge_on J n a h.0 (line ∷ front ++ rest) line (front ++ rest) refl (D.complete a line h.0 h.1)
      ∙ all_judged front rest (n + 1) h.0 b h.2 ∙ ap (λ (k : ℕ). judge J k b rest) (omega arith)

  -- as an end, where none follows
  judged_all : (lines : List (List ℕ)) (n : ℕ) (a b : S) → AllLead R.Leads lines a b →
      judge J n a lines ≡ judged_end J (n + length lines) b
  judged_all lines n a b h =
      ap (judge J n a) (sym (append-nil lines)) ∙ all_judged lines [] n a b h ∙ judge_nil J (n + length lines) b

  -- lines that lead to an end are judged to be right
  pub right_judged : (lines : List (List ℕ)) (n : ℕ) (a b : S) → AllLead R.Leads lines a b → R.IsEnd b →
      judge J n a lines ≡ Ok b
  right_judged lines n a b h e =
      judged_all lines n a b h ∙ ap (λ (t : Bool). cond t (Ok b) (Err (cut_at (n + length lines)))) (D.ends b e)

  -- an end that is judged to be one is one
  end_right : (n : ℕ) (a b : S) (t : Bool) → J.may_end a ≡ t → cond t (Ok a) (Err (cut_at n)) ≡ Ok b →
      (a ≡ b) × R.IsEnd b
  end_right n a b true e h =
      let same : a ≡ b = ok_one a b h in (same, subst (λ (r : S). R.IsEnd r) same (D.ended a e))
  end_right n a b false e h = absurd (ok_err b (cut_at n) (sym h))

  -- lines that are judged to be right lead to an end
  pub judged_right : (n : ℕ) (a b : S) (lines : List (List ℕ)) → judge J n a lines ≡ Ok b →
      AllLead R.Leads lines a b × R.IsEnd b
  judged_right n a b [] h = end_right n a b (J.may_end a) refl (sym (judge_nil J n a) ∙ h)
  judged_right n a b (line ∷ lines) h =
      let k = on_ok n (J.step a line) (λ m. judge J (n + 1) m lines) b (sym (judge_cons J n a line lines) ∙ h) in
      let r = judged_right (n + 1) k.0 b lines k.2 in
      ((k.0, D.sound a line k.0 k.1, r.0), r.1)

  -- ---- the fault

  -- one line more in front
  one_more : (n : ℕ) (a b : S) (line : List ℕ) (lines : List (List ℕ)) (fault : Fault) → J.step a line ≡ Ok b →
      Faulty R (n + 1) b lines fault → Faulty R n a (line ∷ lines) fault
  one_more n a b line lines fault h k = record {
    front = line ∷ k.front;
    at = k.at;
    right = (b, D.sound a line b h, k.right);
    number = omega (arith, k.number);
    rest = elim k.rest [
      | inl w ↦ inl (w.0, w.1, ap (λ (v : List (List ℕ)). line ∷ v) w.2, w.3)
      | inr w ↦ inr (ap (λ (v : List (List ℕ)). line ∷ v) w.0, w.1, w.2)
    ];
  }

  -- an end that is judged to be none is a cut
  end_cut : (n : ℕ) (a : S) (fault : Fault) (t : Bool) → J.may_end a ≡ t →
      cond t (Ok a) (Err (cut_at n)) ≡ Err fault → Faulty R n a [] fault
  end_cut n a fault true e h = absurd (ok_err a fault h)
  end_cut n a fault false e h =
      let same = err_one {A = S} (cut_at n) fault h in
      record {
        front = [];
        at = a;
        right = refl;
        number = ap (λ (v : Fault). v.line) (sym same) ∙ omega arith;
        rest = inr (
          refl,
          λ end. (let yes = D.ends a end in let no : J.may_end a ≡ false = e in absurd cc),
          ap (λ (v : Fault). v.why) (sym same),
        );
      }

  -- a fault is that of the first wrong line, or of the end
  faulty : (n : ℕ) (a : S) (lines : List (List ℕ)) (fault : Fault) → judge J n a lines ≡ Err fault →
      Faulty R n a lines fault
  faulty n a [] fault h = end_cut n a fault (J.may_end a) refl (sym (judge_nil J n a) ∙ h)
  faulty n a (line ∷ lines) fault h =
      elim (on_err n (J.step a line) (λ m. judge J (n + 1) m lines) fault (sym (judge_cons J n a line lines) ∙ h)) [
        | inl k ↦ record {
          front = [];
          at = a;
          right = refl;
          number = ap (λ (v : Fault). v.line) (sym k.2) ∙ omega arith;
          rest = inl (
            line,
            lines,
            refl,
            subst (λ (w : Why). R.IsReason a line w) (ap (λ (v : Fault). v.why) k.2) (D.reason a line k.0 k.1),
          );
        }
        | inr k ↦ one_more n a k.0 line lines fault k.1 (faulty (n + 1) k.0 lines fault k.2)
      ]

  -- the fault that judging finds is the lines'
  pub judged_fault : (start : S) (lines : List (List ℕ)) (fault : Fault) → judge J 1 start lines ≡ Err fault →
      IsFaultOf R start lines fault
  judged_fault start lines fault h =
      let k = faulty 1 start lines fault h in
      elim k.rest [
        | inl w ↦ inl (record {
          front = k.front;
          line = w.0;
          rest = w.1;
          place = w.2;
          at = k.at;
          right_so_far = k.right;
          number = omega (arith, k.number);
          reason = w.3;
        })
        | inr w ↦ inr (record {
          at = k.at;
          right = subst (λ (v : List (List ℕ)). AllLead R.Leads v start k.at) (sym w.0) k.right;
          more = w.1;
          number = omega (arith, k.number, ap (λ (v : List (List ℕ)). length v) w.0);
          truncated = w.2;
        })
      ]

  -- a wrong line is found as the fault
  wrong_judged : (start : S) (lines : List (List ℕ)) (fault : Fault) → IsWrongLine R start lines fault →
      judge J 1 start lines ≡ Err fault
  wrong_judged start lines fault w =
      ap (judge J 1 start) w.place ∙ all_judged w.front (w.line ∷ w.rest) 1 start w.at w.right_so_far
      ∙ judge_bad J (1 + length w.front) w.at fault.why (w.line ∷ w.rest) w.line w.rest refl
      (D.because w.at w.line fault.why w.reason)
      ∙ ap (λ (v : Fault). Err v) (fault_is fault (1 + length w.front) fault.why (omega (arith, w.number)) refl)

  -- where more is to come the end is a cut
  cut_end : (n : ℕ) (a : S) (t : Bool) → J.may_end a ≡ t → (R.IsEnd a → ⊥) →
      cond {A = Result S Fault} t (Ok a) (Err (cut_at n)) ≡ Err (cut_at n)
  cut_end n a true e more = absurd (more (D.ended a e))
  cut_end n a false e more = refl

  -- and so is a text that is cut off
  cut_judged : (start : S) (lines : List (List ℕ)) (fault : Fault) → IsCutOff R start lines fault →
      judge J 1 start lines ≡ Err fault
  cut_judged start lines fault w =
      judged_all lines 1 start w.at w.right ∙ cut_end (1 + length lines) w.at (J.may_end w.at) refl w.more
      ∙ ap (λ (v : Fault). Err v) (fault_is fault (1 + length lines) Truncated (omega (arith, w.number))
      (sym w.truncated))

  -- so the fault of lines is found
  pub fault_judged : (start : S) (lines : List (List ℕ)) (fault : Fault) → IsFaultOf R start lines fault →
      judge J 1 start lines ≡ Err fault
  fault_judged start lines fault h = elim h [
    | inl w ↦ wrong_judged start lines fault w
    | inr w ↦ cut_judged start lines fault w
  ]

  -- ---- what a call gave

  -- what a call gives that gives what judging does is where the lines lead to
  pub given_right : {X : Type 0} (view : X → S) (start : S) (lines : List (List ℕ)) (r : Result X ReadRefused) →
      Gives view r (judge J 1 start lines) → IfOk r (λ x. AllLead R.Leads lines start (view x))
  given_right view start lines (Ok x) h = (judged_right 1 start (view x) lines h).0
  given_right view start lines (Err e) h = tt

  -- and the fault that it gives is the lines'
  pub given_fault : {X : Type 0} (view : X → S) (start : S) (lines : List (List ℕ)) (r : Result X ReadRefused)
      (fault : Fault) → Gives view r (judge J 1 start lines) → r ≡ Err (refusals.Bad fault) →
      IsFaultOf R start lines fault
  given_fault {X} view start lines r fault h e =
      judged_fault start lines fault
      (subst (λ (v : Result X ReadRefused). Gives view v (judge J 1 start lines)) e h)

  -- ---- laws

  -- lines lead to one end at most
  pub one_end : (start b c : S) (lines : List (List ℕ)) → AllLead R.Leads lines start b → R.IsEnd b →
      AllLead R.Leads lines start c → R.IsEnd c → b ≡ c
  one_end start b c lines h e k f =
      ok_one {E = Fault} b c (sym (right_judged lines 1 start b h e) ∙ right_judged lines 1 start c k f)

  -- lines that lead to one have no fault
  pub no_fault : (start b : S) (lines : List (List ℕ)) (fault : Fault) → AllLead R.Leads lines start b → R.IsEnd b →
      IsFaultOf R start lines fault → ⊥
  no_fault start b lines fault h e k =
      ok_err b fault (sym (right_judged lines 1 start b h e) ∙ fault_judged start lines fault k)

  -- lines have one fault at most
  pub one_fault : (start : S) (lines : List (List ℕ)) (f g : Fault) → IsFaultOf R start lines f →
      IsFaultOf R start lines g → f ≡ g
  one_fault start lines f g h k =
      err_one {A = S} f g (sym (fault_judged start lines f h) ∙ fault_judged start lines g k)

  -- lines lead to an end or have a fault
  pub end_or_fault : (start : S) (lines : List (List ℕ)) →
      ((b : S) × AllLead R.Leads lines start b × R.IsEnd b) ⊎ ((fault : Fault) × IsFaultOf R start lines fault)
  end_or_fault start lines = by_result (judge J 1 start lines) refl
    where
      by_result : (r : Result S Fault) → judge J 1 start lines ≡ r →
          ((b : S) × AllLead R.Leads lines start b × R.IsEnd b) ⊎ ((fault : Fault) × IsFaultOf R start lines fault)
      by_result (Ok b) e = let k = judged_right 1 start b lines e in inl (b, k.0, k.1)
      by_result (Err fault) e = inr (fault, judged_fault start lines fault e)
