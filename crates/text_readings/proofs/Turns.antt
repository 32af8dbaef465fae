-- One turn of judging a text line by line.
use Rattle.std.proofs.Common.{◌≡◌, ℕ, ◌+◌, List, [], ◌∷◌, Result, Ok, Err, refl, sym, ap, ◌∙◌}
use Rattle.text_readings.specs.declared.fault.Why.{Why}
use Rattle.text_readings.specs.declared.fault.Fault.{Fault}
use Rattle.text_readings.specs.declared.fault.LineRefused.{LineRefused}
use Rattle.text_readings.specs.declared.fault.LineRefused.TheVariants as line_refusals
use Rattle.text_readings.specs.Judging.{Fails, Judge, Refuses, judge, judged_end, judged_on, refused_at}

module _ {S : Type 0} (J : Judge S) where
  -- a line is judged, and then those behind it
  pub judge_cons : (n : ℕ) (a : S) (line : List ℕ) (rest : List (List ℕ)) →
      judge J n a (line ∷ rest) ≡ judged_on n (J.step a line) (λ b. judge J (n + 1) b rest)
  unfolding judge
  judge_cons n a line rest = refl

  -- where no line is left, the end is judged
  pub judge_nil : (n : ℕ) (a : S) → judge J n a [] ≡ judged_end J n a
  unfolding judge
  judge_nil n a = refl

  -- a line that was taken
  pub judge_on : (n : ℕ) (a b : S) (lines : List (List ℕ)) (line : List ℕ) (rest : List (List ℕ)) →
      lines ≡ line ∷ rest → J.step a line ≡ Ok b → judge J n a lines ≡ judge J (n + 1) b rest
  judge_on n a b lines line rest e h =
      ap (judge J n a) e ∙ judge_cons n a line rest
      ∙ ap (λ (r : Result S Why). judged_on n r (λ m. judge J (n + 1) m rest)) h

  -- a wrong line
  pub judge_bad : (n : ℕ) (a : S) (why : Why) (lines : List (List ℕ)) (line : List ℕ) (rest : List (List ℕ)) →
      lines ≡ line ∷ rest → J.step a line ≡ Err why → judge J n a lines ≡ Err (record { line = n; why = why })
  judge_bad n a why lines line rest e h =
      ap (judge J n a) e ∙ judge_cons n a line rest
      ∙ ap (λ (r : Result S Why). judged_on n r (λ m. judge J (n + 1) m rest)) h

  -- no more lines
  pub judge_end : (n : ℕ) (a : S) (lines : List (List ℕ)) → lines ≡ [] → judge J n a lines ≡ judged_end J n a
  judge_end n a lines e = ap (judge J n a) e ∙ judge_nil n a

  -- a line that was not taken
  pub judge_refused : (e : LineRefused) (n : ℕ) (a : S) (lines : List (List ℕ)) (line : List ℕ) (rest : List (List ℕ))
      (whole : Result S Fault) → lines ≡ line ∷ rest → Refuses e (J.step a line) → judge J n a lines ≡ whole →
      Fails (refused_at n e) whole
  judge_refused line_refusals.Memory n a lines line rest whole e h so_far = tt
  judge_refused (line_refusals.Bad why) n a lines line rest whole e h so_far =
      sym so_far ∙ judge_bad n a why lines line rest e h
