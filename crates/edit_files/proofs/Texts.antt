-- The lines of a file have no line feed.
use Rattle.std.proofs.Common.{ℕ, Bool, true, false, cond, List, [], ◌∷◌, refl, sym, subst, arith, inl, inr}
use Rattle.std.specs.Prelude.{codes}
use Rattle.edit_history.specs.declared.history.Edit.{Edit}
use Rattle.edit_history.specs.declared.history.Edit.TheVariants.{Add, Take, Move}
use Rattle.text_readings.specs.Readings.{AllLead}
use Rattle.text_readings.proofs.Cited.{HasNo, HaveNoFeed, number_without, point_no_feed, without_append}
use Rattle.edit_files.specs.declared.place.Part.{Part}
use Rattle.edit_files.specs.declared.place.Part.TheVariants.{Points, Edits, Radii, Queries}
use Rattle.edit_files.specs.declared.place.Due.{Due}
use Rattle.edit_files.specs.declared.place.Due.TheVariants.{Title, Heading, Body, Nothing}
use Rattle.edit_files.specs.declared.version.Version.{Version}
use Rattle.edit_files.specs.declared.version.Version.TheVariants.{One, Two, Three, Four}
use Rattle.edit_files.specs.Content.{Content, row}
use Rattle.edit_files.specs.Grammar.{IsPairLine, IsEditLine, IsTaken, Leads, LeadsOn, Limits, Reached, word_behind}

-- a line of two places has none
pair_no_feed : (line : List ℕ) (a b : ℕ) → IsPairLine line a b → HasNo 10 line
pair_no_feed line a b s =
    subst (λ (l : List ℕ). HasNo 10 l) (sym s.fields)
    (without_append 10 s.from (32 ∷ s.to) (point_no_feed s.from a s.from_point) (refl, point_no_feed s.to b s.to_point))

-- nor has an edit line
edit_no_feed : (v : Version) (line : List ℕ) (e : Edit) → IsEditLine v line e → HasNo 10 line
edit_no_feed v line (Add p) s = subst (λ (l : List ℕ). HasNo 10 l) (sym s.1) (refl, (refl, point_no_feed s.0 p s.2))
edit_no_feed v line (Take p) s = subst (λ (l : List ℕ). HasNo 10 l) (sym s.1) (refl, (refl, point_no_feed s.0 p s.2))
edit_no_feed v line (Move a b) s =
    subst (λ (l : List ℕ). HasNo 10 l) (sym s.1) (refl, (refl, pair_no_feed s.0 a b s.3))

-- nor a line that is taken
taken_no_feed : (p : Part) (f : Content) (line : List ℕ) (g : Content) → IsTaken p f line g → HasNo 10 line
taken_no_feed Points f line g h = point_no_feed line h.0 h.1
taken_no_feed Edits f line g h = edit_no_feed f.version line h.0 h.1
taken_no_feed Radii f line g h = number_without 10 line (omega arith) h.1.0.number
taken_no_feed Queries f line g h = point_no_feed line h.0 h.1

-- nor a title
title_no_feed : (v : Version) → HasNo 10 (row v).title
title_no_feed One = (refl, (refl, (refl, (refl, (refl, (refl, (refl, tt)))))))
title_no_feed Two = (refl, (refl, (refl, (refl, (refl, (refl, (refl, tt)))))))
title_no_feed Three = (refl, (refl, (refl, (refl, (refl, (refl, (refl, tt)))))))
title_no_feed Four = (refl, (refl, (refl, (refl, (refl, (refl, (refl, tt)))))))

-- nor a word behind a list
word_no_feed : (v : Version) (p : Part) → HasNo 10 (word_behind v p)
word_no_feed v Points = (refl, (refl, (refl, (refl, (refl, tt)))))
word_no_feed v Edits = (refl, (refl, (refl, (refl, (refl, tt)))))
word_no_feed v Radii = by (row v).queries
  where
    by : (b : Bool) → HasNo 10 (cond b (codes "queries") (codes "end"))
    by true = (refl, (refl, (refl, (refl, (refl, (refl, (refl, tt)))))))
    by false = (refl, (refl, (refl, tt)))
word_no_feed v Queries = (refl, (refl, (refl, tt)))

-- so none has one that leads on
lead_no_feed : (limits : Limits) (due : Due) (f : Content) (line : List ℕ) (b : Reached) → Leads limits due f line b →
    HasNo 10 line
lead_no_feed limits Title f line b h = subst (λ (l : List ℕ). HasNo 10 l) (sym h.1) (title_no_feed h.0)
lead_no_feed limits Heading f line b h =
    subst (λ (l : List ℕ). HasNo 10 l) (sym h.0) (refl, (refl, (refl, (refl, (refl, (refl, tt))))))
lead_no_feed limits (Body p) f line b h = elim h [
  | inl c ↦ subst (λ (l : List ℕ). HasNo 10 l) (sym c.0) (word_no_feed f.version p)
  | inr c ↦ taken_no_feed p f line c.0 c.2
]
lead_no_feed limits Nothing f line b h = absurd h

-- and no lines that lead one after another
pub all_no_feed : (limits : Limits) (lines : List (List ℕ)) (a b : Reached) → AllLead (LeadsOn limits) lines a b →
    HaveNoFeed lines
all_no_feed limits [] a b h = tt
all_no_feed limits (line ∷ lines) a b h =
    (lead_no_feed limits a.due a.taken line h.0 h.1, all_no_feed limits lines h.0 b h.2)
