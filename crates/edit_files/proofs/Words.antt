-- Section words, which no line of a list is.
use Rattle.std.proofs.Common.{◌≡◌, ℕ, Bool, true, false, cond, ◌&&◌, List, Ok, Err, refl, sym, ap, ◌∙◌}
use Rattle.std.specs.Prelude.{codes}
use Rattle.std.specs.Str.{bytes_eq}
use Rattle.std.proofs.lemmas.Bool.{or_from, false_from_ne_true}
use Rattle.std.proofs.lemmas.Slice.Eq.{bytes_eq-Decides}
use Rattle.text_readings.specs.declared.fault.Why.TheVariants.{Field}
use Rattle.text_readings.specs.Scanning.{digits, digits_from, number, point}
use Rattle.text_readings.proofs.Cited.{ok_err}
use Rattle.edit_files.specs.declared.place.Part.{Part}
use Rattle.edit_files.specs.declared.place.Part.TheVariants.{Points, Edits, Radii, Queries}
use Rattle.edit_files.specs.declared.version.Version.{Version}
use Rattle.edit_files.specs.declared.version.Version.TheVariants.{One, Two, Three, Four}
use Rattle.edit_files.specs.Content.{Content, row}
use Rattle.edit_files.specs.Faults.{is_word}
use Rattle.edit_files.specs.Grammar.{word_behind}
use Rattle.edit_files.specs.Judging.{edit, radius, taken}

-- no section word is of the form of a list's lines
record TakesNoWord (p : Part) (f : Content) : Type 0 where
  points : taken p f (codes "points") ≡ Err Field
  edits : taken p f (codes "edits") ≡ Err Field
  radii : taken p f (codes "radii") ≡ Err Field
  queries : taken p f (codes "queries") ≡ Err Field
  end : taken p f (codes "end") ≡ Err Field

-- none is taken in a list
no_word_taken : (p : Part) (f : Content) → TakesNoWord p f
unfolding edit radius point number digits digits_from
no_word_taken Points f = record { points = refl; edits = refl; radii = refl; queries = refl; end = refl }
no_word_taken Edits f = record { points = refl; edits = refl; radii = refl; queries = refl; end = refl }
no_word_taken Radii f = record { points = refl; edits = refl; radii = refl; queries = refl; end = refl }
no_word_taken Queries f = record { points = refl; edits = refl; radii = refl; queries = refl; end = refl }

-- a line that is taken is not a word that is not
other : (p : Part) (f : Content) (line word : List ℕ) (g : Content) → taken p f line ≡ Ok g →
    taken p f word ≡ Err Field → bytes_eq line word ≡ false
other p f line word g h w = false_from_ne_true (bytes_eq line word)
    (λ t. ok_err g Field (sym h ∙ ap (taken p f) ((bytes_eq-Decides line word).0 t) ∙ w))

-- a line that is no section word of any version
pub record IsNone (line : List ℕ) : Type 0 where
  pub points : bytes_eq line (codes "points") ≡ false
  pub edits : bytes_eq line (codes "edits") ≡ false
  pub radii : bytes_eq line (codes "radii") ≡ false
  pub queries : bytes_eq line (codes "queries") ≡ false
  pub end : bytes_eq line (codes "end") ≡ false

-- so a line that is taken is none
pub taken_none : (p : Part) (f : Content) (line : List ℕ) (g : Content) → taken p f line ≡ Ok g → IsNone line
taken_none p f line g h = let w = no_word_taken p f in record {
  points = other p f line (codes "points") g h w.points;
  edits = other p f line (codes "edits") g h w.edits;
  radii = other p f line (codes "radii") g h w.radii;
  queries = other p f line (codes "queries") g h w.queries;
  end = other p f line (codes "end") g h w.end;
}

-- it is none of a version
pub none_word : (v : Version) (line : List ℕ) → IsNone line → is_word v line ≡ false
none_word v line n =
    let queries : ((row v).queries && bytes_eq line (codes "queries")) ≡ false = rw n.queries (by (row v).queries) in
    or_from _ _ (or_from _ _ (or_from _ _ (or_from _ _ n.points n.edits) n.radii) n.end) queries
  where
    by : (b : Bool) → (b && false) ≡ false
    by true = refl
    by false = refl

-- and not the word behind a list
pub none_behind : (v : Version) (p : Part) (line : List ℕ) → IsNone line → bytes_eq line (word_behind v p) ≡ false
none_behind v Points line n = n.edits
none_behind v Edits line n = n.radii
none_behind v Radii line n = by (row v).queries
  where
    by : (b : Bool) → bytes_eq line (cond b (codes "queries") (codes "end")) ≡ false
    by true = n.queries
    by false = n.end
none_behind v Queries line n = n.end

-- the word behind a list is a section word
behind_word : (v : Version) (p : Part) → is_word v (word_behind v p) ≡ true
behind_word One Points = refl
behind_word One Edits = refl
behind_word One Radii = refl
behind_word One Queries = refl
behind_word Two Points = refl
behind_word Two Edits = refl
behind_word Two Radii = refl
behind_word Two Queries = refl
behind_word Three Points = refl
behind_word Three Edits = refl
behind_word Three Radii = refl
behind_word Three Queries = refl
behind_word Four Points = refl
behind_word Four Edits = refl
behind_word Four Radii = refl
behind_word Four Queries = refl

-- so a line that is none is not that word
pub not_behind : (v : Version) (p : Part) (line : List ℕ) → (is_word v line ≡ true → ⊥) →
    bytes_eq line (word_behind v p) ≡ false
not_behind v p line n = false_from_ne_true (bytes_eq line (word_behind v p))
    (λ t. n (ap (is_word v) ((bytes_eq-Decides line (word_behind v p)).0 t) ∙ behind_word v p))
