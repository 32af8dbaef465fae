-- What is written of a file within its limits is read as it; and each file that is read is within them.
use Rattle.std.proofs.Common.{◌≡◌, ℕ, ◌+◌, ◌<◌, ◌≤◌, Bool, true, false, cond, List, [], ◌∷◌, ◌++◌, length, get_or, drop}
use Rattle.std.proofs.Common.{refl, sym, ap, subst, ◌∙◌, arith, append_assoc, append-nil, inl, inr, lit≤, map}
use Rattle.std.specs.Prelude.{codes, decimal}
use Rattle.std.specs.List.{AllByRecursion}
use Rattle.std.proofs.lemmas.Bool.{both_ways}
use Rattle.std.proofs.lemmas.List.{at_drop_more, at_drop_all, length-append}
use Rattle.point_order.specs.Coordinates.{IsKey}
use Rattle.edit_history.specs.declared.history.Edit.{Edit}
use Rattle.edit_history.specs.declared.history.Edit.TheVariants.{Add, Take, Move}
use Rattle.text_readings.specs.Readings.{lines_of, text_of, AllLead}
use Rattle.text_readings.specs.PointLines.{line_of_point}
use Rattle.text_readings.proofs.Cited.{decimal_is, lead_append, lines_of_text, point_line, text_of_append}
use Rattle.edit_files.specs.declared.place.Part.{Part}
use Rattle.edit_files.specs.declared.place.Part.TheVariants.{Points, Edits, Radii, Queries}
use Rattle.edit_files.specs.declared.place.Due.{Due}
use Rattle.edit_files.specs.declared.place.Due.TheVariants.{Title, Heading, Body, Nothing}
use Rattle.edit_files.specs.declared.version.Version.{Version}
use Rattle.edit_files.specs.declared.version.Version.TheVariants.{One, Two, Three, Four}
use Rattle.edit_files.specs.Content.{Content, row}
use Rattle.edit_files.specs.Grammar.{IsEditLine, IsRadiusLine, IsFile, IsTaken, Leads, LeadsOn, Limits, Reached, at_end}
use Rattle.edit_files.specs.Grammar.{at_title, due_behind, lines_in, most_of, no_content, query_limit, radius_limit}
use Rattle.edit_files.specs.Writing.{edit_text, file_lines, file_text, query_section}
use Rattle.edit_files.specs.Held.{IsEditOf, IsWithinLimits}
use Rattle.edit_files.proofs.Decided.{at}
use Rattle.edit_files.proofs.DecidedEdits.{end_far}
use Rattle.edit_files.proofs.Texts.{all_no_feed}

-- ---- a line

-- what is written of an edit that the version may hold says the edit
edit_line : (v : Version) (e : Edit) → IsEditOf v e → IsEditLine v (edit_text e) e
edit_line v (Add p) k = (line_of_point p, refl, point_line p k.0)
edit_line v (Take p) k = (line_of_point p, refl, point_line p k.0)
edit_line v (Move a b) k = (
  line_of_point a ++ codes " " ++ line_of_point b,
  refl,
  k.1 refl,
  record {
    from = line_of_point a;
    to = line_of_point b;
    fields = append_assoc (line_of_point a) (codes " ") (line_of_point b);
    from_point = point_line a k.0.0;
    to_point = point_line b k.0.1;
  },
)

-- what is written of a radius in range says the radius
radius_line : (v : Version) (r : ℕ) → r < (row v).radius_end → IsRadiusLine v (decimal r) r
radius_line v r lt = (decimal_is r (omega (arith, lt, end_far v)), lt)

-- ---- the lines of a list

-- the lines that are written of points are taken as these
points_lead : (limits : Limits) (f : Content) (ps : List ℕ) → AllByRecursion IsKey ps →
    lines_in Points f + length ps ≤ limits.lines → AllLead (LeadsOn limits) (map line_of_point ps)
    (at (Body Points) f) (at (Body Points) (record f { points = f.points ++ ps }))
points_lead limits f [] all le =
    ap (λ (v : List ℕ). at (Body Points) (record f { points = v })) (sym (append-nil f.points))
points_lead limits f (p ∷ ps) all le =
    let g : Content = record f { points = f.points ++ p ∷ [] } in (
      at (Body Points) g,
      inr (g, omega arith, (p, point_line p all.0, refl), refl),
      subst (λ (v : List ℕ). AllLead (LeadsOn limits) (map line_of_point ps) (at (Body Points) g) (at (Body Points)
          (record f { points = v }))) (append_assoc f.points (p ∷ []) ps)
          (points_lead limits g ps all.1 (omega (arith, length-append f.points (p ∷ []), le))),
    )

-- those of edits
edits_lead : (limits : Limits) (f : Content) (es : List Edit) → AllByRecursion (IsEditOf f.version) es →
    lines_in Edits f + length es ≤ limits.lines → AllLead (LeadsOn limits) (map edit_text es)
    (at (Body Edits) f) (at (Body Edits) (record f { edits = f.edits ++ es }))
edits_lead limits f [] all le =
    ap (λ (v : List Edit). at (Body Edits) (record f { edits = v })) (sym (append-nil f.edits))
edits_lead limits f (e ∷ es) all le =
    let g : Content = record f { edits = f.edits ++ e ∷ [] } in (
      at (Body Edits) g,
      inr (g, omega arith, (e, edit_line f.version e all.0, refl), refl),
      subst (λ (v : List Edit). AllLead (LeadsOn limits) (map edit_text es) (at (Body Edits) g) (at (Body Edits)
          (record f { edits = v }))) (append_assoc f.edits (e ∷ []) es)
          (edits_lead limits g es all.1 (omega (arith, length-append f.edits (e ∷ []), le))),
    )

-- those of radii
radii_lead : (limits : Limits) (f : Content) (rs : List ℕ) → AllByRecursion (λ r. r < (row f.version).radius_end) rs →
    length f.radii + length rs ≤ radius_limit → AllLead (LeadsOn limits) (map decimal rs)
    (at (Body Radii) f) (at (Body Radii) (record f { radii = f.radii ++ rs }))
radii_lead limits f [] all le =
    ap (λ (v : List ℕ). at (Body Radii) (record f { radii = v })) (sym (append-nil f.radii))
radii_lead limits f (r ∷ rs) all le =
    let g : Content = record f { radii = f.radii ++ r ∷ [] } in (
      at (Body Radii) g,
      inr (g, omega arith, (r, radius_line f.version r all.0, refl), refl),
      subst (λ (v : List ℕ). AllLead (LeadsOn limits) (map decimal rs) (at (Body Radii) g) (at (Body Radii)
          (record f { radii = v }))) (append_assoc f.radii (r ∷ []) rs)
          (radii_lead limits g rs all.1 (omega (arith, length-append f.radii (r ∷ []), le))),
    )

-- and those of queries
queries_lead : (limits : Limits) (f : Content) (qs : List ℕ) → AllByRecursion IsKey qs →
    length f.queries + length qs ≤ query_limit → AllLead (LeadsOn limits) (map line_of_point qs)
    (at (Body Queries) f) (at (Body Queries) (record f { queries = f.queries ++ qs }))
queries_lead limits f [] all le =
    ap (λ (v : List ℕ). at (Body Queries) (record f { queries = v })) (sym (append-nil f.queries))
queries_lead limits f (q ∷ qs) all le =
    let g : Content = record f { queries = f.queries ++ q ∷ [] } in (
      at (Body Queries) g,
      inr (g, omega arith, (q, point_line q all.0, refl), refl),
      subst (λ (v : List ℕ). AllLead (LeadsOn limits) (map line_of_point qs) (at (Body Queries) g) (at (Body Queries)
          (record f { queries = v }))) (append_assoc f.queries (q ∷ []) qs)
          (queries_lead limits g qs all.1 (omega (arith, length-append f.queries (q ∷ []), le))),
    )

-- ---- the whole file

-- the lines of the lists, up to each
abbrev pub to_points : Version → List (List ℕ) → List (List ℕ)
to_points v pls = (row v).title ∷ codes "points" ∷ pls

-- up to the edits
abbrev pub to_edits : Version → List (List ℕ) → List (List ℕ) → List (List ℕ)
to_edits v pls els = to_points v pls ++ codes "edits" ∷ els

-- up to the radii
abbrev pub to_radii : Version → List (List ℕ) → List (List ℕ) → List (List ℕ) → List (List ℕ)
to_radii v pls els rls = to_edits v pls els ++ codes "radii" ∷ rls

-- a file without queries yet
abbrev unqueried : Content → Content
unqueried f = record f { queries = [] }

-- the lines up to the radii lead to these
to_radii_lead : (limits : Limits) (f : Content) → IsWithinLimits limits f → AllLead (LeadsOn limits)
    (to_radii f.version (map line_of_point f.points) (map edit_text f.edits) (map decimal f.radii)) at_title
    (at (Body Radii) (unqueried f))
to_radii_lead limits f w =
    let none : Content = record no_content { version = f.version } in
    let points : Content = record none { points = f.points } in
    let edits : Content = record points { edits = f.edits } in
    lead_append (LeadsOn limits)
    (to_edits f.version (map line_of_point f.points) (map edit_text f.edits)) (codes "radii" ∷ map decimal f.radii)
    at_title (at (Body Edits) edits) (at (Body Radii) (unqueried f))
    (lead_append (LeadsOn limits) (to_points f.version (map line_of_point f.points))
    (codes "edits" ∷ map edit_text f.edits) at_title (at (Body Points) points) (at (Body Edits) edits) (
      at Heading none,
      (f.version, refl, w.version, refl),
      (
        at (Body Points) none,
        (refl, refl),
        points_lead limits none f.points w.points (omega (arith, w.line_count)),
      ),
    ) (
      at (Body Edits) points,
      inl (refl, refl),
      edits_lead limits points f.edits w.edits (omega
          (arith, w.line_count)),
    ))
    (at (Body Radii) edits, inl (refl, refl), radii_lead limits edits f.radii w.radii (omega (arith, w.radius_count)))

-- those behind the radii lead from there to the end
end_lead : (limits : Limits) (f : Content) (has : Bool) → IsWithinLimits limits f → (row f.version).queries ≡ has →
    AllLead (LeadsOn limits) (cond has (codes "queries" ∷ map line_of_point f.queries) [] ++ codes "end" ∷ [])
    (at (Body Radii) (unqueried f)) (at_end f)
end_lead limits f true w has = (
  at (Body Queries) (unqueried f),
  inl (rw has refl, rw has refl),
  lead_append (LeadsOn limits) (map line_of_point f.queries) (codes "end" ∷ []) (at (Body Queries) (unqueried f))
      (at (Body Queries) f) (at_end f)
      (queries_lead limits (unqueried f) f.queries w.queries (omega (arith, w.query_count)))
      (at_end f, inl (refl, refl), refl),
)
end_lead limits f false w has = (
  at_end (unqueried f),
  inl (rw has refl, rw has refl),
  ap (λ (v : List ℕ). at_end (record f { queries = v })) (sym (w.unasked has)),
)

-- so all lines of a file within the limits lead to it
file_leads : (limits : Limits) (f : Content) → IsWithinLimits limits f →
    AllLead (LeadsOn limits) (file_lines f) at_title (at_end f)
file_leads limits f w =
    let front : List (List ℕ) = to_radii f.version (map line_of_point f.points) (map edit_text f.edits)
    (map decimal f.radii) in
    let section : List (List ℕ) = query_section f.version (map line_of_point f.queries) in
    subst (λ (ls : List (List ℕ)). AllLead (LeadsOn limits) ls at_title (at_end f))
    (sym (append_assoc front section (codes "end" ∷ [])))
    (lead_append (LeadsOn limits) front (section ++ codes "end" ∷ []) at_title (at (Body Radii) (unqueried f))
    (at_end f) (to_radii_lead limits f w) (end_lead limits f (row f.version).queries w refl))

-- the text that is written of a file within the limits is of that file
pub written_is_file : (limits : Limits) (f : Content) → IsWithinLimits limits f → IsFile limits (file_text f) f
written_is_file limits f w =
    let leads = file_leads limits f w in
    subst (λ (ls : List (List ℕ)). AllLead (LeadsOn limits) ls at_title (at_end f))
    (sym (lines_of_text (file_lines f) (all_no_feed limits (file_lines f) at_title (at_end f) leads))) leads

-- ---- what is read is within the limits

-- an edit that a line says is one that the version may hold
edit_key : (v : Version) (line : List ℕ) (e : Edit) → IsEditLine v line e → IsEditOf v e
edit_key v line (Add p) s = (s.2.key, λ moves. absurd cc)
edit_key v line (Take p) s = (s.2.key, λ moves. absurd cc)
edit_key v line (Move a b) s = ((s.3.from_point.key, s.3.to_point.key), λ moves. s.2)

-- with one more at the end all are so
all_more : {A : Type 0} (P : A → Type 0) (xs : List A) (x : A) → AllByRecursion P xs → P x →
    AllByRecursion P (xs ++ x ∷ [])
all_more P [] x all h = (h, tt)
all_more P (y ∷ xs) x all h = (all.0, all_more P xs x all.1 h)

-- what stands besides where this is due: nothing is taken before the title, and queries are due where there are some
abbrev IsPlaced : Due → Content → Type 0
IsPlaced Title f = f ≡ no_content
IsPlaced Heading f = Unit {0}
IsPlaced (Body p) f = p ≡ Queries → (row f.version).queries ≡ true
IsPlaced Nothing f = Unit {0}

-- where a reading is, what was taken is within the limits
record IsFitting (limits : Limits) (r : Reached) : Type 0 where
  within : IsWithinLimits limits r.taken
  placed : IsPlaced r.due r.taken

-- what a file of a version begins with is
none_within : (limits : Limits) (v : Version) → (row v).number ≤ (row limits.newest).number →
    IsWithinLimits limits (record no_content { version = v })
none_within limits v le = record {
  version = le;
  points = tt;
  edits = tt;
  radii = tt;
  queries = tt;
  unasked = λ none. refl;
  line_count = omega arith;
  radius_count = omega arith;
  query_count = omega arith;
}

-- the first version is taken always
first_within : (v : Version) → (row One).number ≤ (row v).number
first_within One = lit≤ tt
first_within Two = lit≤ tt
first_within Three = lit≤ tt
first_within Four = lit≤ tt

-- what is taken of a line stays within them, in the file's version
taken_within : (limits : Limits) (p : Part) (f : Content) (line : List ℕ) (g : Content) → IsTaken p f line g →
    lines_in p f < most_of limits p → (p ≡ Queries → (row f.version).queries ≡ true) → IsWithinLimits limits f →
    IsWithinLimits limits g × (g.version ≡ f.version)
taken_within limits Points f line g h lt has w = subst (λ (c : Content). IsWithinLimits limits c × (c.version
    ≡ f.version)) (sym h.2) (
      record {
        version = w.version;
        points = all_more IsKey f.points h.0 w.points h.1.key;
        edits = w.edits;
        radii = w.radii;
        queries = w.queries;
        unasked = w.unasked;
        line_count = omega (arith, lt, length-append f.points (h.0 ∷ []));
        radius_count = w.radius_count;
        query_count = w.query_count;
      },
      refl,
    )
taken_within limits Edits f line g h lt has w = subst (λ (c : Content). IsWithinLimits limits c × (c.version
    ≡ f.version)) (sym h.2) (
      record {
        version = w.version;
        points = w.points;
        edits = all_more (IsEditOf f.version) f.edits h.0 w.edits (edit_key f.version line h.0 h.1);
        radii = w.radii;
        queries = w.queries;
        unasked = w.unasked;
        line_count = omega (arith, lt, length-append f.edits (h.0 ∷ []));
        radius_count = w.radius_count;
        query_count = w.query_count;
      },
      refl,
    )
taken_within limits Radii f line g h lt has w = subst (λ (c : Content). IsWithinLimits limits c × (c.version
    ≡ f.version)) (sym h.2) (
      record {
        version = w.version;
        points = w.points;
        edits = w.edits;
        radii = all_more (λ r. r < (row f.version).radius_end) f.radii h.0 w.radii h.1.1;
        queries = w.queries;
        unasked = w.unasked;
        line_count = w.line_count;
        radius_count = omega (arith, lt, length-append f.radii (h.0 ∷ []));
        query_count = w.query_count;
      },
      refl,
    )
taken_within limits Queries f line g h lt has w = subst (λ (c : Content). IsWithinLimits limits c × (c.version
    ≡ f.version)) (sym h.2) (
      record {
        version = w.version;
        points = w.points;
        edits = w.edits;
        radii = w.radii;
        queries = all_more IsKey f.queries h.0 w.queries h.1.key;
        unasked = λ none. absurd (both_ways _ none (has refl));
        line_count = w.line_count;
        radius_count = w.radius_count;
        query_count = omega (arith, lt, length-append f.queries (h.0 ∷ []));
      },
      refl,
    )

-- behind a list queries are due where the version has some
behind_placed : (p : Part) (f : Content) → IsPlaced (due_behind f.version p) f
behind_placed Points f = λ e. absurd cc
behind_placed Edits f = λ e. absurd cc
behind_placed Radii f = by (row f.version).queries refl
  where
    by : (b : Bool) → (row f.version).queries ≡ b → IsPlaced (cond b (Body Queries) Nothing) f
    by true has = λ e. has
    by false has = tt
behind_placed Queries f = tt

-- so a line that leads on leaves it so
lead_within : (limits : Limits) (due : Due) (f : Content) (line : List ℕ) (b : Reached) → Leads limits due f line b →
    IsFitting limits (at due f) → IsFitting limits b
lead_within limits Title f line b h k = subst (λ (r : Reached). IsFitting limits r) (sym h.3) (record {
  within = subst (λ (c : Content). IsWithinLimits limits (record c { version = h.0 })) (sym k.placed)
      (none_within limits h.0 h.2);
  placed = tt;
})
lead_within limits Heading f line b h k = subst (λ (r : Reached). IsFitting limits r) (sym h.1)
    (record { within = k.within; placed = λ e. absurd cc })
lead_within limits (Body p) f line b h k = elim h [
  | inl c ↦ subst (λ (r : Reached). IsFitting limits r) (sym c.1)
      (record { within = k.within; placed = behind_placed p f })
  | inr c ↦
      let w = taken_within limits p f line c.0 c.2 c.1 k.placed k.within in
      subst (λ (r : Reached). IsFitting limits r) (sym c.3)
      (record { within = w.0; placed = λ e. ap (λ (v : Version). (row v).queries) w.1 ∙ k.placed e })
]
lead_within limits Nothing f line b h k = absurd h

-- and so do lines
all_within : (limits : Limits) (lines : List (List ℕ)) (a b : Reached) → AllLead (LeadsOn limits) lines a b →
    IsFitting limits a → IsFitting limits b
all_within limits [] a b h k = subst (λ (r : Reached). IsFitting limits r) h k
all_within limits (line ∷ lines) a b h k =
    all_within limits lines h.0 b h.2 (lead_within limits a.due a.taken line h.0 h.1 k)

-- the file that a text is of is within the limits
pub file_is_within : (limits : Limits) (bytes : List ℕ) (f : Content) → IsFile limits bytes f → IsWithinLimits limits f
file_is_within limits bytes f h = (all_within limits (lines_of bytes) at_title (at_end f) h (record {
  within = none_within limits One (first_within limits.newest);
  placed = refl;
})).within

-- ---- the text, list by list

-- so it is with a word between them
pushed : (a : List (List ℕ)) (word : List ℕ) (b : List (List ℕ)) → text_of a ++ text_of (word ∷ []) ++ text_of b ≡
    text_of (a ++ word ∷ b)
pushed a word b =
    append_assoc (text_of a) (text_of (word ∷ [])) (text_of b)
    ∙ ap (λ (t : List ℕ). text_of a ++ t) (sym (text_of_append (word ∷ []) b)) ∙ sym (text_of_append a (word ∷ b))

-- the next of some lines is put
pub line_put : {A : Type 0} (shown : A → List ℕ) (xs : List A) (i : ℕ) (x : A) (old new whole : List ℕ) →
    i < length xs → x ≡ get_or xs i x → new ≡ old ++ text_of (shown x ∷ [])
    → old ++ text_of (map shown (drop i xs)) ≡ whole → new ++ text_of (map shown (drop (i + 1) xs)) ≡ whole
line_put {A} shown xs i x old new whole lt is put so_far =
    let left : List A = drop (i + 1) xs in
    let rest : List ℕ = text_of (map shown left) in
    ap (λ (t : List ℕ). t ++ rest) put
    ∙ append_assoc old (text_of (shown x ∷ [])) rest
    ∙ ap (λ (t : List ℕ). old ++ t) (append_assoc (shown x) (10 ∷ []) rest
    ∙ ap (λ (y : A). text_of (map shown (y ∷ left))) is
    ∙ sym (at_drop_more (λ (ys : List A). text_of (map shown ys)) xs i x lt))
    ∙ so_far

-- no line is left
pub lines_put : {A : Type 0} (shown : A → List ℕ) (xs : List A) (i : ℕ) (old whole : List ℕ) → length xs ≤ i →
    old ++ text_of (map shown (drop i xs)) ≡ whole → old ≡ whole
lines_put {A} shown xs i old whole le so_far =
    sym (append-nil old) ∙ ap (λ (t : List ℕ). old ++ t) (sym (at_drop_all (λ (ys : List A). text_of (map shown ys)) xs
    i le)) ∙ so_far

-- what is put list by list, up to the radii
pub to_radii_put : (f : Content) (b c d e g h : List ℕ) → b ≡ text_of ((row f.version).title ∷ codes "points" ∷ []) →
    c ≡ b ++ text_of (map line_of_point f.points)
    → d ≡ c ++ text_of (codes "edits" ∷ []) → e ≡ d ++ text_of (map edit_text f.edits) →
    g ≡ e ++ text_of (codes "radii" ∷ []) → h ≡ g ++ text_of (map decimal f.radii)
    → h ≡ text_of (to_radii f.version (map line_of_point f.points) (map edit_text f.edits) (map decimal f.radii))
to_radii_put f b c d e g h pb pc pd pe pg ph =
    let in_points : List (List ℕ) = to_points f.version (map line_of_point f.points) in
    let in_edits : List (List ℕ) = to_edits f.version (map line_of_point f.points) (map edit_text f.edits) in
    let qc : c ≡ text_of in_points = pc ∙ ap (λ (t : List ℕ). t ++ text_of (map line_of_point f.points)) pb
    ∙ sym (text_of_append ((row f.version).title ∷ codes "points" ∷ []) (map line_of_point f.points)) in
    let qe : e ≡ text_of in_edits = pe ∙ ap (λ (t : List ℕ). t ++ text_of (map edit_text f.edits)) (pd
    ∙ ap (λ (t : List ℕ). t ++ text_of (codes "edits" ∷ [])) qc)
    ∙ pushed in_points (codes "edits") (map edit_text f.edits) in
    ph ∙ ap (λ (t : List ℕ). t ++ text_of (map decimal f.radii)) (pg
    ∙ ap (λ (t : List ℕ). t ++ text_of (codes "radii" ∷ [])) qe)
    ∙ pushed in_edits (codes "radii") (map decimal f.radii)

-- the title, and the line feed that ends it with the word behind it
pub title_put : (title a : List ℕ) (b : List ℕ) → a ≡ title → b ≡ a ++ codes "\npoints\n" →
    b ≡ text_of (title ∷ codes "points" ∷ [])
title_put title a b e h = h ∙ ap (λ (t : List ℕ). t ++ codes "\npoints\n") e

-- and the end, where there are no queries
pub ended_put : (f : Content) (h i : List ℕ) → (row f.version).queries ≡ false →
    h ≡ text_of (to_radii f.version (map line_of_point f.points) (map edit_text f.edits) (map decimal f.radii)) →
    i ≡ h ++ text_of (codes "end" ∷ []) → i ≡ file_text f
ended_put f h i none qh pi =
    let before : List (List ℕ) = to_radii f.version (map line_of_point f.points) (map edit_text f.edits)
    (map decimal f.radii) in
    let section : query_section f.version (map line_of_point f.queries) ≡ [] = rw none refl in
    pi ∙ ap (λ (t : List ℕ). t ++ text_of (codes "end" ∷ [])) qh ∙ sym (text_of_append before (codes "end" ∷ []))
    ∙ ap (λ (ls : List (List ℕ)). text_of (ls ++ codes "end" ∷ [])) (sym (append-nil before))
    ∙ ap (λ (ls : List (List ℕ)). text_of (before ++ ls ++ codes "end" ∷ [])) (sym section)

-- and where there are
pub queries_put : (f : Content) (h j k i : List ℕ) → (row f.version).queries ≡ true →
    h ≡ text_of (to_radii f.version (map line_of_point f.points) (map edit_text f.edits) (map decimal f.radii))
    → j ≡ h ++ text_of (codes "queries" ∷ []) → k ≡ j ++ text_of (map line_of_point f.queries) →
    i ≡ k ++ text_of (codes "end" ∷ []) → i ≡ file_text f
queries_put f h j k i has qh pj pk pi =
    let before : List (List ℕ) = to_radii f.version (map line_of_point f.points) (map edit_text f.edits)
    (map decimal f.radii) in
    let in_queries : List (List ℕ) = before ++ codes "queries" ∷ map line_of_point f.queries in
    let section : query_section f.version (map line_of_point f.queries)
    ≡ codes "queries" ∷ map line_of_point f.queries =
    rw has refl in
    let qk : k ≡ text_of in_queries = pk ∙ ap (λ (t : List ℕ). t ++ text_of (map line_of_point f.queries)) (pj
    ∙ ap (λ (t : List ℕ). t ++ text_of (codes "queries" ∷ [])) qh)
    ∙ pushed before (codes "queries") (map line_of_point f.queries) in
    pi ∙ ap (λ (t : List ℕ). t ++ text_of (codes "end" ∷ [])) qk ∙ sym (text_of_append in_queries (codes "end" ∷ []))
    ∙ ap (λ (ls : List (List ℕ)). text_of (before ++ ls ++ codes "end" ∷ [])) (sym section)
