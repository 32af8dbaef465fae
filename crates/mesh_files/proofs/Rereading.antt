-- The text of a report of a mesh alone leads, line by line, to the mesh.
use Rattle.std.proofs.Common.{◌≡◌, ℕ, zero, suc, ◌+◌, ◌<◌, ◌≤◌, ◌^◌, true, false, ltb, List, [], ◌∷◌, ◌++◌, length, map}
use Rattle.std.proofs.Common.{refl, sym, ap, subst, ◌∙◌, arith, inl, inr, append_assoc, append-nil}
use Rattle.std.specs.Prelude.{◌⊎◌, ⊤, codes, decimal, slice_index_or, None, Option}
use Rattle.std.specs.List.{AllByRecursion, concat, join_with_byte}
use Rattle.std.specs.List.Sorted.{IsStrictlySortedBy}
use Rattle.std.specs.Cmp.Lexicographic.{slice_cmp}
use Rattle.std.specs.Ordering.{nat_cmp}
use Rattle.std.specs.declared.cmp.Ordering.{Ordering}
use Rattle.std.specs.declared.cmp.Ordering.TheVariants.{Less}
use Rattle.std.proofs.lemmas.Bool.{cases_lt, lt-ltb, le-ltb}
use Rattle.std.proofs.lemmas.List.{length-map}
use Rattle.list_laws.specs.Lists.{IsIn, IsAscending}
use Rattle.list_laws.proofs.Cited.{below_each, in_left, in_right}
use Rattle.point_order.specs.Coordinates.{x_of, y_of, z_of, IsKey}
use Rattle.edit_history.specs.declared.history.Reply.{Reply}
use Rattle.edit_history.specs.declared.history.Reply.TheVariants.{Inserted, Duplicate, Removed, Missing, Flat, Moved}
use Rattle.edit_history.specs.declared.history.Reply.TheVariants.{Occupied}
use Rattle.text_readings.specs.Readings.{lines_of, AllLead}
use Rattle.text_readings.specs.PointLines.{IsNumber, IsNumberOf, IsPointLine, line_of_point}
use Rattle.text_readings.proofs.Cited.{HasNo, decimal_is, line_first, number_without, point_line, without_append}
use Rattle.text_readings.proofs.Cited.{point_no_feed as point_feed}
use Rattle.text_sheets.specs.Lines.{block, spaced}
use Rattle.text_sheets.specs.Indices.{index_of}
use Rattle.mesh_reader.specs.declared.place.Part.{Part}
use Rattle.mesh_reader.specs.declared.place.Part.TheVariants.{Replies, Points, Cells, Hull}
use Rattle.mesh_reader.specs.declared.place.Due.{Due}
use Rattle.mesh_reader.specs.declared.place.Due.TheVariants.{Title, Head, Body, Last, Nothing}
use Rattle.mesh_reader.specs.Grammar.{AreIndices, IsAfter, IsHead, IsIndexLine, IsIndexOf, IsLess, IsMeshText, IsTaken}
use Rattle.mesh_reader.specs.Grammar.{Leads, LeadsOn, MeshParts, Reached, at_end, at_title, behind, lines_due, most_of}
use Rattle.mesh_reader.specs.Grammar.{no_parts, point_limit, head_word, reply_word as read_word, reply_word}
use Rattle.mesh_reader.specs.Order.{AreInOrder, IsInOrder}
use Rattle.mesh_files.specs.Text.{ReportParts, full_corners, hull_corners, mesh_blocks, order_block, report_text}
use Rattle.mesh_files.specs.Text.{shape_blocks}
use Rattle.mesh_files.specs.Reading.{IsOfMesh, WrittenIsRead, mesh_of}

-- a place by its parts
abbrev at : Due → MeshParts → Reached
at due f = record { due = due; taken = f }

-- the text leads from one place to another
abbrev TextLeads : List ℕ → Reached → Reached → Type 0
TextLeads text a b = AllLead LeadsOn (lines_of text) a b

-- ---- one line

-- a line that is right leads on, and the text behind it from there
line_leads : (line rest : List ℕ) (a m b : Reached) → HasNo 10 line → Leads a.due a.taken line m → TextLeads rest m b
    → TextLeads (line ++ 10 ∷ rest) a b
line_leads line rest a m b without leads next = subst (λ (ls : List (List ℕ)). AllLead LeadsOn ls a b) (sym
    (line_first line rest without)) (m, leads, next)

-- with what follows it put in another way
again : (s t : List ℕ) (a b : Reached) → s ≡ t → TextLeads s a b → TextLeads t a b
again s t a b e h = subst (λ (u : List ℕ). TextLeads u a b) e h

-- ---- a list

-- what a list of lines adds
abbrev all_added : {X : Type 0} → (MeshParts → X → MeshParts) → MeshParts → List X → MeshParts
all_added add f [] = f
all_added add f (x ∷ xs) = all_added add (add f x) xs

-- lines that may be taken one after another
record Takes {X : Type 0} (p : Part) (shown : X → List ℕ) (add : MeshParts → X → MeshParts) (May : MeshParts → List X
    → Type 0) : Type 0 where
  line : (f : MeshParts) (x : X) (xs : List X) → May f (x ∷ xs) → HasNo 10 (shown x)
  taken : (f : MeshParts) (x : X) (xs : List X) → May f (x ∷ xs) → IsTaken p f (shown x) (add f x)
  rest : (f : MeshParts) (x : X) (xs : List X) → May f (x ∷ xs) → May (add f x) xs

-- a line in front of others
in_front_of : (line lines rest : List ℕ) → line ++ 10 ∷ (lines ++ rest) ≡ ((line ++ codes "\n") ++ lines) ++ rest
in_front_of line lines rest =
    sym (append_assoc line (10 ∷ []) (lines ++ rest)) ∙ sym (append_assoc (line ++ 10 ∷ []) lines rest)

-- lines that may be taken one after another lead through their list
lines_lead : {X : Type 0} (p : Part) (shown : X → List ℕ) (add : MeshParts → X → MeshParts) (May : MeshParts → List X
    → Type 0) → Takes p shown add May → (xs : List X) (f : MeshParts) (rest : List ℕ) (b : Reached) → May f xs
    → TextLeads rest (at (behind p) (all_added add f xs)) b → TextLeads (concat (map
    (λ x. shown x ++ codes "\n") xs) ++ rest) (at (lines_due p (length xs)) f) b
lines_lead p shown add May t [] f rest b may next = next
lines_lead {X} p shown add May t (x ∷ xs) f rest b may next =
    let others : List ℕ = concat (map (λ (y : X). shown y ++ codes "\n") xs) in
    let left = lines_lead p shown add May t xs (add f x) rest b (t.rest f x xs may) next in
    again (shown x ++ 10 ∷ (others ++ rest)) (((shown x ++ codes "\n") ++ others) ++ rest) (at (Body p (length xs)) f) b
    (in_front_of (shown x) others rest)
    (line_leads (shown x) (others ++ rest) (at (Body p (length xs)) f) (at (lines_due p (length xs)) (add f x)) b
    (t.line f x xs may) (add f x, t.taken f x xs may, refl) left)

-- ---- a head

-- what is written of a number has no line feed
decimal_feed : (n : ℕ) → n < 2 ^ 64 → HasNo 10 (decimal n)
decimal_feed n lt = number_without 10 (decimal n) (omega arith) (decimal_is n lt).number

-- nor has the word of a list
word_feed : (p : Part) → HasNo 10 (head_word p)
word_feed Replies = (refl, (refl, (refl, (refl, (refl, (refl, (refl, (refl, tt))))))))
word_feed Points = (refl, (refl, (refl, (refl, (refl, (refl, (refl, tt)))))))
word_feed Cells = (refl, (refl, (refl, (refl, (refl, (refl, tt))))))
word_feed Hull = (refl, (refl, (refl, (refl, (refl, tt)))))

-- as many lines as there may be are a number of 64 bits
most_fits : (p : Part) → most_of p < 2 ^ 64
most_fits Replies = omega arith
most_fits Points = omega arith
most_fits Cells = omega arith
most_fits Hull = omega arith

-- the head of a list with few enough lines leads to them
head_leads : (p : Part) (n : ℕ) (f : MeshParts) (lines rest : List ℕ) (b : Reached) → n ≤ most_of p → TextLeads
    (lines ++ rest) (at (lines_due p n) f) b
    → TextLeads ((((head_word p ++ decimal n) ++ codes "\n") ++ lines) ++ rest) (at (Head p) f) b
head_leads p n f lines rest b le next =
    let fits : n < 2 ^ 64 = omega (arith, le, most_fits p) in
    let line : List ℕ = head_word p ++ decimal n in
    again (line ++ 10 ∷ (lines ++ rest)) (((line ++ codes "\n") ++ lines) ++ rest) (at (Head p) f) b
    (in_front_of line lines rest)
    (line_leads line (lines ++ rest) (at (Head p) f) (at (lines_due p n) f) b (without_append 10 (head_word p)
    (decimal n) (word_feed p) (decimal_feed n fits))
    (n, record { digits = decimal n; fields = refl; value = decimal_is n fits; most = le }, refl) next)

-- ---- replies

-- the word that is written of a reply is the one that is read
word_same : (r : Reply) → reply_word r ≡ read_word r
word_same Inserted = refl
word_same Duplicate = refl
word_same Removed = refl
word_same Missing = refl
word_same Flat = refl
word_same Moved = refl
word_same Occupied = refl

-- it has no line feed
reply_feed : (r : Reply) → HasNo 10 (reply_word r)
reply_feed Inserted = (refl, (refl, (refl, (refl, (refl, (refl, (refl, (refl, tt))))))))
reply_feed Duplicate = (refl, (refl, (refl, (refl, (refl, (refl, (refl, (refl, (refl, tt)))))))))
reply_feed Removed = (refl, (refl, (refl, (refl, (refl, (refl, (refl, tt)))))))
reply_feed Missing = (refl, (refl, (refl, (refl, (refl, (refl, (refl, tt)))))))
reply_feed Flat = (refl, (refl, (refl, (refl, tt))))
reply_feed Moved = (refl, (refl, (refl, (refl, (refl, tt)))))
reply_feed Occupied = (refl, (refl, (refl, (refl, (refl, (refl, (refl, (refl, tt))))))))

-- the mesh with a reply more
abbrev add_reply : MeshParts → Reply → MeshParts
add_reply f r = record f { replies = f.replies ++ r ∷ [] }

-- lines of replies are taken one after another
replies_taken : Takes Replies reply_word add_reply (λ f l. ⊤)
replies_taken = record {
  line = λ f r l may. reply_feed r;
  taken = λ f r l may. (r, word_same r, refl);
  rest = λ f r l may. tt;
}

-- ---- points

-- the three numbers of a point, put in the two ways
spaced_three : (x y z : ℕ) → spaced (x ∷ y ∷ z ∷ []) ≡ (decimal x ++ 32 ∷ decimal y) ++ 32 ∷ decimal z
spaced_three x y z =
    append_assoc (decimal x) (codes " ") (spaced (y ∷ z ∷ []))
    ∙ ap (λ (t : List ℕ). decimal x ++ 32 ∷ t) (append_assoc (decimal y) (codes " ") (decimal z))
    ∙ sym (append_assoc (decimal x) (32 ∷ decimal y) (32 ∷ decimal z))

-- the line of a point
abbrev shown_point : ℕ → List ℕ
shown_point p = spaced (x_of p ∷ y_of p ∷ z_of p ∷ [])

-- the mesh with a point more
abbrev add_point : MeshParts → ℕ → MeshParts
add_point f p = record f { points = f.points ++ p ∷ [] }

-- the line that is written of a key says the point
point_read : (p : ℕ) → IsKey p → IsPointLine (shown_point p) p
point_read p key = subst (λ (l : List ℕ). IsPointLine l p) (sym (spaced_three (x_of p) (y_of p) (z_of p)))
    (point_line p key)

-- the last of a front of ascending numbers
last_below : (l m : List ℕ) (x : ℕ) → IsAscending (l ++ x ∷ m) → IsAfter (λ r q. r < q) l x
last_below [] m x a = tt
last_below (r ∷ []) m x a = a.0
last_below (r ∷ o ∷ l) m x a = last_below (o ∷ l) m x a.1

-- points that are keys and ascend, behind those of the mesh
record MayPoints (f : MeshParts) (l : List ℕ) : Type 0 where
  ascending : IsAscending (f.points ++ l)
  keys : (p : ℕ) → IsIn p l → IsKey p

-- lines of points that are keys and ascend are taken
points_taken : Takes Points shown_point add_point MayPoints
points_taken = record {
  line = λ f p l may. point_feed (shown_point p) p (point_read p (may.keys p (inl refl)));
  taken = λ f p l may. (p, point_read p (may.keys p (inl refl)), last_below f.points l p may.ascending, refl);
  rest = λ f p l may. record {
    ascending = subst (λ (s : List ℕ). IsAscending s) (sym (append_assoc f.points (p ∷ []) l)) may.ascending;
    keys = λ q m. may.keys q (inr m);
  };
}

-- ---- indices

-- one and a number is the next
one_more : (n : ℕ) → 1 + n ≡ suc n
one_more n = omega arith

-- a point of an ascending list stands at its index
index_at : (s : List ℕ) (p : ℕ) → IsAscending s → IsIn p s → (index_of s p < length s) × (slice_index_or s
    (index_of s p) 0 ≡ p)
index_at [] p a m = absurd m
index_at (x ∷ s) p a m = elim (cases_lt x p) [
  | inl lt ↦
      let e : ltb x p ≡ true = lt-ltb x p lt in
      let behind : IsIn p s = elim m [ inl same ↦ absurd (let g : ⊥ = omega (arith, lt, same) in g) | inr k ↦ k ] in
      let rest = index_at s p a.1 behind in
      rw e (
        omega (arith, rest.0),
        ap (λ (k : ℕ). slice_index_or (x ∷ s) k 0) (one_more (index_of s p)) ∙ rest.1,
      )
  | inr le ↦
      let e : ltb x p ≡ false = le-ltb x p le in
      let same : x ≡ p = elim m [
        | inl k ↦ k
        | inr k ↦ absurd (let g : ⊥ = omega
            (arith, le, below_each x s a.0 a.1 p k) in g)
      ] in
      rw e (omega arith, same)
]

-- numbers with a space between two are their texts so joined
spaced_joined : (ns : List ℕ) → spaced ns ≡ join_with_byte 32 (map decimal ns)
spaced_joined [] = refl
spaced_joined (n ∷ []) = refl
spaced_joined (n ∷ m ∷ ns) =
    append_assoc (decimal n) (codes " ") (spaced (m ∷ ns)) ∙ ap (λ (t : List ℕ). decimal n ++ 32 ∷ t) (spaced_joined
    (m ∷ ns))

-- a line of numbers has no line feed
numbers_feed : (ns : List ℕ) → ((n : ℕ) → IsIn n ns → n < 2 ^ 64) → HasNo 10 (spaced ns)
numbers_feed [] h = tt
numbers_feed (n ∷ []) h = decimal_feed n (h n (inl refl))
numbers_feed (n ∷ m ∷ ns) h =
    without_append 10 (decimal n ++ codes " ") (spaced (m ∷ ns)) (without_append 10 (decimal n) (codes " ")
    (decimal_feed n (h n (inl refl))) (refl, tt))
    (numbers_feed (m ∷ ns) (λ k i. h k (inr i)))

-- the list of points is no longer than it may be
record IsShort (s : List ℕ) : Type 0 where
  ascending : IsAscending s
  count : length s ≤ point_limit

-- what is written of a point's index is its index
index_read : (s : List ℕ) (p : ℕ) → IsShort s → IsIn p s → IsIndexOf s (decimal (index_of s p)) p
index_read s p short m =
    let i = index_at s p short.ascending m in
    let low : index_of s p < point_limit = omega (arith, i.0, short.count) in
    (index_of s p, decimal_is (index_of s p) (omega (arith, low)), i.0, low, i.1)

-- so it is with those of some points
indices_read : (s q : List ℕ) → IsShort s → ((p : ℕ) → IsIn p q → IsIn p s) → AreIndices s (map decimal (map
    (index_of s) q)) q
indices_read s [] short h = tt
indices_read s (p ∷ q) short h = (index_read s p short (h p (inl refl)), indices_read s q short (λ r m. h r (inr m)))

-- an index of a short list is a number of 64 bits
indices_low : (s q : List ℕ) → IsShort s → ((p : ℕ) → IsIn p q → IsIn p s) → (n : ℕ) → IsIn n (map (index_of s) q)
    → n < 2 ^ 64
indices_low s [] short h n m = absurd m
indices_low s (p ∷ q) short h n m = elim m [
  | inl e ↦ let i = index_at s p short.ascending (h p (inl refl)) in omega (arith, i.0, short.count, e)
  | inr k ↦ indices_low s q short (λ r j. h r (inr j)) n k
]

-- the line of some points, by their indices
abbrev shown_cell : List ℕ → List ℕ → List ℕ
shown_cell s q = spaced (map (index_of s) q)

-- such a line says these points
cell_read : (n : ℕ) (s q : List ℕ) → IsShort s → ((p : ℕ) → IsIn p q → IsIn p s) → length q ≡ n → IsAscending q
    → IsIndexLine n s (shown_cell s q) q
cell_read n s q short h e a = record {
  fields = map decimal (map (index_of s) q);
  is = spaced_joined (map (index_of s) q);
  count = omega (arith, length-map (map (index_of s) q) decimal, length-map q (index_of s), e);
  indices = indices_read s q short h;
  ascending = a;
}

-- the last of a front of lists in order
last_less : (l m : List (List ℕ)) (q : List ℕ) → IsStrictlySortedBy (slice_cmp nat_cmp) (l ++ q ∷ m)
    → IsAfter IsLess l q
unfolding IsStrictlySortedBy
last_less [] m q h = tt
last_less (r ∷ []) m q h = h.0.0
last_less (r ∷ o ∷ l) m q h = last_less (o ∷ l) m q h.1

-- lists of n points in order, behind those that the mesh has
record MayLists (n : ℕ) (s : List ℕ) (points : List ℕ) (before l : List (List ℕ)) : Type 0 where
  same : points ≡ s
  sorted : IsStrictlySortedBy (slice_cmp nat_cmp) (before ++ l)
  each : (q : List ℕ) → IsIn q l → (length q ≡ n) × IsAscending q × ((p : ℕ) → IsIn p q → IsIn p s)

-- once the first list of points is taken, the others may be
may_rest : (n : ℕ) (s points : List ℕ) (before l : List (List ℕ)) (q : List ℕ) → MayLists n s points before (q ∷ l)
    → MayLists n s points (before ++ q ∷ []) l
may_rest n s points before l q may = record {
  same = may.same;
  sorted = subst (λ (v : List (List ℕ)). IsStrictlySortedBy (slice_cmp nat_cmp) v) (sym (append_assoc before
      (q ∷ []) l)) may.sorted;
  each = λ r m. may.each r (inr m);
}

-- and its line is right
may_line : (n : ℕ) (s points : List ℕ) (before l : List (List ℕ)) (q : List ℕ) → IsShort s
    → MayLists n s points before (q ∷ l) → IsIndexLine n points (shown_cell s q) q
may_line n s points before l q short may =
    let k = may.each q (inl refl) in
    subst (λ (v : List ℕ). IsIndexLine n v (shown_cell s q) q) (sym may.same) (cell_read n s q short k.2 k.0 k.1)

-- and has no line feed
may_feed : (n : ℕ) (s points : List ℕ) (before l : List (List ℕ)) (q : List ℕ) → IsShort s
    → MayLists n s points before (q ∷ l) → HasNo 10 (shown_cell s q)
may_feed n s points before l q short may = numbers_feed (map (index_of s) q) (indices_low s q short (may.each q
    (inl refl)).2)

-- the mesh with a cell more
abbrev add_cell : MeshParts → List ℕ → MeshParts
add_cell f q = record f { cells = f.cells ++ q ∷ [] }

-- the mesh with a triple more
abbrev add_triple : MeshParts → List ℕ → MeshParts
add_triple f q = record f { hull = f.hull ++ q ∷ [] }

-- lines of cells in order are taken
cells_taken : (s : List ℕ) → IsShort s → Takes Cells (shown_cell s) add_cell (λ f l. MayLists 4 s f.points f.cells l)
cells_taken s short = record {
  line = λ f q l may. may_feed 4 s f.points f.cells l q short may;
  taken = λ f q l may. (q, may_line 4 s f.points f.cells l q short may, last_less f.cells l q may.sorted, refl);
  rest = λ f q l may. may_rest 4 s f.points f.cells l q may;
}

-- and so are those of triples
hull_taken : (s : List ℕ) → IsShort s → Takes Hull (shown_cell s) add_triple (λ f l. MayLists 3 s f.points f.hull l)
hull_taken s short = record {
  line = λ f q l may. may_feed 3 s f.points f.hull l q short may;
  taken = λ f q l may. (q, may_line 3 s f.points f.hull l q short may, last_less f.hull l q may.sorted, refl);
  rest = λ f q l may. may_rest 3 s f.points f.hull l q may;
}

-- ---- what is added by all lines of a list

-- the mesh with all replies
replies_added : (l : List Reply) (f : MeshParts) → all_added add_reply f l ≡ record f { replies = f.replies ++ l }
replies_added [] f = ap (λ (v : List Reply). record f { replies = v }) (sym (append-nil f.replies))
replies_added (r ∷ l) f = replies_added l (add_reply f r) ∙ ap (λ (v : List Reply). record f { replies = v })
    (append_assoc f.replies (r ∷ []) l)

-- with all points
points_added : (l : List ℕ) (f : MeshParts) → all_added add_point f l ≡ record f { points = f.points ++ l }
points_added [] f = ap (λ (v : List ℕ). record f { points = v }) (sym (append-nil f.points))
points_added (p ∷ l) f = points_added l (add_point f p) ∙ ap (λ (v : List ℕ). record f { points = v })
    (append_assoc f.points (p ∷ []) l)

-- with all cells
cells_added : (l : List (List ℕ)) (f : MeshParts) → all_added add_cell f l ≡ record f { cells = f.cells ++ l }
cells_added [] f = ap (λ (v : List (List ℕ)). record f { cells = v }) (sym (append-nil f.cells))
cells_added (q ∷ l) f = cells_added l (add_cell f q) ∙ ap (λ (v : List (List ℕ)). record f { cells = v })
    (append_assoc f.cells (q ∷ []) l)

-- with all triples
hull_added : (l : List (List ℕ)) (f : MeshParts) → all_added add_triple f l ≡ record f { hull = f.hull ++ l }
hull_added [] f = ap (λ (v : List (List ℕ)). record f { hull = v }) (sym (append-nil f.hull))
hull_added (q ∷ l) f = hull_added l (add_triple f q) ∙ ap (λ (v : List (List ℕ)). record f { hull = v })
    (append_assoc f.hull (q ∷ []) l)

-- ---- the whole text

-- the four lists, one behind another
replies_lead : (l : List Reply) (f : MeshParts) (rest : List ℕ) (b : Reached) → length l ≤ point_limit
    → TextLeads rest (at (Head Points) (record f { replies = f.replies ++ l })) b
    → TextLeads (block (codes "replies") (map (λ r. reply_word r ++ codes "\n") l) ++ rest) (at (Head Replies) f) b
replies_lead l f rest b le next =
    let shown = map (λ (r : Reply). reply_word r ++ codes "\n") l in
    again ((((head_word Replies ++ decimal (length l)) ++ codes "\n") ++ concat shown) ++ rest) (block
    (codes "replies") shown ++ rest) (at (Head Replies) f) b
    (ap (λ (n : ℕ). (((head_word Replies ++ decimal n) ++ codes "\n") ++ concat shown) ++ rest) (sym (length-map l (λ
    (r : Reply). reply_word r ++ codes "\n"))))
    (head_leads Replies (length l) f (concat shown) rest b le
    (lines_lead Replies reply_word add_reply (λ g m. ⊤) replies_taken l f rest b tt (subst (λ
    (g : MeshParts). TextLeads rest (at (Head Points) g) b) (sym (replies_added l f)) next)))

-- the points
points_lead : (l : List ℕ) (f : MeshParts) (rest : List ℕ) (b : Reached) → length l ≤ point_limit → MayPoints f l
    → TextLeads rest (at (Head Cells) (record f { points = f.points ++ l })) b
    → TextLeads (block (codes "points") (map (λ p. shown_point p ++ codes "\n") l) ++ rest) (at (Head Points) f) b
points_lead l f rest b le may next =
    let shown = map (λ (p : ℕ). shown_point p ++ codes "\n") l in
    again ((((head_word Points ++ decimal (length l)) ++ codes "\n") ++ concat shown) ++ rest) (block
    (codes "points") shown ++ rest) (at (Head Points) f) b
    (ap (λ (n : ℕ). (((head_word Points ++ decimal n) ++ codes "\n") ++ concat shown) ++ rest) (sym (length-map l (λ
    (p : ℕ). shown_point p ++ codes "\n"))))
    (head_leads Points (length l) f (concat shown) rest b le
    (lines_lead Points shown_point add_point MayPoints points_taken l f rest b may (subst (λ
    (g : MeshParts). TextLeads rest (at (Head Cells) g) b) (sym (points_added l f)) next)))

-- the cells
cells_lead : (s : List ℕ) → IsShort s → (l : List (List ℕ)) (f : MeshParts) (rest : List ℕ) (b : Reached)
    → length l ≤ most_of Cells → MayLists 4 s f.points f.cells l → TextLeads rest (at (Head Hull)
    (record f { cells = f.cells ++ l })) b
    → TextLeads (block (codes "cells") (map (λ q. shown_cell s q ++ codes "\n") l) ++ rest) (at (Head Cells) f) b
cells_lead s short l f rest b le may next =
    let shown = map (λ (q : List ℕ). shown_cell s q ++ codes "\n") l in
    again ((((head_word Cells ++ decimal (length l)) ++ codes "\n") ++ concat shown) ++ rest) (block
    (codes "cells") shown ++ rest) (at (Head Cells) f) b
    (ap (λ (n : ℕ). (((head_word Cells ++ decimal n) ++ codes "\n") ++ concat shown) ++ rest) (sym (length-map l (λ
    (q : List ℕ). shown_cell s q ++ codes "\n"))))
    (head_leads Cells (length l) f (concat shown) rest b le
    (lines_lead Cells (shown_cell s) add_cell (λ g m. MayLists 4 s g.points g.cells m)
    (cells_taken s short) l f rest b may (subst (λ (g : MeshParts). TextLeads rest (at (Head Hull) g) b) (sym
    (cells_added l f)) next)))

-- the triples
hull_lead : (s : List ℕ) → IsShort s → (l : List (List ℕ)) (f : MeshParts) (rest : List ℕ) (b : Reached)
    → length l ≤ most_of Hull → MayLists 3 s f.points f.hull l → TextLeads rest (at Last
    (record f { hull = f.hull ++ l })) b
    → TextLeads (block (codes "hull") (map (λ q. shown_cell s q ++ codes "\n") l) ++ rest) (at (Head Hull) f) b
hull_lead s short l f rest b le may next =
    let shown = map (λ (q : List ℕ). shown_cell s q ++ codes "\n") l in
    again ((((head_word Hull ++ decimal (length l)) ++ codes "\n") ++ concat shown) ++ rest) (block
    (codes "hull") shown ++ rest) (at (Head Hull) f) b
    (ap (λ (n : ℕ). (((head_word Hull ++ decimal n) ++ codes "\n") ++ concat shown) ++ rest) (sym (length-map l (λ
    (q : List ℕ). shown_cell s q ++ codes "\n"))))
    (head_leads Hull (length l) f (concat shown) rest b le
    (lines_lead Hull (shown_cell s) add_triple (λ g m. MayLists 3 s g.points g.hull m)
    (hull_taken s short) l f rest b may (subst (λ (g : MeshParts). TextLeads rest (at Last g) b) (sym
    (hull_added l f)) next)))

-- the lists of a report
may_lists : (n : ℕ) (s : List ℕ) (l : List (List ℕ)) → AreInOrder s l → ((q : List ℕ) → IsIn q l → length q ≡ n)
    → MayLists n s s [] l
may_lists n s l o h = record { same = refl; sorted = o.sorted; each = λ q m. (h q m, o.ascending q m, o.inside q m) }

-- the word `end` leads to where nothing is due
end_leads : (f : MeshParts) → TextLeads (codes "end\n") (at Last f) (at_end f)
end_leads f = (at_end f, (refl, refl), refl)

-- the four blocks and what follows them
blocks_apart : (t a b c d e : List ℕ) → t ++ 10 ∷ (a ++ (b ++ (c ++ (d ++ e)))) ≡ (t ++ codes "\n") ++
    (((a ++ b) ++ c) ++ d) ++ e
blocks_apart t a b c d e =
    sym (append_assoc t (10 ∷ []) (a ++ (b ++ (c ++ (d ++ e)))))
    ∙ ap (λ (v : List ℕ). (t ++ codes "\n") ++ v) (sym (append_assoc a b (c ++ (d ++ e))) ∙ sym (append_assoc
    (a ++ b) c (d ++ e)) ∙ sym (append_assoc ((a ++ b) ++ c) d e))
    ∙ sym (append_assoc (t ++ codes "\n") (((a ++ b) ++ c) ++ d) e)

-- the title has no line feed
title_feed : HasNo 10 (codes "mesh3-out 1")
title_feed = (refl, (refl, (refl, (refl, (refl, (refl, (refl, (refl, (refl, (refl, (refl, tt)))))))))))

-- the text of a report without shapes and order
plain_text : (r : ReportParts) → r.shapes ≡ [] → r.order ≡ None → report_text r
    ≡ codes "mesh3-out 1\n" ++ mesh_blocks r ++ codes "end\n"
unfolding report_text
plain_text r s o =
    ap (λ (v : List ℕ). v ++ codes "end\n")
    (ap (λ v. codes "mesh3-out 1\n" ++ mesh_blocks r ++ shape_blocks v ++ order_block r.order) s
    ∙ ap (λ (v : Option (List ℕ)). codes "mesh3-out 1\n" ++ mesh_blocks r ++ [] ++ order_block v) o
    ∙ append-nil (codes "mesh3-out 1\n" ++ mesh_blocks r ++ []) ∙ append-nil (codes "mesh3-out 1\n" ++ mesh_blocks r))

-- the text of a report of a mesh alone leads from the title to the end, with the mesh
blocks_lead : (r : ReportParts) → IsOfMesh r → TextLeads (codes "mesh3-out 1\n" ++ mesh_blocks r ++ codes "end\n")
    at_title (at_end (mesh_of r))
unfolding mesh_blocks
blocks_lead r is =
    let s : List ℕ = r.points in
    let cells : List (List ℕ) = full_corners r.cells in
    let hull : List (List ℕ) = hull_corners r.cells in
    let short : IsShort s = record { ascending = is.in_order.ascending; count = is.point_count } in
    let replies_text = block (codes "replies") (map (λ (x : Reply). reply_word x ++ codes "\n") r.replies) in
    let points_text = block (codes "points") (map (λ (p : ℕ). shown_point p ++ codes "\n") s) in
    let cells_text = block (codes "cells") (map (λ (q : List ℕ). shown_cell s q ++ codes "\n") cells) in
    let hull_text = block (codes "hull") (map (λ (q : List ℕ). shown_cell s q ++ codes "\n") hull) in
    let f1 : MeshParts = record { replies = r.replies; points = []; cells = []; hull = [] } in
    let f2 : MeshParts = record { replies = r.replies; points = s; cells = []; hull = [] } in
    let f3 : MeshParts = record { replies = r.replies; points = s; cells = cells; hull = [] } in
    let in_hull = hull_lead s short hull f3 (codes "end\n") (at_end (mesh_of r)) is.hull_count
    (may_lists 3 s hull is.in_order.hull is.triples) (end_leads (mesh_of r)) in
    let in_cells = cells_lead s short cells f2 (hull_text ++ codes "end\n") (at_end (mesh_of r)) is.cell_count
    (may_lists 4 s cells is.in_order.cells is.quadruples) in_hull in
    let in_points = points_lead s f1 (cells_text ++ (hull_text ++ codes "end\n")) (at_end (mesh_of r)) is.point_count
    (record { ascending = is.in_order.ascending; keys = is.in_order.keys }) in_cells in
    let in_replies = replies_lead r.replies no_parts (points_text ++ (cells_text ++ (hull_text ++ codes "end\n")))
    (at_end (mesh_of r)) is.reply_count in_points in
    again (codes "mesh3-out 1" ++ 10 ∷ (replies_text ++ (points_text ++ (cells_text ++
    (hull_text ++ codes "end\n"))))) _ at_title (at_end (mesh_of r))
    (blocks_apart (codes "mesh3-out 1") replies_text points_text cells_text hull_text (codes "end\n"))
    (line_leads (codes "mesh3-out 1") (replies_text ++ (points_text ++ (cells_text ++
    (hull_text ++ codes "end\n")))) at_title (at (Head Replies) no_parts) (at_end (mesh_of r)) title_feed
    (refl, refl) in_replies)

-- the law WrittenIsRead
pub written_is_read : WrittenIsRead
written_is_read r is = again (codes "mesh3-out 1\n" ++ mesh_blocks r ++ codes "end\n") (report_text r) at_title
    (at_end (mesh_of r)) (sym (plain_text r is.no_shapes is.no_order)) (blocks_lead r is)
