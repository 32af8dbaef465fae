-- A text that comes in pieces: its lines are counted, and what is left of it is judged as all of it.
use Rattle.std.proofs.Common.{◌≡◌, ℕ, zero, suc, ◌+◌, ◌<◌, ◌≤◌, List, [], ◌∷◌, ◌++◌, append_assoc, append-nil, length}
use Rattle.std.proofs.Common.{eqb, ◌==◌, false, true, vec_len, Result, Ok, Err, refl, sym, ap, subst, ◌∙◌, arith}
use Rattle.std.specs.List.{onto_first}
use Rattle.std.specs.Prelude.{Vec}
use Rattle.std.specs.declared.alloc.Global.{Global}
use Rattle.std.proofs.lemmas.Bool.{eqb-false, eqb-true}
use Rattle.text_readings.specs.declared.fault.Fault.{Fault}
use Rattle.text_readings.specs.declared.fault.ReadRefused.{ReadRefused}
use Rattle.text_readings.specs.declared.fault.ReadRefused.TheVariants as refusals
use Rattle.text_readings.specs.Readings.{lines_of}
use Rattle.text_readings.proofs.Cited.{judge_bad, line_first, without_append}
use Rattle.mesh_reader.specs.declared.counted.Counted.{Counted}
use Rattle.mesh_reader.specs.declared.mesh_file.PackedMesh.{PackedMesh}
use Rattle.mesh_reader.specs.declared.place.Part.{Part}
use Rattle.mesh_reader.specs.declared.place.Part.TheVariants.{Replies, Points, Cells, Hull}
use Rattle.mesh_reader.specs.declared.place.Due.{Due}
use Rattle.mesh_reader.specs.declared.place.Due.TheVariants.{Title, Head, Body, Last, Nothing}
use Rattle.text_readings.specs.declared.fault.LineRefused.{LineRefused}
use Rattle.text_readings.specs.declared.fault.LineRefused.TheVariants as line_refusals
use Rattle.mesh_reader.specs.declared.pieces.State.{State}
use Rattle.mesh_reader.specs.Grammar.{Leads, MeshParts, Reached, at_title, behind, lines_due, most_of}
use Rattle.text_readings.specs.Judging.{Gives, Refuses, judge, refused_at}
use Rattle.mesh_reader.specs.Judging.{mesh_judge, transition, whole}
use Rattle.mesh_reader.specs.LinesLeft.{most_behind, most_left}
use Rattle.mesh_reader.specs.Pieces.{HasNoFeed, HasTaken, LeavesOf, comes_to}
use Rattle.mesh_reader.proofs.Decided.{step_sound}

-- ---- how many lines may follow

-- behind a list no more lines may follow than behind its head
behind_left : (p : Part) → most_left (behind p) ≤ most_behind p
behind_left Replies = omega arith
behind_left Points = omega arith
behind_left Cells = omega arith
behind_left Hull = omega arith

-- with no more lines announced than may be, there are no more to follow
due_left : (p : Part) (n m : ℕ) → n ≤ m → most_left (lines_due p n) + 1 ≤ 1 + m + most_behind p
due_left p zero m l = let b = behind_left p in omega (arith, b)
due_left p (suc n) m l = omega (arith, l)

-- a right line leaves one line fewer to follow, or fewer still
lead_left : (due : Due) (f : MeshParts) (line : List ℕ) (next : Reached) → Leads due f line next
    → most_left next.due + 1 ≤ most_left due
lead_left Title f line next h =
    subst (λ (d : Due). most_left d + 1 ≤ most_left Title) (sym (ap (λ (r : Reached). r.due) h.1)) (omega arith)
lead_left (Head p) f line next h =
    subst (λ (d : Due). most_left d + 1 ≤ most_left (Head p)) (sym (ap (λ (r : Reached). r.due) h.2))
    (due_left p h.0 (most_of p) h.1.most)
lead_left (Body p n) f line next h =
    subst (λ (d : Due). most_left d + 1 ≤ most_left (Body p n)) (sym (ap (λ (r : Reached). r.due) h.2))
    (due_left p n n (omega arith))
lead_left Last f line next h =
    subst (λ (d : Due). most_left d + 1 ≤ most_left Last) (sym (ap (λ (r : Reached). r.due) h.1)) (omega arith)
lead_left Nothing f line next h = absurd h

-- behind a right line there may be fewer
pub fewer_left : (a : Reached) (line : List ℕ) (b : Reached) → transition a line ≡ Ok b
    → most_left b.due + 1 ≤ most_left a.due
fewer_left a line b h = lead_left a.due a.taken line b (step_sound a line b h)

-- ---- a wrong line

-- a refusal by its fault
pub bad_one : (e : ReadRefused) (fault : Fault) →
    ◌≡◌ {A = Result Counted ReadRefused} (Err e) (Err (refusals.Bad fault))
    → e ≡ refusals.Bad fault
bad_one e fault h = cc

-- then its fault is that of the text, whatever follows
pub wrong_line : (e : LineRefused) (n : ℕ) (a : Reached) (line : List ℕ) (fault : Fault)
    → Refuses e (transition a line)
    → refused_at n e ≡ refusals.Bad fault → (lines : List (List ℕ)) → judge mesh_judge n a (line ∷ lines) ≡ Err fault
wrong_line line_refusals.Memory n a line fault h e lines = absurd (cc)
wrong_line (line_refusals.Bad why) n a line fault h e lines =
    let same : ◌≡◌ {A = Fault} (record { line = n; why = why }) fault = cc in
    judge_bad mesh_judge n a why (line ∷ lines) line lines refl h ∙ ap (λ (f : Fault). Err f) same

-- ---- lines of bytes

-- bytes without a line feed are one line
pub last_line : (bytes : List ℕ) → HasNoFeed bytes → 0 < length bytes → lines_of bytes ≡ bytes ∷ []
last_line [] h l = absurd (omega arith)
last_line (b ∷ []) h l = let e : eqb b 10 ≡ false = h.0 in rw e refl
last_line (b ∷ c ∷ bytes) h l =
    let e : eqb b 10 ≡ false = h.0 in
    let rest = last_line (c ∷ bytes) h.1 (omega arith) in
    rw e (ap (onto_first b) rest)

-- ---- pieces

-- a line that ends is the first of the text that it begins
pub line_cut : (begun line rest piece more : List ℕ) → HasNoFeed begun → HasNoFeed line → piece ≡ line ++ 10 ∷ rest
    → lines_of (begun ++ (piece ++ more)) ≡ (begun ++ line) ∷ lines_of (rest ++ more)
line_cut begun line rest piece more b l e =
    ap (λ (p : List ℕ). lines_of (begun ++ (p ++ more))) e
    ∙ ap (λ (t : List ℕ). lines_of (begun ++ t)) (append_assoc line (10 ∷ rest) more)
    ∙ ap lines_of (sym (append_assoc begun line (10 ∷ (rest ++ more))))
    ∙ line_first (begun ++ line) (rest ++ more) (without_append 10 begun line b l)

-- where a whole line is taken, what is left comes to the same
pub line_taken : (before state next : State) (all rest line behind : List ℕ) → LeavesOf before all state rest
    → ((lines : List (List ℕ)) → comes_to next lines ≡ comes_to state (line ∷ lines))
    → (rest ≡ line ++ 10 ∷ behind) × HasNoFeed line → LeavesOf before all next behind
line_taken before state next all rest line behind h t p more =
    t (lines_of (behind ++ more)) ∙ ap (comes_to state) (sym (line_cut [] line behind rest more tt p.1 p.0)) ∙ h more

-- ---- what a reader has taken

module _ (state : State) (begun bytes : List ℕ) (h : HasTaken state begun bytes) where
  -- it makes of the line that is begun what is to be made of the text
  taken_all : comes_to state (lines_of begun) ≡ judge mesh_judge 1 at_title (lines_of bytes)
  taken_all =
      ap (λ (l : List ℕ). comes_to state (lines_of l)) (sym (append-nil begun)) ∙ h.same []
      ∙ ap (λ (l : List ℕ). judge mesh_judge 1 at_title (lines_of l)) (append-nil bytes)

  -- no line is begun
  none_begun : begun ≡ [] → comes_to state [] ≡ judge mesh_judge 1 at_title (lines_of bytes)
  none_begun e = ap (λ (l : List ℕ). comes_to state (lines_of l)) (sym e) ∙ taken_all

  -- the line that is begun is the last
  last_taken : (next : State) → 0 < length begun
      → ((lines : List (List ℕ)) → comes_to next lines ≡ comes_to state (begun ∷ lines))
      → comes_to next [] ≡ judge mesh_judge 1 at_title (lines_of bytes)
  last_taken next l t = t [] ∙ ap (comes_to state) (sym (last_line begun h.begun l)) ∙ taken_all

  -- a piece that ends a line
  pub piece_taken : (next now : State) (piece line behind rest left : List ℕ)
      → (piece ≡ line ++ 10 ∷ behind) × HasNoFeed line
      → ((lines : List (List ℕ)) → comes_to next lines ≡ comes_to state ((begun ++ line) ∷ lines))
      → LeavesOf next behind now rest → HasNoFeed rest → left ≡ rest → HasTaken now left (bytes ++ piece)
  piece_taken next now piece line behind rest left p t l n b = record {
    begun = subst HasNoFeed (sym b) n;
    same = λ more.
        ap (λ (v : List ℕ). comes_to now (lines_of (v ++ more))) b ∙ l more ∙ t (lines_of (behind ++ more))
        ∙ ap (comes_to state) (sym (line_cut begun line behind piece more h.begun p.1 p.0))
        ∙ h.same (piece ++ more)
        ∙ ap (λ (v : List ℕ). judge mesh_judge 1 at_title (lines_of v)) (sym (append_assoc bytes piece more));
  }

-- the line that is taken is the one that was begun
pub line_begun : (state next : State) (line whole : List ℕ) → line ≡ whole
    → ((lines : List (List ℕ)) → comes_to next lines ≡ comes_to state (line ∷ lines))
    → (lines : List (List ℕ)) → comes_to next lines ≡ comes_to state (whole ∷ lines)
line_begun state next line whole e t =
    subst (λ (l : List ℕ). (lines : List (List ℕ)) → comes_to next lines ≡ comes_to state (l ∷ lines)) e t

-- ---- what a call gave

module _ (state : State) (begun : Vec ℕ Global) (bytes : List ℕ) (h : HasTaken state begun.items bytes) where
  -- an end of a text that begins no line
  pub none_given : (vec_len begun == 0) ≡ true → (given : Result PackedMesh ReadRefused)
      → Gives whole given (comes_to state []) → Gives whole given (judge mesh_judge 1 at_title (lines_of bytes))
  none_given z given g =
      let k : vec_len begun ≡ 0 = eqb-true (vec_len begun) 0 z in
      let none : length begun.items ≡ 0 = omega (arith, k, begun.ok.0) in
      subst (λ (v : Result Reached Fault). Gives whole given v)
      (none_begun state begun.items bytes h (empty_list begun.items none)) g
    where
      empty_list : (l : List ℕ) → length l ≡ 0 → l ≡ []
      empty_list [] e = refl
      empty_list (x ∷ l) e = absurd (omega (arith, e))

  -- and of one whose last line ends without a line feed
  pub last_given : (vec_len begun == 0) ≡ false → (line : List ℕ) → line ≡ begun.items → (next : State)
      → ((lines : List (List ℕ)) → comes_to next lines ≡ comes_to state (line ∷ lines))
      → (given : Result PackedMesh ReadRefused) → Gives whole given (comes_to next [])
      → Gives whole given (judge mesh_judge 1 at_title (lines_of bytes))
  last_given z line e next t given g =
      let k = eqb-false (vec_len begun) 0 z in
      let some : 0 < length begun.items = omega (arith, k, begun.ok.0) in
      subst (λ (v : Result Reached Fault). Gives whole given v)
      (last_taken state begun.items bytes h next some (line_begun state next line begun.items e t)) g
