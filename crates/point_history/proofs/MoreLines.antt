-- The entries of lines with one line more.
use Rattle.std.specs.Prelude.{◌≡◌, ℕ, zero, suc, ◌+◌, ◌<◌, ◌≤◌, Bool, true, false, cond, not, List, [], ◌∷◌, ◌++◌, map}
use Rattle.std.specs.Prelude.{length, take, slice_index, slice_index_or, Option, None, Some}
use Rattle.std.specs.List.{enumerate_from, filter}
use Rattle.std.specs.Option.{option_map}
use Rattle.std.specs.BTreeSet.{insert_key}
use Rattle.std.specs.Ordering.{is_eq, nat_cmp}
use Rattle.std.specs.List.{list_any}
use Rattle.std.proofs.Common.{refl, sym, ◌∙◌, ap, subst, arith, append-nil}
use Rattle.std.proofs.lemmas.List.{append_assoc, length-map, take_all}
use Rattle.std.proofs.lemmas.List.Elements.{filter-append}
use Rattle.std.proofs.lemmas.List.FromFn.{length-enumerate_from}
use Rattle.list_laws.proofs.Cited.{one_value}
use Rattle.point_order.specs.Sets.{IsAscending, is_among}
use Rattle.edit_history.specs.declared.history.Edit.{Edit}
use Rattle.edit_history.specs.declared.history.Edit.TheVariants.{Add}
use Rattle.edit_history.specs.declared.history.Entry.{Entry}
use Rattle.edit_history.specs.declared.history.Reply.{Reply}
use Rattle.edit_history.specs.declared.history.Reply.TheVariants.{Inserted, Duplicate}
use Rattle.edit_history.specs.Edits.{after, reply_to}
use Rattle.edit_history.specs.Histories.{entries_from, replay, replay_from}
use Rattle.edit_history.specs.Opening.{opening_four, FourPlaces}
use Rattle.edit_history.specs.OneThread.{lines_of_one_thread, one_thread, places, tagged_lines}
use Rattle.edit_history.proofs.Cited.{leaves_set, length_entries, replay_more}
use Rattle.point_history.specs.declared.entries.Log.{Log}
use Rattle.point_history.specs.Logs.{IsLogOf, is_picked}
use Rattle.point_history.proofs.KeySets.{key_put, key_there, put_is_add}

-- the last has the next number, and the reply of what the others leave
entries_more : (n : ℕ) (s : List ℕ) (lines : List (ℕ × Edit)) (line : ℕ × Edit) →
    entries_from n s (lines ++ line ∷ [])
    ≡ entries_from n s lines ++ record {
      number = n + length lines;
      by = 0;
      tag = line.0;
      edit = line.1;
      reply =
          reply_to (replay_from s (entries_from n s lines)) line.1;
    } ∷ []
entries_more n s [] line =
    let e : n ≡ n + 0 = omega arith in
    ap (λ (m : ℕ). record { number = m; by = 0; tag = line.0; edit = line.1; reply = reply_to s line.1 } ∷ []) e
entries_more n s (x ∷ lines) line =
    let e : n + 1 + length lines ≡ n + suc (length lines) = omega arith in
    let t = after s x.1 in
    ap (λ (h : List Entry). record { number = n; by = 0; tag = x.0; edit = x.1; reply = reply_to s x.1 } ∷ h)
    (entries_more (n + 1) t lines line
    ∙ ap (λ (m : ℕ). entries_from (n + 1) t lines ++ record {
      number = m;
      by = 0;
      tag = line.0;
      edit = line.1;
      reply =
          reply_to (replay_from t (entries_from (n + 1) t lines)) line.1;
    } ∷ []) e)

-- what a point is replied that is new where it is not there
reply_is : (s : List ℕ) (p : ℕ) (is_new : Bool) → is_new ≡ not (is_among p s) →
    cond is_new Inserted Duplicate ≡ reply_to s (Add p)
reply_is s p is_new e = rw e (by (is_among p s))
  where
    by : (b : Bool) → cond (not b) Inserted Duplicate ≡ cond b Duplicate Inserted
    by true = refl
    by false = refl

-- a log with one line more
pub log_more : (lines : List (ℕ × Edit)) (tag p number : ℕ) (is_new : Bool) (reply : Reply) (old new : Log) →
    IsLogOf lines old
    → number ≡ length old.entries.items → is_new ≡ not (list_any (λ k. is_eq (nat_cmp p k)) old.seen.keys) →
    reply ≡ cond is_new Inserted Duplicate
    → new.seen.keys ≡ insert_key nat_cmp old.seen.keys p → new.entries.items ≡ old.entries.items ++ record
    { number = number; by = 0; tag = tag; edit = Add p; reply = reply } ∷ []
    → IsLogOf (lines ++ (tag, Add p) ∷ []) new
log_more lines tag p number is_new reply old new was n a r k e =
    let h = old.entries.items in
    let there : is_new ≡ not (is_among p (replay h)) = a ∙ ap not (key_there p old.seen.keys ∙ ap (is_among p) was.1) in
    let counted : number ≡ length lines = n ∙ ap length was.0 ∙ length_entries 0 [] lines in
    let number_is : number ≡ 0 + length lines = omega (arith, counted) in
    let reply_as : reply ≡ reply_to (replay h) (Add p) = r ∙ reply_is (replay h) p is_new there in
    let last : List Entry = record { number = number; by = 0; tag = tag; edit = Add p; reply = reply } ∷ [] in
    let entry : last ≡ record {
      number = 0 + length lines;
      by = 0;
      tag = tag;
      edit = Add p;
      reply =
          reply_to (replay h) (Add p);
    } ∷ [] =
    λ i. record { number = number_is i; by = 0; tag = tag; edit = Add p; reply = reply_as i } ∷ [] in (
      e ∙ ap (λ (l : List Entry). h ++ l) entry
          ∙ ap (λ (g : List Entry). g ++ record {
            number = 0 + length lines;
            by = 0;
            tag = tag;
            edit = Add p;
            reply =
                reply_to (replay g) (Add p);
          } ∷ []) was.0
          ∙ sym (entries_more 0 [] lines (tag, Add p)),
      k ∙ key_put p old.seen.keys ∙ put_is_add p old.seen.keys (subst IsAscending (sym was.1) (leaves_set h))
          ∙ ap (λ (s : List ℕ). after s (Add p)) was.1
          ∙ sym (replay_more [] h (record { number = number; by = 0; tag = tag; edit = Add p; reply = reply })) ∙ ap
          replay (sym e),
    )

-- ---- the lines in front of a place

-- the point at a place within the list, whatever would be told behind its end
pub point_within : (points : List ℕ) (n d : ℕ) → n < length points → slice_index_or points n d ≡ slice_index points n
point_within [] n d l = absurd (omega (arith, l))
point_within (x ∷ points) zero d l = refl
point_within (x ∷ points) (suc n) d l = point_within points n d (omega (arith, l))

-- the lines in front of the next place are those in front of this, and the point here
lines_next : (m : ℕ) (points : List ℕ) (n : ℕ) → n < length points
    → take (suc n) (enumerate_from m (map Add points ++ [])) ≡ take n (enumerate_from m (map Add points ++ [])) ++
    (m + n, Add (slice_index points n)) ∷ []
lines_next m [] n l = absurd (omega (arith, l))
lines_next m (x ∷ points) zero l = let k : m ≡ m + 0 = omega arith in λ i. (k i, Add x) ∷ []
lines_next m (x ∷ points) (suc n) l =
    let k : m + 1 + n ≡ m + suc n = omega arith in
    ap (λ (t : List (ℕ × Edit)). (m, Add x) ∷ t) (lines_next (m + 1) points n (omega (arith, l)) ∙ ap
    (λ (k : ℕ). take n (enumerate_from (m + 1) (map Add points ++ [])) ++ (k, Add (slice_index points n)) ∷ []) k)

module _ (test : ℕ × Edit → Bool) (points : List ℕ) where
  -- in front of the first place no line passes
  pub none_yet : (lines : List (ℕ × Edit)) → lines ≡ lines ++ filter test (take 0 (tagged_lines points []))
  none_yet lines = sym (append-nil lines) ∙ ap (λ (t : List (ℕ × Edit)). lines ++ filter test t)
      (front (tagged_lines points []))
    where
      front : (l : List (ℕ × Edit)) → [] ≡ take 0 l
      front [] = refl
      front (x ∷ l) = refl

  -- what passes in front of the next place is what passes in front of this, and the line here if it does
  next_is : (n : ℕ) → n < length points → filter test (take (n + 1) (tagged_lines points [])) ≡ filter test
      (take n (tagged_lines points [])) ++ filter test ((n, Add (slice_index points n)) ∷ [])
  next_is n l =
      let up : n + 1 ≡ suc n = omega arith in
      let from_0 : 0 + n ≡ n = omega arith in
      ap (λ (k : ℕ). filter test (take k (tagged_lines points []))) up ∙ ap (filter test) (lines_next 0 points n l)
      ∙ ap (λ (k : ℕ). filter test (take n (tagged_lines points []) ++ (k, Add (slice_index points n)) ∷ [])) from_0
      ∙ filter-append test (take n (tagged_lines points [])) ((n, Add (slice_index points n)) ∷ [])

  -- the line here passes and comes last
  pub next_picked : (lines : List (ℕ × Edit)) (n : ℕ) → n < length points → test (n, Add (slice_index points n)) ≡ true
      → (lines ++ filter test (take n (tagged_lines points []))) ++ (n, Add (slice_index points n)) ∷ [] ≡ lines ++
      filter test (take (n + 1) (tagged_lines points []))
  next_picked lines n l e =
      let line : ℕ × Edit = (n, Add (slice_index points n)) in
      append_assoc lines (filter test (take n (tagged_lines points []))) (line ∷ [])
      ∙ ap (λ (t : List (ℕ × Edit)). lines ++ t) (ap (λ (b : Bool). filter test (take n (tagged_lines points [])) ++
      cond b (line ∷ []) []) (sym e) ∙ sym (next_is n l))

  -- or it does not
  pub next_passed : (lines : List (ℕ × Edit)) (n : ℕ) → n < length points → test (n, Add (slice_index points n)) ≡ false
      → lines ++ filter test (take n (tagged_lines points [])) ≡ lines ++ filter test
      (take (n + 1) (tagged_lines points []))
  next_passed lines n l e =
      let line : ℕ × Edit = (n, Add (slice_index points n)) in
      ap (λ (t : List (ℕ × Edit)). lines ++ t)
      (sym (append-nil (filter test (take n (tagged_lines points []))))
      ∙ ap (λ (b : Bool). filter test (take n (tagged_lines points [])) ++ cond b (line ∷ []) []) (sym e) ∙ sym
      (next_is n l))

  -- at the end all that pass are there
  pub all_picked : (lines : List (ℕ × Edit)) (n : ℕ) → length points ≤ n →
      lines ++ filter test (take n (tagged_lines points [])) ≡ lines ++ filter test (tagged_lines points [])
  all_picked lines n l =
      let a : length (tagged_lines points []) ≡ length (map Add points ++ []) =
      length-enumerate_from 0 (map Add points ++ []) in
      let b : length (map Add points ++ []) ≡ length points = ap length (append-nil (map Add points)) ∙ length-map
      points Add in
      ap (λ (t : List (ℕ × Edit)). lines ++ filter test t) (take_all n (tagged_lines points [])
      (omega (arith, l, a, b)))

-- ---- the lines of one thread

-- the opening four, and then the others
pub picked_both : (points four : List ℕ) → option_map places (opening_four points) ≡ Some four
    → entries_from 0 [] (filter (λ line. is_picked true four line.0) (tagged_lines points []) ++ filter
    (λ line. is_picked false four line.0) (tagged_lines points [])) ≡ one_thread points []
picked_both points four e = by (opening_four points) e
  where
    by : (o : Option FourPlaces) → option_map places o ≡ Some four
        → entries_from 0 [] (filter (λ line. is_picked true four line.0) (tagged_lines points []) ++ filter
        (λ line. is_picked false four line.0) (tagged_lines points [])) ≡ entries_from 0 []
        (lines_of_one_thread o (tagged_lines points []))
    by None e = absurd (cc e)
    by (Some f) e =
        ap (λ (t : List ℕ). entries_from 0 [] (filter (λ line. is_picked true t line.0) (tagged_lines points []) ++
        filter (λ line. is_picked false t line.0) (tagged_lines points []))) (sym (one_value (places f) four e))
