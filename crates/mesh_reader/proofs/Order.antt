-- The lists of a mesh that was read are in order.
use Rattle.std.proofs.Common.{◌≡◌, ℕ, ◌<◌, List, [], ◌∷◌, ◌++◌, refl, sym, subst, arith, inl, inr}
use Rattle.std.specs.Prelude.{IfOk, Result, Ok, Err}
use Rattle.std.specs.List.Sorted.{IsStrictlySortedBy}
use Rattle.std.specs.Cmp.{IsTotalOrder}
use Rattle.std.specs.Cmp.Lexicographic.{slice_cmp}
use Rattle.std.specs.Ordering.{nat_cmp}
use Rattle.std.specs.declared.cmp.Ordering.{Ordering}
use Rattle.std.specs.declared.cmp.Ordering.TheVariants.{Less}
use Rattle.std.proofs.lemmas.Cmp.{nat_list_cmp_total}
use Rattle.list_laws.specs.Lists.{IsIn, IsAscending}
use Rattle.list_laws.proofs.Cited.{ascend_more, at_place, in_left, in_snoc, sorted_end}
use Rattle.point_order.specs.Coordinates.{IsKey}
use Rattle.mesh_reader.specs.declared.place.Part.{Part}
use Rattle.mesh_reader.specs.declared.place.Part.TheVariants.{Replies, Points, Cells, Hull}
use Rattle.mesh_reader.specs.declared.place.Due.{Due}
use Rattle.mesh_reader.specs.declared.place.Due.TheVariants.{Title, Head, Body, Last, Nothing}
use Rattle.text_readings.specs.Readings.{lines_of, AllLead}
use Rattle.text_readings.specs.declared.fault.ReadRefused.{ReadRefused}
use Rattle.mesh_reader.specs.declared.mesh_file.PackedMesh.{PackedMesh}
use Rattle.mesh_reader.specs.Grammar.{AreIndices, IsAfter, IsIndexLine, IsLess, IsMeshText, IsTaken, Leads, LeadsOn}
use Rattle.mesh_reader.specs.Grammar.{MeshParts, Reached, at_end, at_title, no_parts}
use Rattle.mesh_reader.specs.Packed.{parts}
use Rattle.mesh_reader.specs.Order.{AreInOrder, IsInOrder}

-- all of a list in order are before what its last is before
all_before : {X : Type 0} (cmp : X → X → Ordering) (o : IsTotalOrder cmp) (l : List X) (q : X)
    → IsStrictlySortedBy cmp l → IsAfter (λ a b. cmp a b ≡ Less) l q → (x : X) → IsIn x l → cmp x q ≡ Less
unfolding IsStrictlySortedBy
all_before cmp o [] q s h x m = absurd m
all_before cmp o (r ∷ []) q s h x m = elim m [ inl e ↦ subst (λ v. cmp v q ≡ Less) e h | inr n ↦ absurd n ]
all_before cmp o (r ∷ y ∷ l) q s h x m = elim m [
  | inl e ↦ subst (λ v. cmp v q ≡ Less) e (o.trans r y q s.0.0 (all_before cmp o (y ∷ l) q s.1 h y (inl refl)))
  | inr n ↦ all_before cmp o (y ∷ l) q s.1 h x n
]

-- the same of numbers
pub all_below : (l : List ℕ) (q : ℕ) → IsAscending l → IsAfter (λ r p. r < p) l q → (x : ℕ) → IsIn x l → x < q
all_below [] q a h x m = absurd m
all_below (r ∷ []) q a h x m = elim m [ inl e ↦ subst (λ v. v < q) e h | inr n ↦ absurd n ]
all_below (r ∷ y ∷ l) q a h x m = elim m [
  | inl e ↦ let next : y < q = all_below (y ∷ l) q a.1 h y (inl refl) in let here : r < q = omega
      (arith, a.0, next) in subst (λ v. v < q) e here
  | inr n ↦ all_below (y ∷ l) q a.1 h x n
]

-- indices are of points of the list
indices_inside : (s : List ℕ) (fields : List (List ℕ)) (q : List ℕ) → AreIndices s fields q → (p : ℕ) → IsIn p q
    → IsIn p s
indices_inside s [] [] h p m = absurd m
indices_inside s [] (r ∷ q) h p m = absurd h
indices_inside s (x ∷ fields) [] h p m = absurd h
indices_inside s (x ∷ fields) (r ∷ q) h p m = elim m [
  | inl e ↦ subst (λ v. IsIn v s) e (at_place s h.0.0 r 0 h.0.2 (sym h.0.4))
  | inr n ↦ indices_inside s fields q h.1 p n
]

-- one more behind lists in order
one_list_more : (n : ℕ) (s line q : List ℕ) (l : List (List ℕ)) → AreInOrder s l → IsIndexLine n s line q
    → IsAfter IsLess l q → AreInOrder s (l ++ q ∷ [])
one_list_more n s line q l o i h = record {
  sorted = sorted_end (slice_cmp nat_cmp) l q o.sorted (all_before (slice_cmp nat_cmp) nat_list_cmp_total l q o.sorted
      h);
  ascending = λ r m. elim (in_snoc l q r m) [
    | inl k ↦ o.ascending r k
    | inr e ↦ subst (λ
        (v : List ℕ). IsAscending v) e i.ascending
  ];
  inside = λ r m p k. elim (in_snoc l q r m) [
    | inl w ↦ o.inside r w p k
    | inr e ↦ indices_inside s i.fields q i.indices p (subst (λ (v : List ℕ). IsIn p v) (sym e) k)
  ];
}

-- with more points they stay so
points_more : (s : List ℕ) (p : ℕ) (l : List (List ℕ)) → AreInOrder s l → AreInOrder (s ++ p ∷ []) l
points_more s p l o = record {
  sorted = o.sorted;
  ascending = o.ascending;
  inside = λ q m r k. in_left r s (p ∷ [])
      (o.inside q m r k);
}

-- what is taken of a line stays in order
taken_order : (p : Part) (f : MeshParts) (line : List ℕ) (g : MeshParts) → IsTaken p f line g → IsInOrder f
    → IsInOrder g
taken_order Replies f line g h o = subst (λ (m : MeshParts). IsInOrder m) (sym h.2)
    (record { ascending = o.ascending; keys = o.keys; cells = o.cells; hull = o.hull })
taken_order Points f line g h o = subst (λ (m : MeshParts). IsInOrder m) (sym h.3) (record {
  ascending = ascend_more f.points (f.points ++ h.0 ∷ []) h.0 refl o.ascending (all_below f.points h.0 o.ascending h.2);
  keys = λ p m. elim (in_snoc f.points h.0 p m) [ inl k ↦ o.keys p k | inr e ↦ subst (λ v. IsKey v) e h.1.key ];
  cells = points_more f.points h.0 f.cells o.cells;
  hull = points_more f.points h.0 f.hull o.hull;
})
taken_order Cells f line g h o = subst (λ (m : MeshParts). IsInOrder m) (sym h.3) (record {
  ascending = o.ascending;
  keys = o.keys;
  cells = one_list_more 4 f.points line h.0 f.cells o.cells h.1 h.2;
  hull = o.hull;
})
taken_order Hull f line g h o = subst (λ (m : MeshParts). IsInOrder m) (sym h.3) (record {
  ascending = o.ascending;
  keys = o.keys;
  cells = o.cells;
  hull = one_list_more 3 f.points line h.0 f.hull o.hull h.1 h.2;
})

-- so it does where a line leads on
leads_order : (due : Due) (f : MeshParts) (line : List ℕ) (b : Reached) → Leads due f line b → IsInOrder f
    → IsInOrder b.taken
leads_order Title f line b h o = subst (λ (r : Reached). IsInOrder r.taken) (sym h.1) o
leads_order (Head p) f line b h o = subst (λ (r : Reached). IsInOrder r.taken) (sym h.2) o
leads_order (Body p n) f line b h o = subst (λ (r : Reached). IsInOrder r.taken) (sym h.2)
    (taken_order p f line h.0 h.1 o)
leads_order Last f line b h o = subst (λ (r : Reached). IsInOrder r.taken) (sym h.1) o
leads_order Nothing f line b h o = absurd h

-- and where lines do
all_order : (lines : List (List ℕ)) (a b : Reached) → AllLead LeadsOn lines a b → IsInOrder a.taken → IsInOrder b.taken
all_order [] a b h o = subst (λ (r : Reached). IsInOrder r.taken) h o
all_order (line ∷ lines) a b h o = all_order lines h.0 b h.2 (leads_order a.due a.taken line h.0 h.1 o)

-- no list is in order
none_listed : AreInOrder [] []
unfolding IsStrictlySortedBy
none_listed = record { sorted = tt; ascending = λ q m. absurd m; inside = λ q m p k. absurd m }

-- and nothing taken is
none_order : IsInOrder no_parts
none_order = record { ascending = tt; keys = λ p m. absurd m; cells = none_listed; hull = none_listed }

-- the mesh of a text
pub mesh_order : (bytes : List ℕ) (f : MeshParts) → IsMeshText bytes f → IsInOrder f
mesh_order bytes f h = all_order (lines_of bytes) at_title (at_end f) h none_order

-- and that of a call
pub given_order : (bytes : List ℕ) (r : Result PackedMesh ReadRefused) → IfOk r (λ m. IsMeshText bytes (parts m))
    → IfOk r (λ m. IsInOrder (parts m))
given_order bytes (Ok m) h = mesh_order bytes (parts m) h
given_order bytes (Err e) h = tt
