-- How many parts there are at least, by the groups that are left.
use Rattle.std.proofs.Common.{◌≡◌, refl, sym, subst, ap, ◌∙◌, ℕ, zero, suc, ◌<◌, ◌≤◌, ◌+◌, ◌-◌, ◌^◌, inl, inr, Bool}
use Rattle.std.proofs.Common.{true, false, List, [], ◌∷◌, ◌++◌, map, length, get_or, max, arith, nat_le}
use Rattle.std.specs.Prelude.{◌==◌, cond, not}
use Rattle.std.specs.List.{filter, range_with_len}
use Rattle.std.proofs.lemmas.Bool.{cases_lt}
use Rattle.std.proofs.lemmas.Bool.Decides.{nat_tests}
use Rattle.std.proofs.lemmas.List.{length-append}
use Rattle.std.proofs.lemmas.List.Filters.{length-filter_both}
use Rattle.std.proofs.lemmas.List.FromFn.{length-range_with_len}
use Rattle.std.proofs.lemmas.List.Sums.{length-filter}
use Rattle.list_laws.specs.Lists.{IsIn}
use Rattle.list_laws.proofs.Cited.{at_most, counted_below, distinct_ascending, distinct_filter, filtered_from}
use Rattle.list_laws.proofs.Cited.{filtered_true, flat_from, in_flat, in_left, in_right, range_ascending}
use Rattle.point_order.specs.declared.cell.Cell.{Cell}
use Rattle.face_list.specs.Seen.{FaceLists}
use Rattle.face_list.specs.Tables.{cell_at}
use Rattle.alpha_complex.specs.Condition.{AreFacesOf}
use Rattle.alpha_complex.specs.Judged.{is_small_cell}
use Rattle.alpha_complex.specs.Leasts.{AreLeastOf, IsLeastOf}
use Rattle.alpha_complex.proofs.Cited.{cells_are}
use Rattle.solid_parts.specs.declared.links.Link.{Link}
use Rattle.solid_parts.specs.declared.climb.Climb.{Climb}
use Rattle.solid_parts.specs.Gathered.{IsMarkedNumber}
use Rattle.solid_parts.specs.Groups.{AreTogether, IsMarkedAt, LeadDown, LeadTo, label_at}
use Rattle.solid_parts.specs.Labels.{HaveOneLabel}
use Rattle.solid_parts.specs.LeastAlpha.{IsCompact}
use Rattle.solid_parts.specs.Links.{AreLinked, ClimbsTo, IsClimbed, IsExhausted, IsBounded, count_to, link_between}
use Rattle.solid_parts.specs.Parts.{AreSolidParts, first_of}
use Rattle.solid_parts.proofs.Climbing.{first_climb}
use Rattle.solid_parts.proofs.Gathered.{has_first, place_of}
use Rattle.solid_parts.proofs.Leading.{each_down}
use Rattle.solid_parts.proofs.Solid.{Given, admitted, admitted_from, alike_along, mark_is, marked_below, marked_cell}
use Rattle.solid_parts.proofs.Solid.{numbered_from}
use Rattle.solid_parts.proofs.Few.{le_from}

-- ---- marks by the least alphas

-- the number of each cell is its least alpha
least_is : (cells : List Cell) (leasts : List ℕ) → AreLeastOf is_small_cell cells leasts → (i : ℕ) → i < length cells
    → IsLeastOf (λ alpha. is_small_cell alpha (cell_at cells i)) (label_at leasts i)
least_is [] leasts z i l = absurd (omega (arith, l))
least_is (c ∷ cells) [] z i l = absurd z
least_is (c ∷ cells) (n ∷ leasts) z zero l = z.0
least_is (c ∷ cells) (n ∷ leasts) z (suc i) l = least_is cells leasts z.1 i (omega (arith, l))

-- there are as many of these as cells
pub least_count : (cells : List Cell) (leasts : List ℕ) → AreLeastOf is_small_cell cells leasts →
    length leasts ≡ length cells
least_count [] [] z = refl
least_count [] (n ∷ leasts) z = absurd z
least_count (c ∷ cells) [] z = absurd z
least_count (c ∷ cells) (n ∷ leasts) z = ap suc (least_count cells leasts z.1)

-- a marked cell is admitted from its number on
marked_least : (cells : List Cell) (leasts : List ℕ) (alpha i : ℕ) → AreLeastOf is_small_cell cells leasts →
    alpha < 2 ^ 34
    → IsMarkedAt (map (is_small_cell alpha) cells) i → label_at leasts i ≤ alpha
marked_least cells leasts alpha i z small m =
    let l = marked_below alpha cells i m in
    le_from (label_at leasts i) alpha (sym (least_is cells leasts z i l alpha small) ∙ sym (mark_is alpha cells i l) ∙
    m)

-- and what is admitted by its number is marked
least_marked : (cells : List Cell) (leasts : List ℕ) (alpha i : ℕ) → AreLeastOf is_small_cell cells leasts →
    alpha < 2 ^ 34
    → i < length cells → nat_le (label_at leasts i) alpha ≡ true → IsMarkedAt (map (is_small_cell alpha) cells) i
least_marked cells leasts alpha i z small l e = mark_is alpha cells i l ∙ least_is cells leasts z i l alpha small ∙ e

-- ---- the links that were taken

-- the greater of two is at most alpha where both are
greatest_below : (m n alpha : ℕ) → m ≤ alpha → n ≤ alpha → max m n ≤ alpha
greatest_below m n alpha h k = omega (arith, h, k)

module _ (faces : FaceLists) (leasts : List ℕ) (alpha : ℕ) (links : List Link) (climb : Climb) (labels : List ℕ)
    (z : AreLeastOf is_small_cell faces.cells leasts) (small : alpha < 2 ^ 34)
    (linked : AreLinked faces leasts (length faces.triples) links) (c : IsClimbed links climb labels)
    (past : IsExhausted links climb alpha) where
  -- two cells that are linked and both admitted have one label
  linked_same : (u v : ℕ) → IsIn (link_between leasts u v) links → label_at leasts u ≤ alpha → label_at leasts v ≤ alpha
      → AreTogether labels u v
  linked_same u v i h k =
      let p = place_of links (link_between leasts u v) (record { alpha = 0; one = 0; other = 0 }) i in
      elim (cases_lt p.0 climb.next) [
        | inl l ↦ subst (λ (x : Link). AreTogether labels x.one x.other) p.2 (c.together p.0 l)
        | inr l ↦
            let over = subst (λ (x : Link). alpha < x.alpha) p.2 (past p.0 l p.1) in
            let under = greatest_below (label_at leasts u) (label_at leasts v) alpha h k in
            absurd (never over under)
      ]
    where
      never : {n : ℕ} → alpha < n → n ≤ alpha → ⊥
      never o p = omega (arith, o, p)

  -- so the cells of each triple that are admitted have one label
  all_alike : (t : ℕ) → t < length faces.triples
      → HaveOneLabel faces (map (is_small_cell alpha) faces.cells) labels (get_or faces.triples t ([], []))
  all_alike t l =
      let k = linked t l in
      record {
        numbers = k.numbers;
        around = k.around;
        below = k.below;
        alike = λ u v i j m n.
            let h = marked_least faces.cells leasts alpha u z small m in
            let g = marked_least faces.cells leasts alpha v z small n in
            elim (cases_lt u v) [
              | inl b ↦ linked_same u v (k.has u v i j b) h g
              | inr b ↦ elim (cases_lt v u) [
                | inl d ↦ sym (linked_same v u (k.has v u j i d) g h)
                | inr d ↦ ap (label_at labels) (same u v b d)
              ]
            ];
      }
    where
      same : (u v : ℕ) → v ≤ u → u ≤ v → u ≡ v
      same u v b d = omega (arith, b, d)

-- ---- parts by their labels

-- a number for each element of a list
chosen : {X : Type 0} (P : X → ℕ → Type 0) (xs : List X) → ((x : X) → IsIn x xs → (n : ℕ) × P x n)
    → (ns : List ℕ) × (length ns ≡ length xs) × ((x : X) → IsIn x xs → (n : ℕ) × IsIn n ns × P x n)
chosen P [] f = ([], refl, λ x i. absurd i)
chosen P (y ∷ xs) f =
    let here = f y (inl refl) in
    let rest = chosen P xs (λ x i. f x (inr i)) in (
      here.0 ∷ rest.0,
      ap suc rest.1,
      λ x i. elim i [
        | inl e ↦ (here.0, inl refl, subst (λ z. P z here.0) e here.1)
        | inr j ↦ let r = rest.2 x j in (r.0, inr r.1, r.2)
      ],
    )

-- two lists that grow by the same test stay equally long
same_step : (s t : Bool) (x y : ℕ) (xs ys : List ℕ) → s ≡ t → length xs ≡ length ys
    → length (cond s (x ∷ xs) xs) ≡ length (cond t (y ∷ ys) ys)
same_step true true x y xs ys e f = ap suc f
same_step false false x y xs ys e f = f
same_step true false x y xs ys e f = cc
same_step false true x y xs ys e f = cc

-- places counted from one more
shifted : (q r : ℕ → Bool) (n a b : ℕ) → b ≡ suc a → ((i : ℕ) → q (suc i) ≡ r i)
    → length (filter q (range_with_len b n)) ≡ length (filter r (range_with_len a n))
shifted q r zero a b e f = refl
shifted q r (suc n) a b e f = same_step (q b) (r a) b a _ _ (ap q e ∙ f a)
    (shifted q r n (a + 1) (b + 1) (omega (arith, e)) f)

-- how many pass is how many places there are of such
by_places : (p : ℕ → Bool) (xs : List ℕ)
    → length (filter p xs) ≡ length (filter (λ i. p (get_or xs i 0)) (range_with_len 0 (length xs)))
by_places p [] = refl
by_places p (x ∷ xs) =
    same_step (p x) (p x) x 0 (filter p xs) _ refl
    (by_places p xs ∙ sym (shifted (λ i. p (get_or (x ∷ xs) i 0)) (λ i. p (get_or xs i 0)) (length xs) 0 1 refl
    (λ i. refl)))

-- the label of the first cell of a part
record IsLabelOf (cells : List Cell) (marks : List Bool) (labels : List ℕ) (part : List (List ℕ)) (label : ℕ) : Type 0
  where
    pub number : ℕ
    pub is_number : IsMarkedNumber cells marks (first_of part) number
    pub is_label : label_at labels number ≡ label

module _ (s : List ℕ) (faces : FaceLists) (labels : List ℕ) (alpha : ℕ) (g : Given s faces alpha labels)
    (parts : List (List (List ℕ))) (a : AreSolidParts (admitted s faces alpha labels g) parts) where
  -- the first cell of a part is an admitted one
  first_in : (part : List (List ℕ)) → IsIn part parts → IsIn (first_of part) (admitted s faces alpha labels g)
  first_in part i = (a.all (first_of part)).0 (in_flat (λ v. v) parts part (first_of part) i
      (has_first part (a.filled part i)))

  -- and its label is that of the part
  label_of_part : (part : List (List ℕ)) → IsIn part parts
      → (n : ℕ) × IsLabelOf faces.cells (map (is_small_cell alpha) faces.cells) labels part n
  label_of_part part i =
      let n = numbered_from s faces alpha labels g (first_of part) (first_in part i) in
      (label_at labels n.0, record { number = n.0; is_number = n.2; is_label = refl })

  -- an admitted cell that is its own label is the label of a part
  own_is_label : (ns : List ℕ) → ((part : List (List ℕ)) → IsIn part parts → (n : ℕ) × IsIn n ns
      × IsLabelOf faces.cells (map (is_small_cell alpha) faces.cells) labels part n)
      → (i : ℕ) → IsMarkedAt (map (is_small_cell alpha) faces.cells) i → label_at labels i ≡ i → IsIn i ns
  own_is_label ns f i m e =
      let q = marked_cell s faces alpha labels g i m in
      let there = (a.all q.0).1 (admitted_from s faces alpha labels g q.0 i q.1) in
      let p = flat_from (λ v. v) parts q.0 there in
      let first = first_in p.0 p.1 in
      let joined = (a.joined p.0 q.0 (first_of p.0) p.1 p.2 first).0 (has_first p.0 (a.filled p.0 p.1)) in
      let n = f p.0 p.1 in
      let same = alike_along s faces alpha labels g q.0 (first_of p.0) joined.chain i n.2.number q.1 n.2.is_number
      joined.joins in
      subst (λ x. IsIn x ns) (sym n.2.is_label ∙ sym same ∙ e) n.1

-- where the points are covered and there are at most k parts, the cells are at most k and the merges
pub at_least : (s : List ℕ) (faces : FaceLists) (leasts : List ℕ) (links : List Link) (climb : Climb) (labels : List ℕ)
    (alpha k : ℕ)
    → AreFacesOf s faces → AreLeastOf is_small_cell faces.cells leasts →
    AreLinked faces leasts (length faces.triples) links
    → IsClimbed links climb labels → length labels ≡ length faces.cells → IsExhausted links climb alpha → alpha < 2 ^ 34
    → IsCompact s k alpha → count_to leasts alpha ≤ k + climb.merges
at_least s faces leasts links climb labels alpha k h z linked c n past small compact =
    let g : Given s faces alpha labels = record {
      faces_of = h;
      joined =
          all_alike faces leasts alpha links climb labels z small linked c past;
    } in
    let a = subst (λ (v : List (List ℕ)). AreSolidParts v compact.parts) (sym (cells_are s faces alpha h))
    compact.are_parts
    in
    let ns = chosen (IsLabelOf faces.cells (map (is_small_cell alpha) faces.cells) labels) compact.parts
    (label_of_part s faces labels alpha g compact.parts a) in
    let most = at_most (filter low places) (ns.0 ++ filter (λ i. not (own i)) places)
    (distinct_filter low places (distinct_ascending places (range_ascending 0 (length leasts))))
    (λ i j. (
    let r = filtered_from low places i j in
    let within = inside i (counted_below 0 (length leasts) i r.0) in
    covered i (own i) refl
    (λ e. in_left i ns.0 (filter (λ i. not (own i)) places) (own_is_label s faces labels alpha g compact.parts a ns.0
    ns.2 i
    (least_marked faces.cells leasts alpha i z small within r.1) (equal (label_at labels i) i e)))
    (λ e. in_right i ns.0 (filter (λ i. not (own i)) places)
    (filtered_true (λ i. not (own i)) places i r.0 (ap not e))))) in
    let joined = length-append ns.0 (filter (λ i. not (own i)) places) in
    let both = length-filter_both own (λ i. not (own i)) (λ i. refl) places in
    let all = length-range_with_len 0 (length leasts) in
    let low_count = sym (length-filter (λ m. nat_le m alpha) leasts) ∙ by_places (λ m. nat_le m alpha) leasts in
    let own_is = ap (λ m. length (filter own (range_with_len 0 m))) (n ∙ sym count) in
    let few = compact.few in
    let counted = c.counted in
    omega (arith, most, joined, both, all, low_count, own_is, few, counted, ns.1, n, count)
  where
    count : length leasts ≡ length faces.cells
    count = least_count faces.cells leasts z

    places : List ℕ
    places = range_with_len 0 (length leasts)

    low : ℕ → Bool
    low i = nat_le (label_at leasts i) alpha

    own : ℕ → Bool
    own i = label_at labels i == i

    equal : (a b : ℕ) → (a == b) ≡ true → a ≡ b
    equal a b e = grind (arith, nat_tests)

    inside : (i : ℕ) → i < 0 + length leasts → i < length faces.cells
    inside i l = omega (arith, l, count)

    covered : {X : Type 0} (i : ℕ) (b : Bool) → own i ≡ b → (own i ≡ true → X) → (own i ≡ false → X) → X
    covered i true e f m = f e
    covered i false e f m = m e

-- where links were taken: as many numbers lead to labels as there are cells
pub record IsClimbing (count : ℕ) (links : List Link) (climb : Climb) (leads : List ℕ) : Type 0 where
  pub count_is : length leads ≡ count
  pub down : LeadDown leads
  pub within : IsBounded links climb
  pub climbs : ClimbsTo links climb leads

-- before the first link each cell leads to itself
pub starts_climbing : (n : ℕ) (links : List Link) (leads : List ℕ) → leads ≡ range_with_len 0 n
    → IsClimbing n links (record { next = 0; merges = 0 }) leads
starts_climbing n links leads e = subst (IsClimbing n links (record { next = 0; merges = 0 })) (sym e) (record {
  count_is = length-range_with_len 0 n;
  down = each_down n;
  within = (omega arith, omega arith);
  climbs = first_climb links n;
})

-- what is made of it by the links up to a number
pub climbs_on : (count : ℕ) (links taken : List Link) (climb now : Climb) (leads lent new : List ℕ) → taken ≡ links →
    lent ≡ leads
    → IsBounded taken now → LeadDown new → ((labels : List ℕ) → LeadTo lent labels → IsClimbed taken climb labels →
    ClimbsTo taken now new)
    → length new ≡ length lent → IsClimbing count links climb leads → IsClimbing count links now new
climbs_on count links taken climb now leads lent new f e w d m l s =
    subst (λ (v : List Link). IsClimbing count v now new) f (record {
      count_is = l ∙ ap length e ∙ s.count_is;
      down = d;
      within = w;
      climbs = m s.climbs.labels (subst (λ (v : List ℕ). LeadTo v s.climbs.labels) (sym e) s.climbs.leads_to)
          (subst (λ (v : List Link). IsClimbed v climb s.climbs.labels) (sym f) s.climbs.climbed);
    })

-- so there are at least as many parts as were counted
pub apart_at_least : (s : List ℕ) (faces : FaceLists) (leasts : List ℕ) (links taken : List Link) (climb : Climb)
    (leads numbers lent : List ℕ)
    (alpha k count apart : ℕ) → AreFacesOf s faces → AreLeastOf is_small_cell faces.cells leasts
    → AreLinked faces leasts (length faces.triples) links → taken ≡ links → IsClimbing (length leasts) links climb leads
    → IsExhausted taken climb alpha → alpha < 2 ^ 34 → IsCompact s k alpha → lent ≡ numbers →
    count_to numbers alpha ≡ count_to leasts alpha
    → count ≡ count_to lent alpha → apart ≡ count - climb.merges → apart ≤ k
apart_at_least s faces leasts links taken climb leads numbers lent alpha k count apart h z linked f c past small compact
    e same n m =
    let most = at_least s faces leasts links climb c.climbs.labels alpha k h z linked c.climbs.climbed
    (c.climbs.leads_to.count ∙ c.count_is ∙ least_count faces.cells leasts z)
    (subst (λ (v : List Link). IsExhausted v climb alpha) f past) small compact in
    let counted = n ∙ ap (λ (v : List ℕ). count_to v alpha) e ∙ same in
    omega (arith, most, counted, m)
