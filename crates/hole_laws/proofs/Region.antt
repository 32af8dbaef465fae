-- The cells that a new point takes away are connected across facets, those with the infinite vertex among them.
-- By parity: around a pair of vertices evenly many facets have just one of their two cells in a part of the region.
use Rattle.std.specs.Prelude.{◌≡◌, Bool, true, false, not, ◌&&◌, ◌≢◌, ◌⊎◌}
use Rattle.std.proofs.Common.{refl, sym, ap, ◌∙◌, inl, inr}
use Rattle.std.proofs.lemmas.Bool.{false≢true}
use Rattle.list_laws.specs.Lists.{IsIn}
use Rattle.list_laws.specs.Laws.{odd, HasAnother}
use Rattle.list_laws.proofs.Cited.{HasSome, and_not, and_not_false, and_not_from, another, even_degrees, false_if}
use Rattle.list_laws.proofs.Cited.{odd_same, odd_some, one_odd, two_even}
use Rattle.del_laws.specs.Cells.{Vertex}
use Rattle.del_laws.specs.Base.{Symmetric, Symmetric3, Across}
use Rattle.hole_laws.proofs.Tests.{Insertion, gone}
use Rattle.hole_laws.proofs.Vertices.{cases_vertex}
use Rattle.hole_laws.proofs.Rims.{across_one, rim_makes_new, without_symmetric}

module _ (c c' : Vertex → Vertex → Vertex → Vertex → Bool) (p : Vertex) (k : Insertion c c' p)
    (part : Vertex → Vertex → Vertex → Vertex → Bool) (symmetric : Symmetric part)
    (goes : (w x y z : Vertex) → part w x y z ≡ true → gone c c' w x y z ≡ true)
    (closed : (t1 t2 t3 x y : Vertex) → part t1 t2 t3 x ≡ true → gone c c' t1 t2 t3 y ≡ true → part t1 t2 t3 y ≡ true)
  where
    -- the part has cells of the set
    part_cell : (w x y z : Vertex) → part w x y z ≡ true → c w x y z ≡ true
    part_cell w x y z h = (and_not_from (c w x y z) (c' w x y z) (goes w x y z h)).0

    -- and none of the set with p
    part_new : (w x y z : Vertex) → part w x y z ≡ true → c' w x y z ≡ false
    part_new w x y z h = (and_not_from (c w x y z) (c' w x y z) (goes w x y z h)).1

    -- an odd facet has one cell of the part
    abbrev rim : Vertex → Vertex → Vertex → Bool
    rim t1 t2 t3 = odd (part t1 t2 t3) k.before.vertices

    -- in any order
    rim_symmetric : Symmetric3 rim
    rim_symmetric = record {
      first = λ x y z. odd_same (part x y z) (part y x z) (λ w. symmetric.first x y z w) k.before.vertices;
      last = λ x y z. odd_same (part x y z) (part x z y) (λ w. symmetric.middle x y z w) k.before.vertices;
    }

    -- the only cell of the part on the facet, beside one that stays
    only_gone : (t1 t2 t3 z y : Vertex) → rim t1 t2 t3 ≡ true → part t1 t2 t3 z ≡ true → c t1 t2 t3 y ≡ true → y ≢ z →
        gone c c' t1 t2 t3 y ≡ false
    only_gone t1 t2 t3 z y h hz hy n = false_if _ λ g.
        let hy' = closed t1 t2 t3 z y hz g in
        let a = k.before.laws.across t1 t2 t3 z (part_cell t1 t2 t3 z hz) in
        false≢true (sym (two_even (part t1 t2 t3) y z k.before.vertices k.before.laws.distinct
        (k.before.laws.listed t1 t2 t3 y hy) (k.before.laws.listed t1 t2 t3 z (part_cell t1 t2 t3 z hz)) n hy' hz
        (λ w i hw. two w (cases_vertex w z) hw)) ∙ h)
      where
        two : (w : Vertex) → (w ≡ z) ⊎ (w ≡ z → ⊥) → part t1 t2 t3 w ≡ true → (w ≡ y) ⊎ (w ≡ z)
        two w (inl e) hw = inr e
        two w (inr m) hw =
            inl (across_one c k.before t1 t2 t3 w y z (part_cell t1 t2 t3 w hw) hy (part_cell t1 t2 t3 z hz) m n)

    -- over an odd facet there is a new cell
    rim_new : (t1 t2 t3 : Vertex) → rim t1 t2 t3 ≡ true → c' t1 t2 t3 p ≡ true
    rim_new t1 t2 t3 h =
        rim_makes_new c c' p k t1 t2 t3 record {
          kept = a.beyond;
          lost = z.at;
          kept_before = a.cell;
          kept_after = and_not_false _ _ a.cell (only_gone t1 t2 t3 z.at a.beyond h z.holds a.cell a.other);
          lost_before = part_cell t1 t2 t3 z.at z.holds;
          lost_after = part_new t1 t2 t3 z.at z.holds;
        }
      where
        z : HasSome (part t1 t2 t3) k.before.vertices
        z = odd_some (part t1 t2 t3) k.before.vertices h

        a : Across c t1 t2 t3 z.at
        a = k.before.laws.across t1 t2 t3 z.at (part_cell t1 t2 t3 z.at z.holds)

    -- a facet with one cell in the part and one outside is odd
    rim_here : (t1 t2 t3 z y : Vertex) → part t1 t2 t3 z ≡ true → c t1 t2 t3 y ≡ true → y ≢ z →
        part t1 t2 t3 y ≡ false →
        rim t1 t2 t3 ≡ true
    rim_here t1 t2 t3 z y hz hy n ny =
        one_odd (part t1 t2 t3) z k.before.vertices k.before.laws.distinct (k.before.laws.listed t1 t2 t3 z hc) hz
        (λ w i hw.
        across_one c k.before t1 t2 t3 w z y (part_cell t1 t2 t3 w hw) hc hy
        (λ e. false≢true (sym ny ∙ ap (part t1 t2 t3) (sym e) ∙ hw)) (λ e. n (sym e)))
      where
        hc : c t1 t2 t3 z ≡ true
        hc = part_cell t1 t2 t3 z hz

    -- two vertices have an even number of odd facets
    other_rim : (a b x : Vertex) → rim a b x ≡ true → HasAnother (rim a b) x k.before.vertices
    other_rim a b x h =
        another (rim a b) x k.before.vertices k.before.laws.distinct listed h
        (even_degrees (part a b) record { loose = none; both = λ y z. symmetric.last a b y z } k.before.vertices)
      where
        listed : IsIn x k.before.vertices
        listed =
            let z = odd_some (part a b x) k.before.vertices h in
            k.before.laws.listed a b z.at x (sym (k.before.laws.symmetric.last a b x z.at)
            ∙ part_cell a b x z.at z.holds)

        none : (y : Vertex) → part a b y y ≡ false
        none y = false_if _ λ e. false≢true (sym (k.before.laws.apart a b y) ∙ part_cell a b y y e)

    -- so the new cells over odd facets are closed across the facets with p
    star_step : (a b x y : Vertex) → c' a b x p ≡ true → rim a b x ≡ true → c' a b y p ≡ true → rim a b y ≡ true
    star_step a b x y hx h hy = same (cases_vertex y x)
      where
        s : Symmetric c'
        s = k.after.laws.symmetric

        same : (y ≡ x) ⊎ (y ≡ x → ⊥) → rim a b y ≡ true
        same (inl e) = ap (rim a b) e ∙ h
        same (inr n) =
            let o = other_rim a b x h in
            ap (rim a b) (across_one c' k.after a b p y o.at x (s.last a b p y ∙ hy)
            (s.last a b p o.at ∙ rim_new a b o.at o.holds) (s.last a b p x ∙ hx) n o.differs) ∙ o.holds

    -- so they are all cells at p
    all_rims : (a1 a2 a3 : Vertex) → rim a1 a2 a3 ≡ true → (t1 t2 t3 : Vertex) → c' t1 t2 t3 p ≡ true →
        rim t1 t2 t3 ≡ true
    all_rims a1 a2 a3 h = k.star rim rim_symmetric a1 a2 a3 (rim_new a1 a2 a3 h) h star_step

    -- there is an odd facet
    some_rim : (a1 a2 a3 a4 : Vertex) → part a1 a2 a3 a4 ≡ true → ((t1 t2 t3 : Vertex) → rim t1 t2 t3 ≡ true → ⊥) → ⊥
    some_rim a1 a2 a3 a4 h none =
        let m = k.met in
        let e = k.whole part symmetric a1 a2 a3 a4 (part_cell a1 a2 a3 a4 h) h step m.t1 m.t2 m.t3 m.rim.kept
        m.rim.kept_before in
        false≢true (sym (part_new m.t1 m.t2 m.t3 m.rim.kept e) ∙ m.rim.kept_after)
      where
        step : (t1 t2 t3 x y : Vertex) → c t1 t2 t3 x ≡ true → part t1 t2 t3 x ≡ true → c t1 t2 t3 y ≡ true →
            part t1 t2 t3 y ≡ true
        step t1 t2 t3 x y hc hp hy = go (cases_vertex y x) (part t1 t2 t3 y) refl
          where
            go : (y ≡ x) ⊎ (y ≡ x → ⊥) → (b : Bool) → part t1 t2 t3 y ≡ b → part t1 t2 t3 y ≡ true
            go (inl e) b q = ap (part t1 t2 t3) e ∙ hp
            go (inr n) true q = q
            go (inr n) false q = absurd (none t1 t2 t3 (rim_here t1 t2 t3 x y hp hy n q))

    -- what is left of the cells that go is closed across facets too
    rest_step : (a1 a2 a3 : Vertex) → rim a1 a2 a3 ≡ true → (t1 t2 t3 x y : Vertex) →
        (gone c c' t1 t2 t3 x && not (part t1 t2 t3 x)) ≡ true → c t1 t2 t3 y ≡ true →
        (gone c c' t1 t2 t3 y && not (part t1 t2 t3 y)) ≡ true
    rest_step a1 a2 a3 ha t1 t2 t3 x y hx hy = go (gone c c' t1 t2 t3 y) (part t1 t2 t3 y) refl refl
      where
        x_gone : gone c c' t1 t2 t3 x ≡ true
        x_gone = (and_not_from (gone c c' t1 t2 t3 x) (part t1 t2 t3 x) hx).0

        x_out : part t1 t2 t3 x ≡ false
        x_out = (and_not_from (gone c c' t1 t2 t3 x) (part t1 t2 t3 x) hx).1

        x_cell : (c t1 t2 t3 x ≡ true) × (c' t1 t2 t3 x ≡ false)
        x_cell = and_not_from (c t1 t2 t3 x) (c' t1 t2 t3 x) x_gone

        go : (g b : Bool) → gone c c' t1 t2 t3 y ≡ g → part t1 t2 t3 y ≡ b →
            (gone c c' t1 t2 t3 y && not (part t1 t2 t3 y)) ≡ true
        go true false eg eb = and_not (gone c c' t1 t2 t3 y) (part t1 t2 t3 y) eg eb
        go g true eg eb = absurd (false≢true (sym x_out ∙ closed t1 t2 t3 y x eb x_gone))
        go false false eg eb =
            let new = rim_makes_new c c' p k t1 t2 t3 record {
              kept = y;
              lost = x;
              kept_before = hy;
              kept_after = and_not_false (c t1 t2 t3 y) (c' t1 t2 t3 y) hy eg;
              lost_before = x_cell.0;
              lost_after = x_cell.1;
            } in
            let z = odd_some (part t1 t2 t3) k.before.vertices (all_rims a1 a2 a3 ha t1 t2 t3 new) in
            let differs = λ (e : y ≡ x). false≢true (sym eg ∙ ap (gone c c' t1 t2 t3) e ∙ x_gone) in
            let apart = λ (e : z.at ≡ x). false≢true (sym x_out ∙ ap (part t1 t2 t3) (sym e) ∙ z.holds) in
            let e =
            across_one c k.before t1 t2 t3 y z.at x hy (part_cell t1 t2 t3 z.at z.holds) x_cell.0 differs apart in
            absurd (false≢true (sym eb ∙ ap (part t1 t2 t3) e ∙ z.holds))

    -- a closed part that has a cell is all of the region
    pub region : (a1 a2 a3 a4 : Vertex) → part a1 a2 a3 a4 ≡ true → (b1 b2 b3 b4 : Vertex) →
        gone c c' b1 b2 b3 b4 ≡ true → part b1 b2 b3 b4 ≡ true
    region a1 a2 a3 a4 ha b1 b2 b3 b4 hb = go (part b1 b2 b3 b4) refl
      where
        go : (b : Bool) → part b1 b2 b3 b4 ≡ b → part b1 b2 b3 b4 ≡ true
        go true e = e
        go false e = absurd (some_rim a1 a2 a3 a4 ha λ r1 r2 r3 h.
            let q = k.whole (λ w x y z. gone c c' w x y z && not (part w x y z))
            (without_symmetric (gone c c') part (without_symmetric c c' k.before.laws.symmetric k.after.laws.symmetric)
            symmetric)
            b1 b2 b3 b4 (and_not_from (c b1 b2 b3 b4) (c' b1 b2 b3 b4) hb).0
            (and_not (gone c c' b1 b2 b3 b4) (part b1 b2 b3 b4) hb e)
            (λ t1 t2 t3 x y hc hx hy. rest_step r1 r2 r3 h t1 t2 t3 x y hx hy)
            a1 a2 a3 a4 (part_cell a1 a2 a3 a4 ha) in
            false≢true (sym (and_not_from (gone c c' a1 a2 a3 a4) (part a1 a2 a3 a4) q).1 ∙ ha))
