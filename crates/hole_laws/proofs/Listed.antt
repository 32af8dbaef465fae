-- The laws of an insertion over lists of cells.
use Rattle.std.specs.Prelude.{◌≡◌, ℕ, Bool, true, ◌&&◌, ◌||◌, List, [], ◌∷◌, ◌⊎◌}
use Rattle.std.proofs.Common.{refl, sym, ap₂, ◌∙◌, subst, inl, inr}
use Rattle.std.proofs.lemmas.Bool.{false≢true}
use Rattle.list_laws.proofs.Cited.{and_not, and_not_from, any_from, any_true, false_if, first_true, four_is}
use Rattle.list_laws.proofs.Cited.{second_true, true_or_false}
use Rattle.point_order.specs.Sets.{IsIn}
use Rattle.point_order.specs.Facets.{facets_of}
use Rattle.point_order.specs.declared.cell.Cell.{Cell}
use Rattle.point_order.specs.declared.cell.Cell.TheVariants.{Full, Open}
use Rattle.point_order.specs.declared.cell.Facet.{Facet}
use Rattle.point_order.specs.declared.cell.Facet.TheVariants.{Three, Two}
use Rattle.del_laws.specs.Cells.{Vertex, point}
use Rattle.del_laws.specs.Base.{Symmetric}
use Rattle.hole_laws.proofs.Tests.{IsComplex, Insertion, gone}
use Rattle.hole_laws.specs.Lists.{Goes}
use Rattle.hole_laws.proofs.Vertex.{has_vertex, has_vertices, is_listed, IsOrdered, HasListed, ListsCells}
use Rattle.hole_laws.proofs.Order.{AreFourVertices}
use Rattle.hole_laws.proofs.Vertices.{first_last, second_last}
use Rattle.hole_laws.proofs.Rims.{last_apart, without_symmetric}
use Rattle.hole_laws.proofs.Region.{region}
use Rattle.hole_laws.proofs.CellVertices.{vertices_symmetric, at_vertices, same_cell}
use Rattle.hole_laws.proofs.FacetVertices.{facet_against, against_of, shared_facet}

-- ---- one list

-- the four vertices of a cell are different
pub four_of : (c : Vertex → Vertex → Vertex → Vertex → Bool) → IsComplex c → (w x y z : Vertex) → c w x y z ≡ true →
    AreFourVertices w x y z
four_of c k w x y z h =
    let a = last_apart c k w x y z h in
    let b = last_apart c k x y z w (sym (first_last c k.laws.symmetric w x y z) ∙ h) in
    let d = last_apart c k w y z x (sym (second_last c k.laws.symmetric w x y z) ∙ h) in
    record { wx = b.2; wy = b.1; wz = b.0; xy = d.1; xz = d.0; yz = λ e. a.0 (sym e) }

-- a list's test does not depend on the order of the vertices
pub listed_symmetric : (l : List Cell) → Symmetric (is_listed l)
unfolding is_listed
listed_symmetric l = record { first = first l; middle = middle l; last = last l }
  where
    first : (l : List Cell) (w x y z : Vertex) → is_listed l w x y z ≡ is_listed l x w y z
    first [] w x y z = refl
    first (q ∷ l) w x y z = ap₂ (λ a b. a || b) ((vertices_symmetric q).first w x y z) (first l w x y z)

    middle : (l : List Cell) (w x y z : Vertex) → is_listed l w x y z ≡ is_listed l w y x z
    middle [] w x y z = refl
    middle (q ∷ l) w x y z = ap₂ (λ a b. a || b) ((vertices_symmetric q).middle w x y z) (middle l w x y z)

    last : (l : List Cell) (w x y z : Vertex) → is_listed l w x y z ≡ is_listed l w x z y
    last [] w x y z = refl
    last (q ∷ l) w x y z = ap₂ (λ a b. a || b) ((vertices_symmetric q).last w x y z) (last l w x y z)

-- what the test says
pub listed_from : (l : List Cell) (w x y z : Vertex) → is_listed l w x y z ≡ true → HasListed l w x y z
unfolding is_listed
listed_from l w x y z h =
    let t = any_from (λ q. has_vertices q w x y z) l h in record { q = t.0; listed = t.1; vertices = t.2 }

-- and back
pub listed_true : (l : List Cell) (w x y z : Vertex) (q : Cell) → IsIn q l → has_vertices q w x y z ≡ true →
    is_listed l w x y z ≡ true
unfolding is_listed
listed_true l w x y z q m h = any_true (λ q. has_vertices q w x y z) l q m h

-- four vertices of a cell
pub record HasCorners (q : Cell) : Type 0 where
  pub w : Vertex
  pub x : Vertex
  pub y : Vertex
  pub z : Vertex
  pub four : AreFourVertices w x y z
  pub vertices : has_vertices q w x y z ≡ true

-- some facet of a cell
some_facet : (q : Cell) → IsOrdered q → (f : Facet) × IsIn f (facets_of q)
some_facet (Full (a ∷ b ∷ c ∷ d ∷ [])) o = (Three (b ∷ c ∷ d ∷ []), inl refl)
some_facet (Open (a ∷ b ∷ c ∷ [])) o = (Two (b ∷ c ∷ []), inl refl)
some_facet q o = absurd o

-- an ordered cell has four
pub corners : (q : Cell) → IsOrdered q → HasCorners q
corners q o =
    let f = some_facet q o in
    let k = (against_of q o f.0 f.1) in
    record {
      w = k.against.t1;
      x = k.against.t2;
      y = k.against.t3;
      z = k.z;
      four = k.against.four;
      vertices = k.against.vertices;
    }

module _ (c : Vertex → Vertex → Vertex → Vertex → Bool) (k : IsComplex c) (l : List Cell) (t : ListsCells l c) where
  -- four vertices of a listed cell pass the test
  pub cell_of : (q : Cell) → IsIn q l → (w x y z : Vertex) → AreFourVertices w x y z → has_vertices q w x y z ≡ true →
      c w x y z ≡ true
  cell_of q m w x y z d h = at_vertices c k.laws.symmetric q (t.ordered q m) w x y z d h ∙ t.cell q m

  -- an ordered cell whose vertices pass the test is listed
  pub listed_of : (q : Cell) → IsOrdered q → (w x y z : Vertex) → AreFourVertices w x y z →
      has_vertices q w x y z ≡ true → c w x y z ≡ true → IsIn q l
  listed_of q o w x y z d h e =
      let r = t.found w x y z e in
      subst (λ v. IsIn v l) (same_cell r.q q (t.ordered r.q r.listed) o w x y z d r.vertices h) r.listed

  -- whether an ordered cell is listed is decided
  pub decide_listed : (q : Cell) → IsOrdered q → IsIn q l ⊎ (IsIn q l → ⊥)
  decide_listed q o =
      let v = corners q o in
      elim (true_or_false (c v.w v.x v.y v.z)) [
        | inl e ↦ inl (listed_of q o v.w v.x v.y v.z v.four v.vertices e)
        | inr e ↦ inr (λ m. false≢true (sym e ∙ cell_of q m v.w v.x v.y v.z v.four v.vertices))
      ]

-- ---- a set and the set with one more point

module _ (c c' : Vertex → Vertex → Vertex → Vertex → Bool) (p : ℕ) (k : Insertion c c' (point p)) (l l' : List Cell)
    (t : ListsCells l c) (t' : ListsCells l' c') where
  -- the vertices of a cell that goes pass the test
  pub goes_test : (q : Cell) → Goes l l' q → (w x y z : Vertex) → AreFourVertices w x y z →
      has_vertices q w x y z ≡ true → gone c c' w x y z ≡ true
  goes_test q g w x y z d h =
      and_not (c w x y z) (c' w x y z) (cell_of c k.before l t q g.before w x y z d h)
      (false_if (c' w x y z) (λ e. g.after (listed_of c' k.after l' t' q (t.ordered q g.before) w x y z d h e)))

  -- and four that pass it are the vertices of one
  pub test_goes : (w x y z : Vertex) → gone c c' w x y z ≡ true → (q : Cell) × Goes l l' q
      × (has_vertices q w x y z ≡ true)
  test_goes w x y z h =
      let g = and_not_from (c w x y z) (c' w x y z) h in
      let r = t.found w x y z g.0 in (
        r.q,
        record {
          before = r.listed;
          after = λ m. false≢true
              (sym g.1 ∙ cell_of c' k.after l' t' r.q m w x y z (four_of c k.before w x y z g.0) r.vertices);
        },
        r.vertices,
      )

  -- a part of the cells that go that has one, and with each those that share a facet with it, has them all
  pub region_listed :
      (part : List Cell) → ((q : Cell) → IsIn q part → Goes l l' q) →
      ((q r : Cell) (f : Facet) → IsIn q part → Goes l l' r → IsIn f (facets_of q) → IsIn f (facets_of r) →
      IsIn r part) →
      (a : Cell) → IsIn a part → (b : Cell) → Goes l l' b → IsIn b part
  region_listed part goes closed a ma b gb =
      let va = corners a (t.ordered a (goes a ma).before) in
      let vb = corners b (t.ordered b gb.before) in
      let r = listed_from part vb.w vb.x vb.y vb.z (second_true (gone c c' vb.w vb.x vb.y vb.z)
      (is_listed part vb.w vb.x vb.y vb.z) (region c c' (point p) k test symmetric
      (λ w x y z h. first_true (gone c c' w x y z) (is_listed part w x y z) h) step va.w va.x va.y va.z
      (ap₂ (λ a b. a && b) (goes_test a (goes a ma) va.w va.x va.y va.z va.four va.vertices)
      (listed_true part va.w va.x va.y va.z a ma va.vertices))
      vb.w vb.x vb.y vb.z (goes_test b gb vb.w vb.x vb.y vb.z vb.four vb.vertices))) in
      subst (λ v. IsIn v part) (same_cell r.q b (t.ordered r.q (goes r.q r.listed).before) (t.ordered b gb.before) vb.w
      vb.x vb.y vb.z vb.four r.vertices vb.vertices) r.listed
    where
      test : Vertex → Vertex → Vertex → Vertex → Bool
      test w x y z = gone c c' w x y z && is_listed part w x y z

      gs : Symmetric (gone c c')
      gs = without_symmetric c c' k.before.laws.symmetric k.after.laws.symmetric

      ls : Symmetric (is_listed part)
      ls = listed_symmetric part

      symmetric : Symmetric test
      symmetric = record {
        first = λ w x y z. ap₂ (λ a b. a && b) (gs.first w x y z) (ls.first w x y z);
        middle = λ w x y z. ap₂ (λ a b. a && b) (gs.middle w x y z) (ls.middle w x y z);
        last = λ w x y z. ap₂ (λ a b. a && b) (gs.last w x y z) (ls.last w x y z);
      }

      -- from a cell of the part over the facet t1, t2, t3 to the other that goes
      step : (t1 t2 t3 x y : Vertex) → test t1 t2 t3 x ≡ true → gone c c' t1 t2 t3 y ≡ true → test t1 t2 t3 y ≡ true
      step t1 t2 t3 x y hx hy =
          let gx = first_true (gone c c' t1 t2 t3 x) (is_listed part t1 t2 t3 x) hx in
          let q = listed_from part t1 t2 t3 x (second_true (gone c c' t1 t2 t3 x) (is_listed part t1 t2 t3 x) hx) in
          let r = test_goes t1 t2 t3 y hy in
          let oq = t.ordered q.q (goes q.q q.listed).before in
          let or = t.ordered r.0 r.1.before in
          let dx = four_of c k.before t1 t2 t3 x (and_not_from (c t1 t2 t3 x) (c' t1 t2 t3 x) gx).0 in
          let dy = four_of c k.before t1 t2 t3 y (and_not_from (c t1 t2 t3 y) (c' t1 t2 t3 y) hy).0 in
          let f = facet_against q.q oq x (four_is (has_vertex q.q t1) (has_vertex q.q t2) (has_vertex q.q t3)
          (has_vertex q.q x) q.vertices).3 in
          let g = facet_against r.0 or y (four_is (has_vertex r.0 t1) (has_vertex r.0 t2) (has_vertex r.0 t3)
          (has_vertex r.0 y) r.2).3 in
          let e = shared_facet q.q r.0 oq or t1 t2 t3 x y dx dy q.vertices r.2 f.f g.f f.against g.against in
          ap₂ (λ a b. a && b) hy (listed_true part t1 t2 t3 y r.0
          (closed q.q r.0 f.f q.listed r.1 f.against.listed (subst (λ v. IsIn v (facets_of r.0))
          (sym e) g.against.listed)) r.2)
