-- The order of vertices, points by their keys and the infinite one last; what is shown of four vertices in order holds
-- of any four.
use Rattle.std.specs.Prelude.{◌≡◌, ◌≢◌, ◌<◌, ◌⊎◌}
use Rattle.std.proofs.Common.{refl, sym, ap, inl, inr}
use Rattle.std.proofs.lemmas.Bool.{cases_order}
use Rattle.del_laws.specs.Cells.{Vertex, point, far, IsSymmetric as IsEven}

-- the one vertex comes before the other
abbrev pub IsBefore : Vertex → Vertex → Type 0
IsBefore (point a) (point b) = a < b
IsBefore (point a) far = Unit {0}
IsBefore far y = ⊥

-- one of two vertices comes first, or they are one
pub ranked : (x y : Vertex) → IsBefore x y ⊎ (x ≡ y) ⊎ IsBefore y x
ranked (point a) (point b) = elim (cases_order a b) [
  | inl e ↦ inr (inl (ap point e))
  | inr r ↦ elim r [ inl l ↦ inl l | inr l ↦ inr (inr l) ]
]
ranked (point a) far = inl tt
ranked far (point b) = inr (inr tt)
ranked far far = inr (inl refl)

-- four different vertices
pub record AreFourVertices (w x y z : Vertex) : Type 0 where
  pub wx : w ≢ x
  pub wy : w ≢ y
  pub wz : w ≢ z
  pub xy : x ≢ y
  pub xz : x ≢ z
  pub yz : y ≢ z

-- in another order
swap12 : {w x y z : Vertex} → AreFourVertices w x y z → AreFourVertices x w y z
swap12 d = record { wx = λ e. d.wx (sym e); wy = d.xy; wz = d.xz; xy = d.wy; xz = d.wz; yz = d.yz }

-- in another order
swap23 : {w x y z : Vertex} → AreFourVertices w x y z → AreFourVertices w y x z
swap23 d = record { wx = d.wy; wy = d.wx; wz = d.wz; xy = λ e. d.xy (sym e); xz = d.yz; yz = d.xz }

-- in another order
pub swap34 : {w x y z : Vertex} → AreFourVertices w x y z → AreFourVertices w x z y
swap34 d = record { wx = d.wx; wy = d.wz; wz = d.wy; xy = d.xz; xz = d.xy; yz = λ e. d.yz (sym e) }

module _ (r : Vertex → Vertex → Vertex → Vertex → Type 0) (e : IsEven r)
    (ordered : (w x y z : Vertex) → IsBefore w x → IsBefore x y → IsBefore y z → r w x y z) where
  -- the first three are in order
  fourth : (w x y z : Vertex) → AreFourVertices w x y z → IsBefore w x → IsBefore x y → r w x y z
  fourth w x y z d wx xy = elim (ranked y z) [
    | inl yz ↦ ordered w x y z wx xy yz
    | inr k ↦ elim k [
      | inl q ↦ absurd (d.yz q)
      | inr zy ↦ e.swap34 w x z y (elim (ranked x z) [
        | inl xz ↦ ordered w x z y wx xz zy
        | inr l ↦ elim l [
          | inl q ↦ absurd (d.xz q)
          | inr zx ↦ e.swap23 w z x y (elim (ranked w z) [
            | inl wz ↦ ordered w z x y wz zx xy
            | inr m ↦ elim m [ inl q ↦ absurd (d.wz q) | inr zw ↦ e.swap12 z w x y (ordered z w x y zw wx xy) ]
          ])
        ]
      ])
    ]
  ]

  -- the first two are
  third : (w x y z : Vertex) → AreFourVertices w x y z → IsBefore w x → r w x y z
  third w x y z d wx = elim (ranked x y) [
    | inl xy ↦ fourth w x y z d wx xy
    | inr k ↦ elim k [
      | inl q ↦ absurd (d.xy q)
      | inr yx ↦ e.swap23 w y x z (elim (ranked w y) [
        | inl wy ↦ fourth w y x z (swap23 d) wy yx
        | inr l ↦ elim l [
          | inl q ↦ absurd (d.wy q)
          | inr yw ↦ e.swap12 y w x z (fourth y w x z (swap12 (swap23 d)) yw wx)
        ]
      ])
    ]
  ]

  -- what holds of four vertices in order, and does not depend on their order, holds of any four
  pub in_any_order : (w x y z : Vertex) → AreFourVertices w x y z → r w x y z
  in_any_order w x y z d = elim (ranked w x) [
    | inl wx ↦ third w x y z d wx
    | inr k ↦ elim k [ inl q ↦ absurd (d.wx q) | inr xw ↦ e.swap12 x w y z (third x w y z (swap12 d) xw) ]
  ]
