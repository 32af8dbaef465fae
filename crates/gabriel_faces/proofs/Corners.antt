-- A Full cell with chosen points of its in front.
use Rattle.std.specs.Prelude.{◌≡◌, ℕ, true, List, [], ◌∷◌, ◌⊎◌}
use Rattle.std.proofs.Common.{inl, inr, subst}
use Rattle.point_order.specs.Sets.{IsIn}
use Rattle.del_laws.specs.Cells.{point, OneOf}
use Rattle.del_laws.specs.Keys.{AreKeys}
use Rattle.del_laws.specs.Vertices.{is_full_cell}
use Rattle.del_laws.proofs.Cited.{turn12, turn23, turn34}

-- a Full cell that begins with a, and all points of a list
pub record Begins (s q : List ℕ) (a : ℕ) : Type 0 where
  pub x : ℕ
  pub y : ℕ
  pub z : ℕ
  pub test : is_full_cell s a x y z ≡ true
  pub all : (p : ℕ) → IsIn p q → (a ≡ p) ⊎ IsIn p (x ∷ y ∷ z ∷ [])

-- one that begins with a and b
pub record BeginsWithTwo (s q : List ℕ) (a b : ℕ) : Type 0 where
  pub x : ℕ
  pub y : ℕ
  pub test : is_full_cell s a b x y ≡ true
  pub all : (p : ℕ) → IsIn p q → (a ≡ p) ⊎ ((b ≡ p) ⊎ IsIn p (x ∷ y ∷ []))

-- one that begins with a, b and c
pub record BeginsWithThree (s q : List ℕ) (a b c : ℕ) : Type 0 where
  pub x : ℕ
  pub test : is_full_cell s a b c x ≡ true
  pub all : (p : ℕ) → IsIn p q → (a ≡ p) ⊎ ((b ≡ p) ⊎ ((c ≡ p) ⊎ (x ≡ p)))

-- the first point of four may be any of them
pub with_one : (s : List ℕ) (w x y z a : ℕ) → AreKeys s → is_full_cell s w x y z ≡ true → OneOf a w x y z →
    Begins s (w ∷ x ∷ y ∷ z ∷ []) a
with_one s w x y z a k t m = elim m [
  | inl e ↦ subst (Begins s (w ∷ x ∷ y ∷ z ∷ [])) e (record { x = x; y = y; z = z; test = t; all = λ p i. i })
  | inr r ↦ elim r [
    | inl e ↦ subst (Begins s (w ∷ x ∷ y ∷ z ∷ [])) e (record {
      x = w;
      y = y;
      z = z;
      test = turn12 s k (point w) (point x) (point y) (point z) t;
      all = λ p i. elim i [ inl f ↦ inr (inl f) | inr j ↦ elim j [ inl f ↦ inl f | inr o ↦ inr (inr o) ] ];
    })
    | inr u ↦ elim u [
      | inl e ↦ subst (Begins s (w ∷ x ∷ y ∷ z ∷ [])) e (record {
        x = w;
        y = x;
        z = z;
        test =
            turn12 s k (point w) (point y) (point x) (point z) (turn23 s k (point w) (point x) (point y) (point z) t);
        all = λ p i. elim i [
          | inl f ↦ inr (inl f)
          | inr j ↦ elim j [ inl f ↦ inr (inr (inl f)) | inr o ↦ elim o [ inl f ↦ inl f | inr v ↦ inr (inr (inr v)) ] ]
        ];
      })
      | inr v ↦ elim v [
        | inl e ↦ subst (Begins s (w ∷ x ∷ y ∷ z ∷ [])) e (record {
          x = w;
          y = x;
          z = y;
          test = turn12 s k (point w) (point z) (point x) (point y)
              (turn23 s k (point w) (point x) (point z) (point y) (turn34 s k (point w) (point x) (point y)
              (point z) t));
          all = λ p i. elim i [
            | inl f ↦ inr (inl f)
            | inr j ↦ elim j [
              | inl f ↦ inr (inr (inl f))
              | inr o ↦ elim o [
                | inl f ↦ inr (inr (inr (inl f)))
                | inr n ↦ elim n [ inl f ↦ inl f | inr none ↦ absurd none ]
              ]
            ]
          ];
        })
        | inr none ↦ absurd none
      ]
    ]
  ]
]

-- the second may be any other
pub with_two : (s q : List ℕ) (a b : ℕ) → AreKeys s → Begins s q a → IsIn b q → ¬ (a ≡ b) → BeginsWithTwo s q a b
with_two s q a b k B i n = elim (B.all b i) [
  | inl e ↦ absurd (n e)
  | inr m ↦ elim m [
    | inl e ↦ subst (BeginsWithTwo s q a) e (record { x = B.y; y = B.z; test = B.test; all = B.all })
    | inr r ↦ elim r [
      | inl e ↦ subst (BeginsWithTwo s q a) e (record {
        x = B.x;
        y = B.z;
        test = turn23 s k (point a) (point B.x) (point B.y) (point B.z) B.test;
        all = λ p j. second p (B.all p j);
      })
      | inr u ↦ elim u [
        | inl e ↦ subst (BeginsWithTwo s q a) e (record {
          x = B.x;
          y = B.y;
          test = turn23 s k (point a) (point B.x) (point B.z) (point B.y)
              (turn34 s k (point a) (point B.x) (point B.y) (point B.z) B.test);
          all = λ p j. third p (B.all p j);
        })
        | inr none ↦ absurd none
      ]
    ]
  ]
]
  where
    -- the third point in the second place
    second : (p : ℕ) → (a ≡ p) ⊎ IsIn p (B.x ∷ B.y ∷ B.z ∷ []) → (a ≡ p) ⊎ ((B.y ≡ p) ⊎ IsIn p (B.x ∷ B.z ∷ []))
    second p j = elim j [
      | inl f ↦ inl f
      | inr o ↦ inr (elim o [ inl f ↦ inr (inl f) | inr v ↦ elim v [ inl f ↦ inl f | inr w ↦ inr (inr w) ] ])
    ]

    -- the fourth point there
    third : (p : ℕ) → (a ≡ p) ⊎ IsIn p (B.x ∷ B.y ∷ B.z ∷ []) → (a ≡ p) ⊎ ((B.z ≡ p) ⊎ IsIn p (B.x ∷ B.y ∷ []))
    third p j = elim j [
      | inl f ↦ inl f
      | inr o ↦ inr (elim o [
        | inl f ↦ inr (inl f)
        | inr v ↦ elim v [ inl f ↦ inr (inr (inl f)) | inr w ↦ elim w [ inl f ↦ inl f | inr none ↦ absurd none ] ]
      ])
    ]

-- the third may be either of the others
pub with_three : (s q : List ℕ) (a b c : ℕ) → AreKeys s → BeginsWithTwo s q a b → IsIn c q → ¬ (a ≡ c) → ¬ (b ≡ c) →
    BeginsWithThree s q a b c
with_three s q a b c k B i n m = elim (B.all c i) [
  | inl e ↦ absurd (n e)
  | inr o ↦ elim o [
    | inl e ↦ absurd (m e)
    | inr r ↦ elim r [
      | inl e ↦ subst (BeginsWithThree s q a b) e (record { x = B.y; test = B.test; all = λ p j. third p (B.all p j) })
      | inr u ↦ elim u [
        | inl e ↦ subst (BeginsWithThree s q a b) e (record {
          x = B.x;
          test = turn34 s k (point a) (point b) (point B.x)
              (point B.y) B.test;
          all = λ p j. fourth p (B.all p j);
        })
        | inr none ↦ absurd none
      ]
    ]
  ]
]
  where
    -- in this order
    third : (p : ℕ) → (a ≡ p) ⊎ ((b ≡ p) ⊎ IsIn p (B.x ∷ B.y ∷ [])) → (a ≡ p) ⊎ ((b ≡ p) ⊎ ((B.x ≡ p) ⊎ (B.y ≡ p)))
    third p j = elim j [
      | inl f ↦ inl f
      | inr o ↦ inr (elim o [
        | inl f ↦ inl f
        | inr v ↦ inr (elim v [ inl f ↦ inl f | inr w ↦ elim w [ inl f ↦ inr f | inr none ↦ absurd none ] ])
      ])
    ]

    -- the last two exchanged
    fourth : (p : ℕ) → (a ≡ p) ⊎ ((b ≡ p) ⊎ IsIn p (B.x ∷ B.y ∷ [])) → (a ≡ p) ⊎ ((b ≡ p) ⊎ ((B.y ≡ p) ⊎ (B.x ≡ p)))
    fourth p j = elim j [
      | inl f ↦ inl f
      | inr o ↦ inr (elim o [
        | inl f ↦ inl f
        | inr v ↦ inr (elim v [ inl f ↦ inr f | inr w ↦ elim w [ inl f ↦ inl f | inr none ↦ absurd none ] ])
      ])
    ]
