-- Solid lists: what decides whether some four points are independent.
use Rattle.std.specs.Prelude.{◌≡◌, ℕ, Bool, true, false, not, List}
use Rattle.std.specs.List.{list_any}
use Rattle.std.proofs.Common.{refl}
use Rattle.list_laws.proofs.Cited.{any_from, any_none, any_true, not_from}
use Rattle.point_order.specs.Sets.{IsIn, ascending}
use Rattle.point_order.specs.Orientation.{is_flat}
use Rattle.point_order.specs.Solid.{is_solid}
use Rattle.point_order.proofs.Cited.{in_ascending, in_ascending_from}

-- four independent points make a list solid
pub solid_from : (s : List ℕ) (a b c d : ℕ) → IsIn a s → IsIn b s → IsIn c s → IsIn d s → is_flat a b c d ≡ false →
    is_solid s ≡ true
solid_from s a b c d ia ib ic id e =
    any_true _ s a ia (any_true _ s b ib (any_true _ s c ic (any_true (λ d. not (is_flat a b c d)) s d id (rw e refl))))

-- a list whose points lie four by four in a plane is not solid
pub flat_from : (s : List ℕ) → ((a b c d : ℕ) → IsIn a s → IsIn b s → IsIn c s → IsIn d s → is_flat a b c d ≡ true) →
    is_solid s ≡ false
flat_from s f =
    any_none _ s (λ a ia. any_none _ s (λ b ib. any_none _ s (λ c ic. any_none _ s
    (λ d id. rw (f a b c d ia ib ic id) refl))))

-- a list has four independent points
pub record HasFour (s : List ℕ) : Type 0 where
  pub a : ℕ
  pub b : ℕ
  pub c : ℕ
  pub d : ℕ
  pub in_a : IsIn a s
  pub in_b : IsIn b s
  pub in_c : IsIn c s
  pub in_d : IsIn d s
  pub independent : is_flat a b c d ≡ false

-- the four of a solid list
pub solid_some : (s : List ℕ) → is_solid s ≡ true → HasFour s
solid_some s e =
    let a = any_from (λ a. list_any (λ b. list_any (λ c. list_any (λ d. not (is_flat a b c d)) s) s) s) s e in
    let b = any_from (λ b. list_any (λ c. list_any (λ d. not (is_flat a.0 b c d)) s) s) s a.2 in
    let c = any_from (λ c. list_any (λ d. not (is_flat a.0 b.0 c d)) s) s b.2 in
    let d = any_from (λ d. not (is_flat a.0 b.0 c.0 d)) s c.2 in
    record {
      a = a.0;
      b = b.0;
      c = c.0;
      d = d.0;
      in_a = a.1;
      in_b = b.1;
      in_c = c.1;
      in_d = d.1;
      independent =
          not_from (is_flat a.0 b.0 c.0 d.0) d.2;
    }

-- lists with the same points are solid alike
pub solid_same : (s t : List ℕ) → ((p : ℕ) → IsIn p s → IsIn p t) → ((p : ℕ) → IsIn p t → IsIn p s) →
    is_solid s ≡ is_solid t
solid_same s t f g = by (is_solid s) (is_solid t) refl refl
  where
    over : (s t : List ℕ) → ((p : ℕ) → IsIn p s → IsIn p t) → is_solid s ≡ true → is_solid t ≡ true
    over s t f e =
        let h = solid_some s e in solid_from t h.a h.b h.c h.d (f h.a h.in_a) (f h.b h.in_b) (f h.c h.in_c)
        (f h.d h.in_d) h.independent

    by : (x y : Bool) → is_solid s ≡ x → is_solid t ≡ y → x ≡ y
    by true true d e = refl
    by true false d e = let h = over s t f d in cc
    by false true d e = let h = over t s g e in cc
    by false false d e = refl

-- solidity is of the set
pub solid_ascending : (s : List ℕ) → is_solid (ascending s) ≡ is_solid s
solid_ascending s = solid_same (ascending s) s (λ p i. in_ascending s p i) (λ p i. in_ascending_from s p i)
