-- Lines that are made in parts, one after another and side by side.
use Rattle.std.specs.Prelude.{◌≡◌, ℕ, true, List, [], ◌∷◌, ◌++◌}
use Rattle.std.proofs.Common.{append_assoc, refl, sym, ◌∙◌, subst, inl, inr}
use Rattle.list_laws.proofs.Cited.{EachLater, among_true, any_true, from_append, in_left, in_right, not_both}
use Rattle.list_laws.proofs.Cited.{pairs_later}
use Rattle.point_order.specs.declared.cell.Cell.{Cell}
use Rattle.point_order.specs.Sets.{IsIn, is_among}
use Rattle.edit_history.specs.declared.history.Edit.{Edit}
use Rattle.edit_history.specs.Edits.{edit_points, share_point}
use Rattle.cell_slots.specs.Clouds.{AreCellsOf}
use Rattle.cell_slots.specs.Nets.{AreMoved}
use Rattle.cell_slots.proofs.Cited.{moved_cells, moved_first, moved_two}
use Rattle.part_edits.specs.Made.{AgreeOn, AreMade, Made, ShareNone, set_after}
use Rattle.part_edits.specs.Rounds.{AreWorks, Work, all_made, all_new, all_old}
use Rattle.part_edits.specs.Laws.{MadeOneAfterAnother, MadeSideBySide, WorkersCompose}
use Rattle.part_edits.proofs.Known.{answered_both, known_still, set_both, set_other}

-- edits of one point share it
pub shares : (q : ℕ) (d e : Edit) → IsIn q (edit_points d) → IsIn q (edit_points e) → share_point d e ≡ true
shares q d e i j = any_true (λ p. is_among p (edit_points e)) (edit_points d) q i (among_true q (edit_points e) j)

-- what is known of all lines is known of each
pub agree_each : (known s : List ℕ) (a b : List Made) → ((m : Made) → IsIn m a → IsIn m b) → AgreeOn known s b →
    AgreeOn known s a
agree_each known s a b f g m i = g m (f m i)

-- cells that were moved, and no line
pub made_none : (known : List ℕ) (old new : List Cell) → AreMoved old new → AreMade known [] old new
made_none known old new m others s k a =
    (tt, moved_cells s (old ++ others) (new ++ others) (moved_first old new others m) k)

-- some lines, and then others
pub one_after_another : MadeOneAfterAnother
one_after_another known a b old mid new f g others s k n =
    let first = f others s k (agree_each known s a (a ++ b) (λ m i. in_left m a b i) n) in
    let second = g others (set_after s a) first.1
    (λ m i q j. known_still q known s a first.0 (n m (in_right m a b i) q j)) in (
      answered_both s a b first.0 second.0,
      subst (λ (v : List ℕ). AreCellsOf v (new ++ others)) (sym (set_both s a b)) second.1,
    )

-- another knowledge of the same points
pub made_knowing : (known known' : List ℕ) (made : List Made) (old new : List Cell) → AgreeOn known known' made →
    AreMade known made old new → AreMade known' made old new
made_knowing known known' made old new e f others s k n = f others s k (λ m i q j. e m i q j ∙ n m i q j)

-- lines that share no point leave what is known of the others
pub known_beside : (known s : List ℕ) (a b : List Made) → ShareNone a b → AgreeOn known s b →
    AgreeOn known (set_after s a) b
known_beside known s a b apart n m i q j =
    n m i q j ∙ sym (set_other q s a (λ x k l. not_both (share_point x.0.1 m.0.1) (shares q x.0.1 m.0.1 l j)
    (apart x m k i)))

-- two parts
pub side_by_side : MadeSideBySide
side_by_side known a b old new old' new' f g apart others s k n =
    let t = set_after s a in
    let first = f (old' ++ others) s (subst (AreCellsOf s) (append_assoc old old' others) k)
    (agree_each known s a (a ++ b) (λ m i. in_left m a b i) n) in
    let over = moved_cells t (new ++ (old' ++ others)) (old' ++ (new ++ others)) (moved_two new old' others) first.1 in
    let second = g (new ++ others) t over
    (known_beside known s a b apart (agree_each known s b (a ++ b) (λ m i. in_right m a b i) n)) in
    let back = moved_cells (set_after t b) (new' ++ (new ++ others)) (new ++ (new' ++ others))
    (moved_two new' new others) second.1 in (
      answered_both s a b first.0 second.0,
      subst (λ (v : List ℕ). AreCellsOf v ((new ++ new') ++ others)) (sym (set_both s a b))
          (subst (AreCellsOf (set_after t b)) (sym (append_assoc new new' others)) back),
    )

-- ---- several workers

-- a line of all is one worker's
pub of_worker : (works : List Work) (m : Made) → IsIn m (all_made works) → (w : Work) × IsIn w works × IsIn m w.made
of_worker [] m i = absurd i
of_worker (w ∷ works) m i = elim (from_append m w.made (all_made works) i) [
  | inl j ↦ (w, inl refl, j)
  | inr j ↦ (let r = of_worker works m j in (r.0, inr r.1, r.2))
]

-- all lines are made in all parts
all_parts : (s : List ℕ) (works : List Work) → AreWorks s works →
    EachLater (λ (v w : Work). ShareNone v.made w.made) works →
    AreMade s (all_made works) (all_old works) (all_new works)
all_parts s [] f apart = λ others t k n. (tt, k)
all_parts s (w ∷ works) f apart =
    side_by_side s w.made (all_made works) w.old w.new (all_old works) (all_new works)
    (made_knowing w.known s w.made w.old w.new (f w (inl refl)).1 (f w (inl refl)).0)
    (all_parts s works (λ v i. f v (inr i)) apart.1)
    (λ x y i j. (let r = of_worker works y j in apart.0 r.0 r.1 x y i r.2))

pub workers_compose : WorkersCompose
workers_compose s works rest k f apart =
    all_parts s works f (pairs_later (λ (v w : Work). ShareNone v.made w.made) works apart) rest s k (λ m i q j. refl)
