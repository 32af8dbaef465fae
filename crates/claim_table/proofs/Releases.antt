-- A release keeps the rule.
use Rattle.std.specs.Prelude.{◌≡◌, ◌≢◌, ℕ, ◌+◌, ◌==◌, not, List, ◌∷◌, Option, None, Some, IsSome, slice_set}
use Rattle.std.specs.List.{filter}
use Rattle.std.specs.Option.{option_map, option_and_then}
use Rattle.std.proofs.Common.{refl, sym, ◌∙◌, ap, subst, arith, get_or-set_other, get_or-set_same, length-set, eq-eqb}
use Rattle.std.proofs.Common.{ne_eqb}
use mathlib.Core.Logic.{dite}
use mathlib.Core.Option as maybe
use mathlib.Core.Option.{some, none}
use native.Mathlib.Decide.{ℕ_discrete}
use lib.Seq.{map-set}
use Rattle.atomic_table.specs.Table.{step, gives, stepped}
use Rattle.list_laws.specs.Lists.{AreDistinct}
use Rattle.list_laws.proofs.Cited.{distinct_filter, filtered_from, filtered_true, is_there, none_there, same_there}
use Rattle.list_laws.proofs.Cited.{within_some}
use Rattle.point_order.specs.Sets.{IsIn}
use Rattle.edit_history.specs.declared.history.Entry.{Entry}
use Rattle.cell_store.specs.Buckets.{BucketContent, bucket_at}
use Rattle.claim_rule.specs.Boards.{BoardState}
use Rattle.claim_rule.specs.Good.{IsGood}
use Rattle.claim_rule.specs.Events.{released}
use Rattle.claim_rule.proofs.Cited.{release_keeps}
use Rattle.claim_table.specs.declared.view.Key.{Key}
use Rattle.claim_table.specs.declared.view.View.{View}
use Rattle.claim_table.specs.declared.view.Act.TheVariants.{Release}
use Rattle.claim_table.specs.Faces.{buckets_of, plain, at_home, board_of}
use Rattle.claim_table.specs.Trails.{in_hand}
use Rattle.claim_table.specs.Rule.{IsRule}
use Rattle.claim_table.specs.Plays.{Seated, releases, Released}
use Rattle.claim_table.proofs.Boarded.{Table, Live, views_set, word_behind, first_word}
use Rattle.claim_table.proofs.Trailed.{in_hand_snoc, steps_snoc}
use Rattle.claim_table.proofs.Reached.{reached_release}
use Rattle.claim_table.proofs.Claims.{IsAlone, below, on_board, set_rule, Taken}

-- The pass gives back a bucket, as its view has it, from the slot that it took last.
pub releases_keep : (k : Key) (slots id b : ℕ) (me : Seated) (u : BucketContent)
    (left : List (ℕ × Option BucketContent)) (s : Table) (h : List Entry) → IsRule k s h → IsAlone k s id me.0 →
    bucket_at me.0.held b ≡ Some u → me.1 ≡ (b, Some u) ∷ left
    → Taken k s (b + 1) id me (Released (step slots (b + 1) 0 0 none) me 0) 0
releases_keep k slots id b me u left s h r a holds slot =
    let v : View = me.0 in
    let count : ℕ = buckets_of k in
    let old : BoardState = board_of k s in
    let good = r.good in
    let ok = r.seats id v a.there in
    let shown = on_board k s h id v r a in
    let w : View = releases v b in
    let homes : List (maybe.Option (Option BucketContent)) = slice_set s.homes b (some (Some u)) in
    let words : List ℕ = slice_set s.words (b + 1) 0 in
    let views = views_set k s id v w r.apart a.there a.live a.live a.lone a.lone refl (below k s h id v r a) in
    let f : Live → Live = λ x. record x { held = slice_set x.held b None } in
    let event : board_of k record { words = words; homes = homes; views = slice_set s.views id w }
    ≡ released old v.first b =
    (λ i. record old {
      ticket = first_word s.words b 0 i;
      words = word_behind s.words b 0 i;
      homes = map-set at_home s.homes b (some (Some u)) i;
      views = views i;
    })
    ∙ (λ i. record old {
      words = slice_set old.words b 0;
      homes = slice_set old.homes b (sym holds i);
      views = slice_set old.views v.first (Some (plain w));
    })
    ∙ (λ i. record old {
      words = slice_set old.words b 0;
      homes = slice_set old.homes b (option_and_then (λ (x : Live). bucket_at x.held b) (sym shown i));
      views = slice_set old.views v.first (option_map f (sym shown i));
    }) in
    let there : IsSome (bucket_at v.held b) = is_there (bucket_at v.held b) u holds in
    let trail : in_hand w.trail ≡ filter (λ x. not (x == b)) (in_hand v.trail) = in_hand_snoc v.trail (Release b) in
    let held_below = within_some v.held b there in
    let here : bucket_at w.held b ≡ None = get_or-set_same v.held b None None held_below in
    let else_where : (x : ℕ) → x ≢ b → bucket_at w.held x ≡ bucket_at v.held x =
    λ x n. get_or-set_other v.held b x None None n in
    let rule = set_rule k s h h id v w words homes r a refl a.live a.lone (length-set s.words (b + 1) 0 ∙ r.words)
    (λ one. reached_release k s record { words = words; homes = homes; views = slice_set s.views id w } h id b v w
    r.reached one refl shown there event)
    (subst (λ (t : BoardState). IsGood t h) (sym event) (release_keeps old h v.first b (plain v) good shown there))
    record {
      table = ok.table;
      places = λ q. length-set v.held b None ∙ ok.places q;
      idle = λ e. absurd (let q = a.live in omega arith);
      made = ok.made;
      known = ok.known;
      holds = λ x. (
        (λ t. subst (λ (l : List ℕ). IsIn x l) (sym trail) (dite (ℕ_discrete x b)
            (λ e. absurd (none_there (bucket_at w.held x) (ap (λ (z : ℕ). bucket_at w.held z) e ∙ here) t))
            (λ n. filtered_true (λ x. not (x == b)) (in_hand v.trail) x
            ((ok.holds x).0 (same_there (bucket_at w.held x) (bucket_at v.held x) (else_where x n) t))
            (ap not (ne_eqb x b n))))),
        (λ i.
            let j = filtered_from (λ x. not (x == b)) (in_hand v.trail) x (subst (λ (l : List ℕ). IsIn x l) trail i) in
            dite (ℕ_discrete x b)
            (λ e. absurd (cc (sym j.1 ∙ ap not (eq-eqb x b e))))
            (λ n. same_there (bucket_at v.held x) (bucket_at w.held x) (sym (else_where x n)) ((ok.holds x).1 j.0))),
      );
      once = subst (λ (l : List ℕ). AreDistinct l) (sym trail) (distinct_filter (λ x. not (x == b)) (in_hand v.trail)
          ok.once);
      steps = steps_snoc k.grid h v.trail (Release b) ok.steps tt;
      child = ok.child;
    }
    (λ j x n e. r.seats j x e) in (
      w,
      gives,
      tt,
      (
        h,
        subst (λ (cs : List (ℕ × Option BucketContent)). IsRule k (stepped s (b + 1) 0 id cs w gives) h)
            (sym slot) rule,
      ),
      λ x is. let q : b ≡ x = omega arith in ((λ i. releases v (q i)), refl),
    )
