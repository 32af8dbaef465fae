use Rattle.std.proofs.Common.{refl, ℕ, List, subst, ap, sym, ◌∙◌, ◌<◌, length, slice_index_or, slice_set, [], ◌∷◌, ◌++◌}
use Rattle.std.proofs.Common.{◌≡◌}
use Rattle.list_laws.proofs.Cited.{within_list}
use Rattle.cell_stars.proofs.AtOnce.{gains_found}
use Rattle.cell_stars.proofs.KeyLaws.{at_key, no_key}
use Rattle.cell_stars.proofs.at_once.add_place.Goals as goal

pub bounds-stars-keys : goal.bounds-stars-keys
bounds-stars-keys c =
    subst (λ (k : ℕ × ℕ). k.1 < length c.args.stars.now) c.index-keys-at.is
    (c.requires.keyed.within c.index-keys-at.result
    (at_key c.args.keys.now c.in-Ok.at c.index-keys-at.result c.in-Ok.ensures.0 c.index-keys-at.is).0)

pub unreachable-requires : goal.unreachable-requires
unreachable-requires c =
    no_key c.args.keys.now c.args.p c.in-Err.field-0 c.in-Err.ensures (c.args.p, c.requires.key.0) c.requires.key.1 refl

-- the star of the vertex has the place more
pub returns : goal.returns
returns c =
    let keys = c.args.keys.now in
    let old = c.args.stars.now in
    let k = c.index-keys-at.result in
    let s = c.index-stars-keys.result in
    let new = c.push_place.new.star in
    let e = c.index-keys-at.is in
    let h = c.requires.keyed.within k (at_key keys c.in-Ok.at k c.in-Ok.ensures.0 e).0 in
    let there : s ≡ slice_index_or old k.1 s =
    subst (λ (m : ℕ × ℕ). s ≡ slice_index_or old m.1 s) (sym e) c.index-stars-keys.is in
    gains_found keys old (slice_set old (slice_index_or keys c.in-Ok.at k).1 new) c.args.p c.args.i c.in-Ok.at k s
    c.requires.keyed c.in-Ok.ensures e (sym (within_list old k.1 s (0, []) h there))
    (ap (λ (m : ℕ × ℕ). slice_set old m.1 new) (sym e) ∙ ap (slice_set old k.1) c.in_ok-push_place-in-Ok.ensures
    ∙ ap (λ (v : ℕ × List ℕ). slice_set old k.1 (v.0, v.1 ++ c.args.i ∷ [])) (sym c.index-stars-keys.is))
