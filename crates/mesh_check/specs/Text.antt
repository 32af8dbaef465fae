-- The text of a verdict, which names points by their indices.
use Rattle.std.specs.Prelude.{ℕ, Bool, true, false, List, [], ◌∷◌, ◌++◌, map, codes, decimal}
use Rattle.std.specs.List.{concat}
use Rattle.point_order.specs.Facets.{points_of, points_on}
use Rattle.text_sheets.specs.Indices.{index_of}
use Rattle.mesh_check.specs.declared.flaw.Flaw.{Flaw}
use Rattle.mesh_check.specs.declared.flaw.Flaw.TheVariants.{Empty, FlatCell, Sides, Inside, OpenFacet}
use Rattle.mesh_check.specs.declared.flaw.Verdict.{Verdict}
use Rattle.mesh_check.specs.declared.flaw.Verdict.TheVariants.{Good, Bad}

-- points of an ascending list as indices, each with a space before it
abbrev pub places_text : List ℕ → List ℕ → List ℕ
places_text s points = concat (map (λ p. codes " " ++ decimal (index_of s p)) points)

-- a flaw, and the points that it names
abbrev pub flaw_words : List ℕ → Flaw → List ℕ
flaw_words s Empty = codes "bad empty"
flaw_words s (FlatCell c) = codes "bad flat" ++ places_text s (points_of c)
flaw_words s (Sides t e f) = codes "bad sides" ++ places_text s t ++ places_text s (e ∷ f ∷ [])
flaw_words s (Inside c p) = codes "bad inside" ++ places_text s (points_of c) ++ places_text s (p ∷ [])
flaw_words s (OpenFacet f) = codes "bad facet" ++ places_text s (points_on f)

abbrev pub verdict_words : List ℕ → Verdict → List ℕ
verdict_words s Good = codes "good"
verdict_words s (Bad flaw) = flaw_words s flaw

-- the verdict names no flaw
abbrev pub is_good : Verdict → Bool
is_good Good = true
is_good (Bad flaw) = false

-- a title, and the verdict as a line
abbrev pub verdict_text : List ℕ → Verdict → List ℕ
verdict_text s verdict = codes "mesh3-check 1\n" ++ verdict_words s verdict ++ codes "\n"
