-- What the final reordering makes of the clusters of a text, computed: what merges, and the least
-- cluster of the glyphs in it.
use Rattle.std.specs.Prelude.{◌≡◌, ℕ, List, [], ◌∷◌, ◌++◌, map, refl}
use Rattle.shapers_buffer.specs.Glyphs.{Glyph, Glyphs}
use Rattle.shapers_buffer.specs.declared.buffer.level.BufferClusterLevel.TheVariants.{Characters, MonotoneCharacters, MonotoneGraphemes}
use Rattle.shapers_buffer.specs.Glyph.{order_view}
use Rattle.shapers_buffer.specs.Places.{pick}
use Rattle.shapers_buffer.specs.Syllables.{syllables}
use Rattle.shapers_clusters.specs.Steps.{all_merged, old_places}
use Rattle.shapers_indic.proofs.RowWords.{C, H, M, Ra, of, script}
use Rattle.shapers_indic_final.proofs.FinalWords.{marks_at, rules}
use Rattle.shapers_indic_final.specs.FinalLaws.{final_clusters, final_text_steps}
use Rattle.shapers_syllabic.specs.Reordering.{glyphs_before}

-- a text of syllables, with these clusters
abbrev clustered : List ℕ → Glyphs → Glyphs
clustered [] gs = []
clustered (c ∷ cs) [] = []
clustered (c ∷ cs) (g ∷ gs) = record g { cluster = c } ∷ clustered cs gs

-- the next syllable has another serial
abbrev next : Glyphs → Glyphs
next gs = map (λ (g : Glyph). record g { syllable = 32 }) gs

-- M C H B and reph C M: the left matra goes behind the halant and merges with the base, the reph
-- merges with all that it passes
abbrev two : List ℕ → Glyphs
two cs = clustered cs (of ((M, 2) ∷ (C, 3) ∷ (H, 3) ∷ (C, 4) ∷ [])
    ++ next (marks_at 0 0x20 (of ((Ra, 1) ∷ (C, 4) ∷ (M, 9) ∷ []))))

two_starts : map glyphs_before ([] ∷ syllables (order_view (two (3 ∷ 0 ∷ 1 ∷ 2 ∷ 9 ∷ 7 ∷ 8 ∷ []))) ∷ []) ≡ 0 ∷ 7 ∷ []
two_starts = refl

two_merged : all_merged (final_text_steps (rules "Deva") (script "Deva") (two (3 ∷ 0 ∷ 1 ∷ 2 ∷ 9 ∷ 7 ∷ 8 ∷ [])))
    ≡ (2, 4) ∷ (4, 7) ∷ []
two_merged = refl

two_moved : pick {X = ℕ}
    (old_places 7 (final_text_steps (rules "Deva") (script "Deva") (two (3 ∷ 0 ∷ 1 ∷ 2 ∷ 9 ∷ 7 ∷ 8 ∷ []))))
    (3 ∷ 0 ∷ 1 ∷ 2 ∷ 9 ∷ 7 ∷ 8 ∷ []) ≡ 0 ∷ 1 ∷ 3 ∷ 2 ∷ 7 ∷ 8 ∷ 9 ∷ []
two_moved = refl

two_clusters : map (λ level. final_clusters (rules "Deva") (script "Deva") level (two (3 ∷ 0 ∷ 1 ∷ 2 ∷ 9 ∷ 7 ∷ 8 ∷ [])))
    (MonotoneGraphemes ∷ MonotoneCharacters ∷ Characters ∷ [])
    ≡ (0 ∷ 1 ∷ 2 ∷ 2 ∷ 7 ∷ 7 ∷ 7 ∷ []) ∷ (0 ∷ 1 ∷ 2 ∷ 2 ∷ 7 ∷ 7 ∷ 7 ∷ []) ∷ (0 ∷ 1 ∷ 3 ∷ 2 ∷ 7 ∷ 8 ∷ 9 ∷ []) ∷ []
two_clusters = refl

-- where clusters fall along the text, and where the least is the matra's
two_falling : map (λ cs. final_clusters (rules "Deva") (script "Deva") MonotoneGraphemes (two cs))
    ((9 ∷ 8 ∷ 7 ∷ 6 ∷ 3 ∷ 2 ∷ 1 ∷ []) ∷ (4 ∷ 8 ∷ 9 ∷ 6 ∷ 3 ∷ 1 ∷ 2 ∷ []) ∷ [])
    ≡ (8 ∷ 7 ∷ 6 ∷ 6 ∷ 1 ∷ 1 ∷ 1 ∷ []) ∷ (8 ∷ 9 ∷ 4 ∷ 4 ∷ 1 ∷ 1 ∷ 1 ∷ []) ∷ []
two_falling = refl

-- two left matras before C H B: each merges with all from its new place up to the base, so the run
-- has the least of the three
matras_least : map (λ cs. final_clusters (rules "Deva") (script "Deva") MonotoneGraphemes
    (clustered cs (of ((M, 2) ∷ (M, 2) ∷ (C, 3) ∷ (H, 3) ∷ (C, 4) ∷ []))))
    ((5 ∷ 2 ∷ 1 ∷ 4 ∷ 3 ∷ []) ∷ (2 ∷ 5 ∷ 1 ∷ 4 ∷ 3 ∷ []) ∷ (5 ∷ 3 ∷ 1 ∷ 4 ∷ 2 ∷ []) ∷ [])
    ≡ (1 ∷ 4 ∷ 2 ∷ 2 ∷ 2 ∷ []) ∷ (1 ∷ 4 ∷ 2 ∷ 2 ∷ 2 ∷ []) ∷ (1 ∷ 4 ∷ 2 ∷ 2 ∷ 2 ∷ []) ∷ []
matras_least = refl

-- a cluster that the next syllable shares goes along with it: then that one's run has a cluster
-- that none of its glyphs had
shared_with_next : final_clusters (rules "Deva") (script "Deva") MonotoneGraphemes
    (two (3 ∷ 0 ∷ 1 ∷ 5 ∷ 5 ∷ 4 ∷ 8 ∷ [])) ≡ 0 ∷ 1 ∷ 3 ∷ 3 ∷ 3 ∷ 3 ∷ 3 ∷ []
shared_with_next = refl
