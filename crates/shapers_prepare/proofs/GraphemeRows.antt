-- Clusters formed on small texts.
use Rattle.std.specs.Prelude.{◌≡◌, ℕ, Bool, true, false, [], ◌∷◌, List, map, refl}
use Rattle.shapers_buffer.specs.Glyphs.{Glyph, Glyphs}
use Rattle.shapers_buffer.specs.declared.buffer.level.BufferClusterLevel.TheVariants.{MonotoneGraphemes, MonotoneCharacters, Characters}
use Rattle.shapers_buffer.specs.Glyph.{clusters, default_glyph}
use Rattle.shapers_buffer.specs.Properties.{CONTINUATION, set_property}
use Rattle.shapers_prepare.specs.Graphemes.{clusters_formed, grapheme_stretches}

-- the graphemes: two, one alone, one that begins with what goes on; none
stretches : map grapheme_stretches ((false ∷ true ∷ true ∷ false ∷ []) ∷ (false ∷ [])
    ∷ (true ∷ true ∷ false ∷ false ∷ true ∷ []) ∷ [] ∷ []) ≡ ((0, 3) ∷ (3, 4) ∷ []) ∷ ((0, 1) ∷ [])
    ∷ ((0, 2) ∷ (2, 3) ∷ (3, 5) ∷ []) ∷ [] ∷ []
stretches = refl

-- a text: of each glyph its cluster, and whether it goes on
abbrev text : List (ℕ × Bool) → Glyphs
text ps = map
    (λ p. let g : Glyph = record default_glyph
    { cluster = p.0; mask = 8; unicode_props = set_property CONTINUATION p.1 default_glyph.unicode_props } in g) ps

abbrev seen : Glyphs → List (ℕ × ℕ)
seen gs = map (λ g. (g.cluster, g.mask)) gs

abbrev three : Glyphs
three = text ((0, false) ∷ (1, true) ∷ (2, true) ∷ (3, false) ∷ (4, false) ∷ (5, true) ∷ [])

-- each grapheme in one cluster
merged_graphemes : seen (clusters_formed MonotoneGraphemes three) ≡ (0, 8) ∷ (0, 8) ∷ (0, 8) ∷ (3, 8) ∷ (4, 8) ∷ (4, 8)
    ∷ []
merged_graphemes = refl

-- at the other levels flagged inside, and at none of them merged
flagged_characters : seen (clusters_formed MonotoneCharacters three) ≡ (0, 8) ∷ (1, 11) ∷ (2, 11) ∷ (3, 8) ∷ (4, 8)
    ∷ (5, 11) ∷ []
flagged_characters = refl

flagged_apart : seen (clusters_formed Characters three) ≡ (0, 8) ∷ (1, 11) ∷ (2, 11) ∷ (3, 8) ∷ (4, 8) ∷ (5, 11) ∷ []
flagged_apart = refl

-- clusters that fall; a grapheme whose cluster reaches into the next takes that along
falling : clusters
    (clusters_formed MonotoneGraphemes (text ((5, false) ∷ (4, true) ∷ (4, false) ∷ (3, true) ∷ (2, false) ∷ [])))
    ≡ 3 ∷ 3 ∷ 3 ∷ 3 ∷ 2 ∷ []
falling = refl

none : clusters_formed MonotoneGraphemes [] ≡ []
none = refl
