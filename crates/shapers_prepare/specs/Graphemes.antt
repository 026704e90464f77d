-- Graphemes: a glyph and those behind it that carry it on.
use Rattle.std.specs.Prelude.{ℕ, ◌+◌, Bool, List, [], ◌∷◌, map, if◌then◌else◌}
use Rattle.shapers_buffer.specs.Glyphs.{Glyphs}
use Rattle.shapers_buffer.specs.declared.buffer.level.BufferClusterLevel.{BufferClusterLevel}
use Rattle.shapers_buffer.specs.declared.buffer.level.BufferClusterLevel.TheVariants.{MonotoneGraphemes}
use Rattle.shapers_buffer.specs.Clusters.{merge_all}
use Rattle.shapers_buffer.specs.GlyphFlags.{unsafe_all}
use Rattle.shapers_buffer.specs.Properties.{is_continuation}

-- of each glyph, whether it carries on the grapheme before it
abbrev pub continuations : Glyphs → List Bool
continuations gs = map (λ g. is_continuation g.unicode_props) gs

-- the graphemes as stretches, each from its first place to the place behind its last one; the first
-- of them begins at s, and these say from place i on which glyphs carry on the one before them
abbrev pub graphemes_from : ℕ → ℕ → List Bool → List (ℕ × ℕ)
graphemes_from s i [] = (s, i) ∷ []
graphemes_from s i (c ∷ cs) =
    if c then graphemes_from s (i + 1) cs else (s, i) ∷ graphemes_from i (i + 1) cs

-- the graphemes of a text, whatever its first glyph
abbrev pub grapheme_stretches : List Bool → List (ℕ × ℕ)
grapheme_stretches [] = []
grapheme_stretches (c ∷ cs) = graphemes_from 0 1 cs

abbrev pub graphemes : Glyphs → List (ℕ × ℕ)
graphemes gs = grapheme_stretches (continuations gs)

-- a text with its clusters formed: each grapheme in one cluster at the level of graphemes, else not
-- to be broken inside
abbrev pub clusters_formed : BufferClusterLevel → Glyphs → Glyphs
clusters_formed MonotoneGraphemes gs = merge_all MonotoneGraphemes (graphemes gs) gs
clusters_formed _ gs = unsafe_all (graphemes gs) gs
