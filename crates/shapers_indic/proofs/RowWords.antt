-- Syllables for rows of both reorderings, and what is read of them.
use Prim.Native.String.{String}
use Rattle.std.specs.Prelude.{ℕ, ◌+◌, List, [], ◌∷◌, map, Option, Some, codes}
use Rattle.shapers_buffer.specs.Glyphs.{Glyph, Glyphs}
use Rattle.shapers_buffer.specs.declared.buffer.tag.Script.{Script}
use Rattle.shapers_buffer.specs.Glyph.{default_glyph}

-- categories by their numbers
abbrev pub C : ℕ
C = 1

abbrev pub V : ℕ
V = 2

abbrev pub N : ℕ
N = 3

abbrev pub H : ℕ
H = 4

abbrev pub ZWNJ : ℕ
ZWNJ = 5

abbrev pub ZWJ : ℕ
ZWJ = 6

abbrev pub M : ℕ
M = 7

abbrev pub SM : ℕ
SM = 8

abbrev pub MPst : ℕ
MPst = 13

abbrev pub Repha : ℕ
Repha = 14

abbrev pub Ra : ℕ
Ra = 15

abbrev pub CM : ℕ
CM = 16

-- glyphs of a kind of syllable, each of a category and a position, numbered from 0 in number and cluster
abbrev pub glyphs_from : ℕ → ℕ → List (ℕ × ℕ) → Glyphs
glyphs_from kind i [] = []
glyphs_from kind i (t ∷ ts) =
    record default_glyph { glyph_id = i; cluster = i; syllable = 16 + kind; category = t.0; auxiliary = t.1 }
    ∷ glyphs_from kind (i + 1) ts

abbrev pub of : List (ℕ × ℕ) → Glyphs
of ts = glyphs_from 0 0 ts

-- each of position BASE_C
abbrev pub plainly : List ℕ → Glyphs
plainly cs = of (map (λ c. (c, 4)) cs)

-- the glyph with these marks of lookups, by their bits: 0x20 makes it a ligature
abbrev pub with_row_marks : ℕ → Glyph → Glyph
with_row_marks bits g = record g { glyph_props = record { 0 = bits } }

abbrev pub script : String → Option Script
script tag = Some (record { 0 = codes tag })

-- what is read: positions, masks, numbers, clusters
abbrev pub row_positions : Glyphs → List ℕ
row_positions gs = map (λ g. g.auxiliary) gs

abbrev pub row_masks : Glyphs → List ℕ
row_masks gs = map (λ g. g.mask) gs

abbrev pub numbers_of : Glyphs → List ℕ
numbers_of gs = map (λ g. g.glyph_id) gs
