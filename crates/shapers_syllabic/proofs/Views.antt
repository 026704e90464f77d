-- Views of glyphs that show other clusters, masks and syllables' bytes, and all else as it is.
use Rattle.std.specs.Prelude.{ℕ, ◌≡◌, map}
use Rattle.shapers_buffer.specs.Glyphs.{Glyph, Glyphs}
use Rattle.shapers_buffer.specs.Glyph.{without_flags}
use Rattle.shapers_buffer.specs.Syllables.{kind_of}

pub record View : Type 0 where
  pub in_clusters : ℕ → ℕ
  pub in_masks : ℕ → ℕ
  pub in_syllables : ℕ → ℕ

abbrev pub shown : View → Glyph → Glyph
shown v g = record g {
  cluster = v.in_clusters g.cluster;
  mask = v.in_masks g.mask;
  syllable = v.in_syllables g.syllable;
}

-- a list in that view
abbrev pub seen_by : View → Glyphs → Glyphs
seen_by v gs = map (shown v) gs

-- the kinds of syllables show
abbrev pub KeepsKinds : View → Type 0
KeepsKinds v = (byte : ℕ) → kind_of (v.in_syllables byte) ≡ kind_of byte

-- the order view, glyphs without serials, and glyphs of other masks
abbrev pub plain_view : View
plain_view = record { in_clusters = λ c. 0; in_masks = without_flags; in_syllables = λ b. b }

abbrev pub unnumbered_view : View
unnumbered_view = record { in_clusters = λ c. c; in_masks = λ m. m; in_syllables = kind_of }

abbrev pub masks_view : (ℕ → ℕ) → View
masks_view f = record { in_clusters = λ c. c; in_masks = f; in_syllables = λ b. b }
