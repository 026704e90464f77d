-- Set-ups only add glyph flags: what is done syllable by syllable, and the set-up by spans.
use Rattle.std.proofs.Common.{arith}
use Rattle.std.proofs.Common.{◌≡◌, ℕ, List, [], ◌∷◌, flat_map, refl}
use Rattle.shapers_buffer.specs.Glyphs.{Glyph, Glyphs}
use Rattle.shapers_buffer.specs.declared.buffer.syllables.Span.{Span}
use Rattle.shapers_buffer.specs.Buffer.{Buffer}
use Rattle.shapers_buffer.specs.GlyphFlags.{flagged, with_bits, with_bits_off}
use Rattle.shapers_buffer.specs.Syllables.{span_bytes, syllables, with_bytes}
use Rattle.shapers_clusters.specs.FlagLaw.{FlagsAdded, OnlyFlagsAdded}
use Rattle.shapers_clusters.proofs.Falls.{all_append}
use Rattle.shapers_clusters.proofs.FlagCalls.{keeps-with_bits}
use Rattle.shapers_clusters.proofs.FlagLaw.{added_same, all_added_on, changed_added}
use Rattle.shapers_syllabic.specs.Borders.{spans_setup}
use Rattle.shapers_syllabic.proofs.CircleLaws.{joined-syllables}

pub same_added : (gs : Glyphs) → OnlyFlagsAdded gs gs
same_added [] = tt
same_added (g ∷ gs) = (added_same g g refl refl, same_added gs)

-- pieces that each only get flags, and so the syllables of a text
pub flat_added : (f : Glyphs → Glyphs) → ((xs : Glyphs) → OnlyFlagsAdded xs (f xs)) → (ps : List Glyphs)
    → OnlyFlagsAdded (flat_map (λ p. p) ps) (flat_map f ps)
flat_added f each [] = tt
flat_added f each (p ∷ ps) = search (all_append, flat_added f each ps)

pub by_syllables : (f : Glyphs → Glyphs) → ((xs : Glyphs) → OnlyFlagsAdded xs (f xs)) → (gs : Glyphs)
    → OnlyFlagsAdded gs (flat_map f (syllables gs))
by_syllables f each gs = search (arith, joined-syllables gs, flat_added f each (syllables gs))

-- glyphs that get bits
pub bits_added : (bits : ℕ) (g : Glyph) → FlagsAdded g (with_bits bits g)
bits_added = search keeps-with_bits

off_added : (m : ℕ) (g : Glyph) → FlagsAdded g (with_bits_off 3 m g)
off_added m g = search (arith, bits_added 3 g)

flagged_added : (gs : Glyphs) → OnlyFlagsAdded gs (flagged 3 gs)
flagged_added = search (changed_added, off_added)

bytes_added : (gs : Glyphs) (bytes : List ℕ) → OnlyFlagsAdded gs (with_bytes gs bytes)
bytes_added [] bytes = tt
bytes_added (g ∷ gs) [] = same_added (g ∷ gs)
bytes_added (g ∷ gs) (byte ∷ bytes) = search (arith, bytes_added gs bytes)

-- a set-up by spans
pub setup_added : (spans : List Span) (kind : ℕ) (old new : Buffer) → new ≡ spans_setup spans kind old
    → OnlyFlagsAdded old.glyphs new.glyphs
setup_added spans kind old =
    let mid = with_bytes old.glyphs (span_bytes 0 spans) in
    search (
      arith,
      all_added_on old.glyphs mid (flat_map (flagged 3) (syllables mid)) (bytes_added old.glyphs (span_bytes 0 spans))
          (by_syllables (flagged 3) flagged_added mid),
    )
