-- A word of which nothing comes apart: its glyphs get their numbers, and nothing else.
use Rattle.std.specs.Prelude.{ℕ, ◌≡◌, ◌==◌, false, true, List, [], ◌∷◌, Some, map}
use Rattle.std.specs.List.{list_any}
use Rattle.shapers_buffer.specs.Buffer.{Buffer}
use Rattle.shapers_buffer.specs.Glyphs.{Glyphs}
use Rattle.shapers_normal.specs.Context.{Context}
use Rattle.shapers_normal.specs.Decomposition.{is_whole}
use Rattle.shapers_normal.specs.Properties.{grapheme_joiner, numbered_as}
use Rattle.shapers_normal.specs.Sorting.{is_mark_glyph}
use Rattle.shapers_normal.specs.Variants.{with_number}

-- These are the font's numbers of the glyphs' characters, one for each, and no glyph is a mark or a
-- grapheme joiner.
abbrev pub AreNumbers : Context → List ℕ → Glyphs → Type 0
AreNumbers context [] [] = Unit {0}
AreNumbers context [] (g ∷ gs) = ⊥
AreNumbers context (n ∷ ns) [] = ⊥
AreNumbers context (n ∷ ns) (g ∷ gs) = (context.nominal g.glyph_id ≡ Some (record { 0 = n }))
    × ((is_mark_glyph g ≡ false) × ((g.glyph_id == grapheme_joiner) ≡ false))
    × AreNumbers context ns gs

-- the glyphs with these numbers, as far as there are numbers
abbrev pub are_numbered : List ℕ → Glyphs → Glyphs
are_numbered [] gs = gs
are_numbered (n ∷ ns) [] = []
are_numbered (n ∷ ns) (g ∷ gs) = numbered_as n g ∷ are_numbered ns gs

-- A word before and after: nothing comes apart in it, and each glyph has its number.
pub record IsNumbered (context : Context) (old new : Buffer) : Type 0 where
  pub whole : is_whole context old.glyphs ≡ true
  pub no_joiner : list_any (λ g. g.glyph_id == grapheme_joiner) old.glyphs ≡ false
  pub numbered : new ≡ record old { glyphs = map (with_number context) old.glyphs }
