-- What lookups of GPOS keep of a text.
use Rattle.std.specs.Prelude.{ℕ, ◌≡◌, ◌<◌, ◌%◌, ◌==◌, ◌||◌, is_some, true, Bool, List, length, map}
use Rattle.shapers_buffer.specs.Buffer.{Buffer}
use Rattle.shapers_buffer.specs.Glyph.{without_flags}
use Rattle.shapers_buffer.specs.Glyphs.{Glyph}
use Rattle.opentype_layout.specs.declared.sight.Application.{Application}
use Rattle.opentype_gpos.specs.Fallback.{MarkFont, marks_placed}
use Rattle.opentype_gpos.specs.Finished.{finished, target_in}
use Rattle.opentype_gpos.specs.Kerned.{kerned}
use Rattle.opentype_gpos.specs.Moved.{Positions, position_at}
use Rattle.opentype_gpos.specs.Along.{positioned}

-- a glyph without its glyph flags
abbrev pub without_its_flags : Glyph → Glyph
without_its_flags g = record g { mask = without_flags g.mask }

-- everything but positions and glyph flags, and there are as many of both
pub record PlacesAlone (old new : Buffer) : Type 0 where
  pub others : new ≡ record old { glyphs = new.glyphs; positions = new.positions }
  pub glyphs : map without_its_flags new.glyphs ≡ map without_its_flags old.glyphs
  pub positions : length new.positions ≡ length old.positions

-- for any bytes
abbrev pub PositionLaw : Type 0
PositionLaw = (gdef gpos : List ℕ) (index : ℕ) (how : Application) (b : Buffer) →
    PlacesAlone b (positioned gdef gpos index how b)

-- and so does the table `kern`
abbrev pub KernLaw : Type 0
KernLaw = (table : List ℕ) (mask : ℕ) (b : Buffer) → PlacesAlone b (kerned table mask b)

-- and the placing of marks without GPOS
abbrev pub MarkLaw : Type 0
MarkLaw = (f : MarkFont) (b : Buffer) → PlacesAlone b (marks_placed f b)

-- and behind the last lookup
abbrev pub FinishLaw : Type 0
FinishLaw = (b : Buffer) → PlacesAlone b (finished b)

-- the attachment that a glyph's position keeps: none, or one to a place of the text
abbrev pub is_inside : ℕ → ℕ → ℕ → Bool
is_inside len at var = (var % 65536 == 0) || is_some (target_in var at len)

abbrev pub AreInside : Positions → Type 0
AreInside ps = (at : ℕ) → at < length ps → is_inside (length ps) at (position_at ps at).var ≡ true

-- every attachment that lookups make points inside the text
abbrev pub InsideLaw : Type 0
InsideLaw = (gdef gpos : List ℕ) (index : ℕ) (how : Application) (b : Buffer) →
    length b.positions ≡ length b.glyphs → AreInside b.positions →
    AreInside (positioned gdef gpos index how b).positions
