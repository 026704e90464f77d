-- Which lookups can begin nowhere in a text, and what is known of them.
use Rattle.std.specs.Prelude.{ℕ, ◌<◌, ◌≡◌, false, true, List, IfSome}
use Rattle.shapers_buffer.specs.Glyphs.{Glyphs}
use Rattle.opentype_layout.specs.LookupRows.{AreAbsent, lookup_bit}
use Rattle.opentype_layout.specs.declared.lookup_rows.LookupBits.{LookupBits}
use Rattle.opentype_font.specs.declared.stages.Seen.{Seen}

-- a lookup is one of the first 128, and its bit isn't set
abbrev pub IsAbsent : LookupBits → ℕ → Type 0
IsAbsent bits index = (index < 128) × (lookup_bit bits index ≡ 0)

-- what is known of the lookups of GSUB that may begin in a text, if it is of the text as it is now:
-- the others begin at none of its glyphs
pub record AreSeen (gsub : List ℕ) (seen : Seen) (gs : Glyphs) : Type 0 where
  pub absent : seen.is_fresh ≡ true → IfSome seen.present (λ bits. AreAbsent false gsub bits gs)
