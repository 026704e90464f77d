-- The font of the lines.
use Rattle.std.specs.Prelude.{ℕ, ◌==◌, ◌&&◌, Bool, List}
use Rattle.std.specs.List.{list_any}
use Rattle.hbhook_commands.specs.declared.font.Applied.{Applied}
use Rattle.shapers_base.specs.declared.font.GlyphId.{GlyphId}
use lib.Pointwise.{pointwise}

-- whether two lists hold the same glyphs in the same order
abbrev pub same_glyphs : List GlyphId → List GlyphId → Bool
same_glyphs = pointwise (λ a b. a.0 == b.0)

-- whether some line says that the lookup would apply to these glyphs
abbrev pub some_applies : List Applied → ℕ → List GlyphId → Bool
some_applies lines lookup glyphs =
    list_any (λ line. (line.lookup == lookup) && same_glyphs line.glyphs.items glyphs) lines
