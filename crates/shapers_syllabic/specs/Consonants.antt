-- The consonants of Indic and Myanmar.
use Rattle.std.specs.Prelude.{ℕ, ◌==◌, Bool, ◌&&◌, not, List, [], ◌∷◌}
use Rattle.std.specs.List.{list_any}
use Rattle.shapers_buffer.specs.Glyphs.{Glyph}
use Rattle.shapers_base.specs.declared.plan.ot_category_t.TheConstants.{OT_C, OT_CS, OT_Ra, OT_CM, OT_V, OT_PLACEHOLDER, OT_DOTTEDCIRCLE}
use Rattle.shapers_buffer.specs.Properties.{is_ligated}

-- the categories that may carry a syllable: consonants, vowels, what stands for one (OpenType)
abbrev pub consonants : List ℕ
consonants = OT_C ∷ OT_CS ∷ OT_Ra ∷ OT_CM ∷ OT_V ∷ OT_PLACEHOLDER ∷ OT_DOTTEDCIRCLE ∷ []

-- whether a glyph is a consonant: of one of these categories, and no lookup put it in for several
abbrev pub is_consonant : Glyph → Bool
is_consonant g = not (is_ligated g.glyph_props) && list_any (λ c. c == g.category) consonants
