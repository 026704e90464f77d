-- The numbers of a word's glyphs on small texts.
use Rattle.std.proofs.Common.{ℕ, ◌≡◌, ◌==◌, false, List, [], ◌∷◌, map, refl, sym, ap}
use Rattle.std.specs.Option.{option_map_or}
use Rattle.std.proofs.lemmas.Bool.{false≢true}
use Rattle.shapers_base.specs.declared.font.GlyphId.{GlyphId}
use Rattle.shapers_base.specs.declared.plan.record.NormalizationMode.TheVariants.{AUTO}
use Rattle.shapers_buffer.specs.Glyphs.{Glyphs}
use Rattle.shapers_buffer.specs.Properties.{general_category}
use Rattle.shapers_normal.specs.Context.{Context}
use Rattle.shapers_normal.specs.NumberedWords.{AreNumbers, are_numbered}
use Rattle.shapers_normal.proofs.RowContext.{with_font, text}

abbrev font : Context
font = with_font AUTO (0x65 ∷ 0xE9 ∷ 0x301 ∷ 0x34F ∷ [])

abbrev word : List ℕ → Glyphs
word cs = text font cs

-- the font has both letters, whose numbers are their own here; of no letters there are none
both : AreNumbers font (0xE9 ∷ 0x65 ∷ []) (word (0xE9 ∷ 0x65 ∷ []))
unfolding general_category
both = (refl, (refl, refl), (refl, (refl, refl), tt))

none : AreNumbers font [] (word [])
none = tt

-- not so where the number is another one's, where one is missing or too many, and where the font lacks the letter
other_number : AreNumbers font (0x65 ∷ []) (word (0xE9 ∷ [])) → ⊥
other_number are =
    absurd (false≢true (sym (ap (λ o. option_map_or (λ (glyph : GlyphId). glyph.0 == 0xE9) o false) are.0)))

one_missing : AreNumbers font (0xE9 ∷ []) (word (0xE9 ∷ 0x65 ∷ [])) → ⊥
one_missing are = are.2

one_too_many : AreNumbers font (0xE9 ∷ 0x65 ∷ []) (word (0xE9 ∷ [])) → ⊥
one_too_many are = are.2

-- numbers are written as far as there are some
written : map (λ g. g.glyph_props.0) (are_numbered (7 ∷ 9 ∷ []) (word (0xE9 ∷ 0x65 ∷ 0xE9 ∷ []))) ≡ 7 ∷ 9 ∷ 0 ∷ []
written = refl

none_written : are_numbered [] (word (0xE9 ∷ [])) ≡ word (0xE9 ∷ [])
none_written = refl

-- not so of a mark or a grapheme joiner, which the font has
a_mark : AreNumbers font (0x301 ∷ []) (word (0x301 ∷ [])) → ⊥
unfolding general_category
a_mark are = absurd (false≢true (sym are.1.0))

a_joiner : AreNumbers font (0x34F ∷ []) (word (0x34F ∷ [])) → ⊥
a_joiner are = absurd (false≢true (sym are.1.1))
