-- What rows of the grammars ask, and rows for the glyphs that are passed over.
use Rattle.std.proofs.Common.{◌≡◌, ℕ, true, false, List, [], ◌∷◌, refl}
use Rattle.shapers_buffer.specs.declared.buffer.category.hb_unicode_general_category_t.TheVariants.{Lo, Mn}
use Rattle.shapers_buffer.specs.Glyphs.{Glyph}
use Rattle.shapers_buffer.specs.Glyph.{default_glyph}
use Rattle.shapers_buffer.specs.Properties.{general_category, properties}
use Rattle.shapers_spans.specs.Cuts.{joiner_waits}
use Rattle.shapers_spans.specs.Grammar.{Grammar, lead_spans, reach_of, read_of}
use Rattle.shapers_spans.specs.Passing.{none_passed, begins_passed}
use Rattle.shapers_spans.proofs.Tables.{first_kind, after}

-- the kind of the first rule that takes w, 255 if none does
unfoldable pub kind_by : Grammar → List ℕ → ℕ
kind_by g w = first_kind g.kinds (after w g.rules)

letter : ℕ → Glyph
letter c = record default_glyph { category = c; unicode_props = properties Lo 0 }

mark : ℕ → Glyph
mark c = record default_glyph { category = c; unicode_props = properties Mn 0 }

-- CGJ is passed over, whatever is around it; ZWNJ before a mark, CGJs between them apart
read : read_of begins_passed (letter 6 ∷ letter 1 ∷ letter 6 ∷ letter 14 ∷ letter 6 ∷ mark 33 ∷ letter 14 ∷ letter 1
    ∷ mark 6 ∷ letter 14 ∷ letter 6 ∷ []) ≡ 1 ∷ 33 ∷ 14 ∷ 1 ∷ 14 ∷ []
unfolding letter mark general_category
read = refl

-- a ZWNJ before a ZWNJ is read, and so is ZWJ, or a ZWNJ before no mark
zwnjs : read_of begins_passed (letter 14 ∷ letter 14 ∷ mark 33 ∷ letter 14 ∷ letter 33 ∷ []) ≡ 14 ∷ 33 ∷ 14 ∷ 33 ∷ []
unfolding letter mark general_category
zwnjs = refl

-- the other grammars read all
all_read : read_of none_passed (letter 6 ∷ letter 14 ∷ mark 33 ∷ []) ≡ 6 ∷ 14 ∷ 33 ∷ []
unfolding letter mark
all_read = refl

-- so many glyphs up to the nth that is read, and those that are passed over behind it
reaches : List ℕ
unfolding letter mark
reaches =
    let text = letter 6 ∷ letter 6 ∷ letter 1 ∷ letter 6 ∷ letter 14 ∷ mark 33 ∷ letter 6 ∷ [] in
    reach_of begins_passed text 0 ∷ reach_of begins_passed text 1 ∷ reach_of begins_passed text 2
    ∷ reach_of begins_passed text 3 ∷ []

reaches_are : reaches ≡ 2 ∷ 5 ∷ 7 ∷ 7 ∷ []
unfolding reaches letter mark general_category
reaches_are = refl

nothing_led : lead_spans 0 8 ≡ []
nothing_led = refl

led : lead_spans 3 8 ≡ (record { len = 3; kind = 8 }) ∷ []
led = refl

-- where a ZWNJ at the end waits for a mark
waits : joiner_waits (letter 1 ∷ letter 14 ∷ letter 6 ∷ []) (letter 6 ∷ mark 33 ∷ []) ≡ true
unfolding letter mark general_category
waits = refl

no_mark : joiner_waits (letter 1 ∷ letter 14 ∷ []) (letter 1 ∷ mark 33 ∷ []) ≡ false
unfolding letter mark general_category
no_mark = refl

no_joiner : joiner_waits (letter 14 ∷ letter 1 ∷ letter 6 ∷ []) (mark 33 ∷ []) ≡ false
unfolding letter mark
no_joiner = refl
