-- Words of which nothing comes apart.
use Rattle.std.proofs.Common.{add-one, ◌≡◌, ◌==◌, ◌+◌, ◌<◌, ◌≤◌, ◌&&◌, ◌||◌, ℕ, zero, suc, true, false, not, List, [], ◌∷◌, ◌++◌, Some, length, map, take, get_or, slice_set, refl, sym, ap, ◌∙◌, arith}
use Rattle.std.specs.List.{list_all, list_any}
use Rattle.std.specs.Option.{option_map_or}
use Rattle.std.specs.Prelude.{is_some}
use Rattle.shapers_buffer.specs.Glyphs.{Glyph, Glyphs}
use Rattle.shapers_base.specs.declared.font.GlyphId.{GlyphId}
use Rattle.shapers_normal.specs.Context.{Context, has_glyph}
use Rattle.shapers_normal.specs.Decomposition.{stays_alone}
use Rattle.shapers_normal.specs.NumberedWords.{AreNumbers, are_numbered}
use Rattle.shapers_normal.specs.Properties.{grapheme_joiner, numbered_as}
use Rattle.shapers_normal.specs.Sorting.{is_mark_glyph}
use Rattle.shapers_normal.specs.Variants.{with_number}

-- one glyph more
pub one_number_more : (context : Context) (ns : List ℕ) (gs : Glyphs) (n : ℕ) (g : Glyph)
    → AreNumbers context ns gs → context.nominal g.glyph_id ≡ Some (record { 0 = n })
    → is_mark_glyph g ≡ false → (g.glyph_id == grapheme_joiner) ≡ false
    → AreNumbers context (ns ++ n ∷ []) (gs ++ g ∷ [])
one_number_more context [] [] n g are is mark joiner = (is, (mark, joiner), tt)
one_number_more context [] (h ∷ gs) n g are is mark joiner = absurd are
one_number_more context (m ∷ ns) [] n g are is mark joiner = absurd are
one_number_more context (m ∷ ns) (h ∷ gs) n g are is mark joiner =
    (are.0, are.1, one_number_more context ns gs n g are.2 is mark joiner)

-- as many numbers as glyphs
pub numbers_as_many : (context : Context) (ns : List ℕ) (gs : Glyphs) → AreNumbers context ns gs
    → length ns ≡ length gs
numbers_as_many context [] [] are = refl
numbers_as_many context [] (g ∷ gs) are = absurd are
numbers_as_many context (n ∷ ns) [] are = absurd are
numbers_as_many context (n ∷ ns) (g ∷ gs) are = ap suc (numbers_as_many context ns gs are.2)

-- the text is whole
pub numbered_stay : (context : Context) (ns : List ℕ) (gs : Glyphs) → AreNumbers context ns gs
    → list_all (stays_alone context) gs ≡ true
numbered_stay context [] [] are = refl
numbered_stay context [] (g ∷ gs) are = absurd are
numbered_stay context (n ∷ ns) [] are = absurd are
numbered_stay context (n ∷ ns) (g ∷ gs) are =
    ap (λ b. (not b && has_glyph context g.glyph_id) && list_all (stays_alone context) gs) are.1.0
    ∙ ap (λ o. is_some o && list_all (stays_alone context) gs) are.0
    ∙ numbered_stay context ns gs are.2

pub numbered_joiners : (context : Context) (ns : List ℕ) (gs : Glyphs) → AreNumbers context ns gs
    → list_any (λ g. g.glyph_id == grapheme_joiner) gs ≡ false
numbered_joiners context [] [] are = refl
numbered_joiners context [] (g ∷ gs) are = absurd are
numbered_joiners context (n ∷ ns) [] are = absurd are
numbered_joiners context (n ∷ ns) (g ∷ gs) are =
    ap (λ b. b || list_any (λ g. g.glyph_id == grapheme_joiner) gs) are.1.1
    ∙ numbered_joiners context ns gs are.2

-- each glyph gets its number
pub numbers_written : (context : Context) (ns : List ℕ) (gs : Glyphs) → AreNumbers context ns gs
    → are_numbered ns gs ≡ map (with_number context) gs
numbers_written context [] [] are = refl
numbers_written context [] (g ∷ gs) are = absurd are
numbers_written context (n ∷ ns) [] are = absurd are
numbers_written context (n ∷ ns) (g ∷ gs) are =
    ap (λ o. option_map_or (λ (glyph : GlyphId). numbered_as glyph.0 g) o g ∷ are_numbered ns gs) (sym are.0)
    ∙ ap (λ xs. with_number context g ∷ xs) (numbers_written context ns gs are.2)

-- one number more is written
number_put : (ns : List ℕ) (gs : Glyphs) (i : ℕ) (d : ℕ) (h : Glyph) → i < length ns → length ns ≤ length gs
    → slice_set (are_numbered (take i ns) gs) i
    (numbered_as (get_or ns i d) (get_or (are_numbered (take i ns) gs) i h)) ≡ are_numbered (take (suc i) ns) gs
number_put [] gs i d h inside fits = absurd (omega (arith, inside))
number_put (n ∷ ns) [] i d h inside fits = absurd (omega (arith, fits))
number_put (n ∷ ns) (g ∷ gs) zero d h inside fits = refl
number_put (n ∷ ns) (g ∷ gs) (suc i) d h inside fits =
    ap (λ xs. numbered_as n g ∷ xs) (number_put ns gs i d h (omega (arith, inside)) (omega (arith, fits)))

pub number_set : (ns : List ℕ) (gs : Glyphs) (i : ℕ) (d : ℕ) (h : Glyph) → i < length ns → length ns ≤ length gs
    → slice_set (are_numbered (take i ns) gs) i
    (numbered_as (get_or ns i d) (get_or (are_numbered (take i ns) gs) i h)) ≡ are_numbered (take (i + 1) ns) gs
number_set ns gs i d h inside fits =
    number_put ns gs i d h inside fits ∙ ap (λ k. are_numbered (take k ns) gs) (sym (add-one i))
