-- That syllables are longest sequences.
use Rattle.std.specs.Prelude.{◌≡◌, ◌==◌, suc, Bool, true, false, List, [], ◌∷◌, refl}
use Rattle.std.specs.List.{prefix_len}
use Rattle.std.proofs.Common.{arith, one-add}
use Rattle.std.proofs.lemmas.Bool.Decides.{nat_tests}
use Rattle.shapers_buffer.specs.Glyphs.{Glyph, Glyphs}
use Rattle.shapers_buffer.specs.SyllableLaws.{BeginsWithSyllable, SyllablesAreLongest}
use Rattle.shapers_buffer.specs.Syllables.{with_in_front, first_syllable_len, has_byte}

pub with_opening_same : (g h : Glyph) (piece : Glyphs) (pieces : List Glyphs)
    → (h.syllable == g.syllable) ≡ true → with_in_front g ((h ∷ piece) ∷ pieces) ≡ (g ∷ (h ∷ piece)) ∷ pieces
with_opening_same g h piece pieces test = rw test refl

pub with_opening_other : (g h : Glyph) (piece : Glyphs) (pieces : List Glyphs)
    → (h.syllable == g.syllable) ≡ false → with_in_front g ((h ∷ piece) ∷ pieces) ≡ (g ∷ []) ∷ ((h ∷ piece) ∷ pieces)
with_opening_other g h piece pieces test = rw test refl

-- one glyph more in front of a text: of its first syllable's byte or of another
opens_more : (g h : Glyph) (hs : Glyphs) (same : Bool) → (h.syllable == g.syllable) ≡ same
    → BeginsWithSyllable (h ∷ hs) → BeginsWithSyllable (g ∷ (h ∷ hs))
opens_more g h hs true test opens =
    let run = prefix_len (has_byte g.syllable) hs in
    let byte : g.syllable ≡ h.syllable = grind (arith, nat_tests) in
    let whole : first_syllable_len (g ∷ (h ∷ hs)) ≡ suc (suc run) = rw (test, one-add) refl in
    search (arith, with_opening_same)
opens_more g h hs false test opens = search arith

pub syllables_are_longest : SyllablesAreLongest
syllables_are_longest g [] = refl
syllables_are_longest g (h ∷ hs) = search (arith, opens_more, syllables_are_longest h hs)
