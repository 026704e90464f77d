-- A text without a character that opens a pair of vowels gets no circle.
use Rattle.std.proofs.Common.{◌≡◌, ◌==◌, ℕ, Bool, true, false, ◌||◌, ◌&&◌, cond, nat_le, List, [], ◌∷◌, refl, ap, ◌∙◌, arith}
use Rattle.std.specs.List.{list_all, list_any}
use Rattle.std.proofs.lemmas.Bool.{and_parts, and_right, or_parts}
use Rattle.std.proofs.lemmas.Bool.Decides.{nat_tests}
use Rattle.shapers_buffer.specs.Glyphs.{Glyph, Glyphs}
use Rattle.shapers_prepare.specs.declared.ot_shape_prepare.vowels.VowelScript.{VowelScript}
use Rattle.shapers_prepare.specs.declared.ot_shape_prepare.vowels.VowelScript.TheVariants as scripts
use Rattle.shapers_prepare.specs.VowelRows.{devanagari_pairs, bengali_pairs, gurmukhi_pairs, gujarati_pairs, oriya_pairs, tamil_pairs, telugu_pairs, kannada_pairs, malayalam_pairs, sinhala_pairs, brahmi_pairs, khojki_pairs, khudawadi_pairs, tirhuta_pairs, modi_pairs, takri_pairs}
use Rattle.shapers_prepare.specs.Vowels.{is_among_pairs, is_vowel_pair, is_vowel_triple, left_behind, pair_behind, triple_behind}
use Rattle.shapers_prepare.specs.VowelWalk.{opening_range, opens_between, vowel_circles}

abbrev is_within : ℕ × ℕ → ℕ → Bool
is_within range a = nat_le range.0 a && nat_le a range.1

-- whether the first character of each pair is between these
abbrev all_within : ℕ × ℕ → List (ℕ × ℕ) → Bool
all_within range pairs = list_all (λ pair. is_within range pair.0) pairs

-- a character outside is none of those inside
differs : (low high x a : ℕ) → (nat_le low x && nat_le x high) ≡ true
    → (nat_le low a && nat_le a high) ≡ false → (x == a) ≡ false
differs low high x a inside outside = grind (arith, nat_tests)

differs_from : (low high x a : ℕ) → (nat_le low x && nat_le x high) ≡ true
    → (nat_le low a && nat_le a high) ≡ false → (a == x) ≡ false
differs_from low high x a inside outside = grind (arith, nat_tests)

not_among : (range : ℕ × ℕ) (pairs : List (ℕ × ℕ)) (a b : ℕ) → all_within range pairs ≡ true
    → is_within range a ≡ false → is_among_pairs pairs a b ≡ false
not_among range [] a b inside outside = refl
not_among range (p ∷ ps) a b inside outside =
    let both = and_parts (is_within range p.0) (all_within range ps) inside in
    let other : (p.0 == a) ≡ false = differs range.0 range.1 p.0 a both.0 outside in
    ap (λ t. (t && p.1 == b) || is_among_pairs ps a b) other ∙ not_among range ps a b both.1 outside

no_pair : (s : VowelScript) (a b : ℕ) → is_within (opening_range s) a ≡ false → is_vowel_pair s a b ≡ false
unfolding devanagari_pairs bengali_pairs gurmukhi_pairs gujarati_pairs oriya_pairs tamil_pairs telugu_pairs kannada_pairs malayalam_pairs sinhala_pairs brahmi_pairs khojki_pairs khudawadi_pairs tirhuta_pairs modi_pairs takri_pairs
no_pair scripts.Devanagari a b out = not_among (0x0905, 0x090F) devanagari_pairs a b refl out
no_pair scripts.Bengali a b out = not_among (0x0985, 0x098C) bengali_pairs a b refl out
no_pair scripts.Gurmukhi a b out = not_among (0x0A05, 0x0A73) gurmukhi_pairs a b refl out
no_pair scripts.Gujarati a b out = not_among (0x0A85, 0x0AC5) gujarati_pairs a b refl out
no_pair scripts.Oriya a b out = not_among (0x0B05, 0x0B13) oriya_pairs a b refl out
no_pair scripts.Tamil a b out = not_among (0x0B85, 0x0B85) tamil_pairs a b refl out
no_pair scripts.Telugu a b out = not_among (0x0C12, 0x0C4A) telugu_pairs a b refl out
no_pair scripts.Kannada a b out = not_among (0x0C89, 0x0C92) kannada_pairs a b refl out
no_pair scripts.Malayalam a b out = not_among (0x0D07, 0x0D12) malayalam_pairs a b refl out
no_pair scripts.Sinhala a b out = not_among (0x0D85, 0x0D94) sinhala_pairs a b refl out
no_pair scripts.Brahmi a b out = not_among (0x11005, 0x1100F) brahmi_pairs a b refl out
no_pair scripts.Khojki a b out = not_among (0x11200, 0x11240) khojki_pairs a b refl out
no_pair scripts.Khudawadi a b out = not_among (0x112B0, 0x112B0) khudawadi_pairs a b refl out
no_pair scripts.Tirhuta a b out = not_among (0x11481, 0x114AA) tirhuta_pairs a b refl out
no_pair scripts.Modi a b out = not_among (0x11600, 0x11601) modi_pairs a b refl out
no_pair scripts.Takri a b out = not_among (0x11680, 0x11686) takri_pairs a b refl out

no_triple : (s : VowelScript) (a b c : ℕ) → is_within (opening_range s) c ≡ false
    → is_vowel_triple s a b c ≡ false
no_triple scripts.Devanagari a b c out =
    and_right (a == 0x0930 && b == 0x094D) (c == 0x0907) (differs_from 0x0905 0x090F 0x0907 c refl out)
no_triple scripts.Bengali a b c out = refl
no_triple scripts.Gurmukhi a b c out = refl
no_triple scripts.Gujarati a b c out = refl
no_triple scripts.Oriya a b c out = refl
no_triple scripts.Tamil a b c out = refl
no_triple scripts.Telugu a b c out = refl
no_triple scripts.Kannada a b c out = refl
no_triple scripts.Malayalam a b c out = refl
no_triple scripts.Sinhala a b c out = refl
no_triple scripts.Brahmi a b c out = refl
no_triple scripts.Khojki a b c out = refl
no_triple scripts.Khudawadi a b c out = refl
no_triple scripts.Tirhuta a b c out = refl
no_triple scripts.Modi a b c out = refl
no_triple scripts.Takri a b c out = refl

nothing_behind : (s : VowelScript) (a : ℕ) (gs : Glyphs) → is_within (opening_range s) a ≡ false
    → list_any (opens_between (opening_range s)) gs ≡ false → pair_behind s a gs ≡ 0
nothing_behind s a [] out none = refl
nothing_behind s a (g ∷ []) out none =
    ap (λ t. cond t 1 (triple_behind s a g.glyph_id [])) (no_pair s a g.glyph_id out)
nothing_behind s a (g ∷ h ∷ gs) out none =
    let opens : Glyph → Bool = opens_between (opening_range s) in
    let first = or_parts (opens g) (list_any opens (h ∷ gs)) none in
    let next = or_parts (opens h) (list_any opens gs) first.1 in
    ap (λ t. cond t 1 (triple_behind s a g.glyph_id (h ∷ gs))) (no_pair s a g.glyph_id out)
    ∙ ap (λ t. cond t 2 0) (no_triple s a g.glyph_id h.glyph_id next.0)

pub none_opened : (s : VowelScript) (gs : Glyphs) → list_any (opens_between (opening_range s)) gs ≡ false
    → vowel_circles s 0 gs ≡ 0
none_opened s [] none = refl
none_opened s (g ∷ gs) none =
    let opens : Glyph → Bool = opens_between (opening_range s) in
    let parts = or_parts (opens g) (list_any opens gs) none in
    let left : left_behind s 0 g gs ≡ 0 = nothing_behind s g.glyph_id gs parts.0 parts.1 in
    ap (λ n. vowel_circles s n gs) left ∙ none_opened s gs parts.1
