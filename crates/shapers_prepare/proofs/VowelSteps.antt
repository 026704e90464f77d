-- Vowels parted, glyph after glyph.
use Rattle.std.proofs.Common.{◌≡◌, ℕ, suc, ◌+◌, ◌<◌, Bool, true, false, cond, eqb, [], ◌∷◌, ◌++◌, length, drop, get_or, refl, sym, ap, ◌∙◌, arith, append_assoc, drop-cons}
use Rattle.std.proofs.lemmas.List.{length-append}
use Rattle.shapers_buffer.specs.Glyphs.{Glyph, Glyphs}
use Rattle.shapers_buffer.specs.Glyph.{default_glyph}
use Rattle.shapers_prepare.specs.declared.ot_shape_prepare.vowels.VowelScript.{VowelScript}
use Rattle.shapers_prepare.specs.Vowels.{circle_before_last, left_behind, vowel_circle, vowels_circled_from}
use Rattle.shapers_prepare.specs.VowelWalk.{vowel_circles}

-- the text from a place on, by its first glyph
from_place : (gs : Glyphs) (i : ℕ) → i < length gs
    → drop i gs ≡ get_or gs i default_glyph ∷ drop (i + 1) gs
from_place gs i inside =
    let next : suc i ≡ i + 1 = omega arith in
    drop-cons gs i default_glyph inside ∙ ap (λ n. get_or gs i default_glyph ∷ drop n gs) next

abbrev left_after : VowelScript → ℕ → Glyphs → ℕ → ℕ
left_after s n gs i = left_behind s n (get_or gs i default_glyph) (drop (i + 1) gs)

pub parted_next : (s : VowelScript) (n : ℕ) (gs : Glyphs) (i : ℕ) → i < length gs
    → vowels_circled_from s n (drop i gs)
    ≡ (circle_before_last n (get_or gs i default_glyph) ++ get_or gs i default_glyph ∷ [])
    ++ vowels_circled_from s (left_behind s n (get_or gs i default_glyph) (drop (i + 1) gs)) (drop (i + 1) gs)
parted_next s n gs i inside =
    let g = get_or gs i default_glyph in
    ap (vowels_circled_from s n) (from_place gs i inside)
    ∙ sym (append_assoc (circle_before_last n g) (g ∷ [])
    (vowels_circled_from s (left_after s n gs i) (drop (i + 1) gs)))

pub circles_next : (s : VowelScript) (n : ℕ) (gs : Glyphs) (i : ℕ) → i < length gs
    → vowel_circles s n (drop i gs)
    ≡ cond (eqb n 1) 1 0 + vowel_circles s (left_behind s n (get_or gs i default_glyph) (drop (i + 1) gs))
    (drop (i + 1) gs)
circles_next s n gs i inside =
    let rest = vowel_circles s (left_after s n gs i) (drop (i + 1) gs) in
    ap (vowel_circles s n) (from_place gs i inside)
    ∙ elim (eqb n 1) as (λ b. cond b (suc rest) rest ≡ cond b 1 0 + rest) [ true ↦ omega arith | false ↦ omega arith ]

-- how long the text is, and that it stays where no circle comes
circle_len : (n : ℕ) (g : Glyph) → length (circle_before_last n g) ≡ cond (eqb n 1) 1 0
circle_len n g = elim (eqb n 1) as (λ b. length (cond b (vowel_circle g ∷ []) []) ≡ cond b 1 0)
    [ true ↦ refl | false ↦ refl ]

pub parted_len : (s : VowelScript) (n : ℕ) (gs : Glyphs) → length (vowels_circled_from s n gs)
    ≡ length gs + vowel_circles s n gs
parted_len s n [] = refl
parted_len s n (g ∷ gs) =
    let m = left_behind s n g gs in
    let rest = parted_len s m gs in
    let whole = length-append (circle_before_last n g) (g ∷ vowels_circled_from s m gs) in
    let circles : vowel_circles s n (g ∷ gs) ≡ cond (eqb n 1) 1 0 + vowel_circles s m gs =
    elim (eqb n 1) as (λ b. cond b (suc (vowel_circles s m gs)) (vowel_circles s m gs)
    ≡ cond b 1 0 + vowel_circles s m gs) [ true ↦ omega arith | false ↦ omega arith ] in
    omega (arith, rest, whole, circle_len n g, circles)

none_by : (b : Bool) (s : VowelScript) (m : ℕ) (g : Glyph) (gs : Glyphs)
    → (vowel_circles s m gs ≡ 0 → vowels_circled_from s m gs ≡ gs)
    → cond b (suc (vowel_circles s m gs)) (vowel_circles s m gs) ≡ 0 → cond b (vowel_circle g ∷ [])
    [] ++ g ∷ vowels_circled_from s m gs ≡ g ∷ gs
none_by true s m g gs rest is = absurd (omega arith)
none_by false s m g gs rest is = ap (λ gs. g ∷ gs) (rest is)

pub none_parted : (s : VowelScript) (n : ℕ) (gs : Glyphs) → vowel_circles s n gs ≡ 0
    → vowels_circled_from s n gs ≡ gs
none_parted s n [] is = refl
none_parted s n (g ∷ gs) is =
    none_by (eqb n 1) s (left_behind s n g gs) g gs (none_parted s (left_behind s n g gs) gs) is
