-- Passes that leave a text as it is: no character is rotated, and each glyph is a grapheme of its own. And
-- one that mirrors each character and does nothing else.
use Rattle.std.proofs.Common.{◌≡◌, ◌==◌, ◌+◌, ◌-◌, ℕ, Bool, true, false, ◌||◌, ◌&&◌, cond, List, [], ◌∷◌, ◌++◌, map, take, drop, nat_lt, refl, sym, ap, ◌∙◌, arith}
use Rattle.std.specs.Prelude.{not}
use Rattle.std.specs.List.{list_any}
use Rattle.std.proofs.lemmas.Bool.{false≢true, or_parts}
use Rattle.std.proofs.lemmas.Bool.Decides.{nat_tests}
use Rattle.std.proofs.lemmas.List.{drop-drop, take-append-drop}
use Rattle.shapers_base.specs.Font.{Font}
use Rattle.shapers_buffer.specs.Glyphs.{Glyph, Glyphs}
use Rattle.shapers_buffer.specs.declared.buffer.level.BufferClusterLevel.{BufferClusterLevel}
use Rattle.shapers_buffer.specs.declared.buffer.level.BufferClusterLevel.TheVariants.{Characters, MonotoneCharacters, MonotoneGraphemes}
use Rattle.shapers_buffer.specs.declared.buffer.level.Direction.TheVariants.{RightToLeft}
use Rattle.shapers_buffer.specs.Clusters.{merge, merge_all, merged}
use Rattle.shapers_buffer.specs.GlyphFlags.{flagged, unsafe_all, unsafe_inside, with_bits}
use Rattle.shapers_buffer.specs.Properties.{is_continuation}
use Rattle.shapers_prepare.specs.declared.ot_shape_prepare.rotation.CharRotation.{CharRotation}
use Rattle.shapers_prepare.specs.CharacterProperties.{CharacterProperties}
use Rattle.shapers_prepare.specs.Graphemes.{clusters_formed, continuations, graphemes_from}
use Rattle.shapers_prepare.specs.Rotation.{mirrored_glyph, rotated_glyph, goes_backward, goes_vertically, upright_glyph}

rotated-one : (p : CharacterProperties) (font : Font) (r : CharRotation) (g : Glyph)
    → goes_backward r.direction ≡ false → (goes_vertically r.direction && not r.has_vert) ≡ false
    → rotated_glyph p font r g ≡ g
rotated-one p font r g forward upright =
    ap (λ b. let m = cond b (mirrored_glyph p font r.rtlm_mask g) g in
    cond (goes_vertically r.direction && not r.has_vert) (upright_glyph p font m) m) forward
    ∙ ap (λ b. cond b (upright_glyph p font g) g) upright

-- A text that goes forward along lines, or down in a font with vertical forms.
pub rotated-none : (p : CharacterProperties) (font : Font) (r : CharRotation)
    → (goes_backward r.direction || (goes_vertically r.direction && not r.has_vert)) ≡ false → (gs : Glyphs)
    → map (rotated_glyph p font r) gs ≡ gs
rotated-none p font r none [] = refl
rotated-none p font r none (g ∷ gs) =
    let both = or_parts (goes_backward r.direction) (goes_vertically r.direction && not r.has_vert) none in
    cc (rotated-one p font r g both.0 both.1, rotated-none p font r none gs)

-- From right to left each character is mirrored, and nothing else.
mirrored-one : (p : CharacterProperties) (font : Font) (r : CharRotation) (g : Glyph)
    → r.direction ≡ RightToLeft → rotated_glyph p font r g ≡ mirrored_glyph p font r.rtlm_mask g
mirrored-one p font r g is =
    ap (λ d. let m = cond (goes_backward d) (mirrored_glyph p font r.rtlm_mask g) g in
    cond (goes_vertically d && not r.has_vert) (upright_glyph p font m) m) is

pub mirrored-all : (p : CharacterProperties) (font : Font) (r : CharRotation) → r.direction ≡ RightToLeft
    → (gs : Glyphs) → map (mirrored_glyph p font r.rtlm_mask) gs ≡ map (rotated_glyph p font r) gs
mirrored-all p font r is [] = refl
mirrored-all p font r is (g ∷ gs) = cc (mirrored-one p font r g is, mirrored-all p font r is gs)

-- one glyph is merged with none
merged-one : (s e : ℕ) (gs : Glyphs) → e ≡ s + 1 → merge MonotoneGraphemes s e gs ≡ gs
merged-one s e gs is =
    let few : nat_lt (e - s) 2 ≡ true = grind (arith, nat_tests) in
    ap (λ b. cond (not b) (merged s e gs) gs) few

merged-apart : (s i : ℕ) (cs : List Bool) (gs : Glyphs) → i ≡ s + 1 → list_any (λ c. c) cs ≡ false
    → merge_all MonotoneGraphemes (graphemes_from s i cs) gs ≡ gs
merged-apart s i [] gs is none = merged-one s i gs is
merged-apart s i (true ∷ cs) gs is none = absurd (false≢true (sym none))
merged-apart s i (false ∷ cs) gs is none =
    ap (merge_all MonotoneGraphemes (graphemes_from i (i + 1) cs)) (merged-one s i gs is)
    ∙ merged-apart i (i + 1) cs gs refl none

-- and has no flag
flagged-first : (gs : Glyphs) → flagged 3 (take 1 gs) ≡ take 1 gs
flagged-first [] = refl
flagged-first (g ∷ gs) =
    let same : (g.cluster == g.cluster) ≡ true = grind (arith, nat_tests) in
    ap (λ b. cond b g (with_bits 3 g) ∷ []) same

flagged-one : (s e : ℕ) (gs : Glyphs) → e ≡ s + 1 → unsafe_inside s e gs ≡ gs
flagged-one s e gs is =
    let one : e - s ≡ 1 = omega arith in
    ap (λ n. take s gs ++ (flagged 3 (take n (drop s gs)) ++ drop e gs)) one
    ∙ ap (λ xs. take s gs ++ (xs ++ drop e gs)) (flagged-first (drop s gs))
    ∙ ap (λ n. take s gs ++ (take 1 (drop s gs) ++ drop n gs)) is
    ∙ ap (λ xs. take s gs ++ (take 1 (drop s gs) ++ xs)) (sym (drop-drop 1 s gs))
    ∙ ap (λ xs. take s gs ++ xs) (take-append-drop 1 (drop s gs))
    ∙ take-append-drop s gs

flagged-apart : (s i : ℕ) (cs : List Bool) (gs : Glyphs) → i ≡ s + 1 → list_any (λ c. c) cs ≡ false
    → unsafe_all (graphemes_from s i cs) gs ≡ gs
flagged-apart s i [] gs is none = flagged-one s i gs is
flagged-apart s i (true ∷ cs) gs is none = absurd (false≢true (sym none))
flagged-apart s i (false ∷ cs) gs is none =
    ap (unsafe_all (graphemes_from i (i + 1) cs)) (flagged-one s i gs is) ∙ flagged-apart i (i + 1) cs gs refl none

none-continues : (gs : Glyphs) → list_any (λ (g : Glyph). is_continuation g.unicode_props) gs ≡ false
    → list_any (λ c. c) (continuations gs) ≡ false
none-continues [] none = refl
none-continues (g ∷ gs) none =
    let both = or_parts (is_continuation g.unicode_props)
    (list_any (λ (g : Glyph). is_continuation g.unicode_props) gs) none in
    ap (λ b. b || list_any (λ c. c) (continuations gs)) both.0 ∙ none-continues gs both.1

-- A text in which no glyph carries on the grapheme before it.
pub formed-none : (level : BufferClusterLevel) (gs : Glyphs)
    → list_any (λ (g : Glyph). is_continuation g.unicode_props) gs ≡ false → clusters_formed level gs ≡ gs
formed-none MonotoneGraphemes [] none = refl
formed-none MonotoneCharacters [] none = refl
formed-none Characters [] none = refl
formed-none level (g ∷ gs) none =
    let both = or_parts (is_continuation g.unicode_props)
    (list_any (λ (g : Glyph). is_continuation g.unicode_props) gs) none in
    let apart = none-continues gs both.1 in
    elim level as (λ level. clusters_formed level (g ∷ gs) ≡ g ∷ gs) [
      | MonotoneGraphemes ↦ merged-apart 0 1 (continuations gs) (g ∷ gs) refl apart
      | MonotoneCharacters ↦ flagged-apart 0 1 (continuations gs) (g ∷ gs) refl apart
      | Characters ↦ flagged-apart 0 1 (continuations gs) (g ∷ gs) refl apart
    ]
