-- Glyph flags of the places that are at no opening inside a word.
use Rattle.std.proofs.Common.{ℕ, ◌+◌, ◌<◌, ◌≡◌, ◌==◌, ◌||◌, ◌&&◌, Bool, true, false, List, [], ◌∷◌, map, length, get_or, Option, refl, ◌∙◌, arith}
use Rattle.std.proofs.lemmas.Bool.{or_parts}
use Rattle.std.proofs.lemmas.List.{get_or-append_right, get_or-drop, get_or-map, get_or-take, get_or_append_left, length-drop, length-map, length-take}
use Rattle.shapers_buffer.specs.Glyphs.{Glyph, Glyphs}
use Rattle.shapers_buffer.specs.Glyph.{default_glyph}
use Rattle.shapers_clusters.specs.Flags.{FlagsFall}
use Rattle.shapers_indic_final.specs.FinalLaws.{BreaksNowhere, at_syllable_start}
use Rattle.shapers_indic_final.specs.FinalWordStart.{bound_at, bound_from, is_bound, last_or}
use Rattle.shapers_indic_final.proofs.FinalWordStartViews.{map-bound}
use Rattle.shapers_syllabic.specs.Reordering.{carried}

-- an unsafe break leaves the places around it
bound_elsewhere : (s : ℕ) (b : Bool) (gs : Glyphs) (i : ℕ) → i < length gs → (b && (i == s || i + 1 == s))
    ≡ false → get_or (bound_at s b gs) i default_glyph ≡ get_or gs i default_glyph
bound_elsewhere s false gs i l none = refl
bound_elsewhere s true gs i l none = search (arith, get_or_append_left, length-take, get_or-take, get_or-append_right, length-map, length-drop, get_or-drop)

pub bound_from_elsewhere : (s : ℕ) (before : Option Glyph) (syls : List Glyphs)
    (gs : Glyphs) (i : ℕ) → i < length gs → at_syllable_start s before syls i ≡ false
    → get_or (bound_from s before syls gs) i default_glyph ≡ get_or gs i default_glyph
bound_from_elsewhere s before [] gs i l none = refl
bound_from_elsewhere s before (syl ∷ syls) gs i l none =
    let b = is_bound before syl in
    let next = last_or before syl in
    let t = s + length syl in
    let parts = or_parts (b && (i == s || i + 1 == s)) (at_syllable_start t next syls i) none in
    bound_from_elsewhere t next syls (bound_at s b gs) i
    (search (
      arith,
      length-map (bound_at s b gs) (λ g. g.cluster),
      map-bound (λ g. g.cluster) (λ g. refl) s b gs,
      length-map gs (λ g. g.cluster),
    )) parts.1 ∙ bound_elsewhere s b gs i l parts.0

-- where no syllable is opened inside a word, there is no break
pub bound_nowhere : (s : ℕ) (before : Option Glyph) (syls : List Glyphs)
    (gs : Glyphs) → BreaksNowhere before syls → bound_from s before syls gs ≡ gs
bound_nowhere s before [] gs none = refl
bound_nowhere s before (syl ∷ syls) gs none = cc (bound_nowhere (s + length syl) (last_or before syl) syls gs none.1)

-- and what is carried along is the same
pub elsewhere-whole : (x : Glyph) (ran new : Glyphs) → map carried new ≡ map carried ran
    → (i : ℕ) → i < length new → FlagsFall x (get_or ran i default_glyph) → FlagsFall x (get_or new i default_glyph)
elsewhere-whole x ran new same i l fell =
    let d = default_glyph in
    let n : length new ≡ length ran = search (arith, length-map) in
    let is : carried (get_or new i d) ≡ carried (get_or ran i d) =
    cc (get_or-map carried new i d d l, get_or-map carried ran i d d (omega arith)) in
    search arith
