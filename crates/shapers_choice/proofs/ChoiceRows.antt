-- The choice on one script of each kind, and on what the font may offer for it.
use Rattle.std.specs.Prelude.{◌≡◌, [], ◌∷◌, map, codes, None, Some, refl}
use Rattle.shapers_buffer.specs.declared.buffer.level.Direction.TheVariants as directions
use Rattle.shapers_choice.specs.Choice.{shaper_for}
use Rattle.rustybuzz_shapers.specs.declared.shaper.hb_ot_shaper_t.TheVariants as shapers

-- each script of its own, whatever the font offers, and Latin, which has none
by_script : map (λ code. shaper_for (record { 0 = codes code }) directions.LeftToRight None)
    ("Arab" ∷ "Syrc" ∷ "Thai" ∷ "Laoo" ∷ "Hang" ∷ "Hebr" ∷ "Khmr" ∷ "Mymr" ∷ "Qaag" ∷ "Deva" ∷ "Telu" ∷ "Adlm" ∷ "Zanb"
    ∷ "Latn" ∷ [])
    ≡ Some shapers.Arabic ∷ Some shapers.Arabic ∷ Some shapers.Thai ∷ Some shapers.Thai ∷ Some shapers.Hangul
    ∷ Some shapers.Hebrew ∷ Some shapers.Khmer ∷ Some shapers.Myanmar ∷ Some shapers.MyanmarZawgyi ∷ Some shapers.Indic
    ∷ Some shapers.Indic ∷ Some shapers.Universal ∷ Some shapers.Universal ∷ None ∷ []
unfolding shaper_for
by_script = refl

-- a font that has nothing for the script
by_default : map
    (λ code. shaper_for (record { 0 = codes code }) directions.RightToLeft (Some (record { 0 = codes "DFLT" })))
    ("Arab" ∷ "Syrc" ∷ "Thai" ∷ "Khmr" ∷ "Mymr" ∷ "Deva" ∷ "Java" ∷ [])
    ≡ Some shapers.Arabic ∷ None ∷ Some shapers.Thai ∷ Some shapers.Khmer ∷ None ∷ None ∷ None ∷ []
unfolding shaper_for
by_default = refl

by_latin : map
    (λ code. shaper_for (record { 0 = codes code }) directions.LeftToRight (Some (record { 0 = codes "latn" })))
    ("Syrc" ∷ "Mymr" ∷ "Deva" ∷ "Java" ∷ [])
    ≡ Some shapers.Arabic ∷ None ∷ None ∷ None ∷ []
unfolding shaper_for
by_latin = refl

-- the tags of an Indic script, oldest first, and those of Myanmar
by_tag : map (λ tag. shaper_for (record { 0 = codes "Deva" }) directions.LeftToRight (Some (record { 0 = codes tag })))
    ("deva" ∷ "dev2" ∷ "dev3" ∷ [])
    ≡ Some shapers.Indic ∷ Some shapers.Indic ∷ Some shapers.Universal ∷ []
unfolding shaper_for
by_tag = refl

by_myanmar_tag : map
    (λ tag. shaper_for (record { 0 = codes "Mymr" }) directions.LeftToRight (Some (record { 0 = codes tag })))
    ("mymr" ∷ "mym2" ∷ [])
    ≡ None ∷ Some shapers.Myanmar ∷ []
unfolding shaper_for
by_myanmar_tag = refl

-- vertical text
by_direction : map (λ direction. shaper_for (record { 0 = codes "Arab" }) direction None)
    (directions.TopToBottom ∷ directions.BottomToTop ∷ directions.Invalid ∷ directions.RightToLeft ∷ [])
    ≡ None ∷ None ∷ None ∷ Some shapers.Arabic ∷ []
unfolding shaper_for
by_direction = refl
