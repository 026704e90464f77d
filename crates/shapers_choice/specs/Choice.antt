-- Which shaper a text takes (HarfBuzz, hb-ot-shaper.hh).
use Rattle.std.specs.Prelude.{ℕ, nat_eq, Bool, true, false, ◌||◌, ◌==◌, List, [], ◌∷◌, map, slice_index, Option, None, Some, codes, if◌then◌else◌}
use Rattle.std.specs.List.{list_any}
use Rattle.std.specs.Cmp.Lexicographic.{pointwise}
use Rattle.shapers_buffer.specs.declared.buffer.level.Direction.{Direction}
use Rattle.shapers_buffer.specs.declared.buffer.level.Direction.TheVariants as directions
use Rattle.shapers_buffer.specs.declared.buffer.tag.Script.{Script}
use Rattle.shapers_buffer.specs.declared.buffer.tag.hb_tag_t.{hb_tag_t}
use Rattle.rustybuzz_shapers.specs.declared.shaper.hb_ot_shaper_t.{hb_ot_shaper_t}
use Rattle.rustybuzz_shapers.specs.declared.shaper.hb_ot_shaper_t.TheVariants as shapers

-- scripts by their codes in ISO 15924
abbrev pub indic_scripts : List Script
indic_scripts = map (λ code. record { 0 = codes code }) (
    "Beng" ∷ "Deva" ∷ "Gujr" ∷ "Guru" ∷ "Knda" ∷ "Mlym" ∷ "Orya" ∷ "Taml" ∷ "Telu" ∷ [])

abbrev pub universal_scripts : List Script
universal_scripts = map (λ code. record { 0 = codes code }) (
    "Adlm" ∷ "Ahom" ∷ "Bali" ∷ "Batk" ∷ "Berf" ∷ "Bhks" ∷ "Brah" ∷ "Bugi" ∷ "Buhd" ∷
    "Cakm" ∷ "Cham" ∷ "Chrs" ∷ "Cpmn" ∷ "Diak" ∷ "Dogr" ∷ "Dupl" ∷ "Egyp" ∷ "Elym" ∷
    "Gara" ∷ "Gong" ∷ "Gonm" ∷ "Gran" ∷ "Gukh" ∷ "Hano" ∷ "Hmng" ∷ "Hmnp" ∷ "Java" ∷
    "Kali" ∷ "Kawi" ∷ "Khar" ∷ "Khoj" ∷ "Kits" ∷ "Krai" ∷ "Kthi" ∷ "Lana" ∷ "Lepc" ∷
    "Limb" ∷ "Mahj" ∷ "Maka" ∷ "Mand" ∷ "Mani" ∷ "Marc" ∷ "Medf" ∷ "Modi" ∷ "Mong" ∷
    "Mtei" ∷ "Mult" ∷ "Nagm" ∷ "Nand" ∷ "Newa" ∷ "Nkoo" ∷ "Onao" ∷ "Ougr" ∷ "Phag" ∷
    "Phlp" ∷ "Plrd" ∷ "Rjng" ∷ "Rohg" ∷ "Saur" ∷ "Shrd" ∷ "Sidd" ∷ "Sidt" ∷ "Sind" ∷
    "Sinh" ∷ "Sogd" ∷ "Sogo" ∷ "Soyo" ∷ "Sund" ∷ "Sunu" ∷ "Sylo" ∷ "Tagb" ∷ "Takr" ∷
    "Tale" ∷ "Tavt" ∷ "Tayo" ∷ "Tfng" ∷ "Tglg" ∷ "Tibt" ∷ "Tirh" ∷ "Tnsa" ∷ "Todr" ∷
    "Tols" ∷ "Toto" ∷ "Tutg" ∷ "Vith" ∷ "Wcho" ∷ "Yezi" ∷ "Zanb" ∷ [])

-- the script has this code
abbrev pub is_code : List ℕ → Script → Bool
is_code code s = pointwise nat_eq s.0 code

abbrev pub is_among : List Script → Script → Bool
is_among scripts s = list_any (λ t. pointwise nat_eq t.0 s.0) scripts

-- the font's script was found by this tag
abbrev pub is_tag : List ℕ → Option hb_tag_t → Bool
is_tag code None = false
is_tag code (Some t) = pointwise nat_eq t.0 code

-- the font offers nothing for the script: what was found is its default script, or Latin's
abbrev pub is_default : Option hb_tag_t → Bool
is_default chosen = is_tag (codes "DFLT") chosen || is_tag (codes "latn") chosen

-- the third version of an Indic script's tag: its last byte is the digit 3
abbrev pub is_newest : Option hb_tag_t → Bool
is_newest None = false
is_newest (Some t) = slice_index t.0 3 == 0x33

abbrev pub is_horizontal : Direction → Bool
is_horizontal directions.LeftToRight = true
is_horizontal directions.RightToLeft = true
is_horizontal _ = false

abbrev pub arabic_for : Direction → Option hb_ot_shaper_t
arabic_for direction = if is_horizontal direction then Some shapers.Arabic else None

abbrev pub syriac_for : Direction → Option hb_tag_t → Option hb_ot_shaper_t
syriac_for direction chosen = if is_tag (codes "DFLT") chosen then None else arabic_for direction

abbrev pub myanmar_for : Option hb_tag_t → Option hb_ot_shaper_t
myanmar_for chosen =
    if is_default chosen || is_tag (codes "mymr") chosen then None else Some shapers.Myanmar

abbrev pub indic_for : Option hb_tag_t → Option hb_ot_shaper_t
indic_for chosen =
    if is_default chosen then None
    else if is_newest chosen then Some shapers.Universal
    else Some shapers.Indic

abbrev pub universal_for : Option hb_tag_t → Option hb_ot_shaper_t
universal_for chosen = if is_default chosen then None else Some shapers.Universal

-- the scripts that take their shaper whatever the font offers
abbrev pub own_for : Script → Option hb_ot_shaper_t
own_for s =
    if is_code (codes "Thai") s || is_code (codes "Laoo") s then Some shapers.Thai
    else if is_code (codes "Hang") s then Some shapers.Hangul
    else if is_code (codes "Hebr") s then Some shapers.Hebrew
    else if is_code (codes "Khmr") s then Some shapers.Khmer
    else if is_code (codes "Qaag") s then Some shapers.MyanmarZawgyi
    else None

unfoldable pub shaper_for : Script → Direction → Option hb_tag_t → Option hb_ot_shaper_t
shaper_for s direction chosen =
    if is_code (codes "Arab") s then arabic_for direction
    else if is_code (codes "Syrc") s then syriac_for direction chosen
    else if is_code (codes "Mymr") s then myanmar_for chosen
    else if is_among indic_scripts s then indic_for chosen
    else if is_among universal_scripts s then universal_for chosen
    else own_for s
