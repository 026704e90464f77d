-- What is requested of a font for a text (HarfBuzz, hb-ot-shape.cc).
use Rattle.std.specs.Prelude.{◌==◌, Bool, ◌&&◌, List, [], ◌∷◌, ◌++◌, map, Option, None, Some, bit_or, codes, if◌then◌else◌}
use Rattle.std.specs.Option.{option_map_or}
use Rattle.shapers_buffer.specs.declared.buffer.level.Direction.{Direction}
use Rattle.shapers_buffer.specs.declared.buffer.level.Direction.TheVariants.{LeftToRight, RightToLeft}
use Rattle.shapers_buffer.specs.declared.buffer.tag.Script.{Script}
use Rattle.shapers_buffer.specs.declared.buffer.tag.hb_tag_t.{hb_tag_t}
use Rattle.shapers_base.specs.declared.map.TheConstants.{F_GLOBAL, F_HAS_FALLBACK, F_MANUAL_JOINERS, F_NONE}
use Rattle.shapers_base.specs.declared.plan.planner.Request.{Request}
use Rattle.shapers_base.specs.declared.plan.planner.Request.TheVariants.{Feature}
use Rattle.shapers_base.specs.Planner.{added, bare_pause, enabled}
use Rattle.shapers_choice.specs.Choice.{is_horizontal, shaper_for}
use Rattle.rustybuzz_shapers.specs.declared.shaper.hb_ot_shaper_t.{hb_ot_shaper_t}
use Rattle.rustybuzz_shapers.specs.Records.{collected, overridden}
use Rattle.shapers_plan.specs.declared.ot_map.masks.TheConstants.{F_GLOBAL_SEARCH, F_RANDOM}
use Rattle.shapers_plan.specs.declared.ot_shape_plan.user.UserFeature.{UserFeature}

-- the shaper of a text, if its script is known and takes one
abbrev pub text_shaper : Option Script → Direction → Option hb_tag_t → Option hb_ot_shaper_t
text_shaper None direction found = None
text_shaper (Some script) direction found = shaper_for script direction found

-- forms for the direction; mirrored ones from right to left are turned on by glyph
abbrev pub directed : Direction → List Request
directed LeftToRight = enabled F_NONE "ltra" ∷ enabled F_NONE "ltrm" ∷ []
directed RightToLeft = enabled F_NONE "rtla" ∷ added F_NONE "rtlm" ∷ []
directed _ = []

-- what comes before the shaper's: variations of the font alone in the first stage, the direction's,
-- fractions, random alternates, tracking, and HarfBuzz's own
abbrev pub before_shaper : Direction → List Request
before_shaper direction = enabled F_NONE "rvrn" ∷ bare_pause ∷ directed direction
    ++ map (added F_NONE) ("frac" ∷ "numr" ∷ "dnom" ∷ [])
    ++ Feature (record { 0 = codes "rand" }) (bit_or F_RANDOM F_GLOBAL) 255
    ∷ enabled F_HAS_FALLBACK "trak" ∷ enabled F_NONE "Harf" ∷ enabled F_NONE "HARF" ∷ []

-- features of horizontal text
abbrev pub horizontal : List Request
horizontal = map (enabled F_NONE) ("calt" ∷ "clig" ∷ "curs" ∷ "dist" ∷ [])
    ++ enabled F_HAS_FALLBACK "kern" ∷ map (enabled F_NONE) ("liga" ∷ "rclt" ∷ [])

-- those of the text's lines; forms for vertical text may be any script's
abbrev pub along_lines : Direction → List Request
along_lines direction =
    if is_horizontal direction then horizontal else enabled F_GLOBAL_SEARCH "vert" ∷ []

-- HarfBuzz's own, and features of every text
abbrev pub of_every_text : List Request
of_every_text = map (enabled F_NONE) ("Buzz" ∷ "BUZZ" ∷ "abvm" ∷ "blwm" ∷ "ccmp" ∷ "locl" ∷ [])
    ++ map (enabled F_MANUAL_JOINERS) ("mark" ∷ "mkmk" ∷ []) ++ enabled F_NONE "rlig" ∷ []

-- what comes behind the shaper's
abbrev pub behind_shaper : Direction → List Request
behind_shaper direction = of_every_text ++ along_lines direction

-- whether a feature of the user's holds for the whole text
abbrev pub is_for_all : UserFeature → Bool
is_for_all user = user.start == 0 && user.end == 0xFFFFFFFF

-- the user's features
abbrev pub request_of_user : UserFeature → Request
request_of_user user = Feature user.tag (if is_for_all user then F_GLOBAL else F_NONE) user.value

-- the shaper's lists, empty without one
abbrev pub shaper_list : (hb_ot_shaper_t → Option (List Request)) → Option hb_ot_shaper_t →
    List Request
shaper_list list shaper = option_map_or (λ s. option_map_or (λ rs. rs) (list s) []) shaper []

-- all that is requested: for every text, by the shaper (for a font with rclt or without), for every
-- text again, by the user, and what the shaper has the last word on
abbrev pub requests_for : Option hb_ot_shaper_t → Option Script → Direction → Bool →
    List UserFeature → List Request
requests_for shaper script direction has_rclt users = before_shaper direction
    ++ shaper_list (λ s. collected s script has_rclt) shaper
    ++ behind_shaper direction ++ map request_of_user users ++ shaper_list overridden shaper
