-- The flags of Sound on small texts, written out from the rule.
use Rattle.std.specs.Prelude.{◌≡◌, List, [], ◌∷◌, ◌++◌, map, Bool, true, false, refl}
use Rattle.std.specs.List.{list_any}
use Rattle.shapers_buffer.specs.Glyph.{default_glyph}
use Rattle.shapers_buffer.specs.GlyphFlags.{FlagCall, UnsafeToBreak, UnsafeToConcat, flags_called}
use Rattle.shapers_buffer.specs.Glyphs.{Glyphs}
use Rattle.shapers_base.specs.declared.plan.joining.hb_arabic_joining_type_t.TheVariants.{U, R, D, GroupAlaph, GroupDalathRish, T}
use Rattle.shapers_arabic.specs.declared.ot_shaper_arabic.arabic_action_t.TheConstants.{ISOL, FIN2, FINA, FIN3, INIT, NONE}
use Rattle.shapers_arabic.specs.Joining.{forms, selected}
use Rattle.shapers_arabic.specs.JoinedText.{with_joining_forms}
use Rattle.shapers_arabic.specs.JoiningFlags.{joining_flags}
use Rattle.shapers_clusters.specs.Breaks.{forbids}
use Rattle.shapers_arabic.specs.Breaks.{sound_flags}
use Rattle.shapers_arabic.specs.SoundFlags.{form_flags_along, selector_flags}

-- the places where these calls forbid a break, of three places from 1 on
abbrev at : List FlagCall → List Bool
at calls = map (λ p. list_any (forbids p) calls) (1 ∷ 2 ∷ 3 ∷ [])

-- 0715 0710: free by joining's own calls, and FIN3 only beside its neighbour
dalath_alaph : at (joining_flags [] (GroupDalathRish ∷ GroupAlaph ∷ []) []) ≡ false ∷ false ∷ false ∷ []
dalath_alaph = refl

dalath_alaph_forms : forms [] (GroupDalathRish ∷ GroupAlaph ∷ []) [] ≡ ISOL ∷ FIN3 ∷ []
dalath_alaph_forms = refl

dalath_alaph_halves : forms [] (GroupDalathRish ∷ []) [] ++ forms [] (GroupAlaph ∷ []) [] ≡ ISOL ∷ ISOL ∷ []
dalath_alaph_halves = refl

dalath_alaph_sound : form_flags_along [] [] (GroupDalathRish ∷ GroupAlaph ∷ []) [] ≡ UnsafeToBreak 0 2 ∷ []
dalath_alaph_sound = refl

-- two joined letters, one beside the other or over two transparent places
joined : at (sound_flags [] (D ∷ D ∷ []) []) ≡ true ∷ false ∷ false ∷ []
joined = refl

joined_over : at (sound_flags [] (D ∷ T ∷ T ∷ D ∷ []) []) ≡ true ∷ true ∷ true ∷ []
joined_over = refl

-- T R behind a context of D: FINA, from the context, and free by joining's own calls
from_context : forms (D ∷ []) (T ∷ R ∷ []) [] ≡ NONE ∷ FINA ∷ []
from_context = refl

from_context_code : at (joining_flags (D ∷ []) (T ∷ R ∷ []) []) ≡ false ∷ false ∷ false ∷ []
from_context_code = refl

from_context_sound : form_flags_along (D ∷ []) [] (T ∷ R ∷ []) [] ≡ UnsafeToBreak 0 2 ∷ []
from_context_sound = refl

-- an Alaph that another letter makes ISOL needs no flag of its own
late : form_flags_along [] [] (R ∷ GroupAlaph ∷ D ∷ []) [] ≡ []
late = refl

late_forms : forms [] (R ∷ GroupAlaph ∷ D ∷ []) [] ≡ ISOL ∷ ISOL ∷ ISOL ∷ []
late_forms = refl

late_at : at (sound_flags [] (R ∷ GroupAlaph ∷ D ∷ []) []) ≡ false ∷ true ∷ false ∷ []
late_at = refl

-- no law of concatenation where the second text has no letter and something follows it: D T alone
-- and U T before R have no flag at T, and D T before R has another form of D
alone_flags : joining_flags [] (D ∷ T ∷ []) [] ≡ UnsafeToConcat 0 1 ∷ []
alone_flags = refl

before_r_flags : joining_flags [] (U ∷ T ∷ []) (R ∷ []) ≡ []
before_r_flags = refl

alone_forms : forms [] (D ∷ T ∷ []) [] ≡ ISOL ∷ NONE ∷ []
alone_forms = refl

together_forms : forms [] (D ∷ T ∷ []) (R ∷ []) ≡ INIT ∷ NONE ∷ []
together_forms = refl

-- more rows of Sound: an Alaph behind R, and behind an Alaph; D that joins on to what stands behind the text
r_alaph : form_flags_along [] [] (R ∷ T ∷ GroupAlaph ∷ GroupAlaph ∷ []) [] ≡ UnsafeToBreak 2 4 ∷ []
r_alaph = refl

behind_text : at (sound_flags [] (D ∷ T ∷ T ∷ []) (R ∷ [])) ≡ true ∷ true ∷ false ∷ []
behind_text = refl

-- five transparent places: the flag reaches over them
five : at (sound_flags [] (GroupDalathRish ∷ T ∷ T ∷ T ∷ T ∷ T ∷ GroupAlaph ∷ []) []) ≡ true ∷ true ∷ true ∷ []
five = refl

-- D, selector: the copied form isn't the selector's own; another selector behind it; D, selector of its own form
selector : selector_flags [] ((0x1820, INIT) ∷ (0x180B, NONE) ∷ (0x1820, FINA) ∷ []) ≡ UnsafeToBreak 0 2 ∷ []
selector = refl

two_selectors : selector_flags [] ((0x1820, INIT) ∷ (0x180B, NONE) ∷ (0x180C, NONE) ∷ []) ≡ UnsafeToBreak 0 2
    ∷ UnsafeToBreak 1 3 ∷ []
two_selectors = refl

same_form : selector_flags [] ((0x180B, NONE) ∷ (0x180C, NONE) ∷ []) ≡ []
same_form = refl

-- with the flag of tatweels the calls leave bit 4 in place of bit 1: D D, clusters 0 and 1
two : Glyphs
two = default_glyph ∷ record default_glyph { cluster = 1 } ∷ []

masks_code : map (λ g. g.mask) (flags_called false false (sound_flags [] (D ∷ D ∷ []) []) two) ≡ 0 ∷ 3 ∷ []
unfolding two
masks_code = refl

masks_tatweel : map (λ g. g.mask) (flags_called false true (sound_flags [] (D ∷ D ∷ []) []) two) ≡ 0 ∷ 4 ∷ []
unfolding two
masks_tatweel = refl

-- R, then a selector that a table gives the type of Alaph: flagged by FIN2 and by the copy, and yet
-- the halves are the whole
odd_selector : forms [] (R ∷ GroupAlaph ∷ []) [] ≡ ISOL ∷ FIN2 ∷ []
odd_selector = refl

odd_whole : selected [] ((0x1820, ISOL) ∷ (0x180B, FIN2) ∷ []) ≡ ISOL ∷ ISOL ∷ []
odd_whole = refl

odd_halves : selected [] ((0x1820, ISOL) ∷ []) ++ selected [] ((0x180B, ISOL) ∷ []) ≡ ISOL ∷ ISOL ∷ []
odd_halves = refl

-- a form's mask with bit 1 flags a glyph that joining doesn't
masks_of_forms : map (λ g. g.mask) (with_joining_forms (1 ∷ []) (ISOL ∷ ISOL ∷ []) two) ≡ 1 ∷ 1 ∷ []
unfolding two
masks_of_forms = refl
