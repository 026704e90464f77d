-- The base consonant and the reph of a syllable. (OpenType, development of Indic scripts: "Find
-- base consonant".)
use Rattle.std.specs.Prelude.{ℕ, suc, ◌+◌, ◌-◌, ◌==◌, min, nat_le, nat_lt, Bool, ◌&&◌, ◌||◌, false, not, List, [], ◌∷◌, length, take, drop, unwrap_or, Option, Some, codes, if◌then◌else◌}
use Rattle.std.specs.List.{prefix_len}
use Rattle.std.specs.Option.{option_map_or, option_or}
use Rattle.shapers_buffer.specs.Glyphs.{Glyph, Glyphs}
use Rattle.shapers_buffer.specs.declared.buffer.tag.Script.{Script}
use Rattle.shapers_base.specs.declared.font.GlyphId.{GlyphId}
use Rattle.shapers_base.specs.declared.plan.indic.BaseSearch.{BaseSearch}
use Rattle.shapers_base.specs.declared.plan.indic.BaseSearch.TheVariants.{WithoutMedials, AllConsonants}
use Rattle.shapers_base.specs.declared.plan.indic.RephMode.{RephMode}
use Rattle.shapers_base.specs.declared.plan.indic.RephMode.TheVariants.{Implicit, Explicit, LogRepha}
use Rattle.shapers_base.specs.declared.plan.ot_category_t.TheConstants.{OT_C, OT_CM, OT_CS, OT_DOTTEDCIRCLE, OT_H, OT_PLACEHOLDER, OT_Ra, OT_Repha, OT_V, OT_ZWJ}
use Rattle.shapers_base.specs.declared.plan.ot_position_t.TheConstants.{POS_BELOW_C, POS_POST_C}
use Rattle.shapers_indic.specs.declared.ot_shaper_indic.indic_feature.TheConstants.{RPHF}
use Rattle.shapers_indic.specs.Glyphs.{greatest_place, has_category, has_position, is_joiner, is_one_of, least_place, numbers, passes, some_place}
use Rattle.shapers_indic_initial.specs.InitialRules.{Rules, mask_at}
use Rattle.shapers_indic.specs.Plan.{is_script}

-- whether a syllable begins with Ra, H, ZWJ
abbrev pub begins_with_ra_h_zwj : Glyphs → Bool
begins_with_ra_h_zwj (a ∷ (b ∷ (c ∷ gs))) =
    is_one_of (OT_Ra ∷ []) a && is_one_of (OT_H ∷ []) b && is_one_of (OT_ZWJ ∷ []) c
begins_with_ra_h_zwj _ = false

-- Kannada writes an opening Ra, H, ZWJ as it does Ra, ZWJ, H: the last two change places
abbrev pub joiner_comes_first : Option Script → Glyphs → Bool
joiner_comes_first script gs =
    is_script script (Some (record { 0 = codes "Knda" })) && begins_with_ra_h_zwj gs

-- whether a third glyph lets two be a reph: no joiner, if it is Ra, H; the ZWJ of Ra, H, ZWJ
abbrev pub lets_reph : RephMode → Glyph → Bool
lets_reph Implicit g = not (is_joiner g)
lets_reph Explicit g = has_category OT_ZWJ g
lets_reph LogRepha g = false

abbrev pub third_lets_reph : RephMode → Glyphs → Bool
third_lets_reph mode (a ∷ (b ∷ (c ∷ gs))) = lets_reph mode c
third_lets_reph mode _ = false

-- whether the font forms a reph of the first two glyphs, or if written explicitly of three
abbrev pub reph_is_formed : RephMode → (List GlyphId → Bool) → Glyphs → Bool
reph_is_formed Implicit forms gs = forms (numbers (take 2 gs))
reph_is_formed Explicit forms gs = forms (numbers (take 2 gs)) || forms (numbers (take 3 gs))
reph_is_formed LogRepha forms gs = false

-- whether a reph that is a character of its own begins the syllable, in a script that writes it so
abbrev pub begins_with_repha : RephMode → Glyphs → Bool
begins_with_repha LogRepha (g ∷ gs) = has_category OT_Repha g
begins_with_repha _ _ = false

-- whether it is up to the font: rphf has a mask, and the third glyph lets the first two be a reph
abbrev pub font_decides_reph : Rules → Glyphs → Bool
font_decides_reph r gs = not (mask_at r RPHF == 0) && third_lets_reph r.config.reph_mode gs

-- how many glyphs an opening reph has, without joiners behind it; 0 where there is none
abbrev pub indic_reph_len : Rules → Glyphs → ℕ
indic_reph_len r gs =
    if font_decides_reph r gs then
    (if reph_is_formed r.config.reph_mode r.forms_reph gs then 2 else 0)
    else if begins_with_repha r.config.reph_mode gs then 1 else 0

-- the limit of the search: behind a reph of n glyphs and the joiners that follow it, or the start
abbrev pub limit_behind : ℕ → Glyphs → ℕ
limit_behind n gs = if n == 0 then 0 else n + prefix_len is_joiner (drop n gs)

abbrev pub limit : Rules → Glyphs → ℕ
limit r gs = limit_behind (indic_reph_len r gs) gs

-- the category of the medial consonants, where they are searched too
abbrev pub searched_medials : BaseSearch → List ℕ
searched_medials WithoutMedials = []
searched_medials AllConsonants = OT_CM ∷ []

-- whether a glyph is a consonant that may be the base, and whether the one at place i is
abbrev pub is_base_candidate : BaseSearch → Glyph → Bool
is_base_candidate search =
    is_one_of (OT_C ∷ OT_CS ∷ OT_Ra ∷ OT_V ∷ OT_PLACEHOLDER ∷ OT_DOTTEDCIRCLE
    ∷ searched_medials search)

abbrev pub may_be_base : BaseSearch → Glyphs → ℕ → Bool
may_be_base search gs i = passes (is_base_candidate search) gs i

-- whether it stops the search: a ZWJ behind an H requests a half form of what stands before it
abbrev pub stops_search : Glyphs → ℕ → Bool
stops_search gs i =
    nat_lt 0 i && passes (has_category OT_ZWJ) gs i && passes (has_category OT_H) gs (i - 1)

-- where the search ends: at the limit or the last glyph, or behind the last one that stops it
abbrev pub search_from : ℕ → Glyphs → ℕ
search_from lo gs = option_map_or suc (greatest_place (stops_search gs) lo (length gs)) lo

abbrev pub search_start : Rules → Glyphs → ℕ
search_start r gs = search_from (min (limit r gs) (length gs - 1)) gs

-- whether the consonant at place i has a below-base form
abbrev pub has_below_form : BaseSearch → Glyphs → ℕ → Bool
has_below_form search gs i = may_be_base search gs i && passes (has_position POS_BELOW_C) gs i

-- whether the search may end with the consonant at place i: it has no below-base and no post-base
-- form; but a post-base form follows below-base ones, so before one of those it counts as none
abbrev pub is_base : BaseSearch → Glyphs → ℕ → Bool
is_base search gs i = may_be_base search gs i && not (has_below_form search gs i)
    && (not (passes (has_position POS_POST_C) gs i)
    || some_place (has_below_form search gs) (i + 1) (length gs))

-- the last such consonant, else the first one that may be the base
abbrev pub last_or_first : BaseSearch → ℕ → Glyphs → Option ℕ
last_or_first search start gs =
    option_or (greatest_place (is_base search gs) start (length gs))
    (least_place (may_be_base search gs) start (length gs))

-- the base: that one, else the reph, else none
abbrev pub base_from : BaseSearch → ℕ → ℕ → Glyphs → ℕ
base_from search start otherwise gs = unwrap_or (last_or_first search start gs) otherwise

abbrev pub base_place : Rules → Glyphs → ℕ
base_place r gs =
    base_from r.search (search_start r gs) (if indic_reph_len r gs == 0 then length gs else 0) gs

-- whether the syllable has a reph: one opens it, with another base or a joiner that forces the reph
abbrev pub has_indic_reph : Rules → Glyphs → Bool
has_indic_reph r gs =
    not (indic_reph_len r gs == 0) && not (base_place r gs == 0 && nat_le (limit r gs) 2)
