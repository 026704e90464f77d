-- The base of a syllable after substitutions. (OpenType, development of Indic scripts: "Final
-- reordering".)
use Rattle.std.specs.Prelude.{ℕ, suc, ◌+◌, ◌-◌, ◌==◌, nat_le, nat_lt, Bool, ◌&&◌, true, false, not, List, [], ◌∷◌, ◌++◌, length, map, take, drop, find, reverse, unwrap_or, Option, None, Some, is_some, if◌then◌else◌}
use Rattle.std.specs.List.{prefix_len}
use Rattle.std.specs.Option.{option_map_or}
use Rattle.shapers_buffer.specs.Glyphs.{Glyph, Glyphs}
use Rattle.shapers_buffer.specs.declared.buffer.tag.Script.{Script}
use Rattle.shapers_buffer.specs.Glyph.{at_position}
use Rattle.shapers_buffer.specs.Clusters.{with_stretch}
use Rattle.shapers_buffer.specs.Properties.{is_substituted}
use Rattle.shapers_base.specs.declared.plan.ot_category_t.TheConstants.{OT_H, OT_N, OT_ZWJ}
use Rattle.shapers_base.specs.declared.plan.ot_position_t.TheConstants.{POS_BASE_C, POS_BELOW_C}
use Rattle.shapers_indic.specs.Glyphs.{greatest_place, has_position, is_joiner, is_one_of, least_place, passes}
use Rattle.shapers_indic_final.specs.FinalGlyphs.{is_formed, is_indic_halant, recovered}
use Rattle.shapers_base.specs.Masks.{has_bits}
use Rattle.shapers_indic_final.specs.declared.ot_shaper_indic_final.rules.Rules.{Rules}
use Rattle.shapers_indic.specs.Plan.{is_malayalam}
use Rattle.shapers_syllabic.specs.Consonants.{is_consonant}

-- the first glyph whose position is the base's or one after it, else the end
abbrev pub is_from_base_on : Glyph → Bool
is_from_base_on g = nat_le POS_BASE_C g.auxiliary

abbrev pub first_base : Glyphs → ℕ
first_base gs = unwrap_or (least_place (passes is_from_base_on gs) 0 (length gs)) (length gs)

-- the first glyph after the base with the mask of pref
abbrev pub pref_place : ℕ → ℕ → Glyphs → Option ℕ
pref_place pref base gs = least_place (passes (has_bits pref) gs) (base + 1) (length gs)

-- that glyph, if pref did not apply to it: it is not both substituted and formed
abbrev pub is_unformed : Glyph → Bool
is_unformed g = not (is_substituted g.glyph_props && is_formed g)

abbrev pub if_unformed : Glyphs → Option ℕ → Option ℕ
if_unformed gs None = None
if_unformed gs (Some i) = if passes is_unformed gs i then Some i else None

abbrev pub unformed_pref : ℕ → ℕ → Glyphs → Option ℕ
unformed_pref pref base gs = if_unformed gs (pref_place pref base gs)

-- the base by pref: the first glyph from the unformed one on that is no halant, else the end
abbrev pub behind_halants : Glyphs → ℕ → ℕ
behind_halants gs i = i + prefix_len is_indic_halant (drop i gs)

abbrev pub base_by_pref : ℕ → ℕ → Glyphs → ℕ
base_by_pref pref base gs = option_map_or (behind_halants gs) (unformed_pref pref base gs) base

-- the glyphs with the base's position on it
abbrev pub with_base_at : ℕ → Glyphs → Glyphs
with_base_at i gs = with_stretch i (i + 1) (map (at_position POS_BASE_C)) gs

abbrev pub with_pref_base : ℕ → ℕ → Glyphs → Glyphs
with_pref_base pref base gs =
    if is_some (unformed_pref pref base gs) then with_base_at (base_by_pref pref base gs) gs else gs

-- Malayalam: a link is joiners, a halant, joiners, and one glyph. The places of the last glyphs of
-- the links that a list opens with, one after another, as long as there are links; its glyphs are
-- numbered from i, and one halant may have come before it.
abbrev pub links_from : Bool → ℕ → Glyphs → List ℕ
links_from halant i [] = []
links_from false i (g ∷ gs) =
    if is_joiner g then links_from false (suc i) gs
    else if is_indic_halant g then links_from true (suc i) gs else []
links_from true i (g ∷ gs) =
    if is_joiner g then links_from true (suc i) gs else i ∷ links_from false (suc i) gs

-- the list with its last glyphs of links changed
abbrev pub along_links : (Glyph → Glyph) → Bool → Glyphs →
    Glyphs
along_links f halant [] = []
along_links f false (g ∷ gs) =
    if is_joiner g then g ∷ along_links f false gs
    else if is_indic_halant g then g ∷ along_links f true gs else g ∷ gs
along_links f true (g ∷ gs) =
    if is_joiner g then g ∷ along_links f true gs else f g ∷ along_links f false gs

-- whether a linked glyph is a consonant without its below-base form; it gets the base's position
abbrev pub is_unformed_below : Glyph → Bool
is_unformed_below g = is_consonant g && has_position POS_BELOW_C g

abbrev pub as_linked : Glyph → Glyph
as_linked g = if is_unformed_below g then at_position POS_BASE_C g else g

-- the glyphs with the links after the base, and the base by links: the last such glyph
abbrev pub links_written : ℕ → Glyphs → Glyphs
links_written base gs = take (base + 1) gs ++ along_links as_linked false (drop (base + 1) gs)

abbrev pub with_links : Option Script → ℕ → Glyphs → Glyphs
with_links script base gs = if is_malayalam script then links_written base gs else gs

abbrev pub last_link : ℕ → Glyphs → ℕ
last_link base gs = unwrap_or (find (passes is_unformed_below gs)
    (reverse (links_from false (base + 1) (drop (base + 1) gs)))) base

abbrev pub base_by_links : Option Script → ℕ → Glyphs → ℕ
base_by_links script base gs = if is_malayalam script then last_link base gs else base

-- a base whose position is one after the base's is none: what stands before it in the syllable is
abbrev pub is_behind_base : Glyph → Bool
is_behind_base g = nat_lt POS_BASE_C g.auxiliary

abbrev pub stepped_back : ℕ → Glyphs → ℕ
stepped_back base gs = if passes is_behind_base gs base then base - 1 else base

-- from the end it goes back over a ZWJ there; and from a nukta or halant to the nearest glyph
-- before it that is neither, else to the start
abbrev pub before_joiner : ℕ → Glyphs → ℕ
before_joiner base gs =
    if base == length gs && passes (is_one_of (OT_ZWJ ∷ [])) gs (base - 1) then base - 1 else base

abbrev pub is_base_like : Glyph → Bool
is_base_like g = not (is_one_of (OT_N ∷ OT_H ∷ []) g)

abbrev pub before_halants : ℕ → Glyphs → ℕ
before_halants base gs =
    if base == length gs then base
    else unwrap_or (greatest_place (passes is_base_like gs) 1 (base + 1)) 0

abbrev pub found_base : ℕ → Glyphs → ℕ
found_base base gs = before_halants (before_joiner base gs) gs

-- the syllable with its viramas recovered
abbrev pub with_viramas : Rules → Glyphs → Glyphs
with_viramas r gs = map (recovered r.virama) gs

-- A syllable with its base: its glyphs with the positions that the search gives, the place of the
-- base, or the end, and whether a formed pref glyph may still go before it.
pub record Based : Type 0 where
  pub glyphs : Glyphs
  pub base : ℕ
  pub tries_pref : Bool

-- so of a syllable with its viramas: the base by pref, then by links, then where it settles
abbrev pub with_final_base : Rules → Option Script → Glyphs → Based
with_final_base r script gs =
    let first = first_base gs in
    let by_pref = base_by_pref r.pref first gs in
    let opened = with_pref_base r.pref first gs in
    let linked = with_links script by_pref opened in
    record {
      glyphs = linked;
      base = found_base (stepped_back (base_by_links script by_pref opened) linked) linked;
      tries_pref = not (r.pref == 0) && not (is_some (unformed_pref r.pref first gs));
    }
