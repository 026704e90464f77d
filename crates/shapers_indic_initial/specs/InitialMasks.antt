-- The masks of a syllable in its new order, by where its base stands. (OpenType, development of
-- Indic scripts: which features apply where.)
use Rattle.std.specs.Prelude.{ℕ, ◌+◌, ◌-◌, ◌==◌, nat_lt, bit_and, bit_or, Bool, ◌&&◌, ◌||◌, true, false, not, [], ◌∷◌, length, map, take, Option, None, Some, codes, if◌then◌else◌}
use Rattle.std.specs.List.{enumerate_from, list_any, prefix_len}
use Rattle.shapers_buffer.specs.Glyphs.{Glyph, Glyphs}
use Rattle.shapers_buffer.specs.declared.buffer.tag.Script.{Script}
use Rattle.shapers_buffer.specs.Clusters.{stretch_of, with_stretch}
use Rattle.shapers_buffer.specs.GlyphFlags.{with_bits}
use Rattle.shapers_base.specs.declared.plan.indic.BlwfMode.{BlwfMode}
use Rattle.shapers_base.specs.declared.plan.indic.BlwfMode.TheVariants.{PreAndPost, PostOnly}
use Rattle.shapers_base.specs.declared.plan.ot_category_t.TheConstants.{OT_H, OT_Ra, OT_ZWJ, OT_ZWNJ}
use Rattle.shapers_base.specs.declared.plan.ot_position_t.TheConstants.{POS_RA_TO_BECOME_REPH}
use Rattle.shapers_indic.specs.declared.ot_shaper_indic.indic_feature.TheConstants.{ABVF, BLWF, HALF, PREF, PSTF, RPHF}
use Rattle.shapers_indic.specs.Glyphs.{has_category, has_position, is_one_of, least_place, numbers, passes}
use Rattle.shapers_indic_initial.specs.InitialRules.{Rules, mask_at}
use Rattle.shapers_indic.specs.Plan.{bits_at, is_script}
use Rattle.shapers_syllabic.specs.Consonants.{is_consonant}

-- the bits that a feature gives
abbrev pub bits_of : Rules → ℕ → ℕ
bits_of r feature = bits_at r.masks feature

-- the reph in front gets the mask of rphf
abbrev pub with_reph_mask : Rules → Glyphs → Glyphs
with_reph_mask r gs = with_stretch 0 (prefix_len (has_position POS_RA_TO_BECOME_REPH) gs)
    (map (with_bits (bits_of r RPHF))) gs

-- whether below-base forms stand before the base, too
abbrev pub applies_before_base : BlwfMode → Bool
applies_before_base PreAndPost = true
applies_before_base PostOnly = false

-- the masks before the base and after it, which each glyph on that side gets; the base gets neither
abbrev pub mask_before_base : Rules → ℕ
mask_before_base r =
    if not r.old
    && applies_before_base r.config.blwf_mode then bit_or (bits_of r HALF) (bits_of r BLWF)
    else bits_of r HALF

abbrev pub mask_after_base : Rules → ℕ
mask_after_base r = bit_or (bit_or (bits_of r BLWF) (bits_of r ABVF)) (bits_of r PSTF)

abbrev pub with_masks_around : Rules → ℕ → Glyphs → Glyphs
with_masks_around r base gs =
    with_stretch (base + 1) (length gs) (map (with_bits (mask_after_base r)))
    (with_stretch 0 base (map (with_bits (mask_before_base r))) gs)

-- an eyelash Ra: at place i stand Ra and H, both before the base, and no ZWJ behind them before it
abbrev pub begins_eyelash : ℕ → Glyphs → ℕ → Bool
begins_eyelash base gs i =
    nat_lt (i + 1) base && passes (has_category OT_Ra) gs i && passes (has_category OT_H) gs (i + 1)
    && not (nat_lt (i + 2) base && passes (has_category OT_ZWJ) gs (i + 2))

abbrev pub is_in_eyelash : ℕ → Glyphs → ℕ → Bool
is_in_eyelash base gs i = begins_eyelash base gs i || (nat_lt 0 i && begins_eyelash base gs (i - 1))

-- in the older specification of Devanagari both glyphs of such a Ra get the mask of blwf
abbrev pub has_eyelash : Rules → Option Script → Bool
has_eyelash r script = r.old && is_script script (Some (record { 0 = codes "Deva" }))

abbrev pub with_eyelash_mask : Rules → Option Script → ℕ → Glyphs →
    Glyphs
with_eyelash_mask r script base gs =
    map (λ t. if has_eyelash r script
    && is_in_eyelash base gs t.0 then with_bits (bits_of r BLWF) t.1
    else t.1) (enumerate_from 0 gs)

-- the first two neighbours after the base that pref would substitute, by the place of the first
abbrev pub pref_pair : Rules → ℕ → Glyphs → Option ℕ
pref_pair r base gs =
    if not (mask_at r PREF == 0)
    && nat_lt (base + 2) (length gs) then least_place
    (λ i. r.forms_pref (numbers (stretch_of i (i + 2) gs))) (base + 1) (length gs - 1)
    else None

-- both get its mask
abbrev pub with_bits_on_pair : ℕ → Option ℕ → Glyphs → Glyphs
with_bits_on_pair bits None gs = gs
with_bits_on_pair bits (Some i) gs = with_stretch i (i + 2) (map (with_bits bits)) gs

abbrev pub with_pref_mask : Rules → ℕ → Glyphs → Glyphs
with_pref_mask r base gs = with_bits_on_pair (bits_of r PREF) (pref_pair r base gs) gs

-- whether a glyph before these has no half form: a ZWNJ stands among them before the next consonant
abbrev pub loses_half : Glyphs → Bool
loses_half after =
    list_any (is_one_of (OT_ZWNJ ∷ [])) (take (prefix_len (λ g. not (is_consonant g)) after) after)

abbrev pub without_bits : ℕ → Glyph → Glyph
without_bits bits g = record g { mask = bit_and g.mask (0xFFFFFFFF - bits) }

-- those glyphs lose the mask of half
abbrev pub without_half : ℕ → Glyphs → Glyphs
without_half bits [] = []
without_half bits (g ∷ gs) =
    (if loses_half gs then without_bits bits g else g) ∷ without_half bits gs

-- all masks
abbrev pub with_initial_masks : Rules → Option Script → ℕ → Glyphs →
    Glyphs
with_initial_masks r script base gs =
    without_half (bits_of r HALF) (with_pref_mask r base
    (with_eyelash_mask r script base (with_masks_around r base (with_reph_mask r gs))))
