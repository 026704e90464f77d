-- The reph: whether it moves, and where to. (OpenType, development of Indic scripts: "Reorder
-- reph".)
use Rattle.std.specs.Prelude.{ℕ, ◌+◌, ◌-◌, ◌==◌, nat_le, nat_lt, Bool, ◌&&◌, ◌||◌, false, not, List, [], ◌∷◌, length, drop, count_by, unwrap_or, Option, if◌then◌else◌}
use Rattle.std.specs.List.{list_any, prefix_len}
use Rattle.std.specs.Option.{option_map_or}
use Rattle.shapers_buffer.specs.Glyphs.{Glyph, Glyphs}
use Rattle.shapers_buffer.specs.Lists.{first_last}
use Rattle.shapers_buffer.specs.Clusters.{stretch_of, with_stretch}
use Rattle.shapers_base.specs.declared.plan.indic.RephPosition.{RephPosition}
use Rattle.shapers_base.specs.declared.plan.indic.RephPosition.TheVariants.{AfterMain, AfterSub}
use Rattle.shapers_base.specs.declared.plan.ot_category_t.TheConstants.{OT_Repha}
use Rattle.shapers_base.specs.declared.plan.ot_position_t.TheConstants.{POS_AFTER_MAIN, POS_AFTER_POST, POS_POST_C, POS_RA_TO_BECOME_REPH, POS_SMVD}
use Rattle.shapers_clusters.specs.Steps.{Step}
use Rattle.shapers_indic.specs.Glyphs.{greatest_place, has_category, has_position, is_joiner, is_matra, least_place, passes, places}
use Rattle.shapers_indic_final.specs.FinalGlyphs.{is_formed, is_indic_halant}

-- whether a glyph is a reph that moves: a formed one, or a character of its own that is not formed
abbrev pub is_moving_reph : Glyph → Bool
is_moving_reph g = has_position POS_RA_TO_BECOME_REPH g
    && not (has_category OT_Repha g && is_formed g) && (has_category OT_Repha g || is_formed g)

-- whether it begins a syllable of two or more
abbrev pub begins_with_reph : Glyphs → Bool
begins_with_reph (g ∷ (h ∷ gs)) = is_moving_reph g
begins_with_reph _ = false

-- the place behind the first halant before the base and a joiner there; by the halant's place
abbrev pub halant_after_start : ℕ → Glyphs → Option ℕ
halant_after_start base gs = least_place (passes is_indic_halant gs) 1 base

abbrev pub with_joiner : ℕ → Glyphs → ℕ → ℕ
with_joiner base gs h = if nat_lt (h + 1) base && passes is_joiner gs (h + 1) then h + 1 else h

-- after the main consonant: the end of the stretch behind the base of positions up to AFTER_MAIN;
-- after below-base forms: of those that are not post-base, after it, or a sign's
abbrev pub is_with_main : Glyph → Bool
is_with_main g = nat_le g.auxiliary POS_AFTER_MAIN

abbrev pub is_with_sub : Glyph → Bool
is_with_sub g = not (list_any (λ p. p == g.auxiliary) (POS_POST_C ∷ POS_AFTER_POST ∷ POS_SMVD ∷ []))

abbrev pub end_of_rephs : (Glyph → Bool) → ℕ → Glyphs → ℕ
end_of_rephs test base gs = base + prefix_len test (drop (base + 1) gs)

-- the end of the syllable: its last glyph that is no sign, but not between matras and their halant
abbrev pub last_but_signs : Glyphs → ℕ
last_but_signs gs =
    unwrap_or (greatest_place (λ i. not (passes (has_position POS_SMVD) gs i)) 0 (length gs)) 0

abbrev pub matras_between : ℕ → ℕ → Glyphs → ℕ
matras_between base last gs = count_by is_matra (stretch_of (base + 1) last gs)

abbrev pub at_end : ℕ → Glyphs → ℕ
at_end base gs =
    let last = last_but_signs gs in
    if passes is_indic_halant gs last then last - matras_between base last gs else last

-- where the reph goes without a halant before the base, by the script
abbrev pub behind_base : RephPosition → ℕ → Glyphs → ℕ
behind_base AfterMain base gs =
    if nat_lt base (length gs) then end_of_rephs is_with_main base gs else at_end base gs
behind_base AfterSub base gs =
    if nat_lt base (length gs) then end_of_rephs is_with_sub base gs else at_end base gs
behind_base _ base gs = at_end base gs

-- where the reph goes
abbrev pub reph_target : RephPosition → ℕ → Glyphs → ℕ
reph_target position base gs =
    option_map_or (with_joiner base gs) (halant_after_start base gs) (behind_base position base gs)

-- the syllable with the reph there, and where its base stands then
abbrev pub with_reph : RephPosition → ℕ → Glyphs → Glyphs
with_reph position base gs =
    if begins_with_reph gs then with_stretch 0 (reph_target position base gs + 1) first_last gs
    else gs

abbrev pub carried_along : ℕ → ℕ → ℕ
carried_along base target = if nat_lt 0 base && nat_le base target then base - 1 else base

abbrev pub base_after_reph : RephPosition → ℕ → Glyphs → ℕ
base_after_reph position base gs =
    if begins_with_reph gs then carried_along base (reph_target position base gs) else base

-- the step of n places in which all up to place j merges, and the first glyph goes there
abbrev pub final_reph_step : ℕ → ℕ → Step
final_reph_step n j = record {
  merged_first = (0, j + 1) ∷ [];
  places = with_stretch 0 (j + 1) first_last (places 0 n);
  merged_then = [];
}

abbrev pub reph_steps : RephPosition → ℕ → Glyphs → List Step
reph_steps position base gs =
    if begins_with_reph gs then final_reph_step (length gs) (reph_target position base gs) ∷ []
    else []
