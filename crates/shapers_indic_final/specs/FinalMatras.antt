-- Left matras: where they go before the base, and what merges. (OpenType, development of Indic
-- scripts: "Reorder matras".)
use Rattle.std.specs.Prelude.{ℕ, ◌+◌, ◌-◌, ◌==◌, min, nat_lt, Bool, ◌&&◌, not, List, [], ◌∷◌, ◌++◌, length, map, filter, reverse, unwrap_or, Option, None, Some, if◌then◌else◌}
use Rattle.std.specs.List.{enumerate_from}
use Rattle.shapers_buffer.specs.Glyphs.{Glyph, Glyphs}
use Rattle.shapers_buffer.specs.declared.buffer.tag.Script.{Script}
use Rattle.shapers_buffer.specs.Lists.{first_last}
use Rattle.shapers_buffer.specs.Clusters.{with_stretch}
use Rattle.shapers_base.specs.declared.plan.ot_category_t.TheConstants.{OT_ZWJ}
use Rattle.shapers_base.specs.declared.plan.ot_position_t.TheConstants.{POS_PRE_M}
use Rattle.shapers_clusters.specs.Steps.{Step}
use Rattle.shapers_indic.specs.Glyphs.{greatest_place, has_category, has_position, least_place, passes, places}
use Rattle.shapers_indic_final.specs.FinalGlyphs.{is_indic_halant, is_matra_or_halant}
use Rattle.shapers_indic_final.specs.FinalRules.{has_no_half_forms}

-- whether a glyph is a left matra; a halant that belongs to none
abbrev pub is_left : Glyph → Bool
is_left = has_position POS_PRE_M

abbrev pub is_free_halant : Glyph → Bool
is_free_halant g = is_indic_halant g && not (is_left g)

-- whether place i ends the search: a matra or halant, but no free halant requesting a half form
abbrev pub ends_search : Glyphs → ℕ → Bool
ends_search gs i = passes is_matra_or_halant gs i
    && not (passes is_free_halant gs i && passes (has_category OT_ZWJ) gs (i + 1))

-- the last place before the base, or before the last glyph where there is no base
abbrev pub place_before : ℕ → Glyphs → ℕ
place_before base gs = if base == length gs then base - 2 else base - 1

-- where left matras go: to what ends the search leftwards, if that is a free halant, else the start
abbrev pub halant_or_start : Glyphs → ℕ → ℕ
halant_or_start gs i = if passes is_free_halant gs i then i else 0

abbrev pub nearest_halant : ℕ → Glyphs → ℕ
nearest_halant p gs = halant_or_start gs (unwrap_or (greatest_place (ends_search gs) 0 (p + 1)) 0)

-- the place that left matras go to, the start if they stay
abbrev pub matra_target : Option Script → ℕ → Glyphs → ℕ
matra_target script base gs =
    if has_no_half_forms script then place_before base gs
    else nearest_halant (place_before base gs) gs

-- whether there may be left matras before a base, and whether they go to a place
abbrev pub has_room : ℕ → Glyphs → Bool
has_room base gs = nat_lt 1 (length gs) && nat_lt 0 base

abbrev pub takes_matras : ℕ → Glyphs → Bool
takes_matras p gs = nat_lt 0 p && not (passes is_left gs p)

-- a list parted: what doesn't pass the test, and then what does, both in their order
abbrev pub partitioned : {X : Type 0} → (X → Bool) → List X → List X
partitioned test xs = filter (λ x. not (test x)) xs ++ filter test xs

-- the syllable with its left matras at their place
abbrev pub with_matras : Option Script → ℕ → Glyphs → Glyphs
with_matras script base gs =
    let p = matra_target script base gs in
    if has_room base gs && takes_matras p gs
    then with_stretch 0 (p + 1) (partitioned is_left) gs else gs

-- the end of what merges: the base with it, if there is one
abbrev pub end_of_base : ℕ → Glyphs → ℕ
end_of_base base gs = min (length gs) (base + 1)

-- the step of n places in which glyph i goes behind those up to j, and then all from j to e merges
abbrev pub matra_step : ℕ → ℕ → ℕ → ℕ → Step
matra_step n e i j = record {
  merged_first = [];
  places = with_stretch i (j + 1) first_last (places 0 n);
  merged_then = (j, e) ∷ [];
}

-- the places of the left matras before p, the last first; it goes to p, each further one before it
abbrev pub left_places : ℕ → Glyphs → List ℕ
left_places p gs = reverse (filter (passes is_left gs) (places 0 p))

abbrev pub partition_steps : ℕ → ℕ → Glyphs → List Step
partition_steps p e gs =
    map (λ t. matra_step (length gs) e t.1 (p - t.0)) (enumerate_from 0 (left_places p gs))

-- where they stay, the first one merges with all up to the base
abbrev pub merging_step : ℕ → ℕ → Option ℕ → List Step
merging_step n e None = []
merging_step n e (Some i) =
    record { merged_first = (i, e) ∷ []; places = places 0 n; merged_then = [] } ∷ []

abbrev pub staying_steps : ℕ → Glyphs → List Step
staying_steps base gs =
    merging_step (length gs) (end_of_base base gs) (least_place (passes is_left gs) 0 base)

-- the steps of the left matras
abbrev pub steps_before : Option Script → ℕ → Glyphs → List Step
steps_before script base gs =
    let p = matra_target script base gs in
    if takes_matras p gs then partition_steps p (end_of_base base gs) gs else staying_steps base gs

abbrev pub matra_steps : Option Script → ℕ → Glyphs → List Step
matra_steps script base gs = if has_room base gs then steps_before script base gs else []
