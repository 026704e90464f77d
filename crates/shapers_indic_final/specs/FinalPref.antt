-- A glyph formed by pref goes before the base. (OpenType, development of Indic scripts: "Reorder
-- pre-base-reordering consonants".)
use Rattle.std.specs.Prelude.{ℕ, suc, ◌+◌, ◌-◌, nat_lt, Bool, ◌&&◌, List, [], ◌∷◌, length, Option, None, Some, if◌then◌else◌}
use Rattle.std.specs.Option.{option_map_or}
use Rattle.shapers_buffer.specs.Glyphs.{Glyphs}
use Rattle.shapers_buffer.specs.declared.buffer.tag.Script.{Script}
use Rattle.shapers_buffer.specs.Clusters.{with_stretch}
use Rattle.shapers_clusters.specs.Steps.{Step}
use Rattle.shapers_indic.specs.Glyphs.{greatest_place, is_joiner, passes, places}
use Rattle.shapers_indic_final.specs.FinalBase.{pref_place}
use Rattle.shapers_indic_final.specs.FinalGlyphs.{is_formed, is_indic_halant, is_matra_or_halant, last_goes_first}
use Rattle.shapers_indic_final.specs.FinalRules.{has_no_half_forms}

-- the first glyph after the base with the mask of pref, if it is formed
abbrev pub if_formed : Glyphs → Option ℕ → Option ℕ
if_formed gs None = None
if_formed gs (Some i) = if passes is_formed gs i then Some i else None

abbrev pub formed_pref : ℕ → ℕ → Glyphs → Option ℕ
formed_pref pref base gs = if_formed gs (pref_place pref base gs)

-- the place behind the nearest matra or halant before the base, else 0; without half forms the base
abbrev pub place_before_base : Option Script → ℕ → Glyphs → ℕ
place_before_base script base gs =
    if has_no_half_forms script then base
    else option_map_or suc (greatest_place (passes is_matra_or_halant gs) 0 base) 0

-- but behind a joiner there that follows a halant
abbrev pub is_joiner_behind_halant : Glyphs → ℕ → Bool
is_joiner_behind_halant gs i =
    nat_lt 0 i && passes is_indic_halant gs (i - 1) && passes is_joiner gs i

abbrev pub pref_target : Option Script → ℕ → Glyphs → ℕ
pref_target script base gs =
    let i = place_before_base script base gs in
    if is_joiner_behind_halant gs i then i + 1 else i

-- the syllable with the glyph of place i moved to the front of what stands from place j on
abbrev pub moved_before : {X : Type 0} → ℕ → Option ℕ → List X → List X
moved_before j None xs = xs
moved_before j (Some i) xs = with_stretch j (i + 1) last_goes_first xs

abbrev pub with_pref : ℕ → Option Script → ℕ → Glyphs → Glyphs
with_pref pref script base gs =
    moved_before (pref_target script base gs) (formed_pref pref base gs) gs

-- the step of n places in which all from place j up to place i merges, and glyph i goes to j
abbrev pub pref_move : ℕ → ℕ → ℕ → Step
pref_move n j i = record {
  merged_first = (j, i + 1) ∷ [];
  places = with_stretch j (i + 1) last_goes_first (places 0 n);
  merged_then = [];
}

abbrev pub pref_step : ℕ → ℕ → Option ℕ → List Step
pref_step n j None = []
pref_step n j (Some i) = pref_move n j i ∷ []

abbrev pub pref_steps : ℕ → Option Script → ℕ → Glyphs → List Step
pref_steps pref script base gs =
    pref_step (length gs) (pref_target script base gs) (formed_pref pref base gs)
