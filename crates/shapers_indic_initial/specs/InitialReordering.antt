-- The initial reordering of a syllable: what it becomes, and the merges and moves that lead there.
-- (OpenType, development of Indic scripts.)
use Rattle.std.specs.Prelude.{ℕ, Bool, List, [], ◌∷◌, ◌++◌, length, Option, if◌then◌else◌}
use Rattle.shapers_buffer.specs.Glyphs.{Glyphs}
use Rattle.shapers_buffer.specs.declared.buffer.tag.Script.{Script}
use Rattle.shapers_buffer.specs.Buffer.{Buffer}
use Rattle.shapers_buffer.specs.Places.{pick}
use Rattle.shapers_clusters.specs.Steps.{Step, still_step, swap_step}
use Rattle.shapers_indic_initial.specs.InitialBase.{base_place, has_indic_reph, joiner_comes_first}
use Rattle.shapers_indic_initial.specs.InitialMasks.{with_initial_masks}
use Rattle.shapers_indic_initial.specs.InitialOrder.{ordered_base, indic_ordered_places, ordered_stretches}
use Rattle.shapers_indic_initial.specs.InitialPositions.{by_base, halant_places, with_marks_attached, with_owners_after}
use Rattle.shapers_indic_initial.specs.InitialRules.{Rules}
use Rattle.shapers_syllabic.specs.Circles.{is_of_kinds}
use Rattle.shapers_syllabic.specs.Reordering.{SyllableReordered}
use Rattle.shapers_syllabic.specs.declared.ot_shaper_syllabic.kinds.indic_syllable.TheConstants.{BROKEN_CLUSTER, CONSONANT_SYLLABLE, STANDALONE_CLUSTER, VOWEL_SYLLABLE}

-- whether a syllable is reordered: one of a consonant or a vowel, a standalone one, or a broken one
abbrev pub is_reordered_in_indic : Glyphs → Bool
is_reordered_in_indic gs =
    is_of_kinds (CONSONANT_SYLLABLE ∷ VOWEL_SYLLABLE ∷ STANDALONE_CLUSTER ∷ BROKEN_CLUSTER ∷ []) gs

-- the step of Kannada: H and a ZWJ behind it merge and change places
abbrev pub joiner_step : Option Script → Glyphs → Step
joiner_step script gs =
    if joiner_comes_first script gs then swap_step (length gs) 1 else still_step (length gs)

abbrev pub joiner_steps : Option Script → Glyphs → List Step
joiner_steps script gs = joiner_step script gs ∷ []

-- the syllable after it
abbrev pub with_joiner_first : Option Script → Glyphs → Glyphs
with_joiner_first script gs = pick (joiner_step script gs).places gs

-- the syllable with its positions by the base
abbrev pub with_base_positions : Rules → Glyphs → Glyphs
with_base_positions r gs = by_base (base_place r gs) (has_indic_reph r gs) gs

-- the step of the older specification's H
abbrev pub halant_step : Rules → Option Script → ℕ → Glyphs → Step
halant_step r script base gs =
    record { merged_first = []; places = halant_places r script base gs; merged_then = [] }

abbrev pub halant_steps : Rules → Option Script → ℕ → Glyphs → List Step
halant_steps r script base gs = halant_step r script base gs ∷ []

-- the syllable in which it has moved
abbrev pub with_halant_moved : Rules → Option Script → ℕ → Glyphs →
    Glyphs
with_halant_moved r script base gs = pick (halant_places r script base gs) gs

-- the positions of marks and of what consonants own
abbrev pub with_marks_and_owners : ℕ → Glyphs → Glyphs
with_marks_and_owners base gs = with_owners_after base (with_marks_attached gs)

-- the syllable after that, all its positions set
abbrev pub with_all_positions : Rules → Option Script → ℕ → Glyphs →
    Glyphs
with_all_positions r script base gs =
    with_marks_and_owners base (with_halant_moved r script base gs)

abbrev pub positioned : Rules → Option Script → Glyphs → Glyphs
positioned r script gs =
    let opened = with_joiner_first script gs in
    with_all_positions r script (base_place r opened) (with_base_positions r opened)

-- the steps on the way there
abbrev pub first_steps : Rules → Option Script → Glyphs → List Step
first_steps r script gs =
    let opened = with_joiner_first script gs in
    joiner_step script gs
    ∷ halant_step r script (base_place r opened) (with_base_positions r opened) ∷ []

-- a syllable with positions in the order that they give
abbrev pub in_indic_order : Glyphs → Glyphs
in_indic_order gs = pick (indic_ordered_places gs) gs

-- the step of the order, and what merges then
abbrev pub indic_order_step : Rules → Glyphs → Step
indic_order_step r gs = record {
  merged_first = [];
  places = indic_ordered_places gs;
  merged_then = ordered_stretches r (indic_ordered_places gs) (ordered_base (in_indic_order gs));
}

-- an ordered syllable with its masks
abbrev pub masked_in_order : Rules → Option Script → Glyphs → Glyphs
masked_in_order r script gs = with_initial_masks r script (ordered_base gs) gs

-- what a syllable becomes
abbrev pub initial_order : Rules → Option Script → Glyphs → Glyphs
initial_order r script gs =
    if is_reordered_in_indic gs
    then masked_in_order r script (in_indic_order (positioned r script gs)) else gs

-- the steps that lead there: those of the positions, and then that of the order
abbrev pub steps_of_reordered : Rules → Option Script → Glyphs → List Step
steps_of_reordered r script gs =
    first_steps r script gs ++ indic_order_step r (positioned r script gs) ∷ []

abbrev pub initial_steps : Rules → Option Script → Glyphs → List Step
initial_steps r script gs = if is_reordered_in_indic gs then steps_of_reordered r script gs else []

-- the buffer before and after the syllable from one place to another is reordered
abbrev pub InitialRelation : Rules → ℕ → ℕ → Buffer → Buffer → Type 0
InitialRelation r s e old new =
    SyllableReordered (initial_order r old.script) (initial_steps r old.script) s e old new
