-- What the order of a syllable makes of its clusters, without cycles, as a statement.
use Rattle.std.specs.Prelude.{ℕ, suc, ◌+◌, ◌<◌, ◌≡◌, ◌||◌, max, min, nat_lt, true, List, [], ◌∷◌, ◌++◌, length, map, take, Option, slice_index, if◌then◌else◌}
use Rattle.std.specs.List.{AllByRecursion}
use Rattle.shapers_buffer.specs.Glyphs.{Glyphs}
use Rattle.shapers_buffer.specs.declared.buffer.level.BufferClusterLevel.{BufferClusterLevel}
use Rattle.shapers_buffer.specs.Clusters.{merges, stretch_of}
use Rattle.shapers_buffer.specs.declared.buffer.tag.Script.{Script}
use Rattle.shapers_buffer.specs.Syllables.{syllables}
use Rattle.shapers_buffer.specs.Places.{pick}
use Rattle.shapers_clusters.specs.Cuts.{AllDifferent, ExactCuts, OneAlong, OwnClusters}
use Rattle.shapers_clusters.specs.Steps.{joined_step, joined_steps, shifted, steps_along, widened}
use Rattle.shapers_indic.specs.Glyphs.{places}
use Rattle.shapers_indic_initial.specs.InitialOrder.{ordered_base, indic_ordered_places}
use Rattle.shapers_indic_initial.specs.InitialReordering.{in_indic_order, initial_steps, is_reordered_in_indic, indic_order_step, positioned}
use Rattle.shapers_indic_initial.specs.InitialRules.{Rules}
use Rattle.shapers_syllabic.specs.Reordering.{glyphs_before, text_steps}

-- the places from the base on from place p to the old place of the glyph now at p
abbrev pub way_of : List ℕ → ℕ → ℕ → ℕ × ℕ
way_of from base p = (max base (min p (slice_index from p)), suc (max p (slice_index from p)))

abbrev pub all_ways : List ℕ → ℕ → List (ℕ × ℕ)
all_ways from base = map (way_of from base) (places base (length from))

-- the stretches of which each has to be in one cluster: in the older specification, and in a
-- syllable of more than 127 glyphs, all from the base on; else those ways
abbrev pub joined_stretches : Rules → List ℕ → ℕ → List (ℕ × ℕ)
joined_stretches r from base =
    if r.old || nat_lt 127 (length from) then (base, length from) ∷ [] else all_ways from base

-- From the clusters cs before to the clusters js after: each of these stretches is in one cluster.
-- No more is merged: where all clusters are different, neighbours share one only if such a stretch
-- holds both, each stretch so joined has its least, and glyphs before the base keep their own.
pub record OrderMerges (base : ℕ) (sts : List (ℕ × ℕ)) (from cs js : List ℕ) : Type 0 where
  pub together : AllByRecursion (OneAlong js) sts
  pub exact : AllDifferent cs → ExactCuts (pick from cs) sts js
  pub before : AllDifferent cs →
      (p : ℕ) → p < base → p < length cs →
      slice_index js p ≡ slice_index (pick from cs) p

-- so of any syllable with positions, at the levels that merge
abbrev pub OrderMergesLaw : Type 0
OrderMergesLaw =
    (r : Rules) (level : BufferClusterLevel) (gs : Glyphs) (cs : List ℕ) →
    merges level ≡ true → length cs ≡ length gs →
    OrderMerges (ordered_base (in_indic_order gs))
    (joined_stretches r (indic_ordered_places gs) (ordered_base (in_indic_order gs)))
    (indic_ordered_places gs) cs
    (joined_step level (indic_order_step r gs) cs)

-- In a whole text: the clusters as a syllable's last step begins, those before it being reordered.
abbrev pub as_order_begins : Rules → Option Script → BufferClusterLevel → ℕ →
    List Glyphs → Glyphs → List ℕ → List ℕ
as_order_begins r script level n before syl cs =
    let s = glyphs_before before in
    joined_steps level (steps_along n 0
    (map (λ piece. (length piece, initial_steps r script piece)) before)
    ++ map (widened s (s + length syl) n) (take 2 (initial_steps r script syl))) cs

-- From a text's clusters cs as the order of the syllable from s to e begins to those after, js:
-- each of its stretches is in one cluster, and where its clusters are its own no more is merged.
pub record SyllableMerges (s e base : ℕ) (sts : List (ℕ × ℕ)) (from cs js : List ℕ) : Type 0 where
  pub together : AllByRecursion (OneAlong js) (shifted s sts)
  pub own : OwnClusters s e cs → OrderMerges base sts from (stretch_of s e cs) (stretch_of s e js)

-- so each syllable that is reordered, of a text gs (its order view) with clusters cs, and js after
abbrev pub EachSyllableMerges : Rules → Option Script → BufferClusterLevel → Glyphs →
    List ℕ → List ℕ → Type 0
EachSyllableMerges r script level gs cs js =
    (before behind : List Glyphs) (syl : Glyphs) →
    syllables gs ≡ before ++ syl ∷ behind → is_reordered_in_indic syl ≡ true →
    let s = glyphs_before before in
    let xs = positioned r script syl in
    let from = indic_ordered_places xs in
    let base = ordered_base (in_indic_order xs) in
    SyllableMerges s (s + length syl) base (joined_stretches r from base) from
    (as_order_begins r script level (length gs) before syl cs) js

-- at the levels that merge
abbrev pub InitialClustersLaw : Type 0
InitialClustersLaw = (r : Rules) (script : Option Script) (level : BufferClusterLevel)
    (gs : Glyphs) (cs : List ℕ) →
    merges level ≡ true → length cs ≡ length gs →
    EachSyllableMerges r script level gs cs
    (joined_steps level (text_steps (initial_steps r script) gs) cs)
