-- What the rewriting makes of clusters and glyph flags, and that it spells the same text.
use Rattle.std.specs.Prelude.{ℕ, Bool, ◌+◌, ◌==◌, ◌≤◌, ◌||◌, ◌≡◌, not, true, false, get_or, filter, List, [], ◌∷◌, ◌++◌, map, flat_map, drop, take, length, if◌then◌else◌}
use Rattle.std.specs.List.{AllByRecursion, AllZip, range_with_len}
use Rattle.shapers_buffer.specs.Glyphs.{Glyph, Glyphs}
use Rattle.shapers_buffer.specs.declared.buffer.level.BufferClusterLevel.{BufferClusterLevel}
use Rattle.shapers_buffer.specs.Buffer.{Buffer}
use Rattle.shapers_buffer.specs.Clusters.{merges}
use Rattle.shapers_base.specs.Font.{Font, dotted_circle}
use Rattle.shapers_buffer.specs.Glyph.{clusters, characters}
use Rattle.shapers_clusters.specs.Cuts.{ShareCluster}
use Rattle.shapers_buffer.specs.Places.{pick}
use Rattle.shapers_clusters.specs.FlagLaw.{AllFlagsStay}
use Rattle.shapers_clusters.specs.Laws.{ClustersMade}
use Rattle.shapers_hangul.specs.declared.ot_shaper_hangul.item.Item.{Item}
use Rattle.shapers_hangul.specs.declared.ot_shaper_hangul.item.JoinedTone.TheVariants.{Before}
use Rattle.shapers_hangul.specs.Hangul.{lead, vowel, trail, is_s, is_lv, is_tone, leading_unit, taken, is_kept, Copying, unit_output, outputs, output_len, items, stretches, all_joined, character_copies, preprocessed, allows_circles}

-- the rule on places: a copy has the place of what it copies
abbrev pub place_copies : Copying ℕ
place_copies = record { as_character = λ u place. place; as_jamo = λ feature place. place }

-- for each glyph that comes of these items of n characters the old place that it copies
abbrev pub hangul_sources : List (ℕ × Item) → ℕ → List ℕ
hangul_sources cut n = outputs place_copies cut (range_with_len 0 n)

-- What the rewriting of the characters us makes of their clusters cs: js. They are the clusters of
-- made glyphs, each that of its source after the merges, with exact cuts. At the levels that merge,
-- the places from a moved tone, before what its syllable becomes, to behind that share one cluster.
pub record ClustersRewritten (font : Font) (circles : Bool) (level : BufferClusterLevel) (us cs js :
    List ℕ) : Type 0 where
  pub made : ClustersMade level (stretches level (items font circles us))
      (hangul_sources (items font circles us) (length us)) cs js
  pub cluster_law : merges level ≡ true →
      (before : List (ℕ × Item)) (place : ℕ) (item : Item) (after : List (ℕ × Item)) →
      items font circles us ≡ before ++ (place, item) ∷ after → item.tone ≡ Before →
      ShareCluster js (length (hangul_sources before (length us)))
      (length (hangul_sources before (length us)) + output_len item.unit)

-- the same of a buffer, and of that with its text rewritten
abbrev pub KeepsClusters : Font → Buffer → Buffer → Type 0
KeepsClusters font old new =
    ClustersRewritten font (allows_circles old) old.level (characters old.glyphs)
    (clusters old.glyphs) (clusters new.glyphs)

-- The flag law, of each glyph by its source: no cluster rises, and unless it fell, no flag is lost.
abbrev pub KeepsGlyphFlags : Font → Buffer → Buffer → Type 0
KeepsGlyphFlags font old new =
    let cut = items font (allows_circles old) (characters old.glyphs) in
    AllFlagsStay (pick (hangul_sources cut (length old.glyphs)) old.glyphs) new.glyphs

-- a glyph without what the rewriting changes
abbrev pub unnamed : Glyph → Glyph
unnamed g = record g { glyph_id = 0; auxiliary = 0 }

-- What it gives: rs. Each glyph is its source, after the items were joined where they stood, in all
-- but character and feature. No cluster rises.
pub record RewrittenHolds (font : Font) (circles : Bool) (level : BufferClusterLevel)
    (gs rs : Glyphs) : Type 0 where
  pub made : map unnamed rs
      ≡ map unnamed (pick (hangul_sources (items font circles (characters gs)) (length gs))
      (all_joined level (items font circles (characters gs)) gs))
  pub in_clusters : ClustersRewritten font circles level (characters gs) (clusters gs) (clusters rs)
  pub none_rises : AllZip (λ old new. new.cluster ≤ old.cluster)
      (pick (hangul_sources (items font circles (characters gs)) (length gs)) gs) rs

abbrev pub RewrittenLaw : Type 0
RewrittenLaw = (font : Font) (circles : Bool) (level : BufferClusterLevel)
    (gs : Glyphs) →
    RewrittenHolds font circles level gs (preprocessed font circles level gs)

-- SPELLING. A text with each syllable character taken apart; that without tones and circles
abbrev pub jamo_of : ℕ → List ℕ
jamo_of s = lead s ∷ vowel s ∷ (if is_lv s then [] else trail s ∷ [])

abbrev pub full : List ℕ → List ℕ
full us = flat_map (λ u. if is_s u then jamo_of u else u ∷ []) us

abbrev pub spelled : List ℕ → List ℕ
spelled us = filter (λ u. not (is_tone u || u == dotted_circle)) (full us)

-- A unit that is no tone spells what it takes; the result spells the text, tones and circles apart.
pub record Spells (font : Font) (circles : Bool) (us : List ℕ) : Type 0 where
  pub unit : is_tone (get_or us 0 0) ≡ false →
      full (unit_output character_copies (leading_unit font circles us) us)
      ≡ full (take (taken (leading_unit font circles us)) us)
  pub whole : spelled (outputs character_copies (items font circles us) us) ≡ spelled us

abbrev pub SpellingLaw : Type 0
SpellingLaw = (font : Font) (circles : Bool) (us : List ℕ) → Spells font circles us

-- an item's unit, unless it is a tone, spells what it takes of the text
abbrev pub UnitSpells : List ℕ → ℕ × Item → Type 0
UnitSpells us p =
    is_tone (get_or (drop p.0 us) 0 0) ≡ false →
    full (unit_output character_copies p.1.unit (drop p.0 us))
    ≡ full (take (taken p.1.unit) (drop p.0 us))

-- The text after is the outputs of the text's items joined, and each unit spells what it takes.
pub record SpellsByUnits (font : Font) (old new : Buffer) : Type 0 where
  pub outputs : characters new.glyphs
      ≡ outputs character_copies (items font (allows_circles old) (characters old.glyphs))
      (characters old.glyphs)
  pub units : AllByRecursion (UnitSpells (characters old.glyphs))
      (items font (allows_circles old) (characters old.glyphs))

-- every item of a text stays as it is
abbrev pub AllKept : Font → Buffer → Type 0
AllKept font b =
    AllByRecursion (λ p. is_kept p.1 ≡ true) (items font (allows_circles b) (characters b.glyphs))

-- the same of a buffer
abbrev pub SpellsSame : Buffer → Buffer → Type 0
SpellsSame old new = spelled (characters new.glyphs) ≡ spelled (characters old.glyphs)
