-- Sequences of a font, each in the place of one glyph, and texts that take them piece by piece.
use Rattle.std.specs.Prelude.{ℕ, ◌+◌, ◌%◌, ◌==◌, ◌&&◌, ◌<◌, ◌≤◌, ◌≡◌, ◌⊎◌, not, nat_lt, max, min, bit_and, Bool, true, false, List, [], ◌∷◌, Option, if◌then◌else◌}
use Rattle.std.specs.Option.{option_map_or}
use Rattle.shapers_buffer.specs.Buffer.{Buffer}
use Rattle.shapers_buffer.specs.Glyphs.{Glyph, Glyphs}
use Rattle.shapers_buffer.specs.declared.buffer.lig_props.LigProps.{LigProps}
use Rattle.shapers_clusters.specs.Breaks.{is_unsafe}
use Rattle.opentype_face.specs.Firsts.{first_from}
use Rattle.opentype_face.specs.Lookups.{lookup_in, subtable_in, subtables_in, type_in}
use Rattle.opentype_gsub.specs.Decided.{set_for_glyph}
use Rattle.opentype_gsub.specs.Edits.{count_in}
use Rattle.shapers_editing.specs.PipelineBreaks.{Numbering}
use Rattle.shapers_plan.specs.declared.ot_map.lookups.StageLookup.{StageLookup}

-- A lookup of a plan puts sequences in, by a font's GSUB: its table has subtables, and all are of
-- type 2. Its mask has no glyph flag.
pub record PutsSequences (gsub : List ℕ) (lookup : StageLookup) : Type 0 where
  pub some : 0 < subtables_in (lookup_in gsub lookup.index)
  pub types : (i : ℕ) → i < subtables_in (lookup_in gsub lookup.index) →
      type_in 7 (lookup_in gsub lookup.index) i ≡ 2
  pub flagless : lookup.mask % 8 ≡ 0

-- the sequence that such a table has for a glyph, by the first of its subtables that has one
abbrev pub sequence_for : List ℕ → ℕ → Option (List ℕ)
sequence_for table number =
    first_from (subtables_in table) (λ i. set_for_glyph (subtable_in 7 table i) number) 0

-- how many glyphs come of one: as many as its sequence has, if the glyph has a bit of the mask
abbrev pub glyphs_of_one : ℕ → List ℕ → Glyph → ℕ
glyphs_of_one mask table g =
    if bit_and g.mask mask == 0 then 1
    else option_map_or count_in (sequence_for table (g.glyph_id % 65536)) 1

-- where a glyph goes, it counts as one: it has its place until then
abbrev pub glyphs_of_all : ℕ → List ℕ → Glyphs → ℕ
glyphs_of_all mask table [] = 0
glyphs_of_all mask table (g ∷ gs) =
    max 1 (glyphs_of_one mask table g) + glyphs_of_all mask table gs

-- A glyph goes behind one of its cluster and syllable, which is flagged as no place for a break if
-- it is.
pub record GoesBehind (h g : Glyph) : Type 0 where
  pub cluster : g.cluster ≡ h.cluster
  pub syllable : g.syllable ≡ h.syllable
  pub flagged : is_unsafe g ≡ true → is_unsafe h ≡ true

-- each glyph behind one stays, by so many glyphs that come of it, or goes so
abbrev pub StayOrGo : (Glyph → ℕ) → Glyph → Glyphs → Type 0
StayOrGo count h [] = Unit {0}
StayOrGo count h (g ∷ gs) = ((0 < count g) ⊎ GoesBehind h g) × StayOrGo count g gs

-- and the first one of a text stays
abbrev pub FirstStays : (Glyph → ℕ) → Glyphs → Type 0
FirstStays count [] = Unit {0}
FirstStays count (g ∷ gs) = (0 < count g) × StayOrGo count g gs

-- A text that takes sequences piece by piece. Where a sequence is empty, its glyph goes behind one
-- of its cluster and syllable. All have room, in the text and in its pieces: a buffer takes the
-- glyphs that come of it, and they are at most 65,536, which a lookup may make of every text.
pub record TakesSequences (text : Buffer) (gsub : List ℕ) (lookup : StageLookup)
    (b : Buffer) : Type 0 where
  pub stays : FirstStays (glyphs_of_one lookup.mask (lookup_in gsub lookup.index)) b.glyphs
  pub size : b.max_len ≡ text.max_len
  pub room : glyphs_of_all lookup.mask (lookup_in gsub lookup.index) b.glyphs
      ≤ min b.max_len 65536

-- a test at each place of two lists of the same length
abbrev pub all_beside : (LigProps → LigProps → Bool) → List LigProps → List LigProps → Bool
all_beside test [] [] = true
all_beside test [] (y ∷ ys) = false
all_beside test (x ∷ xs) [] = false
all_beside test (x ∷ xs) (y ∷ ys) = test x y && all_beside test xs ys

-- Numbers of ligatures are compared glyph by glyph, by a test that tells at least whether there is
-- one: a glyph of a sequence that has none gets its place in the sequence instead.
pub record ComparesNumbers (numbered : Numbering) : Type 0 where
  pub test : LigProps → LigProps → Bool
  pub each : (xs ys : List LigProps) → numbered xs ys ≡ all_beside test xs ys
  pub itself : (l : LigProps) → test l l ≡ true
  pub tells : (l m : LigProps) → test l m ≡ true → nat_lt l.0 32 ≡ nat_lt m.0 32

-- whether both hold a ligature's number, or neither
abbrev pub both_numbered : LigProps → LigProps → Bool
both_numbered l m = if nat_lt l.0 32 then nat_lt m.0 32 else not (nat_lt m.0 32)

-- The test tells that and nothing else, so ligatures leave pieces by it, too: those of a text and
-- of its pieces have numbers at the same glyphs.
pub record ComparesPresence (numbered : Numbering) : Type 0 where
  pub each : (xs ys : List LigProps) → numbered xs ys ≡ all_beside both_numbered xs ys

-- so do sequences, by it
abbrev pub PresenceCompares : Type 0
PresenceCompares = (numbered : Numbering) → ComparesPresence numbered → ComparesNumbers numbered
