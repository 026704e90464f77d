-- What lookups keep of a text, and stages of them, each with a pause behind it.
use Rattle.std.specs.Prelude.{ℕ, ◌≡◌, ◌≤◌, ◌-◌, ◌*◌, ◌⊎◌, Bool, true, List, [], ◌∷◌, drop, fold, length, map, take}
use Rattle.shapers_buffer.specs.Buffer.{Buffer}
use Rattle.shapers_buffer.specs.Clusters.{merges}
use Rattle.shapers_buffer.specs.Glyph.{clusters, without_flags}
use Rattle.shapers_buffer.specs.LookupRecords.{record_for}
use Rattle.shapers_buffer.specs.Properties.{no_ligature}
use Rattle.shapers_buffer.specs.Glyphs.{Glyph}
use Rattle.shapers_buffer.specs.declared.buffer.glyph_props.GlyphProps.{GlyphProps}
use Rattle.shapers_buffer.specs.declared.buffer.refusal.ShaperError.{ShaperError}
use Rattle.shapers_buffer.specs.declared.buffer.refusal.ShaperError.TheVariants.{Memory, TooLong}
use Rattle.shapers_clusters.specs.Cuts.{IsMonotone}
use Rattle.shapers_syllabic.specs.CircleLaws.{NoNewCluster}
use Rattle.shapers_plan.specs.declared.ot_map.lookups.Stage.{Stage}
use Rattle.shapers_plan.specs.declared.ot_map.lookups.StageLookup.{StageLookup}

-- What a lookup of GSUB keeps of a text without positions: everything but its glyphs and the
-- record of its lookups; each cluster is one that the text had, and at the levels that merge
-- clusters still rise, or fall.
pub record LookupKeeps (old new : Buffer) : Type 0 where
  pub others : new ≡ record old { glyphs = new.glyphs; lookups = new.lookups }
  pub old_clusters : NoNewCluster old.glyphs new.glyphs
  pub monotone : merges old.level ≡ true → IsMonotone (clusters old.glyphs) →
      IsMonotone (clusters new.glyphs)

-- a lookup of GSUB makes a text at most so many times as long, and they are one at least
pub record LookupGrows (times : ℕ) (old new : Buffer) : Type 0 where
  pub one : 1 ≤ times
  pub few : length new.glyphs ≤ length old.glyphs * times

-- What a lookup of GPOS keeps of a text with positions: everything but positions and glyph flags.
abbrev pub unplaced : Glyph → Glyph
unplaced g = record g { mask = without_flags g.mask }

pub record PositionKeeps (old new : Buffer) : Type 0 where
  pub others : new ≡ record old { glyphs = new.glyphs; positions = new.positions }
  pub glyphs : map unplaced new.glyphs ≡ map unplaced old.glyphs
  pub positions : length new.positions ≡ length old.positions

-- what the lookups keep of each glyph, once it is one; none is of a ligature yet, and the record of
-- the text's lookups begins
abbrev pub with_note : (Glyph → GlyphProps) → Glyph → Glyph
with_note noted g = record g { glyph_props = noted g; lig_props = no_ligature }

abbrev pub text_noted : (Glyph → GlyphProps) → Buffer → Buffer
text_noted noted b = record b {
  glyphs = map (with_note noted) b.glyphs;
  lookups = record_for (length b.glyphs);
}

-- what these lookups make of a text, one after another
abbrev pub looked_up : (StageLookup → Buffer → Buffer) → List StageLookup → Buffer → Buffer
looked_up substituted list b = fold (λ text lookup. substituted lookup text) b list

-- whether a lookup may find a text too long, and whether it may be refused memory for the text
pub record LookupRefusals : Type 0 where
  pub too_long : Bool
  pub memory : Bool

-- the refusals that a lookup may then have
abbrev pub MayRefuse : LookupRefusals → ShaperError → Type 0
MayRefuse may TooLong = may.too_long ≡ true
MayRefuse may Memory = may.memory ≡ true
MayRefuse may _ = ⊥

-- a text after the first of these lookups, up to the one that refused, which may so refuse the text
abbrev pub StoppedIn :
    (StageLookup → Buffer → Buffer) → (StageLookup → Buffer → LookupRefusals) →
    List StageLookup → Buffer → Buffer → ShaperError → Type 0
StoppedIn substituted refusals [] old new e = ⊥
StoppedIn substituted refusals (x ∷ xs) old new e =
    (MayRefuse (refusals x old) e × (new ≡ old))
    ⊎ StoppedIn substituted refusals xs (substituted x old) new e

-- the lookups of a stage, as far as the list goes
abbrev pub lookups_of_stage : Stage → List StageLookup → List StageLookup
lookups_of_stage s list = take (s.end - s.start) (drop s.start list)
