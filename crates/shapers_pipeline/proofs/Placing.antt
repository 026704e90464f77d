-- What lookups of GPOS keep leaves a position for each glyph, and so do widths that go.
use Rattle.std.proofs.Common.{◌≡◌, ◌∙◌, Bool, true, false, List, [], ◌∷◌, length, sym, ap, subst, arith}
use Rattle.std.specs.Prelude.{OnOk, Result, Ok, Err}
use Rattle.std.proofs.lemmas.List.{length-map}
use Rattle.std.proofs.lemmas.Slice.Zip.{length-zip}
use Rattle.std.specs.List.{zip}
use Rattle.shapers_buffer.specs.Buffer.{Buffer}
use Rattle.shapers_buffer.specs.declared.buffer.glyph.GlyphPosition.{GlyphPosition}
use Rattle.shapers_buffer.specs.declared.buffer.refusal.ShaperError.{ShaperError}
use Rattle.shapers_buffer.specs.Glyphs.{Glyph, Glyphs}
use Rattle.shapers_position.specs.Ignorables.{ignorables_zeroed}
use Rattle.shapers_position.specs.Widths.{positions_changed}
use Rattle.shapers_position.specs.declared.ot_shape_position.ignorables.DefaultIgnorables.{DefaultIgnorables}
use Rattle.shapers_position.specs.declared.ot_shape_position.ignorables.DefaultIgnorables.TheVariants.{Hide, Preserve, Remove}
use Rattle.shapers_plan.specs.declared.ot_map.lookups.StageLookup.{StageLookup}
use Rattle.shapers_pipeline.specs.Lookups.{PositionKeeps, looked_up, unplaced}
use Rattle.shapers_pipeline.specs.Positioned.{marks_zeroed_if}

abbrev pub Paired : Buffer → Type 0
Paired b = length b.positions ≡ length b.glyphs

pub same_length : (old new : Buffer) → PositionKeeps old new → length new.glyphs ≡ length old.glyphs
same_length old new keeps = sym (length-map new.glyphs unplaced) ∙ ap length keeps.glyphs
    ∙ length-map old.glyphs unplaced

pub paired_stays : (old new : Buffer) → PositionKeeps old new → Paired old → Paired new
paired_stays old new keeps pairs = keeps.positions ∙ pairs ∙ sym (same_length old new keeps)

-- a lookup of GPOS after another
pub looked_pairs : (f : StageLookup → Buffer → Buffer) →
    ((lookup : StageLookup) (b : Buffer) → Paired b → PositionKeeps b (f lookup b)) → (list : List StageLookup)
    (b : Buffer) → Paired b → Paired (looked_up f list b)
looked_pairs f keeps [] b pairs = pairs
looked_pairs f keeps (x ∷ xs) b pairs =
    looked_pairs f keeps xs (f x b) (paired_stays b (f x b) (keeps x b pairs) pairs)

pub all_pairs : (f : StageLookup → Buffer → Buffer) →
    ((lookup : StageLookup) (b : Buffer) → Paired b → PositionKeeps b (f lookup b)) → (list : List StageLookup)
    (old new : Buffer) (r : Result (Unit {0}) ShaperError) → Paired old → OnOk r (new ≡ looked_up f list old) →
    OnOk r (Paired new)
all_pairs f keeps list old new (Ok x) pairs done = subst Paired (sym done) (looked_pairs f keeps list old pairs)
all_pairs f keeps list old new (Err e) pairs done = tt

pub length-changed : (f : Glyph → GlyphPosition → GlyphPosition) (gs : Glyphs)
    (ps : List GlyphPosition) → length ps ≡ length gs → length (positions_changed f gs ps) ≡ length gs
length-changed f gs ps pairs = omega (arith, length-map (zip gs ps) (λ c. f c.0 c.1), length-zip gs ps, pairs)

pub zeroed_pairs : (now : Bool) (is_mark : Glyph → Bool) (applies : Bool) (b : Buffer) → Paired b → Paired
    (marks_zeroed_if now is_mark applies b)
zeroed_pairs true is_mark applies b pairs = length-changed _ b.glyphs b.positions pairs
zeroed_pairs false is_mark applies b pairs = pairs

pub ignorables_pairs : (wanted : DefaultIgnorables) (b : Buffer) → Paired b → Paired
    (record b { positions = ignorables_zeroed wanted b.direction b.glyphs b.positions })
ignorables_pairs Hide b pairs = length-changed _ b.glyphs b.positions pairs
ignorables_pairs Preserve b pairs = pairs
ignorables_pairs Remove b pairs = pairs
