-- Which conditions stop which call, on a few plans and buffers.
use Rattle.std.proofs.Common.{◌≡◌, ◌≤◌, [], ◌∷◌, All, length, Ok, Err, arith}
use Rattle.shapers_buffer.specs.Buffer.{Buffer}
use Rattle.shapers_buffer.specs.declared.buffer.refusal.ShaperError.TheVariants.{Memory}
use Rattle.shapers_base.specs.declared.plan.hb_ot_shape_plan_t.{hb_ot_shape_plan_t}
use Rattle.shapers_base.specs.declared.plan.pause.Pause.TheVariants.{RecordPref, RecordStch}
use Rattle.shapers_arabic.specs.PlanData.{IsArabic}
use Rattle.rustybuzz_shapers.specs.Checked.{StopsAt, marks_ask, masks_ask, pause_asks, postprocess_asks, preprocess_asks}
use Rattle.rustybuzz_shapers.specs.Hooks.{GlyphsFit}
use Rattle.rustybuzz_shapers.specs.declared.shaper.checked.CallError.TheVariants as call
use Rattle.rustybuzz_shapers.specs.declared.shaper.checked.Condition.TheVariants.{Positions, Range, Marks, PlanData, Glyphs, SpanKinds}
use Rattle.rustybuzz_shapers.specs.declared.shaper.hb_ot_shaper_t.TheVariants.{Arabic, Hebrew, Thai}

-- positions come first, whatever else isn't met
positions_first : (plan : hb_ot_shape_plan_t) (b : Buffer) → (b.positions ≡ [] → ⊥)
    → StopsAt {T = Unit {0}} (masks_ask Arabic plan b) (Err (call.Condition Positions))
positions_first plan b placed = (tt, placed)

-- then data, then glyphs
data_next : (plan : hb_ot_shape_plan_t) (b : Buffer) → b.positions ≡ [] → (IsArabic plan.plan_data → ⊥)
    → StopsAt {T = Unit {0}} (masks_ask Arabic plan b) (Err (call.Condition PlanData))
data_next plan b unplaced other = ((unplaced, tt, tt), other)

glyphs_last : (plan : hb_ot_shape_plan_t) (b : Buffer) → b.positions ≡ [] → IsArabic plan.plan_data
    → (GlyphsFit Arabic plan b.glyphs → ⊥)
    → StopsAt {T = Unit {0}} (masks_ask Arabic plan b) (Err (call.Condition Glyphs))
glyphs_last = search arith

-- Thai asks for no positions alone; so does its preprocessing, also where it refuses
masks_of_thai : (plan : hb_ot_shape_plan_t) (b : Buffer) → b.positions ≡ []
    → StopsAt {T = Unit {0}} (masks_ask Thai plan b) (Ok (tt))
masks_of_thai = search arith

refused : (b : Buffer) → b.positions ≡ [] → StopsAt {T = Unit {0}} (preprocess_asks b) (Err (call.Refused Memory))
refused = search arith

-- a range that falls; 33 marks of Arabic
falling : (b : Buffer) → b.positions ≡ [] → StopsAt {T = Unit {0}} (marks_ask Hebrew 3 2 b) (Err (call.Condition Range))
falling = search arith

too_many : (b : Buffer) → b.positions ≡ [] → 33 ≤ length b.glyphs
    → StopsAt {T = Unit {0}} (marks_ask Arabic 0 33 b) (Err (call.Condition Marks))
too_many = search arith

-- the stretch asks for data and glyph numbers
stretched : (plan : hb_ot_shape_plan_t) (b : Buffer) → length b.positions ≡ length b.glyphs → IsArabic plan.plan_data
    → All (λ g. g.glyph_id ≤ 65535) b.glyphs → StopsAt {T = Unit {0}} (postprocess_asks Arabic plan b) (Ok (tt))
stretched = search arith

-- a pause that reads no data asks for none, but of kinds
kinds : (plan : hb_ot_shape_plan_t) (b : Buffer) → b.positions ≡ []
    → StopsAt {T = Unit {0}} (pause_asks RecordPref plan (record { len = 1; kind = 16 } ∷ []) b)
    (Err (call.Condition SpanKinds))
kinds plan b unplaced =
    ((unplaced, tt, tt, tt, tt), λ all. omega (arith, all 0 (record { len = 1; kind = 16 }) (omega arith)))

stch : (plan : hb_ot_shape_plan_t) (b : Buffer) → b.positions ≡ [] → (IsArabic plan.plan_data → ⊥)
    → StopsAt {T = Unit {0}} (pause_asks RecordStch plan [] b) (Err (call.Condition PlanData))
stch plan b unplaced other = ((unplaced, tt, tt), other)
