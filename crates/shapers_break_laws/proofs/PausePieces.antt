-- Pauses that change each glyph by itself leave the results of a text's pieces side by side; the pauses of each shaper.
use Rattle.std.proofs.Common.{ℕ, ◌≡◌, if◌then◌else◌, Bool, true, false, [], ◌∷◌, ◌++◌, map, refl, sym, ap, ◌∙◌}
use Rattle.std.proofs.lemmas.List.{map-id}
use Rattle.shapers_base.specs.declared.plan.hb_ot_shape_plan_t.{hb_ot_shape_plan_t}
use Rattle.shapers_base.specs.declared.plan.pause.Pause.{Pause}
use Rattle.shapers_base.specs.declared.plan.pause.Pause.TheVariants.{SetupSyllablesIndic, SetupSyllablesKhmer, SetupSyllablesMyanmar, SetupSyllablesUse, InitialReordering, ReorderKhmer, ReorderMyanmar, ReorderUse, FinalReordering, RecordStch, RecordRphf, RecordPref, SyllabicClearVar, ClearSubstitutionFlags, ArabicFallbackShape}
use Rattle.shapers_arabic.specs.Requests.{arabic_list, is_arabic}
use Rattle.shapers_buffer.specs.Buffer.{Buffer}
use Rattle.shapers_buffer.specs.Glyph.{plain}
use Rattle.shapers_buffer.specs.Properties.{component, is_multiplied}
use Rattle.shapers_buffer.specs.Glyphs.{Glyph, Glyphs}
use Rattle.shapers_clusters.specs.FlagLaw.{FlagsAdded}
use Rattle.shapers_clusters.proofs.FlagLaw.{added_same}
use Rattle.shapers_stretch.specs.Recorded.{has_stch, recorded, tile_action, with_tiles}
use Rattle.shapers_syllabic.specs.Borders.{unnumbered}
use Rattle.shapers_syllabic.specs.Syllabic.{unsubstituted}
use Rattle.rustybuzz_shapers.specs.Pauses.{pauses_in}
use Rattle.rustybuzz_shapers.specs.declared.shaper.hb_ot_shaper_t.TheVariants.{Arabic, Hangul, Hebrew, Indic, Khmer, Myanmar, MyanmarZawgyi, Thai, Universal}
use Rattle.shapers_break_laws.specs.ShaperBreaks.{PausesAreListed, PausesLeavePieces, glyph_paused}
use Rattle.shapers_break_laws.proofs.Pieces.{ChangesGlyphs, ReadsOrder, clears_syllables, flags-twice, kind-twice, leaves_by_glyph, reads_order, still}

-- a glyph without its mark of a substitution, or as a tile
cleared : ReadsOrder unsubstituted
cleared = record {
  added = λ g. added_same g (unsubstituted g) refl refl;
  byte = λ g. refl;
  viewed = λ g. ap (λ (k : ℕ). let r : Glyph = record (unsubstituted g) { cluster = 0; mask = k } in r)
      (sym (flags-twice g.mask));
  counted = λ g. ap (λ (k : ℕ). let r : Glyph = record (plain (unsubstituted g)) { syllable = k } in r)
      (sym (kind-twice g.syllable));
}

as_tile : Glyph → Glyph
as_tile g = record g { auxiliary = tile_action (component g.lig_props) }

if_tile : Bool → Glyph → Glyph
if_tile b g = if b then as_tile g else g

tile_viewed : (b : Bool) (g : Glyph) → plain (if_tile b g) ≡ plain (if_tile b (plain g))
unfolding if_tile as_tile
tile_viewed true g = ap (λ (k : ℕ). let r : Glyph = record (as_tile g) { cluster = 0; mask = k } in r)
    (sym (flags-twice g.mask))
tile_viewed false g = still.viewed g

tile_counted : (b : Bool) (g : Glyph) → unnumbered (plain (if_tile b g))
    ≡ unnumbered (plain (if_tile b (unnumbered g)))
unfolding if_tile as_tile
tile_counted true g = ap (λ (k : ℕ). let r : Glyph = record (plain (as_tile g)) { syllable = k } in r)
    (sym (kind-twice g.syllable))
tile_counted false g = still.counted g

tile_added : (b : Bool) (g : Glyph) → FlagsAdded g (if_tile b g)
unfolding if_tile as_tile
tile_added true g = added_same g (as_tile g) refl refl
tile_added false g = added_same g g refl refl

tile_byte : (b : Bool) (g : Glyph) → (if_tile b g).syllable ≡ g.syllable
unfolding if_tile as_tile
tile_byte true g = refl
tile_byte false g = refl

tiles : ReadsOrder recorded
unfolding if_tile as_tile
tiles = record {
  added = λ g. tile_added (is_multiplied g.glyph_props) g;
  byte = λ g. tile_byte (is_multiplied g.glyph_props) g;
  viewed = λ g. tile_viewed (is_multiplied g.glyph_props) g;
  counted = λ g. tile_counted (is_multiplied g.glyph_props) g;
}

if_stretched : (b : Bool) → ChangesGlyphs (λ g. if b then recorded g else g)
if_stretched true = reads_order recorded tiles
if_stretched false = reads_order (λ g. g) still

pub glyph_changes : (pause : Pause) (plan : hb_ot_shape_plan_t) → ChangesGlyphs (glyph_paused pause plan)
glyph_changes RecordStch plan = if_stretched (has_stch plan.plan_data)
glyph_changes SyllabicClearVar plan = clears_syllables
glyph_changes ClearSubstitutionFlags plan = reads_order unsubstituted cleared
glyph_changes _ plan = reads_order (λ g. g) still

same_map : (gs : Glyphs) → gs ≡ map (λ g. g) gs
same_map gs = sym (map-id gs)

recorded_is : (b : Bool) (old : Buffer) → (if b then with_tiles old else old).glyphs
    ≡ map (λ g. if b then recorded g else g) old.glyphs
recorded_is true old = refl
recorded_is false old = same_map old.glyphs

pub pauses_leave : PausesLeavePieces
pauses_leave RecordStch plan font spans old new by is = (
  ap (λ (b : Buffer). b.glyphs) is ∙ recorded_is (has_stch plan.plan_data) old,
  leaves_by_glyph (glyph_paused RecordStch plan) (glyph_changes RecordStch plan) old.glyphs,
)
pauses_leave SyllabicClearVar plan font spans old new by is = (
  ap (λ (b : Buffer). b.glyphs) is,
  leaves_by_glyph (glyph_paused SyllabicClearVar plan) (glyph_changes SyllabicClearVar plan) old.glyphs,
)
pauses_leave ClearSubstitutionFlags plan font spans old new by is = (
  ap (λ (b : Buffer). b.glyphs) is,
  leaves_by_glyph (glyph_paused ClearSubstitutionFlags plan) (glyph_changes ClearSubstitutionFlags plan) old.glyphs,
)
pauses_leave ArabicFallbackShape plan font spans old new by is = (
  ap (λ (b : Buffer). b.glyphs) is ∙ same_map old.glyphs,
  leaves_by_glyph (glyph_paused ArabicFallbackShape plan) (glyph_changes ArabicFallbackShape plan) old.glyphs,
)
pauses_leave SetupSyllablesIndic plan font spans old new by is = absurd cc
pauses_leave SetupSyllablesKhmer plan font spans old new by is = absurd cc
pauses_leave SetupSyllablesMyanmar plan font spans old new by is = absurd cc
pauses_leave SetupSyllablesUse plan font spans old new by is = absurd cc
pauses_leave InitialReordering plan font spans old new by is = absurd cc
pauses_leave ReorderKhmer plan font spans old new by is = absurd cc
pauses_leave ReorderMyanmar plan font spans old new by is = absurd cc
pauses_leave ReorderUse plan font spans old new by is = absurd cc
pauses_leave FinalReordering plan font spans old new by is = absurd cc
pauses_leave RecordRphf plan font spans old new by is = absurd cc
pauses_leave RecordPref plan font spans old new by is = absurd cc

-- THE PAUSES of each shaper's lists
arabic_listed : (arabic has_rclt : Bool) → RecordStch ∷ (if arabic then ArabicFallbackShape ∷ [] else [])
    ≡ pauses_in (arabic_list arabic has_rclt ++ [])
arabic_listed true true = refl
arabic_listed true false = refl
arabic_listed false true = refl
arabic_listed false false = refl

pub pauses_listed : PausesAreListed
pauses_listed Arabic script has_rclt = arabic_listed (is_arabic script) has_rclt
pauses_listed Hangul script has_rclt = refl
pauses_listed Hebrew script has_rclt = refl
pauses_listed Indic script has_rclt = refl
pauses_listed Khmer script has_rclt = refl
pauses_listed Myanmar script has_rclt = refl
pauses_listed MyanmarZawgyi script has_rclt = refl
pauses_listed Thai script has_rclt = refl
pauses_listed Universal script has_rclt = refl
