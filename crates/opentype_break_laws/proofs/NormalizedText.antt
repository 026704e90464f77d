-- A normalized text in the font of two single substitutions meets the law of a font's whole texts.
use Rattle.std.proofs.Common.{ℕ, ◌≡◌, false, List, [], ◌∷◌, length, map, None, pos, refl, ap, ◌∙◌, subst, sym}
use Rattle.std.proofs.lemmas.List.{length-map}
use Rattle.shapers_base.specs.Plan.{new_plan}
use Rattle.shapers_base.specs.declared.plan.joining.hb_arabic_joining_type_t.TheVariants.{U}
use Rattle.shapers_buffer.specs.Buffer.{Buffer}
use Rattle.shapers_buffer.specs.Glyphs.{Glyphs}
use Rattle.shapers_buffer.specs.LookupRecords.{record_for}
use Rattle.shapers_buffer.specs.declared.buffer.category.hb_unicode_general_category_t.TheVariants.{Lo}
use Rattle.shapers_normal.specs.declared.ot_shape_normalize.normalizing.Rounds.TheVariants.{AsCode}
use Rattle.shapers_editing.specs.PipelineBreaks.{MasksSetInPieces, glyphs_made}
use Rattle.shapers_pipeline.specs.Lookups.{with_note}
use Rattle.shapers_pipeline.specs.Masks.{as_glyph, with_features}
use Rattle.shapers_pipeline.specs.Prepared.{Preparation}
use Rattle.shapers_pipeline.specs.Stages.{StagesRun, Substitution}
use Rattle.shapers_plan.specs.declared.ot_map.lookups.Stage.{Stage}
use Rattle.opentype_font.specs.Lookups.{noted_by, substituted_by}
use Rattle.opentype_break_laws.specs.FontPieces.{FontTextsBreak, OneForOneGoesByPieces}
use Rattle.opentype_break_laws.specs.NormalizedText.{IsPutInHalves, glyph_mapped, normalized_put, text_mapped}
use Rattle.opentype_break_laws.specs.TwoSingles.{first_lookup, two_singles}
use Rattle.opentype_break_laws.proofs.TwoSingles.{two_for_two}

-- ---- THE PLAN: no shaper, no features in ranges, and one stage with the font's lookup. Behind normalization nothing is
-- asked of the font or of Unicode.

abbrev unshaped : Preparation
unshaped = record {
  shaper = None;
  plan = new_plan None
      (record { features = []; stages = []; lookups = []; global = 1; chosen = None; found = false });
  masks = record { frac = 0; numr = 0; dnom = 0; rtlm = 0; vert = 0 };
  ranges = [];
  font = record { nominal = λ c. None; advance = λ g. pos 0; applies = λ l gs z. false; offers = λ t. false };
  variants = λ c s. None;
  properties = record {
    general = λ c. Lo;
    class = λ c. 0;
    ignorable = λ c. false;
    pictographic = λ c. false;
    mirroring = λ c. None;
    vertical = λ c. None;
  };
  tables = record {
    joining = λ c. U;
    general = λ c. Lo;
    indic = λ c. (5, 7);
    universal = λ c. 0;
    composed = λ a b. None;
    decomposed = λ c. None;
  };
  texts = record { class = λ c. 0; ignorable = λ c. false };
  settings = record { rounds = AsCode; invisible_glyph = None; draws_selectors = false };
}

abbrev by_two : Substitution
by_two = record {
  plan = unshaped.plan;
  font = unshaped.font;
  substituted = substituted_by [] two_singles;
  list = first_lookup ∷ [];
}

abbrev one_stage : List Stage
one_stage = record { start = 0; end = 1; pause = None } ∷ []

-- ---- ITS GLYPHS

mapped_all : (gs : Glyphs) → map (with_note (noted_by [])) (map as_glyph (map (with_features []) gs))
    ≡ map glyph_mapped gs
mapped_all [] = refl
mapped_all (g ∷ gs) = ap (λ l. glyph_mapped g ∷ l) (mapped_all gs)

as_mapped : (b : Buffer) → glyphs_made unshaped (noted_by []) b ≡ text_mapped b
as_mapped b =
    let gs : Glyphs = map as_glyph (map (with_features []) b.glyphs) in
    let with_glyphs : Glyphs → ℕ → Buffer = λ hs n.
    (let r : Buffer = record b { glyphs = hs; lookups = record_for n } in r) in
    ap (λ hs. with_glyphs hs (length gs)) (mapped_all b.glyphs)
    ∙ ap (λ n. with_glyphs (map glyph_mapped b.glyphs) n)
    (length-map (map (with_features []) b.glyphs) as_glyph ∙ length-map b.glyphs (with_features []))

-- the stage runs over them
stage_run : (b : Buffer) → StagesRun by_two one_stage (glyphs_made unshaped (noted_by []) b) (normalized_put b)
stage_run b = subst (λ start. StagesRun by_two one_stage start (normalized_put b)) (sym (as_mapped b))
    (normalized_put b, (refl, refl))

-- ---- THE LAW

pub put_in_halves : FontTextsBreak → OneForOneGoesByPieces → MasksSetInPieces → (old new : Buffer)
    → old.positions ≡ [] → new ≡ normalized_put old → IsPutInHalves old new.glyphs
put_in_halves texts goes masks old new none is numbered alike =
    let start = glyphs_made unshaped (noted_by []) old in
    let run = stage_run old in
    let breaks = texts numbered unshaped [] two_singles by_two one_stage old (normalized_put old) (record {
      font = refl;
      no_ranges = refl;
      masks = masks None unshaped.plan unshaped.tables old tt;
      positions = none;
    }) alike run
    (goes numbered old two_singles by_two one_stage start (normalized_put old) (two_for_two, tt) run) (tt, tt) in
    rw is (λ front back cut. (let made = breaks front back cut in record {
      before = made.before;
      behind = made.behind;
      pieces = made.pieces;
      first = made.first (normalized_put made.before) (stage_run made.before);
      second = made.second (normalized_put made.behind) (stage_run made.behind);
    }))
