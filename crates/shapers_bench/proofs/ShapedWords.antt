-- Words shaped by a plan, with single substitutions alone.
use Rattle.std.proofs.Common.{◌≡◌, ◌≢◌, ◌∙◌, ℕ, ◌-◌, ◌≤◌, ◌<◌, List, [], length, min, sym, subst, arith}
use Rattle.std.specs.Prelude.{Option, None, Some}
use Rattle.std.specs.List.{All}
use Rattle.std.proofs.Math.Nat.{le_trans}
use Rattle.shapers_buffer.specs.Buffer.{Buffer}
use Rattle.shapers_buffer.specs.Glyph.{clusters}
use Rattle.shapers_buffer.specs.Glyphs.{Glyph}
use Rattle.shapers_buffer.specs.declared.buffer.glyph_props.GlyphProps.{GlyphProps}
use Rattle.shapers_buffer.specs.declared.buffer.level.Direction.{Direction}
use Rattle.shapers_clusters.specs.Cuts.{IsRising}
use Rattle.rustybuzz_shapers.specs.declared.shaper.hb_ot_shaper_t.{hb_ot_shaper_t}
use Rattle.rustybuzz_shapers.specs.declared.shaper.hb_ot_shaper_t.TheVariants.{Arabic, Hangul, Hebrew, Indic, Khmer, Myanmar, MyanmarZawgyi, Thai, Universal}
use Rattle.shapers_plan.specs.declared.ot_map.lookups.Stage.{Stage}
use Rattle.shapers_plan.specs.declared.ot_map.lookups.StageLookup.{StageLookup}
use Rattle.shapers_pipeline.specs.ClusterLaws.{LookupsKeep}
use Rattle.shapers_pipeline.specs.Lengths.{LookupsGrow, PreparationGrows, StagesGrow, prepared_bound, shaped_bound}
use Rattle.shapers_pipeline.specs.Lookups.{text_noted}
use Rattle.shapers_pipeline.specs.Positioned.{Positioning, text_shaped}
use Rattle.shapers_pipeline.specs.Prepared.{Preparation, text_prepared}
use Rattle.shapers_pipeline.specs.ShapeLaws.{PositionsKeep}
use Rattle.shapers_pipeline.specs.SingleLaws.{singles_grow, singles_keep}
use Rattle.shapers_pipeline.specs.Singles.{singles_applied}
use Rattle.shapers_pipeline.specs.Stages.{StagesRun, Substitution}
use Rattle.shapers_pipeline.specs.declared.singles.Single.{Single}
use Rattle.shapers_pipeline.proofs.StageLengths.{stages_least, stages_more}
use Rattle.shapers_editing.specs.ShapedCarets.{ShapedTextHasCarets, StopsAreBorders}
use Rattle.shapers_bench.specs.Words.{letters_from}
use Rattle.shapers_bench.proofs.Letters.{letters-rise, letters-within}
use Rattle.shapers_bench.proofs.Unplaced.{still_unplaced}

-- what single substitutions promise, and lookups that place nothing
pub keeping : (singles : List Single) → LookupsKeep (singles_applied singles)
keeping singles lookup b none = singles_keep singles lookup b

pub growing : (singles : List Single) → LookupsGrow (λ lookup. 1) (singles_applied singles)
growing singles lookup b none = singles_grow singles lookup b

pub word-stops : ShapedTextHasCarets → (p : Preparation) (noted : Glyph → GlyphProps) (r : Substitution)
    (ss : List Stage) (q : Positioning) (wanted direction : Direction) (old mid : Buffer) (word : List ℕ)
    → LookupsKeep r.substituted → PositionsKeep q → old.positions ≡ [] → old.glyphs ≡ letters_from 0 word
    → StagesRun r ss (text_noted noted (text_prepared p old)) mid
    → StopsAreBorders (length word) (letters_from 0 word) (text_shaped q wanted mid).glyphs direction
word-stops law p noted r ss q wanted direction old mid word keeps places none is run =
    let n = length word in
    let new = text_shaped q wanted mid in
    let rises : IsRising (clusters old.glyphs) = subst (λ gs. IsRising (clusters gs)) (sym is) (letters-rise 0 word) in
    let within : All (λ c. c < n) (clusters old.glyphs) =
    subst (λ gs. All (λ c. c < n) (clusters gs)) (sym is) (letters-within 0 word n (omega arith)) in
    subst (λ gs. StopsAreBorders n gs new.glyphs direction) is
    ((law p noted r ss q wanted old mid n keeps places (still_unplaced p old ∙ none) run rises within).0 direction)

pub word-length : PreparationGrows → StagesGrow → (p : Preparation) (noted : Glyph → GlyphProps) (r : Substitution)
    (ss : List Stage) (old last : Buffer) → LookupsKeep r.substituted → LookupsGrow (λ lookup. 1) r.substituted
    → old.positions ≡ [] → StagesRun r ss (text_noted noted (text_prepared p old)) last
    → length last.glyphs ≤ shaped_bound p.shaper (λ lookup. 1) r.list ss (length old.glyphs)
word-length preparation stages p noted r ss old last keeps grows none run =
    let text = text_noted noted (text_prepared p old) in
    let one : StageLookup → ℕ = λ lookup. 1 in
    le_trans (stages r one ss text last keeps grows (still_unplaced p old ∙ none) run)
    (stages_more one r.list ss (length text.glyphs) (prepared_bound p.shaper (length old.glyphs))
    (preparation p noted old))

-- a text gets no shorter
prepared-least : (shaper : Option hb_ot_shaper_t) (n : ℕ) → n ≤ prepared_bound shaper n
prepared-least None n = omega arith
prepared-least (Some Arabic) n = omega arith
prepared-least (Some Hangul) n = omega arith
prepared-least (Some Hebrew) n = omega arith
prepared-least (Some Indic) n = omega arith
prepared-least (Some Khmer) n = omega arith
prepared-least (Some Myanmar) n = omega arith
prepared-least (Some MyanmarZawgyi) n = omega arith
prepared-least (Some Thai) n = omega arith
prepared-least (Some Universal) n = omega arith

pub word-least : (shaper : Option hb_ot_shaper_t) (list : List StageLookup) (ss : List Stage) (n : ℕ)
    → n ≤ shaped_bound shaper (λ lookup. 1) list ss n
word-least shaper list ss n =
    le_trans (prepared-least shaper n)
    (stages_least (λ lookup. 1) (λ lookup. omega arith) list ss (prepared_bound shaper n))

-- a bound below the greatest number is what was told
pub bound-told : (bound most room : ℕ) → room ≡ min bound most → room ≢ most → bound ≤ room
bound-told bound most room told less = omega (arith, told, less)
