-- A word of an Indic script behind its stages.
use Rattle.std.proofs.Common.{◌≡◌, ◌≢◌, ◌∙◌, ℕ, true, List, [], ◌∷◌, map, refl, sym, ap, subst, inl, Option, None}
use Rattle.shapers_base.specs.Font.{CharacterTables, Font}
use Rattle.shapers_base.specs.declared.plan.hb_ot_shape_plan_t.{hb_ot_shape_plan_t}
use Rattle.shapers_buffer.specs.Buffer.{Buffer}
use Rattle.shapers_buffer.specs.Clusters.{merges}
use Rattle.shapers_buffer.specs.Glyph.{clusters}
use Rattle.shapers_buffer.specs.Glyphs.{Glyphs}
use Rattle.shapers_buffer.specs.declared.buffer.level.Direction.{Direction}
use Rattle.shapers_buffer.specs.declared.buffer.tag.Script.{Script}
use Rattle.shapers_buffer.specs.declared.buffer.refusal.ShaperError.TheVariants.{UnknownSyllable}
use Rattle.rustybuzz_shapers.specs.declared.shaper.checked.CallError.{CallError}
use Rattle.rustybuzz_shapers.specs.declared.shaper.checked.CallError.TheVariants as call
use Rattle.shapers_clusters.specs.Cuts.{IsMonotone, IsRising}
use Rattle.shapers_found_laws.specs.AddsNone.{is_in_category, is_unknown}
use Rattle.shapers_found_laws.specs.FoundIndic.{AreIndicStages, FoundIndicKnows, FoundIndicOpens, FoundIndicSorts}
use Rattle.shapers_pipeline.specs.ClusterLaws.{LookupsKeep, StagesKeepClusters}
use Rattle.shapers_pipeline.specs.Lookups.{LookupRefusals, lookups_of_stage}
use Rattle.shapers_pipeline.specs.Planned.{as_planned}
use Rattle.shapers_pipeline.specs.SingleLaws.{singles_keep}
use Rattle.shapers_pipeline.specs.Singles.{singles_applied}
use Rattle.shapers_pipeline.specs.Stages.{StagesRun, StagesStopped, Substitution, stage_looked_up}
use Rattle.shapers_pipeline.specs.declared.singles.Single.{Single}
use Rattle.shapers_plan.specs.declared.ot_map.lookups.Stage.{Stage}
use Rattle.shapers_plan.specs.declared.ot_map.lookups.StageLookup.{StageLookup}
use Rattle.shapers_syllabic.specs.Characters.{with_category_and_position}
use Rattle.shapers_bench.specs.IndicWords.{IndicReordered, reordered_initially, reordered_finally, set_up}
use Rattle.shapers_bench.specs.Substituted.{substituting}
use Rattle.shapers_bench.specs.Words.{letters_from, word_in}
use Rattle.shapers_bench.proofs.KeptBySingles.{sees-category, sees-kind, singles-add-none}
use Rattle.shapers_bench.proofs.Letters.{letters-rise}

abbrev behind : List Stage
behind = reordered_finally ∷ []

-- the stages meet the premises of the law
indic-stages : (plan : hb_ot_shape_plan_t) (font : Font) (singles : List Single)
    → AreIndicStages (substituting plan font singles) set_up reordered_initially behind
indic-stages plan font singles =
    let lookups = lookups_of_stage reordered_initially (substituting plan font singles).list in
    record {
      set_up = refl;
      reordered = refl;
      others = refl;
      rephas = singles-add-none (is_in_category 14) (sees-category 14) singles lookups;
      kinds = singles-add-none (is_unknown 5) (sees-kind 5) singles lookups;
    }

-- categories and positions are no clusters
same-places : (tables : CharacterTables) (gs : Glyphs)
    → clusters (map (with_category_and_position tables) gs) ≡ clusters gs
same-places tables [] = refl
same-places tables (g ∷ gs) = ap (λ cs. g.cluster ∷ cs) (same-places tables gs)

pub indic-reordered : FoundIndicOpens → FoundIndicSorts → StagesKeepClusters → (plan : hb_ot_shape_plan_t) (font : Font)
    (singles : List Single) (room : ℕ) (word : List ℕ) (tables : CharacterTables) (script : Option Script)
    (direction : Direction) (old masked last new : Buffer) → old ≡ word_in room word
    → masked ≡ record old { glyphs = map (with_category_and_position tables) old.glyphs }
    → StagesRun (substituting plan font singles) (set_up ∷ (reordered_initially ∷ behind)) (as_planned script direction masked) last
    → new.glyphs ≡ last.glyphs → IndicReordered font singles new
indic-reordered opens sorts keep plan font singles room word tables script direction old masked last new begun set run back =
    record {
      plan = plan;
      before = run.0;
      last = last;
      run = run.1.1;
      made = back;
      alone = opens r set_up reordered_initially behind text run.0 (indic-stages plan font singles) run.1.0;
      sorted = sorts r set_up reordered_initially behind text run.0 (indic-stages plan font singles) run.1.0 along;
    }
  where
    r : Substitution
    r = substituting plan font singles

    text : Buffer
    text = as_planned script direction masked

    between : Buffer
    between = stage_looked_up r reordered_initially run.0

    -- the lookups of the second stage without its pause
    looking : Stage
    looking = record { start = 0; end = 1; pause = None }

    keeps : LookupsKeep (singles_applied singles)
    keeps = λ lookup b none. singles_keep singles lookup b

    none : masked.positions ≡ []
    none = ap (λ (b : Buffer). b.positions) set ∙ ap (λ (b : Buffer). b.positions) begun

    merging : merges masked.level ≡ true
    merging = ap (λ (b : Buffer). merges b.level) set ∙ ap (λ (b : Buffer). merges b.level) begun

    same : clusters masked.glyphs ≡ clusters (letters_from 0 word)
    same = ap (λ (b : Buffer). clusters b.glyphs) set
        ∙ (same-places tables old.glyphs ∙ ap (λ (b : Buffer). clusters b.glyphs) begun)

    rises : IsRising (clusters masked.glyphs)
    rises = subst IsRising (sym same) (letters-rise 0 word)

    so_far : StagesRun r (set_up ∷ (looking ∷ [])) text between
    so_far = (run.0, (run.1.0, (between, (refl, refl))))

    along : IsMonotone (clusters between.glyphs)
    along = (keep r (set_up ∷ (looking ∷ [])) text between keeps none so_far).1 (inl (refl, tt), (tt, tt)) merging (inl rises)

-- no such stage stops for a syllable of unknown kind
pub indic-known : FoundIndicKnows → (plan : hb_ot_shape_plan_t) (font : Font) (singles : List Single)
    (refusals : StageLookup → Buffer → LookupRefusals) (text left : Buffer) (e : CallError)
    → StagesStopped (substituting plan font singles) refusals (set_up ∷ (reordered_initially ∷ behind)) text left e → (place : ℕ)
    → e ≢ call.Refused (UnknownSyllable place)
indic-known law plan font singles refusals text left e stopped place = λ same.
    let r : Substitution = substituting plan font singles in
    law r refusals set_up reordered_initially behind text left place (indic-stages plan font singles)
    (subst (StagesStopped r refusals (set_up ∷ (reordered_initially ∷ behind)) text left) same stopped)
