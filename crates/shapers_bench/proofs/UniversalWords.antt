-- A word of the universal shaper behind its stages.
use Rattle.std.proofs.Common.{◌≡◌, ◌≢◌, ◌∙◌, ℕ, suc, Bool, true, false, bit_and, List, [], ◌∷◌, map, refl, sym, ap, subst, inl}
use Rattle.std.specs.List.{list_any}
use Rattle.shapers_base.specs.Font.{CharacterTables, Font}
use Rattle.shapers_base.specs.Masks.{has_bits}
use Rattle.shapers_base.specs.declared.plan.hb_ot_shape_plan_t.{hb_ot_shape_plan_t}
use Rattle.shapers_buffer.specs.Buffer.{Buffer}
use Rattle.shapers_buffer.specs.Clusters.{merges}
use Rattle.shapers_buffer.specs.Glyph.{clusters}
use Rattle.shapers_buffer.specs.Glyphs.{Glyphs}
use Rattle.shapers_buffer.specs.declared.buffer.level.Direction.{Direction}
use Rattle.shapers_buffer.specs.declared.buffer.tag.Script.{Script}
use Rattle.std.specs.Prelude.{Option}
use Rattle.shapers_buffer.specs.declared.buffer.refusal.ShaperError.TheVariants.{UnknownSyllable}
use Rattle.rustybuzz_shapers.specs.Hooks.{MasksSet, data_created, with_created}
use Rattle.rustybuzz_shapers.specs.declared.shaper.checked.CallError.{CallError}
use Rattle.rustybuzz_shapers.specs.declared.shaper.checked.CallError.TheVariants as call
use Rattle.rustybuzz_shapers.specs.declared.shaper.hb_ot_shaper_t.TheVariants.{Universal}
use Rattle.shapers_clusters.specs.Cuts.{IsMonotone, IsRising}
use Rattle.shapers_found_laws.specs.AddsNone.{is_in_category}
use Rattle.shapers_found_laws.specs.FoundIndic.{OthersKnow}
use Rattle.shapers_found_laws.specs.FoundUniversal.{AreUniversalStages, FoundUniversalSorts, RphfApart, may_be_repha, stages_in}
use Rattle.shapers_pipeline.specs.ClusterLaws.{LookupsKeep, StagesKeepClusters}
use Rattle.shapers_pipeline.specs.Lookups.{LookupRefusals, lookups_of_stage}
use Rattle.shapers_pipeline.specs.Planned.{as_planned}
use Rattle.shapers_pipeline.specs.SingleLaws.{singles_keep}
use Rattle.shapers_pipeline.specs.Singles.{singles_applied}
use Rattle.shapers_pipeline.specs.Stages.{StagesRun, StagesStopped, Substitution}
use Rattle.shapers_pipeline.specs.declared.singles.Single.{Single}
use Rattle.shapers_plan.specs.declared.ot_map.lookups.Stage.{Stage}
use Rattle.shapers_plan.specs.declared.ot_map.lookups.StageLookup.{StageLookup}
use Rattle.shapers_universal.specs.PlanData.{rphf_of}
use Rattle.shapers_universal.specs.UniversalMasks.{categorized}
use Rattle.shapers_universal.specs.UniversalSyllables.{form_masks, mask_between}
use Rattle.shapers_bench.specs.Substituted.{substituting}
use Rattle.shapers_bench.specs.UniversalWords.{javanese_plan, rphf_map, universal_stages}
use Rattle.shapers_bench.specs.Words.{letters_from, word_in}
use Rattle.shapers_bench.proofs.KeptBySingles.{sees-category, sees-repha, singles-add-none}
use Rattle.shapers_bench.proofs.Letters.{letters-rise}

-- the plan of Javanese with what the shaper keeps
abbrev pub planned : hb_ot_shape_plan_t
planned = with_created (data_created Universal javanese_plan) javanese_plan

-- ---- the mask of rphf is its own

formless : (before behind : Bool) → bit_and (mask_between (form_masks rphf_map) before behind) 0x10 ≡ 0
formless false false = refl
formless false true = refl
formless true false = refl
formless true true = refl

unset : (tables : CharacterTables) (n : ℕ) (word : List ℕ)
    → list_any (has_bits 0x10) (map (categorized tables.universal) (letters_from n word)) ≡ false
unset tables n [] = refl
unset tables n (c ∷ cs) = unset tables (suc n) cs

apart : (tables : CharacterTables) (word : List ℕ) (gs : Glyphs)
    → gs ≡ map (categorized tables.universal) (letters_from 0 word) → RphfApart planned gs
apart tables word gs is = record {
  unflagged = refl;
  formless = formless;
  unset = ap (list_any (has_bits 0x10)) is ∙ unset tables 0 word;
}

-- ---- the stages

stages-add-none : (plan : hb_ot_shape_plan_t) (font : Font) (singles : List Single)
    → AreUniversalStages (substituting plan font singles) universal_stages
stages-add-none plan font singles =
    let list = (substituting plan font singles).list in
    let rephas = λ (stage : Stage). singles-add-none (is_in_category 18) (sees-category 18) singles (lookups_of_stage stage list) in
    let mask = rphf_of plan.plan_data in
    let masked = λ (stage : Stage). singles-add-none (may_be_repha mask) (sees-repha mask) singles (lookups_of_stage stage list) in
    let s = universal_stages in
    record {
      set_up = refl;
      cleared = refl;
      recorded = refl;
      cleared_again = refl;
      pref = refl;
      reordered = refl;
      others = refl;
      rephas = (rephas s.cleared, (rephas s.recorded, (rephas s.cleared_again, (rephas s.pref, (rephas s.reordered, tt)))));
      masked = (masked s.cleared, (masked s.recorded, tt));
    }

same-clusters : (tables : CharacterTables) (gs : Glyphs) → clusters (map (categorized tables.universal) gs) ≡ clusters gs
same-clusters tables [] = refl
same-clusters tables (g ∷ gs) = ap (λ cs. g.cluster ∷ cs) (same-clusters tables gs)

-- by the plan that it is
sorted-by : FoundUniversalSorts → StagesKeepClusters → (font : Font) (singles : List Single) (room : ℕ)
    (word : List ℕ) (tables : CharacterTables) (script : Option Script) (direction : Direction)
    (old masked last : Buffer) → old ≡ word_in room word → MasksSet Universal planned tables old masked
    → StagesRun (substituting planned font singles) (stages_in universal_stages) (as_planned script direction masked) last
    → IsMonotone (clusters last.glyphs)
sorted-by sorts keep font singles room word tables script direction old masked last begun set run =
    let r : Substitution = substituting planned font singles in
    let text = as_planned script direction masked in
    let keeps : LookupsKeep (singles_applied singles) = λ lookup b none. singles_keep singles lookup b in
    let none : masked.positions ≡ [] = ap (λ (b : Buffer). b.positions) set ∙ ap (λ (b : Buffer). b.positions) begun in
    let merging : merges masked.level ≡ true =
    ap (λ (b : Buffer). merges b.level) set ∙ ap (λ (b : Buffer). merges b.level) begun in
    let glyphs : masked.glyphs ≡ map (categorized tables.universal) (letters_from 0 word) =
    ap (λ (b : Buffer). b.glyphs) set ∙ ap (λ (b : Buffer). map (categorized tables.universal) b.glyphs) begun in
    let same : clusters masked.glyphs ≡ clusters (letters_from 0 word) =
    ap clusters glyphs ∙ same-clusters tables (letters_from 0 word) in
    let rises : IsRising (clusters masked.glyphs) = subst IsRising (sym same) (letters-rise 0 word) in
    (keep r (stages_in universal_stages) text last keeps none run).1
    (sorts r universal_stages text last (stages-add-none planned font singles) (apart tables word masked.glyphs glyphs) run)
    merging (inl rises)

pub universal-sorted : FoundUniversalSorts → StagesKeepClusters → (made plan : hb_ot_shape_plan_t) (font : Font)
    (singles : List Single) (room : ℕ) (word : List ℕ) (tables : CharacterTables) (script : Option Script)
    (direction : Direction) (old masked last : Buffer) → made ≡ javanese_plan
    → plan ≡ with_created (data_created Universal made) made → old ≡ word_in room word
    → MasksSet Universal plan tables old masked
    → StagesRun (substituting plan font singles) (stages_in universal_stages) (as_planned script direction masked) last
    → IsMonotone (clusters last.glyphs)
universal-sorted sorts keep made plan font singles room word tables script direction old masked last is kept begun set run =
    let same : plan ≡ planned =
    kept ∙ ap (λ (p : hb_ot_shape_plan_t). with_created (data_created Universal p) p) is in
    sorted-by sorts keep font singles room word tables script direction old masked last begun
    (subst (λ (p : hb_ot_shape_plan_t). MasksSet Universal p tables old masked) same set)
    (subst (λ (p : hb_ot_shape_plan_t). StagesRun (substituting p font singles) (stages_in universal_stages)
    (as_planned script direction masked) last) same run)

-- no such stage stops for a syllable of unknown kind
pub universal-known : OthersKnow → (plan : hb_ot_shape_plan_t) (font : Font) (singles : List Single)
    (refusals : StageLookup → Buffer → LookupRefusals) (text left : Buffer) (e : CallError)
    → StagesStopped (substituting plan font singles) refusals (stages_in universal_stages) text left e → (place : ℕ)
    → e ≢ call.Refused (UnknownSyllable place)
universal-known law plan font singles refusals text left e stopped place = λ same.
    let r : Substitution = substituting plan font singles in
    law r refusals (stages_in universal_stages) text left place refl
    (subst (StagesStopped r refusals (stages_in universal_stages) text left) same stopped)
