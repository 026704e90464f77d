-- A word of Khmer behind its stages.
use Rattle.std.proofs.Common.{◌≡◌, ◌≢◌, ◌∙◌, ◌==◌, ◌||◌, ℕ, true, false, List, [], ◌∷◌, map, refl, sym, ap, subst, inl, Option, None, Some}
use Rattle.std.specs.Prelude.{bit_and, find, if◌then◌else◌, Err, IfErr, Ok, Result}
use Rattle.std.specs.Result.{IsErrAnd}
use Rattle.std.specs.List.{AllZip}
use Rattle.std.specs.Option.{option_map_or}
use Rattle.shapers_base.specs.Font.{CharacterTables, Font}
use Rattle.shapers_base.specs.declared.plan.hb_ot_shape_plan_t.{hb_ot_shape_plan_t}
use Rattle.shapers_base.specs.declared.plan.pause.Pause.{Pause}
use Rattle.shapers_base.specs.declared.plan.pause.Pause.TheVariants.{ReorderKhmer, SetupSyllablesKhmer, SyllabicClearVar}
use Rattle.shapers_buffer.specs.Buffer.{Buffer}
use Rattle.shapers_buffer.specs.Clusters.{merges}
use Rattle.shapers_buffer.specs.Glyph.{clusters}
use Rattle.shapers_buffer.specs.Glyphs.{Glyph, Glyphs}
use Rattle.shapers_buffer.specs.declared.buffer.level.Direction.{Direction}
use Rattle.shapers_buffer.specs.declared.buffer.tag.Script.{Script}
use Rattle.shapers_buffer.specs.declared.buffer.refusal.ShaperError.TheVariants.{UnknownSyllable}
use Rattle.rustybuzz_shapers.specs.declared.shaper.checked.CallError.{CallError}
use Rattle.rustybuzz_shapers.specs.declared.shaper.checked.CallError.TheVariants as call
use Rattle.shapers_clusters.specs.Cuts.{IsMonotone, IsRising}
use Rattle.shapers_found_laws.specs.FoundPauses.{AreStagesOf, FoundPausesSort, FoundStagesKnow, LookupsGainNone, reorders}
use Rattle.shapers_found_laws.specs.FoundSyllables.{GainsNone}
use Rattle.shapers_pipeline.specs.ClusterLaws.{LookupsKeep, StagesKeepClusters}
use Rattle.shapers_pipeline.specs.Lookups.{LookupRefusals}
use Rattle.shapers_pipeline.specs.Planned.{as_planned}
use Rattle.shapers_pipeline.specs.SingleLaws.{singles_keep}
use Rattle.shapers_pipeline.specs.Singles.{is_single_for, single_applied, singles_applied, with_single}
use Rattle.shapers_pipeline.specs.Stages.{StagesRun, StagesStopped, Substitution}
use Rattle.shapers_pipeline.specs.declared.singles.Single.{Single}
use Rattle.shapers_plan.specs.declared.ot_map.lookups.Stage.{Stage}
use Rattle.shapers_plan.specs.declared.ot_map.lookups.StageLookup.{StageLookup}
use Rattle.shapers_syllabic.specs.Characters.{with_category}
use Rattle.shapers_bench.specs.Words.{letters_from, word_in}
use Rattle.shapers_bench.proofs.Letters.{letters-rise}

-- single substitutions keep syllables and categories
single-gains : (k : ℕ) (singles : List Single) (lookup : StageLookup) (g : Glyph)
    → GainsNone k g (single_applied singles lookup g)
single-gains k singles lookup g =
    elim (bit_and g.mask lookup.mask == 0) as
    (λ test. GainsNone k g (if test then g else put (find (is_single_for lookup g) singles))) [
      | true ↦ record { byte = refl; gained = λ e. e }
      | false ↦ putting (find (is_single_for lookup g) singles)
    ]
  where
    put : Option Single → Glyph
    put found = option_map_or (with_single g) found g

    putting : (found : Option Single) → GainsNone k g (put found)
    putting None = record { byte = refl; gained = λ e. e }
    putting (Some s) = record { byte = refl; gained = λ e. e }

each-gains : (k : ℕ) (singles : List Single) (lookup : StageLookup) (gs : Glyphs)
    → AllZip (GainsNone k) gs (map (single_applied singles lookup) gs)
each-gains k singles lookup [] = tt
each-gains k singles lookup (g ∷ gs) = (single-gains k singles lookup g, each-gains k singles lookup gs)

pub singles-gain-none : (k : ℕ) (singles : List Single) → LookupsGainNone k (singles_applied singles)
singles-gain-none k singles lookup b = each-gains k singles lookup b.glyphs

-- and categories are no clusters
pub same-clusters : (tables : CharacterTables) (gs : Glyphs) → clusters (map (with_category tables) gs) ≡ clusters gs
same-clusters tables [] = refl
same-clusters tables (g ∷ gs) = ap (λ cs. g.cluster ∷ cs) (same-clusters tables gs)

pub stages-sorted : FoundPausesSort SetupSyllablesKhmer ReorderKhmer 14 → StagesKeepClusters
    → (plan : hb_ot_shape_plan_t) (font : Font) (singles : List Single) (list : List StageLookup)
    (first second third : Stage) (room : ℕ) (word : List ℕ) (tables : CharacterTables) (script : Option Script)
    (direction : Direction) (old masked last : Buffer) → first.pause ≡ Some SetupSyllablesKhmer
    → second.pause ≡ Some ReorderKhmer → third.pause ≡ Some SyllabicClearVar → old ≡ word_in room word
    → masked ≡ record old { glyphs = map (with_category tables) old.glyphs } →
    let r : Substitution = record {
      plan = plan;
      font = font;
      substituted = singles_applied singles;
      list = list;
    } in
    StagesRun r (first ∷ (second ∷ (third ∷ []))) (as_planned script direction masked) last
    → IsMonotone (clusters last.glyphs)
stages-sorted found keep plan font singles list first second third room word tables script direction old masked last
    a b d begun set run =
    let r : Substitution = record { plan = plan; font = font; substituted = singles_applied singles; list = list } in
    let text = as_planned script direction masked in
    let are : AreStagesOf SetupSyllablesKhmer ReorderKhmer 14 r first second (third ∷ []) = record {
      set_up = a;
      reordered = b;
      others = ap (λ (p : Option Pause). option_map_or reorders p false || false) d;
      lookups = singles-gain-none 14 singles;
    } in
    let keeps : LookupsKeep (singles_applied singles) = λ lookup b none. singles_keep singles lookup b in
    let none : masked.positions ≡ [] = ap (λ (b : Buffer). b.positions) set ∙ ap (λ (b : Buffer). b.positions) begun in
    let merging : merges masked.level ≡ true =
    ap (λ (b : Buffer). merges b.level) set ∙ ap (λ (b : Buffer). merges b.level) begun in
    let same : clusters masked.glyphs ≡ clusters (letters_from 0 word) =
    ap (λ (b : Buffer). clusters b.glyphs) set
    ∙ (same-clusters tables old.glyphs ∙ ap (λ (b : Buffer). clusters b.glyphs) begun) in
    let rises : IsRising (clusters masked.glyphs) = subst IsRising (sym same) (letters-rise 0 word) in
    (keep r (first ∷ (second ∷ (third ∷ []))) text last keeps none run).1
    (found r first second (third ∷ []) text last are run) merging (inl rises)

-- no such stage stops for a syllable of unknown kind
pub stages-know : FoundStagesKnow SetupSyllablesKhmer ReorderKhmer 14
    → (plan : hb_ot_shape_plan_t) (font : Font) (singles : List Single) (list : List StageLookup)
    (first second third : Stage) (refusals : StageLookup → Buffer → LookupRefusals) (text left : Buffer) (e : CallError)
    → first.pause ≡ Some SetupSyllablesKhmer → second.pause ≡ Some ReorderKhmer
    → third.pause ≡ Some SyllabicClearVar →
    let r : Substitution = record {
      plan = plan;
      font = font;
      substituted = singles_applied singles;
      list = list;
    } in
    StagesStopped r refusals (first ∷ (second ∷ (third ∷ []))) text left e → (place : ℕ)
    → e ≢ call.Refused (UnknownSyllable place)
stages-know law plan font singles list first second third refusals text left e a b d stopped place = λ same.
    let r : Substitution = record { plan = plan; font = font; substituted = singles_applied singles; list = list } in
    let are : AreStagesOf SetupSyllablesKhmer ReorderKhmer 14 r first second (third ∷ []) = record {
      set_up = a;
      reordered = b;
      others = ap (λ (p : Option Pause). option_map_or reorders p false || false) d;
      lookups = singles-gain-none 14 singles;
    } in
    law r refusals first second (third ∷ []) text left place are
    (subst (StagesStopped r refusals (first ∷ (second ∷ (third ∷ []))) text left) same stopped)

-- what holds of an error holds of the error that is handed on
pub told-on : {T : Type 0} (r : Result T CallError) (x : CallError) (P : CallError → Type 0)
    → IsErrAnd r (λ y. y ≡ x) → P x → IfErr r P
told-on (Ok v) x P told p = tt
told-on (Err y) x P told p = subst P (sym told) p
