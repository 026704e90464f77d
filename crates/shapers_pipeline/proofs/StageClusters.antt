-- Stages make no cluster, and keep them rising or falling where their pauses do.
use Rattle.std.proofs.Common.{◌≡◌, ◌∙◌, ℕ, true, List, [], ◌∷◌, refl, sym, ap, subst, inl, inr}
use Rattle.std.specs.Prelude.{Option, None, Some}
use Rattle.shapers_base.specs.Font.{Font}
use Rattle.shapers_base.specs.declared.plan.hb_ot_shape_plan_t.{hb_ot_shape_plan_t}
use Rattle.shapers_base.specs.declared.plan.pause.Pause.{Pause}
use Rattle.shapers_buffer.specs.Buffer.{Buffer}
use Rattle.shapers_buffer.specs.Clusters.{merges}
use Rattle.shapers_buffer.specs.Glyph.{clusters}
use Rattle.shapers_buffer.specs.Glyphs.{Glyphs}
use Rattle.shapers_clusters.specs.Cuts.{IsMonotone}
use Rattle.shapers_syllabic.specs.Circles.{circled}
use Rattle.shapers_syllabic.specs.declared.ot_shaper_syllabic.circles.DottedCircles.{DottedCircles}
use Rattle.rustybuzz_shapers.specs.Apart.{PausesMakeNoCluster}
use Rattle.rustybuzz_shapers.specs.FoundSyllables.{PauseRun}
use Rattle.rustybuzz_shapers.specs.Monotone.{AtMostOneRepha, CirclesStayMonotone, PausesStayMonotone, StaysMonotone}
use Rattle.rustybuzz_shapers.specs.Pauses.{pause_circles}
use Rattle.shapers_plan.specs.declared.ot_map.lookups.Stage.{Stage}
use Rattle.shapers_plan.specs.declared.ot_map.lookups.StageLookup.{StageLookup}
use Rattle.shapers_pipeline.specs.ClusterLaws.{AtPauses, IfPaused, LookupsKeep, NoneMade, PauseSorts, StagesKeepClusters, StayMonotone}
use Rattle.shapers_pipeline.specs.Lookups.{looked_up, lookups_of_stage}
use Rattle.shapers_pipeline.specs.Stages.{PauseRunIf, StageRun, StagesRun, Substitution, stage_looked_up}
use Rattle.shapers_pipeline.proofs.ClustersKept.{itself, none_then}
use Rattle.shapers_pipeline.proofs.Pausing.{pause_level, pause_positions}

-- none made, no positions, and clusters that still rise or fall where P holds
pub record Run (P : Type 0) (old new : Buffer) : Type 0 where
  pub positions : new.positions ≡ []
  pub made : NoneMade old new
  pub sorted : P → StayMonotone old new

nothing : (P : Type 0) (b : Buffer) → b.positions ≡ [] → Run P b b
nothing P b none = record {
  positions = none;
  made = record { level = refl; old_clusters = (itself true b.glyphs).none };
  sorted = λ p merging rises. rises;
}

unchanged : (P : Type 0) (old new : Buffer) → new ≡ old → old.positions ≡ [] → Run P old new
unchanged P old new is none = subst (Run P old) (sym is) (nothing P old none)

pub none_after : (a b c : Buffer) → NoneMade a b → NoneMade b c → NoneMade a c
none_after a b c one two = record {
  level = two.level ∙ one.level;
  old_clusters = none_then a.glyphs b.glyphs c.glyphs one.old_clusters two.old_clusters;
}

pub sorted_after : (a b c : Buffer) → b.level ≡ a.level → StayMonotone a b → StayMonotone b c → StayMonotone a c
sorted_after a b c level one two merging rises = two (ap merges level ∙ merging) (one merging rises)

after : (P Q : Type 0) (a b c : Buffer) → Run P a b → Run Q b c → Run (P × Q) a c
after P Q a b c one two = record {
  positions = two.positions;
  made = none_after a b c one.made two.made;
  sorted = λ both. sorted_after a b c one.made.level (one.sorted both.0) (two.sorted both.1);
}

-- ---- the lookups of a stage

looked : (f : StageLookup → Buffer → Buffer) → LookupsKeep f → (list : List StageLookup) (b : Buffer) → b.positions
    ≡ [] → Run (Unit {0}) b (looked_up f list b)
looked f keeps [] b none = nothing (Unit {0}) b none
looked f keeps (x ∷ xs) b none =
    let kept = keeps x b none in
    let first : Run (Unit {0}) b (f x b) = record {
      positions = ap (λ c. c.positions) kept.others ∙ none;
      made = record { level = ap (λ c. c.level) kept.others; old_clusters = kept.old_clusters };
      sorted = λ p. kept.monotone;
    } in
    let rest = looked f keeps xs (f x b) first.positions in
    let both = after (Unit {0}) (Unit {0}) b (f x b) (looked_up f (x ∷ xs) b) first rest in
    record { positions = both.positions; made = both.made; sorted = λ p. both.sorted (p, p) }

-- ---- a pause

-- the laws that this rests on
pub record Laws : Type 0 where
  pub none : PausesMakeNoCluster
  pub sorted : PausesStayMonotone
  pub circles : CirclesStayMonotone

mono_of : (cs js : List ℕ) → StaysMonotone cs js → IsMonotone cs → IsMonotone js
mono_of cs js stays (inl up) = inl (stays.0 up)
mono_of cs js stays (inr down) = inr (stays.1 down)

circles_sort : CirclesStayMonotone → (o : Option DottedCircles) (gs : Glyphs) → AtMostOneRepha o gs
    → IsMonotone (clusters gs) → IsMonotone (clusters (circled o gs))
circles_sort law None gs one rises = rises
circles_sort law (Some rule) gs one rises = mono_of (clusters gs) (clusters (circled (Some rule) gs))
    (law rule gs one) rises

pause_sorts : Laws → (pause : Pause) (plan : hb_ot_shape_plan_t) (font : Font) (old new : Buffer)
    → PauseRun pause plan font old new → PauseSorts plan font pause old new → StayMonotone old new
pause_sorts laws pause plan font old new run (inr this) = this
pause_sorts laws pause plan font old new run (inl by) = λ merging rises.
    let o = pause_circles pause plan font old in
    let opened = circled o old.glyphs in
    mono_of (clusters opened) (clusters new.glyphs)
    (laws.sorted pause plan font run.spans old new by.0 merging run.kept)
    (circles_sort laws.circles o old.glyphs by.1 rises)

paused : Laws → (pause : Option Pause) (plan : hb_ot_shape_plan_t) (font : Font) (old new : Buffer)
    → PauseRunIf pause plan font old new → old.positions ≡ [] → Run
    (IfPaused (PauseSorts plan font) pause old new) old new
paused laws None plan font old new run none = unchanged (Unit {0}) old new run none
paused laws (Some pause) plan font old new run none = record {
  positions = pause_positions pause plan font run.spans old new run.paused ∙ none;
  made = record {
    level = pause_level pause plan font run.spans old new run.paused;
    old_clusters = laws.none pause plan
        font run.spans old new run.kept;
  };
  sorted = pause_sorts laws pause plan font old new run;
}

-- ---- stages

stage : Laws → (r : Substitution) (s : Stage) (old new : Buffer) → LookupsKeep r.substituted → old.positions ≡ []
    → StageRun r s old new → Run (IfPaused (PauseSorts r.plan r.font) s.pause (stage_looked_up r s old) new) old new
stage laws r s old new keeps none run =
    let mid = stage_looked_up r s old in
    let P = IfPaused (PauseSorts r.plan r.font) s.pause mid new in
    let first = looked r.substituted keeps (lookups_of_stage s r.list) old none in
    let both = after (Unit {0}) P old mid new first (paused laws s.pause r.plan r.font mid new run first.positions) in
    record { positions = both.positions; made = both.made; sorted = λ p. both.sorted (tt, p) }

stages : Laws → (r : Substitution) (ss : List Stage) (old new : Buffer) → LookupsKeep r.substituted → old.positions
    ≡ [] → (run : StagesRun r ss old new) → Run (AtPauses (PauseSorts r.plan r.font) r ss old new run) old new
stages laws r [] old new keeps none run = unchanged (Unit {0}) old new run none
stages laws r (s ∷ ss) old new keeps none run =
    let mid = run.0 in
    let first = stage laws r s old mid keeps none run.1.0 in
    after (IfPaused (PauseSorts r.plan r.font) s.pause (stage_looked_up r s old) mid)
    (AtPauses (PauseSorts r.plan r.font) r ss mid new run.1.1) old mid new first
    (stages laws r ss mid new keeps first.positions run.1.1)

pub stages_keep : Laws → StagesKeepClusters
stages_keep laws r ss old new keeps none run =
    let all = stages laws r ss old new keeps none run in
    (all.made, all.sorted)
