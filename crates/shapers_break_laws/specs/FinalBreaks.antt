-- Where a text may be broken that Indic's final reordering has reordered.
use Rattle.std.specs.Prelude.{ℕ, ◌<◌, ◌≤◌, ◌≡◌, ◌⊎◌, true, List, ◌++◌, All, Option, length}
use Rattle.std.specs.List.{AllByRecursion}
use Rattle.shapers_buffer.specs.Glyphs.{Glyphs}
use Rattle.shapers_buffer.specs.declared.buffer.level.BufferClusterLevel.{BufferClusterLevel}
use Rattle.shapers_buffer.specs.declared.buffer.syllables.Span.{Span}
use Rattle.shapers_buffer.specs.declared.buffer.tag.Script.{Script}
use Rattle.shapers_buffer.specs.Buffer.{Buffer}
use Rattle.shapers_buffer.specs.Clusters.{merges}
use Rattle.shapers_buffer.specs.Glyph.{order_view}
use Rattle.shapers_buffer.specs.Syllables.{syllables}
use Rattle.shapers_base.specs.Font.{Font}
use Rattle.shapers_base.specs.declared.plan.hb_ot_shape_plan_t.{hb_ot_shape_plan_t}
use Rattle.shapers_base.specs.declared.plan.pause.Pause.TheVariants.{FinalReordering}
use Rattle.shapers_clusters.specs.Breaks.{IsClear}
use Rattle.shapers_clusters.specs.Cuts.{ShareNone}
use Rattle.shapers_indic.specs.Plan.{indic_in}
use Rattle.shapers_indic_final.specs.FinalLaws.{FinallyOfHalves}
use Rattle.shapers_indic_final.specs.FinalMatras.{matra_steps}
use Rattle.shapers_indic_final.specs.FinalReordering.{based}
use Rattle.shapers_indic_final.specs.FinalRules.{final_rules}
use Rattle.shapers_indic_final.specs.declared.ot_shaper_indic_final.rules.Rules.{Rules}
use Rattle.shapers_syllabic.specs.Borders.{MeetAtBorder}
use Rattle.rustybuzz_shapers.specs.Pauses.{Paused}
use Rattle.shapers_break_laws.specs.KeptTextBreaks.{FlagsKept, SyllablesApart}

-- at most one left matra of a syllable moves to its place before the base
abbrev pub OneMatraMoves : Rules → Option Script → Glyphs → Type 0
OneMatraMoves r script syllable =
    let b = based r script syllable in length (matra_steps script b.base b.glyphs) ≤ 1

-- all glyphs of the syllable are in one of two clusters
abbrev pub IsOfTwoClusters : Glyphs → Type 0
IsOfTwoClusters syllable =
    (b : ℕ) × (c : ℕ) × All (λ g. (g.cluster ≡ b) ⊎ (g.cluster ≡ c)) syllable

-- at most one left matra moves, or there are at most two clusters: glyphs aren't parted from one
-- that alone kept the flags of their cluster
abbrev pub SeparatesNothing : Rules → Option Script → Glyphs → Type 0
SeparatesNothing r script syllable =
    OneMatraMoves r script (order_view syllable) ⊎ IsOfTwoClusters syllable

-- The text may be broken before place p of what the final reordering made of it: it was cut there
-- between two syllables, into halves that share no cluster, and the whole is what becomes of these,
-- one after the other, but for init at the start of the second.
pub record FinalBroken (r : Rules) (script : Option Script) (level : BufferClusterLevel) (old new :
    Glyphs) (p : ℕ) : Type 0 where
  pub before : Glyphs
  pub behind : Glyphs
  pub text : old ≡ before ++ behind
  pub border : MeetAtBorder before behind
  pub apart : ShareNone before behind
  pub place : length before ≡ p
  pub halves : FinallyOfHalves r script level before behind new

-- So at every clear place, of any text whose syllables kept their flags and share no cluster, where
-- in each at most one left matra moves or there are at most two clusters.
abbrev pub FinalTextBreaks : Type 0
FinalTextBreaks = (plan : hb_ot_shape_plan_t) (font : Font) (unread : List Span)
    (old new : Buffer) → merges old.level ≡ true → FlagsKept old.glyphs →
    SyllablesApart old.glyphs →
    let r = final_rules font (indic_in plan) in
    AllByRecursion (SeparatesNothing r old.script) (syllables old.glyphs) →
    Paused FinalReordering plan font unread old new →
    (p : ℕ) → 0 < p → p < length new.glyphs → IsClear new.glyphs p →
    FinalBroken r old.script old.level old.glyphs new.glyphs p
