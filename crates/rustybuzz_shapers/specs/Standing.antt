-- Which shaper has which hook.
use Rattle.std.specs.Prelude.{Bool, true, false, ◌≡◌}
use Rattle.rustybuzz_shapers.specs.declared.shaper.Hook.{Hook}
use Rattle.rustybuzz_shapers.specs.declared.shaper.Hook.TheVariants.{CollectFeatures, OverrideFeatures, CreateData, PreprocessText, PostprocessGlyphs, Compose, Decompose, SetupMasks, ReorderMarks}
use Rattle.rustybuzz_shapers.specs.declared.shaper.hb_ot_shaper_t.{hb_ot_shaper_t}
use Rattle.rustybuzz_shapers.specs.declared.shaper.hb_ot_shaper_t.TheVariants.{Arabic, Hangul, Hebrew, Indic, Khmer, Myanmar, Thai, Universal}

-- whether a shaper has a hook: these have them, and no other has any
abbrev pub has_hook : hb_ot_shaper_t → Hook → Bool
has_hook Arabic CollectFeatures = true
has_hook Arabic CreateData = true
has_hook Arabic PostprocessGlyphs = true
has_hook Arabic SetupMasks = true
has_hook Arabic ReorderMarks = true
has_hook Hangul CollectFeatures = true
has_hook Hangul OverrideFeatures = true
has_hook Hangul CreateData = true
has_hook Hangul PreprocessText = true
has_hook Hangul SetupMasks = true
has_hook Hebrew Compose = true
has_hook Hebrew ReorderMarks = true
has_hook Indic CollectFeatures = true
has_hook Indic OverrideFeatures = true
has_hook Indic CreateData = true
has_hook Indic PreprocessText = true
has_hook Indic Compose = true
has_hook Indic Decompose = true
has_hook Indic SetupMasks = true
has_hook Khmer CollectFeatures = true
has_hook Khmer OverrideFeatures = true
has_hook Khmer CreateData = true
has_hook Khmer Compose = true
has_hook Khmer Decompose = true
has_hook Khmer SetupMasks = true
has_hook Myanmar CollectFeatures = true
has_hook Myanmar SetupMasks = true
has_hook Thai PreprocessText = true
has_hook Universal CollectFeatures = true
has_hook Universal CreateData = true
has_hook Universal PreprocessText = true
has_hook Universal Compose = true
has_hook Universal SetupMasks = true
has_hook shaper hook = false

-- what holds of a shaper that lacks a hook, and can't be met by one that has it
abbrev pub Lacking : Bool → Type 0 → Type 0
Lacking is_there Fact = (is_there ≡ false) × Fact
