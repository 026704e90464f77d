-- Which shaper has which hook, computed: the whole table.
use Rattle.std.specs.Prelude.{◌≡◌, Bool, true, false, List, [], ◌∷◌, map, refl}
use Rattle.rustybuzz_shapers.specs.Standing.{has_hook}
use Rattle.rustybuzz_shapers.specs.declared.shaper.Hook.{Hook}
use Rattle.rustybuzz_shapers.specs.declared.shaper.Hook.TheVariants.{CollectFeatures, OverrideFeatures, CreateData, PreprocessText, PostprocessGlyphs, Compose, Decompose, SetupMasks, ReorderMarks}
use Rattle.rustybuzz_shapers.specs.declared.shaper.hb_ot_shaper_t.{hb_ot_shaper_t}
use Rattle.rustybuzz_shapers.specs.declared.shaper.hb_ot_shaper_t.TheVariants.{Arabic, Hangul, Hebrew, Indic, Khmer, Myanmar, MyanmarZawgyi, Thai, Universal}

-- the nine shapers; each list below has a value for each of them
abbrev nine : List hb_ot_shaper_t
nine = Arabic ∷ Hangul ∷ Hebrew ∷ Indic ∷ Khmer ∷ Myanmar ∷ MyanmarZawgyi ∷ Thai ∷ Universal ∷ []

abbrev which : Hook → List Bool
which hook = map (λ shaper. has_hook shaper hook) nine

collect : which CollectFeatures ≡ true ∷ true ∷ false ∷ true ∷ true ∷ true ∷ false ∷ false ∷ true ∷ []
collect = refl

override : which OverrideFeatures ≡ false ∷ true ∷ false ∷ true ∷ true ∷ false ∷ false ∷ false ∷ false ∷ []
override = refl

data_kept : which CreateData ≡ true ∷ true ∷ false ∷ true ∷ true ∷ false ∷ false ∷ false ∷ true ∷ []
data_kept = refl

preprocess : which PreprocessText ≡ false ∷ true ∷ false ∷ true ∷ false ∷ false ∷ false ∷ true ∷ true ∷ []
preprocess = refl

postprocess : which PostprocessGlyphs ≡ true ∷ false ∷ false ∷ false ∷ false ∷ false ∷ false ∷ false ∷ false ∷ []
postprocess = refl

composes : which Compose ≡ false ∷ false ∷ true ∷ true ∷ true ∷ false ∷ false ∷ false ∷ true ∷ []
composes = refl

decomposes : which Decompose ≡ false ∷ false ∷ false ∷ true ∷ true ∷ false ∷ false ∷ false ∷ false ∷ []
decomposes = refl

sets_masks : which SetupMasks ≡ true ∷ true ∷ false ∷ true ∷ true ∷ true ∷ false ∷ false ∷ true ∷ []
sets_masks = refl

orders_marks : which ReorderMarks ≡ true ∷ false ∷ true ∷ false ∷ false ∷ false ∷ false ∷ false ∷ false ∷ []
orders_marks = refl
