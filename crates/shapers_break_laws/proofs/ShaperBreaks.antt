-- The law of each shaper.
use Rattle.shapers_indic_initial.specs.InitialLaws.{OrderByFontLaws, OrderByFontReadsNoSerials}
use Rattle.shapers_khmer.specs.KhmerLaws.{KhmerMovesMerged, KhmerReadsNoSerials, KhmerReorderLaws}
use Rattle.shapers_myanmar.specs.MyanmarLaws.{MyanmarMovesMerged, MyanmarReadsNoSerials, MyanmarReorderLaws}
use Rattle.rustybuzz_shapers.specs.declared.shaper.hb_ot_shaper_t.TheVariants.{Arabic, Hangul, Hebrew, Indic, Khmer, Myanmar, MyanmarZawgyi, Thai, Universal}
use Rattle.shapers_break_laws.specs.IndicChain.{IndicChainBreaks, IndicPausesBreak}
use Rattle.shapers_break_laws.specs.ScriptBreaks.{UniversalPausesBreak}
use Rattle.shapers_break_laws.specs.ShaperBreaks.{ShapersBreakLaw}
use Rattle.shapers_break_laws.specs.UniversalChain.{UniversalChainBreaks, UniversalSoundChainBreaks, UniversalSoundPausesBreak}
use Rattle.shapers_break_laws.proofs.HookPieces.{arabic_marks, arabic_text, bare_text, hangul_text, hebrew_marks, thai_text}
use Rattle.shapers_break_laws.proofs.StretchBreaks.{stretch_breaks}
use Rattle.shapers_break_laws.proofs.SyllabicPieces.{indic_text, khmer_text, myanmar_text}

-- what the syllabic shapers' orders promise
pub record SyllabicLaws : Type 0 where
  pub khmer : KhmerReorderLaws
  pub khmer_merged : KhmerMovesMerged
  pub khmer_reads : KhmerReadsNoSerials
  pub myanmar : MyanmarReorderLaws
  pub myanmar_merged : MyanmarMovesMerged
  pub myanmar_reads : MyanmarReadsNoSerials
  pub initial : OrderByFontLaws
  pub initial_reads : OrderByFontReadsNoSerials
  pub indic_chain : IndicChainBreaks
  pub indic_pauses : IndicPausesBreak
  pub universal : UniversalPausesBreak
  pub universal_chain : UniversalChainBreaks
  pub universal_sound : UniversalSoundPausesBreak
  pub universal_sound_chain : UniversalSoundChainBreaks

pub shapers_break : SyllabicLaws → ShapersBreakLaw
shapers_break laws Arabic = (arabic_marks, (arabic_text, stretch_breaks))
shapers_break laws Hangul = hangul_text
shapers_break laws Hebrew = hebrew_marks
shapers_break laws Indic = (indic_text laws.initial laws.initial_reads, (laws.indic_chain, laws.indic_pauses))
shapers_break laws Khmer = khmer_text laws.khmer laws.khmer_merged laws.khmer_reads
shapers_break laws Myanmar = myanmar_text laws.myanmar laws.myanmar_merged laws.myanmar_reads
shapers_break laws MyanmarZawgyi = bare_text
shapers_break laws Thai = thai_text
shapers_break laws Universal = (
  laws.universal,
  (laws.universal_chain, (laws.universal_sound, laws.universal_sound_chain)),
)
