-- What pauses keep: those that reorder nothing clusters and glyph flags, which are only added; the
-- others the laws of reorderings.
use Rattle.std.proofs.Common.{arith}
use Rattle.rustybuzz_shapers.proofs.FlagLaws.{bytes_cleared, marks_cleared, pref_record_added, rphf_record_added, tiles_added, unchanged_added}
use Rattle.rustybuzz_shapers.proofs.shaper.pauses.run_pause.Goals as goal

pub returns-in-RecordStch-clause-laws : goal.returns-in-RecordStch-clause-laws
returns-in-RecordStch-clause-laws = search (arith, tiles_added)

pub returns-in-RecordRphf-clause-laws : goal.returns-in-RecordRphf-clause-laws
returns-in-RecordRphf-clause-laws = search (arith, rphf_record_added)

pub returns-in-RecordPref-clause-laws : goal.returns-in-RecordPref-clause-laws
returns-in-RecordPref-clause-laws = search (arith, pref_record_added)

pub returns-in-SyllabicClearVar-clause-laws : goal.returns-in-SyllabicClearVar-clause-laws
returns-in-SyllabicClearVar-clause-laws = search (arith, bytes_cleared)

pub returns-in-ClearSubstitutionFlags-clause-laws : goal.returns-in-ClearSubstitutionFlags-clause-laws
returns-in-ClearSubstitutionFlags-clause-laws = search (arith, marks_cleared)

pub returns-in-ArabicFallbackShape-clause-laws : goal.returns-in-ArabicFallbackShape-clause-laws
returns-in-ArabicFallbackShape-clause-laws = search (arith, unchanged_added)
