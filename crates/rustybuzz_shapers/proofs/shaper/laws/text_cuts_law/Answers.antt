use Rattle.rustybuzz_shapers.proofs.TextCuts.{hangul_cuts, thai_cuts}
use Rattle.rustybuzz_shapers.proofs.shaper.laws.text_cuts_law.Goals as goal

pub returns-clause-thai : goal.returns-clause-thai
returns-clause-thai c = thai_cuts

pub returns-clause-hangul : goal.returns-clause-hangul
returns-clause-hangul c = hangul_cuts
