use Rattle.std.proofs.Common.{◌+◌, ap, refl, sym, ◌∙◌, drop, add-zero}
use Rattle.shapers_spans.proofs.Reached.{reach-none}
use Rattle.shapers_spans.specs.Khmer.{khmer_grammar}
use Rattle.shapers_spans.proofs.khmer.KhmerMachineTables.read_from.Goals as goal

pub returns-clause-place : goal.returns-clause-place
unfolding khmer_grammar
returns-clause-place c = sym (ap (λ k. c.args.n + k) (reach-none (drop c.args.n c.args._glyphs.now)) ∙ add-zero c.args.n)

pub returns-clause-end : goal.returns-clause-end
unfolding khmer_grammar
returns-clause-end c = refl
