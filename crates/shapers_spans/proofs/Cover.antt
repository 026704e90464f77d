-- Spans that cut a text cover it, and their kinds fit.
use Rattle.std.proofs.Common.{◌≤◌, length, ⊎_elim, arith}
use Rattle.shapers_buffer.specs.Glyphs.{Glyphs}
use Rattle.shapers_buffer.specs.declared.buffer.syllables.Span.{Span}
use Rattle.shapers_spans.specs.Grammar.{Grammar, BeginsWith, KindsFit}
use Rattle.shapers_spans.proofs.Reached.{reach-le}

pub opens_within : (g : Grammar) (gs : Glyphs) (span : Span) → BeginsWith g gs span → span.len ≤ length gs
opens_within g gs span o = let h = reach-le g.passes gs o.read.len in omega (arith, h, o.len)

pub opens_fits : (g : Grammar) (gs : Glyphs) (span : Span) → KindsFit g → BeginsWith g gs span
    → span.kind ≤ 15
opens_fits g gs span f o =
    ⊎_elim (λ l. omega (arith, l.kind, f.rules l.rule, o.kind)) (λ y. omega (arith, y.kind, f.other_fits, o.kind))
    o.syllable
