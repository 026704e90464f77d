use Rattle.std.proofs.Common.{◌+◌, ◌-◌, length}
use Rattle.opentype_layout.specs.Pattern.{fits}
use Rattle.opentype_font.specs.WouldApply.{nth_number}
use Rattle.opentype_font.proofs.Tests.{AllYet}
use Rattle.opentype_font.proofs.would_apply.fit_each.Given as goal

abbrev pub invariant-loop-i : goal.invariant-loop-i
invariant-loop-i l = AllYet (λ i. fits l.pattern i (nth_number l.glyphs (l.first + i))) (length l.glyphs - l.first) l.i
