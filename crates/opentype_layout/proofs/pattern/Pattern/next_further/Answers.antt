use Rattle.std.proofs.Common.{Some, ap, sym, ◌∙◌}
use Rattle.opentype_layout.proofs.Sights.{sought_hit, sought_miss, sought_out, sought_passed}
use Rattle.opentype_layout.proofs.pattern.Pattern.next_further.Goals as goal

pub returns-then-is_found-clause-value : goal.returns-then-is_found-clause-value
returns-then-is_found-clause-value c = sym (sought_hit _ _ _ _ c.loop-glyph.invariant c.in-Some.ensures.within
    (rw c.in-Some.ensures.glyph at (sym c.sees-seen.ensures ∙ c.in-Some-seen.is ∙ ap Some c.if-is_found.true)))

pub returns-else-is_found-clause-value : goal.returns-else-is_found-clause-value
returns-else-is_found-clause-value c = sym (sought_miss _ _ _ _ c.loop-glyph.invariant c.in-Some.ensures.within
    (rw c.in-Some.ensures.glyph at (sym c.sees-seen.ensures ∙ c.in-Some-seen.is ∙ ap Some c.if-is_found.false)))

pub loop-glyph-preserved : goal.loop-glyph-preserved
loop-glyph-preserved c = sought_passed _ _ _ _ c.loop-glyph.invariant c.in-Some.ensures.within
    (rw c.in-Some.ensures.glyph at (sym c.sees-seen.ensures ∙ c.in_default-seen.is))

pub returns-clause-value : goal.returns-clause-value
returns-clause-value c = sym (sought_out _ _ _ _ c.loop-glyph.invariant c.in_default.ensures.end)
