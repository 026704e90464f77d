use Rattle.std.proofs.Common.{Some, refl, ap, sym, ◌∙◌, arith}
use Rattle.opentype_layout.proofs.Sights.{sought_hit, sought_miss, sought_out, sought_passed}
use Rattle.opentype_layout.proofs.pattern.Pattern.previous.Goals as goal

pub returns-then-from-at-clause-value : goal.returns-then-from-at-clause-value
returns-then-from-at-clause-value c = sym (sought_out _ _ _ _ (record { rest = refl }) (omega arith))

pub returns-then-is_found-clause-value : goal.returns-then-is_found-clause-value
returns-then-is_found-clause-value c = sym (sought_hit _ _ _ _ (record { rest = refl }) (omega arith)
    (rw c.at.ensures.glyph at (sym c.sees-seen.ensures ∙ c.in-Some.is ∙ ap Some c.if-is_found.true)))

pub returns-else-is_found-clause-value : goal.returns-else-is_found-clause-value
returns-else-is_found-clause-value c = sym (sought_miss _ _ _ _ (record { rest = refl }) (omega arith)
    (rw c.at.ensures.glyph at (sym c.sees-seen.ensures ∙ c.in-Some.is ∙ ap Some c.if-is_found.false)))

pub returns-clause-value : goal.returns-clause-value
returns-clause-value c = c.previous_further.ensures.value
    ∙ sym (sought_passed _ _ _ _ (record { rest = refl }) (omega arith)
    (rw c.at.ensures.glyph at (sym c.sees-seen.ensures ∙ c.in_default.is))).rest
