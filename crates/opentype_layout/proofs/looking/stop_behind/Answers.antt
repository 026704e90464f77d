use Rattle.std.proofs.Common.{arith, sym, ◌∙◌}
use Rattle.opentype_layout.proofs.Lookings.{stopped_here, stopped_out, stopped_passed, stopped_start}
use Rattle.opentype_layout.proofs.looking.stop_behind.Goals as goal

pub loop-glyph-init : goal.loop-glyph-init
loop-glyph-init c = stopped_start _ _ _

pub returns-then-not-passes : goal.returns-then-not-passes
returns-then-not-passes c = stopped_here _ _ _ _ c.loop-glyph.invariant c.in-Some.ensures.within
    (rw c.in-Some.ensures.glyph at (sym c.passes.ensures ∙ c.if-not-passes.true))

pub loop-glyph-preserved : goal.loop-glyph-preserved
loop-glyph-preserved c = stopped_passed _ _ _ _ c.loop-glyph.invariant c.in-Some.ensures.within
    (rw c.in-Some.ensures.glyph at (sym c.passes.ensures ∙ c.if-not-passes.false))

pub returns : goal.returns
returns c = let s = c.loop-glyph.invariant in
    stopped_out _ _ _ _ _ s c.in_default.ensures.end (omega (arith, s.behind, s.within, c.in_default.ensures.end))
