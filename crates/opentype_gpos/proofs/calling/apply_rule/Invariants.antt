use Rattle.opentype_layout.specs.Rules.{found}
use Rattle.opentype_gpos.specs.Coming.{setting_of}
use Rattle.opentype_gpos.proofs.Calls.{IsApplying}
use Rattle.opentype_gpos.proofs.calling.apply_rule.Given as goal

abbrev pub invariant-loop-i : goal.invariant-loop-i
invariant-loop-i l = IsApplying (setting_of l.pass) (found l.rule)
    (record { glyphs = l.fn.glyphs; positions = l.fn.positions; left = 4096 }) l.i l.glyphs l.positions l.left
