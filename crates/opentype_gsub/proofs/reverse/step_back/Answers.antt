use Rattle.std.proofs.Common.{◌∙◌, arith, refl, sym}
use Rattle.opentype_gsub.specs.Setting.{setting_of}
use Rattle.opentype_gsub.proofs.AsLong.{set_as_long, tried_back_as_long, unbroken_as_long}
use Rattle.opentype_gsub.proofs.Untouched.{back_left}
use Rattle.opentype_gsub.proofs.reverse.step_back.Goals as goal

pub returns-then-is_passed-clause-value : goal.returns-then-is_passed-clause-value
returns-then-is_passed-clause-value c = sym (back_left (setting_of c.args.pass.now) c.args.lookup.now c.args.text.now c.args.at
    (rw c.at.ensures.glyph at (c.if-is_passed.ensures refl)))

pub first-requires : goal.first-requires
first-requires c = rw c.view.ensures (omega (arith, tried_back_as_long (setting_of c.args.pass.now) _ _ _ _ c.flag_tried.ensures))

pub replace-requires : goal.replace-requires
replace-requires c = omega (
  arith,
  tried_back_as_long (setting_of c.args.pass.now) _ _ _ _ c.flag_tried.ensures,
  unbroken_as_long _ _ _ _ _ c.flag_stretch.ensures,
)

pub returns-in-Some-clause-length : goal.returns-in-Some-clause-length
returns-in-Some-clause-length c = set_as_long _ _ _ _ c.replace.ensures.text ∙ unbroken_as_long _ _ _ _ _ c.flag_stretch.ensures
    ∙ tried_back_as_long (setting_of c.args.pass.now) _ _ _ _ c.flag_tried.ensures

pub returns-in_default-clause-length : goal.returns-in_default-clause-length
returns-in_default-clause-length c = tried_back_as_long (setting_of c.args.pass.now) _ _ _ _ c.flag_tried.ensures
