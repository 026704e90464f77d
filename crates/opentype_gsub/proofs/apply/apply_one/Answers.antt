use Rattle.std.proofs.Common.{◌∙◌, refl}
use Rattle.opentype_layout.proofs.SubtableStarts.{place_plain}
use Rattle.opentype_gsub.specs.Applied.{two_byte_number}
use Rattle.opentype_gsub.proofs.apply.apply_one.Goals as goal

pub apply_multiple-requires-clause-place : goal.apply_multiple-requires-clause-place
apply_multiple-requires-clause-place c = c.requires.place
    ∙ place_plain c.args.subtable.now.kind c.args.subtable.now.bytes.now (two_byte_number c.args.text.now c.args.at)
    (rw c.if-subtable-eq2.true refl) (rw c.if-subtable-eq2.true refl)
