use Rattle.std.proofs.Common.{◌∙◌, refl}
use Rattle.opentype_layout.proofs.SubtableStarts.{place_plain}
use Rattle.opentype_gsub.specs.Applied.{one_put, two_byte_number}
use Rattle.opentype_gsub.proofs.apply.apply_in_room.Goals as goal

pub apply_single-requires-clause-place : goal.apply_single-requires-clause-place
apply_single-requires-clause-place c = c.requires.place
    ∙ place_plain c.args.subtable.now.kind c.args.subtable.now.bytes.now (two_byte_number c.args.text.now c.args.at)
    (rw c.in-1.is refl) (rw c.in-1.is refl)

pub apply_chosen-requires-clause-place : goal.apply_chosen-requires-clause-place
apply_chosen-requires-clause-place c = c.requires.place
    ∙ place_plain c.args.subtable.now.kind c.args.subtable.now.bytes.now (two_byte_number c.args.text.now c.args.at)
    (rw c.in-3.is refl) (rw c.in-3.is refl)

pub apply_ligature-requires-clause-place : goal.apply_ligature-requires-clause-place
apply_ligature-requires-clause-place c = c.requires.place
    ∙ place_plain c.args.subtable.now.kind c.args.subtable.now.bytes.now (two_byte_number c.args.text.now c.args.at)
    (rw c.in-4.is refl) (rw c.in-4.is refl)

pub returns-in-1 : goal.returns-in-1
unfolding one_put
returns-in-1 c = rw c.in-1.is (c.apply_single.ensures c.args.lookups.now)

pub returns-in-3 : goal.returns-in-3
unfolding one_put
returns-in-3 c = rw c.in-3.is c.apply_chosen.ensures

pub returns-in-4 : goal.returns-in-4
unfolding one_put
returns-in-4 c = rw c.in-4.is (c.apply_ligature.ensures c.args.lookups.now)
