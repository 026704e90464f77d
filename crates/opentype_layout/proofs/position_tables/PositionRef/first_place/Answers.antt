use Rattle.opentype_layout.proofs.SubtableStarts.{set_plain}
use Rattle.opentype_layout.proofs.position_tables.PositionRef.first_place.Goals as goal

pub place_in_set-requires-2 : goal.place_in_set-requires-2
place_in_set-requires-2 c = set_plain _ _ c.args.self.now.kind c.args.self.now.bytes.now
    c.if-self-eq7.false c.if-self-eq8.false c.args.self.now.first_fits
