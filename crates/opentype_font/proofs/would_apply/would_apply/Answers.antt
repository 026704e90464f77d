-- A lookup that is known to begin elsewhere isn't asked.
use Rattle.std.proofs.Common.{sym}
use Rattle.opentype_face.specs.Lookups.{lookup_in}
use Rattle.opentype_font.proofs.Unbegun.{unbegun}
use Rattle.opentype_font.proofs.would_apply.would_apply.Goals as goal

pub returns-then-begins_elsewhere : goal.returns-then-begins_elsewhere
returns-then-begins_elsewhere c =
    sym (unbegun (lookup_in c.args.gsub.now c.args.index) c.args.glyphs.now c.args.zero_context
    (c.begins_elsewhere.ensures c.if-begins_elsewhere.true))
