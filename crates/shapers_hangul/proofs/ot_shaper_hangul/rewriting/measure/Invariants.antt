-- The room that is left, and the items so far.
use Rattle.std.proofs.Common.{◌≡◌, ◌+◌, ◌≤◌, ◌-◌, ◌++◌, [], length, true}
use Rattle.shapers_buffer.specs.Glyph.{characters}
use Rattle.shapers_hangul.specs.Hangul.{glyph_copies, items_at, outputs}
use Rattle.shapers_hangul.specs.RewritingWalk.{changes_in, rewritten_items}
use Rattle.shapers_hangul.proofs.ot_shaper_hangul.rewriting.measure.Given as goal

abbrev pub invariant-loop-place : goal.invariant-loop-place
invariant-loop-place g l =
    let cut = items_at (g.F.hb_font_t.font l.font) l.circles (characters l.glyphs) in
    record {
      within : l.place ≤ length l.glyphs;
      room_left : l.kept + length (outputs glyph_copies (cut l.kept) l.glyphs) + l.room
          ≡ length (outputs glyph_copies (cut l.place) l.glyphs) + l.limit;
      recorded : l.cut.is_whole ≡ true → changes_in l.cut ++ rewritten_items (cut l.place)
          ≡ rewritten_items (cut l.kept);
      none : rewritten_items (cut l.kept) ≡ [] → (rewritten_items (cut l.place) ≡ [])
          × (l.cut.is_whole ≡ l.initial.cut.is_whole);
    }

abbrev pub decreases-loop-place : goal.decreases-loop-place
decreases-loop-place g l = length l.glyphs - l.place
