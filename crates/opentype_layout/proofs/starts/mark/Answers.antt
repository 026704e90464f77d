use Rattle.std.proofs.Common.{rules, refl, ◌∙◌, drop, length}
use Rattle.std.proofs.lemmas.List.{take_at}
use Rattle.opentype_layout.specs.Starts.{HasRoom}
use Rattle.opentype_layout.proofs.starts.mark.Goals as goal

pub returns-then-mark_lookup : goal.returns-then-mark_lookup
returns-then-mark_lookup c =
    let room : HasRoom c.of-grid.result c.deref_mut.result.now = search rules in
    let it = take_at c.mark_lookup.new.words (drop (length c.mark_lookup.new.words) c.resize.new.self.items) c.resize.new.self.len (c.mark_lookup.ensures.len ∙ c.deref_mut.ensures.len) in
    rw it (record {
      counted = refl;
      wide = rw c.subtable_count.ensures at c.of-grid.ensures.wide;
      narrow = c.of-grid.ensures.narrow;
      room = rw c.mark_lookup.ensures.len room;
      out = c.if-mark_lookup.ensures.out refl;
    })
