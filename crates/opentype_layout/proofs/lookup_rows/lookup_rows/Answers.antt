use Rattle.std.proofs.Common.{arith, refl, ◌≡◌, ◌∙◌, drop, length}
use Rattle.std.proofs.lemmas.List.{take_at}
use Rattle.opentype_layout.proofs.RowMarks.{rows_by}
use Rattle.opentype_layout.proofs.lookup_rows.lookup_rows.Goals as goal

pub returns-then-mark_rows : goal.returns-then-mark_rows
returns-then-mark_rows c =
    let it = take_at c.mark_rows.new.words (drop (length c.mark_rows.new.words) c.resize.new.self.items) c.resize.new.self.len
    (c.mark_rows.ensures.len ∙ c.deref_mut.ensures.len) in
    let all : length c.args.starts.now ≡ c.lookup_count.result = omega (arith, c.if-starts-from.false, c.from.ensures) in
    rw it (rows_by _ _ _ _ _ c.requires (c.if-mark_rows.ensures.out refl) c.lookup_count.ensures all)
