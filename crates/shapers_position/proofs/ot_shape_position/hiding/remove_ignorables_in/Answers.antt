-- As many glyphs stay of the text whose opening ones are merged.
use Rattle.std.proofs.Common.{◌∙◌, ◌+◌, [], ap, length, min, sym, take}
use Rattle.std.specs.Prelude.{count_by}
use Rattle.std.specs.List.{prefix_len}
use Rattle.shapers_position.specs.Ignorables.{is_default_ignorable, stays_in_text, removed_behind}
use Rattle.shapers_position.proofs.RemovalSteps.{count_merged}
use Rattle.shapers_position.proofs.ot_shape_position.hiding.remove_ignorables_in.Goals as goal

pub returns : goal.returns
returns c =
    let gs = c.args.glyphs.now in
    let level = c.args.level in
    let e = min (prefix_len is_default_ignorable gs + 1) (length gs) in
    ap (λ n. take n c.remove_glyphs.new.glyphs) (sym (count_merged level 0 e gs))
    ∙ ap (λ gs. take (count_by stays_in_text gs) c.remove_glyphs.new.glyphs) (sym c.merge_leading.ensures)
    ∙ c.remove_glyphs.ensures
    ∙ ap (removed_behind []) c.merge_leading.ensures
