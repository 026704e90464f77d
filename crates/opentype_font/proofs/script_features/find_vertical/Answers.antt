use Rattle.std.proofs.Common.{◌+◌, ◌*◌, ◌∙◌, arith, ap, sym}
use Rattle.std.proofs.lemmas.Grind.{common_steps}
use Rattle.opentype_face.specs.Bytes.{table_at, u16_in, u32_in}
use Rattle.opentype_face.proofs.Foremost.{first_hit, first_out, first_passed, first_start}
use Rattle.opentype_layout.specs.Features.{any_feature_in, feature_tag_in, nth_any}
use Rattle.opentype_font.proofs.script_features.find_vertical.Goals as goal

pub loop-i-init : goal.loop-i-init
loop-i-init c = first_start _ _

pub returns-then-u32_at-eq-VERT : goal.returns-then-u32_at-eq-VERT
unfolding any_feature_in nth_any feature_tag_in
returns-then-u32_at-eq-VERT c =
    let list = c.table_at-list.ensures ∙ ap (table_at c.args.table.now) c.offset16.ensures in
    let count = c.u16_at-i-end.ensures ∙ ap (λ bytes. u16_in bytes 0) list in
    let tag = c.u32_at.ensures ∙ ap (λ bytes. u32_in bytes (2 + c.from.result * 6)) list in
    sym (first_hit _ _ _ _ c.loop-i.invariant (omega (arith, count)) (grind (arith, common_steps, tag, c.from.ensures)))

pub loop-i-preserved : goal.loop-i-preserved
unfolding nth_any feature_tag_in
loop-i-preserved c =
    let list = c.table_at-list.ensures ∙ ap (table_at c.args.table.now) c.offset16.ensures in
    let count = c.u16_at-i-end.ensures ∙ ap (λ bytes. u16_in bytes 0) list in
    let tag = c.u32_at.ensures ∙ ap (λ bytes. u32_in bytes (2 + c.from.result * 6)) list in
    first_passed _ _ _ c.loop-i.invariant (omega (arith, count)) (grind (arith, common_steps, tag, c.from.ensures))

pub returns : goal.returns
unfolding any_feature_in
returns c =
    let list = c.table_at-list.ensures ∙ ap (table_at c.args.table.now) c.offset16.ensures in
    let count = c.u16_at-i-end.ensures ∙ ap (λ bytes. u16_in bytes 0) list in
    sym (first_out _ _ _ c.loop-i.invariant (omega (arith, count)))
