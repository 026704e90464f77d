-- The refusals, that the items stand within the text, and that where none is listed all of it stays.
use Rattle.shapers_hangul.proofs.Items.{items_fit}
use Rattle.std.proofs.Common.{rules, ◌≡◌, ◌+◌, ◌≤◌, [], length, subst, sym, ◌∙◌, arith}
use Rattle.std.proofs.lemmas.List.{nil_from_length}
use Rattle.shapers_buffer.specs.Glyphs.{Glyphs}
use Rattle.shapers_buffer.specs.Glyph.{characters}
use Rattle.shapers_buffer.specs.Refusals.{RefusesLength}
use Rattle.shapers_hangul.specs.Hangul.{items, glyph_copies, items_at, outputs, allows_circles, Fit}
use Rattle.shapers_hangul.specs.RewritingWalk.{Consecutive}
use Rattle.shapers_hangul.proofs.Changes.{items_at_turn, changes_fit, buffer_changed, length-flagged}
use Rattle.shapers_hangul.proofs.KeptTexts.{all_stay, nothing_listed, same_length, unchanged}
use Rattle.shapers_hangul.proofs.Outputs.{length_read, told_by_text}
use Rattle.shapers_hangul.proofs.Walks.{length-characters, glyphs_end}
use Rattle.shapers_hangul.proofs.ot_shaper_hangul.rewriting.rewrite_changes.Goals as goal

pub returns-then-kept-len-clause-ok : goal.returns-then-kept-len-clause-ok
returns-then-kept-len-clause-ok = search (arith, unchanged, all_stay, glyphs_end)

pub returns-then-kept-len-clause-changes : goal.returns-then-kept-len-clause-changes
returns-then-kept-len-clause-changes = search (arith, all_stay, glyphs_end)

pub returns-then-kept-len-clause-length : goal.returns-then-kept-len-clause-length
returns-then-kept-len-clause-length = search (arith, same_length, all_stay, glyphs_end)

pub returns-then-is_empty-clause-ok : goal.returns-then-is_empty-clause-ok
returns-then-is_empty-clause-ok g c =
    let none : c.items.result.now ≡ [] = nil_from_length c.items.result.now (grind arith) in
    let all = all_stay (g.F.hb_font_t.font c.args.font.now) c.args.buffer.now c.wants_circles-circles.result
    c.glyphs-glyphs.result.now c.kept_len-kept.result c.wants_circles-circles.ensures c.glyphs-glyphs.ensures
    c.kept_len-kept.ensures.kept (cc (c.in_ok-len.ensures.items c.if-not-cut.false)) in
    search unchanged

pub returns-then-is_empty-clause-changes : goal.returns-then-is_empty-clause-changes
returns-then-is_empty-clause-changes g c is =
    let none : c.items.result.now ≡ [] = nil_from_length c.items.result.now (grind arith) in
    let all = all_stay (g.F.hb_font_t.font c.args.font.now) c.args.buffer.now c.wants_circles-circles.result
    c.glyphs-glyphs.result.now c.kept_len-kept.result c.wants_circles-circles.ensures c.glyphs-glyphs.ensures
    c.kept_len-kept.ensures.kept (cc (c.in_ok-len.ensures.items c.if-not-cut.false)) in
    all

pub returns-then-is_empty-clause-length : goal.returns-then-is_empty-clause-length
returns-then-is_empty-clause-length g c =
    let none : c.items.result.now ≡ [] = nil_from_length c.items.result.now (grind arith) in
    let all = all_stay (g.F.hb_font_t.font c.args.font.now) c.args.buffer.now c.wants_circles-circles.result
    c.glyphs-glyphs.result.now c.kept_len-kept.result c.wants_circles-circles.ensures c.glyphs-glyphs.ensures
    c.kept_len-kept.ensures.kept (cc (c.in_ok-len.ensures.items c.if-not-cut.false)) in
    search same_length

pub returns-in_err-len-clause-kept : goal.returns-in_err-len-clause-kept
returns-in_err-len-clause-kept g c all =
    let font = g.F.hb_font_t.font c.args.font.now in
    let b = c.args.buffer.now in
    search (
      arith,
      length_read font (allows_circles b) b.level b.glyphs c.wants_circles-circles.result c.glyphs-glyphs.result.now
          c.kept_len-kept.result c.wants_circles-circles.ensures c.glyphs-glyphs.ensures c.kept_len-kept.ensures.kept,
      same_length font b all,
    )

pub returns-in_err-len-clause-length : goal.returns-in_err-len-clause-length
returns-in_err-len-clause-length g c =
    let read = c.glyphs-glyphs.result.now in
    let kept = c.kept_len-kept.result in
    let told : RefusesLength c.max_len.result (kept + length (outputs glyph_copies (items_at
    (g.F.hb_font_t.font c.args.font.now) c.wants_circles-circles.result (characters read) kept) read))
    c.from_residual.result = search rules in
    told_by_text c.args.buffer.now.max_len c.max_len.result _ _ c.from_residual.result c.max_len.ensures.limit
    (search length_read) told

pub returns-then-not-cut-clause-kept : goal.returns-then-not-cut-clause-kept
returns-then-not-cut-clause-kept g c all =
    let whole = c.in_ok-len.ensures.kept (search nothing_listed) ∙ c.new-cut.ensures.whole in cc

pub returns-then-not-cut-clause-length : goal.returns-then-not-cut-clause-length
returns-then-not-cut-clause-length g c =
    let b = c.args.buffer.now in
    omega (
      arith,
      length_read (g.F.hb_font_t.font c.args.font.now) (allows_circles b) b.level b.glyphs
          c.wants_circles-circles.result c.glyphs-glyphs.result.now c.kept_len-kept.result
          c.wants_circles-circles.ensures c.glyphs-glyphs.ensures c.kept_len-kept.ensures.kept,
      c.in_ok-len.ensures.length,
    )

pub rewrite-requires-clause-can : goal.rewrite-requires-clause-can
rewrite-requires-clause-can g c =
    let cut = c.items-2.result.now in
    subst (λ (xs : Glyphs). Fit (length xs) cut × Consecutive (length xs) 0 cut) c.glyphs-glyphs.ensures
    (
    let whole = items (g.F.hb_font_t.font c.args.font.now) c.wants_circles-circles.result (characters
    c.glyphs-glyphs.result.now) in
    search (
      arith,
      changes_fit (length c.glyphs-glyphs.result.now) whole
          (subst (λ n. Fit n whole) (length-characters c.glyphs-glyphs.result.now) (items_fit (g.F.hb_font_t.font
          c.args.font.now) c.wants_circles-circles.result (characters c.glyphs-glyphs.result.now))),
      items_at_turn (g.F.hb_font_t.font c.args.font.now) c.wants_circles-circles.result c.glyphs-glyphs.result.now 0
          (omega arith),
    ))

pub rewrite-requires-clause-length : goal.rewrite-requires-clause-length
rewrite-requires-clause-length g c =
    let font = g.F.hb_font_t.font c.args.font.now in
    let b = c.args.buffer.now in
    let circles = c.wants_circles-circles.result in
    let read = c.glyphs-glyphs.result.now in
    cc (
      buffer_changed c.args.breaks font b circles c.cluster_level-level.result read c.items-2.result.now
          c.wants_circles-circles.ensures c.cluster_level-level.ensures c.glyphs-glyphs.ensures
          (c.items-2.ensures ∙ (c.in_ok-len.ensures.items c.if-not-cut.false ∙ sym
          c.kept_len-kept.ensures.kept.listed)),
      length-flagged c.args.breaks font b,
      length_read font (allows_circles b) b.level b.glyphs circles read c.kept_len-kept.result
          c.wants_circles-circles.ensures c.glyphs-glyphs.ensures c.kept_len-kept.ensures.kept,
      c.in_ok-len.ensures.exact,
    )

pub returns-in_err-rewrite-clause-kept : goal.returns-in_err-rewrite-clause-kept
returns-in_err-rewrite-clause-kept g c all = search (
  arith,
  c.is_empty.ensures,
  c.items.ensures,
  c.in_ok-len.ensures.items c.if-not-cut.false,
  nothing_listed (g.F.hb_font_t.font c.args.font.now) c.args.buffer.now c.wants_circles-circles.result
      c.glyphs-glyphs.result.now c.kept_len-kept.result c.wants_circles-circles.ensures c.glyphs-glyphs.ensures
      c.kept_len-kept.ensures.kept all,
)

pub returns-clause-kept : goal.returns-clause-kept
returns-clause-kept g c all = search (
  arith,
  c.in_ok-len.ensures.items c.if-not-cut.false,
  nothing_listed (g.F.hb_font_t.font c.args.font.now) c.args.buffer.now c.wants_circles-circles.result
      c.glyphs-glyphs.result.now c.kept_len-kept.result c.wants_circles-circles.ensures c.glyphs-glyphs.ensures
      c.kept_len-kept.ensures.kept all,
)

pub returns-in_err-rewrite-clause-length : goal.returns-in_err-rewrite-clause-length
returns-in_err-rewrite-clause-length g c =
    let b = c.args.buffer.now in
    subst (λ n. RefusesLength b.max_len n c.from_residual-in_err-rewrite.result) (c.in_ok-len.ensures.exact ∙ sym
    (length_read (g.F.hb_font_t.font c.args.font.now) (allows_circles b) b.level b.glyphs
    c.wants_circles-circles.result c.glyphs-glyphs.result.now c.kept_len-kept.result c.wants_circles-circles.ensures
    c.glyphs-glyphs.ensures c.kept_len-kept.ensures.kept)) (search rules)

pub returns-clause-length : goal.returns-clause-length
returns-clause-length g c =
    let b = c.args.buffer.now in
    let told : c.in_ok-len.len ≤ b.max_len = search rules in
    omega (
      arith,
      c.in_ok-len.ensures.exact,
      length_read (g.F.hb_font_t.font c.args.font.now) (allows_circles b) b.level b.glyphs
          c.wants_circles-circles.result c.glyphs-glyphs.result.now c.kept_len-kept.result
          c.wants_circles-circles.ensures c.glyphs-glyphs.ensures c.kept_len-kept.ensures.kept,
    )

pub returns-clause-ok : goal.returns-clause-ok
returns-clause-ok g c = search (
  arith,
  c.in_ok-rewrite.ensures.ok,
  buffer_changed c.args.breaks (g.F.hb_font_t.font c.args.font.now) c.args.buffer.now
      c.wants_circles-circles.result c.cluster_level-level.result c.glyphs-glyphs.result.now c.items-2.result.now
      c.wants_circles-circles.ensures c.cluster_level-level.ensures c.glyphs-glyphs.ensures
      (c.items-2.ensures ∙ (c.in_ok-len.ensures.items c.if-not-cut.false ∙ sym c.kept_len-kept.ensures.kept.listed)),
)
