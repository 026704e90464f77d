-- One more item, no room for one, and the end.
use Rattle.std.proofs.Common.{◌≡◌, ◌+◌, ◌++◌, ◌∙◌, [], true, ap, subst, drop, length, arith}
use Rattle.shapers_buffer.specs.Glyphs.{Glyphs}
use Rattle.shapers_buffer.specs.Glyph.{characters}
use Rattle.shapers_hangul.specs.declared.ot_shaper_hangul.rewriting.Cut.{Cut}
use Rattle.shapers_hangul.specs.Hangul.{first_item, glyph_copies, is_kept, item_len, items_at, outputs}
use Rattle.shapers_hangul.specs.RewritingWalk.{changes_in, rewritten_items}
use Rattle.shapers_hangul.proofs.Changes.{none_next, recording_next, recording_staying}
use Rattle.shapers_hangul.proofs.Walks.{glyphs_next, length_next, length_staying}
use Rattle.shapers_hangul.proofs.ot_shaper_hangul.rewriting.measure.Goals as goal

pub returns-then-room-output_len-clause-length : goal.returns-then-room-output_len-clause-length
returns-then-room-output_len-clause-length g c =
    let l = c.loop-place in
    omega (
      arith,
      length_next (g.F.hb_font_t.font c.args.font.now) c.args.circles c.args.glyphs.now l.place
          c.item_at-item.result c.loop-place-test.true c.item_at-item.ensures.item c.item_at-item.ensures.in_rest,
    )

pub loop-place-preserved : goal.loop-place-preserved
loop-place-preserved g c =
    let l = c.loop-place in
    let font = g.F.hb_font_t.font c.args.font.now in
    let gs = c.args.glyphs.now in
    let item = c.item_at-item.result in
    let circles = c.args.circles in
    let on : l.place + item_len item ≡ l.place + c.len-place.result = search arith in
    record {
      within = omega arith;
      room_left = omega (
        arith,
        length_next font circles gs l.place item c.loop-place-test.true c.item_at-item.ensures.item
            c.item_at-item.ensures.in_rest,
        ap (λ p. length (outputs glyph_copies (items_at font circles (characters gs) p) gs)) on,
      );
      recorded = λ whole.
          subst (λ p. changes_in c.add.new.self ++ rewritten_items (items_at font circles (characters gs) p)
          ≡ rewritten_items (items_at font circles (characters gs) c.args.kept)) on
          (recording_next font circles gs (changes_in l.cut) (changes_in c.add.new.self) _ l.place item
          c.loop-place-test.true c.item_at-item.ensures.item (l.invariant.recorded (c.add.ensures.whole whole))
          (c.add.ensures.added whole));
      none = λ all.
          let so_far = l.invariant.none all in
          let next =
          none_next (l.place, item) (items_at font circles (characters gs) (l.place + item_len item)) (search (
            arith,
            glyphs_next,
          )) in (
            subst (λ p. rewritten_items (items_at font circles (characters gs) p) ≡ []) on next.1,
            ap (λ (cut : Cut). cut.is_whole) (c.add.ensures.kept next.0) ∙ so_far.1,
          );
    }

pub returns-then-room-eq0-clause-length : goal.returns-then-room-eq0-clause-length
returns-then-room-eq0-clause-length g c =
    let font = g.F.hb_font_t.font c.args.font.now in
    let circles = c.args.circles in
    let stays : is_kept (first_item font circles (characters (drop c.loop-place.place c.args.glyphs.now))) ≡ true =
    subst (λ (xs : Glyphs). is_kept (first_item font circles (characters xs)) ≡ true) c.rest_from.ensures
    (c.stays_alone.ensures.kept c.if-stays_alone.true) in
    search (arith, length_staying)

pub loop-place-preserved-then-stays_alone : goal.loop-place-preserved-then-stays_alone
loop-place-preserved-then-stays_alone g c =
    let l = c.loop-place in
    let font = g.F.hb_font_t.font c.args.font.now in
    let gs = c.args.glyphs.now in
    let circles = c.args.circles in
    let stays : is_kept (first_item font circles (characters (drop l.place gs))) ≡ true =
    subst (λ (xs : Glyphs). is_kept (first_item font circles (characters xs)) ≡ true) c.rest_from.ensures
    (c.stays_alone.ensures.kept c.if-stays_alone.true) in
    record {
      within = omega arith;
      room_left = search (arith, length_staying);
      recorded = search (arith, recording_staying);
      none = λ all.
          let so_far = l.invariant.none all in
          (recording_staying font circles gs [] _ l.place c.loop-place-test.true stays so_far.0, so_far.1);
    }
