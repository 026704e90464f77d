-- All parts, one after another.
use Rattle.std.proofs.Common.{◌≡◌, length, refl, ap, subst, ◌∙◌, arith}
use Rattle.shapers_buffer.specs.Buffer.{Buffer}
use Rattle.shapers_buffer.specs.declared.buffer.placement.Placement.TheVariants.{Stays}
use Rattle.shapers_indic_initial.specs.InitialBase.{base_place}
use Rattle.shapers_indic_initial.specs.InitialReordering.{halant_steps, with_all_positions, with_base_positions}
use Rattle.shapers_indic_initial.specs.InitialRules.{initial_rules}
use Rattle.shapers_indic_initial.specs.MovedWalk.{moved_buffer, moved_first_by}
use Rattle.shapers_indic_initial.specs.declared.ot_shaper_indic_initial.moved.MovedSyllable.{MovedSyllable}
use Rattle.shapers_indic_initial.proofs.MovedLaws.{fits_moved, stays_each, stays_unlisted}
use Rattle.shapers_indic_initial.proofs.PreparedMoves.{positions_set}
use Rattle.shapers_syllabic.specs.Reordering.{SyllableReordered}
use Rattle.shapers_indic_initial.proofs.ot_shaper_indic_initial.preparing.set_positions_behind.Goals as goal

pub walk_arranged-requires-clause-arranges : goal.walk_arranged-requires-clause-arranges
walk_arranged-requires-clause-arranges g c =
    let s = c.args.start in
    let e = c.args.end in
    let b = c.args.buffer.now in
    fits_moved (moved_first_by c.args.first s e) Stays c.moves_then.result b c.moves_then.ensures
    (record { first = c.requires.unlisted; second = stays_unlisted s e }) c.requires.in_order c.requires.in_range
    (stays_each s e b.places)

pub place_halant-second-requires-clause-unlisted : goal.place_halant-second-requires-clause-unlisted
place_halant-second-requires-clause-unlisted g c =
    record { first = c.requires.unlisted; second = stays_unlisted c.args.start c.args.end }

pub walk_arranged-requires-2-clause-arranges : goal.walk_arranged-requires-2-clause-arranges
walk_arranged-requires-2-clause-arranges g c =
    let s = c.args.start in
    let e = c.args.end in
    let b = c.place_halant-second.new.buffer in
    let m : MovedSyllable =
    record { first = c.args.first; second = c.place_halant-second.result; start = s; end = e } in
    let long : length b.glyphs ≡ length c.args.buffer.now.glyphs =
    ap (λ (x : Buffer). length x.glyphs) c.place_halant-second.ensures.same ∙ c.walk_arranged.ensures.same_length in
    fits_moved m Stays c.moves_then-2.result b c.moves_then-2.ensures
    (record { first = c.requires.unlisted; second = c.place_halant-second.ensures.unlisted })
    c.requires.in_order (omega (arith, c.requires.in_range)) (stays_each s e b.places)

pub returns-clause-reordered : goal.returns-clause-reordered
returns-clause-reordered g c =
    let r = initial_rules (g.F.hb_font_t.font c.args.rules.now.font.now) c.args.rules.now.map.now
    c.args.rules.now.plan.now in
    let s = c.args.start in
    let e = c.args.end in
    let script = c.script-script.result in
    let base = c.walk_arranged.new.walk.base in
    let o = moved_first_by c.args.first s e in
    let m : MovedSyllable =
    record { first = c.args.first; second = c.place_halant-second.result; start = s; end = e } in
    let b1 = c.args.buffer.now in
    let b4 = c.walk_arranged-2.new.self in
    let one = c.walk_arranged.ensures in
    let two = c.walk_arranged-2.ensures in
    subst (λ script. SyllableReordered
    (λ gs. with_all_positions r script (base_place r gs) (with_base_positions r gs))
    (λ gs. halant_steps r script (base_place r gs) (with_base_positions r gs)) s e (moved_buffer o b1)
    (moved_buffer m b4)) c.script-script.ensures
    (positions_set r script base.place base.has_reph o m c.moves_then.result c.moves_then-2.result b1
    c.walk_arranged.new.self c.place_halant-second.new.buffer b4
    (record { first = c.requires.unlisted; second = stays_unlisted s e })
    (record { first = c.requires.unlisted; second = c.place_halant-second.ensures.unlisted })
    refl refl c.requires.in_order c.requires.in_range c.place_halant-second.ensures.same one.walked.0 one.walked.1
    (record {
      moves = c.moves_then.ensures;
      same_length = one.same_length;
      others = one.others;
      glyphs = one.glyphs;
      walked = one.walked.2;
    }) (c.place_halant-second.ensures.reordered r refl)
    (record {
      moves = c.moves_then-2.ensures;
      same_length = two.same_length;
      others = two.others;
      glyphs = two.glyphs;
      walked = two.walked;
    }))
