-- A selector with a copied form that isn't its own, or another place.
use Rattle.std.proofs.lemmas.Bool.{eq-eqb}
use Rattle.std.proofs.Common.{◌∙◌, ◌+◌, ◌<◌, Some, ap, arith, map, drop, length, get_or}
use Rattle.shapers_buffer.specs.Glyph.{default_glyph}
use Rattle.shapers_buffer.specs.GlyphFlags.{flags_called}
use Rattle.shapers_arabic.specs.JoiningWalk.{copied_calls, place_of}
use Rattle.shapers_arabic.proofs.SoundSteps.{call-made, copied-keeps, copied-left}
use Rattle.shapers_arabic.proofs.ot_shaper_arabic.breaks.flag_selectors.Goals.{then-form-glyphs, else-form-glyphs}
use Rattle.shapers_arabic.proofs.ot_shaper_arabic.breaks.flag_selectors.Goals as goal

pub loop-i-preserved : goal.loop-i-preserved
loop-i-preserved c =
    let l = c.loop-i in
    let gs = l.glyphs in
    let first = c.args.glyphs.now in
    let form = c.form_behind-form.result in
    let own = (get_or gs l.i default_glyph).auxiliary in
    let left = drop (l.i + 1) (map place_of first) in
    let h : l.i < length gs = omega arith in
    elim c.if-form-glyphs.branch [
      | then-form-glyphs w ↦
          let called =
          call-made l.i form own gs w.unsafe_to_break_in.new.glyphs w.if-form-glyphs.true
          (λ concat tatweel. w.unsafe_to_break_in.ensures) in
          record {
            places = ap (map place_of) w.glyphs-is ∙ copied-keeps l.i form own gs w.unsafe_to_break_in.new.glyphs called
                ∙ l.invariant.places;
            rest = λ concat tatweel.
                ap (flags_called concat tatweel (copied_calls (Some form) (l.i + 1) left)) w.glyphs-is
                ∙ copied-left concat tatweel l.previous l.i form first gs w.unsafe_to_break_in.new.glyphs h
                l.invariant.places c.form_behind-form.ensures called ∙ l.invariant.rest concat tatweel;
            first = λ none. absurd (omega arith);
          }
      | else-form-glyphs w ↦
          record {
            places = ap (map place_of) w.glyphs-is ∙ l.invariant.places;
            rest = λ concat tatweel.
                ap (flags_called concat tatweel (copied_calls (Some form) (l.i + 1) left)) w.glyphs-is
                ∙ copied-left concat tatweel l.previous l.i form first gs gs h l.invariant.places
                c.form_behind-form.ensures (search (arith, eq-eqb)) ∙ l.invariant.rest concat tatweel;
            first = λ none. absurd (omega arith);
          }
    ]
