-- A place without a form, or with one.
use Rattle.std.proofs.lemmas.Bool.{ne_eqb}
use Rattle.shapers_clusters.proofs.FlagCalls.{flags_called-append}
use Rattle.std.proofs.lemmas.List.{length-map, get_or-map, drop_more}
use Rattle.shapers_arabic.specs.declared.ot_shaper_arabic.arabic_action_t.TheConstants.{NONE}
use Rattle.std.proofs.Common.{◌∙◌, ◌+◌, ◌<◌, Some, ap, sym, subst, arith, drop, length, map, get_or}
use Rattle.shapers_buffer.specs.Glyph.{default_glyph}
use Rattle.shapers_buffer.specs.GlyphFlags.{flags_called}
use Rattle.shapers_buffer.specs.Glyphs.{Glyph}
use Rattle.shapers_arabic.specs.JoiningWalk.{written, IsWithin, form_calls_along}
use Rattle.shapers_arabic.proofs.FlaggedGlyphs.{within-more}
use Rattle.shapers_arabic.proofs.SoundSteps.{form-keeps, forms-none}
use Rattle.shapers_arabic.proofs.ot_shaper_arabic.breaks.flag_forms.Goals.{then-form-ne-NONE, else-form-ne-NONE}
use Rattle.shapers_arabic.proofs.ot_shaper_arabic.breaks.flag_forms.Goals as goal

pub loop-i-preserved : goal.loop-i-preserved
loop-i-preserved c =
    let l = c.loop-i in
    let gs = l.glyphs in
    let hs = c.if-form-ne-NONE.glyphs in
    let first = c.args.glyphs.now in
    let left = drop (l.i + 1) (map (λ g. g.auxiliary) first) in
    let h : l.i < length gs = omega arith in
    let more = within-more l.last l.i l.invariant.within in
    elim c.if-form-ne-NONE.branch [
      | then-form-ne-NONE w ↦
          let f = (get_or gs l.i default_glyph).auxiliary in
          record {
            forms = ap (map (λ (g : Glyph). g.auxiliary)) w.glyphs-is
                ∙ form-keeps l.last f (l.i + 1) gs w.flag_form.new.glyphs more w.flag_form.ensures ∙ l.invariant.forms;
            rest = λ concat tatweel.
                ap (λ last. flags_called concat tatweel (form_calls_along last (l.i + 1) left) hs) w.last-is
                ∙ ap (flags_called concat tatweel (form_calls_along (Some l.i) (l.i + 1) left)) w.glyphs-is
                ∙ (let fs = written first in let left = drop (l.i + 1) fs in search (
                  arith,
                  w.flag_form.ensures concat tatweel,
                  flags_called-append,
                  drop_more fs l.i NONE (omega (
                    arith,
                    ap length l.invariant.forms,
                    length-map gs (λ g. g.auxiliary),
                  )),
                  get_or-map,
                  ne_eqb,
                )) ∙ l.invariant.rest concat tatweel;
            within = subst (λ last. IsWithin last (l.i + 1)) (sym w.last-is) ((omega arith));
          }
      | else-form-ne-NONE w ↦ record {
        forms = ap (map (λ (g : Glyph). g.auxiliary)) w.glyphs-is ∙ l.invariant.forms;
        rest = λ concat tatweel.
            ap (λ last. flags_called concat tatweel (form_calls_along last (l.i + 1) left) hs) w.last-is
            ∙ ap (flags_called concat tatweel (form_calls_along l.last (l.i + 1) left)) w.glyphs-is
            ∙ ap (λ calls. flags_called concat tatweel calls gs)
            (forms-none l.last l.i first gs h l.invariant.forms w.if-form-ne-NONE.false)
            ∙ l.invariant.rest concat tatweel;
        within = subst (λ last. IsWithin last (l.i + 1)) (sym w.last-is) more;
      }
    ]
