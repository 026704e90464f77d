-- One place more, where a syllable starts or none does.
use Rattle.std.proofs.Common.{◌+◌, sym, ap, subst, ◌∙◌, arith}
use Rattle.shapers_indic_final.specs.FinalWordStart.{starts_syllable}
use Rattle.shapers_indic_final.proofs.FinalWordStartWalk.{Opening, as_long, opened_whole, opening_starts}
use Rattle.shapers_indic_final.proofs.ot_shaper_indic_final.word_start.start_words.Goals as goal
use Rattle.shapers_indic_final.proofs.ot_shaper_indic_final.word_start.start_words.Goals.{then-starts_syllable, else-starts_syllable}

pub loop-place-init : goal.loop-place-init
loop-place-init = search arith

pub loop-place-preserved : goal.loop-place-preserved
loop-place-preserved c =
    let old = c.args.buffer.now in
    let now = c.loop-place.buffer in
    let i = c.loop-place.place in
    let long = as_long c.args.init old now i c.loop-place.invariant in
    let is = c.starts_syllable.ensures ∙ ap (starts_syllable i) c.glyphs.ensures in
    elim c.if-starts_syllable.branch [
      | then-starts_syllable w ↦ subst (λ b. Opening c.args.init old b (i + 1)) (sym w.buffer-is)
          (opening_starts c.args.init old now w.start_syllable.new.buffer i c.requires.init (omega arith)
          (sym is ∙ w.if-starts_syllable.true) w.start_syllable.ensures c.loop-place.invariant)
      | else-starts_syllable w ↦ subst (λ b. Opening c.args.init old b (i + 1)) (sym w.buffer-is) (search arith)
    ]

pub returns : goal.returns
returns c = opened_whole c.args.init c.args.buffer.now c.loop-place.buffer c.loop-place.place
    (search arith) c.loop-place.invariant
