-- One more pair asked about.
use Rattle.std.proofs.Common.{◌+◌, ◌-◌, length, ◌∙◌, arith}
use Rattle.shapers_buffer.specs.Clusters.{stretch_of}
use Rattle.shapers_indic.specs.Glyphs.{numbers}
use Rattle.shapers_indic_initial.specs.InitialRules.{initial_rules}
use Rattle.shapers_indic_initial.proofs.MaskWalks.{asked_pair, pref_pair_asked, search_found, search_on}
use Rattle.shapers_indic_initial.proofs.ot_shaper_indic_initial.masks.pref_pair.Goals as goal

pub returns-then-would_substitute-clause-pair : goal.returns-then-would_substitute-clause-pair
returns-then-would_substitute-clause-pair g c =
    let l = c.loop-i in
    let gs = c.args.glyphs.now in
    let r = initial_rules (g.F.hb_font_t.font c.args.rules.now.font.now) c.args.rules.now.map.now
    c.args.rules.now.plan.now in
    search_found (λ i. r.forms_pref (numbers (stretch_of i (i + 2) gs))) l.i (length gs - 1) (omega arith)
    (asked_pair r.forms_pref gs l.i c.number.result c.number-in-loop-i.result c.would_substitute.result (omega
    arith) c.number.ensures c.number-in-loop-i.ensures c.would_substitute.ensures ∙
    c.if-would_substitute.true) ∙ l.invariant.rest ∙ pref_pair_asked r c.args.base gs (omega arith) (omega arith)

pub loop-i-preserved : goal.loop-i-preserved
loop-i-preserved g c =
    let l = c.loop-i in
    let gs = c.args.glyphs.now in
    let r = initial_rules (g.F.hb_font_t.font c.args.rules.now.font.now) c.args.rules.now.map.now
    c.args.rules.now.plan.now in
    search (
      arith,
      search_on (λ i. r.forms_pref (numbers (stretch_of i (i + 2) gs))) l.i (length gs - 1)
          (omega (arith, c.loop-i-test.true))
          (asked_pair r.forms_pref gs l.i c.number.result c.number-in-loop-i.result c.would_substitute.result (omega
          (arith, c.loop-i-test.true)) c.number.ensures c.number-in-loop-i.ensures c.would_substitute.ensures ∙
          c.if-would_substitute.false),
    )
