use Rattle.std.proofs.Common.{arith}
use Rattle.std.proofs.Common.{◌≡◌, rules}
use Rattle.shapers_syllabic.specs.Borders.{spans_setup}
use Rattle.shapers_syllabic.proofs.PauseCuts.{clusters-setup}
use Rattle.shapers_syllabic.proofs.SpanCuts.{spans_cut}
use Rattle.shapers_syllabic.proofs.ot_shaper_syllabic.setup.setup_syllables.Goals as goal

pub returns-then-has_span_of_kind-clause-cut : goal.returns-then-has_span_of_kind-clause-cut
returns-then-has_span_of_kind-clause-cut c =
    let spans = c.args.spans.now in
    let kind = c.args.broken_kind in
    let old = c.args.buffer.now in
    let set : c.set_has_broken_syllable.new.self ≡ spans_setup spans kind old = search rules in
    search (arith, spans_cut spans kind old c.requires)

pub returns-else-has_span_of_kind-clause-cut : goal.returns-else-has_span_of_kind-clause-cut
returns-else-has_span_of_kind-clause-cut c =
    let spans = c.args.spans.now in
    let kind = c.args.broken_kind in
    let old = c.args.buffer.now in
    let set : c.with_glyphs_mut.new.self ≡ spans_setup spans kind old = search rules in
    search (arith, spans_cut spans kind old c.requires)

pub returns-then-has_span_of_kind-clause-clusters : goal.returns-then-has_span_of_kind-clause-clusters
returns-then-has_span_of_kind-clause-clusters c =
    search (arith, clusters-setup c.args.spans.now c.args.broken_kind c.args.buffer.now)

pub returns-else-has_span_of_kind-clause-clusters : goal.returns-else-has_span_of_kind-clause-clusters
returns-else-has_span_of_kind-clause-clusters c =
    search (arith, clusters-setup c.args.spans.now c.args.broken_kind c.args.buffer.now)
