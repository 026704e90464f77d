-- The text behind the stages, and what the steps after them make of it.
use Rattle.std.proofs.Common.{◌∙◌, ap}
use Rattle.shapers_buffer.specs.Buffer.{Buffer}
use Rattle.shapers_position.specs.ClusterFlags.{flags_propagated}
use Rattle.shapers_pipeline.specs.ShapeLaws.{PositionsKeep}
use Rattle.shapers_pipeline.specs.Shaped.{positioning_by}
use Rattle.shapers_pipeline.proofs.PositionClusters.{finish_limit}
use Rattle.shapers_pipeline.proofs.StageLengths.{passed_error, told_error}
use Rattle.shapers_pipeline.proofs.shaping.Shaping.shape.Goals as goal

pub returns-clause-ok : goal.returns-clause-ok
returns-clause-ok g c = (
  c.substitute.new.buffer,
  (
    c.in_ok-substitute.ensures.ok,
    c.propagate_flags.ensures
        ∙ ap (λ (t : Buffer). let r : Buffer = record t { glyphs = flags_propagated t.flags t.glyphs } in r) c.in_ok-finish.ensures.ok,
  ),
)

pub returns-in_err-substitute-clause-room : goal.returns-in_err-substitute-clause-room
returns-in_err-substitute-clause-room g c grows room fits =
    let x = c.in_err-substitute.field-0.0 in
    told_error c.from_residual.result x _ c.from_residual.ensures.1
    (λ e. absurd (c.in_err-substitute.ensures.room grows room fits (passed_error x e)))

pub returns-clause-limit : goal.returns-clause-limit
returns-clause-limit g c =
    let it = c.args.self.now.lookups.now in
    let q = positioning_by c.args.self.now.plan.now c.args.self.now.settings.now (g.F.hb_font_t.font c.args.self.now.font.now)
    (g.F.MetricsFont.metrics c.args.self.now.font.now) (g.L.GlyphClasses.marks it) (g.L.Lookups.positioned it)
    (g.L.Lookups.finished it) in
    let keeps : PositionsKeep q = record {
      looking_up = λ lookup b. g.met.L.Lookups.positioning_keeps it lookup b;
      finishing = λ b. g.met.L.Lookups.finishing_keeps it b;
    } in
    ap (λ (x : Buffer). x.max_len) c.propagate_flags.ensures
    ∙ ap (λ (x : Buffer). x.max_len) c.in_ok-finish.ensures.ok
    ∙ finish_limit q keeps c.substitute.new.buffer ∙ c.in_ok-substitute.ensures.limit
