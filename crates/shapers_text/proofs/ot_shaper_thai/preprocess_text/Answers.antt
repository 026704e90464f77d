-- The laws of clusters, and that no glyph is lost, from the two equations.
use Rattle.std.proofs.Common.{arith}
use Rattle.std.proofs.Common.{ap}
use Rattle.shapers_base.specs.Font.{has_nominal}
use Rattle.shapers_buffer.specs.Buffer.{Buffer}
use Rattle.shapers_text.proofs.ThaiClusters.{plain_in_two, shaped_in_two}
use Rattle.shapers_text.proofs.ThaiFlags.{plain_flags, shaped_flags}
use Rattle.shapers_text.proofs.ThaiKept.{plain_kept, shaped_kept}
use Rattle.shapers_text.proofs.ot_shaper_thai.preprocess_text.Goals as goal

pub returns-then-wants_forms-clause-clusters : goal.returns-then-wants_forms-clause-clusters
returns-then-wants_forms-clause-clusters g c =
    let b = c.args.buffer.now in
    shaped_in_two c.args.plan.now.break_flags (has_nominal (g.F.hb_font_t.font c.args.face.now)) b.level b.glyphs _ _
    (ap (λ (x : Buffer). x.glyphs) c.in_ok-rewrite_sara_am.ensures.ok)
    (ap (λ (x : Buffer). x.glyphs) c.do_pua_shaping.ensures)

pub returns-else-wants_forms-clause-clusters : goal.returns-else-wants_forms-clause-clusters
returns-else-wants_forms-clause-clusters g c =
    let b = c.args.buffer.now in plain_in_two b.level b.glyphs _ (search arith)

pub returns-then-wants_forms-clause-kept : goal.returns-then-wants_forms-clause-kept
returns-then-wants_forms-clause-kept = search (arith, shaped_kept)

pub returns-else-wants_forms-clause-kept : goal.returns-else-wants_forms-clause-kept
returns-else-wants_forms-clause-kept = search (arith, plain_kept)

pub returns-then-wants_forms-clause-flags : goal.returns-then-wants_forms-clause-flags
returns-then-wants_forms-clause-flags = search (arith, shaped_flags)

pub returns-else-wants_forms-clause-flags : goal.returns-else-wants_forms-clause-flags
returns-else-wants_forms-clause-flags = search (arith, plain_flags)
