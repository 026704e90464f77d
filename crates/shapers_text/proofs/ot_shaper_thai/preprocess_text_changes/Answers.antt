-- A text without SARA AM, where no forms are asked for.
use Rattle.std.proofs.Common.{arith}
use Rattle.shapers_buffer.proofs.ListLaws.{count_from_none}
use Rattle.shapers_text.specs.Thai.{is_sara_am}
use Rattle.shapers_text.specs.ThaiForms.{asks_for_forms}
use Rattle.shapers_text.proofs.ThaiClusters.{plain_in_two}
use Rattle.shapers_text.proofs.ThaiFlags.{plain_flags}
use Rattle.shapers_text.proofs.ThaiKept.{plain_kept}
use Rattle.shapers_text.proofs.ThaiStretches.{length-glyphs_in_two, unchanged_plain}
use Rattle.shapers_text.proofs.ot_shaper_thai.preprocess_text_changes.Goals as goal

pub returns-then-not-wants_forms-clause-ok : goal.returns-then-not-wants_forms-clause-ok
returns-then-not-wants_forms-clause-ok = search (arith, unchanged_plain, count_from_none)

pub returns-then-not-wants_forms-clause-length : goal.returns-then-not-wants_forms-clause-length
returns-then-not-wants_forms-clause-length = search (arith, length-glyphs_in_two, count_from_none)

pub returns-then-not-wants_forms-clause-clusters : goal.returns-then-not-wants_forms-clause-clusters
returns-then-not-wants_forms-clause-clusters g c =
    let none = count_from_none (λ g. is_sara_am g.glyph_id) c.args.buffer.now.glyphs (search arith) in
    search (arith, plain_in_two, unchanged_plain)

pub returns-then-not-wants_forms-clause-flags : goal.returns-then-not-wants_forms-clause-flags
returns-then-not-wants_forms-clause-flags g c =
    let b = c.args.buffer.now in
    let none = count_from_none (λ g. is_sara_am g.glyph_id) b.glyphs (search arith) in
    plain_flags b.level b.glyphs b.glyphs (search (arith, unchanged_plain))

pub returns-then-not-wants_forms-clause-kept : goal.returns-then-not-wants_forms-clause-kept
returns-then-not-wants_forms-clause-kept g c =
    let b = c.args.buffer.now in
    let none = count_from_none (λ g. is_sara_am g.glyph_id) b.glyphs (search arith) in
    plain_kept (asks_for_forms c.args.plan.now) (search arith) b.level
    b.glyphs b.glyphs (search (arith, unchanged_plain))
