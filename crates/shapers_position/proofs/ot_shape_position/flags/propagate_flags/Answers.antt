-- A text without flags.
use Rattle.std.proofs.Common.{◌≡◌, ◌∙◌, false, ap, sym}
use Rattle.std.specs.List.{list_any}
use Rattle.shapers_buffer.specs.Buffer.{Buffer}
use Rattle.shapers_position.specs.ClusterFlags.{is_flagged}
use Rattle.shapers_position.proofs.Unflagged.{propagated-none}
use Rattle.shapers_position.proofs.ot_shape_position.flags.propagate_flags.Goals as goal

pub returns-then-not-has_flags : goal.returns-then-not-has_flags
returns-then-not-has_flags c =
    let b = c.args.buffer.now in
    let none : list_any is_flagged b.glyphs ≡ false =
    ap (list_any is_flagged) (sym c.glyphs.ensures) ∙ sym c.has_flags.ensures ∙ c.if-not-has_flags.true in
    ap (λ gs. let r : Buffer = record b { glyphs = gs } in r) (sym (propagated-none b.flags b.glyphs none))
