-- The form of the last letter, and the flags.
use Rattle.std.proofs.lemmas.Bool.{ne_eqb}
use Rattle.shapers_clusters.proofs.ViewedFlags.{flag_called-through}
use Rattle.std.proofs.Common.{refl, arith, [], ◌∷◌}
use Rattle.shapers_buffer.specs.Buffer.{has_flag}
use Rattle.shapers_buffer.specs.GlyphFlags.{SafeToInsertTatweel}
use Rattle.shapers_clusters.proofs.FlagCalls.{map-tatweel_inside, map-unsafe_to_concat_in}
use Rattle.shapers_arabic.specs.JoiningWalk.{unformed}
use Rattle.shapers_arabic.proofs.FlaggedGlyphs.{unformed-passes, flagged-again, flagged-concat}
use Rattle.shapers_arabic.proofs.ot_shaper_arabic.joining.give_form.Goals as goal

pub returns-then-given-ne-NONE-clause-flagged : goal.returns-then-given-ne-NONE-clause-flagged
returns-then-given-ne-NONE-clause-flagged c =
    let mid = c.set_form.new.glyphs in
    let new = c.flag_join.new.glyphs in
    search (
      arith,
      flagged-again c.args.flags [] (SafeToInsertTatweel c.args.last c.args.end ∷ []) c.args.glyphs.now mid new
          c.set_form.ensures.others
          (cc (flag_called-through unformed unformed-passes (has_flag 0x40 c.args.flags) (has_flag 0x80 c.args.flags)
          (SafeToInsertTatweel c.args.last c.args.end) mid)),
    )

pub returns-then-given-ne-NONE-clause-forms : goal.returns-then-given-ne-NONE-clause-forms
returns-then-given-ne-NONE-clause-forms c = search (
  arith,
  map-tatweel_inside (λ g. g.auxiliary) (λ bits g low. refl) (has_flag 0x80 c.args.flags) c.args.last c.args.end
      c.set_form.new.glyphs (omega arith),
  ne_eqb,
)

pub returns-then-depends-clause-flagged : goal.returns-then-depends-clause-flagged
returns-then-depends-clause-flagged = search (arith, flagged-concat)

pub returns-then-depends-clause-forms : goal.returns-then-depends-clause-forms
returns-then-depends-clause-forms = search (arith, map-unsafe_to_concat_in)
