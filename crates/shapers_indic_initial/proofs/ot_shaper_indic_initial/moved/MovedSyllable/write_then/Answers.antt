-- Where neither of the first two moves anything the third alone is written.
use Rattle.std.proofs.Common.{sym, ◌∙◌}
use Rattle.shapers_indic_initial.proofs.MovedLaws.{still_then}
use Rattle.shapers_indic_initial.proofs.ot_shaper_indic_initial.moved.MovedSyllable.write_then.Goals as goal

pub returns-then-stays : goal.returns-then-stays
returns-then-stays c =
    still_then c.args.self.now c.args.third c.args.buffer.now c.apply.new.self
    (sym c.stays.ensures ∙ c.if-stays.true) c.requires c.apply.ensures
