use Rattle.std.proofs.Common.{rules, ◌∙◌, ◌^◌, ◌<◌}
use Rattle.opentype_layout.specs.Sight.{flag_in}
use Rattle.opentype_layout.proofs.Flags.{no_set}
use Rattle.opentype_layout.proofs.sight.sound_flag.Goals as goal

pub returns-then-flag-eq0 : goal.returns-then-flag-eq0
unfolding flag_in
returns-then-flag-eq0 c =
    let lt : c.lookup_flag-flag.result < 2 ^ 16 = search rules in
    let few = rw c.lookup_flag-flag.ensures at lt in
    let off = rw c.lookup_flag-flag.ensures at c.if-flag-eq0.true in
    c.lookup_flag-flag.ensures ∙ no_set _ _ few off
