use Rattle.std.proofs.Common.{◌%◌, ◌/◌, ◌==◌, ap, ◌∙◌}
use Rattle.shapers_unicode.proofs.CharacterSteps.{ignorable-told}
use Rattle.shapers_unicode.proofs.properties.is_default_ignorable.Goals as goal

pub returns : goal.returns
returns c = ap (λ n. n / 32 % 2 == 1) c.bits_at.ensures ∙ ignorable-told c.args.c
