use Rattle.std.proofs.Common.{◌/◌, ap, ◌∙◌}
use Rattle.shapers_unicode.proofs.CharacterSteps.{class-told}
use Rattle.shapers_unicode.proofs.properties.modified_combining_class.Goals as goal

pub returns : goal.returns
returns c = ap (λ n. n / 256) c.bits_at.ensures ∙ class-told c.args.c
