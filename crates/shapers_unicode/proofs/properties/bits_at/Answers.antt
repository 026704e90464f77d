use Rattle.std.proofs.Common.{◌<◌, get_or, sym, ap, subst, ◌∙◌, arith, lit<}
use Rattle.shapers_unicode.specs.declared.tables.character.TheConstants.{CHARACTER_KINDS}
use Rattle.shapers_unicode.proofs.CharacterSteps.{kind-listed, kind-there}
use Rattle.shapers_unicode.proofs.CharacterTable.{IsTable-CHARACTER, table_value-CHARACTER}
use Rattle.shapers_unicode.proofs.properties.bits_at.Goals as goal

pub value_of-kind-requires : goal.value_of-kind-requires
value_of-kind-requires c = (lit< tt, IsTable-CHARACTER)

pub returns : goal.returns
returns c =
    ap (λ n. get_or CHARACTER_KINDS n 0) (c.value_of-kind.ensures ∙ table_value-CHARACTER c.args.c (omega arith))
    ∙ kind-there c.args.c

pub bounds-kind : goal.bounds-kind
bounds-kind c =
    subst (λ n. n < 256) (sym (c.value_of-kind.ensures ∙ table_value-CHARACTER c.args.c (omega arith)))
    (kind-listed c.args.c)
