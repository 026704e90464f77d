use Rattle.std.proofs.Common.{◌<◌, get_or, sym, ap, subst, ◌∙◌, lit<}
use Rattle.shapers_unicode.specs.declared.tables.indic.TheConstants.{INDIC_PAIRS}
use Rattle.shapers_unicode.proofs.IndicSteps.{pair-listed, pair-there}
use Rattle.shapers_unicode.proofs.IndicTable.{IsTable-INDIC, table_value-INDIC}
use Rattle.shapers_unicode.proofs.properties.indic_categories.Goals as goal

pub value_of-requires : goal.value_of-requires
value_of-requires c = (lit< tt, IsTable-INDIC)

pub returns : goal.returns
returns c =
    ap (λ n. get_or INDIC_PAIRS n (0, 0)) (c.value_of.ensures ∙ table_value-INDIC c.args.c) ∙ pair-there c.args.c

pub bounds-value_of : goal.bounds-value_of
bounds-value_of c = subst (λ n. n < 42) (sym (c.value_of.ensures ∙ table_value-INDIC c.args.c)) (pair-listed c.args.c)
