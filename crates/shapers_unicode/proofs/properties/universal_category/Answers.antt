use Rattle.std.proofs.Common.{◌∙◌, lit<}
use Rattle.shapers_unicode.proofs.UniversalTable.{IsTable-UNIVERSAL, table_value-UNIVERSAL}
use Rattle.shapers_unicode.proofs.properties.universal_category.Goals as goal

pub value_of-requires : goal.value_of-requires
value_of-requires c = (lit< tt, IsTable-UNIVERSAL)

pub returns : goal.returns
returns c = c.value_of.ensures ∙ table_value-UNIVERSAL c.args.c
