use Rattle.std.proofs.Common.{◌==◌, ap, ◌∙◌, arith, lit<}
use Rattle.ucd_table.proofs.RunsLemmas.{is_one}
use Rattle.shapers_unicode.specs.Pictographic.{extended_pictographic}
use Rattle.shapers_unicode.proofs.PictographicTable.{IsTable-PICTOGRAPHIC, table_value-PICTOGRAPHIC}
use Rattle.shapers_unicode.proofs.properties.is_extended_pictographic.Goals as goal

pub value_of-requires : goal.value_of-requires
value_of-requires c = (lit< tt, IsTable-PICTOGRAPHIC)

pub returns : goal.returns
returns c =
    ap (λ n. n == 1) (c.value_of.ensures ∙ table_value-PICTOGRAPHIC c.args.c (omega arith))
    ∙ is_one (extended_pictographic c.args.c)
