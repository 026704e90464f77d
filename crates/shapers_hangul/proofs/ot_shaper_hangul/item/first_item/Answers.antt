-- An item stands within the text.
use Rattle.std.proofs.Common.{arith}
use Rattle.std.proofs.lemmas.List.{length-map}
use Rattle.shapers_hangul.proofs.Items.{first_item-within}
use Rattle.shapers_hangul.proofs.ot_shaper_hangul.item.first_item.Goals as goal

pub returns-clause-within : goal.returns-clause-within
returns-clause-within = search (arith, first_item-within, length-map)
