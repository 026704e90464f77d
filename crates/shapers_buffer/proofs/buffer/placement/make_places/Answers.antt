use Rattle.std.proofs.Common.{rules, arith}
use Rattle.std.proofs.lemmas.List.{take_all}
use Rattle.shapers_buffer.proofs.PlaceLaws.{without_last_zeros-append}
use Rattle.shapers_buffer.proofs.buffer.placement.make_places.Goals as goal

pub returns-then-len-clause-places : goal.returns-then-len-clause-places
returns-then-len-clause-places = search (arith, rules, take_all, without_last_zeros-append)
