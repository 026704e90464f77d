-- What is left of the context.
use Rattle.std.proofs.Common.{◌≡◌, ◌+◌, drop}
use Rattle.shapers_arabic.specs.Joining.{nearest}
use Rattle.shapers_arabic.specs.JoinedText.{context_types, context_look_ups}
use Rattle.shapers_arabic.proofs.ot_shaper_arabic.joining.nearest_in.Given as goal

abbrev pub invariant-loop-c : goal.invariant-loop-c
invariant-loop-c g l =
    let all = context_types (g.T.Tables.tables l.tables).joining (g.T.Tables.tables l.tables).general l.context in
    let left = context_types (g.T.Tables.tables l.tables).joining (g.T.Tables.tables l.tables).general
    (drop l.c-index l.context) in
    record {
      nearest_is : nearest left ≡ nearest all;
      counted : l.count + context_look_ups left ≡ l.initial.count + context_look_ups all;
    }
