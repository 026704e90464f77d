use Rattle.std.proofs.Common.{◌≡◌, map, take}
use Rattle.shapers_buffer.specs.Settings.{character_of}
use Rattle.shapers_buffer.proofs.buffer.settings.context_characters.Given as goal

-- The characters so far are those of the numbers so far.
abbrev pub invariant-loop-number : goal.invariant-loop-number
invariant-loop-number l = l.characters.items ≡ map character_of (take l.number-index l.nearest)
