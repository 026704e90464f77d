-- How a run with a fault ends.
use Rattle.std.specs.Prelude.{ℕ}
use Rattle.hbhook_commands.specs.declared.fault.Fault.{Fault}
use Rattle.hbhook_commands.specs.declared.fault.Fault.TheVariants.{Unreadable, Refused, Broken}

-- the status that a run with a fault ends with
abbrev pub status_of : Fault → ℕ
status_of (Refused _ _) = 1
status_of (Unreadable _ _) = 2
status_of Broken = 2
