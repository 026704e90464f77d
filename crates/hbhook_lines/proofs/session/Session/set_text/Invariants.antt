use Rattle.std.specs.Prelude.{◌≡◌, []}
use Rattle.hbhook_lines.proofs.session.Session.set_text.Given as goal

-- The buffer has no positions.
abbrev pub invariant-loop-i : goal.invariant-loop-i
invariant-loop-i l = l.self.buffer.positions ≡ []
