-- A flag without bit 16 names no set of marks.
use Rattle.std.proofs.Common.{ℕ, ◌^◌, ◌<◌, ◌≡◌, Bool, true, false, refl, sym, ◌∙◌, arith, bit_and}
use Rattle.std.specs.Prelude.{if◌then◌else◌}
use Rattle.std.proofs.lemmas.Nat.{and-not, and_comm}

kept : (flag : ℕ) → flag < 2 ^ 16 → bit_and flag 16 ≡ 0 → bit_and flag 0xFFEF ≡ flag
kept flag lt e =
    let whole = and-not 16 16 flag (omega arith) lt in
    let one : bit_and 0xFFEF flag ≡ bit_and flag 0xFFEF = and_comm 0xFFEF flag in
    let two : bit_and 16 flag ≡ 0 = and_comm 16 flag ∙ e in
    omega (arith, whole, one, two)

pub no_set : (flag : ℕ) (test : Bool) → flag < 2 ^ 16 → bit_and flag 16 ≡ 0 →
    flag ≡ (if test then flag else bit_and flag 0xFFEF)
no_set flag true lt e = refl
no_set flag false lt e = sym (kept flag lt e)
