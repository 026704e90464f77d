-- No bits that are given are among the glyph flags.
use Rattle.std.proofs.Common.{◌≡◌, ◌≤◌, ◌+◌, ◌%◌, ◌^◌, ◌-◌, Bool, true, false, List, [], ◌∷◌, ℕ, arith}
use Rattle.std.specs.Prelude.{if◌then◌else◌}
use Rattle.std.proofs.lemmas.Grind.{common_steps}
use Rattle.std.proofs.lemmas.Nat.{pow-add}
use Rattle.std.proofs.Math.Nat.{mul-mod_right}
use Rattle.shapers_plan.specs.FontFeatures.{FontTables}
use Rattle.shapers_plan.specs.Compiling.{are_off_flags}
use Rattle.shapers_plan.specs.Masks.{bit_count, is_on_everywhere, mapped_from}
use Rattle.shapers_plan.specs.declared.ot_map.requests.FeatureInfo.{FeatureInfo}

power-off-flags : (n : ℕ) → 3 ≤ n → 2 ^ n % 8 ≡ 0
power-off-flags n h =
    let split : n ≡ 3 + (n - 3) = omega arith in
    rw (split, pow-add 2 3 (n - 3)) (mul-mod_right 8 (2 ^ (n - 3)))

one-off-flags : (b : Bool) (n : ℕ) → 3 ≤ n → (if b then 2147483648 else 2 ^ n) % 8 ≡ 0
one-off-flags true n h = omega arith
one-off-flags false n h = power-off-flags n h

pub mapped-off-flags : (tables : FontTables) (next : ℕ) (infos : List FeatureInfo) → 3 ≤ next → are_off_flags (mapped_from tables next infos) ≡ true
mapped-off-flags tables next [] h = grind (arith, common_steps)
mapped-off-flags tables next (info ∷ infos) h =
    let own = one-off-flags (is_on_everywhere info) next h in
    let behind = mapped-off-flags tables (next + bit_count info) infos (omega arith) in
    let without = mapped-off-flags tables next infos h in
    grind (arith, common_steps, own, behind, without)
