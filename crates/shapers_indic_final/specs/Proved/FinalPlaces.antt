-- Searches over places, one place more.
use Rattle.std.proofs.Common.{◌≡◌, ℕ, ◌+◌, ◌≤◌, Bool, true, false, cond, Some, ap, sym, ◌∙◌}
use Rattle.shapers_indic.specs.Glyphs.{greatest_place}
use Rattle.shapers_indic.proofs.PlaceSearch.{greatest_last}

-- the greatest place
pub greatest_step : (P : ℕ → Bool) (s i j : ℕ) → j ≡ i + 1 → s ≤ i → P i ≡ false
    → greatest_place P s i ≡ greatest_place P s j
greatest_step P s i j e l fails =
    sym (ap (greatest_place P s) e ∙ greatest_last P s i l ∙ ap (λ b. cond b (Some i) (greatest_place P s i)) fails)

pub greatest_stop : (P : ℕ → Bool) (s i j : ℕ) → j ≡ i + 1 → s ≤ i → P i ≡ true → greatest_place P s j ≡ Some i
greatest_stop P s i j e l holds = ap (greatest_place P s) e ∙ greatest_last P s i l
    ∙ ap (λ b. cond b (Some i) (greatest_place P s i)) holds
