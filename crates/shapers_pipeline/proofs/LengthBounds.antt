-- Bounds that are computed up to the greatest number.
use Rattle.std.proofs.Common.{◌≡◌, ◌∙◌, ℕ, zero, suc, ◌+◌, ◌*◌, ◌≤◌, ◌<◌, ◌⊎◌, List, [], ◌∷◌, drop, get_or, length, min, sym, ap, arith, inl, inr}
use Rattle.std.specs.Prelude.{Option}
use Rattle.std.proofs.Math.Nat.{le-mul_of_pos_right, le_of_lt, le_trans, min-eq_left, min-eq_right}
use Rattle.std.proofs.lemmas.Bool.{cases_lt}
use Rattle.std.specs.Option.{option_map_or}
use Rattle.rustybuzz_shapers.specs.Lengths.{pause_growth}
use Rattle.rustybuzz_shapers.specs.declared.shaper.hb_ot_shaper_t.{hb_ot_shaper_t}
use Rattle.shapers_plan.specs.declared.ot_map.lookups.Stage.{Stage}
use Rattle.shapers_plan.specs.declared.ot_map.lookups.StageLookup.{StageLookup}
use Rattle.shapers_clusters.proofs.GroupWalk.{next_at}
use Rattle.shapers_pipeline.specs.Lengths.{looked_up_bound, prepared_bound, preprocess_growth, shaped_bound, stage_bound, stages_bound}
use Rattle.shapers_pipeline.specs.Lookups.{lookups_of_stage}

at_least : (m a b : ℕ) → m ≤ a → min (m * b) m ≡ min (a * b) m
at_least m a zero big = ap (λ n. min n m) (omega arith)
at_least m a (suc b) big =
    let some : 0 < suc b = omega arith in
    let one : m ≤ m * suc b = le-mul_of_pos_right m some in
    let two : m ≤ a * suc b = le_trans big (le-mul_of_pos_right a some) in
    min-eq_right one ∙ sym (min-eq_right two)

cut_by : (m a b : ℕ) → (m < a) ⊎ (a ≤ m) → min (min a m * b) m ≡ min (a * b) m
cut_by m a b (inl big) =
    ap (λ n. min (n * b) m) (min-eq_right (le_of_lt big)) ∙ at_least m a b (le_of_lt big)
cut_by m a b (inr few) = ap (λ n. min (n * b) m) (min-eq_left few)

-- a factor, whether what it multiplies was cut to the greatest number or not
pub cut_first : (m a b : ℕ) → min (min a m * b) m ≡ min (a * b) m
cut_first m a b = cut_by m a b (cases_lt m a)

pub cut_twice : (m n : ℕ) → min (min n m) m ≡ min n m
cut_twice m n = omega arith

pub looked_up_cut : (m : ℕ) (growth : StageLookup → ℕ) (list : List StageLookup) (n : ℕ) →
    min (looked_up_bound growth list (min n m)) m ≡ min (looked_up_bound growth list n) m
looked_up_cut m growth [] n = cut_twice m n
looked_up_cut m growth (x ∷ xs) n =
    sym (looked_up_cut m growth xs (min n m * growth x))
    ∙ ap (λ k. min (looked_up_bound growth xs k) m) (cut_first m n (growth x))
    ∙ looked_up_cut m growth xs (n * growth x)

pub stage_cut : (m : ℕ) (growth : StageLookup → ℕ) (list : List StageLookup) (s : Stage) (n : ℕ) →
    min (stage_bound growth list (min n m) s) m ≡ min (stage_bound growth list n s) m
stage_cut m growth list s n =
    let own = lookups_of_stage s list in
    let times = option_map_or pause_growth s.pause 1 in
    sym (cut_first m (looked_up_bound growth own (min n m)) times)
    ∙ ap (λ k. min (k * times) m) (looked_up_cut m growth own n)
    ∙ cut_first m (looked_up_bound growth own n) times

pub stages_cut : (m : ℕ) (growth : StageLookup → ℕ) (list : List StageLookup) (ss : List Stage) (n : ℕ) →
    min (stages_bound growth list ss (min n m)) m ≡ min (stages_bound growth list ss n) m
stages_cut m growth list [] n = cut_twice m n
stages_cut m growth list (s ∷ ss) n =
    sym (stages_cut m growth list ss (stage_bound growth list (min n m) s))
    ∙ ap (λ k. min (stages_bound growth list ss k) m) (stage_cut m growth list s n)
    ∙ stages_cut m growth list ss (stage_bound growth list n s)

-- ---- one more lookup, and one more stage, up to the greatest number

abbrev greatest : ℕ
greatest = 18446744073709551615

pub looked_up_next : (growth : StageLookup → ℕ) (xs : List StageLookup) (i n : ℕ) (d : StageLookup) → i < length xs →
    min (looked_up_bound growth (drop i xs) n) 18446744073709551615
    ≡ min (looked_up_bound growth (drop (i + 1) xs) (min (n * growth (get_or xs i d)) 18446744073709551615))
    18446744073709551615
looked_up_next growth xs i n d within =
    ap (λ ys. min (looked_up_bound growth ys n) greatest) (next_at xs i d within)
    ∙ sym (looked_up_cut greatest growth (drop (i + 1) xs) (n * growth (get_or xs i d)))

pub stages_next : (growth : StageLookup → ℕ) (list : List StageLookup) (ss : List Stage) (i n : ℕ) (d : Stage) →
    i < length ss → min (stages_bound growth list (drop i ss) n) 18446744073709551615
    ≡ min (stages_bound growth list (drop (i + 1) ss)
    (min (min (looked_up_bound growth (lookups_of_stage (get_or ss i d) list) n) 18446744073709551615
    * option_map_or pause_growth (get_or ss i d).pause 1) 18446744073709551615)) 18446744073709551615
stages_next growth list ss i n d within =
    let s = get_or ss i d in
    let rest = drop (i + 1) ss in
    ap (λ ys. min (stages_bound growth list ys n) greatest) (next_at ss i d within)
    ∙ sym (stages_cut greatest growth list rest (stage_bound growth list n s))
    ∙ ap (λ k. min (stages_bound growth list rest k) greatest)
    (sym (cut_first greatest (looked_up_bound growth (lookups_of_stage s list) n)
    (option_map_or pause_growth s.pause 1)))

-- all steps, each up to the greatest number
pub all_bounded : (shaper : Option hb_ot_shaper_t) (growth : StageLookup → ℕ) (list : List StageLookup)
    (ss : List Stage) (n opened preprocessed prepared : ℕ) → opened ≡ min (n + 1) 18446744073709551615 →
    preprocessed ≡ min (opened * option_map_or preprocess_growth shaper 1) 18446744073709551615 →
    prepared ≡ min (preprocessed * 9) 18446744073709551615 →
    min (stages_bound growth list ss prepared) 18446744073709551615
    ≡ min (shaped_bound shaper growth list ss n) 18446744073709551615
all_bounded shaper growth list ss n opened preprocessed prepared one two three =
    let times = option_map_or preprocess_growth shaper 1 in
    let all : prepared ≡ min (prepared_bound shaper n) greatest =
    three ∙ ap (λ k. min (k * 9) greatest) (two ∙ ap (λ k. min (k * times) greatest) one
    ∙ cut_first greatest (n + 1) times) ∙ cut_first greatest ((n + 1) * times) 9 in
    ap (λ k. min (stages_bound growth list ss k) greatest) all
    ∙ stages_cut greatest growth list ss (prepared_bound shaper n)
