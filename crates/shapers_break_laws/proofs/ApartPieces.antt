-- A text whose syllables share no cluster is reordered as each of its syllables is.
use Rattle.std.proofs.Common.{ℕ, suc, ◌+◌, ◌-◌, ◌≡◌, List, [], ◌∷◌, ◌++◌, length, map, take, drop, get_or, refl, sym, ap, ◌∙◌, subst, arith, length-append}
use Rattle.std.specs.List.{AllByRecursion, flat_map, sum_by}
use Rattle.std.proofs.lemmas.List.{append-nil, get_or-append_right, length-map, map-append}
use Rattle.std.proofs.lemmas.List.Sums.{sum_by-cons}
use Rattle.shapers_buffer.specs.Glyphs.{Glyph, Glyphs}
use Rattle.shapers_buffer.specs.declared.buffer.level.BufferClusterLevel.{BufferClusterLevel}
use Rattle.shapers_buffer.specs.Glyph.{clusters, order_view, plain}
use Rattle.shapers_buffer.specs.Syllables.{syllables}
use Rattle.shapers_clusters.specs.Cuts.{ShareNone}
use Rattle.shapers_clusters.specs.Steps.{FitSteps, Step, after_steps, steps_along, widened}
use Rattle.shapers_clusters.proofs.Halves.{steps_alone}
use Rattle.shapers_clusters.proofs.Proved.{halves_hold}
use Rattle.shapers_syllabic.specs.Reordering.{text_steps}
use Rattle.shapers_syllabic.proofs.Borders.{syllables-viewed}
use Rattle.shapers_syllabic.proofs.CircleLaws.{joined-syllables}

-- pieces that share no cluster, wherever they are cut
abbrev pub ApartAtBorders : List Glyphs → Type 0
ApartAtBorders pieces = (k : ℕ) → ShareNone (flat_map (λ q. q) (take k pieces)) (flat_map (λ q. q) (drop k pieces))

apart_first : (q : Glyphs) (qs : List Glyphs) → ApartAtBorders (q ∷ qs)
    → ShareNone q (flat_map (λ q. q) qs)
apart_first q qs apart = subst (λ xs. ShareNone xs (flat_map (λ q. q) qs)) (append-nil q) (apart 1)

apart_rest : (q : Glyphs) (qs : List Glyphs) → ApartAtBorders (q ∷ qs)
    → ApartAtBorders qs
apart_rest q qs apart k i j il jl same =
    let cluster : Glyph → ℕ = λ g. g.cluster in
    let xs = flat_map (λ q. q) (take k qs) in
    let n = length-map q cluster in
    let back : length q + i - length q ≡ i = omega arith in
    let there : get_or (clusters (q ++ xs)) (length q + i) 0 ≡ get_or (clusters xs) i 0 =
    ap (λ cs. get_or cs (length q + i) 0) (map-append cluster q xs)
    ∙ get_or-append_right (clusters q) (clusters xs) (length q) (length q + i) 0 n (omega arith)
    ∙ ap (λ k. get_or (clusters xs) k 0) back in
    apart (suc k) (length q + i) j (omega (arith, length-append q xs)) jl (there ∙ same)

-- the steps of each piece of a text
abbrev pub steps_by_piece : (Glyphs → List Step) → List Glyphs → List (ℕ × List Step)
steps_by_piece steps pieces = map (λ q. (length q, steps (order_view q))) pieces

sum_pieces : (steps : Glyphs → List Step) (pieces : List Glyphs) → sum_by
    (λ piece. piece.0) (steps_by_piece steps pieces) ≡ length (flat_map (λ q. q) pieces)
sum_pieces steps [] = refl
sum_pieces steps (q ∷ qs) = sum_by-cons (λ piece. piece.0) (length q, steps (order_view q)) (steps_by_piece steps qs)
    ∙ ap (λ k. length q + k) (sum_pieces steps qs) ∙ sym (length-append q (flat_map (λ q. q) qs))

fit_pieces : (steps : Glyphs → List Step) → ((gs : Glyphs) → FitSteps (length gs) (steps gs))
    → (pieces : List Glyphs) → AllByRecursion (λ piece. FitSteps piece.0 piece.1)
    (steps_by_piece steps pieces)
fit_pieces steps fits [] = tt
fit_pieces steps fits (q ∷ qs) = (
  subst (λ n. FitSteps n (steps (order_view q))) (length-map q plain) (fits (order_view q)),
  fit_pieces steps fits qs,
)

-- the steps of one piece that is the whole text
one_piece : (level : BufferClusterLevel) (xs : List Step) (q : Glyphs) → FitSteps (length q) xs
    → after_steps level (steps_along (length q) 0 ((length q, xs) ∷ [])) q ≡ after_steps level xs q
one_piece level xs q fits =
    let n = length q in
    let from : 0 + n ≡ n = omega arith in
    let size : n ≡ n - 0 = omega arith in
    ap (λ l. after_steps level l q) (append-nil (map (widened 0 (0 + n) n) xs))
    ∙ ap (λ e. after_steps level (map (widened 0 e n) xs) q) from
    ∙ ap (λ gs. after_steps level (map (widened 0 n n) xs) gs) (sym (append-nil q))
    ∙ steps_alone level 0 n n xs [] q [] (omega arith) refl size (omega arith) (subst (λ k. FitSteps k xs) size fits)
    (λ i j il jl. absurd (omega arith)) (λ i j il jl. absurd (omega arith))
    ∙ append-nil (after_steps level xs q)

-- of all, side by side
pub run_apart : (steps : Glyphs → List Step) → ((gs : Glyphs)
    → FitSteps (length gs) (steps gs)) → (level : BufferClusterLevel) (pieces : List Glyphs)
    → ApartAtBorders pieces → let all = flat_map (λ q. q) pieces in
    after_steps level (steps_along (length all) 0 (steps_by_piece steps pieces)) all ≡ flat_map
    (λ q. after_steps level (steps (order_view q)) q) pieces
run_apart steps fits level [] apart = refl
run_apart steps fits level (q ∷ qs) apart =
    let rest = flat_map (λ q. q) qs in
    let run : Glyphs → Glyphs = λ q. after_steps level (steps (order_view q)) q in
    let xs = steps (order_view q) in
    let own : FitSteps (length q) xs = subst (λ n. FitSteps n xs) (length-map q plain) (fits (order_view q)) in
    let one : List (ℕ × List Step) = (length q, xs) ∷ [] in
    let more = steps_by_piece steps qs in
    let sum : sum_by (λ piece. piece.0) one ≡ length q = omega arith in
    ap (λ n. after_steps level (steps_along n 0 (one ++ more)) (q ++ rest)) (length-append q rest)
    ∙ halves_hold level one more q rest sum (sum_pieces steps qs) (own, tt) (fit_pieces steps fits qs)
    (apart_first q qs apart)
    ∙ ap (λ l. l ++ after_steps level (steps_along (length rest) 0 more) rest) (one_piece level xs q own)
    ∙ ap (λ l. run q ++ l) (run_apart steps fits level qs (apart_rest q qs apart))

-- and of a text cut into its syllables
steps_of_pieces : (steps : Glyphs → List Step) (pieces : List Glyphs) → map
    (λ syl. (length syl, steps syl)) (map order_view pieces) ≡ steps_by_piece steps pieces
steps_of_pieces steps [] = refl
steps_of_pieces steps (q ∷ qs) = ap (λ (n : ℕ). (n, steps (order_view q)) ∷ map (λ syl. (length syl, steps syl))
    (map order_view qs)) (length-map q plain) ∙ ap (λ l. (length q, steps (order_view q)) ∷ l) (steps_of_pieces steps qs)

pub text_apart : (steps : Glyphs → List Step) → ((gs : Glyphs)
    → FitSteps (length gs) (steps gs)) → (level : BufferClusterLevel) (gs : Glyphs)
    → ApartAtBorders (syllables gs) → after_steps level (text_steps steps (order_view gs)) gs ≡ flat_map
    (λ q. after_steps level (steps (order_view q)) q) (syllables gs)
text_apart steps fits level gs apart =
    let all = flat_map (λ q. q) (syllables gs) in
    let is = joined-syllables gs in
    let along : List (ℕ × List Step) → ℕ → Glyphs → Glyphs = λ ps n xs. after_steps level
    (steps_along n 0 ps) xs in
    let cut : map (λ syl. (length syl, steps syl)) (syllables (order_view gs)) ≡ steps_by_piece steps (syllables gs) = ap
    (map (λ syl. (length syl, steps syl))) (syllables-viewed plain (λ g. refl) gs) ∙ steps_of_pieces steps (syllables gs) in
    ap (λ n. along (map (λ syl. (length syl, steps syl)) (syllables (order_view gs))) n gs) (length-map gs plain)
    ∙ ap (λ ps. along ps (length gs) gs) cut
    ∙ ap (λ xs. along (steps_by_piece steps (syllables gs)) (length xs) xs) (sym is)
    ∙ run_apart steps fits level (syllables gs) apart
