-- The walk that takes ignorable glyphs out of a text, step by step.
use Rattle.std.proofs.Common.{◌≡◌, ◌+◌, ◌-◌, ◌<◌, ◌≤◌, ℕ, Bool, true, false, cond, List, [], ◌∷◌, ◌++◌, get_or, length, set, take, drop, refl, sym, ap, ◌∙◌, arith}
use Rattle.std.specs.Prelude.{count_by, not}
use Rattle.std.proofs.lemmas.List.{drop-drop, drop-set-lt, drop_at, drop_more, take_at, take_more_set}
use Rattle.std.proofs.lemmas.List.Sums.{sum_by-cons}
use Rattle.shapers_buffer.specs.Glyphs.{Glyph, Glyphs}
use Rattle.shapers_buffer.specs.declared.buffer.level.BufferClusterLevel.{BufferClusterLevel}
use Rattle.shapers_buffer.specs.Clusters.{merge}
use Rattle.shapers_clusters.proofs.Merging.{order_view-merge}
use Rattle.shapers_buffer.specs.Glyph.{default_glyph, order_view, plain}
use Rattle.shapers_position.specs.Ignorables.{covering, is_of_cluster, is_default_ignorable, stays_in_text, removed_behind}

-- what lies behind a front that is written anew
behind_front : {X : Type 0} (xs ys : List X) (k i : ℕ) → k ≤ i → length ys ≡ k →
    drop (i + 1) (ys ++ drop k xs) ≡ drop (i + 1) xs
behind_front xs ys k i few long =
    let there : i + 1 - k + k ≡ i + 1 = omega arith in
    let from : k + (i + 1 - k) ≡ i + 1 = omega arith in
    ap (λ n. drop n (ys ++ drop k xs)) (sym there)
    ∙ sym (drop-drop (i + 1 - k) k (ys ++ drop k xs) ∙ ap (λ n. drop n (ys ++ drop k xs)) (from ∙ sym there))
    ∙ ap (drop (i + 1 - k)) (drop_at ys (drop k xs) k long)
    ∙ drop-drop (i + 1 - k) k xs
    ∙ ap (λ n. drop n xs) from

-- ---- how many glyphs stay

by : (b : Bool) → cond {A = ℕ} (not b) 1 0 ≡ cond {A = ℕ} b 0 1
by true = refl
by false = refl

pub count_next : (gs : Glyphs) (i : ℕ) (b : Bool) → i < length gs →
    is_default_ignorable (get_or gs i default_glyph) ≡ b →
    count_by stays_in_text (drop i gs) ≡ cond {A = ℕ} b 0 1 + count_by stays_in_text (drop (i + 1) gs)
count_next gs i b inside is =
    ap (count_by stays_in_text) (drop_more gs i default_glyph inside)
    ∙ sum_by-cons (λ (g : Glyph). cond {A = ℕ} (stays_in_text g) 1 0) (get_or gs i default_glyph)
    (drop (i + 1) gs)
    ∙ ap (λ n. n + count_by stays_in_text (drop (i + 1) gs)) (ap (λ c. cond {A = ℕ} (not c) 1 0) is ∙ by b)

-- ---- a glyph that stays

pub stays_rest : (gs : Glyphs) (k i : ℕ) (g : Glyph) → k ≤ i → i < length gs →
    get_or gs i default_glyph ≡ g → is_default_ignorable g ≡ false →
    removed_behind (take (k + 1) (set gs k g)) (drop (i + 1) (set gs k g)) ≡ removed_behind (take k gs) (drop i gs)
stays_rest gs k i g few inside at is =
    let more : drop i gs ≡ g ∷ drop (i + 1) gs = drop_more gs i default_glyph inside
    ∙ ap (λ x. x ∷ drop (i + 1) gs) at in
    ap (λ xs. removed_behind xs (drop (i + 1) (set gs k g))) (take_more_set gs k g (omega arith))
    ∙ ap (removed_behind (take k gs ++ g ∷ [])) (drop-set-lt (i + 1) gs k g (omega arith))
    ∙ sym (ap (λ b. cond b (removed_behind (cond (is_of_cluster g.cluster (drop (i + 1) gs)) (take k gs)
    (covering g (take k gs))) (drop (i + 1) gs)) (removed_behind (take k gs ++ g ∷ []) (drop (i + 1) gs))) is)
    ∙ sym (ap (removed_behind (take k gs)) more)

pub stays_count : (gs : Glyphs) (k i : ℕ) (g : Glyph) → k ≤ i → i < length gs →
    get_or gs i default_glyph ≡ g → is_default_ignorable g ≡ false →
    k + 1 + count_by stays_in_text (drop (i + 1) (set gs k g)) ≡ k + count_by stays_in_text (drop i gs)
stays_count gs k i g few inside at is =
    let same = ap (count_by stays_in_text) (drop-set-lt (i + 1) gs k g (omega arith)) in
    let one = count_next gs i false inside (ap is_default_ignorable at ∙ is) in
    omega (arith, same, one)

-- ---- one that goes

goes_by : (gs : Glyphs) (k i : ℕ) (g : Glyph) (b : Bool) → i < length gs →
    get_or gs i default_glyph ≡ g → is_default_ignorable g ≡ true → is_of_cluster g.cluster (drop (i + 1) gs) ≡ b →
    removed_behind (cond b (take k gs) (covering g (take k gs))) (drop (i + 1) gs)
    ≡ removed_behind (take k gs) (drop i gs)
goes_by gs k i g b inside at is on =
    let more : drop i gs ≡ g ∷ drop (i + 1) gs = drop_more gs i default_glyph inside
    ∙ ap (λ x. x ∷ drop (i + 1) gs) at in
    sym (ap (λ b. removed_behind (cond b (take k gs) (covering g (take k gs))) (drop (i + 1) gs)) on)
    ∙ sym (ap (λ b. cond b (removed_behind (cond (is_of_cluster g.cluster (drop (i + 1) gs)) (take k gs)
    (covering g (take k gs))) (drop (i + 1) gs)) (removed_behind (take k gs ++ g ∷ []) (drop (i + 1) gs))) is)
    ∙ sym (ap (removed_behind (take k gs)) more)

-- its cluster goes on behind it
pub goes_rest : (gs : Glyphs) (k i : ℕ) (g : Glyph) → i < length gs →
    get_or gs i default_glyph ≡ g → is_default_ignorable g ≡ true → is_of_cluster g.cluster (drop (i + 1) gs) ≡ true →
    removed_behind (take k gs) (drop (i + 1) gs) ≡ removed_behind (take k gs) (drop i gs)
goes_rest gs k i g inside at is on = goes_by gs k i g true inside at is on

pub goes_count : (gs : Glyphs) (k i : ℕ) (g : Glyph) → i < length gs →
    get_or gs i default_glyph ≡ g → is_default_ignorable g ≡ true →
    k + count_by stays_in_text (drop (i + 1) gs) ≡ k + count_by stays_in_text (drop i gs)
goes_count gs k i g inside at is =
    let none = count_next gs i true inside (ap is_default_ignorable at ∙ is) in
    omega (arith, none)

-- it doesn't, and those before take it in
pub covered_rest : (gs new : Glyphs) (k i : ℕ) (g : Glyph) → k ≤ i → i < length gs →
    get_or gs i default_glyph ≡ g → is_default_ignorable g ≡ true → is_of_cluster g.cluster (drop (i + 1) gs) ≡ false →
    new ≡ covering g (take k gs) → length new ≡ k →
    removed_behind (take k (new ++ drop k gs)) (drop (i + 1) (new ++ drop k gs))
    ≡ removed_behind (take k gs) (drop i gs)
covered_rest gs new k i g few inside at is on covers long =
    ap (λ xs. removed_behind xs (drop (i + 1) (new ++ drop k gs))) (take_at new (drop k gs) k long ∙ covers)
    ∙ ap (removed_behind (covering g (take k gs))) (behind_front gs new k i few long)
    ∙ goes_by gs k i g false inside at is on

pub covered_count : (gs new : Glyphs) (k i : ℕ) (g : Glyph) → k ≤ i → i < length gs →
    get_or gs i default_glyph ≡ g → is_default_ignorable g ≡ true → length new ≡ k →
    k + count_by stays_in_text (drop (i + 1) (new ++ drop k gs)) ≡ k + count_by stays_in_text (drop i gs)
covered_count gs new k i g few inside at is long =
    ap (λ xs. k + count_by stays_in_text xs) (behind_front gs new k i few long) ∙ goes_count gs k i g inside at is

-- ---- the glyphs that begin a text merged

count_view : (gs : Glyphs) → count_by stays_in_text (order_view gs) ≡ count_by stays_in_text gs
count_view [] = refl
count_view (g ∷ gs) =
    let one : Glyph → ℕ = λ g. cond {A = ℕ} (stays_in_text g) 1 0 in
    sum_by-cons one (plain g) (order_view gs) ∙ ap (λ n. one g + n) (count_view gs) ∙ sym (sum_by-cons one g gs)

-- as many stay
pub count_merged : (level : BufferClusterLevel) (s e : ℕ) (gs : Glyphs) →
    count_by stays_in_text (merge level s e gs) ≡ count_by stays_in_text gs
count_merged level s e gs = sym (count_view (merge level s e gs))
    ∙ ap (count_by stays_in_text) (order_view-merge level s e gs) ∙ count_view gs
