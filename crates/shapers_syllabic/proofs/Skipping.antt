-- The walk that reorders passes over syllables that stay.
use Rattle.std.proofs.Common.{◌⊎◌, inl, inr, ◌==◌, ℕ, zero, suc, ◌+◌, ◌-◌, ◌<◌, ◌≤◌, ◌≡◌, ◌≢◌, Bool, false, None, Some, true, [], ◌∷◌, ◌++◌, get_or, length, take, drop, sym, ◌∙◌, ap, subst, arith, length-append, length-take-le, length-drop}
use Rattle.std.specs.List.{list_any, position, prefix_len}
use Rattle.std.proofs.Math.Nat.{eq-or-lt_of_le}
use Rattle.std.proofs.lemmas.Bool.{eq-eqb}
use Rattle.std.proofs.lemmas.List.Folds.{list_any_at}
use Rattle.std.proofs.lemmas.List.{append-nil, drop-append-le, drop-drop, get_or-drop, get_or-map, get_or-take, get_or_at, take-append-drop, take-append-le, take_rest}
use Rattle.shapers_buffer.specs.Glyphs.{Glyph, Glyphs}
use Rattle.shapers_buffer.specs.Clusters.{stretch_of}
use Rattle.shapers_buffer.specs.Glyph.{default_glyph}
use Rattle.shapers_buffer.specs.Syllables.{first_syllable_len, has_byte}
use Rattle.shapers_buffer.proofs.ListLaws.{none_in_front}
use Rattle.shapers_syllabic.specs.Borders.{MeetAtBorder}
use Rattle.shapers_syllabic.specs.ReorderingWalk.{IsNextChanging}
use Rattle.shapers_syllabic.proofs.Borders.{first_byte, last-behind, last_byte, syllables-append}
use Rattle.shapers_syllabic.proofs.Found.{found_first, missed_all}
use Rattle.shapers_syllabic.proofs.NonePass.{none_behind}
use Rattle.shapers_syllabic.proofs.ReorderingWalk.{first_len-within, opens}

-- what stands behind some of its glyphs meets the rest at the border
border_behind : (k : ℕ) (xs ys : Glyphs) → MeetAtBorder xs ys → MeetAtBorder (drop k xs) ys
border_behind k xs ys border some more same =
    border (omega (arith, length-drop k xs)) more (
    cc (take-append-drop k xs, last-behind (take k xs) (drop k xs) some) ∙ same)

-- what a walk keeps, past a syllable without a glyph that may change it
abbrev pub PassesOver : (Glyph → Bool) → Glyphs → (ℕ → Type 0) → Type 0
PassesOver changes gs I = (s e : ℕ) → s < e → e ≤ length gs → e ≡ s + first_syllable_len (drop s gs)
    → list_any changes (stretch_of s e gs) ≡ false → I s → I e

-- so past glyphs that may not change one, up to a border
passed_over : (changes : Glyph → Bool) (gs : Glyphs) (I : ℕ → Type 0) → PassesOver changes gs I
    → (n : ℕ) (xs ys : Glyphs) (start : ℕ) → length xs ≤ n → drop start gs ≡ xs ++ ys
    → list_any changes xs ≡ false → MeetAtBorder xs ys → I start → I (start + length xs)
passed_over changes gs I passes n [] ys start few text none border kept = subst I (omega arith) kept
passed_over changes gs I passes zero (x ∷ xs) ys start few text none border kept = absurd (omega arith)
passed_over changes gs I passes (suc n) (x ∷ xs) ys start few text none border kept =
    let front = x ∷ xs in
    let k = first_syllable_len front in
    let within = first_len-within front in
    let long = length-append front ys in
    let left : length (drop start gs) ≡ length gs - start = length-drop start gs in
    let as_long : length (drop start gs) ≡ length (front ++ ys) = ap length text in
    let size : start + k - start ≡ k = omega arith in
    let stretch : stretch_of start (start + k) gs ≡ take k front = ap (λ j. take j (drop start gs)) size
    ∙ ap (take k) text ∙ take-append-le k front ys within in
    let next = passes start (start + k) (omega arith) (omega arith) (ap (λ j. start + j) (sym
    (ap first_syllable_len text
    ∙ (let all = front ++ ys in cc (
      length-take-le (first_syllable_len all) all (first_len-within all),
      opens all
          (omega arith),
      syllables-append front ys border,
      opens front (omega arith),
      length-take-le (first_syllable_len front) front (first_len-within front),
    )))))
    (ap (list_any changes) stretch ∙ none_in_front changes k front none) kept in
    let rest = drop k front in
    let rest_len : length rest ≡ length front - k = length-drop k front in
    subst I (omega arith) (passed_over changes gs I passes n rest ys (start + k) (omega arith)
    (sym (drop-drop k start gs) ∙ ap (drop k) text ∙ drop-append-le k front ys within)
    (none_behind changes k front none) (border_behind k front ys border) next)

-- up to the next syllable that may change, or to the end
pub to_next : (changes : Glyph → Bool) (gs : Glyphs) (I : ℕ → Type 0) → PassesOver changes gs I
    → (start first : ℕ) → IsNextChanging changes start gs first → I start → I first
to_next changes gs I passes start first next kept =
    let xs = stretch_of start first gs in
    let parts : drop start gs ≡ xs ++ drop first gs =
    search (arith, take-append-drop (first - start) (drop start gs), drop-drop (first - start) start gs) in
    let size : length xs ≡ first - start =
    search (arith, length-take-le, length-drop) in
    search (
      arith,
      passed_over changes gs I passes (length xs) xs (drop first gs) start (omega arith) parts next.stay next.border
          kept,
    )

pub to_end : (changes : Glyph → Bool) (gs : Glyphs) (I : ℕ → Type 0) → PassesOver changes gs I
    → (start : ℕ) → start ≤ length gs → list_any changes (drop start gs) ≡ false → I start → I (length gs)
to_end changes gs I passes start inside none kept =
    let xs = drop start gs in
    search (
      arith,
      length-drop start gs,
      passed_over changes gs I passes (length xs) xs [] start (omega arith) (sym (append-nil xs)) none
          (λ some more. absurd (omega arith)) kept,
    )

-- neighbours of different bytes make a border
pub border_between : (gs : Glyphs) (start i : ℕ) → start ≤ i → i + 1 < length gs
    → (get_or gs i default_glyph).syllable ≢ (get_or gs (i + 1) default_glyph).syllable
    → MeetAtBorder (stretch_of start (i + 1) gs) (drop (i + 1) gs)
border_between gs start i order within differ some more same =
    let byte : Glyph → ℕ = λ g. g.syllable in
    let xs = stretch_of start (i + 1) gs in
    let size : length xs ≡ i + 1 - start =
    search (arith, length-take-le, length-drop) in
    let last : last_byte xs ≡ (get_or gs i default_glyph).syllable =
    search (
      arith,
      get_or-map byte xs (length xs - 1) default_glyph 0 (omega arith),
      get_or-take (i + 1 - start) (drop start gs) (i - start) default_glyph (omega arith),
      get_or-drop start gs (i - start) default_glyph,
    ) in
    let first : first_byte (drop (i + 1) gs) ≡ (get_or gs (i + 1) default_glyph).syllable =
    search (
      arith,
      get_or-map byte (drop (i + 1) gs) 0 default_glyph 0 (omega arith),
      get_or-drop (i + 1) gs 0 default_glyph,
    ) in
    differ (sym last ∙ same ∙ first)

-- WHERE THE SEARCH ENDS
pub none_found : (changes : Glyph → Bool) (start : ℕ) (gs : Glyphs)
    → None ≡ position changes (take (length gs - start) (drop start gs)) → list_any changes (drop start gs) ≡ false
none_found =
    search (arith, missed_all, take_rest)

-- glyphs of one byte at the front are within the first syllable
same_front : (byte m : ℕ) (gs : Glyphs) → m ≤ length gs
    → ((k : ℕ) → k < m → (get_or gs k default_glyph).syllable ≡ byte) → m ≤ prefix_len (has_byte byte) gs
same_front byte zero gs few same = omega arith
same_front byte (suc m) [] few same = absurd (omega arith)
same_front byte (suc m) (g ∷ gs) few same =
    let later = same_front byte m gs (omega arith) (λ k less. same (suc k) (omega arith)) in
    let here : (g.syllable == byte) ≡ true = eq-eqb g.syllable byte (same 0 (omega arith)) in
    search arith

in_first : (byte m : ℕ) (gs : Glyphs) → suc m ≤ length gs
    → ((k : ℕ) → k < suc m → (get_or gs k default_glyph).syllable ≡ byte) → m < first_syllable_len gs
in_first byte m [] few same = absurd (omega arith)
in_first byte m (g ∷ gs) few same =
    let later = same_front byte m gs (omega arith) (λ k less. same (suc k) (omega arith)) in
    let is : prefix_len (has_byte byte) gs ≡ prefix_len (has_byte g.syllable) gs =
    cc (same 0 (omega arith)) in
    omega arith

pub next_found : (changes : Glyph → Bool) (start count : ℕ) (gs : Glyphs) (first : ℕ)
    → Some count ≡ position changes (take (length gs - start) (drop start gs)) → start ≤ first → first ≤ start + count
    → ((k : ℕ) → first ≤ k → k < start + count → (get_or gs k default_glyph).syllable
    ≡ (get_or gs (start + count) default_glyph).syllable) → MeetAtBorder (stretch_of start first gs) (drop first gs)
    → IsNextChanging changes start gs first
next_found changes start count gs first is from to together border =
    let f = found_first changes (drop start gs) count (cc (take_rest gs start)) in
    let behind = f.x ∷ f.rest in
    let long = length-append f.front behind in
    let whole : length (drop start gs) ≡ length (f.front ++ behind) = ap length f.parts in
    let left = length-drop start gs in
    let m = first - start in
    let i = start + count - first in
    let syl = drop first gs in
    let n = first_syllable_len syl in
    let at : get_or gs (start + count) default_glyph ≡ f.x =
    sym (get_or-drop start gs count default_glyph) ∙ ap (λ xs. get_or xs count default_glyph) f.parts
    ∙ get_or_at f.front f.x f.rest default_glyph count (omega arith) in
    let here = get_or-drop first gs i default_glyph ∙ ap (λ k. get_or gs k default_glyph) (omega arith) ∙ at in
    let byte = (get_or gs (start + count) default_glyph).syllable in
    let one_byte : (k : ℕ) → k ≤ i → (k ≡ i) ⊎ (k < i) → (get_or gs (first + k) default_glyph).syllable ≡ byte = λ k
    most. elim [
      | inl is ↦ ap (λ j. (get_or gs j default_glyph).syllable) (omega arith)
      | inr before ↦ together
          (first + k) (omega arith) (omega arith)
    ] in
    let same : (k : ℕ) → k < suc i → (get_or syl k default_glyph).syllable ≡ byte = λ k less.
    ap (λ (g : Glyph). g.syllable) (get_or-drop first gs k default_glyph)
    ∙ one_byte k (omega arith) (eq-or-lt_of_le {n = k} {m = i} (omega arith)) in
    let inside = in_first byte i syl (omega (arith, length-drop first gs)) same in
    search (
      arith,
      f.parts,
      take-append-le m f.front behind (omega arith),
      none_in_front changes m f.front f.none,
      list_any_at changes (take n syl) i default_glyph (omega (arith, length-take-le n syl (first_len-within syl)))
          (ap changes (get_or-take n syl i default_glyph inside ∙ here) ∙ f.passes),
    )
