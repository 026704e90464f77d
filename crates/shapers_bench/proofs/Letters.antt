-- The letters of a word: their clusters rise along it, and each is the place of a character.
use Rattle.std.proofs.Common.{◌≡◌, ◌+◌, ◌<◌, ◌≤◌, ◌∙◌, ℕ, zero, suc, List, [], ◌∷◌, ◌++◌, length, take, get_or, refl, sym, ap, arith}
use Rattle.std.specs.List.{All}
use Rattle.shapers_buffer.specs.Buffer.{Buffer}
use Rattle.shapers_buffer.specs.Glyph.{clusters}
use Rattle.shapers_buffer.specs.Glyphs.{Glyph}
use Rattle.shapers_clusters.specs.Cuts.{IsRising}
use Rattle.shapers_bench.specs.Words.{letter, letters_from, word_in}

-- one character more is one letter more, at its place
pub next-letter : (place : ℕ) (word : List ℕ) (k c : ℕ) → k < length word → c ≡ get_or word k c
    → letters_from place (take (suc k) word) ≡ letters_from place (take k word) ++ letter (place + k) c ∷ []
next-letter place [] k c lt is = absurd (omega (arith, lt))
next-letter place (d ∷ ds) zero c lt is = ap (λ e. letter place e ∷ []) (sym is)
    ∙ ap (λ n. letter n c ∷ []) (omega arith)
next-letter place (d ∷ ds) (suc k) c lt is = ap (λ gs. letter place d ∷ gs)
    (next-letter (suc place) ds k c (omega (arith, lt)) is
    ∙ ap (λ n. letters_from (suc place) (take k ds) ++ letter n c ∷ []) (omega arith))

-- so of a word in a buffer
abbrev pub with_letter : Glyph → Buffer → Buffer
with_letter g b = record b { glyphs = b.glyphs ++ g ∷ []; positions = [] }

pub one-further : (room : ℕ) (word : List ℕ) (k c d : ℕ) (old new : Buffer) → k < length word → c ≡ get_or word k c
    → d ≡ c → old ≡ word_in room (take k word) → new ≡ with_letter (letter k d) old
    → new ≡ word_in room (take (k + 1) word)
one-further room word k c d old new lt at same before is =
    let next = next-letter 0 word k c lt at in
    let own : k ≡ 0 + k = omega arith in
    let behind : suc k ≡ k + 1 = omega arith in
    is ∙ ap (with_letter (letter k d)) before
    ∙ ap (λ e. with_letter (letter k e) (word_in room (take k word))) same
    ∙ ap (λ n. with_letter (letter n c) (word_in room (take k word))) own
    ∙ ap (λ gs. let b : Buffer = record (word_in room (take k word)) { glyphs = gs } in b) (sym next)
    ∙ ap (λ n. word_in room (take n word)) behind

-- clusters are the places
pub at-place : (place : ℕ) (word : List ℕ) (k d : ℕ) → k < length word
    → get_or (clusters (letters_from place word)) k d ≡ place + k
at-place place [] k d lt = absurd (omega (arith, lt))
at-place place (c ∷ cs) zero d lt = omega arith
at-place place (c ∷ cs) (suc k) d lt = at-place (suc place) cs k d (omega (arith, lt)) ∙ omega arith

pub as-many : (place : ℕ) (word : List ℕ) → length (clusters (letters_from place word)) ≡ length word
as-many place [] = refl
as-many place (c ∷ cs) = ap suc (as-many (suc place) cs)

pub letters-rise : (place : ℕ) (word : List ℕ) → IsRising (clusters (letters_from place word))
letters-rise place word = λ i j d before within.
    let few : j < length word = omega (arith, within, as-many place word) in
    omega (arith, before, at-place place word i d (omega (arith, before, few)), at-place place word j d few)

pub letters-within : (place : ℕ) (word : List ℕ) (end : ℕ) → place + length word ≤ end
    → All (λ c. c < end) (clusters (letters_from place word))
letters-within place word end fits k d lt =
    let few : k < length word = omega (arith, lt, as-many place word) in
    omega (arith, at-place place word k d few, few, fits)

-- letters behind letters
pub letters-append : (place : ℕ) (xs ys : List ℕ) → letters_from place (xs ++ ys)
    ≡ letters_from place xs ++ letters_from (place + length xs) ys
letters-append place [] ys = let own : place ≡ place + 0 = omega arith in ap (λ n. letters_from n ys) own
letters-append place (x ∷ xs) ys =
    let same : suc place + length xs ≡ place + suc (length xs) = omega arith in
    ap (λ gs. letter place x ∷ gs) (letters-append (suc place) xs ys
    ∙ ap (λ n. letters_from (suc place) xs ++ letters_from n ys) same)
