-- Words of Hangul's syllables that a font has, normalized.
use Rattle.std.proofs.Common.{◌≡◌, ◌≢◌, ◌+◌, ◌-◌, ◌<◌, ◌&&◌, ◌||◌, ◌∙◌, ℕ, suc, Bool, true, false, not, cond, eqb, nat_lt, nat_le, List, [], ◌∷◌, ◌++◌, length, map, Option, None, Some, refl, sym, ap, subst, arith}
use Rattle.std.specs.List.{AllByRecursion, fold, list_all, list_any}
use Rattle.std.specs.Option.{option_map_or}
use Rattle.std.proofs.lemmas.Bool.{and_from, and_parts, false≢true}
use Rattle.std.proofs.lemmas.Bool.Decides.{nat_tests}
use Rattle.std.proofs.lemmas.List.{length-map}
use Rattle.std.proofs.lemmas.List.Folds.{list_all-append}
use Rattle.shapers_base.specs.declared.font.GlyphId.{GlyphId}
use Rattle.shapers_buffer.specs.Buffer.{Buffer}
use Rattle.shapers_buffer.specs.Glyphs.{Glyph, Glyphs}
use Rattle.shapers_buffer.specs.Properties.{general_category}
use Rattle.shapers_buffer.specs.declared.buffer.level.BufferClusterLevel.{BufferClusterLevel}
use Rattle.shapers_clusters.specs.Cuts.{ShareNone}
use Rattle.shapers_normal.specs.Context.{Context, has_glyph}
use Rattle.shapers_normal.specs.Decomposition.{cluster_stays, first_round, is_short_alone, is_whole, mark_clusters, stays_alone, stays_together, with_own_glyph}
use Rattle.shapers_normal.specs.Laws.{OrdersAlone, begins_anew, ends_in_joiner}
use Rattle.shapers_normal.specs.Normalization.{composes, joiners_shown, normalized}
use Rattle.shapers_normal.specs.Properties.{grapheme_joiner, numbered_as}
use Rattle.shapers_normal.specs.Sorting.{class_of, class_of_mark, classes, is_mark_glyph, mark_sequences, marks_ordered, sequence_ordered, sequence_sorted}
use Rattle.shapers_normal.specs.Variants.{is_selector_glyph, with_first, with_number}
use Rattle.shapers_normal.specs.declared.ot_shape_normalize.normalizing.Rounds.TheVariants.{Always}
use Rattle.shapers_normal.proofs.WholeTexts.{whole_round}
use Rattle.shapers_prepare.specs.FirstCircle.{begins_with_mark}
use Rattle.shapers_editing.specs.EditedNormal.{MayCut, NormalizedOutside}
use Rattle.shapers_equivalence_laws.specs.Laws.{in_canonical_order}
use Rattle.shapers_equivalence_laws.specs.Staying.{LeavesMarks, TextsInFormStay}
use Rattle.shapers_bench.specs.NormalWords.{IsItsParts}
use Rattle.shapers_bench.specs.Words.{letter, letters_from, word_in}
use Rattle.shapers_bench.proofs.Letters.{as-many, at-place, letters-append}

-- a character from AC00 to D7A3 that the font has
abbrev pub is_drawn_in : Context → ℕ → Bool
is_drawn_in context c = nat_le 0xAC00 c && nat_le c 0xD7A3 && has_glyph context c

no-joiner : (context : Context) (c : ℕ) → is_drawn_in context c ≡ true → eqb c grapheme_joiner ≡ false
no-joiner context c drawn =
    let range = (and_parts (nat_le 0xAC00 c && nat_le c 0xD7A3) (has_glyph context c) drawn).0 in
    let low = (and_parts (nat_le 0xAC00 c) (nat_le c 0xD7A3) range).0 in
    grind (arith, nat_tests)

-- ---- one letter

-- what is read of a letter that gets the number of its glyph
through : {X : Type 0} (f : Glyph → X) (g : Glyph) (o : Option GlyphId) → ((n : ℕ) → f (numbered_as n g) ≡ f g)
    → f (option_map_or (λ (glyph : GlyphId). numbered_as glyph.0 g) o g) ≡ f g
through f g None same = refl
through f g (Some glyph) same = same glyph.0

letter-no-mark : (n c : ℕ) → is_mark_glyph (letter n c) ≡ false
unfolding general_category
letter-no-mark n c = refl

letter-class : (n c : ℕ) → class_of (letter n c) ≡ 0
unfolding general_category class_of_mark
letter-class n c = refl

-- ---- words

letters-alone : (context : Context) (n : ℕ) (word : List ℕ) → list_all (is_drawn_in context) word ≡ true
    → list_all (stays_alone context) (letters_from n word) ≡ true
letters-alone context n [] drawn = refl
letters-alone context n (c ∷ cs) drawn =
    let p = and_parts (is_drawn_in context c) (list_all (is_drawn_in context) cs) drawn in
    let q = and_parts (nat_le 0xAC00 c && nat_le c 0xD7A3) (has_glyph context c) p.0 in
    and_from (stays_alone context (letter n c)) (list_all (stays_alone context) (letters_from (suc n) cs))
    (ap (λ b. not b && has_glyph context c) (letter-no-mark n c) ∙ q.1) (letters-alone context (suc n) cs p.1)

whole-letters : (context : Context) → is_short_alone context.mode ≡ true → (n : ℕ) (word : List ℕ)
    → list_all (is_drawn_in context) word ≡ true → is_whole context (letters_from n word) ≡ true
whole-letters context short n word drawn =
    and_from (is_short_alone context.mode) (list_all (stays_alone context) (letters_from n word)) short
    (letters-alone context n word drawn)

numbered-word : (context : Context) → is_short_alone context.mode ≡ true → (level : BufferClusterLevel) (n : ℕ)
    (word : List ℕ) → list_all (is_drawn_in context) word ≡ true
    → first_round context level (letters_from n word) ≡ map (with_number context) (letters_from n word)
numbered-word context short level n word drawn =
    sym (whole_round context level (letters_from n word) (whole-letters context short n word drawn))

anew : (context : Context) (n : ℕ) (word : List ℕ) → list_all (is_drawn_in context) word ≡ true
    → begins_anew (map (with_number context) (letters_from n word)) ≡ true
anew context n [] drawn = refl
anew context n (c ∷ cs) drawn =
    let p = and_parts (is_drawn_in context c) (list_all (is_drawn_in context) cs) drawn in
    let reads = λ (g : Glyph). not (is_mark_glyph g) && not (eqb g.glyph_id grapheme_joiner) in
    through reads (letter n c) (context.nominal c) (λ k. refl)
    ∙ (ap (λ b. not b && not (eqb c grapheme_joiner)) (letter-no-mark n c)
    ∙ ap not (no-joiner context c p.0))

no-end : (context : Context) (n : ℕ) (word : List ℕ) → list_all (is_drawn_in context) word ≡ true
    → ends_in_joiner (map (with_number context) (letters_from n word)) ≡ false
no-end context n [] drawn = refl
no-end context n (c ∷ []) drawn =
    let p = and_parts (is_drawn_in context c) true drawn in
    through (λ (g : Glyph). eqb g.glyph_id grapheme_joiner) (letter n c) (context.nominal c) (λ k. refl)
    ∙ no-joiner context c p.0
no-end context n (c ∷ d ∷ cs) drawn =
    no-end context (suc n) (d ∷ cs) (and_parts (is_drawn_in context c) (list_all (is_drawn_in context) (d ∷ cs)) drawn).1

-- ---- marks, of which there are none

empty-run : (context : Context) (level : BufferClusterLevel) (i : ℕ) (gs : Glyphs)
    → sequence_ordered context level (i, i) gs ≡ gs
empty-run context level i gs =
    let none : nat_lt i i ≡ false = grind (arith, nat_tests) in
    ap (λ b. cond (b && nat_le (i - i) 32) (context.reordered level i i (sequence_sorted level i i gs)) gs) none

ordered-from : (context : Context) (level : BufferClusterLevel) (i : ℕ) (gs hs : Glyphs)
    → AllByRecursion (λ g. class_of g ≡ 0) hs
    → fold (λ xs run. sequence_ordered context level run xs) gs (mark_sequences i i (classes hs)) ≡ gs
ordered-from context level i gs [] all = empty-run context level i gs
ordered-from context level i gs (h ∷ hs) all =
    let order = λ (xs : Glyphs) (runs : List (ℕ × ℕ)). fold (λ ys run. sequence_ordered context level run ys) xs runs in
    ap (λ c. order gs (cond (eqb c 0) ((i, i) ∷ mark_sequences (i + 1) (i + 1) (classes hs))
    (mark_sequences i (i + 1) (classes hs)))) all.0
    ∙ (ap (λ xs. order xs (mark_sequences (i + 1) (i + 1) (classes hs))) (empty-run context level i gs)
    ∙ ordered-from context level (i + 1) gs hs all.1)

no-class : (context : Context) (n : ℕ) (word : List ℕ)
    → AllByRecursion (λ g. class_of g ≡ 0) (map (with_number context) (letters_from n word))
no-class context n [] = tt
no-class context n (c ∷ cs) =
    (through class_of (letter n c) (context.nominal c) (λ k. refl) ∙ letter-class n c, no-class context (suc n) cs)

-- ---- cuts

no-mark-first : (n : ℕ) (word : List ℕ) → begins_with_mark (letters_from n word) ≡ false
no-mark-first n [] = refl
no-mark-first n (c ∷ cs) = letter-no-mark n c

share-none : (n m : ℕ) (xs ys : List ℕ) → n + length xs ≡ m → ShareNone (letters_from n xs) (letters_from m ys)
share-none n m xs ys behind i j in_front within =
    let cluster = λ (g : Glyph). g.cluster in
    let a : i < length xs = omega (arith, in_front, as-many n xs, length-map (letters_from n xs) cluster) in
    let b : j < length ys = omega (arith, within, as-many m ys, length-map (letters_from m ys) cluster) in
    λ same. absurd (omega (arith, same, behind, a, b, at-place n xs i 0 a, at-place m ys j 0 b))

may-cut : (context : Context) → is_short_alone context.mode ≡ true → (level : BufferClusterLevel) (n m : ℕ)
    (xs ys : List ℕ) → n + length xs ≡ m → list_all (is_drawn_in context) xs ≡ true
    → list_all (is_drawn_in context) ys ≡ true
    → MayCut context level (letters_from n xs) (letters_from m ys)
may-cut context short level n m xs ys behind first second = record {
  apart = share-none n m xs ys behind;
  letter = no-mark-first m ys;
  anew = ap begins_anew (numbered-word context short level m ys second) ∙ anew context m ys second;
  no_joiner = ap (λ gs. ends_in_joiner (marks_ordered context level gs)) (numbered-word context short level n xs first)
      ∙ (ap ends_in_joiner (ordered-from context level 0 (map (with_number context) (letters_from n xs))
      (map (with_number context) (letters_from n xs)) (no-class context n xs))
      ∙ no-end context n xs first);
}

pub in-parts : NormalizedOutside → (context : Context) → OrdersAlone context → is_short_alone context.mode ≡ true
    → (level : BufferClusterLevel) (word : List ℕ) → list_all (is_drawn_in context) word ≡ true
    → IsItsParts context level word (normalized context Always level (letters_from 0 word))
in-parts law context alone short level word drawn front middle back is =
    let a = length front in
    let b = length front + length middle in
    let normal = normalized context Always level in
    let all : list_all (is_drawn_in context) (front ++ (middle ++ back)) ≡ true =
    subst (λ w. list_all (is_drawn_in context) w ≡ true) is drawn in
    let p = and_parts (list_all (is_drawn_in context) front) (list_all (is_drawn_in context) (middle ++ back))
    (sym (list_all-append (is_drawn_in context) front (middle ++ back)) ∙ all) in
    let q = and_parts (list_all (is_drawn_in context) middle) (list_all (is_drawn_in context) back)
    (sym (list_all-append (is_drawn_in context) middle back) ∙ p.1) in
    let own : 0 + a ≡ a = omega arith in
    let split : letters_from a (middle ++ back) ≡ letters_from a middle ++ letters_from b back =
    letters-append a middle back in
    let whole : letters_from 0 word ≡ letters_from 0 front ++ (letters_from a middle ++ letters_from b back) =
    ap (letters_from 0) is ∙ (letters-append 0 front (middle ++ back)
    ∙ (ap (λ n. letters_from 0 front ++ letters_from n (middle ++ back)) own
    ∙ ap (λ gs. letters_from 0 front ++ gs) split)) in
    ap normal whole
    ∙ law context level (letters_from 0 front) (letters_from a middle) (letters_from b back) alone
    (subst (MayCut context level (letters_from 0 front)) split
    (may-cut context short level 0 a front (middle ++ back) own p.0 p.1))
    (may-cut context short level a b middle back refl q.0 q.1)

-- ---- words in the form that is wanted

each-alone : (n : ℕ) (word : List ℕ) → mark_clusters (letters_from n word) ≡ map (λ g. g ∷ []) (letters_from n word)
each-alone n [] = refl
each-alone n (c ∷ []) = refl
each-alone n (c ∷ d ∷ cs) =
    let g = letter n c in
    let h = letter (suc n) d in
    let rest = map (λ (x : Glyph). x ∷ []) (letters_from (suc (suc n)) cs) in
    ap (with_first is_mark_glyph g) (each-alone (suc n) (d ∷ cs))
    ∙ ap (λ b. cond b ((g ∷ h ∷ []) ∷ rest) ((g ∷ []) ∷ (h ∷ []) ∷ rest)) (letter-no-mark (suc n) d)

one-stays : (context : Context) → is_short_alone context.mode ≡ true → (n c : ℕ) → has_glyph context c ≡ true
    → cluster_stays context (letter n c ∷ []) ≡ true
one-stays context short n c has = rw (short, has) refl

all-stay : (context : Context) → is_short_alone context.mode ≡ true → (n : ℕ) (word : List ℕ)
    → list_all (is_drawn_in context) word ≡ true
    → list_all (cluster_stays context) (map (λ g. g ∷ []) (letters_from n word)) ≡ true
all-stay context short n [] drawn = refl
all-stay context short n (c ∷ cs) drawn =
    let p = and_parts (is_drawn_in context c) (list_all (is_drawn_in context) cs) drawn in
    let q = and_parts (nat_le 0xAC00 c && nat_le c 0xD7A3) (has_glyph context c) p.0 in
    and_from (cluster_stays context (letter n c ∷ []))
    (list_all (cluster_stays context) (map (λ g. g ∷ []) (letters_from (suc n) cs)))
    (one-stays context short n c q.1) (all-stay context short (suc n) cs p.1)

no-selector : (context : Context) (n : ℕ) (word : List ℕ) → list_all (is_drawn_in context) word ≡ true
    → list_any is_selector_glyph (letters_from n word) ≡ false
no-selector context n [] drawn = refl
no-selector context n (c ∷ cs) drawn =
    let p = and_parts (is_drawn_in context c) (list_all (is_drawn_in context) cs) drawn in
    let q = and_parts (nat_le 0xAC00 c && nat_le c 0xD7A3) (has_glyph context c) p.0 in
    let high = (and_parts (nat_le 0xAC00 c) (nat_le c 0xD7A3) q.0).1 in
    let first : nat_le 0xFE00 c ≡ false = grind (arith, nat_tests) in
    let second : nat_le 0xE0100 c ≡ false = grind (arith, nat_tests) in
    let rest = list_any is_selector_glyph (letters_from (suc n) cs) in
    ap (λ b. ((b && nat_le c 0xFE0F) || (nat_le 0xE0100 c && nat_le c 0xE01EF)) || rest) first
    ∙ (ap (λ b. (b && nat_le c 0xE01EF) || rest) second ∙ no-selector context (suc n) cs p.1)

in-order : (n : ℕ) (word : List ℕ) → in_canonical_order (classes (letters_from n word)) ≡ true
in-order n [] = refl
in-order n (c ∷ []) = refl
in-order n (c ∷ d ∷ cs) =
    ap (λ k. (eqb k 0 || nat_le (class_of (letter n c)) k) && in_canonical_order (classes (letters_from (suc n) (d ∷ cs))))
    (letter-class (suc n) d)
    ∙ in-order (suc n) (d ∷ cs)

pub word-stays : TextsInFormStay → (context : Context) → LeavesMarks context → is_short_alone context.mode ≡ true
    → composes context.mode ≡ false → (level : BufferClusterLevel) (word : List ℕ)
    → list_all (is_drawn_in context) word ≡ true → normalized context Always level (letters_from 0 word)
    ≡ joiners_shown (map (with_own_glyph context) (letters_from 0 word))
word-stays law context leaves short plain level word drawn =
    let gs = letters_from 0 word in
    let together : stays_together context gs ≡ true =
    and_from (not (list_any is_selector_glyph gs)) (list_all (cluster_stays context) (mark_clusters gs))
    (ap not (no-selector context 0 word drawn))
    (ap (list_all (cluster_stays context)) (each-alone 0 word) ∙ all-stay context short 0 word drawn) in
    law context Always level gs leaves together (in-order 0 word)
    (λ composing. absurd (false≢true (sym plain ∙ composing)))

-- what the code makes of a word in a buffer
pub normal-word : (context : Context) (room : ℕ) (word : List ℕ) (old new : Buffer) → old ≡ word_in room word
    → new ≡ record old { glyphs = normalized context Always old.level old.glyphs }
    → new.glyphs ≡ normalized context Always new.level (letters_from 0 word)
normal-word context room word old new begun done =
    let normal = normalized context Always in
    let level : old.level ≡ new.level = sym (ap (λ (b : Buffer). b.level) done) in
    ap (λ (b : Buffer). b.glyphs) done
    ∙ (ap (λ l. normal l old.glyphs) level ∙ ap (λ (b : Buffer). normal new.level b.glyphs) begun)
