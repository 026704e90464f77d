-- A text from its end: its last part, with the word and the tiles in it, and what stands before that part.
use Rattle.std.proofs.Common.{◌≡◌, inl, inr, ℕ, ◌+◌, ◌<◌, ◌≤◌, Bool, true, false, not, List, [], ◌∷◌, ◌++◌, length, take, drop, refl, sym, ap, ◌∙◌, arith, length-append}
use Rattle.std.specs.List.{suffix_len, list_all, take-map}
use Rattle.std.proofs.lemmas.List.{append_assoc, append-nil, length_push, length-map}
use Rattle.std.proofs.lemmas.List.Folds.{list_all-append}
use Rattle.std.proofs.Math.Seq.{take-append_seam, drop-append_seam}
use Rattle.std.proofs.lemmas.Bool.{and_from, not-true, and_parts}
use Rattle.shapers_buffer.specs.Lists.{last_stretch, before_last_stretch}
use Rattle.shapers_buffer.proofs.ListLaws.{suffix_len_yes, suffix_len_no, suffix_len_stop, from_end, last_of}
use Rattle.shapers_buffer.proofs.MappedLists.{suffix_len-map}
use Rattle.shapers_stretch.specs.Cells.{Cell, glyphs_of, before_tiles, before_word, cut_here, in_word, is_tile, parts_of_text, sequence_ends, tiles_of, word_of}
use Rattle.shapers_stretch.proofs.Parts.{parts-append}

-- a list as what stands before its last sequence, and that sequence
pub record RunSplit {X : Type 0} (test : X → Bool) (xs : List X) : Type 0 where
  pub front : List X
  pub sequence : List X
  pub whole : xs ≡ front ++ sequence
  pub stops : suffix_len test front ≡ 0
  pub passes : list_all test sequence ≡ true

pub run_split : {X : Type 0} (test : X → Bool) (xs : List X) → RunSplit test xs
run_split {X} test xs =
    let one : (xs : List X) (x : X) (b : Bool) → test x ≡ b → RunSplit test xs → RunSplit test (xs ++ x ∷ []) =
    λ xs x b. elim b as (λ b. test x ≡ b → RunSplit test xs → RunSplit test (xs ++ x ∷ [])) [
      | true ↦ search (arith, append_assoc, list_all-append)
      | false ↦ λ h r. record {
        front = xs ++ x ∷ [];
        sequence =
            [];
        whole = sym (append-nil (xs ++ x ∷ []));
        stops = suffix_len_no test xs x h;
        passes = refl;
      }
    ] in
    from_end (RunSplit test) (record { front = []; sequence = []; whole = refl; stops = refl; passes = refl })
    (λ xs x r. one xs x (test x) refl r) xs

-- a list that ends with no sequence ends with an element that fails, or is empty
last_fails : {X : Type 0} (test : X → Bool) (xs : List X) (x : X) → suffix_len test (xs ++ x ∷ []) ≡ 0 → test x ≡ false
last_fails test xs x h =
    elim (test x) as (λ b. test x ≡ b → b ≡ false) [
      | true ↦ λ e. absurd (omega (arith, suffix_len_yes test xs x e))
      | false ↦ λ e. refl
    ] refl

all_before : {X : Type 0} (test : X → Bool) (xs : List X) (x : X) → list_all test (xs ++ x ∷ []) ≡ true
    → (list_all test xs ≡ true) × (test x ≡ true)
all_before test xs x h =
    let both = and_parts (list_all test xs) (list_all test (x ∷ [])) (search (arith, list_all-append)) in
    search arith

all_counts : {X : Type 0} (test : X → Bool) (sequence : List X) → list_all test sequence ≡ true → suffix_len test sequence ≡ length sequence
all_counts {X} test sequence =
    let P : List X → Type 0 = λ sequence. list_all test sequence ≡ true → suffix_len test sequence ≡ length sequence in
    from_end P (λ h. refl)
    (λ xs x f h. let both = all_before test xs x h in search (arith, suffix_len_yes, length_push)) sequence

-- so a sequence behind such a list is its last sequence
pub counts_after : {X : Type 0} (test : X → Bool) (front sequence : List X) → suffix_len test front ≡ 0
    → list_all test sequence ≡ true → suffix_len test (front ++ sequence) ≡ length sequence
counts_after test front sequence stops passes =
    elim (last_of front) [
      | inl none ↦ search (arith, all_counts)
      | inr p ↦
          search (arith, append_assoc, suffix_len_stop, last_fails, all_counts)
    ]

pub last_run_after : {X : Type 0} (test : X → Bool) (front sequence : List X) → suffix_len test front ≡ 0
    → list_all test sequence ≡ true → (last_stretch test (front ++ sequence) ≡ sequence) × (before_last_stretch test (front ++ sequence) ≡ front)
last_run_after test front sequence stops passes =
    search (
      arith,
      length-append front sequence,
      counts_after test front sequence stops passes,
      drop-append_seam front sequence,
      take-append_seam front sequence,
    )

-- what stands before doesn't matter where a list ends with no sequence
pub stops_behind : {X : Type 0} (test : X → Bool) (front back : List X) → suffix_len test (front ++ back) ≡ 0
    → suffix_len test back ≡ 0
stops_behind test front back h =
    elim (last_of back) [
      | inl none ↦ ap (suffix_len test) none
      | inr p ↦
          let fails = last_fails test (front ++ p.front) p.last (ap (suffix_len test) (append_assoc front p.front
          (p.last ∷ []) ∙ ap (λ b. front ++ b) (sym p.parts)) ∙ h) in
          cc (suffix_len_no test p.front p.last fails)
    ]

-- what passes one test everywhere passes another everywhere
all_weaker : {X : Type 0} (test other : X → Bool) → ((x : X) → test x ≡ true → other x ≡ true) → (xs : List X)
    → list_all test xs ≡ true → list_all other xs ≡ true
all_weaker test other f [] h = refl
all_weaker test other f (x ∷ xs) h =
    let both = and_parts (test x) (list_all test xs) h in
    and_from _ _ (f x both.0) (all_weaker test other f xs both.1)

abbrev tile : Cell → Bool
tile c = is_tile c.0

abbrev other : Cell → Bool
other c = not (is_tile c.0)

abbrev wordly : Cell → Bool
wordly c = in_word c.0

uncut : (x : Cell) (xs : List Cell) → cut_here sequence_ends x xs ≡ false → parts_of_text xs ≡ xs ∷ []
    → parts_of_text (x ∷ xs) ≡ (x ∷ xs) ∷ []
uncut x xs here rest = cc

uncut_other : (x : Cell) (xs : List Cell) → other x ≡ true → cut_here sequence_ends x xs ≡ false
uncut_other x [] h = refl
uncut_other x (y ∷ xs) h = search arith

-- other cells and then tiles are one part
tiles_alone : (x : Cell) (xs : List Cell) → list_all tile (x ∷ xs) ≡ true → parts_of_text (x ∷ xs) ≡ (x ∷ xs) ∷ []
tiles_alone x [] h = refl
tiles_alone x (y ∷ xs) h =
    search (arith, tiles_alone y xs (and_parts (tile x) (list_all tile (y ∷ xs)) h).1)

pub one_part : (x : Cell) (others tiles : List Cell) → list_all other (x ∷ others) ≡ true → list_all tile tiles ≡ true
    → parts_of_text ((x ∷ others) ++ tiles) ≡ ((x ∷ others) ++ tiles) ∷ []
one_part x [] [] h p = refl
one_part x [] (t ∷ tiles) h p =
    search (arith, tiles_alone)
one_part x (y ∷ others) tiles h p =
    search (arith, one_part y others tiles (and_parts (other x) (list_all other (y ∷ others)) h).1 p)

-- The last part of a text that isn't empty, cut into what stands before its word, its word and its tiles.
pub record LastPartOf (cs : List Cell) : Type 0 where
  pub front : List Cell
  pub before : List Cell
  pub word : List Cell
  pub tiles : List Cell
  pub whole : cs ≡ front ++ ((before ++ word) ++ tiles)
  pub some : 0 < length ((before ++ word) ++ tiles)
  pub parted : parts_of_text cs ≡ parts_of_text front ++ ((before ++ word) ++ tiles) ∷ []
  pub count_tiles : suffix_len tile cs ≡ length tiles
  pub count_word : suffix_len wordly (front ++ (before ++ word)) ≡ length word
  pub count_before : suffix_len other (front ++ before) ≡ length before
  pub tiles_is : tiles_of ((before ++ word) ++ tiles) ≡ tiles
  pub before_tiles_is : before_tiles ((before ++ word) ++ tiles) ≡ before ++ word
  pub word_is : word_of ((before ++ word) ++ tiles) ≡ word
  pub before_is : before_word ((before ++ word) ++ tiles) ≡ before

-- what the three sequences from the end are
record Runs (cs : List Cell) : Type 0 where
  tiles : RunSplit tile cs
  word : RunSplit wordly tiles.front
  before : RunSplit other word.front

runs_of : (cs : List Cell) → Runs cs
runs_of cs =
    let tiles = run_split tile cs in
    let word = run_split wordly tiles.front in
    record { tiles = tiles; word = word; before = run_split other word.front }

-- a list that ends with no sequence of others ends with a tile, or is empty
ends_with_tile : (front : List Cell) (a : Cell) → suffix_len other (front ++ a ∷ []) ≡ 0 → tile a ≡ true
ends_with_tile = search (arith, last_fails)

pub as_one_part : (others tiles : List Cell) → list_all other others ≡ true → list_all tile tiles ≡ true
    → 0 < length (others ++ tiles) → parts_of_text (others ++ tiles) ≡ (others ++ tiles) ∷ []
as_one_part [] [] h p some = absurd (omega arith)
as_one_part [] (t ∷ tiles) h p some = tiles_alone t tiles p
as_one_part (x ∷ others) tiles h p some = one_part x others tiles h p

behind_tile : (front : List Cell) (a : Cell) (others tiles : List Cell) → tile a ≡ true
    → suffix_len tile ((front ++ a ∷ []) ++ others) ≡ 0 → list_all other others ≡ true → list_all tile tiles ≡ true
    → parts_of_text ((front ++ a ∷ []) ++ (others ++ tiles)) ≡ parts_of_text (front ++ a ∷ []) ++ (others ++ tiles) ∷ []
behind_tile front a [] =
    search (arith, last_fails, append-nil)
behind_tile front a (x ∷ others) =
    search (arith, parts-append, one_part)

parted_at : (front others tiles : List Cell) → suffix_len other front ≡ 0 → suffix_len tile (front ++ others) ≡ 0
    → list_all other others ≡ true → list_all tile tiles ≡ true → 0 < length (others ++ tiles)
    → parts_of_text (front ++ (others ++ tiles)) ≡ parts_of_text front ++ (others ++ tiles) ∷ []
parted_at front others tiles s t h p some =
    elim (last_of front) [
      | inl none ↦
          search (arith, as_one_part)
      | inr q ↦
          search (arith, behind_tile, ends_with_tile)
    ]

ends_apart : (front : List Cell) → 0 < length front → suffix_len other front ≡ 0 → suffix_len tile front ≡ 0 → ⊥
ends_apart front some s t =
    elim (last_of front) [
      | inl none ↦ search arith
      | inr p ↦
          search (arith, last_fails)
    ]

some_at_end : (front others tiles : List Cell) → 0 < length (front ++ (others ++ tiles)) → suffix_len other front ≡ 0
    → suffix_len tile (front ++ others) ≡ 0 → 0 < length (others ++ tiles)
some_at_end front [] [] =
    search (arith, ends_apart, append-nil)
some_at_end front _ _ = omega arith

pub last_part_of : (cs : List Cell) → 0 < length cs → LastPartOf cs
last_part_of cs some =
    let r = runs_of cs in
    let front = r.before.front in
    let before = r.before.sequence in
    let word = r.word.sequence in
    let tiles = r.tiles.sequence in
    let upto = r.word.whole ∙ ap (λ f. f ++ word) r.before.whole ∙ append_assoc front before word in
    let whole = r.tiles.whole ∙ ap (λ f. f ++ tiles) upto ∙ append_assoc front (before ++ word) tiles in
    let others = list_all-append other before word
    ∙ and_from _ _ r.before.passes (all_weaker wordly other (search arith) word r.word.passes) in
    let no_tile = sym (ap (suffix_len tile) upto) ∙ r.tiles.stops in
    let some_part : 0 < length ((before ++ word) ++ tiles) = some_at_end front (before ++ word) tiles (omega (
      arith,
      ap length whole,
    )) r.before.stops no_tile in
    let is_tiles = last_run_after tile (before ++ word) tiles (
    elim (last_of (before ++ word)) [
      | inl none ↦ ap (suffix_len tile) none
      | inr p ↦ let fails = (all_before (λ x.
          not (tile x)) p.front p.last (ap (list_all (λ x. not (tile x))) (sym p.parts) ∙ others)).1 in
          cc (suffix_len_no tile p.front p.last (not-true _ fails))
    ]) r.tiles.passes
    in
    let is_word = last_run_after wordly before word (stops_behind wordly front before
    (sym (ap (suffix_len wordly) r.before.whole) ∙ r.word.stops)) r.word.passes in
    search (
      arith,
      r.tiles.whole,
      r.word.whole,
      r.before.whole,
      append_assoc front before word,
      append_assoc front (before ++ word) tiles,
      some_at_end front (before ++ word) tiles (omega (arith, ap length whole)) r.before.stops no_tile,
      parted_at front (before ++ word) tiles r.before.stops no_tile others r.tiles.passes some_part,
      counts_after tile r.tiles.front tiles r.tiles.stops r.tiles.passes,
      counts_after wordly r.word.front word r.word.stops r.word.passes,
      counts_after other front before r.before.stops r.before.passes,
      is_tiles.0,
      is_tiles.1,
      is_word.0,
      is_word.1,
    )

pub cut_at : {X : Type 0} (xs a b : List X) (n : ℕ) → xs ≡ a ++ b → n ≡ length a → (take n xs ≡ a) × (drop n xs ≡ b)
cut_at = search (arith, take-append_seam, drop-append_seam)

-- the same by places: where the last part begins, and in it the word and the tiles
pub record LastPartAt (cs : List Cell) (s w t : ℕ) : Type 0 where
  pub less : s < length cs
  pub before_fits : s ≤ w
  pub word_fits : w ≤ t
  pub tiles_fit : t ≤ length cs
  pub parted : parts_of_text cs ≡ parts_of_text (take s cs) ++ drop s cs ∷ []
  pub tiles_is : tiles_of (drop s cs) ≡ drop t cs
  pub word_is : word_of (drop s cs) ≡ drop w (take t cs)
  pub before_is : before_word (drop s cs) ≡ drop s (take w cs)

pub last_part_at : (cs : List Cell) (s w t : ℕ) → 0 < length cs → t + suffix_len is_tile (glyphs_of cs)
    ≡ length (glyphs_of cs) → w + suffix_len in_word (take t (glyphs_of cs)) ≡ t
    → s + suffix_len (λ g. not (is_tile g)) (take w (glyphs_of cs)) ≡ w → LastPartAt cs s w t
last_part_at cs s w t some ends word start =
    let p = last_part_of cs some in
    let part = (p.before ++ p.word) ++ p.tiles in
    let many : length (glyphs_of cs) ≡ length cs = length-map cs (λ c. c.0) in
    let all_t : length cs ≡ length (p.front ++ (p.before ++ p.word)) + length p.tiles =
    search (arith, length-append) in
    let tiles_count : suffix_len is_tile (glyphs_of cs) ≡ length p.tiles = search suffix_len-map in
    let cut_t = cut_at cs (p.front ++ (p.before ++ p.word)) p.tiles t (search (arith, append_assoc)) (omega arith) in
    let word_count : suffix_len in_word (take t (glyphs_of cs)) ≡ length p.word =
    ap (suffix_len in_word) (take-map (λ c. c.0) t cs) ∙ suffix_len-map in_word (λ c. c.0) (take t cs)
    ∙ ap (suffix_len wordly) cut_t.0 ∙ p.count_word in
    let pre =
    sym (append_assoc p.front p.before p.word) in
    let all_w : length (p.front ++ (p.before ++ p.word)) ≡ length (p.front ++ p.before) + length p.word =
    ap length pre ∙ length-append (p.front ++ p.before) p.word in
    let at_w : w ≡ length (p.front ++ p.before) = omega arith in
    let cut_w = cut_at cs (p.front ++ p.before) (p.word ++ p.tiles) w (search (arith, append_assoc)) at_w in
    let start_count : suffix_len (λ g. not (is_tile g)) (take w (glyphs_of cs)) ≡ length p.before =
    ap (suffix_len (λ g. not (is_tile g))) (take-map (λ c. c.0) w cs)
    ∙ suffix_len-map (λ g. not (is_tile g)) (λ c. c.0) (take w cs) ∙ ap (suffix_len other) cut_w.0
    ∙ p.count_before in
    let all_s : length (p.front ++ p.before) ≡ length p.front + length p.before = length-append p.front p.before in
    let at_s : s ≡ length p.front = omega arith in
    let cut_s = cut_at cs p.front part s p.whole at_s in
    let all : length cs ≡ length p.front + length part = ap length p.whole ∙ length-append p.front part in
    record {
      less = omega arith;
      before_fits = omega arith;
      word_fits = omega arith;
      tiles_fit = omega arith;
      parted = p.parted ∙ ap (λ f. parts_of_text f ++ part ∷ []) (sym cut_s.0)
          ∙ ap (λ q. parts_of_text (take s cs) ++ q ∷ []) (sym cut_s.1);
      tiles_is = ap tiles_of cut_s.1 ∙ p.tiles_is ∙ sym cut_t.1;
      word_is = ap word_of cut_s.1 ∙ p.word_is ∙ sym
          (cut_at (take t cs) (p.front ++ p.before) p.word w (cut_t.0 ∙ pre) at_w).1;
      before_is = ap before_word cut_s.1 ∙ p.before_is ∙ sym (cut_at (take w cs) p.front p.before s cut_w.0 at_s).1;
    }
