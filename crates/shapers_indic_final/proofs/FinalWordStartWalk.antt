-- The pass that opens syllable by syllable: what it still has to do.
use Rattle.shapers_clusters.proofs.FlagCalls.{flags-or}
use Rattle.std.proofs.Common.{inl, inr, ◌==◌, ◌||◌, Bool, true, false, ℕ, suc, ◌+◌, ◌-◌, ◌%◌, ◌<◌, ◌≤◌, ◌≡◌, List, [], ◌∷◌, ◌++◌, map, length, take, drop, get_or, None, refl, sym, take-append-drop, ◌∙◌, ap, arith, append-nil, append_assoc, length-append, length-take-le, length-drop}
use Rattle.std.specs.List.{prefix_len}
use Rattle.std.proofs.lemmas.Bool.{eqb-true}
use Rattle.std.proofs.Math.Nat.{eq-or-lt_of_le}
use Rattle.std.proofs.lemmas.List.Sums.{prefix_len_passes, prefix_len_stops}
use Rattle.std.proofs.lemmas.List.{get_or-drop, get_or-map}
use Rattle.std.proofs.lemmas.List.{drop-drop, drop-map, drop_all, drop_at, drop_more, length-map, map-append, take-map, take_all, take_at}
use Rattle.std.proofs.Math.Seq.{take-add}
use Rattle.shapers_buffer.specs.Glyphs.{Glyph, Glyphs}
use Rattle.shapers_buffer.specs.Buffer.{Buffer}
use Rattle.shapers_buffer.specs.Glyph.{default_glyph, order_view, plain}
use Rattle.shapers_buffer.specs.Syllables.{first_syllable_len, has_byte, syllables}
use Rattle.shapers_indic_final.specs.FinalWordStart.{WordsStarted, before_place, bound_at, bound_from, is_bound, last_or, opened, starts_syllable, with_init, with_inits}
use Rattle.shapers_indic_final.proofs.FinalText.{last_or-append}
use Rattle.shapers_indic_final.proofs.FinalWordStartViews.{bound-long, bound-plain, bound-view, bound-word, carried-bound, carried-bound_from, general, general-view, map-opened, init-long, init-plain, init-word, length-init, same_word}
use Rattle.shapers_syllabic.specs.Reordering.{carried}
use Rattle.shapers_syllabic.proofs.LinkedSyllables.{next_syllable}

-- What a pass at place start has still to do on the buffer as it is now, if the text was old at first: the glyphs
-- from start on are as they were; and where these are opened, the whole is opened.
pub record ToOpen (bits : ℕ) (old now : Buffer) (start : ℕ) : Type 0 where
  pub others : now ≡ record old { glyphs = now.glyphs }
  pub inside : start ≤ length now.glyphs
  pub words : map general now.glyphs ≡ map general old.glyphs
  pub behind : drop start (order_view now.glyphs) ≡ drop start (order_view old.glyphs)
  pub order : take start (order_view now.glyphs) ++ with_inits bits (before_place start (order_view old.glyphs))
      (syllables (drop start (order_view old.glyphs))) ≡ with_inits bits None (syllables (order_view old.glyphs))
  pub flags : map carried (bound_from start (before_place start (order_view old.glyphs))
      (syllables (drop start (order_view old.glyphs))) now.glyphs)
      ≡ map carried (bound_from 0 None (syllables (order_view old.glyphs)) old.glyphs)

first_some : (gs : Glyphs) → 0 < length gs → 0 < first_syllable_len gs
first_some [] some = absurd (omega arith)
first_some (g ∷ gs) some = omega arith

-- one syllable more
pub record OpenedNext (bits : ℕ) (old now new : Buffer) (end : ℕ) : Type 0 where
  pub same_length : length new.glyphs ≡ length now.glyphs
  pub to : ToOpen bits old new end

pub opened_next : (bits : ℕ) (old now new : Buffer) (start end : ℕ) → bits % 8 ≡ 0 → ToOpen bits old now start
    → start < length now.glyphs → end ≡ start + first_syllable_len (drop start now.glyphs)
    → new ≡ record now { glyphs = opened bits start now.glyphs } → OpenedNext bits old now new end
opened_next bits old now new start end off to some end_is opens_it =
    let gs = now.glyphs in
    let vs = order_view gs in
    let xs = order_view old.glyphs in
    let next = next_syllable gs start end some end_is in
    let rest = drop start vs in
    let k = next.len in
    let syl = take k rest in
    let back = drop k rest in
    let front = take start vs in
    let vn : length vs ≡ length gs = length-map gs plain in
    let rn : length rest ≡ length gs - start = omega (arith, length-drop start vs) in
    let fn : length front ≡ start = length-take-le start vs (omega arith) in
    let end_at = next.end_is in
    let one = first_some (drop start gs) (omega (arith, length-drop start gs)) in
    let syl_some : 0 < length syl = omega arith in
    let here = sym (drop-map plain start gs) ∙ (sym (take-append-drop k rest)) in
    let bn = before_place start gs in
    let bx = before_place start xs in
    let word = same_word start gs xs (to.words ∙ sym (general-view old.glyphs)) in
    let bound : is_bound bn (drop start gs) ≡ is_bound bx syl = sym (bound-plain bn (drop start gs))
    ∙ ap (is_bound bn) here ∙ bound-long bn syl back syl_some ∙ bound-word bn bx syl word in
    let B = is_bound bx syl in
    let inited = take start gs ++ with_init bits bn (drop start gs) in
    let glyphs = ap (λ (b : Buffer). b.glyphs) opens_it ∙ ap (λ c. bound_at start c inited) bound in
    let opening = with_init bits bx syl in
    let view = ap order_view glyphs ∙ bound-view start B inited
    ∙ map-append plain (take start gs) (with_init bits bn (drop start gs))
    ∙ ap (λ ys. ys ++ order_view (with_init bits bn (drop start gs))) (sym (take-map plain start gs))
    ∙ ap (λ ys. front ++ ys) (init-plain bits off bn (drop start gs) ∙ ap (with_init bits bn) here
    ∙ init-long bits bn syl back syl_some ∙ ap (λ ys. ys ++ back) (init-word bits bn bx syl word))
    ∙ sym (append_assoc front opening back) in
    let both : length (front ++ opening) ≡ end =
    length-append front opening ∙ omega (arith, length-init bits bx syl) in
    let same : length new.glyphs ≡ length gs = sym (length-map new.glyphs plain) ∙ ap length view
    ∙ length-append (front ++ opening) back ∙ omega (arith, length-drop k rest) in
    let old_rest = sym to.behind in
    let old_back = ap (λ j. drop j xs) (end_at ∙ omega arith) ∙ sym (drop-drop k start xs) ∙ ap (drop k) old_rest in
    let before = ap (last_or None) (ap (λ j. take j xs) end_at
    ∙ take-add start k xs ∙ ap (λ ys. take start xs ++ take k ys) old_rest) ∙ last_or-append None (take start xs) syl in
    let cut = ap syllables old_rest ∙ next.cut in
    let F : ℕ → List Glyphs → Glyphs → Glyphs =
    λ j syls ys. map carried (bound_from j (last_or bx syl) syls ys) in
    record {
      same_length = same;
      to = record {
        others = opens_it ∙ ap (λ (b : Buffer). record b { glyphs = opened bits start gs }) to.others
            ∙ sym (ap (λ (zs : Glyphs). (record old { glyphs = zs })) (ap (λ (b : Buffer). b.glyphs) opens_it));
        inside = omega arith;
        words = ap (map general) (ap (λ (b : Buffer). b.glyphs) opens_it)
            ∙ map-opened general bits start (λ g. refl) (λ g. refl) gs ∙ to.words;
        behind = ap (drop end) view ∙ drop_at (front ++ opening) back end both ∙ sym old_back;
        order = ap (λ ys. ys ++ with_inits bits (before_place end xs) (syllables (drop end xs)))
            (ap (take end) view ∙ take_at (front ++ opening) back end both)
            ∙ ap (λ ys. (front ++ opening) ++ with_inits bits (before_place end xs) (syllables ys)) old_back
            ∙ ap (λ b. (front ++ opening) ++ with_inits bits b (syllables back)) before
            ∙ append_assoc front opening (with_inits bits (last_or bx syl) (syllables back))
            ∙ sym (ap (λ ps. front ++ with_inits bits bx ps) cut) ∙ to.order;
        flags = ap (λ ys. map carried (bound_from end (before_place end xs) (syllables ys) new.glyphs)) old_back
            ∙ ap (λ b. map carried (bound_from end b (syllables back) new.glyphs)) before
            ∙ carried-bound_from end (last_or bx syl) (syllables back) new.glyphs (bound_at start B gs)
            (ap (map carried) glyphs ∙ carried-bound start B inited gs (map-append carried (take start gs) (with_init
            bits bn (drop start gs)) ∙ ap (λ ys. map carried (take start gs) ++ ys) (search (arith, flags-or)) ∙ sym (map-append carried (take start gs) (drop start gs)) ∙ ap (map carried)
            (take-append-drop start gs))) ∙ sym (ap (λ j. F j (syllables back) (bound_at start B gs)) (omega arith))
            ∙ sym (ap (λ ps. map carried (bound_from start bx ps gs)) cut) ∙ to.flags;
      };
    }

-- The pass at a place: the text is opened up to the next start of a syllable.
pub record Opening (bits : ℕ) (old now : Buffer) (place : ℕ) : Type 0 where
  pub border : ℕ
  pub low : place ≤ border
  pub to : ToOpen bits old now border
  pub none_before : (k : ℕ) → place ≤ k → k < border → starts_syllable k now.glyphs ≡ false
  pub starts : border < length now.glyphs → starts_syllable border now.glyphs ≡ true

byte : Glyph → ℕ
byte g = g.syllable

-- the bytes of a syllable, and the one behind it
run_byte : (gs : Glyphs) (i j : ℕ) → i < length gs → i ≤ j → j < i + first_syllable_len (drop i gs)
    → (get_or gs j default_glyph).syllable ≡ (get_or gs i default_glyph).syllable
run_byte gs i j l low high =
    let x = get_or gs i default_glyph in
    let rest = drop (i + 1) gs in
    let first : first_syllable_len (drop i gs) ≡ suc (prefix_len (has_byte x.syllable) rest) =
    search (arith, drop_more) in
    elim (eq-or-lt_of_le {n = i} {m = j} low) [
      | inl is ↦ cc
      | inr more ↦ (
          let m = j - (i + 1) in
          search (
            arith,
            get_or-drop (i + 1) gs m default_glyph,
            eqb-true (get_or rest m default_glyph).syllable x.syllable
                (prefix_len_passes (has_byte x.syllable) rest m default_glyph (omega arith)),
          ))
    ]

behind_first : (k : ℕ) (b : Bool) → 0 < k → (k == 0 || b) ≡ b
behind_first = search arith

starts_not : (k : ℕ) (gs : Glyphs) → 0 < k
    → (get_or gs k default_glyph).syllable ≡ (get_or gs (k - 1) default_glyph).syllable → starts_syllable k gs ≡ false
starts_not = search arith

starts_behind : (gs : Glyphs) (i e : ℕ) → i < e → e ≡ i + first_syllable_len (drop i gs) → e < length gs
    → starts_syllable e gs ≡ true
starts_behind gs i e l is more =
    let x = get_or gs i default_glyph in
    let rest = drop (i + 1) gs in
    let first : first_syllable_len (drop i gs) ≡ suc (prefix_len (has_byte x.syllable) rest) =
    search (arith, drop_more) in
    let other = prefix_len_stops (has_byte x.syllable) rest default_glyph (omega (arith, length-drop (i + 1) gs)) in
    search (arith, run_byte gs i (e - 1) (omega arith) (omega arith) (omega arith), get_or-drop (i + 1) gs (prefix_len (has_byte x.syllable) rest) default_glyph)

-- opening keeps where syllables start
starts-same : (k : ℕ) (gs hs : Glyphs) → map byte hs ≡ map byte gs → k < length gs
    → length hs ≡ length gs → starts_syllable k hs ≡ starts_syllable k gs
unfolding byte
starts-same k gs hs same l long =
    let at : (j : ℕ) → j < length gs → (get_or hs j default_glyph).syllable ≡ (get_or gs j default_glyph).syllable = λ
    j less. sym (get_or-map byte hs j default_glyph 0 (omega arith)) ∙ ap (λ bs. get_or bs j 0) same
    ∙ get_or-map byte gs j default_glyph 0 less in
    cc (at k l, at (k - 1) (omega arith))

-- a place where none starts, and one where one does
pub opening_starts : (bits : ℕ) (old now new : Buffer) (i : ℕ) → bits % 8 ≡ 0 → i < length now.glyphs
    → starts_syllable i now.glyphs ≡ true → new ≡ record now { glyphs = opened bits i now.glyphs }
    → Opening bits old now i → Opening bits old new (i + 1)
unfolding byte
opening_starts bits old now new i off l here opens_it at =
    let gs = now.glyphs in
    let border = at.border in
    let low = at.low in
    let end = i + first_syllable_len (drop i gs) in
    let one = first_some (drop i gs) (omega (arith, length-drop i gs)) in
    let next = opened_next bits old now new i end off (search arith) l refl opens_it in
    let same : map byte new.glyphs ≡ map byte gs = search (arith, map-opened) in
    let long = next.same_length in
    record {
      border = end;
      low = omega arith;
      to = next.to;
      none_before = λ k from up. starts-same k gs new.glyphs same (omega arith) long
          ∙ starts_not k gs (omega arith) (run_byte gs i k l (omega arith) up
          ∙ sym (run_byte gs i (k - 1) l (omega arith) (omega arith)));
      starts = λ more. starts-same end gs new.glyphs same (omega arith) long
          ∙ starts_behind gs i end (omega arith) refl (omega arith);
    }

-- at the end all are open
pub all_opened : (bits : ℕ) (old now : Buffer) → ToOpen bits old now (length now.glyphs) → WordsStarted bits old now
all_opened = search (arith, append-nil, take_all, length-map, drop_all)

pub as_long : (bits : ℕ) (old now : Buffer) (i : ℕ) → Opening bits old now i → length now.glyphs ≡ length old.glyphs
as_long = search (arith, length-map)

pub opened_whole : (bits : ℕ) (old now : Buffer) (i : ℕ) → length old.glyphs ≤ i → Opening bits old now i
    → WordsStarted bits old now
opened_whole bits old now i past at =
    let long = as_long bits old now i at in
    let is : at.border ≡ length now.glyphs = omega arith in
    search (arith, all_opened)
