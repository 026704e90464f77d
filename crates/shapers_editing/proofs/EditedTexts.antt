-- What an edit leaves, as parts of both texts.
use Rattle.std.proofs.Common.{◌≡◌, ℕ, ◌+◌, ◌-◌, ◌≤◌, ◌==◌, Bool, true, List, ◌++◌, drop, length, reverse, take, sym, ap, subst, ◌∙◌, arith, append_assoc, length-drop}
use Rattle.std.specs.Prelude.{nat_lt}
use Rattle.std.specs.List.{list_all}
use Rattle.std.proofs.Math.Seq.{drop-append-add}
use Rattle.std.proofs.lemmas.Bool.{and_from, and_parts, eq-eqb, eqb-true}
use Rattle.std.proofs.lemmas.List.{drop-drop, length-append, length-take-le, take-append-drop, take-append-le, take-take}
use Rattle.std.proofs.lemmas.List.Folds.{list_all-append}
use Rattle.std.proofs.lemmas.List.Sums.{sum_by-append}
use Rattle.shapers_buffer.specs.Glyphs.{Glyphs}
use Rattle.shapers_buffer.specs.declared.buffer.syllables.Span.{Span}
use Rattle.shapers_buffer.specs.Syllables.{spans_cover}
use Rattle.shapers_editing.specs.Affected.{glyphs_in, shared, shared_back}
use Rattle.shapers_editing.specs.EditedSyllables.{TextPart}
use Rattle.shapers_editing.specs.EditedTexts.{UnaffectedIsShared, with_edit}
use Rattle.shapers_editing.specs.declared.edits.Edit.{Edit}
use Rattle.shapers_editing.proofs.Shared.{glyphs-reverse, shared-apart, shared-most}

abbrev all_some : List Span → Bool
all_some xs = list_all (λ span. nat_lt 0 span.len) xs

-- ---- spans in three

covers : (spans : List Span) (n : ℕ) → all_some spans ≡ true → glyphs_in spans ≡ n → spans_cover n spans ≡ true
covers spans n some is = and_from (all_some spans) (glyphs_in spans == n) some (eq-eqb (glyphs_in spans) n is)

covered : (spans : List Span) (n : ℕ) → spans_cover n spans ≡ true → (all_some spans ≡ true) × (glyphs_in spans ≡ n)
covered spans n is =
    let (some, sum) = and_parts (all_some spans) (glyphs_in spans == n) is in
    (some, eqb-true (glyphs_in spans) n sum)

some-parts : (fs ms bs : List Span) → all_some (fs ++ (ms ++ bs)) ≡ true →
    (all_some fs ≡ true) × ((all_some ms ≡ true) × (all_some bs ≡ true))
some-parts fs ms bs some =
    let some_of = λ (s : Span). nat_lt 0 s.len in
    let (f, rest) =
    and_parts (all_some fs) (all_some (ms ++ bs)) (sym (list_all-append some_of fs (ms ++ bs)) ∙ some) in
    (f, and_parts (all_some ms) (all_some bs) (sym (list_all-append some_of ms bs) ∙ rest))

sums : (fs ms bs : List Span) → glyphs_in (fs ++ (ms ++ bs)) ≡ glyphs_in fs + (glyphs_in ms + glyphs_in bs)
sums fs ms bs =
    omega (arith, sum_by-append (λ (s : Span). s.len) fs (ms ++ bs), sum_by-append (λ (s : Span). s.len) ms bs)

-- ---- glyphs in three

-- all but the first a and the last b
abbrev inner : {X : Type 0} → ℕ → ℕ → List X → List X
inner a b xs = drop a (take (length xs - b) xs)

three : {X : Type 0} (a b : ℕ) (xs : List X) → a + b ≤ length xs →
    xs ≡ take a xs ++ (inner a b xs ++ drop (length xs - b) xs)
three a b xs fits =
    let k = length xs - b in
    let rest = drop a (take k xs) ++ drop k xs in
    sym (take-append-drop k xs)
    ∙ ap (λ ys. ys ++ drop k xs) (sym (take-append-drop a (take k xs)))
    ∙ append_assoc (take a (take k xs)) (drop a (take k xs)) (drop k xs)
    ∙ ap (λ ys. ys ++ rest) (take-take a k xs (omega (arith, fits)))

-- a part between a front and a back, with the spans between theirs
middle : (a b : ℕ) (gs : Glyphs) (fs ms bs : List Span) → a ≡ glyphs_in fs → b ≡ glyphs_in bs →
    a + b ≤ length gs → spans_cover (length gs) (fs ++ (ms ++ bs)) ≡ true → TextPart
middle a b gs fs ms bs af bf fits cover =
    let (some, sum) = covered (fs ++ (ms ++ bs)) (length gs) cover in
    let k = length gs - b in
    record {
      glyphs = inner a b gs;
      spans = ms;
      covered = covers ms (length (inner a b gs)) (some-parts fs ms bs some).1.0
          (omega (
            arith,
            sum,
            sums fs ms bs,
            af,
            bf,
            fits,
            length-drop a (take k gs),
            length-take-le k gs (omega (arith)),
          ));
    }

-- ---- the edited text

module _ (gs : Glyphs) (e : Edit) (order : e.start ≤ e.end) (within : e.end ≤ length gs) where
  long : length (with_edit e gs) ≡ e.start + (length e.glyphs.now + (length gs - e.end))
  long = omega (
    arith,
    order,
    within,
    length-append (take e.start gs) (e.glyphs.now ++ drop e.end gs),
    length-append e.glyphs.now (drop e.end gs),
    length-take-le e.start gs (omega (arith, order, within)),
    length-drop e.end gs,
  )

  same-front : (a : ℕ) → a ≤ e.start → take a (with_edit e gs) ≡ take a gs
  same-front a few =
      let n = e.start in
      take-append-le a (take n gs) (e.glyphs.now ++ drop e.end gs)
      (omega (arith, few, length-take-le n gs (omega (arith, order, within))))
      ∙ take-take a n gs few

  same-back : (b : ℕ) → b ≤ length gs - e.end →
      drop (length (with_edit e gs) - b) (with_edit e gs) ≡ drop (length gs - b) gs
  same-back b few =
      let prefix = take e.start gs ++ e.glyphs.now in
      let tail = drop e.end gs in
      let m = length gs - e.end in
      let whole : with_edit e gs ≡ prefix ++ tail = sym (append_assoc (take e.start gs) e.glyphs.now tail) in
      let at : length (with_edit e gs) - b ≡ length prefix + (m - b) =
      omega (
        arith,
        few,
        order,
        within,
        long,
        length-append (take e.start gs) e.glyphs.now,
        length-take-le e.start gs (omega (arith, order, within)),
      ) in
      let place : e.end + (m - b) ≡ length gs - b = omega (arith, few, within) in
      ap (λ n. drop n (with_edit e gs)) at
      ∙ ap (drop (length prefix + (m - b))) whole
      ∙ drop-append-add prefix tail (m - b)
      ∙ drop-drop (m - b) e.end gs
      ∙ ap (λ n. drop n gs) place

-- ---- all together

pub unaffected-shared : UnaffectedIsShared
unfolding middle
unaffected-shared g gs e left order within done =
    let hs = with_edit e gs in
    let n = e.start in
    let m = length gs - e.end in
    let old = done.old in
    let new = done.new in
    let fs = shared n old new in
    let bs = shared_back m old new in
    let (some, sum) = covered old (length gs) done.found.cover in
    let (others, other_sum) = covered new (length hs) done.found_again.cover in
    let all_long = long gs e order within in
    let (us, (vs, (one, two))) = shared-apart n m old new some others (omega (arith, order, within, sum))
    (omega (arith, all_long, other_sum)) in
    let a = left.front in
    let b = left.back in
    let af : a ≡ glyphs_in fs = done.front in
    let bf : b ≡ glyphs_in bs = done.back ∙ sym (glyphs-reverse (shared m (reverse old) (reverse new))) in
    let few : a ≤ n = omega (arith, af, (shared-most n old new).few) in
    let few_back : b ≤ m = omega (arith, done.back, (shared-most m (reverse old) (reverse new)).few) in
    let fits : a + b ≤ length gs = omega (arith, few, few_back, order, within) in
    let other_fits : a + b ≤ length hs = omega (arith, few, few_back, all_long) in
    let cover = subst (λ spans. spans_cover (length gs) spans ≡ true) one done.found.cover in
    let other_cover = subst (λ spans. spans_cover (length hs) spans ≡ true) two done.found_again.cover in
    let parts = some-parts fs us bs (covered (fs ++ (us ++ bs)) (length gs) cover).0 in
    let front : TextPart = record {
      glyphs = take a gs;
      spans = fs;
      covered = covers fs (length (take a gs)) parts.0
          (omega (arith, af, fits, length-take-le a gs (omega (arith, fits))));
    } in
    let back : TextPart = record {
      glyphs = drop (length gs - b) gs;
      spans = bs;
      covered = covers bs (length (drop (length gs - b) gs)) parts.1.1
          (omega (arith, bf, fits, length-drop (length gs - b) gs));
    } in
    record {
      front = front;
      old = middle a b gs fs us bs af bf fits cover;
      new = middle a b hs fs vs bs af bf other_fits other_cover;
      back = back;
      glyphs = three a b gs fits;
      spans = one;
      other_glyphs = three a b hs other_fits
          ∙ ap (λ xs. xs ++ (inner a b hs ++ drop (length hs - b) hs)) (same-front gs e order within a few)
          ∙ ap (λ xs. take a gs ++ (inner a b hs ++ xs)) (same-back gs e order within b few_back);
      other_spans = two;
      in_front = length-take-le a gs (omega (arith, fits));
      behind = omega (arith, fits, length-drop (length gs - b) gs);
    }
