-- What ligatures ask of a comparison of their numbers: nobody compares them, or by whether there is one.
use Rattle.std.proofs.Common.{ℕ, ◌+◌, ◌%◌, ◌<◌, ◌≡◌, ◌&&◌, not, nat_lt, if◌then◌else◌, Bool, true, false, List, [], ◌∷◌, length, map, drop, refl, sym, ap, ◌∙◌, arith}
use Rattle.std.proofs.lemmas.Bool.{false≢true}
use Rattle.std.proofs.lemmas.Bool.Decides.{nat_tests}
use Rattle.shapers_buffer.specs.Glyph.{order_view}
use Rattle.shapers_buffer.specs.Glyphs.{Glyphs}
use Rattle.shapers_buffer.specs.declared.buffer.lig_props.LigProps.{LigProps}
use Rattle.shapers_syllabic.specs.Borders.{unnumbered}
use Rattle.shapers_syllabic.proofs.Serials.{same_text}
use Rattle.shapers_editing.specs.PipelineBreaks.{Numbering, ligatures, unlinked}
use Rattle.opentype_layout.specs.Text.{glyph_at}
use Rattle.opentype_break_laws.specs.Sequences.{ComparesPresence, PresenceCompares, all_beside, both_numbered}
use Rattle.opentype_break_laws.proofs.LigaturePieces.{ComparedBy, numbers_by}
use Rattle.opentype_break_laws.proofs.LigatureViews.{above_it, below_it, not_below, shows_none, shows_presence, with_presence, hiding_number}

abbrev viewed : Glyphs → Glyphs
viewed gs = map unnumbered (order_view (map unlinked gs))

-- ---- NOBODY COMPARES THEM

low_from : (gs hs : Glyphs) → viewed gs ≡ viewed hs → numbers_by hiding_number (ligatures gs) ≡ numbers_by hiding_number (ligatures hs)
low_from [] [] same = refl
low_from [] (h ∷ hs) same = absurd (omega (arith, ap length same))
low_from (g ∷ gs) [] same = absurd (omega (arith, ap length same))
low_from (g ∷ gs) (h ∷ hs) same =
    let first : hiding_number g.lig_props.0 ≡ hiding_number h.lig_props.0 = ap (λ l. (glyph_at l 0).lig_props.0) same in
    ap (λ n. n ∷ numbers_by hiding_number (ligatures gs)) first
    ∙ ap (λ l. hiding_number h.lig_props.0 ∷ l) (low_from gs hs (ap (drop 1) same))

pub uncompared : (numbered : Numbering) → ((xs ys : List LigProps) → numbered xs ys ≡ true) → ComparedBy numbered hiding_number
uncompared numbered any = record {
  shows = shows_none;
  tells = λ gs hs is. low_from gs hs (same_text (order_view (map unlinked gs)) (order_view (map unlinked hs)) is.glyphs.0);
  enough = λ xs ys e. any xs ys;
}

-- ---- BY WHETHER THERE IS ONE

both_true : (a b : Bool) → (a && b) ≡ true → (a ≡ true) × (b ≡ true)
both_true true b e = (refl, e)
both_true false b e = absurd (false≢true e)

same_below : (l m : ℕ) → l % 32 ≡ m % 32 → nat_lt l 32 ≡ true → nat_lt m 32 ≡ true → l ≡ m
same_below l m e one two =
    let less : l < 32 = grind (arith, nat_tests) in
    let other : m < 32 = grind (arith, nat_tests) in
    omega (arith, e, less, other)

presence_by : (l m : ℕ) (a b : Bool) → nat_lt l 32 ≡ a → nat_lt m 32 ≡ b → l % 32 ≡ m % 32 → (if a then b else not b) ≡ true
    → with_presence l ≡ with_presence m
presence_by l m true true one two e both = below_it l one ∙ same_below l m e one two ∙ sym (below_it m two)
presence_by l m true false one two e both = absurd (false≢true both)
presence_by l m false true one two e both = absurd (false≢true both)
presence_by l m false false one two e both = above_it l one ∙ ap (λ n. 32 + n) e ∙ sym (above_it m two)

presence_from : (gs hs : Glyphs) → viewed gs ≡ viewed hs → all_beside both_numbered (ligatures gs) (ligatures hs) ≡ true
    → numbers_by with_presence (ligatures gs) ≡ numbers_by with_presence (ligatures hs)
presence_from [] [] same ns = refl
presence_from [] (h ∷ hs) same ns = absurd (omega (arith, ap length same))
presence_from (g ∷ gs) [] same ns = absurd (omega (arith, ap length same))
presence_from (g ∷ gs) (h ∷ hs) same ns =
    let l = g.lig_props.0 in
    let m = h.lig_props.0 in
    let low : l % 32 ≡ m % 32 = ap (λ x. (glyph_at x 0).lig_props.0) same in
    let both = both_true (both_numbered g.lig_props h.lig_props) (all_beside both_numbered (ligatures gs) (ligatures hs)) ns in
    let first = presence_by l m (nat_lt l 32) (nat_lt m 32) refl refl low both.0 in
    ap (λ n. n ∷ numbers_by with_presence (ligatures gs)) first
    ∙ ap (λ x. with_presence m ∷ x) (presence_from gs hs (ap (drop 1) same) both.1)

tested : (l : ℕ) (b : Bool) → nat_lt l 32 ≡ b → nat_lt (with_presence l) 32 ≡ b
tested l true e = ap (λ n. nat_lt n 32) (below_it l e) ∙ e
tested l false e = ap (λ n. nat_lt n 32) (above_it l e) ∙ not_below (l % 32)

itself : (b : Bool) → (if b then b else not b) ≡ true
itself true = refl
itself false = refl

both_from : (l m : LigProps) → with_presence l.0 ≡ with_presence m.0 → both_numbered l m ≡ true
both_from l m e =
    let one = tested l.0 (nat_lt l.0 32) refl in
    let two = tested m.0 (nat_lt m.0 32) refl in
    let same : nat_lt l.0 32 ≡ nat_lt m.0 32 = sym one ∙ ap (λ n. nat_lt n 32) e ∙ two in
    ap (λ b. if b then nat_lt m.0 32 else not (nat_lt m.0 32)) same ∙ itself (nat_lt m.0 32)

abbrev first_of : List ℕ → ℕ
first_of [] = 0
first_of (n ∷ ns) = n

presence_enough : (xs ys : List LigProps) → numbers_by with_presence xs ≡ numbers_by with_presence ys
    → all_beside both_numbered xs ys ≡ true
presence_enough [] [] e = refl
presence_enough [] (y ∷ ys) e = absurd (omega (arith, ap length e))
presence_enough (x ∷ xs) [] e = absurd (omega (arith, ap length e))
presence_enough (x ∷ xs) (y ∷ ys) e = ap (λ b. b && all_beside both_numbered xs ys) (both_from x y (ap first_of e))
    ∙ presence_enough xs ys (ap (drop 1) e)

pub by_presence : (numbered : Numbering) → ComparesPresence numbered → ComparedBy numbered with_presence
by_presence numbered compares = record {
  shows = shows_presence;
  tells = λ gs hs is. presence_from gs hs (same_text (order_view (map unlinked gs)) (order_view (map unlinked hs)) is.glyphs.0)
      (sym (compares.each (ligatures gs) (ligatures hs)) ∙ is.numbers);
  enough = λ xs ys e. compares.each xs ys ∙ presence_enough xs ys e;
}

tells_by : (a b : Bool) → (if a then b else not b) ≡ true → a ≡ b
tells_by true true e = refl
tells_by true false e = absurd (false≢true e)
tells_by false true e = absurd (false≢true e)
tells_by false false e = refl

pub presence_compares : PresenceCompares
presence_compares numbered compares = record {
  test = both_numbered;
  each = compares.each;
  itself = λ l. itself (nat_lt l.0 32);
  tells = λ l m e. tells_by (nat_lt l.0 32) (nat_lt m.0 32) e;
}
