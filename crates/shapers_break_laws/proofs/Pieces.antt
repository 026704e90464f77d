-- Steps that leave the results of a text's pieces side by side: one behind the other, and glyph by glyph.
use Rattle.std.proofs.Common.{ℕ, ◌<◌, ◌≡◌, [], ◌∷◌, length, take, drop, map, refl, sym, ap, ◌∙◌, subst, arith, length-append, take-append-drop}
use Rattle.std.proofs.lemmas.List.{drop-map, drop_at, length-map, length-take-le, take-map, take_at}
use Rattle.shapers_buffer.specs.Glyphs.{Glyph, Glyphs}
use Rattle.shapers_buffer.specs.Glyph.{clusters, order_view, plain, without_flags}
use Rattle.shapers_buffer.specs.Syllables.{in_syllable, kind_of, syllables}
use Rattle.shapers_clusters.specs.Breaks.{IsClear}
use Rattle.shapers_clusters.specs.FlagLaw.{FlagsAdded}
use Rattle.shapers_clusters.proofs.FlagLaw.{added_same, changed_added}
use Rattle.shapers_syllabic.specs.Borders.{unnumbered}
use Rattle.shapers_syllabic.proofs.Borders.{syllables-viewed}
use Rattle.shapers_syllabic.proofs.Serials.{KeepsSame, pieces_same, same_text}
use Rattle.shapers_break_laws.specs.Pieces.{BreaksWhereCleared, CutWhereClear, LeavesPieces, MakesOf, SameButFlags}
use Rattle.shapers_break_laws.specs.ShaperBreaks.{LeavePiecesEach}
use Rattle.shapers_break_laws.proofs.KeptFlags.{added_clear}

-- what stands behind a step
pub behind_pieces : (X : Type 0) (Cut : X → X → X → Type 0) (First Both : X → Glyphs
    → Type 0) (behind : Glyphs → Glyphs)
    (text : X) (mid : Glyphs) → ((x : X) (ys zs : Glyphs) → First x ys → MakesOf behind ys zs → Both x zs)
    → BreaksWhereCleared X Cut First text mid → LeavesPieces behind mid
    → BreaksWhereCleared X Cut Both text (behind mid)
behind_pieces X Cut First Both behind text mid joined first leaves front back cut =
    let made = leaves front back cut in
    let own = first made.before made.behind made.pieces in
    record {
      before = own.before;
      behind = own.behind;
      pieces = own.pieces;
      first = joined own.before made.before front own.first made.first;
      second = joined own.behind made.behind back own.second made.second;
    }

pub in_turn : LeavePiecesEach
in_turn first next text one two =
    behind_pieces Glyphs CutWhereClear (MakesOf first) (MakesOf (λ gs. next (first gs))) next text (first text)
    (λ xs ys zs f n same is. n (first same) (f same is)) one two

-- a text is the same as itself
pub own_text : (gs : Glyphs) → SameButFlags gs gs
own_text gs = (refl, refl)

-- CHANGES of each glyph
-- one that reads no clusters, flags or serials
pub record ChangesGlyphs (f : Glyph → Glyph) : Type 0 where
  pub added : (g : Glyph) → FlagsAdded g (f g)
  pub same : (gs hs : Glyphs) → SameButFlags gs hs → SameButFlags (map f gs) (map f hs)

pub leaves_by_glyph : (f : Glyph → Glyph) → ChangesGlyphs f → (gs : Glyphs)
    → LeavesPieces (map f) gs
leaves_by_glyph f change gs front back cut =
    let n = length front in
    let many = length-map gs f in
    let sizes = length-append front back in
    let some = cut.some_behind in
    let within : n < length gs = omega (arith, ap length cut.parts) in
    let long : length (take n gs) ≡ n = length-take-le n gs (omega (arith, within)) in
    let all = length-append (take n gs) (drop n gs) in
    let whole = take-append-drop n gs in
    let clear : IsClear gs n = added_clear gs (map f gs) (changed_added f change.added gs) n cut.some_in_front
    (omega (arith, within, many)) cut.clear in
    let is_front : map f (take n gs) ≡ front = sym (take-map f n gs) ∙ ap (take n) cut.parts
    ∙ take_at front back n refl in
    let is_back : map f (drop n gs) ≡ back = sym (drop-map f n gs) ∙ ap (drop n) cut.parts
    ∙ drop_at front back n refl in
    record {
      before = take n gs;
      behind = drop n gs;
      pieces = record {
        parts = sym whole;
        some_in_front = subst (λ k. 0 < k) (sym long) cut.some_in_front;
        some_behind = omega (arith, all, ap length whole, long, within);
        clear = subst (IsClear gs) (sym long) clear;
      };
      first = λ xs is. subst (SameButFlags (map f xs)) is_front (change.same xs (take n gs) is);
      second = λ xs is. subst (SameButFlags (map f xs)) is_back (change.same xs (drop n gs) is);
    }

pub flags-twice : (m : ℕ) → without_flags (without_flags m) ≡ without_flags m
flags-twice m = omega arith

pub kind-twice : (byte : ℕ) → kind_of (kind_of byte) ≡ kind_of byte
kind-twice byte = omega arith

-- one that keeps the bytes of syllables
pub record ReadsOrder (f : Glyph → Glyph) : Type 0 where
  pub added : (g : Glyph) → FlagsAdded g (f g)
  pub byte : (g : Glyph) → (f g).syllable ≡ g.syllable
  pub viewed : (g : Glyph) → plain (f g) ≡ plain (f (plain g))
  pub counted : (g : Glyph) → unnumbered (plain (f g)) ≡ unnumbered (plain (f (unnumbered g)))

view_of : (f : Glyph → Glyph) → ReadsOrder f → (gs : Glyphs) → order_view (map f gs)
    ≡ map (λ g. plain (f g)) (order_view gs)
view_of f reads [] = refl
view_of f reads (g ∷ gs) = ap (λ x. x ∷ order_view (map f gs)) (reads.viewed g)
    ∙ ap (λ l. plain (f (plain g)) ∷ l) (view_of f reads gs)

counted_all : (f : Glyph → Glyph) → ReadsOrder f → (gs : Glyphs) → map unnumbered
    (map (λ g. plain (f g)) gs) ≡ map unnumbered (map (λ g. plain (f g)) (map unnumbered gs))
counted_all f reads [] = refl
counted_all f reads (g ∷ gs) = ap (λ x. x ∷ map unnumbered (map (λ g. plain (f g)) gs)) (reads.counted g)
    ∙ ap (λ l. unnumbered (plain (f (unnumbered g))) ∷ l) (counted_all f reads gs)

clusters_of : (f : Glyph → Glyph) → ((g : Glyph) → FlagsAdded g (f g)) → (gs : Glyphs)
    → clusters (map f gs) ≡ clusters gs
clusters_of f added [] = refl
clusters_of f added (g ∷ gs) = ap (λ c. c ∷ clusters (map f gs)) ((added g).same)
    ∙ ap (λ cs. g.cluster ∷ cs) (clusters_of f added gs)

pub reads_order : (f : Glyph → Glyph) → ReadsOrder f → ChangesGlyphs f
reads_order f reads =
    let k : Glyph → Glyph = λ g. plain (f g) in
    let keeps : KeepsSame (map k) = λ gs hs same. counted_all f reads gs
    ∙ ap (λ xs. map unnumbered (map k xs)) same ∙ sym (counted_all f reads hs) in
    let pieces : (gs : Glyphs) → syllables (order_view (map f gs)) ≡ map (map k) (syllables (order_view gs)) = λ gs.
    ap syllables (view_of f reads gs) ∙ syllables-viewed k (λ g. reads.byte g) (order_view gs) in
    record {
      added = reads.added;
      same = λ gs hs is. (
        ap (map (map unnumbered)) (pieces gs)
            ∙ pieces_same (map k) keeps (syllables (order_view gs)) (syllables (order_view hs)) is.0
            ∙ sym (ap (map (map unnumbered)) (pieces hs)),
        clusters_of f reads.added gs ∙ is.1 ∙ sym (clusters_of f reads.added hs),
      );
    }

-- a glyph as it is
pub still : ReadsOrder (λ g. g)
still = record {
  added = λ g. added_same g g refl refl;
  byte = λ g. refl;
  viewed = λ g. ap (λ (k : ℕ). let r : Glyph = record g { cluster = 0; mask = k } in r)
      (sym (flags-twice g.mask));
  counted = λ g. ap (λ (k : ℕ). let r : Glyph = record (plain g) { syllable = k } in r)
      (sym (kind-twice g.syllable));
}

-- syllables cleared
cleared_view : (gs : Glyphs) → order_view (map (in_syllable 0) gs)
    ≡ map (in_syllable 0) (map unnumbered (order_view gs))
cleared_view [] = refl
cleared_view (g ∷ gs) = ap (λ l. plain (in_syllable 0 g) ∷ l) (cleared_view gs)

pub clears_syllables : ChangesGlyphs (in_syllable 0)
clears_syllables =
    let added : (g : Glyph) → FlagsAdded g (in_syllable 0 g) = λ g. record {
      same = refl;
      kept = λ k l. omega arith;
    } in
    record {
      added = added;
      same = λ gs hs is. (
        ap (λ xs. map (map unnumbered) (syllables xs)) (cleared_view gs
            ∙ ap (map (in_syllable 0)) (same_text (order_view gs) (order_view hs) is.0) ∙ sym (cleared_view hs)),
        clusters_of (in_syllable 0) added gs ∙ is.1 ∙ sym (clusters_of (in_syllable 0) added hs),
      );
    }
