-- Steps that change each position by its own glyph leave the positions of a text's pieces side by side.
use Rattle.std.proofs.Common.{suc, ◌≡◌, List, [], ◌∷◌, ◌++◌, length, map, take, drop, refl, sym, ap, ◌∙◌, subst, arith, length-append}
use Rattle.std.proofs.lemmas.List.{drop_at, length-map, length-take, take-append-drop, take_at}
use Rattle.shapers_buffer.specs.Buffer.{Buffer}
use Rattle.shapers_buffer.specs.Glyph.{order_view, plain}
use Rattle.shapers_buffer.specs.Glyphs.{Glyph, Glyphs}
use Rattle.shapers_buffer.specs.declared.buffer.glyph.GlyphPosition.{GlyphPosition}
use Rattle.shapers_buffer.specs.declared.buffer.level.Direction.{Direction}
use Rattle.shapers_syllabic.specs.Borders.{unnumbered}
use Rattle.shapers_syllabic.proofs.Serials.{same_text}
use Rattle.shapers_position.specs.Widths.{positions_changed}
use Rattle.shapers_editing.specs.PipelineBreaks.{AreAsIn, Numbering, SameButNumbers, unlinked}
use Rattle.opentype_gpos.specs.Kerned.{PlacedText}
use Rattle.opentype_gpos.specs.Moved.{Positions}
use Rattle.opentype_break_laws.specs.PlacedPieces.{BreaksWherePlaced, CutPlaced, IsPlacedPiece, IsPaired, LeavesPositions, MakesPlaced, placed_in}

-- ---- A GLYPH without flags and numbers, which is what pieces have of it

unfoldable pub bare : Glyph → Glyph
bare g = unnumbered (plain (unlinked g))

bare_all : (gs : Glyphs) → map unnumbered (order_view (map unlinked gs)) ≡ map bare gs
unfolding bare
bare_all [] = refl
bare_all (g ∷ gs) = ap (λ xs. unnumbered (plain (unlinked g)) ∷ xs) (bare_all gs)

pub bare_alike : (gs hs : Glyphs) → SameButNumbers gs hs → map bare gs ≡ map bare hs
bare_alike gs hs same = sym (bare_all gs)
    ∙ same_text (order_view (map unlinked gs)) (order_view (map unlinked hs)) same.0 ∙ bare_all hs

-- ---- POSITIONS, each changed by its own glyph

-- a change that reads nothing else of the glyph
pub record ReadsBare (f : Glyph → GlyphPosition → GlyphPosition) : Type 0 where
  pub bared : (g : Glyph) (p : GlyphPosition) → f (bare g) p ≡ f g p

changed_bare : (f : Glyph → GlyphPosition → GlyphPosition) → ReadsBare f → (gs : Glyphs) (ps : Positions)
    → positions_changed f (map bare gs) ps ≡ positions_changed f gs ps
changed_bare f reads [] [] = refl
changed_bare f reads [] (p ∷ ps) = refl
changed_bare f reads (g ∷ gs) [] = refl
changed_bare f reads (g ∷ gs) (p ∷ ps) = ap (λ x. x ∷ positions_changed f (map bare gs) ps) (reads.bared g p)
    ∙ ap (λ xs. f g p ∷ xs) (changed_bare f reads gs ps)

pub changed_alike : (f : Glyph → GlyphPosition → GlyphPosition) → ReadsBare f → (gs hs : Glyphs) (ps : Positions)
    → SameButNumbers gs hs → positions_changed f gs ps ≡ positions_changed f hs ps
changed_alike f reads gs hs ps same = sym (changed_bare f reads gs ps)
    ∙ ap (λ xs. positions_changed f xs ps) (bare_alike gs hs same) ∙ changed_bare f reads hs ps

pub changed_append : (f : Glyph → GlyphPosition → GlyphPosition) (gs hs : Glyphs) (ps qs : Positions)
    → length ps ≡ length gs → positions_changed f (gs ++ hs) (ps ++ qs)
    ≡ positions_changed f gs ps ++ positions_changed f hs qs
changed_append f [] hs [] qs paired = refl
changed_append f [] hs (p ∷ ps) qs paired = absurd (omega (arith, paired))
changed_append f (g ∷ gs) hs [] qs paired = absurd (omega (arith, paired))
changed_append f (g ∷ gs) hs (p ∷ ps) qs paired =
    ap (λ xs. f g p ∷ xs) (changed_append f gs hs ps qs (omega (arith, paired)))

pub changed_length : (f : Glyph → GlyphPosition → GlyphPosition) (gs : Glyphs) (ps : Positions) → length ps ≡ length gs
    → length (positions_changed f gs ps) ≡ length gs
changed_length f [] [] paired = refl
changed_length f [] (p ∷ ps) paired = absurd (omega (arith, paired))
changed_length f (g ∷ gs) [] paired = absurd (omega (arith, paired))
changed_length f (g ∷ gs) (p ∷ ps) paired = ap suc (changed_length f gs ps (omega (arith, paired)))

-- two lists that are one together are the same, where the first ones are as long
pub first_same : {X : Type 0} (xs ys us vs : List X) → length xs ≡ length us → xs ++ ys ≡ us ++ vs → xs ≡ us
first_same xs ys us vs long same =
    sym (take_at xs ys (length us) long) ∙ ap (take (length us)) same ∙ take_at us vs (length us) refl

pub second_same : {X : Type 0} (xs ys us vs : List X) → length xs ≡ length us → xs ++ ys ≡ us ++ vs → ys ≡ vs
second_same xs ys us vs long same =
    sym (drop_at xs ys (length us) long) ∙ ap (drop (length us)) same ∙ drop_at us vs (length us) refl

-- ---- A STEP that does so, by the direction of the text, and leaves the glyphs as they are

pub record MovesEach (f : Direction → Glyph → GlyphPosition → GlyphPosition) (step : Buffer → Buffer) : Type 0 where
  pub each : (b : Buffer) → length b.positions ≡ length b.glyphs → step b
      ≡ record b { positions = positions_changed (f b.direction) b.glyphs b.positions }
  pub reads : (d : Direction) → ReadsBare (f d)

piece_moved : (numbered : Numbering) (text : Buffer) (f : Direction → Glyph → GlyphPosition → GlyphPosition)
    (step : Buffer → Buffer) → MovesEach f step → (part made : PlacedText) → length part.positions ≡ length part.glyphs
    → part.glyphs ≡ made.glyphs → positions_changed (f text.direction) part.glyphs part.positions ≡ made.positions
    → MakesPlaced numbered text step part made
piece_moved numbered text f step moves part made paired same is one piece =
    let alike = piece.same.glyphs in
    let long : length one.positions ≡ length one.glyphs = omega (
      arith,
      ap length piece.positions,
      paired,
      ap length (bare_alike one.glyphs part.glyphs alike),
      length-map one.glyphs bare,
      length-map part.glyphs bare,
    ) in
    let moved : Buffer = record one { positions = positions_changed (f one.direction) one.glyphs one.positions } in
    let got : moved.positions ≡ made.positions =
    ap (λ d. positions_changed (f d) one.glyphs one.positions) piece.direction
    ∙ ap (positions_changed (f text.direction) one.glyphs) piece.positions
    ∙ changed_alike (f text.direction) (moves.reads text.direction) one.glyphs part.glyphs part.positions alike ∙ is in
    subst (IsPlacedPiece numbered text made) (sym (moves.each one long)) (record {
      same = subst (λ gs. AreAsIn numbered gs one.glyphs) same piece.same;
      positions = got;
      level = piece.level;
      direction = piece.direction;
      script = piece.script;
      room = piece.room;
    })

pub each_placed : (numbered : Numbering) (text : Buffer) (f : Direction → Glyph → GlyphPosition → GlyphPosition)
    (step : Buffer → Buffer) → MovesEach f step → (b : Buffer) → IsPaired text b
    → LeavesPositions numbered text step b
each_placed numbered text f step moves b is front back cut =
    let n = length front.glyphs in
    let change = f text.direction in
    let own = subst (λ (x : Buffer). CutPlaced (placed_in x) front back) (moves.each b is.paired) cut in
    let ps = take n b.positions in
    let qs = drop n b.positions in
    let whole : ps ++ qs ≡ b.positions = take-append-drop n b.positions in
    let long : length ps ≡ n = omega (
      arith,
      length-take n b.positions,
      is.paired,
      ap length own.glyphs.parts,
      length-append front.glyphs back.glyphs,
    ) in
    let rest : length qs ≡ length back.glyphs = omega (
      arith,
      ap length whole,
      length-append ps qs,
      long,
      is.paired,
      ap length own.glyphs.parts,
      length-append front.glyphs back.glyphs,
    ) in
    let split : positions_changed change front.glyphs ps ++ positions_changed change back.glyphs qs
    ≡ front.positions ++ back.positions = sym (changed_append change front.glyphs back.glyphs ps qs long)
    ∙ ap (λ xs. positions_changed change xs (ps ++ qs)) (sym own.glyphs.parts)
    ∙ ap (positions_changed change b.glyphs) whole
    ∙ ap (λ d. positions_changed (f d) b.glyphs b.positions) (sym is.direction) ∙ own.positions in
    let beside : length (positions_changed change front.glyphs ps) ≡ length front.positions =
    changed_length change front.glyphs ps long ∙ sym own.paired in
    record {
      before = record { glyphs = front.glyphs; positions = ps };
      behind = record { glyphs = back.glyphs; positions = qs };
      pieces = record { glyphs = own.glyphs; positions = sym whole; paired = long };
      first = piece_moved numbered text f step moves (record { glyphs = front.glyphs; positions = ps }) front long refl
          (first_same _ _ _ _ beside split);
      second = piece_moved numbered text f step moves (record { glyphs = back.glyphs; positions = qs }) back rest refl
          (second_same _ _ _ _ beside split);
    }

-- ---- STEPS one behind another

pub same_leaves : (numbered : Numbering) (text b : Buffer) → LeavesPositions numbered text (λ x. x) b
same_leaves numbered text b front back cut = record {
  before = front;
  behind = back;
  pieces = cut;
  first = λ one piece. piece;
  second = λ one piece. piece;
}

-- what a first step makes of a piece, a second one takes on
pub then_placed : {X : Type 0} (Cut : X → X → X → Type 0) (IsOf : X → Buffer
    → Type 0) (numbered : Numbering) (text : Buffer)
    (first second : Buffer → Buffer) (x : X) (b : Buffer) → BreaksWherePlaced X Cut (λ piece made. (one : Buffer) →
    IsOf piece one → IsPlacedPiece numbered text made (first one)) x (placed_in (first b))
    → LeavesPositions numbered text second (first b) → BreaksWherePlaced X Cut (λ piece made. (one : Buffer) →
    IsOf piece one → IsPlacedPiece numbered text made (second (first one))) x (placed_in (second (first b)))
then_placed Cut IsOf numbered text first second x b made leaves front back cut =
    let mid = leaves front back cut in
    let own = made mid.before mid.behind mid.pieces in
    record {
      before = own.before;
      behind = own.behind;
      pieces = own.pieces;
      first = λ one piece. mid.first (first one) (own.first one piece);
      second = λ one piece. mid.second (first one) (own.second one piece);
    }

pub step_behind : (numbered : Numbering) (text : Buffer) (first second : Buffer → Buffer) (b : Buffer)
    → LeavesPositions numbered text first b → LeavesPositions numbered text second (first b)
    → LeavesPositions numbered text (λ x. second (first x)) b
step_behind numbered text first second b = then_placed CutPlaced
    (IsPlacedPiece numbered text) numbered text first second
    (placed_in b) b
