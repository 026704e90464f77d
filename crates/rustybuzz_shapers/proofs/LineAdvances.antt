-- The advance of the line after the stretch.
use Rattle.std.proofs.Common.{◌≡◌, ℕ, zero, suc, Bool, true, false, List, [], ◌∷◌, ◌++◌, pos, ◌+ℤ◌, length, map, replicate, reverse, inl, inr, refl, sym, ap, ◌∙◌, arith}
use Rattle.std.specs.Prelude.{nat_lt}
use Rattle.std.specs.List.{AllZip, flat_map, zip}
use Rattle.std.proofs.lemmas.Bool.{cases_Bool, false≢true, lt-ltb}
use Rattle.std.proofs.lemmas.Int.{ints}
use Rattle.std.proofs.lemmas.List.{map-append, reverse-append, take-append-drop}
use Rattle.std.proofs.lemmas.Simd.{map-map}
use Rattle.shapers_buffer.specs.Buffer.{Buffer}
use Rattle.shapers_buffer.specs.declared.buffer.glyph.GlyphPosition.{GlyphPosition}
use Rattle.shapers_buffer.specs.Glyphs.{Glyphs}
use Rattle.shapers_stretch.specs.Cells.{Cell, before_tiles, positions_of, tiles_of}
use Rattle.shapers_stretch.specs.Measure.{total}
use Rattle.shapers_stretch.specs.Recorded.{start_of}
use Rattle.shapers_stretch.specs.Stretch.{Laying, cells_in_order, has_sequence, in_working_order, laying}
use Rattle.shapers_stretch.specs.StretchLaws.{PartIsLaid}
use Rattle.shapers_stretch.proofs.LaidText.{stretch_is_as_wide}
use Rattle.shapers_stretch.proofs.Sums.{total-append, total_cons}
use Rattle.rustybuzz_shapers.specs.Stretched.{LineAdvances, advance_of}

advances-append : (xs ys : List Cell) → advance_of (xs ++ ys) ≡ advance_of xs +ℤ advance_of ys
advances-append = search (arith, map-append, total-append)

advances-reverse : (xs : List Cell) → advance_of (reverse xs) ≡ advance_of xs
advances-reverse [] = refl
advances-reverse (x ∷ xs) = search (
  arith,
  ints,
  reverse-append (x ∷ []) xs,
  advances-append (reverse xs) (x ∷ []),
  total_cons x.1.x_advance [],
  total_cons x.1.x_advance (map (λ (c : Cell). c.1.x_advance) xs),
  advances-reverse xs,
)

by_positions : (xs ys : List Cell) → positions_of xs ≡ positions_of ys → advance_of xs ≡ advance_of ys
by_positions xs ys same = cc (
  map-map (λ (p : GlyphPosition). p.x_advance) (λ (c : Cell). c.1) xs,
  map-map (λ (p : GlyphPosition). p.x_advance) (λ (c : Cell). c.1) ys,
)

no_advance : (n : ℕ) → total (replicate n (pos 0)) ≡ pos 0
no_advance zero = refl
no_advance (suc n) = search (arith, ints, total_cons, pos, no_advance n)

none_there : (xs : List Cell) → nat_lt 0 (length xs) ≡ false → advance_of xs ≡ pos 0
none_there [] none = refl
none_there (x ∷ xs) none = search (arith, false≢true, lt-ltb)

-- a part: what it became is as wide as what stands before its tiles
part_advance : (how : Laying) (part piece : List Cell) → PartIsLaid how part piece
    → advance_of piece +ℤ advance_of (tiles_of part) ≡ advance_of part
part_advance how part piece laid = elim (cases_Bool (has_sequence part)) [
  | inl some ↦
      let run = laid.1 some in
      let whole = ap advance_of (sym (take-append-drop _ part))
      ∙ advances-append (before_tiles part) (tiles_of part) in
      let parts = ap advance_of run.joined ∙ advances-append run.front (reverse run.copies) in
      let front = by_positions run.front (before_tiles part) run.front_positions in
      let copies = advances-reverse run.copies ∙ ap total run.advances ∙ no_advance (length run.copies) in
      search (arith, ints)
  | inr none ↦
      search (arith, ints, laid.0, none_there)
]

parts_advance : (how : Laying) (parts pieces : List (List Cell)) → AllZip (PartIsLaid how) parts pieces
    → advance_of (flat_map (λ piece. piece) pieces) +ℤ total (map (λ part. advance_of (tiles_of part)) parts)
    ≡ advance_of (flat_map (λ part. part) parts)
parts_advance how [] [] laid = refl
parts_advance how (p ∷ ps) (q ∷ qs) laid = search (
  arith,
  ints,
  part_advance how p q laid.0,
  parts_advance how ps qs laid.1,
  advances-append p (flat_map (λ part. part) ps),
  advances-append q (flat_map (λ piece. piece) qs),
  total_cons (advance_of (tiles_of p)) (map (λ part. advance_of (tiles_of part)) ps),
)
parts_advance how _ _ laid = absurd laid

-- the order of the cells doesn't matter
in_any_order : (right_to_left : Bool) (xs : List Cell) → advance_of (in_working_order right_to_left xs) ≡ advance_of xs
in_any_order true xs = refl
in_any_order false xs = advances-reverse xs

zipped_advances : (gs : Glyphs) (ps : List GlyphPosition) → length ps ≡ length gs
    → map (λ (c : Cell). c.1.x_advance) (zip gs ps) ≡ map (λ p. p.x_advance) ps
zipped_advances [] [] same = refl
zipped_advances (g ∷ gs) (p ∷ ps) same = cc (zipped_advances gs ps (omega arith))
zipped_advances _ _ same = absurd (omega arith)

of_buffer : (b : Buffer) → length b.positions ≡ length b.glyphs → advance_of (cells_in_order b)
    ≡ total (map (λ p. p.x_advance) b.positions)
of_buffer = search (arith, in_any_order, zipped_advances)

pub line_advances : LineAdvances
line_advances plan font old new marked both is =
    let law = stretch_is_as_wide font (start_of plan.plan_data) old new marked both is in
    let text = law.1 in
    search (
      arith,
      ints,
      parts_advance (laying font (start_of plan.plan_data) old) _ text.pieces text.each,
      text.before,
      of_buffer old both,
      text.after,
      of_buffer new law.0,
    )
