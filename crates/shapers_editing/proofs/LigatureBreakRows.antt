-- A lookup that puts a ligature in, beside the pieces of small texts: where it leaves them side by side, and where not.
use Rattle.std.proofs.Common.{ℕ, zero, suc, ◌<◌, ◌≡◌, ◌==◌, ◌&&◌, if◌then◌else◌, true, List, [], ◌∷◌, length, take, drop, map, length-append, refl, sym, ap, ◌∙◌, subst, arith}
use Rattle.std.specs.Prelude.{min}
use Rattle.std.proofs.lemmas.Bool.{false≢true}
use Rattle.std.proofs.lemmas.List.{drop_at, take_at}
use Rattle.shapers_buffer.specs.Buffer.{Buffer}
use Rattle.shapers_buffer.specs.Glyph.{default_glyph, order_view}
use Rattle.shapers_buffer.specs.Glyphs.{Glyph, Glyphs}
use Rattle.shapers_buffer.specs.declared.buffer.lig_props.LigProps.{LigProps}
use Rattle.shapers_clusters.specs.Breaks.{IsClear}
use Rattle.shapers_syllabic.proofs.Serials.{same_text}
use Rattle.shapers_plan.specs.declared.ot_map.lookups.StageLookup.{StageLookup}
use Rattle.shapers_editing.specs.PipelineBreaks.{AreAsIn, LookupLeaves, Numbering, unlinked}

-- glyph 3 for a 1 and a 2 that stand side by side, in the lesser of their clusters; it is a ligature of two, number 1
abbrev ligature : Glyph → Glyph → Glyph
ligature g h = record g { glyph_id = 3; cluster = min g.cluster h.cluster; lig_props = record { 0 = 0x32 } }

abbrev joined : Glyphs → Glyphs
joined [] = []
joined (g ∷ []) = g ∷ []
joined (g ∷ h ∷ gs) = if g.glyph_id == 1 && (h.glyph_id == 2) then ligature g h ∷ joined gs else g ∷ joined (h ∷ gs)

abbrev joining : StageLookup → Buffer → Buffer
joining lookup b = record b { glyphs = joined b.glyphs }

abbrev letter : ℕ → ℕ → ℕ → Glyph
letter number c m = record default_glyph { glyph_id = number; cluster = c; mask = m }

-- WHERE IT LEAVES THEM: 1 2 5 with clusters 0 1 2 become 3 5 with clusters 0 2
abbrev pair : Glyphs
pair = letter 1 0 0 ∷ letter 2 1 0 ∷ []

abbrev rest : Glyphs
rest = letter 5 2 0 ∷ []

abbrev first_of : Glyphs → Glyph
first_of [] = default_glyph
first_of (g ∷ gs) = g

abbrev first_number : List ℕ → ℕ
first_number [] = 0
first_number (n ∷ ns) = n

pair_joined : (numbered : Numbering) → ((list : List LigProps) → numbered list list ≡ true) → (gs : Glyphs)
    → AreAsIn numbered pair gs → AreAsIn numbered (joined pair) (joined gs)
pair_joined numbered alike [] is = absurd (omega (arith, ap length is.glyphs.1))
pair_joined numbered alike (g ∷ []) is = absurd (omega (arith, ap length is.glyphs.1))
pair_joined numbered alike (g ∷ h ∷ []) is =
    let both = same_text (order_view (map unlinked (g ∷ h ∷ []))) (order_view (map unlinked pair)) is.glyphs.0 in
    let first = ap first_of both in
    let second = ap (λ (l : Glyphs). first_of (drop 1 l)) both in
    let one : g.glyph_id ≡ 1 = ap (λ (x : Glyph). x.glyph_id) first in
    let two : h.glyph_id ≡ 2 = ap (λ (x : Glyph). x.glyph_id) second in
    let low : g.cluster ≡ 0 = ap first_number is.glyphs.1 in
    let high : h.cluster ≡ 1 = ap (λ (l : List ℕ). first_number (drop 1 l)) is.glyphs.1 in
    let test : (g.glyph_id == 1 && (h.glyph_id == 2)) ≡ true = ap (λ n. n == 1 && (h.glyph_id == 2)) one
    ∙ ap (λ n. n == 2) two in
    subst (λ t. AreAsIn numbered (joined pair) (if t then ligature g h ∷ [] else g ∷ h ∷ [])) (sym test) (record {
      glyphs = (
        ap (λ (x : Glyph). let r : Glyph = record x { glyph_id = 3; lig_props = record { 0 = 18 } } in (r ∷ []) ∷ []) first,
        ap (λ n. min n h.cluster ∷ []) low ∙ ap (λ n. min 0 n ∷ []) high,
      );
      numbers = alike (record { 0 = 0x32 } ∷ []);
    })
pair_joined numbered alike (g ∷ h ∷ k ∷ gs) is = absurd (omega (arith, ap length is.glyphs.1))

rest_stays : (numbered : Numbering) (gs : Glyphs) → AreAsIn numbered rest gs → AreAsIn numbered rest (joined gs)
rest_stays numbered [] is = is
rest_stays numbered (g ∷ []) is = is
rest_stays numbered (g ∷ h ∷ gs) is = absurd (omega (arith, ap length is.glyphs.1))

row_ligature : (numbered : Numbering) → ((list : List LigProps) → numbered list list ≡ true) → (text : Buffer)
    (lookup : StageLookup)
    → LookupLeaves numbered text joining lookup (record text { glyphs = letter 1 0 0 ∷ letter 2 1 0 ∷ rest })
row_ligature numbered alike text lookup front back cut =
    let one : length front ≡ 1 = omega (
      arith,
      ap length cut.parts,
      length-append front back,
      cut.some_in_front,
      cut.some_behind,
    ) in
    let is_front : joined pair ≡ front = ap (take 1) cut.parts ∙ take_at front back 1 one in
    let is_back : rest ≡ back = ap (drop 1) cut.parts ∙ drop_at front back 1 one in
    record {
      before = pair;
      behind = rest;
      pieces = record {
        parts = refl;
        some_in_front = omega arith;
        some_behind = omega arith;
        clear = record { differ = λ e. absurd (omega (arith, e)); unflagged = refl };
      };
      first = λ b is. subst (λ gs. AreAsIn numbered gs (joined b.glyphs)) is_front
          (pair_joined numbered alike b.glyphs is.same);
      second = λ b is. subst (λ gs. AreAsIn numbered gs (joined b.glyphs)) is_back
          (rest_stays numbered b.glyphs is.same);
    }

-- WHERE NOT, with clusters that neither rise nor fall: 4 1 2 with clusters 1 2 0, where the 1 is flagged, become 4 3
-- with clusters 1 0. The place between them is clear, and none was.
abbrev unordered : Glyphs
unordered = letter 4 1 0 ∷ letter 1 2 1 ∷ letter 2 0 0 ∷ []

none_clear : (n : ℕ) → 0 < n → n < 3 → IsClear unordered n → ⊥
none_clear zero some few clear = absurd (omega (arith, some))
none_clear (suc zero) some few clear = false≢true (sym clear.unflagged)
none_clear (suc (suc zero)) some few clear = false≢true (sym clear.unflagged)
none_clear (suc (suc (suc n))) some few clear = absurd (omega (arith, few))

row_unordered : (numbered : Numbering) (text : Buffer) (lookup : StageLookup)
    → LookupLeaves numbered text joining lookup (record text { glyphs = unordered }) → ⊥
row_unordered numbered text lookup leaves =
    let made = leaves (letter 4 1 0 ∷ []) (ligature (letter 1 2 1) (letter 2 0 0) ∷ []) (record {
      parts = refl;
      some_in_front = omega arith;
      some_behind = omega arith;
      clear = record { differ = λ e. absurd (omega (arith, e)); unflagged = refl };
    }) in
    let cut = made.pieces in
    none_clear (length made.before) cut.some_in_front
    (omega (arith, ap length cut.parts, length-append made.before made.behind, cut.some_behind)) cut.clear
