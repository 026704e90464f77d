-- Short texts without ignorable glyphs: lookups of pairs move them piece by piece.
use Rattle.std.proofs.Common.{Bool, List, None, Option, Some, [], ap, arith, bit_and, drop, false, if◌then◌else◌, inl, inr, length, not, refl, subst, sym, true, ℕ, ◌%◌, ◌&&◌, ◌+◌, ◌-◌, ◌==◌, ◌||◌, ◌∙◌, ◌∷◌, ◌≡◌, ◌⊎◌}
use Rattle.std.proofs.lemmas.Bool.{false≢true}
use Rattle.std.specs.List.{AllByRecursion}
use Rattle.shapers_buffer.specs.Buffer.{Buffer}
use Rattle.shapers_buffer.specs.Glyphs.{Glyph, Glyphs}
use Rattle.shapers_buffer.specs.Properties.{is_ignorable}
use Rattle.shapers_buffer.specs.declared.buffer.glyph.GlyphPosition.{GlyphPosition}
use Rattle.shapers_buffer.specs.declared.buffer.level.Direction.{Direction}
use Rattle.shapers_pipeline.specs.Lookups.{unplaced}
use Rattle.shapers_plan.specs.declared.ot_map.lookups.StageLookup.{StageLookup}
use Rattle.shapers_position.specs.Widths.{positions_changed}
use Rattle.opentype_face.specs.Lookups.{lookup_in, mark_set_in}
use Rattle.opentype_font.specs.Lookups.{application_for, positioned_by}
use Rattle.opentype_font.specs.Proved.LookupLaws.{positioning_keeps}
use Rattle.opentype_gpos.specs.Moved.{Positions, is_vertical}
use Rattle.opentype_gpos.specs.Nearby.{any_seen}
use Rattle.opentype_gpos.specs.declared.moves.PairMove.{PairMove}
use Rattle.opentype_gpos.specs.declared.values.Value.{Value}
use Rattle.opentype_layout.specs.Sight.{flag_in, ignores, is_passed, may_pass, seen_as, sight_of_input, syllable_in}
use Rattle.opentype_layout.specs.Text.{glyph_at}
use Rattle.opentype_layout.specs.declared.sight.Application.{Application}
use Rattle.opentype_layout.specs.declared.sight.Sight.{Sight}
use Rattle.opentype_break_laws.proofs.ContextSteps.{both_true}
use Rattle.opentype_break_laws.proofs.ContextWalk.{all_index}
use Rattle.opentype_break_laws.proofs.FontPositions.{as_many, singles_move}
use Rattle.opentype_break_laws.proofs.LigatureViews.{AlikeTo, alike_long, head_or}
use Rattle.opentype_break_laws.proofs.PairFinds.{found_with, next_passed, next_second, second_inside}
use Rattle.opentype_break_laws.proofs.PairPieces.{pairs_made}
use Rattle.opentype_break_laws.proofs.PairSteps.{AreOfNumbers, end_by, value_numbers}
use Rattle.opentype_break_laws.proofs.PairWalks.{KeptByValues, all_along}
use Rattle.opentype_break_laws.proofs.SingleMoves.{added_if, adjusted, value_for}
use Rattle.opentype_break_laws.specs.FontPositions.{AdjustsSingles, ShortTextsMoveByPieces}
use Rattle.opentype_break_laws.specs.Pairs.{IsOfNumbers, IsShortText, MovesPairs, ShortTextsTakePairs, pair_seen, sees}

-- ---- ONE LOOKUP

not_passed : (ignored fits hidden : Bool) → not ignored ≡ true → hidden ≡ false
    → is_passed (if ignored then None else (if fits then Some true else (if hidden then None else Some false))) ≡ true → ⊥
not_passed true fits hidden one two e = false≢true one
not_passed false true hidden one two e = false≢true e
not_passed false false true one two e = false≢true (sym two)
not_passed false false false one two e = false≢true e

seen_not_passed : (gdef table : List ℕ) (how : Application) (g : Glyph) → sees gdef table how.mask g ≡ true
    → may_pass (sight_of_input gdef table how 0) g ≡ false
    → is_passed (any_seen gdef (sight_of_input gdef table how 0) g) ≡ true → ⊥
unfolding any_seen seen_as sight_of_input
seen_not_passed gdef table how g seen shown passed =
    let ignored = ignores gdef (flag_in gdef table) (mark_set_in table) g in
    let both = both_true (not (bit_and g.mask how.mask == 0)) (not ignored) seen in
    not_passed ignored (not (may_pass (sight_of_input gdef table how 0) g) && not (bit_and g.mask how.mask == 0)
    && ((syllable_in how 0 == 0) || (syllable_in how 0 == g.syllable))) (may_pass (sight_of_input gdef table how 0) g)
    both.1 shown passed

seen_at : {X : Type 0} (seen : Bool) (o : Option X) (x : X) → (if seen then o else None) ≡ Some x → seen ≡ true
seen_at true o x e = refl
seen_at false o x e = absurd (cc)

pair_sees : (gdef table : List ℕ) (how : Application) (gs : Glyphs) (at : ℕ) (m : PairMove)
    → pair_seen gdef table how gs at ≡ Some m → sees gdef table how.mask (glyph_at gs at) ≡ true
unfolding pair_seen
pair_sees gdef table how gs at m e = seen_at (sees gdef table how.mask (glyph_at gs at)) (found_with gdef table how gs at) m e

bits_off : (a b c d e : Bool) → a ≡ false → (a && b && c && d && e) ≡ false
bits_off a b c d e off = ap (λ x. x && b && c && d && e) off

drawn_not_passed : (sight : Sight) (g : Glyph) → is_ignorable g.unicode_props ≡ false → may_pass sight g ≡ false
unfolding may_pass
drawn_not_passed sight g off = bits_off (is_ignorable g.unicode_props) _ _ _ _ off

pub short_texts : ShortTextsTakePairs
short_texts gdef gpos lookup b is =
    let table = lookup_in gpos lookup.index in
    let how = application_for lookup in
    let sight = sight_of_input gdef table how 0 in
    let gs = b.glyphs in
    record {
      short = λ at pair e holds. omega (
        arith,
        is.few,
        (end_by pair.has_second pair.second (length gs) (second_inside gdef table how gs at pair e)).1,
      );
      idle = λ at inside pair other e loose low high r. absurd (seen_not_passed gdef table how (glyph_at gs inside)
          (pair_sees gdef table how gs inside other r)
          (drawn_not_passed sight (glyph_at gs inside)
          (all_index (λ g. is_ignorable g.unicode_props ≡ false) gs is.drawn inside (omega (
            arith,
            high,
            second_inside gdef table how gs at pair e,
          ))))
          (next_passed (length gs - (at + 1)) (λ i. any_seen gdef sight (glyph_at gs i)) (at + 1) pair.second inside
          (next_second gdef table how gs at pair e) (omega (arith, low)) high));
      numbers = is.numbers;
    }

-- ---- A RUN of lookups there

all_viewed : (v : Glyph → Glyph) (P : Glyph → Type 0) → ((g h : Glyph) → v g ≡ v h → P h → P g) → (new old : Glyphs)
    → AlikeTo v new old → AllByRecursion P old → AllByRecursion P new
all_viewed v P on [] old e all = tt
all_viewed v P on (g ∷ gs) [] e all = absurd (omega (arith, ap length e))
all_viewed v P on (g ∷ gs) (h ∷ hs) e all = (on g h (ap head_or e) all.0, all_viewed v P on gs hs (ap (drop 1) e) all.1)

numbers_by_values : KeptByValues IsOfNumbers
numbers_by_values = record { each = λ vertical v p is. value_numbers vertical v p is }

adjusted_numbers : (d : Direction) (seen : Bool) (found : Option Value) (p : GlyphPosition) → IsOfNumbers p
    → IsOfNumbers (added_if d seen found p)
adjusted_numbers d true (Some v) p is = value_numbers (is_vertical d) v p is
adjusted_numbers d true None p is = is
adjusted_numbers d false found p is = is

changed_numbers : (f : Glyph → GlyphPosition → GlyphPosition) → ((g : Glyph) (p : GlyphPosition) → IsOfNumbers p
    → IsOfNumbers (f g p))
    → (gs : Glyphs) (ps : Positions) → AreOfNumbers ps → AreOfNumbers (positions_changed f gs ps)
changed_numbers f keeps [] [] all = tt
changed_numbers f keeps [] (p ∷ ps) all = tt
changed_numbers f keeps (g ∷ gs) [] all = tt
changed_numbers f keeps (g ∷ gs) (p ∷ ps) all = (keeps g p all.0, changed_numbers f keeps gs ps all.1)

abbrev SingleOrPairs : List ℕ → StageLookup → Type 0
SingleOrPairs gpos lookup = AdjustsSingles gpos lookup ⊎ MovesPairs gpos lookup

numbers_on : (gdef gpos : List ℕ) (lookup : StageLookup) (b : Buffer) → SingleOrPairs gpos lookup
    → length b.positions ≡ length b.glyphs → AreOfNumbers b.positions
    → AreOfNumbers (positioned_by gdef gpos lookup b).positions
numbers_on gdef gpos lookup b (inl adjusts) paired all =
    let table = lookup_in gpos lookup.index in
    subst (λ (x : Buffer). AreOfNumbers x.positions) (sym ((singles_move gdef gpos lookup adjusts).each b paired))
    (changed_numbers (adjusted gdef table lookup.mask b.direction)
    (λ g p is. adjusted_numbers b.direction (sees gdef table lookup.mask g) (value_for table (g.glyph_id % 65536)) p is)
    b.glyphs b.positions all)
numbers_on gdef gpos lookup b (inr pairs) paired all =
    subst AreOfNumbers (sym (pairs_made gdef gpos lookup b pairs)) (all_along IsOfNumbers numbers_by_values (length b.glyphs)
    b.direction (pair_seen gdef (lookup_in gpos lookup.index) (application_for lookup) b.glyphs) (length b.glyphs)
    b.positions 0 all)

short_on : (gdef gpos : List ℕ) (lookup : StageLookup) (b : Buffer) → SingleOrPairs gpos lookup
    → length b.positions ≡ length b.glyphs → IsShortText b → IsShortText (positioned_by gdef gpos lookup b)
short_on gdef gpos lookup b kind paired is =
    let new = positioned_by gdef gpos lookup b in
    let keeps = positioning_keeps gdef gpos lookup.index (application_for lookup) b in
    record {
      few = omega (arith, is.few, alike_long unplaced new.glyphs b.glyphs keeps.glyphs);
      drawn = all_viewed unplaced (λ g. is_ignorable g.unicode_props ≡ false)
          (λ g h e off. ap (λ (x : Glyph). is_ignorable x.unicode_props) e ∙ off) new.glyphs b.glyphs keeps.glyphs is.drawn;
      numbers = numbers_on gdef gpos lookup b kind paired is.numbers;
    }

pub short_go : ShortTextsMoveByPieces
short_go gdef gpos [] b all paired is = tt
short_go gdef gpos (x ∷ xs) b all paired is =
    let new = positioned_by gdef gpos x b in
    let rest = short_go gdef gpos xs new all.1
    (as_many b new (positioning_keeps gdef gpos x.index (application_for x) b) paired)
    (short_on gdef gpos x b all.0 paired is) in
    elim all.0 [
      | inl adjusts ↦ (inl adjusts, rest)
      | inr pairs ↦ (inr (inr (pairs, short_texts gdef gpos x b is)), rest)
    ]
