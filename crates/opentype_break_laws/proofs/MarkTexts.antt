-- Texts whose marks lookups attach to bases: the positions are those of the pieces, side by side.
use Rattle.std.proofs.Common.{Bool, List, None, Option, Some, [], ap, arith, drop, if◌then◌else◌, inl, inr, length, length-append, length-take-le, nat_le, nat_lt, option_map, refl, subst, sym, take, take-append-drop, true, ℕ, ◌&&◌, ◌++◌, ◌+◌, ◌-◌, ◌<◌, ◌∙◌, ◌≡◌}
use Rattle.std.proofs.lemmas.Bool.Decides.{nat_tests}
use Rattle.shapers_buffer.specs.Buffer.{Buffer}
use Rattle.shapers_buffer.specs.Glyphs.{Glyph, Glyphs}
use Rattle.shapers_buffer.specs.Properties.{component}
use Rattle.shapers_buffer.specs.declared.buffer.glyph.GlyphPosition.{GlyphPosition}
use Rattle.shapers_editing.specs.PipelineBreaks.{Numbering}
use Rattle.shapers_plan.specs.declared.ot_map.lookups.StageLookup.{StageLookup}
use Rattle.opentype_face.specs.Lookups.{lookup_in}
use Rattle.opentype_font.specs.Lookups.{application_for, positioned_by}
use Rattle.opentype_gpos.specs.Along.{applied_along, setting_for}
use Rattle.opentype_gpos.specs.Kerned.{PlacedText}
use Rattle.opentype_gpos.specs.Moved.{Positions, detached, stored_attachment, with_mark_move}
use Rattle.opentype_gpos.specs.declared.moves.MarkMove.{MarkMove}
use Rattle.shapers_clusters.specs.Breaks.{IsClear}
use Rattle.opentype_layout.specs.Text.{glyph_at}
use Rattle.opentype_layout.specs.declared.sight.Application.{Application}
use Rattle.opentype_break_laws.proofs.ContextPieces.{alike_made, back_part, cut_kept, essence_of, front_part}
use Rattle.opentype_break_laws.proofs.ContextSteps.{ClearAt, staying_view}
use Rattle.opentype_break_laws.proofs.LigatureFits.{IsPartOf, essence}
use Rattle.opentype_break_laws.proofs.LigatureModel.{all_back, all_front}
use Rattle.opentype_break_laws.proofs.LigatureViews.{AlikeTo, alike_long}
use Rattle.opentype_break_laws.proofs.MarkFinds.{hung_before, hung_with}
use Rattle.opentype_break_laws.proofs.MarkPieces.{WalksMarks, mark_agrees, mark_placed, marks_along, marked_alike, marked_append, marked_long, moved_by_mark, walks_marks}
use Rattle.opentype_break_laws.proofs.PairFinds.{IsOfFeatures, seen_pair}
use Rattle.opentype_break_laws.proofs.PairPieces.{essence_cut, made_is, of_features, put_in_buffer, walked}
use Rattle.opentype_break_laws.proofs.PairWalks.{pair_step}
use Rattle.opentype_break_laws.proofs.PlacedPieces.{first_same, second_same}
use Rattle.opentype_break_laws.specs.Marks.{AttachesToBases, FontMarksLeavePositions, ShortTextsTakeMarks, mark_at}
use Rattle.opentype_break_laws.specs.OrderedTexts.{HasNoComponents}
use Rattle.opentype_break_laws.specs.Pairs.{sees}
use Rattle.opentype_break_laws.specs.PlacedPieces.{CutPlaced, IsPlacedPiece, MakesPlaced, placed_in}

-- ---- A MARK in a part is placed as in the text

placed_by : Bool → ℕ → MarkMove → GlyphPosition → GlyphPosition
placed_by b n m p =
    if b && nat_le n 32768 then record p { x_offset = m.x; y_offset = m.y; var = stored_attachment (65536 - n) 1 }
    else detached p

placed_moved : (from i : ℕ) (m : MarkMove) (p : GlyphPosition) → m.to < i
    → with_mark_move (moved_by_mark from m) (from + i) p ≡ with_mark_move m i p
unfolding with_mark_move placed_by
placed_moved from i m p lt =
    let one : nat_lt (from + m.to) (from + i) ≡ true = grind (arith, nat_tests, lt) in
    let two : nat_lt m.to i ≡ true = grind (arith, nat_tests, lt) in
    let same : from + i - (from + m.to) ≡ i - m.to = omega arith in
    ap (λ b. placed_by b (from + i - (from + m.to)) m p) one ∙ ap (λ n. placed_by true n m p) same
    ∙ ap (λ b. placed_by b (i - m.to) m p) (sym two)

all_moved : (from i : ℕ) (a : Option MarkMove) (p : GlyphPosition) → ((m : MarkMove) → a ≡ Some m → m.to < i)
    → mark_placed (option_map (moved_by_mark from) a) (from + i) p ≡ mark_placed a i p
all_moved from i None p before = refl
all_moved from i (Some m) p before = placed_moved from i m p (before m refl)

mark_before : (gdef table : List ℕ) (how : Application) (gs : Glyphs) (i : ℕ) (m : MarkMove)
    → mark_at gdef table how gs i ≡ Some m → m.to < i
unfolding mark_at
mark_before gdef table how gs i m e = hung_before gdef table how gs i m
    (seen_pair (sees gdef table how.mask (glyph_at gs i)) (hung_with gdef table how gs i) m e)

-- where no mark of the text is attached across the part's start
part_same : (gdef table : List ℕ) (how : Application) (hs gs : Glyphs) (from : ℕ) → IsOfFeatures how → IsPartOf hs gs from
    → ((j : ℕ) (m : MarkMove) → j < length hs → mark_at gdef table how gs (from + j) ≡ Some m → m.to < from → ⊥)
    → (j : ℕ) (p : GlyphPosition) → j < length hs → mark_placed (mark_at gdef table how gs (from + j)) (from + j) p
    ≡ mark_placed (mark_at gdef table how hs j) j p
part_same gdef table how hs gs from is part never j p lt = elim (mark_agrees gdef table how hs gs from j is part lt) [
  | inl same ↦ ap (λ o. mark_placed o (from + j) p) same
      ∙ all_moved from j (mark_at gdef table how hs j) p (λ m e. mark_before gdef table how hs j m e)
  | inr far ↦ absurd (never j far.0 lt far.1.0 far.1.1)
]

-- ---- A TEXT'S PIECES

abbrev IsFree : Glyph → Type 0
IsFree g = component g.lig_props ≡ 0

mark_becomes : (numbered : Numbering) (text : Buffer) (gdef gpos : List ℕ) (lookup : StageLookup)
    (part : Glyphs) (qs : Positions) (made : PlacedText) → AttachesToBases gpos lookup → HasNoComponents part
    → length qs ≡ length part → AlikeTo staying_view made.glyphs part → AlikeTo essence made.glyphs part
    → marks_along (mark_at gdef (lookup_in gpos lookup.index) (application_for lookup) part) 0 qs ≡ made.positions
    → MakesPlaced numbered text (positioned_by gdef gpos lookup) (record { glyphs = part; positions = qs }) made
unfolding put_in_buffer
mark_becomes numbered text gdef gpos lookup part qs made attaches none paired kept same is one piece =
    let table = lookup_in gpos lookup.index in
    let how = application_for lookup in
    let s = setting_for gdef gpos how one in
    let act = mark_at gdef table how part in
    let alike = essence_of one.glyphs part piece.same.glyphs in
    let long : length one.positions ≡ length one.glyphs =
    omega (arith, ap length piece.positions, paired, alike_long essence one.glyphs part alike) in
    let sum : 0 + length one.positions ≡ length one.glyphs = omega (arith, long) in
    let it = subst (λ n. WalksMarks act one.glyphs 0 (marks_along act 0 one.positions)
    (applied_along n (pair_step s table) one.glyphs one.positions 0)) long
    (walks_marks s table attaches.types (of_features lookup attaches.flagless) part none one.positions one.glyphs [] 0 alike
    refl sum) in
    let end = walked gdef gpos lookup one in
    subst (IsPlacedPiece numbered text made) (sym (made_is gdef gpos lookup one)) (record {
      same = alike_made numbered one.glyphs part end.glyphs made.glyphs piece.same it.only.comes.kept kept
          (it.only.same ∙ alike ∙ sym same);
      positions = it.positions ∙ ap (marks_along act 0) piece.positions ∙ is;
      level = piece.level;
      direction = piece.direction;
      script = piece.script;
      room = piece.room;
    })

pub marks_leave : FontMarksLeavePositions
unfolding put_in_buffer
marks_leave numbered text gdef gpos lookup b is attaches takes front back cut =
    let table = lookup_in gpos lookup.index in
    let how = application_for lookup in
    let s = setting_for gdef gpos how b in
    let gs = b.glyphs in
    let features = of_features lookup attaches.flagless in
    let act = mark_at gdef table how gs in
    let end = walked gdef gpos lookup b in
    let own = subst (λ (x : Buffer). CutPlaced (placed_in x) front back) (made_is gdef gpos lookup b) cut in
    let count : 0 + length b.positions ≡ length gs = omega (arith, is.paired) in
    let whole = subst (λ n. WalksMarks act gs 0 (marks_along act 0 b.positions)
    (applied_along n (pair_step s table) gs b.positions 0)) is.paired
    (walks_marks s table attaches.types features gs takes.components b.positions gs [] 0 refl refl count) in
    let it = cut_kept gs end.glyphs front.glyphs back.glyphs whole.only.comes own.glyphs in
    let before = it.before in
    let behind = it.behind in
    let p = length before in
    let parts = it.pieces.parts in
    let front_long : length front.glyphs ≡ p = alike_long staying_view front.glyphs before it.first in
    let alike = essence_cut gs end.glyphs front.glyphs back.glyphs before behind whole.only.same own.glyphs.parts parts
    front_long in
    let sum : length gs ≡ p + length behind = ap length parts ∙ length-append before behind in
    let free = subst HasNoComponents parts takes.components in
    let qs = take p b.positions in
    let rs = drop p b.positions in
    let split : qs ++ rs ≡ b.positions = take-append-drop p b.positions in
    let long : length qs ≡ p = length-take-le p b.positions (omega (arith, is.paired, sum)) in
    let rest : length rs ≡ length behind = omega (arith, ap length split, length-append qs rs, long, is.paired, sum) in
    let clear : ClearAt end.glyphs p = λ some lt. subst (IsClear end.glyphs) front_long own.glyphs.clear in
    let first = marks_along (mark_at gdef table how before) 0 qs in
    let second = marks_along (mark_at gdef table how behind) 0 rs in
    let one = part_same gdef table how before gs 0 features (front_part gs before behind before parts refl)
    (λ j m lt e far. absurd (omega (arith, far))) in
    let two = part_same gdef table how behind gs p features (back_part gs before behind behind before parts refl refl)
    (λ j m lt e far. whole.flagged (p + j) m p (omega arith) (omega (arith, lt, sum)) e
    (mark_before gdef table how gs (p + j) m e) (takes.short (p + j) m (omega (arith, lt, sum)) e) clear far (omega arith)) in
    let front_same : marks_along act 0 qs ≡ first = marked_alike act (mark_at gdef table how before) 0 0 qs
    (λ j x low high. one j x (omega (arith, high, long))) in
    let place : 0 + length qs ≡ p + 0 = omega (arith, long) in
    let back_same : marks_along act (0 + length qs) rs ≡ second = ap (λ k. marks_along act k rs) place
    ∙ marked_alike act (mark_at gdef table how behind) p 0 rs (λ j x low high. two j x (omega (arith, high, rest))) in
    let got : first ++ second ≡ front.positions ++ back.positions =
    sym (ap (λ x. x ++ marks_along act (0 + length qs) rs) front_same ∙ ap (λ x. first ++ x) back_same)
    ∙ sym (marked_append act 0 qs rs) ∙ ap (marks_along act 0) split ∙ sym whole.positions ∙ own.positions in
    let beside : length first ≡ length front.positions = marked_long (mark_at gdef table how before) 0 qs ∙ long
    ∙ sym front_long ∙ sym own.paired in
    record {
      before = record { glyphs = before; positions = qs };
      behind = record { glyphs = behind; positions = rs };
      pieces = record { glyphs = it.pieces; positions = sym split; paired = long };
      first = mark_becomes numbered text gdef gpos lookup before qs front attaches (all_front IsFree before behind free) long
          it.first alike.first (first_same first second front.positions back.positions beside got);
      second = mark_becomes numbered text gdef gpos lookup behind rs back attaches (all_back IsFree before behind free) rest
          it.second alike.second (second_same first second front.positions back.positions beside got);
    }

pub short_marks : ShortTextsTakeMarks
short_marks gdef gpos lookup b none few = record {
  components = none;
  short = λ at mark lt e. omega (arith, few, lt);
}
