-- A text without attachments, positioned by its font's lookups, may be broken at every clear place.
use Rattle.std.proofs.Common.{ℕ, zero, suc, ◌+◌, ◌*◌, ◌/◌, ◌≡◌, inl, inr, if◌then◌else◌, not, set, ℤ, Bool, true, false, List, [], ◌∷◌, ◌++◌, length, map, Option, None, Some, refl, sym, ap, ◌∙◌, subst, arith}
use Rattle.std.specs.List.{AllByRecursion}
use Rattle.std.proofs.lemmas.List.{length-map, map-append, set-get_or}
use Rattle.shapers_base.specs.Font.{Font}
use Rattle.shapers_buffer.specs.Buffer.{Buffer}
use Rattle.shapers_buffer.specs.Glyph.{default_position}
use Rattle.shapers_buffer.specs.Glyphs.{Glyph, Glyphs}
use Rattle.shapers_buffer.specs.Properties.{high_byte}
use Rattle.shapers_buffer.specs.declared.buffer.glyph.GlyphPosition.{GlyphPosition}
use Rattle.shapers_buffer.specs.declared.buffer.level.Direction.{Direction}
use Rattle.shapers_choice.specs.Choice.{is_horizontal}
use Rattle.shapers_break_laws.specs.Pieces.{CutWhereClear}
use Rattle.shapers_editing.specs.PipelineBreaks.{IsPiece, Numbering, StagesLeavePieces}
use Rattle.shapers_pipeline.specs.ClusterLaws.{LookupsKeep}
use Rattle.shapers_pipeline.specs.Lookups.{LookupKeeps, looked_up}
use Rattle.shapers_pipeline.specs.Positioned.{Positioning, hangs_marks, is_early, is_late, lookups_if, marks_zeroed_if, text_advanced, text_narrowed, text_spaced, zeroing_of}
use Rattle.shapers_plan.specs.declared.ot_map.lookups.StageLookup.{StageLookup}
use Rattle.shapers_position.specs.Ignorables.{ignorable_zeroed, ignorables_zeroed, is_default_ignorable, without_extent}
use Rattle.shapers_position.specs.Metrics.{Metrics}
use Rattle.shapers_position.specs.Spaces.{is_space_glyph, space_placed, space_width}
use Rattle.shapers_position.specs.Widths.{advanced, hung_back, mark_zeroed, positions_changed, without_advance}
use Rattle.shapers_position.specs.declared.ot_shape_position.ignorables.DefaultIgnorables.{DefaultIgnorables}
use Rattle.shapers_position.specs.declared.ot_shape_position.ignorables.DefaultIgnorables.TheVariants.{Hide, Preserve, Remove}
use Rattle.opentype_face.specs.Lookups.{lookup_in}
use Rattle.opentype_gpos.specs.Finished.{chain_followed, drawn_place, finished, finished_from, is_backward, let_go, link_at, link_to, target_in}
use Rattle.opentype_gpos.specs.Kerned.{PlacedText}
use Rattle.opentype_gpos.specs.Moved.{Positions, is_vertical, position_at, with_value}
use Rattle.opentype_gpos.specs.declared.values.Value.{Value}
use Rattle.opentype_font.specs.Lookups.{application_for, is_gdef_mark, positioned_by, use_for}
use Rattle.opentype_font.specs.Proved.LookupLaws.{positioning_keeps, substituting_keeps}
use Rattle.opentype_break_laws.specs.FontPieces.{EachAt}
use Rattle.opentype_break_laws.specs.FontPositions.{FontPositionsBreak, FontStagesBreak, MovesByPieces}
use Rattle.opentype_break_laws.specs.Pairs.{pair_seen}
use Rattle.opentype_break_laws.specs.PlacedPieces.{BreaksWherePlaced, CutPlaced, IsPlacedPiece, IsPaired, LeavesPositions, placed_in}
use Rattle.opentype_break_laws.proofs.FontPieces.{runs_leave as substitutions_leave}
use Rattle.opentype_break_laws.proofs.FontPositions.{runs_leave, singles_move, still_placed, unmoved}
use Rattle.opentype_break_laws.proofs.LigatureModel.{all_back, all_front}
use Rattle.opentype_break_laws.proofs.PairPieces.{pairs_made}
use Rattle.opentype_break_laws.proofs.PairWalks.{all_along}
use Rattle.opentype_break_laws.proofs.PlacedPieces.{MovesEach, bare, bare_alike, changed_length, each_placed, first_same, same_leaves, second_same, then_placed}
use Rattle.opentype_break_laws.proofs.SingleMoves.{added_if, adjusted}

-- ---- NO ATTACHMENT

abbrev AreFree : Positions → Type 0
AreFree ps = AllByRecursion (λ p. p.var ≡ 0) ps

record IsReady (text b : Buffer) : Type 0 where
  pub placed : IsPaired text b
  pub free : AreFree b.positions

changed_free : (f : Glyph → GlyphPosition → GlyphPosition) → ((g : Glyph) (p : GlyphPosition) → (f g p).var ≡ p.var)
    → (gs : Glyphs) (ps : Positions) → AreFree ps → AreFree (positions_changed f gs ps)
changed_free f keeps [] [] free = tt
changed_free f keeps [] (p ∷ ps) free = tt
changed_free f keeps (g ∷ gs) [] free = tt
changed_free f keeps (g ∷ gs) (p ∷ ps) free = (keeps g p ∙ free.0, changed_free f keeps gs ps free.1)

ready_each : (text : Buffer) (f : Direction → Glyph → GlyphPosition → GlyphPosition) (step : Buffer → Buffer)
    → MovesEach f step → ((d : Direction) (g : Glyph) (p : GlyphPosition) → (f d g p).var ≡ p.var) → (b : Buffer)
    → IsReady text b → IsReady text (step b)
ready_each text f step moves keeps b ready =
    let paired = ready.placed.paired in
    subst (IsReady text) (sym (moves.each b paired)) (record {
      placed = record {
        paired = changed_length (f b.direction) b.glyphs b.positions paired;
        direction = ready.placed.direction;
      };
      free = changed_free (f b.direction) (keeps b.direction) b.glyphs b.positions ready.free;
    })

free_at : (ps : Positions) → AreFree ps → (at : ℕ) → (position_at ps at).var ≡ 0
free_at [] free zero = refl
free_at [] free (suc at) = refl
free_at (p ∷ ps) free zero = free.0
free_at (p ∷ ps) free (suc at) = free_at ps free.1 at

unlinked_at : (ps : Positions) (at : ℕ) → AreFree ps → link_at ps at ≡ None
unfolding link_at target_in
unlinked_at ps at free = ap (λ var. link_to var at (target_in var at (length ps))) (free_at ps free at)

let_go_none : (ps : Positions) (at : ℕ) → AreFree ps → let_go ps at ≡ ps
unfolding let_go
let_go_none ps at free =
    let p = position_at ps at in
    let none : p.var / 65536 * 65536 ≡ p.var = omega (arith, free_at ps free at) in
    let with_var : ℕ → GlyphPosition = λ n. record p { var = n } in
    ap (λ n. set ps at (with_var n)) none ∙ set-get_or ps at default_position

followed_none : (n : ℕ) (d : Direction) (ps : Positions) (at : ℕ) → AreFree ps → chain_followed (suc n) d ps at ≡ ps
unfolding chain_followed
followed_none n d ps at free = rw (unlinked_at ps at free) (let_go_none ps at free)

finished_none : (n : ℕ) (d : Direction) (ps : Positions) (i : ℕ) → AreFree ps → finished_from n d ps i ≡ ps
unfolding finished_from
finished_none zero d ps i free = refl
finished_none (suc n) d ps i free = ap (λ qs. finished_from n d qs (i + 1))
    (followed_none 63 d ps (drawn_place (is_backward d) (length ps) i) free) ∙ finished_none n d ps (i + 1) free

finish_none : (b : Buffer) → AreFree b.positions → finished b ≡ b
unfolding finished
finish_none b free = let put : Positions → Buffer = λ ps. record b { positions = ps } in
    ap put (finished_none (length b.positions) b.direction b.positions 0 free)

finished_leaves : (numbered : Numbering) (text b : Buffer) → AreFree b.positions
    → LeavesPositions numbered text finished b
finished_leaves numbered text b free front back cut =
    let IsFree : GlyphPosition → Type 0 = λ p. p.var ≡ 0 in
    let own = subst (λ (x : Buffer). CutPlaced (placed_in x) front back) (finish_none b free) cut in
    let all = subst AreFree own.positions free in
    let makes : (part : PlacedText) → AreFree part.positions → (one : Buffer) → IsPlacedPiece numbered text part one
    → IsPlacedPiece numbered text part (finished one) = λ part are one piece. subst (IsPlacedPiece numbered text part)
    (sym (finish_none one (subst AreFree (sym piece.positions) are))) piece in
    record {
      before = front;
      behind = back;
      pieces = own;
      first = makes front (all_front IsFree front.positions back.positions all);
      second = makes back (all_back IsFree front.positions back.positions all);
    }

-- ---- ADVANCES, by which positions begin

begun_alike : (a : Glyph → GlyphPosition) → ((g : Glyph) → a (bare g) ≡ a g) → (gs : Glyphs) → map a (map bare gs)
    ≡ map a gs
begun_alike a reads [] = refl
begun_alike a reads (g ∷ gs) = ap (λ x. x ∷ map a (map bare gs)) (reads g)
    ∙ ap (λ xs. a g ∷ xs) (begun_alike a reads gs)

-- a text whose positions are those of its glyphs
begun : (Direction → Glyph → GlyphPosition) → Buffer → Buffer
begun a b = record b { positions = map (a b.direction) b.glyphs }

piece_begun : (numbered : Numbering) (text : Buffer) (a : Direction → Glyph → GlyphPosition)
    → ((d : Direction) (g : Glyph) → a d (bare g) ≡ a d g) → (made : PlacedText)
    → map (a text.direction) made.glyphs ≡ made.positions → (one : Buffer) → IsPiece numbered text made.glyphs one
    → IsPlacedPiece numbered text made (begun a one)
unfolding begun
piece_begun numbered text a reads made is one piece =
    let d = text.direction in
    let alike = begun_alike (a d) (reads d) in
    record {
      same = piece.same;
      positions = ap (λ x. map (a x) one.glyphs) piece.direction ∙ sym (alike one.glyphs)
          ∙ ap (map (a d)) (bare_alike one.glyphs made.glyphs piece.same.glyphs) ∙ alike made.glyphs ∙ is;
      level = piece.level;
      direction = piece.direction;
      script = piece.script;
      room = piece.room;
    }

begun_breaks : (numbered : Numbering) (text : Buffer) (a : Direction → Glyph → GlyphPosition)
    → ((d : Direction) (g : Glyph) → a d (bare g) ≡ a d g) → (b : Buffer) → b.direction ≡ text.direction
    → BreaksWherePlaced Glyphs CutWhereClear (λ piece made. (one : Buffer) → IsPiece numbered text piece one
    → IsPlacedPiece numbered text made (begun a one)) b.glyphs (placed_in (begun a b))
unfolding begun
begun_breaks numbered text a reads b so front back cut =
    let change = a text.direction in
    let split : map change front.glyphs ++ map change back.glyphs ≡ front.positions ++ back.positions =
    sym (map-append change front.glyphs back.glyphs) ∙ ap (map change) (sym cut.glyphs.parts)
    ∙ ap (λ d. map (a d) b.glyphs) (sym so) ∙ cut.positions in
    let long : length (map change front.glyphs) ≡ length front.positions =
    length-map front.glyphs change ∙ sym cut.paired in
    record {
      before = front.glyphs;
      behind = back.glyphs;
      pieces = cut.glyphs;
      first = piece_begun numbered text a reads front (first_same _ _ _ _ long split);
      second = piece_begun numbered text a reads back (second_same _ _ _ _ long split);
    }

all_mapped : (a : Glyph → GlyphPosition) → ((g : Glyph) → (a g).var ≡ 0) → (gs : Glyphs) → AreFree (map a gs)
all_mapped a free [] = tt
all_mapped a free (g ∷ gs) = (free g, all_mapped a free gs)

begun_ready : (text : Buffer) (a : Direction → Glyph → GlyphPosition) → ((d : Direction) (g : Glyph) → (a d g).var ≡ 0)
    → (b : Buffer) → b.direction ≡ text.direction → IsReady text (begun a b)
unfolding begun
begun_ready text a free b so = record {
  placed = record { paired = length-map b.glyphs (a b.direction); direction = so };
  free = all_mapped (a b.direction) (free b.direction) b.glyphs;
}

-- ---- THE STEPS around GPOS

-- a step that may be taken: it changes each position by its own glyph, or does nothing
record KeepsReady (numbered : Numbering) (text : Buffer) (step : Buffer → Buffer) : Type 0 where
  pub leaves : (b : Buffer) → IsReady text b → LeavesPositions numbered text step b
  pub ready : (b : Buffer) → IsReady text b → IsReady text (step b)

by_each : (numbered : Numbering) (text : Buffer) (f : Direction → Glyph → GlyphPosition → GlyphPosition)
    (step : Buffer → Buffer) → MovesEach f step → ((d : Direction) (g : Glyph) (p : GlyphPosition) → (f d g p).var
    ≡ p.var)
    → KeepsReady numbered text step
by_each numbered text f step moves keeps = record {
  leaves = λ b ready. each_placed numbered text f step moves b ready.placed;
  ready = ready_each text f step moves keeps;
}

by_none : (numbered : Numbering) (text : Buffer) → KeepsReady numbered text (λ b. b)
by_none numbered text = record { leaves = λ b ready. same_leaves numbered text b; ready = λ b ready. ready }

-- a space is as wide as it should be
spaced : Font → Metrics → Buffer → Buffer
spaced font metrics b =
    record b {
      positions = positions_changed (space_placed font metrics
          (is_horizontal b.direction)) b.glyphs b.positions;
    }

kept_space : (is_space horizontal : Bool) (width : ℤ → ℤ) (p : GlyphPosition) → (if not is_space then p
    else if horizontal then (let x : GlyphPosition = record p { x_advance = width p.x_advance } in x)
    else (let y : GlyphPosition = record p { y_advance = width p.y_advance } in y)).var ≡ p.var
kept_space false horizontal width p = refl
kept_space true true width p = refl
kept_space true false width p = refl

space_keeps : (font : Font) (metrics : Metrics) (horizontal : Bool) (g : Glyph) (p : GlyphPosition)
    → (space_placed font metrics horizontal g p).var ≡ p.var
space_keeps font metrics horizontal g p =
    kept_space (is_space_glyph g) horizontal (space_width font metrics horizontal (high_byte g.unicode_props)) p

by_spaces : (numbered : Numbering) (text : Buffer) (font : Font) (metrics : Metrics)
    → KeepsReady numbered text (spaced font metrics)
unfolding bare spaced
by_spaces numbered text font metrics = by_each numbered text (λ d. space_placed font metrics (is_horizontal d))
    (spaced font metrics) (record { each = λ b paired. refl; reads = λ d. record { bared = λ g p. refl } })
    (λ d. space_keeps font metrics (is_horizontal d))

-- marks lose their advances
marks_keep : (is_mark hangs : Bool) (p : GlyphPosition)
    → (if is_mark then without_advance (if hangs then hung_back p else p) else p).var ≡ p.var
marks_keep false hangs p = refl
marks_keep true true p = refl
marks_keep true false p = refl

by_marks : (numbered : Numbering) (text : Buffer) (now : Bool) (is_mark : Glyph → Bool) (applies : Bool)
    → is_mark ≡ is_gdef_mark → KeepsReady numbered text (marks_zeroed_if now is_mark applies)
unfolding bare
by_marks numbered text false is_mark applies is = by_none numbered text
by_marks numbered text true is_mark applies is =
    by_each numbered text (λ d. mark_zeroed is_mark (hangs_marks applies d)) (marks_zeroed_if true is_mark applies)
    (record { each = λ b paired. refl; reads = λ d. record { bared = λ g p. rw is refl } })
    (λ d g p. marks_keep (is_mark g) (hangs_marks applies d) p)

-- so do glyphs that need not be drawn
narrowed : DefaultIgnorables → Buffer → Buffer
narrowed ignorables b = record b { positions = ignorables_zeroed ignorables b.direction b.glyphs b.positions }

ignorables_keep : (ignorable horizontal : Bool) (p : GlyphPosition)
    → (if ignorable then without_extent horizontal p else p).var ≡ p.var
ignorables_keep false horizontal p = refl
ignorables_keep true true p = refl
ignorables_keep true false p = refl

by_ignorables : (numbered : Numbering) (text : Buffer) (ignorables : DefaultIgnorables)
    → KeepsReady numbered text (narrowed ignorables)
unfolding bare narrowed
by_ignorables numbered text Hide =
    by_each numbered text (λ d. ignorable_zeroed (is_horizontal d)) (narrowed Hide)
    (record { each = λ b paired. refl; reads = λ d. record { bared = λ g p. refl } })
    (λ d g p. ignorables_keep (is_default_ignorable g) (is_horizontal d) p)
by_ignorables numbered text Preserve = by_none numbered text
by_ignorables numbered text Remove = by_none numbered text

advance_free : (font : Font) (metrics : Metrics) (horizontal : Bool) (g : Glyph)
    → (advanced font metrics horizontal g).var ≡ 0
advance_free font metrics true g = refl
advance_free font metrics false g = refl

-- ---- THE LOOKUPS

value_keeps : (vertical : Bool) (value : Value) (p : GlyphPosition) → (with_value vertical value p).var ≡ p.var
unfolding with_value
value_keeps true value p = refl
value_keeps false value p = refl

added_keeps : (d : Direction) (seen : Bool) (found : Option Value) (p : GlyphPosition)
    → (added_if d seen found p).var ≡ p.var
added_keeps d true (Some value) p = value_keeps (is_vertical d) value p
added_keeps d true None p = refl
added_keeps d false found p = refl

lookup_ready : (text : Buffer) (gdef gpos : List ℕ) (lookup : StageLookup) (b : Buffer) → IsReady text b
    → MovesByPieces gdef gpos lookup b → IsReady text (positioned_by gdef gpos lookup b)
lookup_ready text gdef gpos lookup b ready moves = elim moves [
  | inl adjusts ↦ ready_each text (adjusted gdef (lookup_in gpos lookup.index) lookup.mask)
      (positioned_by gdef gpos lookup)
      (singles_move gdef gpos lookup adjusts) (λ d g p. added_keeps d _ _ p) b ready
  | inr others ↦ elim others [
    | inl nothing ↦ subst (IsReady text) (sym (unmoved gdef gpos lookup b ready.placed.paired nothing.passed)) ready
    | inr pairs ↦ record {
      placed = still_placed text b (positioned_by gdef gpos lookup b)
          (positioning_keeps gdef gpos lookup.index (application_for lookup) b) ready.placed;
      free = subst AreFree (sym (pairs_made gdef gpos lookup b pairs.0)) (all_along (λ p. p.var ≡ 0)
          (record { each = λ vertical v p e. value_keeps vertical v p ∙ e }) (length b.glyphs) b.direction
          (pair_seen gdef (lookup_in gpos lookup.index) (application_for lookup) b.glyphs) (length b.glyphs) b.positions 0
          ready.free);
    }
  ]
]

run_ready : (text : Buffer) (gdef gpos : List ℕ) (list : List StageLookup) (b : Buffer) → IsReady text b
    → EachAt (MovesByPieces gdef gpos) (positioned_by gdef gpos) list b
    → IsReady text (looked_up (positioned_by gdef gpos) list b)
run_ready text gdef gpos [] b ready each = ready
run_ready text gdef gpos (x ∷ xs) b ready each = run_ready text gdef gpos xs (positioned_by gdef gpos x b)
    (lookup_ready text gdef gpos x b ready each.0) each.1

-- ---- ALL

abbrev advances : Positioning → Direction → Glyph → GlyphPosition
advances p d = advanced p.font p.metrics (is_horizontal d)

pub texts_break : FontPositionsBreak
unfolding begun spaced narrowed bare
texts_break numbered text p gdef gpos b is so each =
    let list = lookups_if p.applies_gpos p.list in
    let zeroed : Bool → Buffer → Buffer = λ now. marks_zeroed_if now p.is_mark p.applies_gpos in
    let spaces = by_spaces numbered text p.font p.metrics in
    let early = by_marks numbered text (is_early (zeroing_of p.shaper)) p.is_mark p.applies_gpos is.marks in
    let late = by_marks numbered text (is_late (zeroing_of p.shaper)) p.is_mark p.applies_gpos is.marks in
    let narrow = by_ignorables numbered text p.ignorables in
    let one = begun_ready text (advances p) (λ d. advance_free p.font p.metrics (is_horizontal d)) b so in
    let two = spaces.ready _ one in
    let three = early.ready _ two in
    let looked = text_advanced p b in
    let own = subst (λ f. EachAt (MovesByPieces gdef gpos) f list looked) is.lookups each in
    let four = subst (λ f. IsReady text (looked_up f list looked)) (sym is.lookups)
    (run_ready text gdef gpos list looked three own) in
    let five = late.ready _ four in
    let six = narrow.ready _ five in
    let by_lookups = subst (λ f. LeavesPositions numbered text (looked_up f list) looked) (sym is.lookups)
    (runs_leave numbered text gdef gpos list looked three.placed own) in
    let by_finish = subst (λ f. LeavesPositions numbered text f (text_narrowed p b)) (sym is.attachments)
    (finished_leaves numbered text (text_narrowed p b) six.free) in
    let behind : (first second : Buffer → Buffer) → BreaksWherePlaced Glyphs CutWhereClear (λ piece made. (one : Buffer)
    → IsPiece numbered text piece one → IsPlacedPiece numbered text made (first one)) b.glyphs (placed_in (first b))
    → LeavesPositions numbered text second (first b) → BreaksWherePlaced Glyphs CutWhereClear
    (λ piece made. (one : Buffer) → IsPiece numbered text piece one
    → IsPlacedPiece numbered text made (second (first one))) b.glyphs (placed_in (second (first b))) =
    λ first second. then_placed CutWhereClear (IsPiece numbered text) numbered text first second b.glyphs b in
    behind (text_narrowed p) p.finished
    (behind (λ x. zeroed (is_late (zeroing_of p.shaper)) (looked_up p.positioned list (text_advanced p x)))
    (narrowed p.ignorables)
    (behind (λ x. looked_up p.positioned list (text_advanced p x)) (zeroed (is_late (zeroing_of p.shaper)))
    (behind (text_advanced p) (looked_up p.positioned list)
    (behind (text_spaced p.font p.metrics) (zeroed (is_early (zeroing_of p.shaper)))
    (behind (begun (advances p)) (spaced p.font p.metrics)
    (begun_breaks numbered text (advances p) (λ d g. refl) b so)
    (spaces.leaves _ one)) (early.leaves _ two)) by_lookups) (late.leaves _ four)) (narrow.leaves _ five)) by_finish

-- behind the stages of lookups of GSUB
pub staged_break : StagesLeavePieces → FontStagesBreak
staged_break law numbered text gdef gsub gpos r ss p old new font is so run lookups pauses each front back cut =
    let keep : LookupsKeep r.substituted = λ lookup b none. subst (λ f. LookupKeeps b (f lookup b)) (sym font)
    (substituting_keeps gdef gsub (use_for lookup) b) in
    let placed = texts_break numbered text p gdef gpos new is so each front back cut in
    let staged = law numbered text r ss old new keep run (substitutions_leave numbered text gdef gsub r ss old new font run
    lookups) pauses placed.before placed.behind placed.pieces in
    record {
      before = staged.before;
      behind = staged.behind;
      pieces = staged.pieces;
      first = λ one two piece through. placed.first two (staged.first one two piece through);
      second = λ one two piece through. placed.second two (staged.second one two piece through);
    }
