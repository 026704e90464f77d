-- A font's lookups that adjust single glyphs or move nothing leave the positions of a text's pieces side by side.
use Rattle.std.proofs.Common.{ℕ, zero, suc, ◌%◌, ◌<◌, ◌≡◌, ◌==◌, ◌&&◌, inl, inr, not, true, List, [], ◌∷◌, length, refl, sym, ap, ◌∙◌, subst, arith, length-append}
use Rattle.std.specs.List.{AllByRecursion}
use Rattle.std.proofs.lemmas.List.{length-map}
use Rattle.shapers_buffer.specs.Buffer.{Buffer}
use Rattle.shapers_buffer.specs.Glyphs.{Glyph, Glyphs}
use Rattle.shapers_buffer.specs.declared.buffer.level.Direction.{Direction}
use Rattle.shapers_break_laws.proofs.MaskReads.{mask_read}
use Rattle.shapers_position.specs.Widths.{positions_changed}
use Rattle.shapers_plan.specs.declared.ot_map.lookups.StageLookup.{StageLookup}
use Rattle.shapers_editing.specs.PipelineBreaks.{Numbering, SameButNumbers}
use Rattle.shapers_pipeline.specs.Lookups.{PositionKeeps, looked_up, unplaced}
use Rattle.opentype_face.specs.Lookups.{lookup_in, mark_set_in}
use Rattle.opentype_layout.specs.Sight.{flag_in, ignores}
use Rattle.opentype_layout.specs.Starts.{IsPassed}
use Rattle.opentype_layout.specs.Text.{glyph_at}
use Rattle.opentype_gpos.specs.Along.{position_stepped, positioned, setting_for}
use Rattle.opentype_gpos.specs.Coming.{sights_in}
use Rattle.opentype_gpos.specs.Kerned.{PlacedText}
use Rattle.opentype_gpos.specs.Moved.{Positions}
use Rattle.opentype_gpos.proofs.Passing.{left_unbegun}
use Rattle.opentype_font.specs.Lookups.{application_for, positioned_by}
use Rattle.opentype_font.specs.Proved.LookupLaws.{positioning_keeps}
use Rattle.opentype_break_laws.specs.FontPositions.{AdjustsSingles, FontLookupsLeavePositions, FontRunsLeavePositions, MovesNothing, SinglesMoveByPieces}
use Rattle.opentype_break_laws.specs.PlacedPieces.{CutPlaced, IsPlacedPiece, IsPaired, LeavesPositions, placed_in}
use Rattle.opentype_break_laws.proofs.FontPieces.{all_by, all_unmapped}
use Rattle.opentype_break_laws.proofs.LigatureModel.{all_back, all_front}
use Rattle.opentype_break_laws.proofs.PairPieces.{pairs_leave}
use Rattle.opentype_break_laws.proofs.PlacedPieces.{MovesEach, ReadsBare, bare, bare_alike, each_placed, same_leaves, step_behind}
use Rattle.opentype_break_laws.proofs.SingleMoves.{added_if, adjusted, steps_moved, value_for, walk_moved}

-- ---- SINGLE ADJUSTMENTS

adjusted_bare : (gdef table : List ℕ) (mask : ℕ) → mask % 8 ≡ 0 → (d : Direction)
    → ReadsBare (adjusted gdef table mask d)
unfolding bare ignores
adjusted_bare gdef table mask flagless d = record {
  bared = λ g p. ap (λ n. added_if d
      (not (n == 0) && not (ignores gdef (flag_in gdef table) (mark_set_in table) g))
      (value_for table (g.glyph_id % 65536)) p) (mask_read g.mask mask flagless);
}

pub singles_move : (gdef gpos : List ℕ) (lookup : StageLookup) → AdjustsSingles gpos lookup
    → MovesEach (adjusted gdef (lookup_in gpos lookup.index) lookup.mask) (positioned_by gdef gpos lookup)
unfolding positioned
singles_move gdef gpos lookup adjusts =
    let table = lookup_in gpos lookup.index in
    record {
      each = λ b paired. (let s = setting_for gdef gpos (application_for lookup) b in
          let put : Glyphs → Positions → Buffer = λ gs ps. record b { glyphs = gs; positions = ps } in
          let end = walk_moved (adjusted gdef table lookup.mask b.direction)
          (position_stepped s (sights_in s table) table) (steps_moved s table adjusts.types) [] b.glyphs []
          b.positions refl
          paired in
          let new = positions_changed (adjusted gdef table lookup.mask b.direction) b.glyphs b.positions in
          sym (ap (λ gs. put gs new) end.glyphs ∙ ap (put _) end.positions));
      reads = adjusted_bare gdef table lookup.mask adjusts.flagless;
    }

pub singles_leave : (numbered : Numbering) (text : Buffer) (gdef gpos : List ℕ) (lookup : StageLookup) (b : Buffer)
    → IsPaired text b → AdjustsSingles gpos lookup → LeavesPositions numbered text (positioned_by gdef gpos lookup) b
singles_leave numbered text gdef gpos lookup b is adjusts =
    each_placed numbered text (adjusted gdef (lookup_in gpos lookup.index) lookup.mask) (positioned_by gdef gpos lookup)
    (singles_move gdef gpos lookup adjusts) b is

-- ---- A LOOKUP THAT MOVES NOTHING

all_at : (P : Glyph → Type 0) (gs : Glyphs) → AllByRecursion P gs → (j : ℕ) → j < length gs → P (glyph_at gs j)
all_at P [] all j lt = absurd (omega (arith, lt))
all_at P (g ∷ gs) all zero lt = all.0
all_at P (g ∷ gs) all (suc j) lt = all_at P gs all.1 j (omega (arith, lt))

pub unmoved : (gdef gpos : List ℕ) (lookup : StageLookup) (b : Buffer) → length b.positions ≡ length b.glyphs
    → AllByRecursion (IsPassed true (lookup_in gpos lookup.index) lookup.mask) b.glyphs
    → positioned_by gdef gpos lookup b ≡ b
unfolding positioned
unmoved gdef gpos lookup b paired all =
    let table = lookup_in gpos lookup.index in
    let put : Glyphs → Positions → Buffer = λ gs ps. record b { glyphs = gs; positions = ps } in
    let end = left_unbegun (setting_for gdef gpos (application_for lookup) b) table b.glyphs b.positions
    (length b.glyphs)
    paired (record { each = λ j low high. all_at (IsPassed true table lookup.mask) b.glyphs all j high })
    (omega arith) in
    sym (ap (λ gs. put gs b.positions) end.glyphs ∙ ap (put _) end.positions)

passed_bare : (table : List ℕ) (mask : ℕ) → mask % 8 ≡ 0 → (g : Glyph) → IsPassed true table mask g
    → IsPassed true table mask (bare g)
unfolding bare
passed_bare table mask flagless g (inl off) = inl (mask_read g.mask mask flagless ∙ off)
passed_bare table mask flagless g (inr none) = inr none

passed_so : (table : List ℕ) (mask : ℕ) → mask % 8 ≡ 0 → (g : Glyph) → IsPassed true table mask (bare g)
    → IsPassed true table mask g
unfolding bare
passed_so table mask flagless g (inl off) = inl (sym (mask_read g.mask mask flagless) ∙ off)
passed_so table mask flagless g (inr none) = inr none

-- so in a text that is the same but for numbers
passed_alike : (table : List ℕ) (mask : ℕ) → mask % 8 ≡ 0 → (gs hs : Glyphs) → SameButNumbers gs hs
    → AllByRecursion (IsPassed true table mask) hs → AllByRecursion (IsPassed true table mask) gs
passed_alike table mask flagless gs hs same all =
    let P = IsPassed true table mask in
    all_unmapped P P bare (passed_so table mask flagless) gs (subst (AllByRecursion P) (sym (bare_alike gs hs same))
    (all_by P P bare (passed_bare table mask flagless) hs all))

pub nothing_leaves : (numbered : Numbering) (text : Buffer) (gdef gpos : List ℕ) (lookup : StageLookup) (b : Buffer)
    → IsPaired text b → MovesNothing gpos lookup b → LeavesPositions numbered text (positioned_by gdef gpos lookup) b
nothing_leaves numbered text gdef gpos lookup b is moves front back cut =
    let P = IsPassed true (lookup_in gpos lookup.index) lookup.mask in
    let own = subst (λ (x : Buffer). CutPlaced (placed_in x) front back)
    (unmoved gdef gpos lookup b is.paired moves.passed)
    cut in
    let all = subst (AllByRecursion P) own.glyphs.parts moves.passed in
    let rest : length back.positions ≡ length back.glyphs = omega (
      arith,
      is.paired,
      own.paired,
      ap length own.positions,
      ap length own.glyphs.parts,
      length-append front.glyphs back.glyphs,
      length-append front.positions back.positions,
    ) in
    let makes : (part : PlacedText) → length part.positions ≡ length part.glyphs → AllByRecursion P part.glyphs
    → (one : Buffer)
    → IsPlacedPiece numbered text part one → IsPlacedPiece numbered text part (positioned_by gdef gpos lookup one) =
    λ part paired are one piece. (let alike = piece.same.glyphs in
    let long : length one.positions ≡ length one.glyphs = omega (
      arith,
      ap length piece.positions,
      paired,
      ap length (bare_alike one.glyphs part.glyphs alike),
      length-map one.glyphs bare,
      length-map part.glyphs bare,
    ) in
    subst (IsPlacedPiece numbered text part) (sym (unmoved gdef gpos lookup one long
    (passed_alike (lookup_in gpos lookup.index) lookup.mask moves.flagless one.glyphs part.glyphs alike are))) piece) in
    record {
      before = front;
      behind = back;
      pieces = own;
      first = makes front own.paired (all_front P front.glyphs back.glyphs all);
      second = makes back rest (all_back P front.glyphs back.glyphs all);
    }

pub lookups_leave : FontLookupsLeavePositions
lookups_leave numbered text gdef gpos lookup b is moves = elim moves [
  | inl adjusts ↦ singles_leave numbered text gdef gpos lookup b is adjusts
  | inr others ↦ elim others [
    | inl nothing ↦ nothing_leaves numbered text gdef gpos lookup b is nothing
    | inr pairs ↦ pairs_leave numbered text gdef gpos lookup b is pairs.0 pairs.1
  ]
]

-- ---- A RUN

pub as_many : (old new : Buffer) → PositionKeeps old new → length old.positions ≡ length old.glyphs
    → length new.positions ≡ length new.glyphs
as_many old new keeps paired = keeps.positions ∙ paired
    ∙ sym (sym (length-map new.glyphs unplaced) ∙ ap length keeps.glyphs ∙ length-map old.glyphs unplaced)

pub still_placed : (text old new : Buffer) → PositionKeeps old new → IsPaired text old → IsPaired text new
still_placed text old new keeps is = record {
  paired = as_many old new keeps is.paired;
  direction = ap (λ (x : Buffer). x.direction) keeps.others ∙ is.direction;
}

pub runs_leave : FontRunsLeavePositions
runs_leave numbered text gdef gpos [] b is each = same_leaves numbered text b
runs_leave numbered text gdef gpos (x ∷ xs) b is each =
    let new = positioned_by gdef gpos x b in
    let keeps = positioning_keeps gdef gpos x.index (application_for x) b in
    step_behind numbered text (positioned_by gdef gpos x) (looked_up (positioned_by gdef gpos) xs) b
    (lookups_leave numbered text gdef gpos x b is each.0)
    (runs_leave numbered text gdef gpos xs new (still_placed text b new keeps is) each.1)

pub singles_go : SinglesMoveByPieces
singles_go gdef gpos [] b all = tt
singles_go gdef gpos (x ∷ xs) b all = (inl all.0, singles_go gdef gpos xs (positioned_by gdef gpos x b) all.1)
