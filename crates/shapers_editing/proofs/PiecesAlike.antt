-- Glyphs of a piece by itself beside those of its part of a text, through changes of each glyph by itself.
use Rattle.std.proofs.Common.{ℕ, ◌≡◌, ◌==◌, ◌%◌, ◌/◌, if◌then◌else◌, Bool, true, false, List, [], ◌∷◌, ◌++◌, length, take, drop, map, refl, sym, ap, ◌∙◌, subst, arith}
use Rattle.std.specs.Prelude.{Option, None, Some, bit_and, find}
use Rattle.std.specs.Option.{option_map_or}
use Rattle.std.proofs.lemmas.List.{drop_at, length-map, map-append, take_at}
use Rattle.shapers_base.specs.declared.plan.hb_ot_shape_plan_t.{hb_ot_shape_plan_t}
use Rattle.shapers_base.specs.declared.plan.pause.Pause.{Pause}
use Rattle.shapers_base.specs.declared.plan.pause.Pause.TheVariants.{RecordStch, SyllabicClearVar, ClearSubstitutionFlags}
use Rattle.shapers_buffer.specs.Glyph.{order_view, plain}
use Rattle.shapers_buffer.specs.Glyphs.{Glyph, Glyphs}
use Rattle.shapers_buffer.specs.Properties.{component, is_multiplied}
use Rattle.shapers_buffer.specs.declared.buffer.lig_props.LigProps.{LigProps}
use Rattle.shapers_clusters.specs.FlagLaw.{FlagsAdded}
use Rattle.shapers_clusters.proofs.FlagLaw.{added_same}
use Rattle.shapers_stretch.specs.Recorded.{has_stch, recorded, tile_action}
use Rattle.shapers_syllabic.specs.Borders.{unnumbered}
use Rattle.shapers_syllabic.proofs.Serials.{same_text}
use Rattle.shapers_break_laws.specs.Pieces.{CutWhereClear, SameButFlags}
use Rattle.shapers_break_laws.specs.ShaperBreaks.{glyph_paused}
use Rattle.shapers_break_laws.proofs.MaskReads.{mask_read}
use Rattle.shapers_break_laws.proofs.PausePieces.{glyph_changes}
use Rattle.shapers_break_laws.proofs.Pieces.{ChangesGlyphs, ReadsOrder, flags-twice, kind-twice, leaves_by_glyph, own_text, reads_order, still}
use Rattle.shapers_plan.specs.declared.ot_map.lookups.StageLookup.{StageLookup}
use Rattle.shapers_pipeline.specs.Singles.{is_single_for, single_applied, with_single}
use Rattle.shapers_pipeline.specs.declared.singles.Single.{Single}
use Rattle.shapers_editing.specs.PipelineBreaks.{AreAsIn, Numbering, SinglesLeavePieces, ligatures, unlinked}

-- NUMBERS of ligatures
unlinks : ReadsOrder unlinked
unlinks = record {
  added = λ g. added_same g (unlinked g) refl refl;
  byte = λ g. refl;
  viewed = λ g. ap (λ (k : ℕ). let r : Glyph = record (unlinked g) { cluster = 0; mask = k } in r)
      (sym (flags-twice g.mask));
  counted = λ g. ap (λ (k : ℕ). let r : Glyph = record (plain (unlinked g)) { syllable = k } in r)
      (sym (kind-twice g.syllable));
}

linked : (gs : Glyphs) → ligatures (map unnumbered (order_view gs)) ≡ ligatures gs
linked [] = refl
linked (g ∷ gs) = ap (λ l. g.lig_props ∷ l) (linked gs)

same_ligatures : (gs hs : Glyphs) → SameButFlags gs hs → ligatures gs ≡ ligatures hs
same_ligatures gs hs same = sym (linked gs) ∙ ap ligatures (same_text (order_view gs) (order_view hs) same.0)
    ∙ linked hs

-- what is the same but for flags
pub as_in : (numbered : Numbering) → ((list : List LigProps) → numbered list list ≡ true) → (part gs : Glyphs)
    → SameButFlags gs part → AreAsIn numbered part gs
as_in numbered alike part gs same = record {
  glyphs = (reads_order unlinked unlinks).same gs part same;
  numbers = subst (λ l. numbered (ligatures gs) l ≡ true) (same_ligatures gs part same) (alike (ligatures gs));
}

-- CHANGES of each glyph that read no number and keep it
pub record KeepsNumbers (f : Glyph → Glyph) : Type 0 where
  pub changes : ChangesGlyphs f
  pub passed : (g : Glyph) → unlinked (f g) ≡ f (unlinked g)
  pub kept : (g : Glyph) → (f g).lig_props ≡ g.lig_props

passed_all : (f : Glyph → Glyph) → KeepsNumbers f → (gs : Glyphs) → map unlinked (map f gs) ≡ map f (map unlinked gs)
passed_all f keeps [] = refl
passed_all f keeps (g ∷ gs) = ap (λ x. x ∷ map unlinked (map f gs)) (keeps.passed g)
    ∙ ap (λ l. f (unlinked g) ∷ l) (passed_all f keeps gs)

kept_all : (f : Glyph → Glyph) → KeepsNumbers f → (gs : Glyphs) → ligatures (map f gs) ≡ ligatures gs
kept_all f keeps [] = refl
kept_all f keeps (g ∷ gs) = ap (λ x. x ∷ ligatures (map f gs)) (keeps.kept g)
    ∙ ap (λ l. g.lig_props ∷ l) (kept_all f keeps gs)

each_as_in : (numbered : Numbering) (f : Glyph → Glyph) → KeepsNumbers f → (part gs : Glyphs)
    → AreAsIn numbered part gs → AreAsIn numbered (map f part) (map f gs)
each_as_in numbered f keeps part gs is =
    let same = keeps.changes.same (map unlinked gs) (map unlinked part) is.glyphs in
    record {
      glyphs = subst (λ xs. SameButFlags xs (map unlinked (map f part))) (sym (passed_all f keeps gs))
          (subst (λ ys. SameButFlags (map f (map unlinked gs)) ys) (sym (passed_all f keeps part)) same);
      numbers = subst (λ xs. numbered xs (ligatures (map f part)) ≡ true) (sym (kept_all f keeps gs))
          (subst (λ ys. numbered (ligatures gs) ys ≡ true) (sym (kept_all f keeps part)) is.numbers);
    }

pub each_made : (numbered : Numbering) (f : Glyph → Glyph) → KeepsNumbers f → (part made : Glyphs) → map f part ≡ made
    → (gs : Glyphs) → AreAsIn numbered part gs → AreAsIn numbered made (map f gs)
each_made numbered f keeps part made is gs same = subst (λ hs. AreAsIn numbered hs (map f gs)) is
    (each_as_in numbered f keeps part gs same)

-- where what is made is cut, the glyphs are, and it is what is made of their parts
pub record EachCut (f : Glyph → Glyph) (gs front back : Glyphs) : Type 0 where
  pub before : Glyphs
  pub behind : Glyphs
  pub pieces : CutWhereClear gs before behind
  pub first : map f before ≡ front
  pub second : map f behind ≡ back

pub as_long : (gs hs : Glyphs) → SameButFlags gs hs → length gs ≡ length hs
as_long gs hs same = sym (length-map gs (λ (g : Glyph). g.cluster)) ∙ ap length same.1
    ∙ length-map hs (λ (g : Glyph). g.cluster)

pub cut_each : (f : Glyph → Glyph) → ChangesGlyphs f → (gs front back : Glyphs) → CutWhereClear (map f gs) front back
    → EachCut f gs front back
cut_each f changes gs front back cut =
    let made = leaves_by_glyph f changes gs front back cut in
    let xs = map f made.before in
    let ys = map f made.behind in
    let n = length front in
    let long : length xs ≡ n = as_long xs front (made.first made.before (own_text made.before)) in
    let whole : xs ++ ys ≡ front ++ back = sym (map-append f made.before made.behind)
    ∙ sym (ap (map f) made.pieces.parts) ∙ cut.parts in
    record {
      before = made.before;
      behind = made.behind;
      pieces = made.pieces;
      first = sym (take_at xs ys n long) ∙ ap (take n) whole ∙ take_at front back n refl;
      second = sym (drop_at xs ys n long) ∙ ap (drop n) whole ∙ drop_at front back n refl;
    }

-- PAUSES
with_tile : Glyph → ℕ → Glyph
with_tile g k = record g { auxiliary = tile_action k }

if_tile : Bool → Glyph → Glyph
if_tile b g = if b then with_tile g (component g.lig_props) else g

component_unlinked : (x : ℕ) → component (record { 0 = x % 32 }) ≡ component (record { 0 = x })
component_unlinked x =
    let itself : x % 32 / 16 % 2 ≡ x / 16 % 2 = omega arith in
    let low : x % 32 % 16 ≡ x % 16 = omega arith in
    ap (λ n. if n == 1 then 0 else x % 32 % 16) itself ∙ ap (λ n. if x / 16 % 2 == 1 then 0 else n) low

tile_passes : (b : Bool) (g : Glyph) → unlinked (if_tile b g) ≡ if_tile b (unlinked g)
unfolding if_tile with_tile
tile_passes true g = ap (with_tile (unlinked g)) (sym (component_unlinked g.lig_props.0))
tile_passes false g = refl

tile_keeps : (b : Bool) (g : Glyph) → (if_tile b g).lig_props ≡ g.lig_props
unfolding if_tile with_tile
tile_keeps true g = refl
tile_keeps false g = refl

stretched_passes : (b : Bool) (g : Glyph) → unlinked (if b then recorded g else g)
    ≡ (if b then recorded (unlinked g) else unlinked g)
unfolding if_tile with_tile
stretched_passes true g = tile_passes (is_multiplied g.glyph_props) g
stretched_passes false g = refl

stretched_keeps : (b : Bool) (g : Glyph) → (if b then recorded g else g).lig_props ≡ g.lig_props
unfolding if_tile with_tile
stretched_keeps true g = tile_keeps (is_multiplied g.glyph_props) g
stretched_keeps false g = refl

pause_passes : (pause : Pause) (plan : hb_ot_shape_plan_t) (g : Glyph) → unlinked (glyph_paused pause plan g)
    ≡ glyph_paused pause plan (unlinked g)
pause_passes RecordStch plan g = stretched_passes (has_stch plan.plan_data) g
pause_passes SyllabicClearVar plan g = refl
pause_passes ClearSubstitutionFlags plan g = refl
pause_passes _ plan g = refl

pause_keeps : (pause : Pause) (plan : hb_ot_shape_plan_t) (g : Glyph) → (glyph_paused pause plan g).lig_props
    ≡ g.lig_props
pause_keeps RecordStch plan g = stretched_keeps (has_stch plan.plan_data) g
pause_keeps SyllabicClearVar plan g = refl
pause_keeps ClearSubstitutionFlags plan g = refl
pause_keeps _ plan g = refl

pub pauses_keep : (pause : Pause) (plan : hb_ot_shape_plan_t) → KeepsNumbers (glyph_paused pause plan)
pauses_keep pause plan = record {
  changes = glyph_changes pause plan;
  passed = pause_passes pause plan;
  kept = pause_keeps pause plan;
}

-- SINGLE substitutions, by whether the glyph has none of the lookup's bits, and by the entry found for it
put_if : Bool → Option Single → Glyph → Glyph
put_if none found g = if none then g else option_map_or (with_single g) found g

put_added : (none : Bool) (found : Option Single) (g : Glyph) → FlagsAdded g (put_if none found g)
unfolding put_if
put_added true found g = added_same g g refl refl
put_added false None g = added_same g g refl refl
put_added false (Some s) g = added_same g (with_single g s) refl refl

put_byte : (none : Bool) (found : Option Single) (g : Glyph) → (put_if none found g).syllable ≡ g.syllable
unfolding put_if
put_byte true found g = refl
put_byte false None g = refl
put_byte false (Some s) g = refl

put_viewed : (none : Bool) (found : Option Single) (g : Glyph) → plain (put_if none found g)
    ≡ plain (put_if none found (plain g))
unfolding put_if
put_viewed true found g = still.viewed g
put_viewed false None g = still.viewed g
put_viewed false (Some s) g = ap (λ (k : ℕ). let r : Glyph = record (with_single g s) { cluster = 0; mask = k } in r)
    (sym (flags-twice g.mask))

put_counted : (none : Bool) (found : Option Single) (g : Glyph) → unnumbered (plain (put_if none found g))
    ≡ unnumbered (plain (put_if none found (unnumbered g)))
unfolding put_if
put_counted true found g = still.counted g
put_counted false None g = still.counted g
put_counted false (Some s) g = ap (λ (k : ℕ). let r : Glyph = record (plain (with_single g s)) { syllable = k } in r)
    (sym (kind-twice g.syllable))

put_passes : (none : Bool) (found : Option Single) (g : Glyph) → unlinked (put_if none found g)
    ≡ put_if none found (unlinked g)
unfolding put_if
put_passes true found g = refl
put_passes false None g = refl
put_passes false (Some s) g = refl

put_keeps : (none : Bool) (found : Option Single) (g : Glyph) → (put_if none found g).lig_props ≡ g.lig_props
unfolding put_if
put_keeps true found g = refl
put_keeps false None g = refl
put_keeps false (Some s) g = refl

single_keeps : (singles : List Single) (lookup : StageLookup) → lookup.mask % 8 ≡ 0
    → KeepsNumbers (single_applied singles lookup)
unfolding put_if
single_keeps singles lookup flagless =
    let none : Glyph → Bool = λ g. bit_and g.mask lookup.mask == 0 in
    let found : Glyph → Option Single = λ g. find (is_single_for lookup g) singles in
    let reads : ReadsOrder (single_applied singles lookup) = record {
      added = λ g. put_added (none g) (found g) g;
      byte = λ g. put_byte (none g) (found g) g;
      viewed = λ g. put_viewed (none g) (found g) g
          ∙ ap (λ n. plain (put_if (n == 0) (found g) (plain g))) (sym (mask_read g.mask lookup.mask flagless));
      counted = λ g. put_counted (none g) (found g) g;
    } in
    record {
      changes = reads_order (single_applied singles lookup) reads;
      passed = λ g. put_passes (none g) (found g) g;
      kept = λ g. put_keeps (none g) (found g) g;
    }

pub singles_leave : SinglesLeavePieces
singles_leave numbered text singles lookup b flagless front back cut =
    let f = single_applied singles lookup in
    let keeps = single_keeps singles lookup flagless in
    let own = cut_each f keeps.changes b.glyphs front back cut in
    record {
      before = own.before;
      behind = own.behind;
      pieces = own.pieces;
      first = λ one is. each_made numbered f keeps own.before front own.first one.glyphs is.same;
      second = λ one is. each_made numbered f keeps own.behind back own.second one.glyphs is.same;
    }
