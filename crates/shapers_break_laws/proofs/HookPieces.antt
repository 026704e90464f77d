-- Hooks, and what stands behind them, leave the results of a text's pieces side by side: Thai, Hangul, joining, marks.
use Rattle.std.proofs.Common.{ℕ, zero, suc, ◌-◌, ◌<◌, ◌≤◌, ◌≡◌, ◌%◌, bit_or, min, true, false, List, [], ◌∷◌, ◌++◌, length, slice_index, take, drop, map, refl, sym, ap, ◌∙◌, subst, arith, inl, inr, length-append, take-append-drop}
use Rattle.std.specs.List.{AllByRecursion}
use Rattle.std.proofs.lemmas.List.{drop-map, drop_at, length-map, length-take-le, map-append, map-id, take-map, take_at}
use Rattle.shapers_arabic.specs.Breaks.{back_at, front_at}
use Rattle.shapers_arabic.specs.JoinedText.{buffer_joined}
use Rattle.shapers_arabic.specs.PlanData.{breaks_of, masks_of}
use Rattle.shapers_arabic.proofs.BrokenGlyphs.{breaks-where_clear}
use Rattle.shapers_arabic.proofs.JoinedFlags.{joined_added}
use Rattle.shapers_arabic.proofs.MarkLaws.{mark_laws}
use Rattle.shapers_base.specs.Font.{CharacterTables, Font}
use Rattle.shapers_base.specs.Masks.{masks_stored, with_numbered_mask}
use Rattle.shapers_base.specs.declared.plan.hb_ot_shape_plan_t.{hb_ot_shape_plan_t}
use Rattle.shapers_buffer.specs.Buffer.{Buffer}
use Rattle.shapers_buffer.specs.Glyph.{clusters, order_view, plain, without_flags}
use Rattle.shapers_buffer.specs.Syllables.{syllables}
use Rattle.shapers_buffer.specs.declared.buffer.level.BufferClusterLevel.{BufferClusterLevel}
use Rattle.shapers_buffer.specs.Glyphs.{Glyph, Glyphs}
use Rattle.shapers_clusters.specs.Breaks.{IsClear}
use Rattle.shapers_clusters.specs.FlagLaw.{OnlyFlagsAdded}
use Rattle.shapers_clusters.proofs.FlagCalls.{plain-or}
use Rattle.shapers_hangul.specs.Hangul.{rewritten_by}
use Rattle.shapers_hangul.proofs.HangulFlags.{jamo_mask_added}
use Rattle.shapers_clusters.proofs.FlagLaw.{added_same}
use Rattle.shapers_syllabic.specs.Borders.{unnumbered}
use Rattle.shapers_syllabic.specs.Characters.{with_category, with_category_and_position}
use Rattle.shapers_text.specs.ThaiForms.{asks_for_forms, preprocessed_in_thai}
use Rattle.shapers_text.proofs.HebrewLemmas.{mark_laws as mark_laws_hebrew, second_within}
use Rattle.rustybuzz_shapers.specs.Hooks.{MasksSet, MarksReordered, Preprocessed}
use Rattle.rustybuzz_shapers.specs.declared.shaper.hb_ot_shaper_t.{hb_ot_shaper_t}
use Rattle.rustybuzz_shapers.specs.declared.shaper.hb_ot_shaper_t.TheVariants.{Arabic, Hangul, Hebrew, Indic, Khmer, Myanmar, MyanmarZawgyi, Thai, Universal}
use Rattle.rustybuzz_shapers.proofs.Monotone.{same_clusters}
use Rattle.shapers_break_laws.specs.MarkBreaks.{marks_after}
use Rattle.shapers_break_laws.specs.Pieces.{BreaksWhereCleared, CutBuffer, CutWhereClear, LeavesPieces, MadeOfPieces, SameButFlags}
use Rattle.shapers_break_laws.specs.ShaperBreaks.{ArabicTextBreaks, CutAroundMarks, HangulHooked, HangulIsSo, HangulTextBreaks, HookedBreaks, HookedPiece, IsSparedAll, MarkedBreaks, MarkedPiece, MarkedText, MasksLeavePieces, ThaiIsSo, ThaiTextBreaks, masked_by_glyph}
use Rattle.shapers_break_laws.specs.TextBreaks.{JoinsGlyphs, JoinsOrder, TextBroken, back_half, front_half}
use Rattle.shapers_break_laws.proofs.HangulBreaks.{hangul_breaks}
use Rattle.shapers_break_laws.proofs.HangulSound.{hangul_sound_breaks}
use Rattle.shapers_break_laws.proofs.MarkBreaks.{marks_break}
use Rattle.shapers_break_laws.proofs.Pieces.{ReadsOrder, behind_pieces, flags-twice, in_turn, kind-twice, leaves_by_glyph, own_text, reads_order, still}
use Rattle.shapers_break_laws.proofs.ThaiBreaks.{sara_ams_break, thai_forms_break}
use Rattle.shapers_break_laws.proofs.ThaiSound.{thai_sound_break}

-- texts that are the same in order view and clusters
pub same_by_order : (gs hs : Glyphs) → order_view gs ≡ order_view hs → clusters gs ≡ clusters hs → SameButFlags gs hs
same_by_order gs hs order in_clusters = (ap (λ xs. map (map unnumbered) (syllables xs)) order, in_clusters)

-- two texts that join to one are its parts
pub joined_parts : (whole front back one two : Glyphs) → whole ≡ front ++ back → length one ≡ length front
    → order_view whole ≡ order_view one ++ order_view two → clusters whole ≡ clusters one ++ clusters two
    → SameButFlags one front × SameButFlags two back
joined_parts whole front back one two parts long order in_clusters =
    let n = length front in
    let of : Glyph → ℕ = λ g. g.cluster in
    let views : order_view front ++ order_view back ≡ order_view one ++ order_view two =
    sym (map-append plain front back)
    ∙ ap order_view (sym parts) ∙ order in
    let cs : clusters front ++ clusters back ≡ clusters one ++ clusters two = sym (map-append of front back)
    ∙ ap clusters (sym parts) ∙ in_clusters in
    let fv : n ≡ length (order_view front) = sym (length-map front plain) in
    let ov : n ≡ length (order_view one) = sym long ∙ sym (length-map one plain) in
    let fc : n ≡ length (clusters front) = sym (length-map front of) in
    let oc : n ≡ length (clusters one) = sym long ∙ sym (length-map one of) in (
      same_by_order one front
          (sym (take_at (order_view one) (order_view two) n (sym ov)) ∙ ap (take n) (sym views)
          ∙ take_at (order_view front) (order_view back) n (sym fv))
          (sym (take_at (clusters one) (clusters two) n (sym oc)) ∙ ap (take n) (sym cs)
          ∙ take_at (clusters front) (clusters back) n (sym fc)),
      same_by_order two back
          (sym (drop_at (order_view one) (order_view two) n (sym ov)) ∙ ap (drop n) (sym views)
          ∙ drop_at (order_view front) (order_view back) n (sym fv))
          (sym (drop_at (clusters one) (clusters two) n (sym oc)) ∙ ap (drop n) (sym cs)
          ∙ drop_at (clusters front) (clusters back) n (sym fc)),
    )

-- HOOKS that are functions of the buffer
abbrev HookMakes : (Buffer → Buffer → Type 0) → Buffer → Glyphs → Type 0
HookMakes Hook piece made = (one : Buffer) → Hook piece one → SameButFlags one.glyphs made

pub hook_behind : (Hook : Buffer → Buffer → Type 0) (behind : Glyphs → Glyphs) (old : Buffer) (mid : Glyphs)
    → BreaksWhereCleared Buffer CutBuffer (HookMakes Hook) old mid → LeavesPieces behind mid
    → BreaksWhereCleared Buffer CutBuffer (HookedPiece Hook behind) old (behind mid)
hook_behind Hook behind old mid first leaves =
    behind_pieces Buffer CutBuffer (HookMakes Hook) (HookedPiece Hook behind) behind old mid
    (λ x ys zs own made one h. made one.glyphs (own one h)) first leaves

-- a function of the glyphs and of what no cut changes
record OfGlyphs (Hook : Buffer → Buffer → Type 0) (made : Buffer → Buffer) : Type 0 where
  is : (b c : Buffer) → Hook b c → c ≡ made b
  has : (b : Buffer) → Hook b (made b)
  front : (n : ℕ) (b : Buffer) → (made (front_at n b)).glyphs ≡ (made (front_half n b)).glyphs
  back : (n : ℕ) (b : Buffer) → (made (back_at n b)).glyphs ≡ (made (back_half n b)).glyphs

text_pieces : (Hook : Buffer → Buffer → Type 0) (made : Buffer → Buffer) → OfGlyphs Hook made → (old new : Buffer)
    (front back : Glyphs) → new.glyphs ≡ front ++ back → TextBroken Hook JoinsOrder old new (length front)
    → MadeOfPieces Buffer CutBuffer (HookMakes Hook) old front back
text_pieces Hook made of old new front back parts broken =
    let c = broken.cut in
    let one = made (front_half c old) in
    let two = made (back_half c old) in
    let halves = broken.halves one two (of.has (front_half c old)) (of.has (back_half c old)) in
    let same = joined_parts new.glyphs front back one.glyphs two.glyphs parts halves.0 halves.1.0 halves.1.1 in
    record {
      before = front_at c old;
      behind = back_at c old;
      pieces = record {
        place = c;
        some_in_front = broken.some_in_front;
        some_behind = broken.some_behind;
        front = refl;
        back = refl;
      };
      first = λ b h. subst (λ xs. SameButFlags xs front)
          (sym (ap (λ (b : Buffer). b.glyphs) (of.is (front_at c old) b h) ∙ of.front c old)) same.0;
      second = λ b h. subst (λ xs. SameButFlags xs back)
          (sym (ap (λ (b : Buffer). b.glyphs) (of.is (back_at c old) b h) ∙ of.back c old)) same.1;
    }

-- the first glyphs of a text that is cut
pub within_parts : (whole front back : Glyphs) → CutWhereClear whole front back → length front < length whole
within_parts whole front back cut =
    let some = cut.some_behind in omega (arith, ap length cut.parts, length-append front back)

-- Thai and Lao
thai_of : (plan : hb_ot_shape_plan_t) (font : Font) → OfGlyphs (Preprocessed Thai plan font)
    (preprocessed_in_thai plan font)
thai_of plan font = record {
  is = λ b c h. h;
  has = λ b. refl;
  front = λ n b. refl;
  back = λ n b. refl;
}

joins_order : (one two new : Buffer) → JoinsGlyphs one two new → JoinsOrder one two new
joins_order one two new joined = (
  ap order_view joined ∙ map-append plain one.glyphs two.glyphs,
  ap clusters joined ∙ map-append (λ g. g.cluster) one.glyphs two.glyphs,
)

in_order : (Hook : Buffer → Buffer → Type 0) (old new : Buffer) (p : ℕ) → TextBroken Hook JoinsGlyphs old new p
    → TextBroken Hook JoinsOrder old new p
in_order Hook old new p broken = record {
  cut = broken.cut;
  some_in_front = broken.some_in_front;
  some_behind = broken.some_behind;
  apart = broken.apart;
  halves = λ one two f s. let halves = broken.halves one two f s in (halves.0, joins_order one two new halves.1);
}

thai_broken : (plan : hb_ot_shape_plan_t) (font : Font) (old new : Buffer) → ThaiIsSo plan old
    → Preprocessed Thai plan font old new → (p : ℕ) → 0 < p → p < length new.glyphs → IsClear new.glyphs p
    → TextBroken (Preprocessed Thai plan font) JoinsOrder old new p
thai_broken plan font old new so hooked p z l clear =
    let m = so.0.merging in
    let mono = so.0.monotone in
    elim (asks_for_forms plan) as (λ b. asks_for_forms plan ≡ b
    → TextBroken (Preprocessed Thai plan font) JoinsOrder old new p) [
      | true ↦ λ forms. elim so.1 [
        | inl none ↦ in_order (Preprocessed Thai plan font) old new p
            (sara_ams_break plan font old new none m mono hooked p z l clear.differ)
        | inr choice ↦ elim choice [
          | inl sound ↦ thai_sound_break plan font old new forms sound m mono hooked p z l clear
          | inr joins ↦ thai_forms_break plan font old new forms m mono joins hooked p z l clear.differ
        ]
      ]
      | false ↦ λ none. in_order (Preprocessed Thai plan font) old new p
          (sara_ams_break plan font old new none m mono hooked p z l clear.differ)
    ] refl

pub thai_text : ThaiTextBreaks
thai_text plan font behind old new so hooked leaves =
    hook_behind (Preprocessed Thai plan font) behind old new.glyphs
    (λ front back cut. text_pieces (Preprocessed Thai plan font) (preprocessed_in_thai plan font)
    (thai_of plan font) old
    new front back cut.parts (thai_broken plan font old new so hooked (length front) cut.some_in_front
    (within_parts new.glyphs front back cut) (subst (λ gs. IsClear gs (length front)) refl cut.clear))) leaves

-- Hangul, its masks directly behind
hangul_of : (plan : hb_ot_shape_plan_t) (font : Font) → OfGlyphs (Preprocessed Hangul plan font)
    (rewritten_by plan.break_flags font)
hangul_of plan font = record {
  is = λ b c h. h;
  has = λ b. refl;
  front = λ n b. refl;
  back = λ n b. refl;
}

hangul_broken : (plan : hb_ot_shape_plan_t) (font : Font) (old new : Buffer) → HangulIsSo plan font old
    → Preprocessed Hangul plan font old new → (p : ℕ) → 0 < p → p < length new.glyphs → IsClear new.glyphs p
    → TextBroken (Preprocessed Hangul plan font) JoinsOrder old new p
hangul_broken plan font old new so hooked p z l clear = elim so.1 [
  | inl sound ↦ hangul_sound_breaks plan font old new sound so.0.merging so.0.monotone hooked p z l clear
  | inr graphemes ↦ hangul_breaks plan font old new graphemes.0 so.0.monotone graphemes.1 hooked p z l clear.differ
]

each_off : (masks : List ℕ) → AllByRecursion (λ mask. mask % 8 ≡ 0) masks → (n : ℕ) → slice_index masks n % 8 ≡ 0
each_off [] off n = refl
each_off (m ∷ ms) off zero = off.0
each_off (m ∷ ms) off (suc n) = each_off ms off.1 n

jamo_masked : (masks : List ℕ) → AllByRecursion (λ mask. mask % 8 ≡ 0) masks → ReadsOrder (with_numbered_mask masks)
jamo_masked masks off =
    let own : (n : ℕ) → slice_index masks n % 8 ≡ 0 = λ n. each_off masks off n in
    record {
      added = jamo_mask_added masks;
      byte = λ g. refl;
      viewed = λ g.
          let m = slice_index masks g.auxiliary in
          ap (λ (k : ℕ). let r : Glyph = record g { cluster = 0; mask = k } in r)
          (plain-or g.mask m (own g.auxiliary) ∙ ap (λ k. bit_or k m) (sym (flags-twice g.mask))
          ∙ sym (plain-or (without_flags g.mask) m (own g.auxiliary)));
      counted = λ g.
          let m = slice_index masks g.auxiliary in
          ap (λ (k : ℕ). let r : Glyph = record g {
            cluster = 0;
            mask = without_flags (bit_or g.mask m);
            syllable = k;
          } in r) (sym (kind-twice g.syllable));
    }

-- categories, and positions in syllables
categories_read : (tables : CharacterTables) → ReadsOrder (with_category tables)
categories_read tables = record {
  added = λ g. added_same g (with_category tables g) refl refl;
  byte = λ g. refl;
  viewed = λ g. ap (λ (k : ℕ). let r : Glyph = record (with_category tables g) { cluster = 0; mask = k } in r)
      (sym (flags-twice g.mask));
  counted = λ g. ap (λ (k : ℕ). let r : Glyph = record (plain (with_category tables g)) { syllable = k } in r)
      (sym (kind-twice g.syllable));
}

positions_read : (tables : CharacterTables) → ReadsOrder (with_category_and_position tables)
positions_read tables = record {
  added = λ g. added_same g (with_category_and_position tables g) refl refl;
  byte = λ g. refl;
  viewed = λ g. ap (λ (k : ℕ). let r : Glyph = record (with_category_and_position tables g) {
    cluster = 0;
    mask = k;
  } in r) (sym (flags-twice g.mask));
  counted = λ g. ap (λ (k : ℕ). let r : Glyph = record (plain (with_category_and_position tables g)) {
    syllable = k;
  } in r) (sym (kind-twice g.syllable));
}

glyphs_masked : (f : Glyph → Glyph) → ReadsOrder f → (old new : Buffer)
    → new.glyphs ≡ map f old.glyphs → (new.glyphs ≡ map f old.glyphs) × LeavesPieces (map f) old.glyphs
glyphs_masked f reads old new is = (is, leaves_by_glyph f (reads_order f reads) old.glyphs)

pub masks_leave : MasksLeavePieces
masks_leave Arabic plan tables old new by off is = absurd cc
masks_leave Universal plan tables old new by off is = absurd cc
masks_leave Hangul plan tables old new by off is =
    glyphs_masked (masked_by_glyph Hangul plan tables) (jamo_masked (masks_stored plan.plan_data) off) old new
    (ap (λ (b : Buffer). b.glyphs) is)
masks_leave Indic plan tables old new by off is =
    glyphs_masked (masked_by_glyph Indic plan tables) (positions_read tables) old new (ap (λ (b : Buffer). b.glyphs) is)
masks_leave Khmer plan tables old new by off is =
    glyphs_masked (masked_by_glyph Khmer plan tables) (categories_read tables) old new
    (ap (λ (b : Buffer). b.glyphs) is)
masks_leave Myanmar plan tables old new by off is =
    glyphs_masked (masked_by_glyph Myanmar plan tables) (categories_read tables) old new
    (ap (λ (b : Buffer). b.glyphs) is)
masks_leave Hebrew plan tables old new by off is =
    glyphs_masked (λ g. g) still old new (ap (λ (b : Buffer). b.glyphs) is.1 ∙ sym (map-id old.glyphs))
masks_leave MyanmarZawgyi plan tables old new by off is =
    glyphs_masked (λ g. g) still old new (ap (λ (b : Buffer). b.glyphs) is.1 ∙ sym (map-id old.glyphs))
masks_leave Thai plan tables old new by off is =
    glyphs_masked (λ g. g) still old new (ap (λ (b : Buffer). b.glyphs) is.1 ∙ sym (map-id old.glyphs))

pub hangul_text : HangulTextBreaks
hangul_text plan font tables off behind old new so hooked leaves =
    let (mid, both) = hooked in
    let mask = with_numbered_mask (masks_stored plan.plan_data) in
    let is : new.glyphs ≡ map mask mid.glyphs = ap (λ (b : Buffer). b.glyphs) both.1 in
    let masked = (masks_leave Hangul plan tables mid new refl off both.1).1 in
    let all = in_turn (map mask) behind mid.glyphs masked (subst (LeavesPieces behind) is leaves) in
    let pieces = behind_pieces Buffer CutBuffer (HookMakes (Preprocessed Hangul plan font))
    (HookedPiece (HangulHooked plan font tables) behind) (λ gs. behind (map mask gs)) old mid.glyphs
    (λ x ys zs own made one h. subst (λ xs. SameButFlags (behind xs) zs)
    (sym (ap (λ (b : Buffer). b.glyphs) h.1.1)) (made h.0.glyphs (own h.0 h.1.0)))
    (λ front back cut. text_pieces (Preprocessed Hangul plan font) (rewritten_by plan.break_flags font)
    (hangul_of plan font) old mid front back cut.parts (hangul_broken plan font old mid so both.0 (length front)
    cut.some_in_front (within_parts mid.glyphs front back cut) cut.clear)) all in
    subst (λ xs. BreaksWhereCleared Buffer CutBuffer (HookedPiece (HangulHooked plan font tables) behind) old
    (behind xs)) (sym is) pieces

-- joining
abbrev pub joined_by : hb_ot_shape_plan_t → CharacterTables → Buffer → Buffer
joined_by plan tables b = buffer_joined (breaks_of plan.plan_data) (masks_of plan.plan_data) plan.script tables.joining
    tables.general b

pub joining_adds : (plan : hb_ot_shape_plan_t) (tables : CharacterTables) (b : Buffer)
    → OnlyFlagsAdded b.glyphs (joined_by plan tables b).glyphs
joining_adds plan tables b = joined_added (breaks_of plan.plan_data)
    (masks_of plan.plan_data) plan.script tables.joining
    tables.general b (joined_by plan tables b) refl

pub clusters-joined : (plan : hb_ot_shape_plan_t) (tables : CharacterTables) (b : Buffer)
    → clusters (joined_by plan tables b).glyphs ≡ clusters b.glyphs
clusters-joined plan tables b = same_clusters b.glyphs (joined_by plan tables b).glyphs (joining_adds plan tables b)

-- a text that was joined, cut at a clear place
pub record JoinedInTwo (plan : hb_ot_shape_plan_t) (tables : CharacterTables) (old : Buffer)
    (front back : Glyphs) : Type 0
  where
    pub within : length front < length old.glyphs
    pub first : SameButFlags (joined_by plan tables (front_at (length front) old)).glyphs front
    pub second : SameButFlags (joined_by plan tables (back_at (length front) old)).glyphs back

pub joined_in_two : (plan : hb_ot_shape_plan_t) (tables : CharacterTables) (old : Buffer) (front back : Glyphs)
    → IsSparedAll plan tables old → CutWhereClear (joined_by plan tables old).glyphs front back
    → JoinedInTwo plan tables old front back
joined_in_two plan tables old front back spared cut =
    let new = joined_by plan tables old in
    let gs = old.glyphs in
    let n = length front in
    let of : Glyph → ℕ = λ g. g.cluster in
    let same = clusters-joined plan tables old in
    let many : length new.glyphs ≡ length gs = sym (length-map new.glyphs of) ∙ ap length same ∙ length-map gs of in
    let l = within_parts new.glyphs front back cut in
    let one = joined_by plan tables (front_at n old) in
    let two = joined_by plan tables (back_at n old) in
    let order = breaks-where_clear (breaks_of plan.plan_data) (masks_of plan.plan_data) plan.script tables.joining
    tables.general old new refl n cut.some_in_front (omega (arith, l, many)) cut.clear (spared n) in
    let first : clusters one.glyphs ≡ take n (clusters gs) = clusters-joined plan tables (front_at n old)
    ∙ sym (take-map of n gs) in
    let second : clusters two.glyphs ≡ drop n (clusters gs) = clusters-joined plan tables (back_at n old)
    ∙ sym (drop-map of n gs) in
    let whole : clusters new.glyphs ≡ clusters one.glyphs ++ clusters two.glyphs = same
    ∙ sym (take-append-drop n (clusters gs)) ∙ ap (λ cs. cs ++ drop n (clusters gs)) (sym first)
    ∙ ap (λ cs. clusters one.glyphs ++ cs) (sym second) in
    let long : length one.glyphs ≡ n = sym (length-map one.glyphs of)
    ∙ ap length (clusters-joined plan tables (front_at n old)) ∙ length-map (take n gs) of
    ∙ length-take-le n gs (omega (arith, l, many)) in
    let parts = joined_parts new.glyphs front back one.glyphs two.glyphs cut.parts long order whole in
    record { within = omega (arith, l, many); first = parts.0; second = parts.1 }

pub arabic_text : ArabicTextBreaks
arabic_text plan tables behind old new spared hooked leaves =
    hook_behind (MasksSet Arabic plan tables) behind old new.glyphs (λ front back cut.
    let n = length front in
    let joined = joined_in_two plan tables old front back spared
    (subst (λ (b : Buffer). CutWhereClear b.glyphs front back) hooked.0 cut) in
    record {
      before = front_at n old;
      behind = back_at n old;
      pieces = record {
        place = n;
        some_in_front = cut.some_in_front;
        some_behind = joined.within;
        front = refl;
        back = refl;
      };
      first = λ b h. subst (λ xs. SameButFlags xs front) (sym (ap (λ (b : Buffer). b.glyphs) h.0)) joined.first;
      second = λ b h. subst (λ xs. SameButFlags xs back) (sym (ap (λ (b : Buffer). b.glyphs) h.0)) joined.second;
    }) leaves

-- MARKS
record KeepsLength (shaper : hb_ot_shaper_t) : Type 0 where
  long : (level : BufferClusterLevel) (s e : ℕ) (gs : Glyphs) → s ≤ e → e ≤ length gs
      → length (marks_after shaper level s e gs) ≡ length gs
  is : (s e : ℕ) (old new : Buffer) → MarksReordered shaper s e old new
      → new.glyphs ≡ marks_after shaper old.level s e old.glyphs

marks_text : (shaper : hb_ot_shaper_t) → KeepsLength shaper → MarkedBreaks shaper
marks_text shaper keeps s e behind old new h l can inside done leaves =
    let gs = old.glyphs in
    let text : MarkedText = record { start = s; end = e; glyphs = gs } in
    let Makes : MarkedText → Glyphs → Type 0 = λ x ys. SameButFlags
    (marks_after shaper old.level x.start x.end x.glyphs)
    ys in
    let many : length new.glyphs ≡ length gs = ap length (keeps.is s e old new done)
    ∙ keeps.long old.level s e gs h l in
    behind_pieces MarkedText CutAroundMarks Makes (MarkedPiece shaper old.level behind) behind text new.glyphs
    (λ x ys zs own made. made (marks_after shaper old.level x.start x.end x.glyphs) own)
    (λ front back cut.
    let p = length front in
    let within : p < length gs = omega (arith, many, within_parts new.glyphs front back cut) in
    let broken = marks_break shaper s e old new h l can.merging can.monotone inside done p cut.some_in_front within
    cut.clear in
    let cut_long : length (take p gs) ≡ p = length-take-le p gs (omega (arith, within)) in
    let a = marks_after shaper old.level (min s p) (min e p) (take p gs) in
    let b = marks_after shaper old.level (s - p) (e - p) (drop p gs) in
    let long : length a ≡ length front = keeps.long old.level (min s p) (min e p) (take p gs) (omega (arith, h))
    (omega (arith, cut_long)) ∙ cut_long in
    let parts = joined_parts new.glyphs front back a b cut.parts long (ap order_view broken.halves
    ∙ map-append plain a b)
    (ap clusters broken.halves ∙ map-append (λ g. g.cluster) a b) in
    record {
      before = record { start = min s p; end = min e p; glyphs = take p gs };
      behind = record { start = s - p; end = e - p; glyphs = drop p gs };
      pieces = record { place = p; outside = broken.outside; front = refl; back = refl };
      first = parts.0;
      second = parts.1;
    }) leaves

pub arabic_marks : MarkedBreaks Arabic
arabic_marks = marks_text Arabic (record {
  long = λ level s e gs h l. (mark_laws level s e gs h l).glyphs.same_length;
  is = λ s e old new done. ap (λ (b : Buffer). b.glyphs) done;
})

pub hebrew_marks : MarkedBreaks Hebrew
hebrew_marks = marks_text Hebrew (record {
  long = λ level s e gs h l. (mark_laws_hebrew level s e gs (second_within gs s e h l)).glyphs.same_length;
  is = λ s e old new done. ap (λ (b : Buffer). b.glyphs) done;
})

-- Zawgyi has no hooks
pub bare_text : HookedBreaks (λ old new. new ≡ old) (λ b. Unit {0})
bare_text behind old new so is leaves =
    hook_behind (λ old new. new ≡ old) behind old new.glyphs (λ front back cut.
    let n = length front in
    let same : new.glyphs ≡ old.glyphs = ap (λ (b : Buffer). b.glyphs) is in
    let parts = sym same ∙ cut.parts in
    let is_front : take n old.glyphs ≡ front = ap (take n) parts ∙ take_at front back n refl in
    let is_back : drop n old.glyphs ≡ back = ap (drop n) parts ∙ drop_at front back n refl in
    record {
      before = front_at n old;
      behind = back_at n old;
      pieces = record {
        place = n;
        some_in_front = cut.some_in_front;
        some_behind = omega (arith, ap length same, within_parts new.glyphs front back cut);
        front = refl;
        back = refl;
      };
      first = λ b h. subst (λ xs. SameButFlags xs front)
          (sym (ap (λ (b : Buffer). b.glyphs) h ∙ is_front)) (own_text front);
      second = λ b h. subst (λ xs. SameButFlags xs back)
          (sym (ap (λ (b : Buffer). b.glyphs) h ∙ is_back)) (own_text back);
    }) leaves
