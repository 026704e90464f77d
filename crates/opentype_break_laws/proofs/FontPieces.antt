-- Lookups that put one glyph for one leave the pieces of a text side by side.
use Rattle.std.proofs.Common.{ℕ, zero, suc, ◌-◌, ◌%◌, ◌<◌, ◌≡◌, ◌==◌, ◌&&◌, ◌||◌, inl, inr, not, bit_and, Bool, true, false, List, [], ◌∷◌, length, map, drop, is_some, Option, None, Some, refl, sym, ap, subst, ◌∙◌, arith}
use Rattle.std.specs.List.{AllByRecursion}
use Rattle.shapers_buffer.specs.Buffer.{Buffer}
use Rattle.shapers_buffer.specs.Glyph.{order_view, plain}
use Rattle.shapers_buffer.specs.Glyphs.{Glyph, Glyphs}
use Rattle.shapers_clusters.specs.FlagLaw.{FlagsAdded}
use Rattle.shapers_clusters.proofs.FlagLaw.{added_same}
use Rattle.shapers_syllabic.specs.Borders.{unnumbered}
use Rattle.shapers_syllabic.proofs.Serials.{same_text}
use Rattle.shapers_break_laws.specs.Pieces.{CutWhereClear}
use Rattle.shapers_break_laws.proofs.MaskReads.{mask_read}
use Rattle.shapers_break_laws.proofs.Pieces.{ReadsOrder, flags-twice, kind-twice, reads_order, still}
use Rattle.shapers_plan.specs.declared.ot_map.lookups.Stage.{Stage}
use Rattle.shapers_plan.specs.declared.ot_map.lookups.StageLookup.{StageLookup}
use Rattle.shapers_pipeline.specs.Lookups.{LookupKeeps, lookups_of_stage}
use Rattle.shapers_pipeline.specs.Stages.{StagesRun, Substitution}
use Rattle.shapers_editing.specs.PipelineBreaks.{AreAsIn, EachLeaves, IsPiece, LookupLeaves, LookupsLeave, Numbering, NotesReadOrder, PipelineBreaks, SameButNumbers, unlinked}
use Rattle.shapers_editing.proofs.PiecesAlike.{KeepsNumbers, cut_each, each_made}
use Rattle.opentype_face.specs.Firsts.{first_from}
use Rattle.opentype_face.specs.Lookups.{lookup_in, subtables_in}
use Rattle.opentype_layout.specs.Sight.{ignores, sight_of_input}
use Rattle.opentype_layout.specs.Starts.{starting}
use Rattle.opentype_layout.specs.Text.{glyph_at}
use Rattle.opentype_gsub.specs.Edits.{replaced}
use Rattle.opentype_gsub.specs.Presence.{is_left}
use Rattle.opentype_gsub.specs.Setting.{how_of, is_seen}
use Rattle.opentype_gsub.specs.declared.pass.LookupUse.{LookupUse}
use Rattle.opentype_gsub.proofs.Untouched.{buffer_left}
use Rattle.opentype_font.specs.Lookups.{noted_by, substituted_by, use_for}
use Rattle.opentype_font.specs.Proved.LookupLaws.{substituting_keeps}
use Rattle.opentype_break_laws.specs.FontPieces.{AtLookups, BeginsNowhere, EachAt, FontLookupsLeavePieces, FontRunsLeavePieces, FontTextsBreak, OneForOneGoesByPieces, PutsOneForOne, GoesByPieces}
use Rattle.opentype_break_laws.proofs.LigatureModel.{all_back, all_drop, all_front, all_take}
use Rattle.opentype_break_laws.proofs.LigaturePieces.{ligatures_leave}
use Rattle.opentype_break_laws.proofs.LigatureNumbers.{by_presence, uncompared}
use Rattle.opentype_break_laws.proofs.LigatureViews.{with_presence, hiding_number}
use Rattle.opentype_break_laws.proofs.SequencePieces.{sequences_leave}
use Rattle.opentype_break_laws.proofs.ByGlyph.{changed, found_by, put_if, substituted_each, value_by}

-- ---- A GLYPH, by whether the lookup sees it and what was found for it

put_added : (gdef : List ℕ) (seen : Bool) (found : Option ℕ) (g : Glyph) → FlagsAdded g (put_if gdef seen found g)
unfolding replaced
put_added gdef true (Some to) g = added_same g (replaced gdef to 0 g) refl refl
put_added gdef true None g = added_same g g refl refl
put_added gdef false found g = added_same g g refl refl

put_byte : (gdef : List ℕ) (seen : Bool) (found : Option ℕ) (g : Glyph) → (put_if gdef seen found g).syllable ≡ g.syllable
unfolding replaced
put_byte gdef true (Some to) g = refl
put_byte gdef true None g = refl
put_byte gdef false found g = refl

put_viewed : (gdef : List ℕ) (seen : Bool) (found : Option ℕ) (g : Glyph) → plain (put_if gdef seen found g)
    ≡ plain (put_if gdef seen found (plain g))
unfolding replaced
put_viewed gdef true (Some to) g =
    ap (λ (k : ℕ). let r : Glyph = record (replaced gdef to 0 g) { cluster = 0; mask = k } in r) (sym (flags-twice g.mask))
put_viewed gdef true None g = still.viewed g
put_viewed gdef false found g = still.viewed g

put_counted : (gdef : List ℕ) (seen : Bool) (found : Option ℕ) (g : Glyph) → unnumbered (plain (put_if gdef seen found g))
    ≡ unnumbered (plain (put_if gdef seen found (unnumbered g)))
unfolding replaced
put_counted gdef true (Some to) g =
    ap (λ (k : ℕ). let r : Glyph = record (plain (replaced gdef to 0 g)) { syllable = k } in r) (sym (kind-twice g.syllable))
put_counted gdef true None g = still.counted g
put_counted gdef false found g = still.counted g

put_passes : (gdef : List ℕ) (seen : Bool) (found : Option ℕ) (g : Glyph) → unlinked (put_if gdef seen found g)
    ≡ put_if gdef seen found (unlinked g)
unfolding replaced
put_passes gdef true (Some to) g = refl
put_passes gdef true None g = refl
put_passes gdef false found g = refl

put_keeps : (gdef : List ℕ) (seen : Bool) (found : Option ℕ) (g : Glyph) → (put_if gdef seen found g).lig_props ≡ g.lig_props
unfolding replaced
put_keeps gdef true (Some to) g = refl
put_keeps gdef true None g = refl
put_keeps gdef false found g = refl

-- whether the lookup sees a glyph, by the bits of its mask that the glyph has
seen_with : List ℕ → LookupUse → List ℕ → ℕ → Glyph → Bool
seen_with gdef use_of table held g =
    let sight = sight_of_input gdef table (how_of use_of) 0 in
    not (held == 0) && not (ignores gdef sight.flag sight.set g)

changed_keeps : (gdef : List ℕ) (use_of : LookupUse) (table : List ℕ) → use_of.mask % 8 ≡ 0
    → KeepsNumbers (changed gdef use_of table)
unfolding is_seen ignores seen_with
changed_keeps gdef use_of table flagless =
    let held : Glyph → ℕ = λ g. bit_and g.mask use_of.mask in
    let seen : Glyph → Bool = λ g. is_seen gdef use_of table g in
    let found : Glyph → Option ℕ = λ g. found_by table (g.glyph_id % 65536) (value_by use_of.mask (held g)) in
    let put : Glyph → ℕ → Glyph = λ g n. plain (put_if gdef (seen_with gdef use_of table n g)
    (found_by table (g.glyph_id % 65536) (value_by use_of.mask n)) (plain g)) in
    let reads : ReadsOrder (changed gdef use_of table) = record {
      added = λ g. put_added gdef (seen g) (found g) g;
      byte = λ g. put_byte gdef (seen g) (found g) g;
      viewed = λ g. put_viewed gdef (seen g) (found g) g ∙ ap (put g) (sym (mask_read g.mask use_of.mask flagless));
      counted = λ g. put_counted gdef (seen g) (found g) g;
    } in
    record {
      changes = reads_order (changed gdef use_of table) reads;
      passed = λ g. put_passes gdef (seen g) (found g) g;
      kept = λ g. put_keeps gdef (seen g) (found g) g;
    }

-- ---- A LOOKUP

-- a lookup that changes each glyph by itself
pub each_leaves : (numbered : Numbering) (text : Buffer) (substituted : StageLookup → Buffer → Buffer)
    (lookup : StageLookup) (f : Glyph → Glyph) → KeepsNumbers f
    → ((b : Buffer) → (substituted lookup b).glyphs ≡ map f b.glyphs)
    → (b : Buffer) → LookupLeaves numbered text substituted lookup b
each_leaves numbered text substituted lookup f keeps is b front back cut =
    let own = cut_each f keeps.changes b.glyphs front back (subst (λ gs. CutWhereClear gs front back) (is b) cut) in
    record {
      before = own.before;
      behind = own.behind;
      pieces = own.pieces;
      first = λ one piece. subst (AreAsIn numbered front) (sym (is one))
          (each_made numbered f keeps own.before front own.first one.glyphs piece.same);
      second = λ one piece. subst (AreAsIn numbered back) (sym (is one))
          (each_made numbered f keeps own.behind back own.second one.glyphs piece.same);
    }

pub one_for_one_leaves : (numbered : Numbering) (text : Buffer) (gdef gsub : List ℕ) (lookup : StageLookup) (b : Buffer)
    → PutsOneForOne gsub lookup → LookupLeaves numbered text (substituted_by gdef gsub) lookup b
one_for_one_leaves numbered text gdef gsub lookup b puts =
    let table = lookup_in gsub lookup.index in
    each_leaves numbered text (substituted_by gdef gsub) lookup (changed gdef (use_for lookup) table)
    (changed_keeps gdef (use_for lookup) table puts.flagless)
    (λ one. substituted_each gdef gsub (use_for lookup) one puts.table) b

-- ---- A LOOKUP THAT BEGINS NOWHERE

pub all_by : {X : Type 0} (P Q : X → Type 0) (h : X → X) → ((x : X) → P x → Q (h x)) → (xs : List X) → AllByRecursion P xs
    → AllByRecursion Q (map h xs)
all_by P Q h is [] all = tt
all_by P Q h is (x ∷ xs) all = (is x all.0, all_by P Q h is xs all.1)

pub all_unmapped : {X : Type 0} (P Q : X → Type 0) (h : X → X) → ((x : X) → Q (h x) → P x) → (xs : List X)
    → AllByRecursion Q (map h xs) → AllByRecursion P xs
all_unmapped P Q h is [] all = tt
all_unmapped P Q h is (x ∷ xs) all = (is x all.0, all_unmapped P Q h is xs all.1)

left_plain : (use_of : LookupUse) (table : List ℕ) → use_of.mask % 8 ≡ 0 → (g : Glyph)
    → is_left use_of table (plain g) ≡ is_left use_of table g
unfolding is_left
left_plain use_of table flagless g =
    ap (λ n. (n == 0) || not (is_some (first_from (subtables_in table) (starting false table (g.glyph_id % 65536)) 0)))
    (mask_read g.mask use_of.mask flagless)

left_unlinked : (use_of : LookupUse) (table : List ℕ) (g : Glyph)
    → is_left use_of table (unlinked g) ≡ is_left use_of table g
unfolding is_left
left_unlinked use_of table g = refl

left_unnumbered : (use_of : LookupUse) (table : List ℕ) (g : Glyph)
    → is_left use_of table (unnumbered g) ≡ is_left use_of table g
unfolding is_left
left_unnumbered use_of table g = refl

-- it begins nowhere in a text that is the same but for numbers
left_alike : (use_of : LookupUse) (table : List ℕ) → use_of.mask % 8 ≡ 0 → (gs hs : Glyphs) → SameButNumbers gs hs
    → AllByRecursion (λ g. is_left use_of table g ≡ true) hs → AllByRecursion (λ g. is_left use_of table g ≡ true) gs
left_alike use_of table flagless gs hs same left =
    let IsLeft : Glyph → Type 0 = λ g. is_left use_of table g ≡ true in
    let one = all_by IsLeft IsLeft unlinked (λ g l. left_unlinked use_of table g ∙ l) hs left in
    let two = all_by IsLeft IsLeft plain (λ g l. left_plain use_of table flagless g ∙ l) (map unlinked hs) one in
    let three = all_by IsLeft IsLeft unnumbered (λ g l. left_unnumbered use_of table g ∙ l) (order_view (map unlinked hs)) two in
    let other = subst (AllByRecursion IsLeft)
    (sym (same_text (order_view (map unlinked gs)) (order_view (map unlinked hs)) same.0)) three in
    all_unmapped IsLeft IsLeft unlinked (λ g l. sym (left_unlinked use_of table g) ∙ l) gs
    (all_unmapped IsLeft IsLeft plain (λ g l. sym (left_plain use_of table flagless g) ∙ l) (map unlinked gs)
    (all_unmapped IsLeft IsLeft unnumbered (λ g l. sym (left_unnumbered use_of table g) ∙ l) (order_view (map unlinked gs)) other))

left_at : (use_of : LookupUse) (table : List ℕ) (gs : Glyphs) → AllByRecursion (λ g. is_left use_of table g ≡ true) gs
    → (j : ℕ) → j < length gs → is_left use_of table (glyph_at gs j) ≡ true
left_at use_of table [] all j lt = absurd (omega (arith, lt))
left_at use_of table (g ∷ gs) all zero lt = all.0
left_at use_of table (g ∷ gs) all (suc j) lt = left_at use_of table gs all.1 j (omega (arith, lt))

unbegun : (gdef gsub : List ℕ) (lookup : StageLookup) (b : Buffer)
    → AllByRecursion (λ g. is_left (use_for lookup) (lookup_in gsub lookup.index) g ≡ true) b.glyphs
    → (substituted_by gdef gsub lookup b).glyphs ≡ b.glyphs
unbegun gdef gsub lookup b all =
    let table = lookup_in gsub lookup.index in
    sym (ap (λ (x : Buffer). x.glyphs) (buffer_left gdef gsub (use_for lookup) b table (length b.glyphs) refl
    (left_at (use_for lookup) table b.glyphs all) (omega arith) (omega arith)))

pub unbegun_leaves : (numbered : Numbering) (text : Buffer) (gdef gsub : List ℕ) (lookup : StageLookup) (b : Buffer)
    → BeginsNowhere gsub lookup b → LookupLeaves numbered text (substituted_by gdef gsub) lookup b
unbegun_leaves numbered text gdef gsub lookup b begins front back cut =
    let IsLeft : Glyph → Type 0 = λ g. is_left (use_for lookup) (lookup_in gsub lookup.index) g ≡ true in
    let own = subst (λ gs. CutWhereClear gs front back) (unbegun gdef gsub lookup b begins.left) cut in
    let all = subst (AllByRecursion IsLeft) own.parts begins.left in
    let makes : (part : Glyphs) → AllByRecursion IsLeft part → (one : Buffer) → IsPiece numbered text part one
    → AreAsIn numbered part (substituted_by gdef gsub lookup one).glyphs = λ part are one piece.
    subst (AreAsIn numbered part) (sym (unbegun gdef gsub lookup one
    (left_alike (use_for lookup) (lookup_in gsub lookup.index) begins.flagless one.glyphs part piece.same.glyphs are)))
    piece.same in
    record {
      before = front;
      behind = back;
      pieces = own;
      first = makes front (all_front IsLeft front back all);
      second = makes back (all_back IsLeft front back all);
    }

pub lookups_leave : FontLookupsLeavePieces
lookups_leave numbered text gdef gsub lookup b goes = elim goes [
  | inl puts ↦ one_for_one_leaves numbered text gdef gsub lookup b puts
  | inr other ↦ elim other [
    | inl begins ↦ unbegun_leaves numbered text gdef gsub lookup b begins
    | inr more ↦ elim more [
      | inl ligates ↦ elim ligates.compared [
        | inl none ↦ ligatures_leave numbered hiding_number (uncompared numbered none) text gdef gsub lookup b ligates.puts
            ligates.takes
        | inr presence ↦ ligatures_leave numbered with_presence (by_presence numbered presence) text gdef gsub lookup b
            ligates.puts ligates.takes
      ]
      | inr spreads ↦ sequences_leave numbered spreads.compared text gdef gsub lookup b spreads.puts spreads.takes
    ]
  ]
]

-- ---- A RUN

each_in_turn : (numbered : Numbering) (text : Buffer) (substituted : StageLookup → Buffer → Buffer)
    (P : StageLookup → Buffer → Type 0)
    → ((lookup : StageLookup) (b : Buffer) → P lookup b → LookupLeaves numbered text substituted lookup b)
    → (xs : List StageLookup) (b : Buffer) → EachAt P substituted xs b → EachLeaves numbered text substituted xs b
each_in_turn numbered text substituted P leaves [] b each = tt
each_in_turn numbered text substituted P leaves (x ∷ xs) b each =
    (leaves x b each.0, each_in_turn numbered text substituted P leaves xs (substituted x b) each.1)

run_leaves : (numbered : Numbering) (text : Buffer) (r : Substitution) (P : StageLookup → Buffer → Type 0)
    → ((lookup : StageLookup) (b : Buffer) → P lookup b → LookupLeaves numbered text r.substituted lookup b)
    → (ss : List Stage) (old new : Buffer) (run : StagesRun r ss old new) → AtLookups P r ss old new run
    → LookupsLeave numbered text r ss old new run
run_leaves numbered text r P leaves [] old new run each = tt
run_leaves numbered text r P leaves (s ∷ ss) old new run each = (
  each_in_turn numbered text r.substituted P leaves (lookups_of_stage s r.list) old each.0,
  run_leaves numbered text r P leaves ss run.0 new run.1.1 each.1,
)

pub runs_leave : FontRunsLeavePieces
runs_leave numbered text gdef gsub r ss old new font run each =
    run_leaves numbered text r (GoesByPieces numbered text gsub)
    (λ lookup b reads. subst (λ f. LookupLeaves numbered text f lookup b) (sym font)
    (lookups_leave numbered text gdef gsub lookup b reads)) ss old new run each

each_of : (numbered : Numbering) (text : Buffer) (gsub : List ℕ) (substituted : StageLookup → Buffer → Buffer) (xs : List StageLookup) (b : Buffer)
    → AllByRecursion (PutsOneForOne gsub) xs → EachAt (GoesByPieces numbered text gsub) substituted xs b
each_of numbered text gsub substituted [] b all = tt
each_of numbered text gsub substituted (x ∷ xs) b all = (inl all.0, each_of numbered text gsub substituted xs (substituted x b) all.1)

pub one_for_one_goes : OneForOneGoesByPieces
one_for_one_goes numbered text gsub r [] old new all run = tt
one_for_one_goes numbered text gsub r (s ∷ ss) old new all run = (
  each_of numbered text gsub r.substituted (lookups_of_stage s r.list) old (all_take (PutsOneForOne gsub) (s.end - s.start)
      (drop s.start r.list) (all_drop (PutsOneForOne gsub) s.start r.list all)),
  one_for_one_goes numbered text gsub r ss run.0 new all run.1.1,
)

-- ---- A WHOLE TEXT

pub notes_read_order : (gdef : List ℕ) → NotesReadOrder (noted_by gdef)
notes_read_order gdef = record { viewed = λ g. refl; counted = λ g. refl }

pub texts_break : PipelineBreaks → FontTextsBreak
texts_break law numbered p gdef gsub r ss old new is alike run each pauses =
    law numbered p (noted_by gdef) r ss old new (record {
      no_ranges = is.no_ranges;
      masks = is.masks;
      notes = notes_read_order gdef;
      lookups_keep = λ lookup b none. subst (λ f. LookupKeeps b (f lookup b)) (sym is.font)
          (substituting_keeps gdef gsub (use_for lookup) b);
      numbers = alike;
      positions = is.positions;
    }) run (runs_leave numbered old gdef gsub r ss _ new is.font run each) pauses
