-- Lookups of contexts leave the pieces of a text side by side.
use Rattle.std.proofs.Common.{ℕ, suc, ◌+◌, ◌*◌, ◌^◌, ◌<◌, ◌≤◌, ◌≡◌, ◌==◌, ◌||◌, if◌then◌else◌, Bool, true, false, List, [], ◌∷◌, ◌++◌, length, map, take, drop, refl, sym, ap, subst, ◌∙◌, arith, length-append}
use Rattle.std.specs.List.{AllByRecursion, flat_map}
use Rattle.std.proofs.lemmas.Bool.Decides.{nat_tests}
use Rattle.std.proofs.lemmas.List.{drop-map, drop_at, get_or-append-add, get_or_append_left, length-map, length-take-le, take-append-drop, take-map, take_at}
use Rattle.shapers_buffer.specs.Buffer.{Buffer}
use Rattle.shapers_buffer.specs.Glyph.{clusters, default_glyph, order_view}
use Rattle.shapers_buffer.specs.Glyphs.{Glyph, Glyphs}
use Rattle.shapers_buffer.specs.Properties.{component}
use Rattle.shapers_buffer.specs.Syllables.{syllables, with_in_front}
use Rattle.shapers_buffer.specs.declared.buffer.lookup_record.LookupRecord.{LookupRecord}
use Rattle.shapers_clusters.specs.Breaks.{IsClear}
use Rattle.shapers_syllabic.specs.Borders.{unnumbered}
use Rattle.shapers_syllabic.proofs.CircleLaws.{joined-syllables}
use Rattle.shapers_syllabic.proofs.Serials.{same_text}
use Rattle.shapers_break_laws.specs.Pieces.{CutWhereClear}
use Rattle.shapers_break_laws.proofs.KeptFlags.{added_clear}
use Rattle.shapers_break_laws.proofs.MaskReads.{mask_read}
use Rattle.shapers_editing.specs.PipelineBreaks.{AreAsIn, IsPiece, Numbering, SameButNumbers, ligatures, unlinked}
use Rattle.opentype_face.specs.Lookups.{lookup_in, type_in}
use Rattle.opentype_layout.specs.Text.{glyph_at}
use Rattle.opentype_gsub.specs.Along.{lookup_applied, lookup_stepped}
use Rattle.opentype_gsub.specs.Setting.{Setting}
use Rattle.opentype_gsub.specs.Substituted.{applied, setting_for, substituted}
use Rattle.opentype_gsub.specs.declared.pass.LookupUse.{LookupUse}
use Rattle.opentype_font.specs.Lookups.{substituted_by, use_for}
use Rattle.opentype_break_laws.specs.Contexts.{HasFeature, HasOperations, LookAtFew, PutsInContext}
use Rattle.opentype_break_laws.specs.FontContexts.{ContextsLeavePieces, ShortTextsFlag}
use Rattle.opentype_break_laws.proofs.ContextFits.{feature_too}
use Rattle.opentype_break_laws.proofs.ContextParts.{is_beside, made_along, short_flags, two_parts, walk_comes}
use Rattle.opentype_break_laws.proofs.ContextSteps.{ComesOf, comes_long, staying_view}
use Rattle.opentype_break_laws.proofs.ContextWalk.{IsContextual, IsReady, beside}
use Rattle.opentype_break_laws.proofs.LigatureBorders.{begins_piece}
use Rattle.opentype_break_laws.proofs.LigatureFits.{IsPartOf, essence}
use Rattle.opentype_break_laws.proofs.LigatureModel.{all_back, all_front}
use Rattle.opentype_break_laws.proofs.LigatureViews.{AlikeTo, alike_long, at_same, component_seen, head_or, hiding_number, shows_none}

-- ---- SYLLABLES, by how long they are

abbrev bytes : Glyphs → List ℕ
bytes gs = map (λ g. g.syllable) gs

abbrev sizes : List Glyphs → List ℕ
sizes pieces = map (λ (piece : Glyphs). length piece) pieces

in_front : ℕ → List ℕ → List ℕ → List ℕ
in_front b [] ns = 1 ∷ []
in_front b (c ∷ cs) [] = 1 ∷ []
in_front b (c ∷ cs) (n ∷ ns) = if c == b then suc n ∷ ns else 1 ∷ (n ∷ ns)

sizes_by : List ℕ → List ℕ
sizes_by [] = []
sizes_by (b ∷ bs) = in_front b bs (sizes_by bs)

sizes_if : (b : Bool) (g h : Glyph) (piece : Glyphs) (more : List Glyphs)
    → sizes (if b then (g ∷ (h ∷ piece)) ∷ more else (g ∷ []) ∷ ((h ∷ piece) ∷ more))
    ≡ (if b then suc (suc (length piece)) ∷ sizes more else 1 ∷ (suc (length piece) ∷ sizes more))
sizes_if true g h piece more = refl
sizes_if false g h piece more = refl

sizes_are : (gs : Glyphs) → sizes (syllables gs) ≡ sizes_by (bytes gs)
unfolding sizes_by in_front
sizes_are [] = refl
sizes_are (g ∷ []) = refl
sizes_are (g ∷ h ∷ hs) =
    let begins = begins_piece h (syllables hs) in
    let rest : suc (length begins.piece) ∷ sizes begins.more ≡ sizes_by (bytes (h ∷ hs)) = ap sizes (sym begins.is)
    ∙ sizes_are (h ∷ hs) in
    ap (λ l. sizes (with_in_front g l)) begins.is ∙ sizes_if (h.syllable == g.syllable) g h begins.piece begins.more
    ∙ ap (in_front g.syllable (bytes (h ∷ hs))) rest

-- a text cut into pieces so long
cut_by : List ℕ → Glyphs → List Glyphs
cut_by [] gs = []
cut_by (n ∷ ns) gs = take n gs ∷ cut_by ns (drop n gs)

cut_joined : (pieces : List Glyphs) → cut_by (sizes pieces) (flat_map (λ piece. piece) pieces) ≡ pieces
unfolding cut_by
cut_joined [] = refl
cut_joined (p ∷ pieces) =
    let rest = flat_map (λ (piece : Glyphs). piece) pieces in
    ap (λ x. x ∷ cut_by (sizes pieces) (drop (length p) (p ++ rest))) (take_at p rest (length p) refl)
    ∙ ap (λ x. p ∷ cut_by (sizes pieces) x) (drop_at p rest (length p) refl) ∙ ap (λ l. p ∷ l) (cut_joined pieces)

cut_mapped : (v : Glyph → Glyph) (ns : List ℕ) (gs : Glyphs) → map (map v) (cut_by ns gs) ≡ cut_by ns (map v gs)
unfolding cut_by
cut_mapped v [] gs = refl
cut_mapped v (n ∷ ns) gs = ap (λ x. x ∷ map (map v) (cut_by ns (drop n gs))) (sym (take-map v n gs))
    ∙ ap (λ l. take n (map v gs) ∷ l) (cut_mapped v ns (drop n gs) ∙ ap (cut_by ns) (sym (drop-map v n gs)))

syllables_are : (gs : Glyphs) → syllables gs ≡ cut_by (sizes_by (bytes gs)) gs
syllables_are gs = sym (cut_joined (syllables gs)) ∙ ap (cut_by (sizes (syllables gs))) (joined-syllables gs)
    ∙ ap (λ ns. cut_by ns gs) (sizes_are gs)

sizes_viewed : (pieces : List Glyphs) → sizes (map (map unnumbered) pieces) ≡ sizes pieces
sizes_viewed [] = refl
sizes_viewed (p ∷ pieces) = ap (λ n. n ∷ sizes (map (map unnumbered) pieces)) (length-map p unnumbered)
    ∙ ap (λ l. length p ∷ l) (sizes_viewed pieces)

sizes_same : (gs hs : Glyphs) → map (map unnumbered) (syllables gs) ≡ map (map unnumbered) (syllables hs)
    → sizes_by (bytes gs) ≡ sizes_by (bytes hs)
sizes_same gs hs same = sym (sizes_are gs) ∙ sym (sizes_viewed (syllables gs)) ∙ ap sizes same
    ∙ sizes_viewed (syllables hs) ∙ sizes_are hs

-- texts of the same syllables, whose glyphs are changed alike
syllables_same : (gs hs made part : Glyphs) → map (map unnumbered) (syllables gs) ≡ map (map unnumbered) (syllables hs)
    → bytes made ≡ bytes gs → bytes part ≡ bytes hs → map unnumbered made ≡ map unnumbered part
    → map (map unnumbered) (syllables made) ≡ map (map unnumbered) (syllables part)
syllables_same gs hs made part same one two alike =
    let ns = sizes_by (bytes made) in
    let sized : ns ≡ sizes_by (bytes part) = ap sizes_by one ∙ sizes_same gs hs same ∙ ap sizes_by (sym two) in
    ap (map (map unnumbered)) (syllables_are made) ∙ cut_mapped unnumbered ns made ∙ ap (cut_by ns) alike
    ∙ ap (λ l. cut_by l (map unnumbered part)) sized ∙ sym (cut_mapped unnumbered (sizes_by (bytes part)) part)
    ∙ ap (map (map unnumbered)) (sym (syllables_are part))

-- ---- WHAT A PIECE BECOMES beside what its part becomes

abbrev viewed : Glyphs → Glyphs
viewed gs = order_view (map unlinked gs)

viewed_essence : (gs : Glyphs) → map unnumbered (viewed gs) ≡ map essence gs
viewed_essence [] = refl
viewed_essence (g ∷ gs) = ap (λ l. essence g ∷ l) (viewed_essence gs)

viewed_bytes : (gs : Glyphs) → bytes (viewed gs) ≡ bytes gs
viewed_bytes [] = refl
viewed_bytes (g ∷ gs) = ap (λ l. g.syllable ∷ l) (viewed_bytes gs)

clusters_linked : (gs : Glyphs) → clusters (map unlinked gs) ≡ clusters gs
clusters_linked [] = refl
clusters_linked (g ∷ gs) = ap (λ l. g.cluster ∷ l) (clusters_linked gs)

-- what such a view shows is as it was
shown_kept : {X : Type 0} (f : Glyph → X) → ((g : Glyph) → f (staying_view g) ≡ f g) → (gs : Glyphs)
    → map f (map staying_view gs) ≡ map f gs
shown_kept f shows [] = refl
shown_kept f shows (g ∷ gs) = ap (λ x. x ∷ map f (map staying_view gs)) (shows g)
    ∙ ap (λ l. f g ∷ l) (shown_kept f shows gs)

kept_as : {X : Type 0} (f : Glyph → X) → ((g : Glyph) → f (staying_view g) ≡ f g) → (new old : Glyphs)
    → AlikeTo staying_view new old
    → map f new ≡ map f old
kept_as f shows new old e = sym (shown_kept f shows new) ∙ ap (map f) e ∙ shown_kept f shows old

pub alike_made : (numbered : Numbering) (gs hs made part : Glyphs) → AreAsIn numbered hs gs → AlikeTo staying_view made gs
    → AlikeTo staying_view part hs → AlikeTo essence made part → AreAsIn numbered part made
alike_made numbered gs hs made part same one two alike =
    let cluster : (xs ys : Glyphs) → AlikeTo staying_view xs ys
    → clusters xs ≡ clusters ys = kept_as (λ (g : Glyph). g.cluster) (λ g. refl) in
    let byte : (xs ys : Glyphs) → AlikeTo staying_view xs ys → bytes xs ≡ bytes ys = kept_as (λ (g : Glyph).
    g.syllable) (λ g. refl) in
    let link : (xs ys : Glyphs) → AlikeTo staying_view xs ys → ligatures xs ≡ ligatures ys = kept_as (λ (g : Glyph).
    g.lig_props) (λ g. refl) in
    record {
      glyphs = (
        syllables_same (viewed gs) (viewed hs) (viewed made) (viewed part) same.glyphs.0
            (viewed_bytes made ∙ byte made gs one ∙ sym (viewed_bytes gs)) (viewed_bytes part ∙ byte part hs two
            ∙ sym (viewed_bytes hs))
            (viewed_essence made ∙ alike ∙ sym (viewed_essence part)),
        clusters_linked made ∙ cluster made gs one ∙ sym (clusters_linked gs) ∙ same.glyphs.1 ∙ clusters_linked hs
            ∙ sym (cluster part hs two) ∙ sym (clusters_linked part),
      );
      numbers = subst (λ xs. numbered xs (ligatures part) ≡ true) (sym (link made gs one))
          (subst (λ ys. numbered (ligatures gs) ys ≡ true) (sym (link part hs two)) same.numbers);
    }

pub essence_of : (gs hs : Glyphs) → SameButNumbers gs hs → AlikeTo essence gs hs
essence_of gs hs same = sym (viewed_essence gs) ∙ same_text (viewed gs) (viewed hs) same.0 ∙ viewed_essence hs

-- ---- A PIECE as a part

pub all_by_essence : (P : Glyph → Type 0) → ((g h : Glyph) → essence g ≡ essence h → P h → P g) → (new old : Glyphs)
    → AlikeTo essence new old → AllByRecursion P old → AllByRecursion P new
all_by_essence P on [] old e all = tt
all_by_essence P on (g ∷ gs) [] e all = absurd (omega (arith, ap length e))
all_by_essence P on (g ∷ gs) (h ∷ hs) e all = (
  on g h (ap head_or e) all.0,
  all_by_essence P on gs hs (ap (drop 1) e) all.1,
)

pub component_too : (g h : Glyph) → essence g ≡ essence h → component h.lig_props ≡ 0 → component g.lig_props ≡ 0
component_too g h e is = sym (component_seen hiding_number shows_none g.lig_props.0)
    ∙ ap (λ (x : Glyph). component x.lig_props) e
    ∙ component_seen hiding_number shows_none h.lig_props.0 ∙ is

pub feature_back : (g h : Glyph) → essence g ≡ essence h → HasFeature h → HasFeature g
feature_back g h same is = feature_too h g (sym same) is

part_ready : (s : Setting) (hs part : Glyphs) → AlikeTo essence hs part
    → AllByRecursion (λ g. component g.lig_props ≡ 0) part
    → AllByRecursion HasFeature part → length part < 2 ^ 64 → s.len ≡ length hs → IsReady s hs
part_ready s hs part e none has small len = record {
  components = all_by_essence (λ (g : Glyph). component g.lig_props ≡ 0) component_too hs part e none;
  features = all_by_essence HasFeature feature_back hs part e has;
  size = omega (arith, small, alike_long essence hs part e);
  len = len;
}

pub front_part : (gs before behind hs : Glyphs) → gs ≡ before ++ behind → AlikeTo essence hs before → IsPartOf hs gs 0
front_part gs before behind hs parts e =
    let long : length hs ≡ length before = alike_long essence hs before e in
    record {
      within = omega (arith, long, ap length parts, length-append before behind);
      alike = λ i lt. (let z : i ≡ 0 + i = omega arith in
          at_same essence hs before i e ∙ ap essence (sym (get_or_append_left before behind default_glyph i (omega
          (arith, lt, long))))
          ∙ ap (λ l. essence (glyph_at l i)) (sym parts) ∙ ap (λ j. essence (glyph_at gs j)) z);
    }

pub back_part : (gs before behind hs is : Glyphs) → gs ≡ before ++ behind → AlikeTo essence is before
    → AlikeTo essence hs behind
    → IsPartOf hs gs (length is)
back_part gs before behind hs is parts one e =
    let long : length hs ≡ length behind = alike_long essence hs behind e in
    let front : length is ≡ length before = alike_long essence is before one in
    record {
      within = omega (arith, long, front, ap length parts, length-append before behind);
      alike = λ i lt. at_same essence hs behind i e ∙ ap essence (sym (get_or-append-add before behind i default_glyph))
          ∙ ap (λ l. essence (glyph_at l (length before + i))) (sym parts)
          ∙ ap (λ n. essence (glyph_at gs (n + i))) (sym front);
    }

alike_from : (gs hs : Glyphs) → length gs ≡ length hs → ((i : ℕ) → i < length gs
    → essence (glyph_at gs i) ≡ essence (glyph_at hs i))
    → AlikeTo essence gs hs
alike_from [] [] long each = refl
alike_from [] (h ∷ hs) long each = absurd (omega (arith, long))
alike_from (g ∷ gs) [] long each = absurd (omega (arith, long))
alike_from (g ∷ gs) (h ∷ hs) long each = ap (λ x. x ∷ map essence gs) (each 0 (omega arith))
    ∙ ap (λ l. essence h ∷ l) (alike_from gs hs (omega (arith, long)) (λ i lt. each (suc i) (omega (arith, lt))))

-- ---- THE LAW

pub not_eight : (k : ℕ) → ((k == 5) || (k == 6)) ≡ true → (k == 8) ≡ false
not_eight k e = grind (arith, nat_tests, e)

-- what the lookup makes of a buffer
pub made_is : (gdef gsub : List ℕ) (use_of : LookupUse) (b : Buffer) (most : ℕ) → PutsInContext most gsub use_of
    → (substituted gdef gsub use_of b).glyphs
    ≡ made_along (setting_for gdef gsub use_of b) (lookup_in gsub use_of.index) b.glyphs b.lookups
unfolding substituted applied
made_is gdef gsub use_of b most puts =
    let forwards = not_eight (type_in 7 (lookup_in gsub use_of.index) 0) (puts.table.types 0 puts.table.some) in
    rw forwards refl

pub as_contextual : (gdef gsub : List ℕ) (use_of : LookupUse) (b : Buffer) (most : ℕ) → PutsInContext most gsub use_of
    → IsContextual (setting_for gdef gsub use_of b) most (lookup_in gsub use_of.index)
as_contextual gdef gsub use_of b most puts = record {
  rules = puts.table;
  across = puts.across;
  flagless = λ m. mask_read m use_of.mask puts.flagless;
}

-- a text, what the lookup makes of it, and where that is cut
pub record IsCutAlike (gs last front back : Glyphs) : Type 0 where
  pub before : Glyphs
  pub behind : Glyphs
  pub pieces : CutWhereClear gs before behind
  pub first : AlikeTo staying_view front before
  pub second : AlikeTo staying_view back behind

pub cut_kept : (gs last front back : Glyphs) → ComesOf gs last → CutWhereClear last front back
    → IsCutAlike gs last front back
cut_kept gs last front back comes cut =
    let p = length front in
    let long : length last ≡ length gs = comes_long gs last comes in
    let whole : length last ≡ p + length back = ap length cut.parts ∙ length-append front back in
    let low : p ≤ length gs = omega (arith, long, whole) in
    let before_long : length (take p gs) ≡ p = length-take-le p gs low in
    let parts : gs ≡ take p gs ++ drop p gs = sym (take-append-drop p gs) in
    let behind_long : p + length (drop p gs) ≡ length gs = omega (
      arith,
      ap length parts,
      length-append (take p gs) (drop p gs),
      before_long,
    ) in
    let here : p < length last = omega (arith, whole, cut.some_behind) in
    record {
      before = take p gs;
      behind = drop p gs;
      pieces = record {
        parts = parts;
        some_in_front = omega (arith, before_long, cut.some_in_front);
        some_behind = omega (arith, behind_long, long, whole, cut.some_behind);
        clear = subst (IsClear gs) (sym before_long) (added_clear gs last comes.added p cut.some_in_front here
            cut.clear);
      };
      first = ap (map staying_view) (sym (take_at front back p refl) ∙ ap (take p) (sym cut.parts))
          ∙ sym (take-map staying_view p last)
          ∙ ap (take p) comes.kept ∙ take-map staying_view p gs;
      second = ap (map staying_view) (sym (drop_at front back p refl) ∙ ap (drop p) (sym cut.parts))
          ∙ sym (drop-map staying_view p last)
          ∙ ap (drop p) comes.kept ∙ drop-map staying_view p gs;
    }

-- the record of lookups of a text with so many operations
abbrev with_operations : ℕ → LookupRecord → LookupRecord
with_operations n r = record r { operations_left = n }

-- the same lookup in a buffer of a part
abbrev own : Setting → Glyphs → Setting
own s part = beside s s.level s.concat (length part) s.limit

-- what both pieces become, beside what the text became
pub record PiecesMade (one two front back : Glyphs) : Type 0 where
  pub first : AlikeTo essence one front
  pub second : AlikeTo essence two back

pieces_made : (s t u : Setting) (most : ℕ) (table : List ℕ) → (let a = beside s t.level t.concat t.len t.limit in
    let b = beside s u.level u.concat u.len u.limit in IsContextual s most table
    → (gs hs is front back : Glyphs) (r q v : LookupRecord) → IsReady s gs
    → CutWhereClear (made_along s table gs r) front back
    → (it : IsCutAlike gs (made_along s table gs r) front back) → AlikeTo essence hs it.before
    → AlikeTo essence is it.behind
    → t.len ≡ length hs → u.len ≡ length is → most * length gs ≤ r.operations_left
    → most * length hs ≤ q.operations_left → most * length is ≤ v.operations_left
    → ((j : ℕ) → LookAtFew s.gdef s.lookup table (lookup_applied j (lookup_stepped s table) gs 0 r).text)
    → PiecesMade (made_along a table hs q) (made_along b table is v) front back)
pieces_made s t u most table contextual gs hs is front back r q v ready cut it one two one_len two_len le one_le two_le
    few =
    let a = beside s t.level t.concat t.len t.limit in
    let b = beside s u.level u.concat u.len u.limit in
    let last = made_along s table gs r in
    let IsFree : Glyph → Type 0 = λ g. component g.lig_props ≡ 0 in
    let parts = it.pieces.parts in
    let free = subst (AllByRecursion IsFree) parts ready.components in
    let has = subst (AllByRecursion HasFeature) parts ready.features in
    let long : length gs ≡ length it.before + length it.behind = ap length parts ∙ length-append it.before it.behind in
    let hlong : length hs ≡ length it.before = alike_long essence hs it.before one in
    let ilong : length is ≡ length it.behind = alike_long essence is it.behind two in
    let flong : length front ≡ length it.before = alike_long staying_view front it.before it.first in
    let blong : length back ≡ length it.behind = alike_long staying_view back it.behind it.second in
    let size = ready.size in
    let one_ready = part_ready a hs it.before one (all_front IsFree it.before it.behind free) (all_front HasFeature
    it.before it.behind has)
    (omega (arith, long, size)) one_len in
    let two_ready = part_ready b is it.behind two (all_back IsFree it.before it.behind free) (all_back HasFeature
    it.before it.behind has)
    (omega (arith, long, size)) two_len in
    let place : length front ≡ length hs = omega (arith, flong, hlong) in
    let made = two_parts s t u most table contextual gs hs is r q v ready one_ready two_ready (front_part gs it.before
    it.behind hs parts one)
    (back_part gs it.before it.behind is hs parts one two) (omega (arith, long, hlong, ilong)) le one_le two_le
    (λ some lt. subst (IsClear last) place cut.clear) few in
    let a_long : length (made_along a table hs q) ≡ length hs = comes_long hs (made_along a table hs q)
    (walk_comes a most table (is_beside s most table t.level t.concat t.len t.limit contextual) (length hs) hs 0 q
    one_ready one_le) in
    let b_long : length (made_along b table is v) ≡ length is = comes_long is (made_along b table is v)
    (walk_comes b most table (is_beside s most table u.level u.concat u.len u.limit contextual) (length is) is 0 v
    two_ready two_le) in
    record {
      first = alike_from (made_along a table hs q) front (a_long ∙ sym place)
          (λ i lt. made.first i lt ∙ ap (λ l. essence (glyph_at l i)) cut.parts
          ∙ ap essence (get_or_append_left front back default_glyph i (omega (arith, lt, a_long, place))));
      second = alike_from (made_along b table is v) back (b_long ∙ ilong ∙ sym blong)
          (λ i lt. made.second i lt ∙ ap (λ n. essence (glyph_at last (n + i))) (sym place)
          ∙ ap (λ l. essence (glyph_at l (length front + i))) cut.parts
          ∙ ap essence (get_or-append-add front back i default_glyph));
    }

pub contexts_leave : ContextsLeavePieces
contexts_leave numbered text gdef gsub lookup b most puts takes front back cut =
    let use_of = use_for lookup in
    let table = lookup_in gsub lookup.index in
    let gs = b.glyphs in
    let s = setting_for gdef gsub use_of b in
    let last = made_along s table gs b.lookups in
    let contextual = as_contextual gdef gsub use_of b most puts in
    let ready : IsReady s gs = record {
      components = takes.components;
      features = takes.features;
      size = takes.size;
      len = refl;
    } in
    let comes = walk_comes s most table contextual (length gs) gs 0 b.lookups ready takes.operations in
    let whole : CutWhereClear last front back = subst (λ l. CutWhereClear l front back) (made_is gdef gsub use_of b
    most puts) cut in
    let it = cut_kept gs last front back comes whole in
    let becomes : (part made : Glyphs) (one : Buffer) → AlikeTo staying_view made part
    → IsPiece numbered text part one → IsReady (setting_for gdef gsub use_of one) one.glyphs
    → HasOperations most one → AlikeTo essence (made_along (setting_for gdef gsub use_of one) table one.glyphs
    one.lookups) made
    → AreAsIn numbered made (substituted_by gdef gsub lookup one).glyphs = λ part made one kept piece one_ready enough
    alike.
    subst (AreAsIn numbered made) (sym (made_is gdef gsub use_of one most puts))
    (alike_made numbered one.glyphs part (made_along (setting_for gdef gsub use_of one) table one.glyphs one.lookups)
    made piece.same
    (walk_comes (setting_for gdef gsub use_of one) most table (as_contextual gdef gsub use_of one most puts) (length
    one.glyphs) one.glyphs 0
    one.lookups one_ready enough).kept kept alike) in
    let IsFree : Glyph → Type 0 = λ g. component g.lig_props ≡ 0 in
    let free = subst (AllByRecursion IsFree) it.pieces.parts takes.components in
    let has = subst (AllByRecursion HasFeature) it.pieces.parts takes.features in
    let long : length gs ≡ length it.before + length it.behind = ap length it.pieces.parts
    ∙ length-append it.before it.behind in
    record {
      before = it.before;
      behind = it.behind;
      pieces = it.pieces;
      first = λ one piece enough. (let t = setting_for gdef gsub use_of one in
          let e = essence_of one.glyphs it.before piece.same.glyphs in
          becomes it.before front one it.first piece (part_ready t one.glyphs it.before e (all_front IsFree it.before
          it.behind free)
          (all_front HasFeature it.before it.behind has) (omega (arith, long, takes.size)) refl) enough
          (pieces_made s t (own s it.behind) most table contextual gs one.glyphs it.behind front back b.lookups
          one.lookups
          (with_operations (most * length it.behind) b.lookups) ready whole it e refl refl refl takes.operations enough
          (omega arith) takes.flagging).first);
      second = λ one piece enough. (let t = setting_for gdef gsub use_of one in
          let e = essence_of one.glyphs it.behind piece.same.glyphs in
          becomes it.behind back one it.second piece (part_ready t one.glyphs it.behind e (all_back IsFree it.before
          it.behind free)
          (all_back HasFeature it.before it.behind has) (omega (arith, long, takes.size)) refl) enough
          (pieces_made s (own s it.before) t most table contextual gs it.before one.glyphs front back b.lookups
          (with_operations (most * length it.before) b.lookups) one.lookups ready whole it refl e refl refl
          takes.operations (omega arith) enough takes.flagging).second);
    }

pub short_texts : ShortTextsFlag
short_texts gdef gsub lookup b most puts none has few le =
    short_flags (setting_for gdef gsub (use_for lookup) b) most (lookup_in gsub lookup.index)
    (as_contextual gdef gsub (use_for lookup) b most puts) b.glyphs b.lookups
    (record { components = none; features = has; size = omega (arith, few); len = refl }) le few
