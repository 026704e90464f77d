-- Syllables set up, looked up and reordered, with anything behind, leave the results of a text's pieces side by side.
use Rattle.std.proofs.Common.{[], ◌∷◌, ℕ, ◌≡◌, true, List, ◌++◌, length, take, drop, map, refl, sym, ap, ◌∙◌, subst, take-append-drop}
use Rattle.std.proofs.lemmas.List.{drop-map, drop_at, length-map, map-append, take-map, take_at}
use Rattle.std.proofs.lemmas.Simd.{map-map}
use Rattle.shapers_base.specs.declared.plan.pause.Pause.TheVariants.{InitialReordering, ReorderKhmer, ReorderMyanmar, SetupSyllablesIndic, SetupSyllablesKhmer, SetupSyllablesMyanmar}
use Rattle.shapers_buffer.specs.Buffer.{Buffer}
use Rattle.shapers_buffer.specs.Clusters.{merges}
use Rattle.shapers_buffer.specs.Glyph.{clusters, order_view, plain}
use Rattle.shapers_buffer.specs.Syllables.{spans_cover}
use Rattle.shapers_buffer.specs.Glyphs.{Glyph, Glyphs}
use Rattle.shapers_buffer.specs.declared.buffer.level.BufferClusterLevel.{BufferClusterLevel}
use Rattle.shapers_buffer.specs.declared.buffer.syllables.Span.{Span}
use Rattle.shapers_indic.specs.Plan.{indic_in}
use Rattle.shapers_indic_initial.specs.InitialLaws.{OrderByFontLaws, OrderByFontReadsNoSerials}
use Rattle.shapers_khmer.specs.Khmer.{order_in}
use Rattle.shapers_khmer.specs.KhmerLaws.{KhmerMovesMerged, KhmerReadsNoSerials, KhmerReorderLaws}
use Rattle.shapers_myanmar.specs.MyanmarLaws.{MyanmarMovesMerged, MyanmarReadsNoSerials, MyanmarReorderLaws}
use Rattle.shapers_syllabic.specs.declared.ot_shaper_syllabic.kinds.indic_syllable.TheConstants.{BROKEN_CLUSTER as BROKEN_INDIC}
use Rattle.shapers_syllabic.specs.declared.ot_shaper_syllabic.kinds.khmer_syllable.TheConstants.{BROKEN_CLUSTER as BROKEN_KHMER}
use Rattle.shapers_syllabic.specs.declared.ot_shaper_syllabic.kinds.myanmar_syllable.TheConstants.{BROKEN_CLUSTER as BROKEN_MYANMAR}
use Rattle.shapers_syllabic.specs.Borders.{SameButSerials, spans_setup, unnumbered}
use Rattle.shapers_syllabic.specs.Reordering.{carried}
use Rattle.shapers_syllabic.specs.ReorderingLaws.{ReadsNoSerials, ReorderLaws, paused_carried, paused_order}
use Rattle.shapers_syllabic.specs.Syllabic.{unsafe_spans}
use Rattle.shapers_syllabic.proofs.PauseCuts.{apart_by}
use Rattle.shapers_syllabic.proofs.Serials.{same-view, same_text}
use Rattle.rustybuzz_shapers.specs.Pauses.{Reordered, Reordering, by_initial, by_khmer, by_myanmar}
use Rattle.shapers_break_laws.specs.ChainBreaks.{IsSpanned, LeavesSideBySide, LookedUp}
use Rattle.shapers_break_laws.specs.IndicChain.{reordered_text}
use Rattle.shapers_break_laws.specs.KeptTextBreaks.{KeptTextBreaks, KeptTextBroken}
use Rattle.shapers_break_laws.specs.Pieces.{BreaksWhereCleared, CutAtSpans, LeavesPieces, SameButFlags, SpannedText}
use Rattle.shapers_break_laws.specs.ShaperBreaks.{IsApart, IsInOrder, SyllabicBreaks, SyllabicPiece}
use Rattle.shapers_break_laws.proofs.ChainBreaks.{made_cut}
use Rattle.shapers_break_laws.proofs.HookPieces.{within_parts}
use Rattle.shapers_break_laws.proofs.IndicBreaks.{initial_text_breaks}
use Rattle.shapers_break_laws.proofs.KeptTextBreaks.{text_breaks}
use Rattle.shapers_break_laws.proofs.Pieces.{behind_pieces}
use Rattle.shapers_break_laws.proofs.SideBySide.{combined, long_carried, seen_whole, text_is, text_same}

-- texts that are the same but for serials
same_clusters_too : (gs hs : Glyphs) → map unnumbered gs ≡ map unnumbered hs → clusters gs ≡ clusters hs
same_clusters_too gs hs same = sym (map-map (λ (g : Glyph). g.cluster) unnumbered gs) ∙ ap clusters same
    ∙ map-map (λ (g : Glyph). g.cluster) unnumbered hs

but_serials : (gs hs : Glyphs) → SameButSerials gs hs → SameButFlags gs hs
but_serials gs hs same = (same-view gs hs same, same_clusters_too gs hs (same_text gs hs same))

-- THE PARTS of a text at a place where a reordering may be broken
part : (front order along : Glyphs) → order_view front ≡ order → map carried front ≡ along
    → combined order along ≡ front
part front order along seen moved = ap (λ os. combined os along) (sym seen)
    ∙ ap (combined (order_view front)) (sym moved)
    ∙ seen_whole front

parts_of : (r : Reordering) → ReorderLaws r.order r.steps → (level : BufferClusterLevel) (old new front back : Glyphs)
    → new ≡ front ++ back → (broken : KeptTextBroken r.circles r.order r.steps level old new (length front))
    → (reordered_text r level broken.before ≡ front) × (reordered_text r level broken.behind ≡ back)
parts_of r laws level old new front back parts broken =
    let n = length front in
    let a = broken.before in
    let b = broken.behind in
    let oa = paused_order r.circles r.order a in
    let ob = paused_order r.circles r.order b in
    let ca = paused_carried r.circles r.steps level a in
    let cb = paused_carried r.circles r.steps level b in
    let views : order_view front ++ order_view back ≡ oa ++ ob = sym (map-append plain front back)
    ∙ ap order_view (sym parts) ∙ broken.halves.order in
    let along : map carried front ++ map carried back ≡ ca ++ cb = sym (map-append carried front back)
    ∙ ap (map carried) (sym parts) ∙ broken.halves.moved broken.apart in
    let fv : length (order_view front) ≡ n = length-map front plain in
    let fc : length (map carried front) ≡ n = length-map front carried in
    let long : length ca ≡ n = long_carried r.order r.steps laws r.circles level a ∙ broken.place in (
      part front oa ca
          (sym (take_at (order_view front) (order_view back) n fv) ∙ ap (take n) views ∙ take_at oa ob n broken.place)
          (sym (take_at (map carried front) (map carried back) n fc) ∙ ap (take n) along ∙ take_at ca cb n long),
      part back ob cb
          (sym (drop_at (order_view front) (order_view back) n fv) ∙ ap (drop n) views ∙ drop_at oa ob n broken.place)
          (sym (drop_at (map carried front) (map carried back) n fc) ∙ ap (drop n) along ∙ drop_at ca cb n long),
    )

-- a text whose masks were set glyph by glyph, cut where these are
record CutMasked (c : Glyph → Glyph) (gs : Glyphs) (front back : List Span)
    (before behind : Glyphs) :
    Type 0 where
  first_glyphs : Glyphs
  second_glyphs : Glyphs
  first_is : map c first_glyphs ≡ before
  second_is : map c second_glyphs ≡ behind
  glyphs : gs ≡ first_glyphs ++ second_glyphs

cut_masked : (c : Glyph → Glyph) (gs : Glyphs) (front back : List Span) (before behind : Glyphs)
    → map c gs ≡ before ++ behind → CutMasked c gs front back before behind
cut_masked c gs front back before behind text =
    let n = length before in
    record {
      first_glyphs = take n gs;
      second_glyphs = drop n gs;
      first_is = sym (take-map c n gs) ∙ ap (take n) text ∙ take_at before behind n refl;
      second_is = sym (drop-map c n gs) ∙ ap (drop n) text ∙ drop_at before behind n refl;
      glyphs = sym (take-append-drop n gs);
    }

-- THE CHAIN up to its reordering
abbrev Reorders : Reordering → (Glyph → Glyph) → (Glyphs → Glyphs) → Buffer → SpannedText → Glyphs
    → Type 0
Reorders r c lookups between piece made = (one : Buffer)
    → Reordered r (record between { glyphs = lookups (unsafe_spans piece.spans (map c piece.glyphs)) }) one
    → SameButFlags one.glyphs made

record IsChain (c : Glyph → Glyph) (broken_kind : ℕ) (r : Reordering) (lookups : Glyphs → Glyphs)
    (spans : List Span) (old masked mid between reordered : Buffer) : Type 0 where
  keeps : (gs : Glyphs) → clusters (map c gs) ≡ clusters gs
  masks : masked.glyphs ≡ map c old.glyphs
  spanned : IsSpanned spans masked
  setup : mid ≡ spans_setup spans broken_kind masked
  looked : LookedUp lookups mid between
  laws : ReorderLaws r.order r.steps
  reads : ReadsNoSerials r.order r.steps
  breaks : KeptTextBreaks r.circles r.order r.steps between.level between.glyphs reordered.glyphs

chain_pieces : (c : Glyph → Glyph) (broken_kind : ℕ) (r : Reordering) (lookups : Glyphs → Glyphs)
    (spans : List Span) (old masked mid between reordered : Buffer)
    → IsChain c broken_kind r lookups spans old masked mid between reordered
    → BreaksWhereCleared SpannedText CutAtSpans (Reorders r c lookups between)
    (record { spans = spans; glyphs = old.glyphs }) reordered.glyphs
chain_pieces c broken_kind r lookups spans old masked mid between reordered is front back cut =
    let broken = is.breaks (length front) cut.some_in_front (within_parts reordered.glyphs front back cut) cut.clear in
    let level = between.level in
    let bare = unsafe_spans spans masked.glyphs in
    let mid_is : mid.glyphs ≡ bare = ap (λ (b : Buffer). b.glyphs) is.setup in
    let side = subst (LeavesSideBySide lookups) mid_is is.looked.side_by_side in
    let text : lookups bare ≡ broken.before ++ broken.behind = ap lookups (sym mid_is) ∙ sym is.looked.glyphs
    ∙ broken.text in
    let made = made_cut broken_kind lookups spans masked is.spanned.kinds is.spanned.covered side broken.before
    broken.behind (side.halves broken.before broken.behind text broken.border broken.apart) in
    let at = made.cut in
    let own = cut_masked c old.glyphs at.front at.back at.before at.behind (sym is.masks ∙ at.text) in
    let (is_front, is_back) = parts_of r is.laws level between.glyphs reordered.glyphs front back cut.parts broken in
    let results : (ss : List Span) (xs ys gs zs : Glyphs) → map c xs ≡ ys
    → SameButSerials gs (lookups (unsafe_spans ss ys))
    → reordered_text r level gs ≡ zs → Reorders r c lookups between (record { spans = ss; glyphs = xs }) zs =
    λ ss xs ys gs zs masks same result one done.
    let start = lookups (unsafe_spans ss (map c xs)) in
    let first : SameButSerials start gs = sym (subst (λ hs. SameButSerials gs (lookups (unsafe_spans ss hs)))
    (sym masks)
    same) in
    subst (λ hs. SameButFlags hs zs) (sym (text_is r (record between { glyphs = start }) one done))
    (subst (SameButFlags (reordered_text r level start)) result
    (but_serials (reordered_text r level start) (reordered_text r level gs)
    (text_same r is.laws is.reads level start gs first))) in
    record {
      before = record { spans = at.front; glyphs = own.first_glyphs };
      behind = record { spans = at.back; glyphs = own.second_glyphs };
      pieces = record {
        split = at.split;
        parts = own.glyphs;
        first = ap (λ n. spans_cover n at.front) (sym (length-map own.first_glyphs c)
            ∙ ap length own.first_is) ∙ at.first;
        second = ap (λ n. spans_cover n at.back) (sym (length-map own.second_glyphs c) ∙ ap length own.second_is)
            ∙ at.second;
        apart = apart_by own.first_glyphs own.second_glyphs at.before at.behind
            (sym (is.keeps own.first_glyphs) ∙ ap clusters own.first_is)
            (sym (is.keeps own.second_glyphs) ∙ ap clusters own.second_is) at.apart;
      };
      first = results at.front own.first_glyphs at.before broken.before front own.first_is
          (subst (SameButSerials broken.before) made.first refl) is_front;
      second = results at.back own.second_glyphs at.behind broken.behind back own.second_is made.second is_back;
    }

-- and what stands behind it
all_behind : (c : Glyph → Glyph) (broken_kind : ℕ) (r : Reordering)
    (lookups behind : Glyphs → Glyphs)
    (spans : List Span) (old masked mid between reordered new : Buffer)
    → IsChain c broken_kind r lookups spans old masked mid between reordered → LeavesPieces behind reordered.glyphs
    → new.glyphs ≡ behind reordered.glyphs → BreaksWhereCleared SpannedText CutAtSpans
    (SyllabicPiece r c lookups behind between) (record { spans = spans; glyphs = old.glyphs }) new.glyphs
all_behind c broken_kind r lookups behind spans old masked mid between reordered new chain leaves is =
    let text : SpannedText = record { spans = spans; glyphs = old.glyphs } in
    subst (BreaksWhereCleared SpannedText CutAtSpans (SyllabicPiece r c lookups behind between) text) (sym is)
    (behind_pieces SpannedText CutAtSpans (Reorders r c lookups between)
    (SyllabicPiece r c lookups behind between) behind
    text reordered.glyphs (λ x ys zs own made one done. made one.glyphs (own one done))
    (chain_pieces c broken_kind r lookups spans old masked mid between reordered chain) leaves)

merging_still : (spans : List Span) (broken_kind : ℕ) (lookups : Glyphs → Glyphs) (masked mid between : Buffer)
    → IsSpanned spans masked → mid ≡ spans_setup spans broken_kind masked → LookedUp lookups mid between
    → merges between.level ≡ true
merging_still spans broken_kind lookups masked mid between spanned setup looked =
    ap merges (looked.level ∙ ap (λ (b : Buffer). b.level) setup) ∙ spanned.merging

-- clusters through a change of each glyph
clusters-changed : (change : Glyph → Glyph)
    → ((g : Glyph) → (change g).cluster ≡ g.cluster) → (gs : Glyphs) → clusters (map change gs) ≡ clusters gs
clusters-changed change stay [] = refl
clusters-changed change stay (g ∷ gs) = ap (λ c. c ∷ clusters (map change gs)) (stay g)
    ∙ ap (λ cs. g.cluster ∷ cs) (clusters-changed change stay gs)

pub khmer_text : KhmerReorderLaws → KhmerMovesMerged → KhmerReadsNoSerials
    → SyllabicBreaks SetupSyllablesKhmer ReorderKhmer by_khmer IsInOrder
khmer_text laws inside reads plan font change lookups behind spans old new run mono =
    let r = by_khmer plan font run.between in
    let law = laws (order_in plan.plan_data) in
    all_behind change BROKEN_KHMER r lookups behind spans old run.masked run.mid run.between run.reordered new (record {
      keeps = clusters-changed change run.clusters_stay;
      masks = run.masks;
      spanned = run.spanned;
      setup = run.syllables;
      looked = run.looked;
      laws = law;
      reads = reads (order_in plan.plan_data);
      breaks = text_breaks r.order r.steps law inside r.circles run.between run.reordered
          (merging_still spans BROKEN_KHMER lookups run.masked run.mid run.between run.spanned run.syllables run.looked)
          run.looked.flags mono run.order;
    }) run.side_by_side run.glyphs

pub myanmar_text : MyanmarReorderLaws → MyanmarMovesMerged → MyanmarReadsNoSerials
    → SyllabicBreaks SetupSyllablesMyanmar ReorderMyanmar (λ plan. by_myanmar) IsInOrder
myanmar_text laws inside reads plan font change lookups behind spans old new run mono =
    let r = by_myanmar font run.between in
    all_behind change BROKEN_MYANMAR r lookups behind spans old run.masked run.mid run.between run.reordered new
    (record {
      keeps = clusters-changed change run.clusters_stay;
      masks = run.masks;
      spanned = run.spanned;
      setup = run.syllables;
      looked = run.looked;
      laws = laws;
      reads = reads;
      breaks = text_breaks r.order r.steps laws inside r.circles run.between run.reordered
          (merging_still spans BROKEN_MYANMAR lookups run.masked run.mid run.between run.spanned run.syllables
          run.looked)
          run.looked.flags mono run.order;
    }) run.side_by_side run.glyphs

pub indic_text : OrderByFontLaws → OrderByFontReadsNoSerials
    → SyllabicBreaks SetupSyllablesIndic InitialReordering by_initial IsApart
indic_text laws reads plan font change lookups behind spans old new run apart =
    let r = by_initial plan font run.between in
    let script = run.between.script in
    all_behind change BROKEN_INDIC r lookups behind spans old run.masked run.mid run.between run.reordered new (record {
      keeps = clusters-changed change run.clusters_stay;
      masks = run.masks;
      spanned = run.spanned;
      setup = run.syllables;
      looked = run.looked;
      laws = laws font plan.ot_map (indic_in plan) script;
      reads = reads font plan.ot_map (indic_in plan) script;
      breaks = initial_text_breaks laws plan font run.unread run.between run.reordered
          (merging_still spans BROKEN_INDIC lookups run.masked run.mid run.between run.spanned run.syllables run.looked)
          run.looked.flags apart.0 apart.1 run.order;
    }) run.side_by_side run.glyphs
