-- A set-up, lookups that leave results side by side, and a reordering may be broken at every clear place.
use Rattle.std.proofs.Common.{ℕ, ◌<◌, ◌≤◌, ◌≡◌, true, List, ◌++◌, length, take, drop, refl, sym, ap, ◌∙◌, subst, arith, length-append}
use Rattle.std.specs.Prelude.{Option}
use Rattle.std.specs.List.{All, flat_map}
use Rattle.std.proofs.lemmas.List.{drop_at, take_at}
use Rattle.shapers_buffer.specs.declared.buffer.syllables.Span.{Span}
use Rattle.shapers_buffer.specs.Buffer.{Buffer}
use Rattle.shapers_buffer.specs.Clusters.{merges}
use Rattle.shapers_buffer.specs.Glyph.{clusters}
use Rattle.shapers_buffer.specs.Syllables.{spans_cover, syllables}
use Rattle.shapers_base.specs.declared.plan.pause.Pause.TheVariants.{ReorderKhmer, ReorderMyanmar, SetupSyllablesKhmer, SetupSyllablesMyanmar}
use Rattle.shapers_clusters.specs.Breaks.{IsClear}
use Rattle.shapers_clusters.specs.Cuts.{IsMonotone}
use Rattle.shapers_clusters.specs.Steps.{Step}
use Rattle.shapers_indic.specs.Plan.{indic_in}
use Rattle.shapers_indic_initial.specs.InitialLaws.{OrderByFontLaws, OrderByFontReadsNoSerials}
use Rattle.shapers_khmer.specs.Khmer.{order_in}
use Rattle.shapers_khmer.specs.KhmerLaws.{KhmerMovesMerged, KhmerReadsNoSerials, KhmerReorderLaws}
use Rattle.shapers_myanmar.specs.MyanmarLaws.{MyanmarMovesMerged, MyanmarReadsNoSerials, MyanmarReorderLaws}
use Rattle.shapers_syllabic.specs.Borders.{SameButSerials, spans_setup, unnumbered}
use Rattle.shapers_syllabic.specs.Circles.{circled}
use Rattle.shapers_syllabic.specs.Reordering.{PauseReordered}
use Rattle.shapers_syllabic.specs.ReorderingLaws.{MoveMerged, ReadsNoSerials, ReorderLaws, paused_clusters, paused_order}
use Rattle.shapers_syllabic.specs.Syllabic.{unsafe_spans}
use Rattle.shapers_syllabic.specs.declared.ot_shaper_syllabic.circles.DottedCircles.{DottedCircles}
use Rattle.shapers_syllabic.specs.declared.ot_shaper_syllabic.kinds.indic_syllable.TheConstants.{BROKEN_CLUSTER as BROKEN_INDIC}
use Rattle.shapers_syllabic.specs.declared.ot_shaper_syllabic.kinds.khmer_syllable.TheConstants.{BROKEN_CLUSTER as BROKEN_KHMER}
use Rattle.shapers_syllabic.specs.declared.ot_shaper_syllabic.kinds.myanmar_syllable.TheConstants.{BROKEN_CLUSTER as BROKEN_MYANMAR}
use Rattle.shapers_syllabic.proofs.Borders.{syllables-append}
use Rattle.shapers_syllabic.proofs.CircleLaws.{joined-syllables}
use Rattle.shapers_syllabic.proofs.HiddenCuts.{cuts_with_serials}
use Rattle.shapers_syllabic.proofs.PauseCuts.{apart_by, clusters-setup}
use Rattle.shapers_syllabic.proofs.SpanCuts.{spans_cut}
use Rattle.rustybuzz_shapers.specs.Pauses.{by_initial, by_khmer, by_myanmar}
use Rattle.shapers_break_laws.specs.ChainBreaks.{ChainBreaksBy, InitialChainBreaks, IsSpanned, LeavesSideBySide, LookedUp, MadeOfHalves}
use Rattle.shapers_break_laws.specs.PauseBreaks.{BrokenBetweenSpans, SpanCut}
use Rattle.shapers_break_laws.specs.KeptTextBreaks.{KeptTextBroken}
use Rattle.shapers_break_laws.proofs.IndicBreaks.{initial_text_breaks}
use Rattle.shapers_break_laws.proofs.PauseBreaks.{front_is, text_cut}
use Rattle.shapers_buffer.specs.Glyphs.{Glyphs}
use Rattle.shapers_break_laws.proofs.Setup.{setup_guarded}
use Rattle.shapers_break_laws.proofs.KeptTextBreaks.{text_breaks}

-- A text that was set up and given to lookups, cut into what they made of its halves: it was cut between two spans.
pub record MadeCut (lookups : Glyphs → Glyphs) (spans : List Span) (old front back : Glyphs) : Type 0 where
  pub cut : SpanCut (λ spans gs. lookups (unsafe_spans spans gs)) (λ gs. gs) spans old (length front)
  pub first : front ≡ lookups (unsafe_spans cut.front cut.before)
  pub second : SameButSerials back (lookups (unsafe_spans cut.back cut.behind))

pub made_cut : (broken_kind : ℕ) (lookups : Glyphs → Glyphs) (spans : List Span) (old : Buffer)
    → All (λ span. span.kind ≤ 15) spans → spans_cover (length old.glyphs) spans ≡ true
    → LeavesSideBySide lookups (unsafe_spans spans old.glyphs) → (front back : Glyphs)
    → MadeOfHalves lookups (unsafe_spans spans old.glyphs) front back → MadeCut lookups spans old.glyphs front back
made_cut broken_kind lookups spans old kinds covers side made_front made_back made =
    let id : Glyphs → Glyphs = λ piece. piece in
    let gs = old.glyphs in
    let mid = unsafe_spans spans gs in
    let bf = made.before in
    let bh = made.behind in
    let k = length (syllables bf) in
    let pieces : syllables mid ≡ syllables bf ++ syllables bh = ap syllables made.text
    ∙ syllables-append bf bh made.border in
    let taken : take k (syllables mid) ≡ syllables bf = ap (take k) pieces
    ∙ take_at (syllables bf) (syllables bh) k refl in
    let dropped : drop k (syllables mid) ≡ syllables bh = ap (drop k) pieces
    ∙ drop_at (syllables bf) (syllables bh) k refl in
    let under = setup_guarded spans gs kinds covers in
    let t = text_cut spans gs mid k covers (clusters-setup spans broken_kind old) under.as_long in
    let n = t.n in
    let within : k ≤ length (syllables mid) = omega
    (arith, ap length pieces, length-append (syllables bf) (syllables bh)) in
    let front = unsafe_spans (take k spans) (take n gs) in
    let back = unsafe_spans (drop k spans) (drop n gs) in
    let is_front : front ≡ bf = sym (joined-syllables front) ∙ ap (flat_map id)
    (front_is spans broken_kind k old kinds covers t within ∙ taken) ∙ joined-syllables bf in
    let cut = spans_cut spans broken_kind old kinds (take k spans) (drop k spans) (take n gs)
    (drop n gs) t.split t.text t.first t.second in
    let is_back : bh ≡ cut.behind = sym (drop_at bf bh (length bf) refl)
    ∙ ap (drop (length bf)) (sym made.text ∙ cut.parts)
    ∙ drop_at front cut.behind (length bf) (ap length is_front) in
    let same_back : SameButSerials bh back = subst (λ xs. SameButSerials xs back) (sym is_back) cut.renumbered in
    let own : made_front ≡ lookups front = sym made.first ∙ ap lookups (sym is_front) in
    let there : SpanCut (λ spans gs. lookups (unsafe_spans spans gs)) (λ gs. gs) spans gs (length made_front) = record {
      front = take k spans;
      back = drop k spans;
      before = take n gs;
      behind = drop n gs;
      split = t.split;
      text = t.text;
      first = t.first;
      second = t.second;
      apart = apart_by (take n gs) (drop n gs) bf bh
          (t.before ∙ ap (λ ps. clusters (flat_map id ps)) taken ∙ ap clusters (joined-syllables bf))
          (t.behind ∙ ap (λ ps. clusters (flat_map id ps)) dropped ∙ ap clusters (joined-syllables bh)) made.apart;
      place = ap length (sym own);
    } in
    record {
      cut = there;
      first = own;
      second = subst (λ xs. SameButSerials xs (lookups back)) made.second (side.serials bh back same_back);
    }

-- where a text is broken that lookups made, the text before them is
chain_broken : (meaning : Glyphs → Glyphs) (steps : Glyphs → List Step) (broken_kind : ℕ) → ReorderLaws meaning steps
    → ReadsNoSerials meaning steps → (circles : Option DottedCircles) (lookups : Glyphs → Glyphs) (spans : List Span)
    (old between new : Buffer) → All (λ span. span.kind ≤ 15) spans → spans_cover (length old.glyphs) spans ≡ true
    → between.level ≡ old.level → between.glyphs ≡ lookups (unsafe_spans spans old.glyphs) → LeavesSideBySide lookups
    (unsafe_spans spans old.glyphs) → PauseReordered circles meaning steps between new → (p : ℕ)
    → KeptTextBroken circles meaning steps between.level between.glyphs new.glyphs p → BrokenBetweenSpans unnumbered
    (λ spans gs. lookups (unsafe_spans spans gs)) (paused_order circles meaning)
    (paused_clusters circles steps old.level) spans old.glyphs new.glyphs p
chain_broken meaning steps broken_kind laws reads circles lookups spans old between new kinds covers height glyphs side
    done p b =
    let gs = old.glyphs in
    let m = made_cut broken_kind lookups spans old kinds covers side b.before b.behind
    (side.halves b.before b.behind (sym glyphs ∙ b.text) b.border b.apart) in
    let c = m.cut in
    let front = unsafe_spans c.front c.before in
    let back = unsafe_spans c.back c.behind in
    let first : SameButSerials b.before (lookups front) = subst (SameButSerials b.before) m.first refl in
    let halves = cuts_with_serials circles meaning steps between new laws reads done b.before b.behind (lookups front)
    (lookups back) b.text b.border first m.second in
    let there : SpanCut (λ spans gs. lookups (unsafe_spans spans gs)) (paused_order circles meaning) spans gs p = record {
      front = c.front;
      back = c.back;
      before = c.before;
      behind = c.behind;
      split = c.split;
      text = c.text;
      first = c.first;
      second = c.second;
      apart = c.apart;
      place = ap (λ xs. length (paused_order circles meaning xs)) (sym m.first) ∙ b.place;
    } in
    record {
      cut = there;
      order = halves.order;
      in_clusters = subst (λ level. clusters new.glyphs ≡ paused_clusters circles steps level (lookups front)
          ++ paused_clusters circles steps level (lookups back)) height (halves.in_clusters b.apart);
    }

-- what moves only inside what it merged
chain_breaks : (meaning : Glyphs → Glyphs) (steps : Glyphs → List Step) (broken_kind : ℕ) → ReorderLaws meaning steps
    → MoveMerged steps → ReadsNoSerials meaning steps → (circles : Option DottedCircles) (lookups : Glyphs → Glyphs)
    (spans : List Span) (old mid between new : Buffer) → IsSpanned spans old → mid ≡ spans_setup spans broken_kind old
    → LookedUp lookups mid between → IsMonotone (clusters (circled circles between.glyphs))
    → PauseReordered circles meaning steps between new → (p : ℕ) → 0 < p → p < length new.glyphs
    → IsClear new.glyphs p → BrokenBetweenSpans unnumbered (λ spans gs. lookups (unsafe_spans spans gs)) (paused_order circles meaning)
    (paused_clusters circles steps old.level) spans old.glyphs new.glyphs p
chain_breaks meaning steps broken_kind laws inside reads circles lookups spans old mid between new can setup looked mono
    done p z l clear =
    let height : between.level ≡ old.level = looked.level ∙ ap (λ (b : Buffer). b.level) setup in
    chain_broken meaning steps broken_kind laws reads circles lookups spans old between new can.kinds can.covered height
    (looked.glyphs ∙ ap (λ (b : Buffer). lookups b.glyphs) setup)
    (subst (λ (b : Buffer). LeavesSideBySide lookups b.glyphs) setup looked.side_by_side) done p
    (text_breaks meaning steps laws inside circles between new (ap merges height ∙ can.merging) looked.flags mono done p
    z l clear)

pub khmer_chain : KhmerReorderLaws → KhmerMovesMerged → KhmerReadsNoSerials
    → ChainBreaksBy SetupSyllablesKhmer ReorderKhmer by_khmer
khmer_chain laws inside reads plan font spans unread lookups old mid between new can setup looked mono reordered =
    let by = by_khmer plan font between in
    chain_breaks by.order by.steps BROKEN_KHMER (laws (order_in plan.plan_data)) inside (reads (order_in plan.plan_data))
    by.circles lookups spans old mid between new can setup looked mono reordered

pub myanmar_chain : MyanmarReorderLaws → MyanmarMovesMerged → MyanmarReadsNoSerials
    → ChainBreaksBy SetupSyllablesMyanmar ReorderMyanmar (λ plan. by_myanmar)
myanmar_chain laws inside reads plan font spans unread lookups old mid between new can setup looked mono reordered =
    let by = by_myanmar font between in
    chain_breaks by.order by.steps BROKEN_MYANMAR laws inside reads by.circles lookups spans old mid between new can
    setup looked mono reordered

pub initial_chain : OrderByFontLaws → OrderByFontReadsNoSerials → InitialChainBreaks
initial_chain laws reads plan font spans unread lookups old mid between new can setup looked apart joiners reordered p z
    l clear =
    let by = by_initial plan font between in
    let law = laws font plan.ot_map (indic_in plan) between.script in
    let height : between.level ≡ old.level = looked.level ∙ ap (λ (b : Buffer). b.level) setup in
    chain_broken by.order by.steps BROKEN_INDIC law (reads font plan.ot_map (indic_in plan) between.script) by.circles
    lookups spans old between new can.kinds can.covered height
    (looked.glyphs ∙ ap (λ (b : Buffer). lookups b.glyphs) setup)
    (subst (λ (b : Buffer). LeavesSideBySide lookups b.glyphs) setup looked.side_by_side) reordered.0 p
    (initial_text_breaks laws plan font unread between new (ap merges height ∙ can.merging) looked.flags apart joiners
    reordered p z l clear)
