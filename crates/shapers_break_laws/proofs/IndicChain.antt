-- A text of Indic that is set up, reordered initially and then finally may be broken at every clear place.
use Rattle.std.proofs.Common.{ℕ, ◌≡◌, List, [], ◌∷◌, ◌++◌, refl, sym, ap, ◌∙◌, subst, inl, inr}
use Rattle.std.specs.Prelude.{Option}
use Rattle.std.specs.List.{AllByRecursion}
use Rattle.shapers_buffer.specs.declared.buffer.syllables.Span.{Span}
use Rattle.shapers_buffer.specs.declared.buffer.tag.Script.{Script}
use Rattle.shapers_buffer.specs.Buffer.{Buffer}
use Rattle.shapers_buffer.specs.Clusters.{merges}
use Rattle.shapers_buffer.specs.Glyph.{clusters}
use Rattle.shapers_buffer.specs.Syllables.{syllables}
use Rattle.shapers_indic.specs.Plan.{indic_in}
use Rattle.shapers_indic_final.specs.FinalLaws.{FinalReorderLaws, FinalTextLaws, FinallyOfHalves, final_clusters}
use Rattle.shapers_indic_final.specs.FinalRules.{final_rules}
use Rattle.shapers_indic_final.specs.FinalWordStart.{FinallyReordered}
use Rattle.shapers_indic_final.specs.declared.ot_shaper_indic_final.rules.Rules.{Rules}
use Rattle.shapers_indic_initial.specs.InitialLaws.{OrderByFontLaws, OrderByFontReadsNoSerials}
use Rattle.shapers_syllabic.specs.Borders.{SameButSerials}
use Rattle.shapers_syllabic.specs.Syllabic.{unsafe_spans}
use Rattle.shapers_syllabic.specs.declared.ot_shaper_syllabic.kinds.indic_syllable.TheConstants.{BROKEN_CLUSTER}
use Rattle.rustybuzz_shapers.specs.Pauses.{by_initial}
use Rattle.shapers_break_laws.specs.ChainBreaks.{IsSpanned, LeavesSideBySide}
use Rattle.shapers_break_laws.specs.FinalBreaks.{FinalBroken, IsOfTwoClusters, SeparatesNothing}
use Rattle.shapers_break_laws.specs.IndicChain.{IndicBroken, IndicChainBreaks, IndicPausesBreak, InitialReorderedApart, MadeSideBySide, reordered_text}
use Rattle.shapers_break_laws.proofs.ChainBreaks.{made_cut}
use Rattle.shapers_break_laws.proofs.FinalBreaks.{final_text_breaks}
use Rattle.shapers_break_laws.specs.KeptTextBreaks.{FlagsKept, SyllablesApart}
use Rattle.shapers_break_laws.proofs.IndicBreaks.{setup_apart}
use Rattle.shapers_break_laws.proofs.KeptTextBreaks.{all_flagged}
use Rattle.shapers_break_laws.proofs.ReorderedApart.{reordered_apart}
use Rattle.shapers_buffer.specs.Glyphs.{Glyphs}
use Rattle.shapers_break_laws.proofs.Setup.{setup_guarded}
use Rattle.shapers_break_laws.proofs.SideBySide.{nothing_between}

pub initial_reordered_apart : OrderByFontLaws → OrderByFontReadsNoSerials → InitialReorderedApart
initial_reordered_apart laws reads plan font unread old new apart reordered =
    let r = by_initial plan font old in
    reordered_apart r (laws font plan.ot_map (indic_in plan) old.script)
    (reads font plan.ot_map (indic_in plan) old.script) old new reordered.0 apart

-- what leaves results side by side, one after the other
both_side_by_side : (f g : Glyphs → Glyphs) (gs : Glyphs) → LeavesSideBySide f gs → LeavesSideBySide g (f gs)
    → LeavesSideBySide (λ xs. g (f xs)) gs
both_side_by_side f g gs one two = record {
  halves = λ front back text border apart.
      let b = two.halves front back text border apart in
      let a = one.halves b.before b.behind b.text b.border b.apart in
      record {
        before = a.before;
        behind = a.behind;
        text = a.text;
        border = a.border;
        apart = a.apart;
        first = ap g a.first ∙ b.first;
        second = ap g a.second ∙ b.second;
      };
  serials = λ xs ys same. two.serials (f xs) (f ys) (one.serials xs ys same);
}

-- a clear place after the final reordering of what was set up and then left side by side
chain_broken : FinalTextLaws → (rules : Rules) (made : Glyphs → Glyphs) (spans : List Span)
    (old looked new : Buffer) → IsSpanned spans old → looked.level ≡ old.level
    → looked.glyphs ≡ made (unsafe_spans spans old.glyphs) → LeavesSideBySide made (unsafe_spans spans old.glyphs)
    → FinallyReordered rules looked new → (p : ℕ)
    → FinalBroken rules looked.script looked.level looked.glyphs new.glyphs p
    → IndicBroken (λ spans gs. made (unsafe_spans spans gs)) rules looked.script old.level spans old.glyphs new.glyphs p
chain_broken text_laws rules made spans old looked new can height glyphs side done p b =
    let script = looked.script in
    let level = looked.level in
    let m = made_cut BROKEN_CLUSTER made spans old can.kinds can.covered side b.before b.behind
    (side.halves b.before b.behind (sym glyphs ∙ b.text) b.border b.apart) in
    let c = m.cut in
    let front = made (unsafe_spans c.front c.before) in
    let back = made (unsafe_spans c.back c.behind) in
    let first : SameButSerials b.before front = subst (SameButSerials b.before) m.first refl in
    let joined = (text_laws rules looked new done).renumbered b.before b.behind front back b.text b.border first m.second in
    record {
      cut = record {
        front = c.front;
        back = c.back;
        before = c.before;
        behind = c.behind;
        split = c.split;
        text = c.text;
        first = c.first;
        second = c.second;
        apart = c.apart;
        place = c.place ∙ b.place;
      };
      order = joined.order;
      in_clusters = subst (λ level. clusters new.glyphs ≡ final_clusters rules script level front
          ++ final_clusters rules script level back) height (joined.in_clusters b.apart);
      second = b.behind;
      renumbered = m.second;
      halves = subst (λ level. FinallyOfHalves rules script level front b.behind new.glyphs) height
          (subst (λ xs. FinallyOfHalves rules script level xs b.behind new.glyphs) m.first b.halves);
    }

pub indic_chain : OrderByFontLaws → OrderByFontReadsNoSerials → FinalReorderLaws → FinalTextLaws → IndicChainBreaks
indic_chain laws reads final_laws text_laws plan font spans unread first second old mid between reordered looked new can
    setup one apart initial two finally done p z l clear =
    let rules = final_rules font (indic_in plan) in
    let r = by_initial plan font between in
    let bare = unsafe_spans spans old.glyphs in
    let by = (initial_reordered_apart laws reads plan font unread between reordered apart initial).made in
    let low : between.level ≡ old.level = one.level ∙ ap (λ (b : Buffer). b.level) setup in
    let height : looked.level ≡ old.level = two.level ∙ by.level ∙ low in
    let is_between : between.glyphs ≡ first bare = one.glyphs ∙ ap (λ (b : Buffer). first b.glyphs) setup in
    let P = reordered_text r old.level in
    let is_reordered : reordered.glyphs ≡ P (first bare) =
    by.glyphs ∙ ap (λ level. reordered_text r level between.glyphs) low ∙ ap P is_between in
    let a : LeavesSideBySide first bare = subst (λ (b : Buffer). LeavesSideBySide first b.glyphs) setup one.side_by_side in
    let b : LeavesSideBySide P (first bare) = subst (LeavesSideBySide P) is_between
    (subst (λ level. LeavesSideBySide (reordered_text r level) between.glyphs) low by.side_by_side) in
    let c : LeavesSideBySide second (P (first bare)) = subst (LeavesSideBySide second) is_reordered two.side_by_side in
    let two_first : LeavesSideBySide (λ xs. P (first xs)) bare = both_side_by_side first P bare a b in
    chain_broken text_laws rules (λ xs. second (P (first xs))) spans old looked new can height
    (two.glyphs ∙ ap second is_reordered) (both_side_by_side (λ xs. P (first xs)) second bare two_first c) done p
    (final_text_breaks final_laws text_laws plan font unread looked new (ap merges height ∙ can.merging) finally.flags
    finally.apart finally.parts done p z l clear)

still : (b : Buffer) → MadeSideBySide (λ gs. gs) b b
still b = record { level = refl; glyphs = refl; side_by_side = nothing_between b.glyphs }

all_part_nothing : (rules : Rules) (script : Option Script) (pieces : List Glyphs)
    → AllByRecursion IsOfTwoClusters pieces → AllByRecursion (SeparatesNothing rules script) pieces
all_part_nothing rules script [] two = tt
all_part_nothing rules script (q ∷ qs) two = (inr two.0, all_part_nothing rules script qs two.1)

pub indic_pauses : OrderByFontLaws → OrderByFontReadsNoSerials → FinalReorderLaws → FinalTextLaws → IndicPausesBreak
indic_pauses laws reads final_laws text_laws plan font spans unread old mid between new can part setup initial kept done =
    let rules = final_rules font (indic_in plan) in
    let apart : SyllablesApart mid.glyphs = subst (λ (b : Buffer). SyllablesApart b.glyphs) (sym setup)
    (setup_apart spans old can part) in
    let spanned : IsSpanned spans old = record { kinds = can.kinds; covered = can.covered; merging = can.merging } in
    let by = initial_reordered_apart laws reads plan font unread mid between apart initial in
    let flags : FlagsKept mid.glyphs = subst (λ (b : Buffer). FlagsKept b.glyphs) (sym setup)
    (all_flagged (syllables (unsafe_spans spans old.glyphs)) (setup_guarded spans old.glyphs can.kinds can.covered).whole) in
    let left : FlagsKept between.glyphs × AllByRecursion (SeparatesNothing rules between.script) (syllables between.glyphs) =
    elim kept [
      | inl two ↦ (by.flags two flags, all_part_nothing rules between.script (syllables between.glyphs) (by.two two))
      | inr so ↦ so
    ] in
    indic_chain laws reads final_laws text_laws plan font spans unread (λ gs. gs) (λ gs. gs) old mid mid between between
    new spanned setup (still mid) apart initial (still between)
    (record { flags = left.0; apart = by.apart; parts = left.1 }) done
