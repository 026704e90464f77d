-- A font's lookups that attach marks to bases leave the positions of a text's pieces side by side.
use Rattle.std.proofs.Common.{Bool, List, None, Option, Some, [], ap, append_assoc, arith, false, if◌then◌else◌, inl, inr, is_some, length, length-append, nat_lt, option_and_then, option_map, refl, set, subst, suc, sym, true, unwrap_or, ℕ, ◌++◌, ◌+◌, ◌-◌, ◌<◌, ◌∙◌, ◌∷◌, ◌≡◌, ◌≤◌, ◌⊎◌}
use Rattle.std.proofs.Math.Seq.{get_or-append_seam, set-append_seam}
use Rattle.std.proofs.lemmas.Bool.Decides.{nat_tests}
use Rattle.std.proofs.lemmas.List.{set-get_or}
use Rattle.shapers_buffer.specs.Glyph.{default_position}
use Rattle.shapers_buffer.specs.Glyphs.{Glyphs}
use Rattle.shapers_buffer.specs.Properties.{component}
use Rattle.shapers_buffer.specs.declared.buffer.glyph.GlyphPosition.{GlyphPosition}
use Rattle.shapers_buffer.specs.declared.buffer.level.Direction.{Direction}
use Rattle.opentype_face.specs.Lookups.{subtable_in, subtables_in}
use Rattle.opentype_gpos.proofs.Walks.{along_none, along_step}
use Rattle.opentype_gpos.specs.Along.{applied_along, passed, position_stepped, stepped_by}
use Rattle.opentype_gpos.specs.Anchors.{points_in}
use Rattle.opentype_gpos.specs.Coming.{Setting, sights_in}
use Rattle.opentype_gpos.specs.Looked.{tried}
use Rattle.opentype_gpos.specs.Making.{moved}
use Rattle.opentype_gpos.specs.Moved.{Positions, Progress, end_behind, flagged_up_to, mark_moved, position_at, with_mark_move}
use Rattle.opentype_gpos.specs.Moves.{covered_by, number_at}
use Rattle.opentype_gpos.specs.Nearby.{base_sight}
use Rattle.opentype_gpos.specs.declared.anchors.Point.{Point}
use Rattle.opentype_gpos.specs.declared.moves.MarkMove.{MarkMove}
use Rattle.opentype_gpos.specs.declared.moves.Move.TheVariants.{Attaches}
use Rattle.opentype_layout.specs.Sight.{sight_of_input}
use Rattle.opentype_layout.specs.Text.{glyph_at}
use Rattle.opentype_layout.specs.declared.sight.Application.{Application}
use Rattle.opentype_break_laws.proofs.ByGlyph.{first_mapped}
use Rattle.opentype_break_laws.proofs.ContextParts.{inside_or}
use Rattle.opentype_break_laws.proofs.ContextPieces.{all_by_essence, component_too}
use Rattle.opentype_break_laws.proofs.ContextSteps.{ClearAt, ComesOf, FlagsOnly, comes_long, not_unsafe, only_none}
use Rattle.opentype_break_laws.proofs.LigatureFits.{IsPartOf, essence}
use Rattle.opentype_break_laws.proofs.LigatureViews.{AlikeTo, alike_long, at_same}
use Rattle.opentype_break_laws.proofs.MarkFinds.{AreOfMarks, CarriesNone, base_agrees, base_alike, base_met_before, base_looks, carries_none, comes_to_mark, first_alike, hanging, hung_with, to_is}
use Rattle.opentype_break_laws.proofs.PairFinds.{IsOfFeatures, number_alike, sees_alike, then_same}
use Rattle.opentype_break_laws.proofs.PairSteps.{flagged_is, flagged_only, only_on, tried_flags}
use Rattle.opentype_break_laws.proofs.PairWalks.{pair_step}
use Rattle.opentype_break_laws.specs.Marks.{base_at, mark_at, mark_by, mark_for, nearest_base, upon}
use Rattle.opentype_break_laws.specs.OrderedTexts.{HasNoComponents}
use Rattle.opentype_break_laws.specs.Pairs.{sees}

-- ---- A STEP

abbrev pub mark_placed : Option MarkMove → ℕ → GlyphPosition → GlyphPosition
mark_placed None at p = p
mark_placed (Some m) at p = with_mark_move m at p

-- no place that is clear afterwards stands between a mark and its base
abbrev FlagsMark : ℕ → Option MarkMove → Glyphs → Type 0
FlagsMark at o made = (m : MarkMove) → o ≡ Some m → m.to < at → at - m.to ≤ 254 → (last : Glyphs) → ComesOf made last
    → (p : ℕ) → ClearAt last p → m.to < p → p ≤ at → ⊥

record StepsByMark (gs : Glyphs) (ps : Positions) (at : ℕ) (o : Option MarkMove) (c : Progress) : Type 0 where
  pub positions : c.positions ≡ set ps at (mark_placed o at (position_at ps at))
  pub next : c.next ≡ at + 1
  pub only : FlagsOnly gs c.glyphs
  pub flagged : FlagsMark at o c.glyphs

some_mark : (x m : MarkMove) → Some x ≡ Some m → x ≡ m
some_mark x m e = ap (λ (o : Option MarkMove). unwrap_or o x) e

mark_stepped : (d : Direction) (gs fs : Glyphs) (ps : Positions) (at : ℕ) (m : MarkMove) → FlagsOnly gs fs → at < length gs
    → StepsByMark gs ps at (Some m) (moved d (Attaches m) at fs ps)
unfolding moved mark_moved
mark_stepped d gs fs ps at m only lt =
    let made = flagged_up_to true m.to at fs in
    let long : length fs ≡ length gs = comes_long gs fs only.comes in
    let inside : nat_lt at (length fs) ≡ true = grind (arith, nat_tests, lt, long) in
    let ends : end_behind at fs ≡ at + 1 = ap (λ b. if b then at + 1 else length fs) inside in
    record {
      positions = refl;
      next = refl;
      only = only_on gs fs made only (flagged_only true m.to at fs);
      flagged = λ other e before few last comes p clear low high.
          (let same : m.to ≡ other.to = ap (λ (x : MarkMove). x.to) (some_mark m other e) in
          let is = flagged_is true m.to at fs refl (omega (arith, before, same, ends)) (omega (arith, few, same, ends)) in
          not_unsafe fs last m.to (end_behind at fs) p (omega (arith, ends, lt, long))
          (subst (λ x. ComesOf x last) is comes) clear (omega (arith, low, same)) (omega (arith, high, ends)));
    }

stepped_if : (s : Setting) (gs fs : Glyphs) (ps : Positions) (at : ℕ) (seen : Bool) (o : Option MarkMove) → FlagsOnly gs fs
    → at < length gs → StepsByMark gs ps at (if seen then o else None) (let c : Progress = (if seen then stepped_by s at fs ps
    (option_map hanging o) else passed at gs ps) in c)
stepped_if s gs fs ps at false o only lt = record {
  positions = sym (set-get_or ps at default_position);
  next = refl;
  only = only_none gs;
  flagged = λ m e. absurd (cc);
}
stepped_if s gs fs ps at true None only lt = record {
  positions = sym (set-get_or ps at default_position);
  next = refl;
  only = only;
  flagged = λ m e. absurd (cc);
}
stepped_if s gs fs ps at true (Some m) only lt = mark_stepped s.direction gs fs ps at m only lt

steps_by_mark : (s : Setting) (table : List ℕ) (gs : Glyphs) (ps : Positions) (at : ℕ) → AreOfMarks table → CarriesNone gs
    → at < length gs → StepsByMark gs ps at (mark_at s.gdef table s.how gs at)
    (position_stepped s (sights_in s table) table gs ps at)
unfolding position_stepped mark_at sights_in sight_of_input
steps_by_mark s table gs ps at all none lt =
    let sights = sights_in s table in
    let step = stepped_if s gs (tried s sights table gs at) ps at (sees s.gdef table s.how.mask (glyph_at gs at))
    (hung_with s.gdef table s.how gs at) (tried_flags s sights table gs at) lt in
    rw (comes_to_mark s table gs at all none lt) step

-- ---- THE POSITIONS ALONE

unfoldable pub marks_along : (ℕ → Option MarkMove) → ℕ → Positions → Positions
marks_along act i [] = []
marks_along act i (p ∷ ps) = mark_placed (act i) i p ∷ marks_along act (i + 1) ps

pub marked_long : (act : ℕ → Option MarkMove) (i : ℕ) (ps : Positions) → length (marks_along act i ps) ≡ length ps
unfolding marks_along
marked_long act i [] = refl
marked_long act i (p ∷ ps) = ap suc (marked_long act (i + 1) ps)

pub marked_append : (act : ℕ → Option MarkMove) (i : ℕ) (qs rs : Positions)
    → marks_along act i (qs ++ rs) ≡ marks_along act i qs ++ marks_along act (i + length qs) rs
unfolding marks_along
marked_append act i [] rs = let z : i ≡ i + 0 = omega arith in ap (λ k. marks_along act k rs) z
marked_append act i (q ∷ qs) rs =
    let on : i + 1 + length qs ≡ i + suc (length qs) = omega arith in
    ap (λ x. mark_placed (act i) i q ∷ x) (marked_append act (i + 1) qs rs
    ∙ ap (λ k. marks_along act (i + 1) qs ++ marks_along act k rs) on)

-- so from another place on
pub marked_alike : (act part : ℕ → Option MarkMove) (from i : ℕ) (ps : Positions)
    → ((j : ℕ) (p : GlyphPosition) → i ≤ j → j < i + length ps
    → mark_placed (act (from + j)) (from + j) p ≡ mark_placed (part j) j p)
    → marks_along act (from + i) ps ≡ marks_along part i ps
unfolding marks_along
marked_alike act part from i [] same = refl
marked_alike act part from i (p ∷ ps) same =
    let on : from + i + 1 ≡ from + (i + 1) = omega arith in
    ap (λ x. x ∷ marks_along act (from + i + 1) ps) (same i p (omega arith) (omega arith))
    ∙ ap (λ x. mark_placed (part i) i p ∷ x) (ap (λ k. marks_along act k ps) on ∙ marked_alike act part from (i + 1) ps
    (λ j q low high. same j q (omega (arith, low)) (omega (arith, high))))

-- ---- THE WALK

mark_same : (gdef table : List ℕ) (how : Application) (gs hs : Glyphs) (at : ℕ) → IsOfFeatures how
    → AlikeTo essence gs hs → mark_at gdef table how gs at ≡ mark_at gdef table how hs at
unfolding mark_at
mark_same gdef table how gs hs at is same =
    let sight = base_sight (sight_of_input gdef table how 0) in
    let looks = base_looks gdef table how is in
    let number : (i : ℕ) → number_at gs i ≡ number_at hs i = λ i. number_alike (glyph_at gs i) (glyph_at hs i)
    (at_same essence gs hs i same) in
    let next : nearest_base gdef sight gs at ≡ nearest_base gdef sight hs at =
    first_alike (λ i. base_at gdef sight gs (at - 1 - i)) (λ i. base_at gdef sight hs (at - 1 - i)) at 0
    (λ d lt. ap (λ b. let o : Option ℕ = (if b then Some (at - 1 - (0 + d)) else None) in o)
    (base_alike gdef sight (glyph_at gs (at - 1 - (0 + d))) (glyph_at hs (at - 1 - (0 + d))) looks
    (at_same essence gs hs (at - 1 - (0 + d)) same))) in
    let found : (o : Option ℕ) → option_and_then (λ to. mark_for table (number_at gs at) (number_at gs to) to) o
    ≡ option_and_then (λ to. mark_for table (number_at hs at) (number_at hs to) to) o =
    λ o. then_same _ _ o (λ to. ap (λ n. mark_for table n (number_at gs to) to) (number at)
    ∙ ap (λ n. mark_for table (number_at hs at) n to) (number to)) in
    ap (λ b. if b then hung_with gdef table how gs at else None) (sees_alike gdef table how (glyph_at gs at)
    (glyph_at hs at) is (at_same essence gs hs at same))
    ∙ ap (λ o. if sees gdef table how.mask (glyph_at hs at) then o else None) (found (nearest_base gdef sight gs at)
    ∙ ap (option_and_then (λ to. mark_for table (number_at hs at) (number_at hs to) to)) next)

pub record WalksMarks (act : ℕ → Option MarkMove) (gs : Glyphs) (at : ℕ) (made : Positions) (c : Progress) : Type 0 where
  pub only : FlagsOnly gs c.glyphs
  pub positions : c.positions ≡ made
  pub flagged : (i : ℕ) (m : MarkMove) (p : ℕ) → at ≤ i → i < length gs → act i ≡ Some m → m.to < i → i - m.to ≤ 254
      → ClearAt c.glyphs p → m.to < p → p ≤ i → ⊥

pub walks_marks : (s : Setting) (table : List ℕ) → AreOfMarks table → IsOfFeatures s.how → (old : Glyphs) → HasNoComponents old
    → (ps : Positions) (gs : Glyphs) (bs : Positions) (at : ℕ) → AlikeTo essence gs old → length bs ≡ at
    → at + length ps ≡ length gs
    → (let act = mark_at s.gdef table s.how old in
    WalksMarks act gs at (bs ++ marks_along act at ps) (applied_along (length ps) (pair_step s table) gs (bs ++ ps) at))
unfolding marks_along
walks_marks s table all is old none [] gs bs at same long sum =
    let act = mark_at s.gdef table s.how old in
    subst (WalksMarks act gs at (bs ++ [])) (sym (along_none (pair_step s table) gs (bs ++ []) at)) (record {
      only = only_none gs;
      positions = refl;
      flagged = λ i m p low high. absurd (omega (arith, low, high, sum));
    })
walks_marks s table all is old none (p ∷ ps) gs bs at same long sum =
    let act = mark_at s.gdef table s.how old in
    let step = pair_step s table in
    let places : Positions = bs ++ p ∷ ps in
    let lt : at < length gs = omega (arith, sum) in
    let carries = carries_none gs (all_by_essence (λ g. component g.lig_props ≡ 0) component_too gs old same none) in
    let it = subst (λ o. StepsByMark gs places at o (step gs places at)) (mark_same s.gdef table s.how gs old at is same)
    (steps_by_mark s table gs places at all carries lt) in
    let c = step gs places at in
    let x = mark_placed (act at) at p in
    let there : position_at places at ≡ p = ap (position_at places) (sym long)
    ∙ get_or-append_seam bs p ps default_position in
    let put : c.positions ≡ (bs ++ x ∷ []) ++ ps = it.positions
    ∙ ap (λ y. set places at (mark_placed (act at) at y)) there ∙ ap (λ n. set places n x) (sym long)
    ∙ set-append_seam bs p ps x ∙ sym (append_assoc bs (x ∷ []) ps) in
    let glyphs_long : length c.glyphs ≡ length gs = alike_long essence c.glyphs gs it.only.same in
    let rest = walks_marks s table all is old none ps c.glyphs (bs ++ x ∷ []) (at + 1) (it.only.same ∙ same)
    (omega (arith, length-append bs (x ∷ []), long)) (omega (arith, sum, glyphs_long)) in
    let whole = applied_along (length ps) step c.glyphs ((bs ++ x ∷ []) ++ ps) (at + 1) in
    let on : applied_along (suc (length ps)) step gs places at ≡ whole = along_step step (length ps) gs places at lt
    ∙ ap (λ qs. applied_along (length ps) step c.glyphs qs c.next) put
    ∙ ap (applied_along (length ps) step c.glyphs ((bs ++ x ∷ []) ++ ps)) it.next in
    subst (WalksMarks act gs at (bs ++ x ∷ marks_along act (at + 1) ps)) (sym on) (record {
      only = only_on gs c.glyphs whole.glyphs it.only rest.only;
      positions = rest.positions ∙ append_assoc bs (x ∷ []) (marks_along act (at + 1) ps);
      flagged = λ i m k low high e before few clear first second. elim (inside_or at i) [
        | inl later ↦ rest.flagged i m k (omega (arith, later)) (omega (arith, high, glyphs_long)) e before few clear first
            second
        | inr here ↦ (let here_is : i ≡ at = omega (arith, low, here) in
            it.flagged m (ap act (sym here_is) ∙ e) (omega (arith, before, here_is)) (omega (arith, few, here_is))
            whole.glyphs rest.only.comes k clear first (omega (arith, second, here_is)))
      ];
    })

-- ---- A PART'S MARKS beside the text's

abbrev pub moved_by_mark : ℕ → MarkMove → MarkMove
moved_by_mark from m = record m { to = from + m.to }

upon_moved : (from to : ℕ) (o : Option (Point × Point))
    → option_map (upon (from + to)) o ≡ option_map (moved_by_mark from) (option_map (upon to) o)
upon_moved from to None = refl
upon_moved from to (Some points) = refl

by_moved : (from to : ℕ) (covered : Bool) (o : Option (Point × Point))
    → (let x : Option MarkMove = (if covered then option_map (upon (from + to)) o else None) in x)
    ≡ option_map (moved_by_mark from) (if covered then option_map (upon to) o else None)
by_moved from to true o = upon_moved from to o
by_moved from to false o = refl

for_moved : (table : List ℕ) (mark base from to : ℕ)
    → mark_for table mark base (from + to) ≡ option_map (moved_by_mark from) (mark_for table mark base to)
for_moved table mark base from to = first_mapped (moved_by_mark from) (λ i. mark_by (subtable_in 9 table i) mark base to)
    (λ i. mark_by (subtable_in 9 table i) mark base (from + to)) (subtables_in table) 0
    (λ d lt. by_moved from to (is_some (covered_by (subtable_in 9 table (0 + d)) 2 mark))
    (points_in (subtable_in 9 table (0 + d)) mark base))

-- the mark of a part is the text's, or that one's base stands before the part
abbrev pub MarkAgrees : ℕ → Option MarkMove → Option MarkMove → Type 0
MarkAgrees from a o = (o ≡ option_map (moved_by_mark from) a)
    ⊎ ((m : MarkMove) × ((o ≡ Some m) × (m.to < from)))

abbrev of_base : List ℕ → Glyphs → ℕ → ℕ → Option MarkMove
of_base table gs at to = mark_for table (number_at gs at) (number_at gs to) to

far_by : (table : List ℕ) (gs : Glyphs) (from i : ℕ) (w : Option ℕ) (a o : Option MarkMove) → a ≡ None
    → ((q : ℕ) → w ≡ Some q → q < from) → o ≡ option_and_then (of_base table gs (from + i)) w → (v : Option MarkMove) → o ≡ v
    → MarkAgrees from a o
far_by table gs from i w a o none far e None is = inl (is ∙ ap (option_map (moved_by_mark from)) (sym none))
far_by table gs from i None a o none far e (Some m) is = (let never = sym e ∙ is in absurd (cc))
far_by table gs from i (Some q) a o none far e (Some m) is =
    inr (m, (is, omega (arith, far q refl, to_is table (number_at gs (from + i)) (number_at gs q) q m (sym e ∙ is))))

if_agrees : (seen : Bool) (from : ℕ) (a o : Option MarkMove) → MarkAgrees from a o
    → MarkAgrees from (if seen then a else None) (if seen then o else None)
if_agrees true from a o agrees = agrees
if_agrees false from a o agrees = inl refl

pub mark_agrees : (gdef table : List ℕ) (how : Application) (hs gs : Glyphs) (from i : ℕ) → IsOfFeatures how
    → IsPartOf hs gs from → i < length hs
    → MarkAgrees from (mark_at gdef table how hs i) (mark_at gdef table how gs (from + i))
unfolding mark_at
mark_agrees gdef table how hs gs from i is part lt =
    let sight = base_sight (sight_of_input gdef table how 0) in
    let looks = base_looks gdef table how is in
    let o = nearest_base gdef sight hs i in
    let w = nearest_base gdef sight gs (from + i) in
    let number : (j : ℕ) → j < length hs → number_at gs (from + j) ≡ number_at hs j =
    λ j low. sym (number_alike (glyph_at hs j) (glyph_at gs (from + j)) (part.alike j low)) in
    let a = hung_with gdef table how hs i in
    let b = hung_with gdef table how gs (from + i) in
    let found : MarkAgrees from a b = elim (base_agrees gdef sight hs gs from i looks part lt) [
      | inl both ↦ (let q = both.0 in
          let inside : q < length hs = omega (arith, base_met_before gdef sight hs i q both.1.0, lt) in
          inl (ap (option_and_then (of_base table gs (from + i))) both.1.1
          ∙ ap (λ n. mark_for table n (number_at gs (from + q)) (from + q)) (number i lt)
          ∙ ap (λ n. mark_for table (number_at hs i) n (from + q)) (number q inside)
          ∙ for_moved table (number_at hs i) (number_at hs q) from q
          ∙ ap (option_map (moved_by_mark from)) (sym (ap (option_and_then (of_base table hs i)) both.1.0))))
      | inr none ↦ far_by table gs from i w a b (ap (option_and_then (of_base table hs i)) none.0) none.1 refl b refl
    ] in
    let seen : sees gdef table how.mask (glyph_at gs (from + i)) ≡ sees gdef table how.mask (glyph_at hs i) =
    sym (sees_alike gdef table how (glyph_at hs i) (glyph_at gs (from + i)) is (part.alike i lt)) in
    subst (λ t. MarkAgrees from (if sees gdef table how.mask (glyph_at hs i) then a else None) (if t then b else None))
    (sym seen) (if_agrees (sees gdef table how.mask (glyph_at hs i)) from a b found)
