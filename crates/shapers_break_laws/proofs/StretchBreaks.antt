-- A text whose marks were stretched may be broken at every clear place.
use Rattle.std.proofs.Common.{ℕ, suc, ◌-◌, ◌<◌, ◌≤◌, ◌≡◌, ◌≢◌, ◌==◌, ◌⊎◌, max, Bool, true, false, cond, ◌&&◌, List, [], ◌∷◌, ◌++◌, length, map, take, drop, reverse, get_or, refl, sym, ap, ◌∙◌, subst, arith, inl, inr}
use Rattle.std.specs.Prelude.{Ok}
use Rattle.std.specs.List.{All, Contains, list_any, zip}
use Rattle.std.proofs.lemmas.Bool.{and_from, both_ways, cases_Bool, cases_lt, eq-eqb, eqb-true, or_parts}
use Rattle.std.proofs.lemmas.List.{length-drop, length-map, length-reverse, length-take-le, length_push, map-append, reverse-append, reverse-reverse, take-append-drop}
use Rattle.std.proofs.lemmas.List.Elements.{All-cons, All-nil}
use Rattle.std.proofs.lemmas.Nat.Bits.{bit_at_or}
use Rattle.std.specs.Int.Bits.{bit_or}
use Rattle.shapers_base.specs.Font.{Font}
use Rattle.shapers_base.specs.declared.plan.hb_ot_shape_plan_t.{hb_ot_shape_plan_t}
use Rattle.shapers_buffer.specs.declared.buffer.glyph.GlyphPosition.{GlyphPosition}
use Rattle.shapers_buffer.specs.Glyphs.{Glyph, Glyphs}
use Rattle.shapers_buffer.specs.declared.buffer.level.BufferClusterLevel.TheVariants.{MonotoneGraphemes}
use Rattle.shapers_buffer.specs.Buffer.{Buffer}
use Rattle.shapers_buffer.specs.Glyph.{clusters}
use Rattle.shapers_buffer.specs.GlyphFlags.{with_bits, with_bits_off}
use Rattle.shapers_buffer.proofs.MappedLists.{Contains-map}
use Rattle.shapers_clusters.specs.Breaks.{IsClear, greater, is_unsafe}
use Rattle.shapers_clusters.specs.Cuts.{IsMonotone}
use Rattle.shapers_clusters.specs.Flags.{bit_at}
use Rattle.shapers_clusters.proofs.ClearPlaces.{unsafe-from, unsafe_bits}
use Rattle.shapers_stretch.specs.Cells.{Cell, glyphs_of, positions_of}
use Rattle.shapers_stretch.specs.Recorded.{start_of}
use Rattle.shapers_stretch.specs.Stretch.{Laying, in_working_order, laying, goes_leftward, stretched, stretched_cells, with_cells}
use Rattle.shapers_stretch.specs.StretchLaws.{AreCopies}
use Rattle.shapers_stretch.proofs.StretchFlags.{on_copies}
use Rattle.shapers_stretch.proofs.Zips.{zip-drop, zip-take}
use Rattle.rustybuzz_shapers.specs.Hooks.{Postprocessed}
use Rattle.rustybuzz_shapers.specs.declared.shaper.hb_ot_shaper_t.TheVariants.{Arabic, Hangul, Hebrew, Indic, Khmer, Myanmar, MyanmarZawgyi, Thai, Universal}
use Rattle.rustybuzz_shapers.proofs.StretchMonotone.{stretch_stays_monotone}
use Rattle.shapers_break_laws.specs.StretchBreaks.{JoinsPositions, StretchBreaksLaw}
use Rattle.shapers_break_laws.specs.TextBreaks.{TextBroken, back_half, front_half}
use Rattle.shapers_break_laws.proofs.MarkBreaks.{halves_apart}
use Rattle.shapers_break_laws.proofs.MeetingPlaces.{InOneOrder, unheld_at}
use Rattle.shapers_break_laws.proofs.StretchCuts.{InsideRun, NoneOf, all_back, cut_or_inside}
use Rattle.shapers_break_laws.proofs.TextBreaks.{broken_text}

-- a text that stays
unchanged_broken : (hook : Buffer → Buffer → Type 0) (old new : Buffer)
    → ((b c : Buffer) → b.stch ≡ old.stch → hook b c → c ≡ b) → hook old new → IsMonotone (clusters old.glyphs)
    → (p : ℕ) → 0 < p → p < length new.glyphs → IsClear new.glyphs p → TextBroken hook JoinsPositions old new p
unchanged_broken hook old new same is mono p z l clear =
    let gs = old.glyphs in
    let still = same old new refl is in
    let within : p < length gs = omega (arith, l, ap (λ (b : Buffer). length b.glyphs) still) in
    let meet = (subst (λ (b : Buffer). IsClear b.glyphs p) still clear).differ in
    record {
      cut = p;
      some_in_front = z;
      some_behind = within;
      apart = halves_apart gs p z within mono meet;
      halves = λ one two first second.
          let front = same (front_half p old) one refl first in
          let back = same (back_half p old) two refl second in (
            ap (λ (b : Buffer). length b.glyphs) front ∙ length-take-le p gs (omega (arith, within)),
            (
              ap (λ (b : Buffer). b.glyphs) still
                  ∙ sym (take-append-drop p gs)
                  ∙ ap (λ (b : Buffer). b.glyphs ++ drop p gs) (sym front)
                  ∙ ap (λ (b : Buffer). one.glyphs ++ b.glyphs) (sym back),
              ap (λ (b : Buffer). b.positions) still
                  ∙ sym (take-append-drop p old.positions)
                  ∙ ap (λ (b : Buffer). b.positions ++ drop p old.positions) (sym front)
                  ∙ ap (λ (b : Buffer). one.positions ++ b.positions) (sym back),
            ),
          );
    }

-- CELLS, which may stand the other way round
abbrev turned : Laying → Bool → List Cell → List Cell
turned how r cs = in_working_order r (stretched how (in_working_order r cs))

-- the cut falls between cells a and b, which both stand flagged in what is made
record FlaggedSeam (how : Laying) (r : Bool) (us vs : List Cell) : Type 0 where
  front : List Cell
  a : Cell
  b : Cell
  back : List Cell
  first : us ≡ front ++ a ∷ []
  second : vs ≡ b ∷ back
  least : ℕ
  low_a : least ≤ a.0.cluster
  low_b : least ≤ b.0.cluster
  shown : (test : Glyph → Bool) → NoneOf test (turned how r (us ++ vs))
      → (test (with_bits_off 3 least a.0) ≡ false) × (test (with_bits_off 3 least b.0) ≡ false)

turned_seam : (how : Laying) (us vs : List Cell) → InsideRun how (reverse vs) (reverse us) → FlaggedSeam how false us vs
turned_seam how us vs i = record {
  front = reverse i.back;
  a = i.b;
  b = i.a;
  back = reverse i.front;
  first = sym (reverse-reverse us) ∙ ap reverse i.second ∙ reverse-append (i.b ∷ []) i.back;
  second = sym (reverse-reverse vs) ∙ ap reverse i.first ∙ reverse-append i.front (i.a ∷ []);
  least = i.least;
  low_a = i.low_b;
  low_b = i.low_a;
  shown = λ test none.
      let cells = subst (λ cs. NoneOf test (stretched how cs)) (reverse-append us vs)
      (all_back (λ c. test c.0 ≡ false) (stretched how (reverse (us ++ vs))) none) in
      let (x, y) = i.shown test cells in
      (y, x);
}

cut_cells : (how : Laying) (r : Bool) (us vs : List Cell) → 0 < length us → 0 < length vs
    → (turned how r (us ++ vs) ≡ turned how r us ++ turned how r vs) ⊎ FlaggedSeam how r us vs
cut_cells how true us vs some behind = elim (cut_or_inside how us vs some behind) [
  | inl joined ↦ inl joined
  | inr i ↦ inr (record {
    front = i.front;
    a = i.a;
    b = i.b;
    back = i.back;
    first = i.first;
    second = i.second;
    least = i.least;
    low_a = i.low_a;
    low_b = i.low_b;
    shown = i.shown;
  })
]
cut_cells how false us vs some behind =
    elim (cut_or_inside how (reverse vs) (reverse us) (omega (arith, length-reverse vs, behind))
    (omega (arith, length-reverse us, some))) [
      | inl joined ↦ inl (ap (λ cs. reverse (stretched how cs)) (reverse-append us vs)
          ∙ ap reverse joined
          ∙ reverse-append (stretched how (reverse vs)) (stretched how (reverse us)))
      | inr i ↦ inr (turned_seam how us vs i)
    ]

-- the clusters on the two sides of the seam
abbrev of_cells : List Cell → List ℕ
of_cells cs = map (λ c. c.0.cluster) cs

zipped : (gs : Glyphs) (ps : List GlyphPosition) → length ps ≡ length gs → of_cells (zip gs ps)
    ≡ clusters gs
zipped [] ps same = refl
zipped (g ∷ gs) [] same = absurd (omega (arith, same))
zipped (g ∷ gs) (p ∷ ps) same = ap (λ ns. g.cluster ∷ ns) (zipped gs ps (omega (arith, same)))

seam : (front : List Cell) (a b : Cell) (back : List Cell)
    → (get_or (of_cells ((front ++ a ∷ []) ++ b ∷ back)) (length front) 0 ≡ a.0.cluster)
    × (get_or (of_cells ((front ++ a ∷ []) ++ b ∷ back)) (suc (length front)) 0 ≡ b.0.cluster)
seam [] a b back = (refl, refl)
seam (c ∷ front) a b back = seam front a b back

-- FLAGS
-- a glyph above the least cluster is flagged
three : (mask : ℕ) → 0 < unsafe_bits (bit_or mask 3)
three mask =
    let set : bit_at 0 3 ≡ 1 = refl in
    let below : bit_at 0 mask ≤ 1 = omega arith in
    omega (arith, bit_at_or mask 3 0, set, below)

above : (m c : ℕ) (g : Glyph) → m < g.cluster → g.cluster ≡ c
    → ((with_bits_off 3 m g).cluster == c && is_unsafe (with_bits_off 3 m g)) ≡ true
above m c g more is =
    elim (g.cluster == m) as (λ b. (g.cluster == m) ≡ b → ((let h : Glyph = cond b g (with_bits 3 g) in
    h.cluster == c && is_unsafe h)) ≡ true) [
      | true ↦ λ e. absurd (omega (arith, eqb-true g.cluster m e, more))
      | false ↦ λ e. and_from _ _ (eq-eqb g.cluster c is) (unsafe-from (with_bits 3 g) (three g.mask))
    ] refl

none_of : (test : Glyph → Bool) (cs : List Cell) → list_any test (glyphs_of cs) ≡ false → NoneOf test cs
none_of test [] none = tt
none_of test (c ∷ cs) none = let (first, rest) = or_parts _ _ none in (first, none_of test cs rest)

-- so where two clusters meet, not both fail
flagged_seam : (how : Laying) (r : Bool) (us vs : List Cell) → (s : FlaggedSeam how r us vs) → (c : ℕ)
    → s.a.0.cluster ≢ s.b.0.cluster → max s.a.0.cluster s.b.0.cluster ≡ c
    → NoneOf (λ g. g.cluster == c && is_unsafe g) (turned how r (us ++ vs)) → ⊥
flagged_seam how r us vs s c differ greatest none =
    let (x, y) = s.shown (λ g. g.cluster == c && is_unsafe g) none in
    let a = s.a.0.cluster in
    let b = s.b.0.cluster in
    elim (cases_lt a b) [
      | inl less ↦ both_ways _ y (above s.least c s.b.0 (omega (arith, less, s.low_a)) (omega (arith, less, greatest)))
      | inr more ↦ elim (cases_lt b a) [
        | inl less ↦ both_ways _ x (above s.least c s.a.0 (omega (arith, less, s.low_b))
            (omega (arith, less, greatest)))
        | inr same ↦ differ (omega (arith, more, same))
      ]
    ]

-- THE BUFFER
copied_clusters : (olds news : Glyphs) → AreCopies olds news
    → All (Contains (clusters olds)) (clusters news)
copied_clusters olds [] k = All-nil (Contains (clusters olds))
copied_clusters olds (new ∷ news) k =
    let there : Contains (clusters olds) k.0.0.cluster =
    Contains-map (λ (g : Glyph). g.cluster) olds k.0.0 k.0.1.0 in
    All-cons (Contains (clusters olds)) new.cluster (clusters news)
    (subst (Contains (clusters olds)) (sym k.0.1.1.same) there) (copied_clusters olds news k.1)

made_clusters : (plan : hb_ot_shape_plan_t) (font : Font) (b c : Buffer) → Postprocessed Arabic plan font b c
    → All (Contains (clusters b.glyphs)) (clusters c.glyphs)
made_clusters plan font b c is =
    copied_clusters b.glyphs c.glyphs (on_copies {T = Unit {0}} (Ok tt) font (start_of plan.plan_data) b c is)

cells_made : (plan : hb_ot_shape_plan_t) (font : Font) (b c : Buffer) → b.stch ≡ true
    → Postprocessed Arabic plan font b c
    → (c.glyphs ≡ glyphs_of (stretched_cells font (start_of plan.plan_data) b))
    × (c.positions ≡ positions_of (stretched_cells font (start_of plan.plan_data) b))
cells_made plan font b c marked is =
    let all = with_cells (stretched_cells font (start_of plan.plan_data) b) b in
    let done : c ≡ all = is ∙ ap (λ s. cond s all b) marked in
    (ap (λ (d : Buffer). d.glyphs) done, ap (λ (d : Buffer). d.positions) done)

arabic_breaks : (plan : hb_ot_shape_plan_t) (font : Font) (old new : Buffer) → length old.positions ≡ length old.glyphs
    → IsMonotone (clusters old.glyphs) → old.stch ≡ true → Postprocessed Arabic plan font old new → (p : ℕ) → 0 < p
    → p < length new.glyphs → IsClear new.glyphs p
    → TextBroken (Postprocessed Arabic plan font) JoinsPositions old new p
arabic_breaks plan font old new both mono marked is p z l clear =
    let cluster : Glyph → ℕ = λ g. g.cluster in
    let choice = start_of plan.plan_data in
    let gs = old.glyphs in
    let ps = old.positions in
    let r = goes_leftward old.direction in
    let how = laying font choice old in
    let stays = stretch_stays_monotone Arabic plan font old new both is in
    let order : InOneOrder (clusters gs) (clusters new.glyphs) =
    elim mono [ inl up ↦ inl (up, stays.0 up) | inr down ↦ inr (down, stays.1 down) ] in
    let at = unheld_at MonotoneGraphemes refl [] (clusters gs) (clusters new.glyphs) tt order
    (made_clusters plan font old new is) p z (omega (arith, l, length-map new.glyphs cluster)) clear.differ in
    let q = at.place in
    let within : q < length gs = omega (arith, at.within, length-map gs cluster) in
    let us = zip (take q gs) (take q ps) in
    let vs = zip (drop q gs) (drop q ps) in
    let text : zip gs ps ≡ us ++ vs = sym (take-append-drop q (zip gs ps))
    ∙ ap (λ cs. cs ++ drop q (zip gs ps)) (zip-take q gs ps) ∙ ap (λ cs. us ++ cs) (zip-drop q gs ps) in
    let front = length-take-le q gs (omega (arith, within)) in
    let first_long : length us ≡ q = sym (length-map us (λ c. c.0.cluster))
    ∙ ap length (zipped (take q gs) (take q ps) (length-take-le q ps (omega (arith, within, both)) ∙ sym front))
    ∙ length-map (take q gs) cluster ∙ front in
    let second_long : 0 < length vs =
    omega (
      arith,
      length-map vs (λ (c : Cell). c.0.cluster),
      ap length (zipped (drop q gs) (drop q ps) (length-drop q ps ∙ ap (λ n. n - q) both ∙ sym (length-drop q gs))),
      length-map (drop q gs) cluster,
      length-drop q gs,
      within,
    ) in
    let now = cells_made plan font old new marked is in
    let c = greater new.glyphs p in
    let test : Glyph → Bool = λ g. g.cluster == c && is_unsafe g in
    let none : NoneOf test (turned how r (us ++ vs)) =
    subst (λ cs. NoneOf test (turned how r cs)) text
    (none_of test (stretched_cells font choice old) (ap (list_any test) (sym now.0) ∙ clear.unflagged)) in
    let joined : turned how r (us ++ vs) ≡ turned how r us ++ turned how r vs =
    elim (cut_cells how r us vs (omega (arith, first_long, at.some)) second_long) [
      | inl whole ↦ whole
      | inr s ↦
          let parts : us ++ vs ≡ (s.front ++ s.a ∷ []) ++ s.b ∷ s.back = ap (λ cs. cs ++ vs) s.first
          ∙ ap (λ cs. (s.front ++ s.a ∷ []) ++ cs) s.second in
          let all : clusters gs ≡ of_cells ((s.front ++ s.a ∷ []) ++ s.b ∷ s.back) = sym (zipped gs ps both)
          ∙ ap of_cells (text ∙ parts) in
          let q_is : q ≡ suc (length s.front) =
          omega (arith, first_long, ap length s.first, length_push s.front s.a) in
          let before : q - 1 ≡ length s.front = omega (arith, q_is) in
          let (left, right) = seam s.front s.a s.b s.back in
          let a_is : get_or (clusters gs) (q - 1) 0 ≡ s.a.0.cluster = ap (λ cs. get_or cs (q - 1) 0) all
          ∙ ap (λ k. get_or (of_cells ((s.front ++ s.a ∷ []) ++ s.b ∷ s.back)) k 0) before ∙ left in
          let b_is : get_or (clusters gs) q 0 ≡ s.b.0.cluster = ap (λ cs. get_or cs q 0) all
          ∙ ap (λ k. get_or (of_cells ((s.front ++ s.a ∷ []) ++ s.b ∷ s.back)) k 0) q_is ∙ right in
          absurd (flagged_seam how r us vs s c (λ e. at.differ (a_is ∙ e ∙ sym b_is))
          (ap (λ k. max k s.b.0.cluster) (sym a_is) ∙ ap (λ k. max (get_or (clusters gs) (q - 1) 0) k) (sym b_is)
          ∙ at.greatest) none)
    ] in
    let whole : stretched_cells font choice old ≡ stretched_cells font choice (front_half q old)
    ++ stretched_cells font choice (back_half q old) = ap (turned how r) text ∙ joined in
    broken_text (Postprocessed Arabic plan font) JoinsPositions old new [] p mono (made_clusters plan font)
    (λ one two both_parts. ap clusters both_parts.0 ∙ map-append cluster one.glyphs two.glyphs)
    at (λ apart one two first second.
    let x = cells_made plan font (front_half q old) one marked first in
    let y = cells_made plan font (back_half q old) two marked second in
    let fs = stretched_cells font choice (front_half q old) in
    let bs = stretched_cells font choice (back_half q old) in (
      now.0 ∙ ap glyphs_of whole ∙ map-append (λ (c : Cell). c.0) fs bs
          ∙ ap (λ hs. hs ++ glyphs_of bs) (sym x.0) ∙ ap (λ hs. one.glyphs ++ hs) (sym y.0),
      now.1 ∙ ap positions_of whole ∙ map-append (λ (c : Cell). c.1) fs bs
          ∙ ap (λ hs. hs ++ positions_of bs) (sym x.1) ∙ ap (λ hs. one.positions ++ hs) (sym y.1),
    ))

stays_unmarked : (plan : hb_ot_shape_plan_t) (font : Font) (b c : Buffer) → b.stch ≡ false
    → Postprocessed Arabic plan font b c → c ≡ b
stays_unmarked plan font b c unmarked is =
    is ∙ ap (λ s. cond s (with_cells (stretched_cells font (start_of plan.plan_data) b) b) b) unmarked

pub stretch_breaks : StretchBreaksLaw
stretch_breaks Arabic plan font old new both mono is p z l clear = elim (cases_Bool old.stch) [
  | inl marked ↦ arabic_breaks plan font old new both mono marked is p z l clear
  | inr unmarked ↦ unchanged_broken (Postprocessed Arabic plan font) old new
      (λ b c same own. stays_unmarked plan font b c (same ∙ unmarked) own) is mono p z l clear
]
stretch_breaks Hangul plan font old new both mono is p z l clear = unchanged_broken (Postprocessed Hangul plan font)
    old new (λ b c same own. own.1) is mono p z l clear
stretch_breaks Hebrew plan font old new both mono is p z l clear = unchanged_broken (Postprocessed Hebrew plan font)
    old new (λ b c same own. own.1) is mono p z l clear
stretch_breaks Indic plan font old new both mono is p z l clear = unchanged_broken (Postprocessed Indic plan font)
    old new (λ b c same own. own.1) is mono p z l clear
stretch_breaks Khmer plan font old new both mono is p z l clear = unchanged_broken (Postprocessed Khmer plan font)
    old new (λ b c same own. own.1) is mono p z l clear
stretch_breaks Myanmar plan font old new both mono is p z l clear = unchanged_broken (Postprocessed Myanmar plan font)
    old new (λ b c same own. own.1) is mono p z l clear
stretch_breaks MyanmarZawgyi plan font old new both mono is p z l clear = unchanged_broken
    (Postprocessed MyanmarZawgyi plan font) old new (λ b c same own. own.1) is mono p z l clear
stretch_breaks Thai plan font old new both mono is p z l clear = unchanged_broken (Postprocessed Thai plan font) old
    new (λ b c same own. own.1) is mono p z l clear
stretch_breaks Universal plan font old new both mono is p z l clear = unchanged_broken
    (Postprocessed Universal plan font) old new (λ b c same own. own.1) is mono p z l clear
