-- One glyph of a syllable moved by a placement behind others.
use Rattle.std.proofs.Common.{◌≡◌, ℕ, ◌+◌, ◌-◌, ◌<◌, ◌≤◌, Bool, true, false, if◌then◌else◌, Option, None, Some, List, [], ◌∷◌, suc, take, drop, get_or, length, refl, sym, ap, subst, ◌∙◌, arith}
use Rattle.std.specs.Prelude.{◌||◌}
use Rattle.std.specs.List.{list_any, range_with_len}
use Rattle.std.proofs.lemmas.List.{drop_more}
use Rattle.shapers_buffer.specs.Glyph.{default_glyph}
use Rattle.shapers_indic_final.specs.FinalMatras.{is_left}
use Rattle.std.proofs.lemmas.List.Sorted.{IsPermutation-refl}
use Rattle.shapers_buffer.specs.Buffer.{Buffer}
use Rattle.shapers_buffer.specs.Clusters.{stretch_of, with_stretch}
use Rattle.shapers_buffer.specs.Glyphs.{Glyphs}
use Rattle.shapers_buffer.specs.Lists.{first_last}
use Rattle.shapers_buffer.specs.Places.{PlacesEachOnce, placed_by}
use Rattle.shapers_buffer.specs.Placements.{MayArrange, arranged, placed_by_all}
use Rattle.shapers_buffer.specs.declared.buffer.placement.Placement.{Placement}
use Rattle.shapers_buffer.specs.declared.buffer.placement.Placement.TheVariants.{Forward, Stays}
use Rattle.shapers_buffer.specs.declared.buffer.placements.Placements.{Placements}
use Rattle.shapers_buffer.proofs.Arranging.{all_long, placed_long}
use Rattle.shapers_buffer.proofs.ClusterLemmas.{length-stretch}
use Rattle.shapers_buffer.proofs.Placements.{forward_permutes, gone_back, placed_forward, placed_stays}
use Rattle.shapers_indic_final.specs.FinalGlyphs.{last_goes_first}
use Rattle.shapers_base.specs.declared.plan.indic.RephPosition.{RephPosition}
use Rattle.shapers_buffer.specs.declared.buffer.tag.Script.{Script}
use Rattle.shapers_indic_final.specs.FinalMoveWalk.{matra_placements, pref_goes, reph_goes, with_target}
use Rattle.shapers_indic_final.specs.FinalPref.{formed_pref, pref_move, pref_step, pref_steps, pref_target}
use Rattle.shapers_indic_final.specs.FinalReph.{final_reph_step, is_moving_reph, begins_with_reph, reph_steps, reph_target}
use Rattle.shapers_indic_final.specs.Proved.FinalMoves.{placed_last_first}

-- the placements, and a further one
abbrev pub with_second : Placements → Placement → Placements
with_second ps p = record { first = ps.first; second = p; third = ps.third }

abbrev pub with_third : Placements → Placement → Placements
with_third ps p = record { first = ps.first; second = ps.second; third = p }

pub then_second : (ps : Placements) (p : Placement) (s e : ℕ) (places : List ℕ) (gs : Glyphs)
    → MayArrange ps s e (length gs) places → PlacesEachOnce p s e places → ps.second ≡ Stays → ps.third ≡ Stays
    → placed_by_all (with_second ps p) s e places gs ≡ placed_by p s e places (placed_by_all ps s e places gs)
then_second ps p s e places gs a each two three =
    let by : Placement → Glyphs → Glyphs = λ p hs. placed_by p s e places hs in
    let h = a.in_order in
    let xs = by ps.first gs in
    let l1 : length xs ≡ length gs = placed_long ps.first s e places gs h a.in_range a.first in
    let lx : e ≤ length xs = omega (arith, a.in_range) in
    let ys = by p xs in
    let l2 : length ys ≡ length xs = placed_long p s e places xs h lx each in
    let still = placed_stays s e places xs h lx in
    ap (λ q. by q ys) three ∙ placed_stays s e places ys h (omega arith)
    ∙ ap (by p) (sym (ap (λ q. by q (by ps.second xs)) three ∙ ap (by Stays) (ap (λ q. by q xs) two ∙ still) ∙ still))

pub then_third : (ps : Placements) (p : Placement) (s e : ℕ) (places : List ℕ) (gs : Glyphs)
    → MayArrange ps s e (length gs) places → ps.third ≡ Stays
    → placed_by_all (with_third ps p) s e places gs ≡ placed_by p s e places (placed_by_all ps s e places gs)
then_third ps p s e places gs a three =
    let by : Placement → Glyphs → Glyphs = λ p hs. placed_by p s e places hs in
    let h = a.in_order in
    let xs = by ps.first gs in
    let l1 : length xs ≡ length gs = placed_long ps.first s e places gs h a.in_range a.first in
    let lx : e ≤ length xs = omega (arith, a.in_range) in
    let ys = by ps.second xs in
    let l2 : length ys ≡ length xs = placed_long ps.second s e places xs h lx a.second in
    ap (by p) (sym (ap (λ q. by q ys) three ∙ placed_stays s e places ys h (omega arith)))

-- the first of a stretch behind the others, and the last before them
pub goes_last : (s e a c : ℕ) (places : List ℕ) (gs : Glyphs) → s ≤ a → a < c → c ≤ e → e ≤ length gs
    → placed_by (Forward a (a + 1) (c - a - 1)) s e places gs ≡ with_stretch a c first_last gs
goes_last s e a c places gs h l m n =
    let behind : a + 1 + (c - a - 1) ≡ c = omega arith in
    placed_forward a (a + 1) (c - a - 1) s e places gs h (omega arith) (omega arith) n
    ∙ gone_back a (c - a - 1) gs (omega arith) ∙ ap (λ k. with_stretch a k first_last gs) behind

pub goes_first : (b : Buffer) (s e a c : ℕ) (places : List ℕ) (gs : Glyphs) → s ≤ a → a < c → c ≤ e → e ≤ length gs
    → placed_by (Forward a (c - 1) 1) s e places gs ≡ with_stretch a c last_goes_first gs
goes_first b s e a c places gs h l m n =
    let x : Buffer = record b { glyphs = gs; places = places } in
    let y : Buffer = record x { glyphs = placed_by (Forward a (c - 1) 1) a c places gs } in
    placed_forward a (c - 1) 1 s e places gs h (omega arith) (omega arith) n
    ∙ sym (placed_forward a (c - 1) 1 a c places gs (omega arith) (omega arith) (omega arith) (omega arith))
    ∙ ap (λ (z : Buffer). z.glyphs) (placed_last_first a c x y l (omega arith) refl)

-- a step whose move is the second placement, or the third, behind what merged
pub moved_second : (ps qs : Placements) (s e a c : ℕ) (b0 b1 : Buffer) (hs : Glyphs)
    → MayArrange ps s e (length b0.glyphs) b0.places → ps.second ≡ Stays → ps.third ≡ Stays → s ≤ a → a < c → c ≤ e
    → qs ≡ with_second ps (Forward a (a + 1) (c - a - 1)) → b1 ≡ record b0 { glyphs = b1.glyphs }
    → length b1.glyphs ≡ length b0.glyphs → arranged ps s e b1 ≡ record (arranged ps s e b0) { glyphs = hs }
    → (arranged qs s e b1 ≡ record (arranged ps s e b0) { glyphs = with_stretch a c first_last hs })
    × MayArrange qs s e (length b1.glyphs) b1.places
moved_second ps qs s e a c b0 b1 hs fits two three h l m is others long merged =
    let p : Placement = Forward a (a + 1) (c - a - 1) in
    let list : b1.places ≡ b0.places = ap (λ (b : Buffer). b.places) others in
    let fits1 : MayArrange ps s e (length b1.glyphs) b1.places =
    subst (λ ws. MayArrange ps s e (length b1.glyphs) ws) (sym list)
    (subst (λ n. MayArrange ps s e n b0.places) (sym long) fits) in
    let each = forward_permutes a (a + 1) (c - a - 1) s e b1.places h (omega arith) (omega arith) in
    let text : placed_by_all ps s e b1.places b1.glyphs ≡ hs = ap (λ (b : Buffer). b.glyphs) merged in
    let all = placed_by_all ps s e b1.places b1.glyphs in
    let n : length all ≡ length b1.glyphs = all_long ps s e b1.places b1.glyphs fits1 in
    let moved : placed_by_all (with_second ps p) s e b1.places b1.glyphs ≡ with_stretch a c first_last hs =
    then_second ps p s e b1.places b1.glyphs fits1 each two three
    ∙ goes_last s e a c b1.places all h l m (omega (arith, fits.in_range)) ∙ ap (with_stretch a c first_last) text in
    let now : MayArrange (with_second ps p) s e (length b1.glyphs) b1.places = record {
      in_order = fits1.in_order;
      in_range = fits1.in_range;
      first = fits1.first;
      second = each;
      third = fits1.third;
    } in (
      ap (λ ps. arranged ps s e b1) is
          ∙ ap (λ (gs : Glyphs). let y : Buffer = record (arranged ps s e b1) { glyphs = gs } in y) moved
          ∙ ap (λ (x : Buffer). let y : Buffer = record x { glyphs = with_stretch a c first_last hs } in y) merged,
      subst (λ ps. MayArrange ps s e (length b1.glyphs) b1.places) (sym is) now,
    )

pub moved_third : (ps qs : Placements) (s e a c : ℕ) (b0 b1 : Buffer) (hs : Glyphs)
    → MayArrange ps s e (length b0.glyphs) b0.places → ps.third ≡ Stays → s ≤ a → a < c → c ≤ e
    → qs ≡ with_third ps (Forward a (c - 1) 1) → b1 ≡ record b0 { glyphs = b1.glyphs }
    → length b1.glyphs ≡ length b0.glyphs → arranged ps s e b1 ≡ record (arranged ps s e b0) { glyphs = hs }
    → (arranged qs s e b1 ≡ record (arranged ps s e b0) { glyphs = with_stretch a c last_goes_first hs })
    × MayArrange qs s e (length b1.glyphs) b1.places
moved_third ps qs s e a c b0 b1 hs fits three h l m is others long merged =
    let p : Placement = Forward a (c - 1) 1 in
    let list : b1.places ≡ b0.places = ap (λ (b : Buffer). b.places) others in
    let fits1 : MayArrange ps s e (length b1.glyphs) b1.places =
    subst (λ ws. MayArrange ps s e (length b1.glyphs) ws) (sym list)
    (subst (λ n. MayArrange ps s e n b0.places) (sym long) fits) in
    let each = forward_permutes a (c - 1) 1 s e b1.places h (omega arith) (omega arith) in
    let text : placed_by_all ps s e b1.places b1.glyphs ≡ hs = ap (λ (b : Buffer). b.glyphs) merged in
    let all = placed_by_all ps s e b1.places b1.glyphs in
    let n : length all ≡ length b1.glyphs = all_long ps s e b1.places b1.glyphs fits1 in
    let moved : placed_by_all (with_third ps p) s e b1.places b1.glyphs ≡ with_stretch a c last_goes_first hs =
    then_third ps p s e b1.places b1.glyphs fits1 three
    ∙ goes_first b1 s e a c b1.places all h l m (omega (arith, fits.in_range))
    ∙ ap (with_stretch a c last_goes_first) text in
    let now : MayArrange (with_third ps p) s e (length b1.glyphs) b1.places = record {
      in_order = fits1.in_order;
      in_range = fits1.in_range;
      first = fits1.first;
      second = fits1.second;
      third = each;
    } in (
      ap (λ ps. arranged ps s e b1) is
          ∙ ap (λ (gs : Glyphs). let y : Buffer = record (arranged ps s e b1) { glyphs = gs } in y) moved
          ∙ ap (λ (x : Buffer). let y : Buffer = record x { glyphs = with_stretch a c last_goes_first hs } in y) merged,
      subst (λ ps. MayArrange ps s e (length b1.glyphs) b1.places) (sym is) now,
    )

-- a left matra's move alone
pub stay_fits : (s e : ℕ) (places : List ℕ) → PlacesEachOnce Stays s e places
stay_fits s e places = IsPermutation-refl (range_with_len s (e - s))

pub matra_fits : (s e n i j : ℕ) (places : List ℕ) → i ≤ j → s + j < e → e ≤ n
    → MayArrange (matra_placements s i j) s e n places
matra_fits s e n i j places h l m = record {
  in_order = omega arith;
  in_range = m;
  first = forward_permutes (s + i) (s + i + 1) (s + j + 1 - (s + i) - 1) s e places (omega arith) (omega arith)
      (omega arith);
  second = stay_fits s e places;
  third = stay_fits s e places;
}

pub matra_moved : (s e i j : ℕ) (places : List ℕ) (gs : Glyphs) → i ≤ j → s + j < e → e ≤ length gs
    → placed_by_all (matra_placements s i j) s e places gs ≡ with_stretch (s + i) (s + j + 1) first_last gs
matra_moved s e i j places gs h l m =
    let xs = placed_by (Forward (s + i) (s + i + 1) (s + j + 1 - (s + i) - 1)) s e places gs in
    let a = matra_fits s e (length gs) i j places h l m in
    let n = placed_long (Forward (s + i) (s + i + 1) (s + j + 1 - (s + i) - 1)) s e places gs a.in_order m a.first in
    let still = placed_stays s e places xs a.in_order (omega arith) in
    ap (placed_by Stays s e places) still ∙ still
    ∙ goes_last s e (s + i) (s + j + 1) places gs (omega arith) (omega arith) (omega arith) m

-- what was found as steps
by_test : (b : Bool) (j k n : ℕ) → (if b then Some k else None) ≡ Some j
    → (if b then final_reph_step n k ∷ [] else []) ≡ final_reph_step n j ∷ []
by_test true j k n is = let same : k ≡ j = cc in ap (λ j. final_reph_step n j ∷ []) same
by_test false j k n is = cc

pub reph_one : (position : RephPosition) (base n j : ℕ) (part : Glyphs) → reph_goes position base part ≡ Some j
    → length part ≡ n → reph_steps position base part ≡ final_reph_step n j ∷ []
reph_one position base n j part is long =
    ap (λ n. if begins_with_reph part then final_reph_step n (reph_target position base part) ∷ [] else []) long
    ∙ by_test (begins_with_reph part) j (reph_target position base part) n is

by_place : (o : Option ℕ) (j k i n : ℕ) → with_target k o ≡ Some (j, i) → pref_step n k o ≡ pref_move n j i ∷ []
by_place None j k i n is = cc
by_place (Some q) j k i n is =
    let t : (k, q) ≡ (j, i) = cc in
    ap (λ (t : ℕ × ℕ). pref_move n t.0 t.1 ∷ []) t

pub pref_one : (pref : ℕ) (script : Option Script) (base n j i : ℕ) (part : Glyphs)
    → pref_goes pref script base part ≡ Some (j, i) → length part ≡ n
    → pref_steps pref script base part ≡ pref_move n j i ∷ []
pref_one pref script base n j i part is long =
    ap (λ n. pref_step n (pref_target script base part) (formed_pref pref base part)) long
    ∙ by_place (formed_pref pref base part) j (pref_target script base part) i n is

-- what stands from a place on, one more
first_of : (i e : ℕ) (gs : Glyphs) → i < e → e ≤ length gs → stretch_of i e gs
    ≡ get_or gs i default_glyph ∷ stretch_of (i + 1) e gs
first_of i e gs l m =
    let n : e - i ≡ suc (e - (i + 1)) = omega arith in
    ap (take (e - i)) (drop_more gs i default_glyph (omega arith))
    ∙ ap (λ n. take n (get_or gs i default_glyph ∷ drop (i + 1) gs)) n

pub left_first : (i e : ℕ) (gs : Glyphs) → i < e → e ≤ length gs → list_any is_left (stretch_of i e gs)
    ≡ (is_left (get_or gs i default_glyph) || list_any is_left (stretch_of (i + 1) e gs))
left_first i e gs l m = ap (list_any is_left) (first_of i e gs l m)

pub left_none : (i e : ℕ) (gs : Glyphs) → e ≤ i → list_any is_left (stretch_of i e gs) ≡ false
left_none i e gs l = let n : e - i ≡ 0 = omega arith in ap (λ n. list_any is_left (take n (drop i gs))) n

-- nothing moves
pub stay_all : (s e : ℕ) (places : List ℕ) (gs : Glyphs) → s ≤ e → e ≤ length gs
    → placed_by_all (record { first = Stays; second = Stays; third = Stays }) s e places gs ≡ gs
stay_all s e places gs h l =
    let still = placed_stays s e places gs h l in
    ap (λ (xs : Glyphs). placed_by Stays s e places (placed_by Stays s e places xs)) still
    ∙ ap (placed_by Stays s e places) still ∙ still

pub stay_buffer : (s e : ℕ) (b : Buffer) → s ≤ e → e ≤ length b.glyphs
    → arranged (record { first = Stays; second = Stays; third = Stays }) s e b ≡ record b { places = [] }
stay_buffer s e b h l =
    ap (λ (gs : Glyphs). let y : Buffer = record b { glyphs = gs; places = [] } in y) (stay_all s e b.places b.glyphs h l)

pub stay_stepped : (s e : ℕ) (old new : Buffer) (hs : Glyphs) → s ≤ e → e ≤ length new.glyphs
    → new ≡ record old { glyphs = hs; places = new.places }
    → arranged (record { first = Stays; second = Stays; third = Stays }) s e new
    ≡ record old { glyphs = hs; places = [] }
stay_stepped s e old new hs h l is =
    stay_buffer s e new h l ∙ ap (λ (x : Buffer). let y : Buffer = record x { places = [] } in y) is

-- whether a reph begins a syllable, by its first glyph
pub opens_by_first : (s e : ℕ) (gs : Glyphs) → s + 2 ≤ e → e ≤ length gs → begins_with_reph (stretch_of s e gs)
    ≡ is_moving_reph (get_or gs s default_glyph)
opens_by_first s e gs l m =
    ap begins_with_reph (first_of s e gs (omega arith) m
    ∙ ap (λ (xs : Glyphs). get_or gs s default_glyph ∷ xs) (first_of (s + 1) e gs (omega arith) m))

few : (gs : Glyphs) → length gs < 2 → begins_with_reph gs ≡ false
few [] l = refl
few (g ∷ []) l = refl
few (g ∷ (h ∷ gs)) l = absurd (omega arith)

pub opens_none : (s e : ℕ) (gs : Glyphs) → e - s < 2 → e ≤ length gs → begins_with_reph (stretch_of s e gs) ≡ false
opens_none s e gs l m = few (stretch_of s e gs) (subst (λ n. n < 2) (sym (length-stretch s e gs m)) l)
