-- One glyph moved to the other end of a stretch.
use Rattle.std.proofs.Common.{◌≡◌, ℕ, suc, ◌+◌, ◌-◌, ◌<◌, ◌≤◌, List, [], ◌∷◌, ◌++◌, length, take, drop, get_or, reverse, sym, ap, ◌∙◌, arith, length-drop, take-append-drop}
use Rattle.std.specs.List.{range_with_len, slice_rotate_right}
use Rattle.std.specs.List.Sorted.{IsPermutation}
use Rattle.std.proofs.lemmas.List.{length-take-le, reverse-append, reverse-reverse}
use Rattle.std.proofs.lemmas.List.Sorted.{IsPermutation-reverse, IsPermutation-trans}
use Rattle.shapers_buffer.specs.Glyphs.{Glyphs}
use Rattle.shapers_buffer.specs.Lists.{first_last}
use Rattle.shapers_buffer.specs.Buffer.{Buffer}
use Rattle.shapers_buffer.specs.Clusters.{stretch_of, with_stretch}
use Rattle.shapers_buffer.specs.Glyph.{default_glyph}
use Rattle.shapers_buffer.specs.Places.{pick, placed_by}
use Rattle.shapers_buffer.specs.declared.buffer.placement.Placement.TheVariants.{Forward}
use Rattle.shapers_buffer.proofs.Placements.{gone_back, placed_forward, rotated_stretch}
use Rattle.shapers_clusters.proofs.Picks.{pick-append, pick-range, pick-within}
use Rattle.shapers_clusters.proofs.Widened.{range-append}
use Rattle.shapers_indic_final.specs.FinalGlyphs.{last_goes_first}
use Rattle.shapers_clusters.proofs.Permuted.{permuted-first_last}

pub last_goes_first-push : {X : Type 0} (xs : List X) (x : X) → last_goes_first (xs ++ x ∷ []) ≡ x ∷ xs
last_goes_first-push xs x =
    ap (λ ys. reverse (first_last ys)) (reverse-append xs (x ∷ []))
    ∙ reverse-append (reverse xs) (x ∷ [])
    ∙ ap (λ ys. x ∷ ys) (reverse-reverse xs)

-- turned in place
turned_last : {X : Type 0} (front back : List X) → length back ≡ 1 → back ++ front ≡ last_goes_first (front ++ back)
turned_last front [] one = absurd (omega arith)
turned_last front (x ∷ []) one = sym (last_goes_first-push front x)
turned_last front (x ∷ (y ∷ back)) one = absurd (omega arith)

turned_right : {X : Type 0} (gs : List X) → 0 < length gs → slice_rotate_right gs 1 ≡ last_goes_first gs
turned_right gs some =
    let k = length gs - 1 in
    turned_last (take k gs) (drop k gs) (omega (arith, length-drop k gs)) ∙ ap last_goes_first (take-append-drop k gs)

-- moved by a placement: the first behind the others, or the last before them
written_so : (b b2 : Buffer) (xs : Glyphs) → b2 ≡ record b { glyphs = xs }
    → b2 ≡ record b { glyphs = xs; places = b2.places }
written_so b b2 xs is =
    is ∙ ap (λ qs. let y : Buffer = record b { glyphs = xs; places = qs } in y) (sym (ap (λ (x : Buffer). x.places) is))

pub placed_first_last : (s e : ℕ) (b b2 : Buffer) → s < e → e ≤ length b.glyphs
    → b2 ≡ record b { glyphs = placed_by (Forward s (s + 1) (e - s - 1)) s e b.places b.glyphs }
    → b2 ≡ record b { glyphs = with_stretch s e first_last b.glyphs; places = b2.places }
placed_first_last s e b b2 some within applied =
    let behind : s + 1 + (e - s - 1) ≡ e = omega arith in
    let placed : placed_by (Forward s (s + 1) (e - s - 1)) s e b.places b.glyphs
    ≡ with_stretch s e first_last b.glyphs =
    placed_forward s (s + 1) (e - s - 1) s e b.places b.glyphs (omega arith) (omega arith) (omega arith) within
    ∙ gone_back s (e - s - 1) b.glyphs (omega arith)
    ∙ ap (λ k. with_stretch s k first_last b.glyphs) behind in
    written_so b b2 (with_stretch s e first_last b.glyphs) (applied
    ∙ ap (λ xs. let y : Buffer = record b { glyphs = xs } in y) placed)

pub placed_last_first : (s e : ℕ) (b b2 : Buffer) → s < e → e ≤ length b.glyphs
    → b2 ≡ record b { glyphs = placed_by (Forward s (e - 1) 1) s e b.places b.glyphs }
    → b2 ≡ record b { glyphs = with_stretch s e last_goes_first b.glyphs; places = b2.places }
placed_last_first s e b b2 some within applied =
    let behind : e - 1 + 1 ≡ e = omega arith in
    let long = length-take-le (e - s) (drop s b.glyphs) (omega (arith, length-drop s b.glyphs)) in
    let placed : placed_by (Forward s (e - 1) 1) s e b.places b.glyphs ≡ with_stretch s e last_goes_first b.glyphs =
    placed_forward s (e - 1) 1 s e b.places b.glyphs (omega arith) (omega arith) (omega arith) within
    ∙ sym (rotated_stretch s (e - 1) 1 b.glyphs (omega arith) (omega arith))
    ∙ ap (λ k. with_stretch s k (λ ys. slice_rotate_right ys 1) b.glyphs) behind
    ∙ ap (λ zs. take s b.glyphs ++ (zs ++ drop e b.glyphs))
    (turned_right (stretch_of s e b.glyphs) (omega (arith, long))) in
    written_so b b2 (with_stretch s e last_goes_first b.glyphs) (applied
    ∙ ap (λ xs. let y : Buffer = record b { glyphs = xs } in y) placed)

-- what places so moved pick
pub picks_first_last : (s e : ℕ) (gs : Glyphs) → s < e → e ≤ length gs
    → pick (first_last (range_with_len s (e - s))) gs ≡ first_last (stretch_of s e gs)
picks_first_last s e gs l w =
    let m = e - 1 - s in
    let d = default_glyph in
    let n' : e - s ≡ suc m = omega arith in
    let there : s < length gs = omega arith in
    let all : s + (e - s) ≤ length gs = omega arith in
    let is : stretch_of s e gs ≡ get_or gs s d ∷ pick (range_with_len (s + 1) m) gs = sym (pick-range s (e - s) gs all)
    ∙ ap (λ k. pick (range_with_len s k) gs) n' ∙ pick-within d s (range_with_len (s + 1) m) gs there in
    ap (λ k. pick (first_last (range_with_len s k)) gs) n'
    ∙ pick-append (range_with_len (s + 1) m) (s ∷ []) gs
    ∙ ap (λ xs. pick (range_with_len (s + 1) m) gs ++ xs) (pick-within d s [] gs there)
    ∙ sym (ap first_last is)

pub picks_last_first : (s e : ℕ) (gs : Glyphs) → s < e → e ≤ length gs
    → pick (last_goes_first (range_with_len s (e - s))) gs ≡ last_goes_first (stretch_of s e gs)
picks_last_first s e gs l w =
    let m = e - 1 - s in
    let d = default_glyph in
    let n : e - s ≡ m + 1 = omega arith in
    let there : s + m < length gs = omega arith in
    let all : s + (e - s) ≤ length gs = omega arith in
    let is : stretch_of s e gs ≡ pick (range_with_len s m) gs ++ get_or gs (s + m) d ∷ [] =
    sym (pick-range s (e - s) gs all) ∙ ap (λ k. pick (range_with_len s k) gs) n
    ∙ ap (λ ps. pick ps gs) (range-append s m 1)
    ∙ pick-append (range_with_len s m) ((s + m) ∷ []) gs
    ∙ ap (λ xs. pick (range_with_len s m) gs ++ xs) (pick-within d (s + m) [] gs there) in
    ap (λ k. pick (last_goes_first (range_with_len s k)) gs) n
    ∙ ap (λ ps. pick (last_goes_first ps) gs) (range-append s m 1)
    ∙ ap (λ ps. pick ps gs) (last_goes_first-push (range_with_len s m) (s + m))
    ∙ pick-within d (s + m) (range_with_len s m) gs there
    ∙ sym (ap last_goes_first is ∙ last_goes_first-push (pick (range_with_len s m) gs) (get_or gs (s + m) d))

-- each element stays once
pub permutes_last_first : {X : Type 0} (xs : List X) → IsPermutation xs (last_goes_first xs)
permutes_last_first xs =
    let back = reverse xs in
    IsPermutation-trans xs back (last_goes_first xs) (IsPermutation-reverse xs)
    (IsPermutation-trans back (first_last back) (last_goes_first xs) (permuted-first_last back)
    (IsPermutation-reverse (first_last back)))

-- a buffer whose places are listed, and then whose glyphs are put so
pub glyphs_put : (a b c : Buffer) (gs : Glyphs) → b ≡ record a { places = b.places }
    → c ≡ record b { glyphs = gs } → c ≡ record a { glyphs = gs; places = c.places }
glyphs_put a b c gs before after =
    let same : c.places ≡ b.places = ap (λ (x : Buffer). x.places) after in
    after
    ∙ ap (λ (x : Buffer). let y : Buffer = record x { glyphs = gs } in y) before
    ∙ ap (λ (l : List ℕ). let y : Buffer = record a { glyphs = gs; places = l } in y) (sym same)
