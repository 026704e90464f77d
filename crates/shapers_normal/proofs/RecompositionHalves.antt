-- The third round of a text that is cut before a glyph that is no mark.
use Rattle.std.proofs.Common.{◌≡◌, ◌+◌, ◌-◌, ◌<◌, ◌&&◌, ◌||◌, ℕ, suc, zero, Bool, true, false, cond, eqb, nat_lt, [], ◌∷◌, ◌++◌, length, take, drop, get_or, set, Option, None, Some, refl, sym, ap, ◌∙◌, subst, arith, append_assoc, length-drop}
use Rattle.std.proofs.Math.Seq.{drop-append-add, take-append-add}
use Rattle.std.proofs.lemmas.Bool.Decides.{nat_tests}
use Rattle.std.proofs.lemmas.List.{append-nil, drop-append-le, get_or-append-add, length-append, length-set, length-take-le, set-append_left, set-append_right, take-append-le}
use Rattle.std.specs.Option.{option_map_or}
use Rattle.shapers_base.specs.declared.font.GlyphId.{GlyphId}
use Rattle.shapers_buffer.specs.Glyphs.{Glyph, Glyphs}
use Rattle.shapers_buffer.specs.declared.buffer.level.BufferClusterLevel.{BufferClusterLevel}
use Rattle.shapers_buffer.specs.Clusters.{merge}
use Rattle.shapers_buffer.specs.Glyph.{default_glyph}
use Rattle.shapers_clusters.proofs.Halves.{Each, each-append, each-drop, each-take}
use Rattle.shapers_clusters.proofs.Merging.{length-merge}
use Rattle.shapers_normal.specs.Context.{Context}
use Rattle.shapers_normal.specs.Properties.{as_character}
use Rattle.shapers_normal.specs.Recomposition.{StarterWalk, composition, glyph_at, if_drawn, left_as_is, next_glyph, recomposed, taken_in, walk_over, without_place}
use Rattle.shapers_normal.specs.Sorting.{class_of, is_mark_glyph}
use Rattle.shapers_normal.proofs.Beside.{Not, each-merge, merge_alone}
use Rattle.shapers_normal.proofs.CharacterProperties.{class_of_other}
use Rattle.shapers_normal.proofs.SortingHalves.{glyph_in_part, twice_not}

-- the walk over a part of a text
abbrev in_text : Glyphs → Glyphs → StarterWalk → StarterWalk
in_text before behind w =
    record {
      starter = length before + w.starter;
      place = length before + w.place;
      glyphs = before
          ++ (w.glyphs ++ behind);
    }

-- so many glyphs are still to come
pub record Walking (P : ℕ → Type 0) (n : ℕ) (w : StarterWalk) : Type 0 where
  pub starter : w.starter < w.place
  pub left : w.place + n ≡ length w.glyphs
  pub clusters : Each P w.glyphs

each-at : (P : ℕ → Type 0) (i : ℕ) (gs : Glyphs) → i < length gs → Each P gs
    → P (get_or gs i default_glyph).cluster
each-at P i [] within p = absurd (omega arith)
each-at P zero (g ∷ gs) within p = p.0
each-at P (suc i) (g ∷ gs) within p = each-at P i gs (omega arith) p.1

each-set : (P : ℕ → Type 0) (i : ℕ) (g : Glyph) (gs : Glyphs) → P g.cluster → Each P gs
    → Each P (set gs i g)
each-set P i g [] new p = tt
each-set P zero g (h ∷ gs) new p = (new, p.1)
each-set P (suc i) g (h ∷ gs) new p = (p.0, each-set P i g gs new p.1)

-- ---- one glyph that is taken in

-- what is left of the glyphs, merged
abbrev pub left_over : BufferClusterLevel → StarterWalk → Glyphs
left_over level w = without_place w.place (merge level w.starter (w.place + 1) w.glyphs)

length-without : (i : ℕ) (gs : Glyphs) → i < length gs → length (without_place i gs) + 1 ≡ length gs
length-without i gs within =
    omega (
      arith,
      length-append (take i gs) (drop (i + 1) gs),
      length-take-le i gs (omega arith),
      length-drop (i + 1)
          gs,
    )

pub length-left : (level : BufferClusterLevel) (w : StarterWalk) → w.place < length w.glyphs
    → length (left_over level w) + 1 ≡ length w.glyphs
length-left level w within =
    let same : length (merge level w.starter (w.place + 1) w.glyphs) ≡ length w.glyphs =
    length-merge level w.starter (w.place + 1) w.glyphs (omega arith) in
    length-without w.place (merge level w.starter (w.place + 1) w.glyphs) (omega arith) ∙ same

pub each-left : (P : ℕ → Type 0) (level : BufferClusterLevel) (w : StarterWalk) → w.place < length w.glyphs
    → Each P w.glyphs → Each P (left_over level w)
each-left P level w within p =
    let ms = merge level w.starter (w.place + 1) w.glyphs in
    let q : Each P ms = each-merge P level w.starter (w.place + 1) w.glyphs (omega arith) p in
    each-append P (take w.place ms) (drop (w.place + 1) ms) (each-take P w.place ms q) (each-drop P (w.place + 1) ms q)

without_in_text : (i : ℕ) (before gs behind : Glyphs) → i < length gs
    → without_place (length before + i) (before ++ (gs ++ behind)) ≡ before ++ (without_place i gs ++ behind)
without_in_text i before gs behind within =
    let whole = before ++ (gs ++ behind) in
    let next : length before + i + 1 ≡ length before + (i + 1) = omega arith in
    ap (λ xs. xs ++ drop (length before + i + 1) whole) (take-append-add before (gs ++ behind) i
    ∙ ap (λ xs. before ++ xs) (take-append-le i gs behind (omega arith)))
    ∙ ap (λ n. (before ++ take i gs) ++ drop n whole) next
    ∙ ap (λ xs. (before ++ take i gs) ++ xs) (drop-append-add before (gs ++ behind) (i + 1)
    ∙ drop-append-le (i + 1) gs behind (omega arith))
    ∙ append_assoc before (take i gs) (drop (i + 1) gs ++ behind)
    ∙ ap (λ xs. before ++ xs) (sym (append_assoc (take i gs) (drop (i + 1) gs) behind))

left_in_text : (P : ℕ → Type 0) (level : BufferClusterLevel) (before behind : Glyphs) (w : StarterWalk)
    → w.place < length w.glyphs → Each P w.glyphs → Each (Not P) before → Each (Not P) behind
    → left_over level (in_text before behind w) ≡ before ++ (left_over level w ++ behind)
left_in_text P level before behind w within p x y =
    let a = length before in
    let next : a + w.place + 1 ≡ a + (w.place + 1) = omega arith in
    let same : length (merge level w.starter (w.place + 1) w.glyphs) ≡ length w.glyphs =
    length-merge level w.starter (w.place + 1) w.glyphs (omega arith) in
    ap (λ e. without_place (a + w.place) (merge level (a + w.starter) e (before ++ (w.glyphs ++ behind)))) next
    ∙ ap (without_place (a + w.place)) (merge_alone P level w.starter (w.place + 1) before w.glyphs behind (omega arith)
    p x y)
    ∙ without_in_text w.place before (merge level w.starter (w.place + 1) w.glyphs) behind (omega arith)

pub set_in_text : (i : ℕ) (g : Glyph) (before gs behind : Glyphs) → i < length gs
    → set (before ++ (gs ++ behind)) (length before + i) g ≡ before ++ (set gs i g ++ behind)
set_in_text i g before gs behind within =
    let back : length before + i - length before ≡ i = omega arith in
    set-append_right before (gs ++ behind) (length before) (length before + i) g refl (omega arith)
    ∙ ap (λ k. before ++ set (gs ++ behind) k g) back
    ∙ ap (λ xs. before ++ xs) (set-append_left gs behind i g within)

taken_in_text : (P : ℕ → Type 0) (context : Context) (level : BufferClusterLevel) (drawn : ℕ × GlyphId)
    (before behind : Glyphs) (w : StarterWalk) → w.starter < w.place → w.place < length w.glyphs
    → Each P w.glyphs → Each (Not P) before → Each (Not P) behind
    → taken_in context level drawn (in_text before behind w) ≡ in_text before behind (taken_in context level drawn w)
taken_in_text P context level drawn before behind w order within p x y =
    let a = length before in
    let st = w.starter in
    let left = left_over level w in
    let new = λ (g : Glyph). as_character context drawn.0 drawn.1.0 g in
    let inside : st < length left = omega (arith, length-left level w within) in
    let push_within = λ (xs : Glyphs). let v : StarterWalk =
    record { starter = a + st; place = a + w.place; glyphs = xs } in v in
    ap push_within
    (ap (λ xs. set xs (a + st) (new (get_or xs (a + st) default_glyph)))
    (left_in_text P level before behind w within p x y)
    ∙ ap (λ g. set (before ++ (left ++ behind)) (a + st) (new g)) (glyph_in_part before left behind st inside)
    ∙ set_in_text st (new (get_or left st default_glyph)) before left behind inside)

-- ---- one glyph

glyph_in_text : (before behind : Glyphs) (w : StarterWalk) (i : ℕ) → i < length w.glyphs
    → glyph_at (before ++ (w.glyphs ++ behind)) (length before + i) ≡ glyph_at w.glyphs i
glyph_in_text before behind w i within = glyph_in_part before w.glyphs behind i within

-- what a starter and a mark compose to, by the glyphs that decide it
abbrev composed_by : Context → Glyph → Glyph → Glyph → Bool → Option (ℕ × GlyphId)
composed_by context starter last mark next =
    cond (is_mark_glyph mark && (next || nat_lt (class_of last) (class_of mark)))
    (if_drawn context (context.composed starter.glyph_id mark.glyph_id)) None

composition_in_text : (context : Context) (before behind : Glyphs) (w : StarterWalk) → w.starter < w.place
    → w.place < length w.glyphs → composition context (in_text before behind w) ≡ composition context w
composition_in_text context before behind w order within =
    let a = length before in
    let whole = before ++ (w.glyphs ++ behind) in
    let st = w.starter in
    let pl = w.place in
    let here = glyph_in_text before behind w pl within in
    let first = glyph_in_text before behind w st (omega arith) in
    let previous : a + pl - 1 ≡ a + (pl - 1) = omega arith in
    let last = glyph_in_text before behind w (pl - 1) (omega arith) in
    let next : eqb (a + st + 1) (a + pl) ≡ eqb (st + 1) pl = grind (arith, nat_tests) in
    ap (λ b. composed_by context (glyph_at whole (a + st)) (glyph_at whole (a + pl - 1)) (glyph_at whole (a + pl)) b)
    next
    ∙ ap (λ k. composed_by context (glyph_at whole (a + st)) (glyph_at whole k) (glyph_at whole (a + pl))
    (eqb (st + 1) pl)) previous
    ∙ ap (λ g. composed_by context (glyph_at whole (a + st)) g (glyph_at whole (a + pl)) (eqb (st + 1) pl)) last
    ∙ ap (λ g. composed_by context (glyph_at whole (a + st)) (glyph_at w.glyphs (pl - 1)) g (eqb (st + 1) pl)) here
    ∙ ap (λ g. composed_by context g (glyph_at w.glyphs (pl - 1)) (glyph_at w.glyphs pl) (eqb (st + 1) pl)) first

left_as_is_in_text : (before behind : Glyphs) (w : StarterWalk) → w.place < length w.glyphs
    → left_as_is (in_text before behind w) ≡ in_text before behind (left_as_is w)
left_as_is_in_text before behind w within =
    let a = length before in
    let next : a + w.place + 1 ≡ a + (w.place + 1) = omega arith in
    let push_within = λ (s p : ℕ). let v : StarterWalk =
    record { starter = s; place = p; glyphs = before ++ (w.glyphs ++ behind) } in v in
    ap (λ g. push_within (cond (eqb (class_of g) 0) (a + w.place) (a + w.starter)) (a + w.place + 1))
    (glyph_in_text before behind w w.place within)
    ∙ ap (push_within (cond (eqb (class_of (glyph_at w.glyphs w.place)) 0) (a + w.place) (a + w.starter))) next
    ∙ ap (λ s. push_within s (a + (w.place + 1)))
    (elim (eqb (class_of (glyph_at w.glyphs w.place)) 0) as (λ b. cond b (a + w.place) (a + w.starter)
    ≡ a + cond b w.place w.starter) [ true ↦ refl | false ↦ refl ])

next_by : (P : ℕ → Type 0) (context : Context) (level : BufferClusterLevel) (before behind : Glyphs)
    (w : StarterWalk) (o : Option (ℕ × GlyphId)) → w.starter < w.place → w.place < length w.glyphs → Each P w.glyphs
    → Each (Not P) before → Each (Not P) behind →
    option_map_or (λ drawn. taken_in context level drawn (in_text before behind w)) o
    (left_as_is (in_text before behind w))
    ≡ in_text before behind (option_map_or (λ drawn. taken_in context level drawn w) o (left_as_is w))
next_by P context level before behind w None order within p x y = left_as_is_in_text before behind w within
next_by P context level before behind w (Some drawn) order within p x y =
    taken_in_text P context level drawn before behind w order within p x y

next_in_text : (P : ℕ → Type 0) (context : Context) (level : BufferClusterLevel) (before behind : Glyphs)
    (w : StarterWalk) → w.starter < w.place → w.place < length w.glyphs → Each P w.glyphs → Each (Not P) before
    → Each (Not P) behind → next_glyph context level (in_text before behind w)
    ≡ in_text before behind (next_glyph context level w)
next_in_text P context level before behind w order within p x y =
    ap (λ o. option_map_or (λ drawn. taken_in context level drawn (in_text before behind w)) o
    (left_as_is (in_text before behind w))) (composition_in_text context before behind w order within)
    ∙ next_by P context level before behind w (composition context w) order within p x y

-- ---- all glyphs of a part

pub walking_by : (P : ℕ → Type 0) (context : Context) (level : BufferClusterLevel) (n : ℕ) (w : StarterWalk)
    (o : Option (ℕ × GlyphId)) → Walking P (suc n) w
    → Walking P n (option_map_or (λ drawn. taken_in context level drawn w) o (left_as_is w))
walking_by P context level n w None i = record {
  starter = elim (eqb (class_of (glyph_at w.glyphs w.place)) 0) as (λ b. cond b w.place w.starter < w.place + 1)
      [ true ↦ omega arith | false ↦ omega (arith, i.starter) ];
  left = omega (arith, i.left);
  clusters = i.clusters;
}
walking_by P context level n w (Some drawn) i =
    let within : w.place < length w.glyphs = omega (arith, i.left) in
    let left = left_over level w in
    let starter = get_or left w.starter default_glyph in
    let p : Each P left = each-left P level w within i.clusters in
    record {
      starter = i.starter;
      left = omega (
        arith,
        i.left,
        length-left level w within,
        length-set left w.starter
            (as_character context drawn.0 drawn.1.0 starter),
      );
      clusters = each-set P w.starter (as_character context drawn.0 drawn.1.0 starter) left
          (each-at P w.starter left (omega (arith, i.starter, length-left level w within)) p) p;
    }

walking_end : (P : ℕ → Type 0) (context : Context) (level : BufferClusterLevel) (n : ℕ) (w : StarterWalk)
    → Walking P n w → Walking P 0 (walk_over context level n w)
walking_end P context level zero w i = i
walking_end P context level (suc n) w i =
    walking_end P context level n (next_glyph context level w)
    (walking_by P context level n w (composition context w) i)

walk_in_text : (P : ℕ → Type 0) (context : Context) (level : BufferClusterLevel) (before behind : Glyphs)
    (n : ℕ) (w : StarterWalk) → Walking P n w → Each (Not P) before → Each (Not P) behind
    → walk_over context level n (in_text before behind w) ≡ in_text before behind (walk_over context level n w)
walk_in_text P context level before behind zero w i x y = refl
walk_in_text P context level before behind (suc n) w i x y =
    ap (walk_over context level n) (next_in_text P context level before behind w i.starter (omega (arith, i.left))
    i.clusters x y)
    ∙ walk_in_text P context level before behind n (next_glyph context level w)
    (walking_by P context level n w (composition context w) i) x y

walk_on : (context : Context) (level : BufferClusterLevel) (m n : ℕ) (w : StarterWalk)
    → walk_over context level (m + n) w ≡ walk_over context level n (walk_over context level m w)
walk_on context level zero n w = let none : 0 + n ≡ n = omega arith in ap (λ k. walk_over context level k w) none
walk_on context level (suc m) n w =
    let one : suc m + n ≡ suc (m + n) = omega arith in
    ap (λ k. walk_over context level k w) one ∙ walk_on context level m n (next_glyph context level w)

abbrev pub walk_start : Glyphs → StarterWalk
walk_start gs = record { starter = 0; place = 1; glyphs = gs }

pub walking_start : (P : ℕ → Type 0) (g : Glyph) (gs : Glyphs) → Each P (g ∷ gs)
    → Walking P (length gs) (walk_start (g ∷ gs))
walking_start P g gs p = record { starter = omega arith; left = omega arith; clusters = p }

-- a letter is the next starter
letter_next : (context : Context) (level : BufferClusterLevel) (s : ℕ) (done : Glyphs)
    (g : Glyph) (behind : Glyphs) → is_mark_glyph g ≡ false →
    next_glyph context level
    (let w : StarterWalk = record { starter = s; place = length done; glyphs = done ++ g ∷ behind } in w)
    ≡ in_text done [] (walk_start (g ∷ behind))
letter_next context level s done g behind letter =
    let w : StarterWalk = record { starter = s; place = length done; glyphs = done ++ g ∷ behind } in
    let none : length done + 0 ≡ length done = omega arith in
    let here : glyph_at (done ++ g ∷ behind) (length done) ≡ g =
    sym (ap (λ k. get_or (done ++ g ∷ behind) k default_glyph) none)
    ∙ get_or-append-add done (g ∷ behind) 0 default_glyph in
    let first = glyph_at w.glyphs s in
    let last = glyph_at w.glyphs (length done - 1) in
    let next = eqb (s + 1) (length done) in
    let push_within = λ (a : ℕ) (xs : Glyphs). let v : StarterWalk =
    record { starter = a; place = length done + 1; glyphs = done ++ xs } in v in
    ap (λ o. option_map_or (λ drawn. taken_in context level drawn w) o (left_as_is w))
    (ap (λ h. composed_by context first last h next) here
    ∙ ap (λ b. cond (b && (next || nat_lt (class_of last) (class_of g)))
    (if_drawn context (context.composed first.glyph_id g.glyph_id)) None) letter)
    ∙ ap (λ h. push_within (cond (eqb (class_of h) 0) (length done) s) (g ∷ behind)) here
    ∙ ap (λ n. push_within (cond (eqb n 0) (length done) s) (g ∷ behind)) (class_of_other g letter)
    ∙ ap (λ a. push_within a (g ∷ behind)) (sym none)
    ∙ ap (push_within (length done + 0)) (sym (append-nil (g ∷ behind)))

-- a text cut before a glyph that is no mark: its halves recomposed are the whole recomposed
pub recomposed_halves : (P : ℕ → Type 0) (context : Context) (level : BufferClusterLevel) (front : Glyphs)
    (g : Glyph) (behind : Glyphs) → Each P front → Each (Not P) (g ∷ behind)
    → is_mark_glyph g ≡ false → recomposed context level (front ++ g ∷ behind) ≡ recomposed context level front
    ++ recomposed context level (g ∷ behind)
recomposed_halves P context level [] g behind p n letter = refl
recomposed_halves P context level (f ∷ front) g behind p n letter =
    let whole = f ∷ (front ++ g ∷ behind) in
    let start = walking_start P f front p in
    let end = walk_over context level (length front) (walk_start (f ∷ front)) in
    let done = end.glyphs in
    let stop = walking_end P context level (length front) (walk_start (f ∷ front)) start in
    let steps : length whole - 1 ≡ length front + suc (length behind) =
    omega (arith, length-append front (g ∷ behind)) in
    let all : length (f ∷ front) - 1 ≡ length front = omega arith in
    let rest : length (g ∷ behind) - 1 ≡ length behind = omega arith in
    let place : 0 + end.place ≡ length done = omega (arith, stop.left) in
    let at = λ (k : ℕ). let v : StarterWalk =
    record { starter = 0 + end.starter; place = k; glyphs = done ++ g ∷ behind } in v in
    let glyphs = λ (w : StarterWalk). w.glyphs in
    ap (λ k. glyphs (walk_over context level k (walk_start whole))) steps
    ∙ ap glyphs (walk_on context level (length front) (suc (length behind)) (walk_start whole))
    ∙ ap (λ w. glyphs (walk_over context level (suc (length behind)) w)) (walk_in_text P context level
    [] (g ∷ behind) (length front) (walk_start (f ∷ front)) start tt n)
    ∙ ap (λ k. glyphs (walk_over context level (suc (length behind)) (at k))) place
    ∙ ap (λ w. glyphs (walk_over context level (length behind) w))
    (letter_next context level (0 + end.starter) done g behind letter)
    ∙ ap glyphs (walk_in_text (Not P) context level done
    [] (length behind) (walk_start (g ∷ behind)) (walking_start (Not P) g behind n) (twice_not P done stop.clusters)
    tt)
    ∙ ap (λ xs. done ++ xs) (append-nil (walk_over context level (length behind) (walk_start (g ∷ behind))).glyphs)
    ∙ ap (λ k. glyphs (walk_over context level k (walk_start (f ∷ front)))
    ++ glyphs (walk_over context level (length behind) (walk_start (g ∷ behind)))) (sym all)
    ∙ ap (λ k. recomposed context level (f ∷ front) ++ glyphs (walk_over context level k (walk_start (g ∷ behind))))
    (sym rest)

-- what holds of each cluster still does
pub each-recomposed : (P : ℕ → Type 0) (context : Context) (level : BufferClusterLevel) (gs : Glyphs)
    → Each P gs → Each P (recomposed context level gs)
each-recomposed P context level [] p = tt
each-recomposed P context level (g ∷ gs) p =
    let all : length (g ∷ gs) - 1 ≡ length gs = omega arith in
    subst (λ n. Each P (walk_over context level n (walk_start (g ∷ gs))).glyphs) (sym all)
    (walking_end P context level (length gs) (walk_start (g ∷ gs)) (walking_start P g gs p)).clusters
