-- A text in the form that the font and the shaper want stays.
use Rattle.std.proofs.Common.{◌≡◌, ◌≢◌, ◌+◌, ◌-◌, ◌<◌, ◌≤◌, ◌||◌, ◌&&◌, inl, inr, ℕ, zero, suc, Bool, true, false, cond, eqb, nat_le, nat_lt, List, [], ◌∷◌, length, map, get_or, slice_index, Option, None, refl, sym, ap, ap₂, ◌∙◌, subst, arith, eqb-true}
use Rattle.std.specs.List.{AllByRecursion, fold, range_with_len}
use Rattle.std.specs.Option.{option_map_or}
use Rattle.std.proofs.lemmas.Bool.{and_parts}
use Rattle.std.proofs.lemmas.Bool.Decides.{nat_tests}
use Rattle.std.proofs.lemmas.List.{get_or-map, length-map}
use Rattle.std.proofs.lemmas.List.Sums.{suffix_len_is}
use Rattle.shapers_buffer.specs.Glyphs.{Glyph, Glyphs}
use Rattle.shapers_buffer.specs.declared.buffer.level.BufferClusterLevel.{BufferClusterLevel}
use Rattle.shapers_buffer.specs.Clusters.{stretch_of}
use Rattle.shapers_buffer.specs.Glyph.{characters, default_glyph}
use Rattle.shapers_buffer.proofs.ClusterLemmas.{get_or-stretch, length-stretch}
use Rattle.shapers_buffer.proofs.MappedLists.{all-range, map-hidden}
use Rattle.shapers_normal.specs.Context.{Context}
use Rattle.shapers_normal.specs.Decomposition.{with_own_glyph}
use Rattle.shapers_normal.specs.Normalization.{composes, has_rounds, joiners_shown, later_rounds}
use Rattle.shapers_normal.specs.Recomposition.{StarterWalk, composition, glyph_at, if_drawn, is_free, left_as_is, recomposed, taken_in, walk_over}
use Rattle.shapers_normal.specs.Sorting.{brought_before, class_of, classes, is_mark_glyph, mark_sequences, marks_ordered, passed_marks, sequence_ordered, sequence_sorted, sorted_in}
use Rattle.shapers_normal.proofs.SortingHalves.{runs_within}
use Rattle.shapers_normal.proofs.StayingTexts.{staying_round}
use Rattle.shapers_equivalence_laws.specs.Laws.{in_canonical_order}
use Rattle.shapers_equivalence_laws.specs.Staying.{LeavesMarks, NothingComposes, TextsInFormStay}
use Rattle.shapers_equivalence_laws.proofs.FirstRound.{own_same}
use Rattle.shapers_equivalence_laws.proofs.Proved.{joiners_alike}
use Rattle.shapers_equivalence_laws.proofs.ThirdRound.{follows_by}

fold_stays : {B X : Type 0} (f : B → X → B) (b : B) (Q : X → Type 0) → ((x : X) → Q x → f b x ≡ b) → (xs : List X)
    → AllByRecursion Q xs → fold f b xs ≡ b
fold_stays f b Q stays [] all = refl
fold_stays f b Q stays (x ∷ xs) all = ap (λ c. fold f c xs) (stays x all.0) ∙ fold_stays f b Q stays xs all.1

-- ---- marks in order

ordered_at : (cs : List ℕ) (i : ℕ) → in_canonical_order cs ≡ true → suc i < length cs → get_or cs (suc i) 0 ≢ 0
    → get_or cs i 0 ≤ get_or cs (suc i) 0
ordered_at [] i e inside mark = absurd (omega arith)
ordered_at (c ∷ []) i e inside mark = absurd (omega arith)
ordered_at (c ∷ (d ∷ ds)) zero e inside mark =
    let parts = and_parts (eqb d 0 || nat_le c d) (in_canonical_order (d ∷ ds)) e in
    elim (follows_by c d (eqb d 0) refl parts.0) [ inl none ↦ absurd (mark none) | inr most ↦ most ]
ordered_at (c ∷ (d ∷ ds)) (suc i) e inside mark =
    let parts = and_parts (eqb d 0 || nat_le c d) (in_canonical_order (d ∷ ds)) e in
    ordered_at (d ∷ ds) i parts.1 (omega arith) mark

-- the glyphs of a sequence are marks
abbrev Marked : (ℕ → ℕ) → ℕ × ℕ → Type 0
Marked f run = (k : ℕ) → run.0 ≤ k → k < run.1 → f k ≢ 0

marked_by : (f : ℕ → ℕ) (s i k c : ℕ) → Marked f (s, i) → f i ≡ c → c ≢ 0 → s ≤ k → (b : Bool) → eqb k i ≡ b
    → k < i + 1 → f k ≢ 0
marked_by f s i k c marked is some low true e high = λ none. some (sym is ∙ ap f (sym (eqb-true k i e)) ∙ none)
marked_by f s i k c marked is some low false e high = marked k low (grind (arith, nat_tests))

runs_by : (f : ℕ → ℕ) (s i c : ℕ) (cs : List ℕ) (b : Bool) → eqb c 0 ≡ b → f i ≡ c → Marked f (s, i)
    → (Marked f (s, i + 1) → AllByRecursion (Marked f) (mark_sequences s (i + 1) cs))
    → AllByRecursion (Marked f) (mark_sequences (i + 1) (i + 1) cs)
    → AllByRecursion (Marked f) (cond b ((s, i) ∷ mark_sequences (i + 1) (i + 1) cs) (mark_sequences s (i + 1) cs))
runs_by f s i c cs true e is marked further next = (marked, next)
runs_by f s i c cs false e is marked further next =
    let some : c ≢ 0 = grind (arith, nat_tests) in
    further (λ k low high. marked_by f s i k c marked is some low (eqb k i) refl high)

runs_marked : (f : ℕ → ℕ) (s i : ℕ) (cs : List ℕ) → ((k : ℕ) → k < length cs → get_or cs k 0 ≡ f (i + k))
    → Marked f (s, i) → AllByRecursion (Marked f) (mark_sequences s i cs)
runs_marked f s i [] same marked = (marked, tt)
runs_marked f s i (c ∷ cs) same marked =
    let here : f i ≡ c = (let at : i ≡ i + 0 = omega arith in ap f at) ∙ sym (same 0 (omega arith)) in
    let rest = λ (k : ℕ) (inside : k < length cs).
    (let at : i + suc k ≡ i + 1 + k = omega arith in same (suc k) (omega arith) ∙ ap f at) in
    runs_by f s i c cs (eqb c 0) refl here marked (λ more. runs_marked f s (i + 1) cs rest more)
    (runs_marked f (i + 1) (i + 1) cs rest (λ k low high. absurd (omega arith)))

passes_none : (s i : ℕ) (gs : Glyphs) → s < i → i < length gs
    → slice_index (classes gs) (i - 1) ≤ slice_index (classes gs) i → passed_marks s i gs ≡ 0
passes_none s i gs some inside least =
    let own = slice_index (classes gs) i in
    let test = λ (g : Glyph). nat_lt own (class_of g) in
    let marks = stretch_of s i gs in
    let n = length marks in
    let long : n ≡ i - s = length-stretch s i gs (omega arith) in
    let place : s + (n - 1) ≡ i - 1 = omega arith in
    let last : get_or marks (n - 1) default_glyph ≡ get_or gs (i - 1) default_glyph = get_or-stretch s i
    (n - 1) default_glyph gs (omega arith) ∙ ap (λ k. get_or gs k default_glyph) place in
    let class : slice_index (classes gs) (i - 1) ≡ class_of (get_or gs (i - 1) default_glyph) = get_or-map class_of gs
    (i - 1) default_glyph 0 (omega arith) in
    let lower : class_of (get_or marks (n - 1) default_glyph) ≤ own = subst (λ c. c ≤ own)
    (class ∙ ap class_of (sym last)) least in
    let fails : nat_lt own (class_of (get_or marks (n - 1) default_glyph)) ≡ false = grind (arith, nat_tests) in
    suffix_len_is test marks n default_glyph (omega arith) (λ k low high. absurd (omega arith)) (λ more. fails)
    ∙ omega arith

sorted_stays : (level : BufferClusterLevel) (s i : ℕ) (gs : Glyphs) → passed_marks s i gs ≡ 0
    → sorted_in level s i gs ≡ gs
sorted_stays level s i gs none = ap (λ many. cond (eqb many 0) gs
    (brought_before level (passed_marks s i gs) i gs)) none

run_stays : (level : BufferClusterLevel) (s e : ℕ) (gs : Glyphs) → in_canonical_order (classes gs) ≡ true
    → Marked (slice_index (classes gs)) (s, e) → e ≤ length gs → sequence_sorted level s e gs ≡ gs
run_stays level s e gs ordered marked inside =
    fold_stays (λ gs i. sorted_in level s i gs) gs (λ i. (s < i) × (i < e))
    (λ i q.
    let low = q.0 in
    let high = q.1 in
    let next : suc (i - 1) ≡ i = omega arith in
    let mark : slice_index (classes gs) (suc (i - 1)) ≢ 0 = λ none. marked i (omega arith) high
    (ap (slice_index (classes gs)) (sym next) ∙ none) in
    let least : slice_index (classes gs) (i - 1) ≤ slice_index (classes gs) i = subst
    (λ k. slice_index (classes gs) (i - 1) ≤ slice_index (classes gs) k) next
    (ordered_at (classes gs) (i - 1) ordered (omega (arith, length-map gs class_of)) mark) in
    sorted_stays level s i gs (passes_none s i gs low (omega arith) least))
    (range_with_len (s + 1) (e - (s + 1)))
    (all-range (λ i. (s < i) × (i < e)) (s + 1) (e - (s + 1)) (λ i low high. (omega arith, omega arith)))

reordered_by : (context : Context) → LeavesMarks context
    → (level : BufferClusterLevel) (s e : ℕ) (gs : Glyphs) (b : Bool) → (nat_lt s e && nat_le (e - s) 32) ≡ b
    → e ≤ length gs → sequence_sorted level s e gs ≡ gs
    → cond b (context.reordered level s e (sequence_sorted level s e gs)) gs ≡ gs
reordered_by context leaves level s e gs true test inside same =
    let some : s < e = grind (arith, nat_tests) in
    ap (context.reordered level s e) same ∙ leaves level s e gs some inside
reordered_by context leaves level s e gs false test inside same = refl

both_of : (P Q : ℕ × ℕ → Type 0) (xs : List (ℕ × ℕ)) → AllByRecursion P xs → AllByRecursion Q xs
    → AllByRecursion (λ x. P x × Q x) xs
both_of P Q [] p q = tt
both_of P Q (x ∷ xs) p q = ((p.0, q.0), both_of P Q xs p.1 q.1)

marks_stay : (context : Context) → LeavesMarks context → (level : BufferClusterLevel) (gs : Glyphs)
    → in_canonical_order (classes gs) ≡ true → marks_ordered context level gs ≡ gs
marks_stay context leaves level gs ordered =
    let f = slice_index (classes gs) in
    let Inside : ℕ × ℕ → Type 0 = λ run. run.1 ≤ length gs in
    let marked = runs_marked f 0 0 (classes gs) (λ k inside. let at : k ≡ 0 + k = omega arith in ap f at)
    (λ k low high. absurd (omega arith)) in
    let within = runs_within 0 0 (length gs) (classes gs) (omega (arith, length-map gs class_of)) in
    fold_stays (λ gs run. sequence_ordered context level run gs) gs (λ run. Marked f run × (run.1 ≤ length gs))
    (λ run q. reordered_by context leaves level run.0 run.1 gs
    (nat_lt run.0 run.1 && nat_le (run.1 - run.0) 32) refl q.1 (run_stays level run.0 run.1 gs ordered q.0 q.1))
    (mark_sequences 0 0 (classes gs)) (both_of (Marked f) Inside (mark_sequences 0 0 (classes gs)) marked within)

-- ---- nothing composes

none_by : (context : Context) (b : Bool) (o : Option ℕ) → if_drawn context o ≡ None
    → cond b (if_drawn context o) None ≡ None
none_by context true o none = none
none_by context false o none = refl

-- the walk's text, and marks between the starter and its place
record Walks (context : Context) (gs : Glyphs) (n : ℕ) (w : StarterWalk) : Type 0 where
  same : w.glyphs ≡ gs
  order : w.starter < w.place
  left : w.place + n ≡ length gs
  between : (k : ℕ) → w.starter < k → k < w.place → slice_index (classes gs) k ≢ 0

character_at : (gs : Glyphs) (i : ℕ) → i < length gs → slice_index (characters gs) i ≡ (glyph_at gs i).glyph_id
character_at gs i inside = get_or-map (λ (g : Glyph). g.glyph_id) gs i default_glyph 0 inside

class_at : (gs : Glyphs) (i : ℕ) → i < length gs → slice_index (classes gs) i ≡ class_of (glyph_at gs i)
class_at gs i inside = get_or-map class_of gs i default_glyph 0 inside

composes_none : (context : Context) (gs : Glyphs) (n : ℕ) (w : StarterWalk)
    → NothingComposes context (characters gs) (classes gs) → Walks context gs (suc n) w → composition context w ≡ None
composes_none context gs n w nothing i =
    let inside : w.place < length gs = omega (arith, i.left) in
    let before : w.starter < length gs = omega (arith, i.left, i.order) in
    let mark = glyph_at w.glyphs w.place in
    let one : slice_index (characters gs) w.starter ≡
    (glyph_at w.glyphs w.starter).glyph_id = character_at gs w.starter before ∙ ap
    (λ xs. (glyph_at xs w.starter).glyph_id) (sym i.same) in
    let two : slice_index (characters gs) w.place ≡ mark.glyph_id = character_at gs w.place inside ∙ ap
    (λ xs. (glyph_at xs w.place).glyph_id) (sym i.same) in
    let none : if_drawn context (context.composed (glyph_at w.glyphs w.starter).glyph_id mark.glyph_id) ≡ None =
    ap₂ (λ a b. if_drawn context (context.composed a b)) (sym one) (sym two)
    ∙ nothing w.starter w.place i.order (omega
    (arith, length-map gs (λ (g : Glyph). g.glyph_id), inside)) i.between in
    none_by context (is_mark_glyph mark && is_free w)
    (context.composed (glyph_at w.glyphs w.starter).glyph_id mark.glyph_id) none

between_by : (gs : Glyphs) (s p k : ℕ) (b : Bool) → eqb k p ≡ b
    → ((k : ℕ) → s < k → k < p → slice_index (classes gs) k ≢ 0) → slice_index (classes gs) p ≢ 0 → s < k → k < p + 1
    → slice_index (classes gs) k ≢ 0
between_by gs s p k true e between mark low high = λ none. mark
    (ap (slice_index (classes gs)) (sym (eqb-true k p e)) ∙ none)
between_by gs s p k false e between mark low high = between k low (grind (arith, nat_tests))

left_by : (context : Context) (gs : Glyphs) (n : ℕ) (w : StarterWalk) (b : Bool)
    → eqb (class_of (glyph_at w.glyphs w.place)) 0 ≡ b → Walks context gs (suc n) w
    → Walks context gs n (record w { starter = cond b w.place w.starter; place = w.place + 1 })
left_by context gs n w true e i = record {
  same = i.same;
  order = omega arith;
  left = omega (arith, i.left);
  between = λ k low high. absurd (omega arith);
}
left_by context gs n w false e i =
    let inside : w.place < length gs = omega (arith, i.left) in
    let some : class_of (glyph_at w.glyphs w.place) ≢ 0 = grind (arith, nat_tests) in
    let here : slice_index (classes gs) w.place ≡ class_of (glyph_at w.glyphs w.place) = class_at gs w.place inside
    ∙ ap (λ xs. class_of (glyph_at xs w.place)) (sym i.same) in
    record {
      same = i.same;
      order = omega (arith, i.order);
      left = omega (arith, i.left);
      between = λ k low high. between_by gs w.starter w.place k (eqb k w.place) refl i.between
          (λ none. some (sym here ∙ none)) low high;
    }

walk_stays : (context : Context) (level : BufferClusterLevel) (gs : Glyphs) (n : ℕ) (w : StarterWalk)
    → NothingComposes context (characters gs) (classes gs) → Walks context gs n w
    → (walk_over context level n w).glyphs ≡ gs
walk_stays context level gs zero w nothing i = i.same
walk_stays context level gs (suc n) w nothing i =
    ap (λ o. (walk_over context level n (option_map_or (λ drawn. taken_in context level drawn w) o
    (left_as_is w))).glyphs) (composes_none context gs n w nothing i)
    ∙ walk_stays context level gs n (left_as_is w) nothing
    (left_by context gs n w (eqb (class_of (glyph_at w.glyphs w.place)) 0) refl i)

recomposed_stays : (context : Context) (level : BufferClusterLevel) (gs : Glyphs)
    → NothingComposes context (characters gs) (classes gs) → recomposed context level gs ≡ gs
recomposed_stays context level [] nothing = refl
recomposed_stays context level (g ∷ gs) nothing =
    let start : StarterWalk = record { starter = 0; place = 1; glyphs = g ∷ gs } in
    walk_stays context level (g ∷ gs) (length (g ∷ gs) - 1) start nothing
    (record { same = refl; order = omega arith; left = omega arith; between = λ k low high. absurd (omega arith) })

-- ---- all rounds

composed_stays : (context : Context) (level : BufferClusterLevel) (gs : Glyphs) (composing : Bool)
    → (composing ≡ true → NothingComposes context (characters gs) (classes gs))
    → cond composing (recomposed context level (joiners_shown gs)) (joiners_shown gs) ≡ joiners_shown gs
composed_stays context level gs true nothing =
    let a = joiners_alike context gs in
    recomposed_stays context level (joiners_shown gs)
    (subst (λ cs. NothingComposes context cs (classes (joiners_shown gs))) (sym a.same)
    (subst (λ ks. NothingComposes context (characters gs) ks) (sym a.class) (nothing refl)))
composed_stays context level gs false nothing = refl

later_stays : (context : Context) → LeavesMarks context → (level : BufferClusterLevel) (gs : Glyphs) (runs : Bool)
    → in_canonical_order (classes gs) ≡ true
    → (composes context.mode ≡ true → NothingComposes context (characters gs) (classes gs))
    → later_rounds context runs level gs ≡ joiners_shown gs
later_stays context leaves level gs true ordered nothing =
    ap (λ xs. cond (composes context.mode) (recomposed context level (joiners_shown xs)) (joiners_shown xs))
    (marks_stay context leaves level gs ordered)
    ∙ composed_stays context level gs (composes context.mode) nothing
later_stays context leaves level gs false ordered nothing = refl

pub texts_stay : TextsInFormStay
texts_stay context rounds level gs leaves stays ordered nothing =
    let new = map (with_own_glyph context) gs in
    let same : characters new ≡ characters gs = map-hidden (λ (g : Glyph). g.glyph_id)
    (with_own_glyph context) (λ g. (own_same context g).character) gs in
    let class : classes new ≡ classes gs = map-hidden class_of (with_own_glyph context)
    (λ g. (own_same context g).class) gs in
    ap (later_rounds context (has_rounds rounds gs) level) (sym (staying_round context level gs stays))
    ∙ later_stays context leaves level new (has_rounds rounds gs) (ap in_canonical_order class ∙ ordered)
    (λ composing. subst (λ cs. NothingComposes context cs (classes new)) (sym same)
    (subst (λ ks. NothingComposes context (characters gs) ks) (sym class) (nothing composing)))
