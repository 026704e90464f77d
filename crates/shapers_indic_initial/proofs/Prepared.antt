-- The positions of a syllable, and the glyphs that move on the way, part by part.
use Rattle.std.proofs.Common.{ℕ, suc, ◌+◌, ◌-◌, ◌<◌, ◌≤◌, ◌≡◌, Bool, true, false, if◌then◌else◌, List, [], ◌∷◌, ◌++◌, length, Option, refl, sym, ◌∙◌, ap, subst, arith}
use Rattle.std.specs.Prelude.{swap}
use Rattle.std.specs.List.{range_with_len}
use Rattle.std.proofs.lemmas.List.{length-map}
use Rattle.shapers_buffer.specs.Glyphs.{Glyphs}
use Rattle.shapers_buffer.specs.declared.buffer.placement.Placement.{Placement}
use Rattle.shapers_buffer.specs.declared.buffer.tag.Script.{Script}
use Rattle.shapers_buffer.specs.Buffer.{Buffer, but_places}
use Rattle.shapers_buffer.specs.Clusters.{merge, merge_all, stretch_of, with_stretch}
use Rattle.shapers_buffer.specs.Glyph.{order_view, plain}
use Rattle.shapers_buffer.specs.Places.{pick}
use Rattle.shapers_buffer.proofs.ClusterLemmas.{three_parts, length-stretch, map-stretch}
use Rattle.shapers_clusters.specs.Steps.{FitsStep, Step, shifted, still_step, swap_step}
use Rattle.shapers_clusters.proofs.Merging.{length-merge}
use Rattle.shapers_clusters.proofs.Picks.{length-pick, pick-all}
use Rattle.shapers_indic.specs.Glyphs.{places}
use Rattle.shapers_indic_initial.specs.InitialBase.{base_place, has_indic_reph, joiner_comes_first}
use Rattle.shapers_indic_initial.specs.InitialPositions.{by_base, halant_after, halant_from, halant_places, moved_behind, with_marks_attached}
use Rattle.shapers_indic_initial.specs.InitialReordering.{halant_step, halant_steps, joiner_step, joiner_steps, first_steps, positioned, with_all_positions, with_base_positions, with_halant_moved, with_joiner_first, with_marks_and_owners}
use Rattle.shapers_indic_initial.specs.InitialRules.{Rules}
use Rattle.shapers_indic_initial.specs.MovedWalk.{PositionsSet, moved_buffer, moved_first_by}
use Rattle.shapers_indic_initial.proofs.InitialReads.{plain_view, base_stays, joiner_first_stays}
use Rattle.shapers_indic_initial.specs.Proved.InitialSteps.{halant_fits, joiner_fits, joiner_long}
use Rattle.shapers_indic_initial.specs.Proved.InitialViews.{hidden-by_base, hidden-with_marks_attached, hidden-with_owners_after}
use Rattle.shapers_indic_initial.proofs.InitialWrites.{halant_places_stay, with_base_stays, with_marks_stays, with_owners_after_stays}
use Rattle.shapers_indic_initial.proofs.Moves.{moved_within, pick-moved, stepped}
use Rattle.shapers_indic_initial.specs.Proved.OrderedPlaces.{places_all}
use Rattle.shapers_indic_initial.specs.Proved.InitialLaws.{length-with_base}
use Rattle.shapers_syllabic.specs.Reordering.{SyllableReordered}
use Rattle.shapers_syllabic.proofs.SyllableThen.{syllable_as, syllable_changed, syllable_then}

-- a syllable in the order view, and how long it is

pub seen_long : (s e : ℕ) (gs : Glyphs) → s ≤ e → e ≤ length gs → length (stretch_of s e (order_view gs)) ≡ e - s
seen_long = search (length-stretch, length-map)

-- a stretch picked in its own order stays
picked_still : (s e n : ℕ) (gs : Glyphs) → s ≤ e → e ≤ length gs → n ≡ e - s
    → gs ≡ with_stretch s e (pick (range_with_len 0 n)) gs
picked_still s e n gs h l k = cc (three_parts s e gs h, pick-all n _ (length-stretch s e gs l ∙ sym k))

-- a stretch picked by a move
picked_moved : (s e n h j : ℕ) (gs : Glyphs) → s ≤ e → e ≤ length gs → n ≡ e - s → h ≤ j → j < n
    → moved_behind (s + h) (s + j) gs ≡ with_stretch s e (pick (moved_behind h j (range_with_len 0 n))) gs
picked_moved s e n h j gs l r k a b = cc (
  moved_within s e h j gs l r a (omega arith),
  pick-moved h j n (stretch_of s e gs) (length-stretch s e gs r ∙ sym k) a b,
)

-- a swap of the second and the third is a move
swap_moved : (n : ℕ) → 2 < n → swap (range_with_len 0 n) 1 2 ≡ moved_behind 1 2 (range_with_len 0 n)
swap_moved (suc (suc (suc n))) l = refl
swap_moved _ l = absurd (omega arith)

-- the step of Kannada
pub joiner_moves : (script : Option Script) (s e : ℕ) (old mid new : Buffer) → s ≤ e → e ≤ length old.glyphs
    → joiner_comes_first script (stretch_of s e old.glyphs) ≡ true
    → mid ≡ (let r : Buffer = record old { glyphs = merge old.level (s + 1) (s + 3) old.glyphs } in r)
    → but_places new ≡ record (but_places mid) { glyphs = new.glyphs }
    → new.glyphs ≡ moved_behind (s + 1) (s + 3 - 1) mid.glyphs
    → SyllableReordered (with_joiner_first script) (joiner_steps script) s e old new
joiner_moves script s e old mid new h l first is kept moved =
    let gs = old.glyphs in
    let X = stretch_of s e (order_view gs) in
    let n = length X in
    let long = seen_long s e gs h l in
    let on : joiner_comes_first script X ≡ true =
    cc (map-stretch plain s e gs, joiner_first_stays plain_view script (stretch_of s e gs)) in
    let step = joiner_step script X in
    let swaps : step ≡ swap_step n 1 = ap (λ b. if b then swap_step n 1 else still_step n) on in
    let two = joiner_long script X on in
    let ms = merge old.level (s + 1) (s + 3) gs in
    let firsts = ap (λ t. merge_all old.level (shifted s t.merged_first) gs) swaps in
    let same = length-merge old.level (s + 1) (s + 3) gs (omega arith) in
    stepped (with_joiner_first script) (joiner_steps script) s e step old new h l
    (subst (λ m. FitsStep m step) long (joiner_fits script X)) (ap (λ t. t.merged_then) swaps)
    (kept ∙ ap (λ b. ((record (but_places b) { glyphs = new.glyphs }))) is)
    (moved ∙ ap (moved_behind (s + 1) (s + 3 - 1)) (ap (λ b. b.glyphs) is)
    ∙ ap (λ j. moved_behind (s + 1) j ms) (omega arith)
    ∙ picked_moved s e n 1 2 ms h (omega arith) long (omega arith) two
    ∙ sym (ap (λ ps. with_stretch s e (pick ps) ms) (ap (λ t. t.places) swaps ∙ swap_moved n two))
    ∙ sym (ap (with_stretch s e (pick step.places)) firsts)) refl refl

pub joiner_stays_put : (script : Option Script) (s e : ℕ) (b : Buffer) → s ≤ e → e ≤ length b.glyphs
    → joiner_comes_first script (stretch_of s e b.glyphs) ≡ false
    → SyllableReordered (with_joiner_first script) (joiner_steps script) s e b b
joiner_stays_put script s e b h l first =
    let gs = b.glyphs in
    let X = stretch_of s e (order_view gs) in
    let n = length X in
    let long : n ≡ e - s = seen_long s e gs h l in
    let off : joiner_comes_first script X ≡ false =
    cc (map-stretch plain s e gs, joiner_first_stays plain_view script (stretch_of s e gs)) in
    let step = joiner_step script X in
    stepped (with_joiner_first script) (joiner_steps script) s e step b b h l (search (arith, joiner_fits script X))
    (cc) refl (search (arith, picked_still)) refl refl

-- the older specification's H
pub halant_moves : (r : Rules) (script : Option Script) (base s e a j : ℕ) (old new : Buffer) → s ≤ e
    → e ≤ length old.glyphs → a < j → j < length (stretch_of s e old.glyphs)
    → halant_places r script base (stretch_of s e old.glyphs)
    ≡ moved_behind a j (places 0 (length (stretch_of s e old.glyphs)))
    → but_places new ≡ record (but_places old) { glyphs = new.glyphs }
    → new.glyphs ≡ moved_behind (s + a) (s + j + 1 - 1) old.glyphs
    → SyllableReordered (with_halant_moved r script base) (halant_steps r script base) s e old new
halant_moves r script base s e a j old new h l up within there kept moved =
    let gs = old.glyphs in
    let X = stretch_of s e (order_view gs) in
    let n = length (stretch_of s e gs) in
    let long : n ≡ e - s = length-stretch s e gs l in
    let step = halant_step r script base X in
    let moves : step.places ≡ moved_behind a j (range_with_len 0 n) =
    cc (map-stretch plain s e gs, halant_places_stay plain_view r script base (stretch_of s e gs), places_all n) in
    stepped (with_halant_moved r script base) (halant_steps r script base) s e step old new h l
    (search (arith, seen_long s e gs h l, halant_fits r script base X)) refl kept (search (arith, picked_moved))
    refl refl

pub halant_stays_put : (r : Rules) (script : Option Script) (base s e : ℕ) (b : Buffer) → s ≤ e → e ≤ length b.glyphs
    → halant_places r script base (stretch_of s e b.glyphs) ≡ places 0 (length (stretch_of s e b.glyphs))
    → SyllableReordered (with_halant_moved r script base) (halant_steps r script base) s e b b
halant_stays_put r script base s e b h l there =
    let gs = b.glyphs in
    let X = stretch_of s e (order_view gs) in
    let n = length (stretch_of s e gs) in
    let long : n ≡ e - s = length-stretch s e gs l in
    let step = halant_step r script base X in
    let stays : step.places ≡ range_with_len 0 n =
    cc (map-stretch plain s e gs, halant_places_stay plain_view r script base (stretch_of s e gs), places_all n) in
    stepped (with_halant_moved r script base) (halant_steps r script base) s e step b b h l
    (search (arith, seen_long s e gs h l, halant_fits r script base X)) refl refl (search (arith, picked_still))
    refl refl

pub halant_off : (r : Rules) (script : Option Script) (base s e : ℕ) (b : Buffer) → s ≤ e → e ≤ length b.glyphs
    → r.old ≡ false → SyllableReordered (with_halant_moved r script base) (halant_steps r script base) s e b b
halant_off r script base s e b h l off =
    let syl = stretch_of s e _ in
    halant_stays_put r script base s e b h l
    (ap (λ c. if c then halant_from script syl (halant_after base syl) else places 0 (length syl)) off)

pub halant_left : (r : Rules) (script : Option Script) (base s e : ℕ) (b : Buffer) (hs : Glyphs) → s ≤ e
    → e ≤ length b.glyphs → hs ≡ b.glyphs → r.old ≡ true
    → halant_from script (stretch_of s e hs) (halant_after base (stretch_of s e hs))
    ≡ places 0 (length (stretch_of s e hs))
    → SyllableReordered (with_halant_moved r script base) (halant_steps r script base) s e b b
halant_left r script base s e b hs h l same on there =
    let syl = stretch_of s e _ in
    halant_stays_put r script base s e b h l
    (ap (λ c. if c then halant_from script syl (halant_after base syl) else places 0 (length syl)) on
    ∙ subst (λ gs. halant_from script (stretch_of s e gs) (halant_after base (stretch_of s e gs))
    ≡ places 0 (length (stretch_of s e gs))) same there)

pub halant_done : (r : Rules) (script : Option Script) (base s e a j : ℕ) (old new : Buffer) (hs : Glyphs) → s ≤ e
    → e ≤ length old.glyphs → hs ≡ old.glyphs → r.old ≡ true → a < j → j < length (stretch_of s e hs)
    → halant_from script (stretch_of s e hs) (halant_after base (stretch_of s e hs))
    ≡ moved_behind a j (places 0 (length (stretch_of s e hs)))
    → but_places new ≡ record (but_places old) { glyphs = new.glyphs }
    → new.glyphs ≡ moved_behind (s + a) (s + j + 1 - 1) old.glyphs
    → SyllableReordered (with_halant_moved r script base) (halant_steps r script base) s e old new
halant_done r script base s e a j old new hs h l same on up within there kept moved =
    let syl = stretch_of s e _ in
    halant_moves r script base s e a j old new h l up (search arith)
    (ap (λ c. if c then halant_from script syl (halant_after base syl) else places 0 (length syl)) on ∙ subst
    (λ gs. halant_from script (stretch_of s e gs) (halant_after base (stretch_of s e gs)) ≡ moved_behind a j (places
    0 (length (stretch_of s e gs)))) same there) kept moved

-- the positions, from the first move on
pub from_opened : (r : Rules) (script : Option Script) (s e base : ℕ) (reph : Bool) (b1 b2 b3 b4 : Buffer) → s ≤ e
    → e ≤ length b1.glyphs → base ≡ base_place r (stretch_of s e b1.glyphs)
    → reph ≡ has_indic_reph r (stretch_of s e b1.glyphs) → b2 ≡ (let b : Buffer = record b1 { glyphs = b2.glyphs } in b)
    → b2.glyphs ≡ with_stretch s e (by_base base reph) b1.glyphs
    → SyllableReordered (with_halant_moved r script base) (halant_steps r script base) s e b2 b3
    → b4 ≡ (let b : Buffer = record b3 { glyphs = b4.glyphs } in b)
    → b4.glyphs ≡ with_stretch s e (with_marks_and_owners base) b3.glyphs
    → SyllableReordered (λ gs. with_all_positions r script (base_place r gs) (with_base_positions r gs))
    (λ gs. halant_steps r script (base_place r gs) (with_base_positions r gs)) s e b1 b4
from_opened r script s e base reph b1 b2 b3 b4 h l base_is reph_is is2 walked2 three is4 walked4 =
    let X = stretch_of s e (order_view b1.glyphs) in
    let Z = with_base_positions r X in
    let kZ = length-with_base r X ∙ seen_long s e b1.glyphs h l in
    let base_eq : base ≡ base_place r X =
    base_is ∙ sym (base_stays plain_view r (stretch_of s e b1.glyphs))
    ∙ ap (base_place r) (map-stretch plain s e b1.glyphs) in
    let one = (
    let syl = stretch_of s e b1.glyphs in syllable_changed (with_base_positions r) (with_base_positions r) s e b1 b2 h
    (ap but_places is2) (search arith) (search hidden-by_base) (sym (with_base_stays plain_view r syl))) in
    let second : Glyphs → Glyphs = λ gs. with_halant_moved r script base (with_base_positions r gs) in
    let steps : Glyphs → List Step = λ gs. [] ++ halant_steps r script base (with_base_positions r gs) in
    let all = syllable_then second (with_marks_and_owners base) steps (λ _. []) s e b1 b3 b4 h l
    ((let f = halant_fits r script base Z in search length-pick) ∙ kZ)
    (syllable_then (with_base_positions r) (with_halant_moved r script base) (λ _. []) (halant_steps r script base) s e
    b1 b2 b3 h l kZ one three) (
    let syl = stretch_of s e b3.glyphs in syllable_changed (with_marks_and_owners base) (with_marks_and_owners base) s
    e b3 b4 h (ap but_places is4) walked4 (search (hidden-with_owners_after, hidden-with_marks_attached)) (cc (with_marks_stays plain_view syl, with_owners_after_stays plain_view base (with_marks_attached syl)))) in
    syllable_as (λ gs. with_marks_and_owners base (second gs))
    (λ gs. with_all_positions r script (base_place r gs) (with_base_positions r gs)) (λ gs. steps gs ++ [])
    (λ gs. halant_steps r script (base_place r gs) (with_base_positions r gs)) s e b1 b4
    (ap (λ b. with_marks_and_owners b (with_halant_moved r script b Z)) base_eq)
    (ap (λ b. halant_step r script b Z ∷ []) base_eq) all

-- all of it
pub opened_then : (r : Rules) (script : Option Script) (p q : Placement) (s e : ℕ) (b0 b1 b2 : Buffer) → s ≤ e
    → e ≤ length b0.glyphs → b1.script ≡ script
    → SyllableReordered (with_joiner_first script) (joiner_steps script) s e b0 (moved_buffer (moved_first_by p s e) b1)
    → PositionsSet r p q s e b1 b2 → SyllableReordered (positioned r script) (first_steps r script) s e b0
    (moved_buffer (record (moved_first_by p s e) { second = q }) b2)
opened_then r script p q s e b0 b1 b2 h l same one two =
    let X = stretch_of s e (order_view b0.glyphs) in
    let mid = moved_buffer (moved_first_by p s e) b1 in
    let new = moved_buffer (record (moved_first_by p s e) { second = q }) b2 in
    let next : Glyphs → Glyphs = λ gs. with_all_positions r script (base_place r gs) (with_base_positions r gs) in
    let steps : Glyphs → List Step = λ gs. halant_steps r script (base_place r gs) (with_base_positions r gs) in
    let rest : SyllableReordered next steps s e mid new =
    subst (λ script. SyllableReordered
    (λ gs. with_all_positions r script (base_place r gs) (with_base_positions r gs))
    (λ gs. halant_steps r script (base_place r gs) (with_base_positions r gs)) s e mid new) same two in
    syllable_as (λ gs. next (with_joiner_first script gs)) (positioned r script)
    (λ gs. joiner_steps script gs ++ steps (with_joiner_first script gs)) (first_steps r script) s e b0 new refl refl
    (syllable_then (with_joiner_first script) next (joiner_steps script) steps s e b0 mid new h l
    ((let f = joiner_fits script X in search length-pick) ∙ seen_long s e b0.glyphs h l) one rest)
