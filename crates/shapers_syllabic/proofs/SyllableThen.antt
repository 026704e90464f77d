-- A syllable reordered by one body and then by another; and bodies that move and merge nothing.
use Rattle.std.proofs.Common.{ℕ, ◌-◌, ◌≤◌, ◌≡◌, List, [], ◌++◌, map, length, take, drop, ◌∙◌, arith, append_assoc, length-append, length-take-le, length-drop}
use Rattle.std.proofs.lemmas.List.{drop_at, length-map, map-append, take_at}
use Rattle.std.proofs.lemmas.List.Sums.{fold-append}
use Rattle.shapers_buffer.specs.Glyphs.{Glyph, Glyphs}
use Rattle.shapers_buffer.specs.Buffer.{Buffer, but_places}
use Rattle.shapers_buffer.specs.Clusters.{stretch_of, with_stretch}
use Rattle.shapers_buffer.specs.Glyph.{order_view, plain}
use Rattle.shapers_buffer.proofs.ClusterLemmas.{three_parts}
use Rattle.shapers_buffer.proofs.MappedLists.{map-hidden, map-seen}
use Rattle.shapers_clusters.specs.Steps.{Step, after_step, after_steps, widened}
use Rattle.shapers_syllabic.specs.Reordering.{SyllableReordered, carried}
use Rattle.shapers_syllabic.proofs.ReorderingLemmas.{after_steps-carried, stretch-carried, stretch-viewed}

-- the parts of a list whose stretch from s to e was changed by what keeps its length
pub record ChangedParts {X : Type 0} (s e : ℕ) (front middle back new : List X) : Type 0 where
  pub before : take s new ≡ front
  pub stretch : stretch_of s e new ≡ middle
  pub behind : drop e new ≡ back

pub changed_parts : {X : Type 0} (s e : ℕ) (front middle back new : List X) → s ≤ e → length front ≡ s
    → length middle ≡ e - s → new ≡ front ++ (middle ++ back) → ChangedParts s e front middle back new
changed_parts s e front middle back new h a b is = search (take_at front (middle ++ back) s a, drop_at front (middle ++ back) s a, take_at middle back (e - s) b, append_assoc front middle back, drop_at (front ++ middle) back e (length-append front middle ∙ omega arith))

-- one body, and then another: what the syllable becomes, and the steps of both
pub syllable_then : (first next : Glyphs → Glyphs) (steps steps_then : Glyphs
    → List Step) (s e : ℕ) (old mid new : Buffer) → s ≤ e → e ≤ length old.glyphs
    → length (first (stretch_of s e (order_view old.glyphs))) ≡ e - s → SyllableReordered first steps s e old mid
    → SyllableReordered next steps_then s e mid new
    → SyllableReordered (λ gs. next (first gs)) (λ gs. steps gs ++ steps_then (first gs)) s e old new
syllable_then first next steps steps_then s e old mid new h l k one two =
    let n = length old.glyphs in
    let xs = order_view old.glyphs in
    let xn : length xs ≡ length old.glyphs = length-map old.glyphs plain in
    let syl = stretch_of s e xs in
    let front = take s xs in
    let back = drop e xs in
    let fn = length-take-le s xs (omega arith) in
    let parts = changed_parts s e front (first syl) back (order_view mid.glyphs) h fn k one.order in
    let ws = map (widened s e n) (steps syl) in
    let ts = map (widened s e n) (steps_then (first syl)) in
    search (arith, length-map mid.glyphs plain, length-append front (first syl ++ back), length-append (first syl) back, length-drop e xs, after_steps-carried old.level ts mid.glyphs (after_steps old.level ws old.glyphs) one.moved, fold-append (λ gs step. after_step old.level step gs) old.glyphs ws ts, map-append (widened s e n) (steps syl) (steps_then (first syl)))

-- what is said of a syllable by meanings and steps holds by others that are the same of it
pub syllable_as : (meaning other : Glyphs → Glyphs) (steps others : Glyphs → List Step) (s e : ℕ) (old new : Buffer)
    → meaning (stretch_of s e (order_view old.glyphs)) ≡ other (stretch_of s e (order_view old.glyphs))
    → steps (stretch_of s e (order_view old.glyphs)) ≡ others (stretch_of s e (order_view old.glyphs))
    → SyllableReordered meaning steps s e old new → SyllableReordered other others s e old new
syllable_as = search arith

-- a body that changes its syllable's glyphs, and nothing that is carried along
pub syllable_changed : (meaning change : Glyphs → Glyphs) (s e : ℕ) (old new : Buffer)
    → s ≤ e → but_places new ≡ record (but_places old) { glyphs = new.glyphs }
    → new.glyphs ≡ with_stretch s e change old.glyphs → map carried (change (stretch_of s e old.glyphs))
    ≡ map carried (stretch_of s e old.glyphs) → order_view (change (stretch_of s e old.glyphs))
    ≡ meaning (order_view (stretch_of s e old.glyphs)) → SyllableReordered meaning (λ _. []) s e old new
syllable_changed = search (arith, stretch-viewed, stretch-carried)

-- the same where each glyph is changed for itself
pub syllable_mapped : (f : Glyph → Glyph) (s e : ℕ) (old new : Buffer) → s ≤ e
    → but_places new ≡ record (but_places old) { glyphs = new.glyphs }
    → new.glyphs ≡ with_stretch s e (map f) old.glyphs → ((g : Glyph) → carried (f g) ≡ carried g)
    → ((g : Glyph) → plain (f g) ≡ f (plain g)) → SyllableReordered (map f) (λ _. []) s e old new
syllable_mapped = search (syllable_changed, map-hidden, map-seen)

-- a body that changes nothing
pub syllable_still : (s e : ℕ) (old new : Buffer) → s ≤ e
    → but_places new ≡ record (but_places old) { glyphs = new.glyphs } → new.glyphs ≡ old.glyphs
    → SyllableReordered (λ gs. gs) (λ _. []) s e old new
syllable_still = search (arith, three_parts)
