-- The parts of the initial reordering of a syllable, one after another.
use Rattle.std.proofs.Common.{◌≡◌, ℕ, ◌-◌, ◌≤◌, Bool, true, false, if◌then◌else◌, List, [], ◌∷◌, ◌++◌, length, take, drop, refl, sym, ap, ◌∙◌, arith, Option, length-append, length-take-le, length-drop}
use Rattle.std.proofs.lemmas.List.{length-map}
use Rattle.shapers_buffer.specs.Glyphs.{Glyphs}
use Rattle.shapers_buffer.specs.declared.buffer.tag.Script.{Script}
use Rattle.shapers_buffer.specs.Buffer.{Buffer}
use Rattle.shapers_buffer.specs.Clusters.{stretch_of}
use Rattle.shapers_buffer.specs.Glyph.{order_view, plain}
use Rattle.shapers_buffer.proofs.ClusterLemmas.{map-stretch, three_parts}
use Rattle.shapers_clusters.specs.Steps.{Step}
use Rattle.shapers_clusters.proofs.Picks.{length-pick}
use Rattle.shapers_indic_initial.specs.InitialReordering.{in_indic_order, initial_order, initial_steps, is_reordered_in_indic, masked_in_order, first_steps, indic_order_step, positioned, steps_of_reordered}
use Rattle.shapers_indic_initial.specs.InitialRules.{Rules}
use Rattle.shapers_indic_initial.specs.Proved.InitialLaws.{halant_laws, joiner_laws}
use Rattle.shapers_indic_initial.specs.Proved.InitialSteps.{order_fits}
use Rattle.shapers_indic_initial.proofs.Prepared.{seen_long}
use Rattle.shapers_syllabic.specs.Reordering.{SyllableReordered}
use Rattle.shapers_syllabic.proofs.LawsThen.{laws_then}
use Rattle.shapers_syllabic.proofs.ReorderingWalk.{length-meaning}
use Rattle.shapers_syllabic.proofs.SyllableThen.{changed_parts, syllable_as, syllable_then}

-- each part keeps the length
length-positioned : (r : Rules) (script : Option Script) (gs : Glyphs) → length (positioned r script gs) ≡ length gs
length-positioned r script gs = length-meaning _ _ (laws_then _ _ _ _ (joiner_laws script) (halant_laws r script)) gs

length-in_order : (r : Rules) (gs : Glyphs) → length (in_indic_order gs) ≡ length gs
length-in_order r gs = let f = order_fits r gs in search length-pick

-- a syllable of the order view

kind-viewed : (gs : Glyphs) → is_reordered_in_indic (order_view gs) ≡ is_reordered_in_indic gs
kind-viewed [] = refl
kind-viewed (g ∷ gs) = refl

kind-stretch : (s e : ℕ) (gs : Glyphs) → is_reordered_in_indic (stretch_of s e (order_view gs))
    ≡ is_reordered_in_indic (stretch_of s e gs)
kind-stretch s e gs = cc (map-stretch plain s e gs, kind-viewed (stretch_of s e gs))

-- what a part leaves: as many glyphs, and its syllable
record After (meaning : Glyphs → Glyphs) (s e : ℕ) (old new : Buffer) : Type 0 where
  long : length new.glyphs ≡ length old.glyphs
  syllable : stretch_of s e (order_view new.glyphs) ≡ meaning (stretch_of s e (order_view old.glyphs))

after : (meaning : Glyphs → Glyphs) (steps : Glyphs → List Step) (s e : ℕ)
    (old new : Buffer) → s ≤ e → e ≤ length old.glyphs → length (meaning (stretch_of s e (order_view old.glyphs)))
    ≡ e - s → SyllableReordered meaning steps s e old new → After meaning s e old new
after meaning steps s e old new h l k done =
    let xs = order_view old.glyphs in
    let n : length xs ≡ length old.glyphs = length-map old.glyphs plain in
    let front = length-take-le s xs (omega arith) in
    search (
      arith,
      length-map new.glyphs plain,
      length-append (take s xs) (meaning (stretch_of s e xs) ++ drop e xs),
      length-append (meaning (stretch_of s e xs)) (drop e xs),
      length-drop e xs,
      (changed_parts s e (take s xs) (meaning (stretch_of s e xs)) (drop e xs) (order_view new.glyphs) h front k
          done.order).stretch,
    )

-- a syllable that is reordered
pub initial_syllable : (r : Rules) (script : Option Script) (s e : ℕ) (b1 b2 b3 b4 : Buffer) → s ≤ e
    → e ≤ length b1.glyphs → is_reordered_in_indic (stretch_of s e b1.glyphs) ≡ true
    → SyllableReordered (positioned r script) (first_steps r script) s e b1 b2
    → SyllableReordered in_indic_order (λ gs. indic_order_step r gs ∷ []) s e b2 b3
    → SyllableReordered (masked_in_order r script) (λ _. []) s e b3 b4
    → SyllableReordered (initial_order r script) (initial_steps r script) s e b1 b4
initial_syllable r script s e b1 b2 b3 b4 h l kind p o m =
    let x1 = stretch_of s e _ in
    let yes = kind-stretch s e _ ∙ kind in
    syllable_as _ _ _ _ s e b1 b4
    (sym (ap (λ (b : Bool). if b then masked_in_order r script (in_indic_order (positioned r script x1)) else x1) yes))
    (sym (ap (λ (b : Bool). if b then steps_of_reordered r script x1 else []) yes))
    (
    let n1 = length-positioned r script (stretch_of s e _) ∙ seen_long s e _ h l in
    let a = after _ _ s e b1 b2 h l n1 p in
    let l2 : e ≤ length _ = omega arith in
    let n2 = length-in_order r (stretch_of s e _) ∙ seen_long s e _ h l2 in syllable_then _ _ _ _ s e b1 b2 b4 h l n1
    p (syllable_then _ _ _ _ s e b2 b3 b4 h l2 n2 o m))

-- another syllable stays
still : (s e : ℕ) (b : Buffer) → s ≤ e → SyllableReordered (λ gs. gs) (λ _. []) s e b b
still = search three_parts

pub other_syllable : (r : Rules) (script : Option Script) (s e : ℕ) (b : Buffer) → s ≤ e
    → is_reordered_in_indic (stretch_of s e b.glyphs) ≡ false
    → SyllableReordered (initial_order r script) (initial_steps r script) s e b b
other_syllable r script s e b h kind =
    let x = stretch_of s e _ in
    let no = kind-stretch s e _ ∙ kind in
    syllable_as _ _ _ _ s e b b
    (sym (ap (λ (b : Bool). if b then masked_in_order r script (in_indic_order (positioned r script x)) else x) no))
    (sym (ap (λ (b : Bool). if b then steps_of_reordered r script x else []) no)) (still s e b h)
