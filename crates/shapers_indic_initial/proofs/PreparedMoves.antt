-- The parts of the preparation, with the moves that aren't written yet.
use Rattle.std.proofs.Common.{◌≡◌, ℕ, ◌≤◌, Bool, Option, length, ap, ◌∙◌, arith}
use Rattle.shapers_buffer.specs.Buffer.{Buffer}
use Rattle.shapers_buffer.specs.Clusters.{stretch_of, with_stretch}
use Rattle.shapers_buffer.specs.Glyphs.{Glyphs}
use Rattle.shapers_buffer.specs.Placements.{arranged}
use Rattle.shapers_buffer.specs.declared.buffer.placement.Placement.TheVariants.{Stays}
use Rattle.shapers_buffer.specs.declared.buffer.placements.Placements.{Placements}
use Rattle.shapers_buffer.specs.declared.buffer.tag.Script.{Script}
use Rattle.shapers_indic_initial.specs.InitialBase.{base_place, has_indic_reph}
use Rattle.shapers_indic_initial.specs.InitialPositions.{by_base}
use Rattle.shapers_indic_initial.specs.InitialReordering.{halant_steps, with_all_positions, with_base_positions, with_halant_moved, with_marks_and_owners}
use Rattle.shapers_indic_initial.specs.InitialRules.{Rules}
use Rattle.shapers_indic_initial.specs.MovedWalk.{MovesUnlisted, as_moved, moved_buffer, moves_then}
use Rattle.shapers_indic_initial.specs.declared.ot_shaper_indic_initial.moved.MovedSyllable.{MovedSyllable}
use Rattle.shapers_indic_initial.proofs.MovedLaws.{length-moved_syllable, read_moved, walked_moved}
use Rattle.shapers_indic_initial.proofs.Prepared.{from_opened}
use Rattle.shapers_syllabic.specs.Reordering.{SyllableReordered}

-- what a walk over a syllable so moved shows of its texts before and after it
pub record Walked (m : MovedSyllable) (ps : Placements) (f : Glyphs → Glyphs) (old new : Buffer) : Type 0 where
  pub moves : ps ≡ moves_then m Stays
  pub same_length : length new.glyphs ≡ length old.glyphs
  pub others : new ≡ (let b : Buffer = record old { glyphs = new.glyphs } in b)
  pub glyphs : arranged ps m.start m.end new ≡ (let b : Buffer = record (arranged ps m.start m.end old) {
    glyphs = with_stretch m.start m.end (λ _. stretch_of m.start m.end (arranged ps m.start m.end new).glyphs)
        (arranged ps m.start m.end old).glyphs;
  } in b)
  pub walked : stretch_of m.start m.end (arranged ps m.start m.end new).glyphs
      ≡ f (stretch_of m.start m.end (arranged ps m.start m.end old).glyphs)

pub positions_set : (r : Rules) (script : Option Script) (base : ℕ) (reph : Bool) (o m : MovedSyllable)
    (ps qs : Placements) (b1 b2 b3 b4 : Buffer) → MovesUnlisted o → MovesUnlisted m → m.start ≡ o.start → m.end ≡ o.end
    → o.start ≤ o.end → o.end ≤ length b1.glyphs → b3 ≡ b2
    → base ≡ base_place r (stretch_of o.start o.end (arranged ps o.start o.end b1).glyphs)
    → reph ≡ has_indic_reph r (stretch_of o.start o.end (arranged ps o.start o.end b1).glyphs)
    → Walked o ps (by_base base reph) b1 b2
    → SyllableReordered (with_halant_moved r script base) (halant_steps r script base) o.start o.end (moved_buffer o b2)
    (moved_buffer m b2)
    → Walked m qs (with_marks_and_owners base) b3 b4
    → SyllableReordered (λ gs. with_all_positions r script (base_place r gs) (with_base_positions r gs))
    (λ gs. halant_steps r script (base_place r gs) (with_base_positions r gs)) o.start o.end (moved_buffer o b1)
    (moved_buffer m b4)
positions_set r script base reph o m ps qs b1 b2 b3 b4 u v start end h l same base_is reph_is w three x =
    let s = o.start in
    let e = o.end in
    let n1 = length-moved_syllable o b1.glyphs u h l in
    let l2 : e ≤ length b2.glyphs = omega (arith, w.same_length) in
    let text : (arranged ps s e b1).glyphs ≡ as_moved o b1.glyphs = read_moved o ps b1 w.moves u h l in
    let first = walked_moved o ps (by_base base reph) b1 b2 w.moves u h l w.same_length w.others w.glyphs w.walked in
    let three_there : length b3.glyphs ≡ length b2.glyphs = ap (λ (b : Buffer). length b.glyphs) same in
    let second = walked_moved m qs (with_marks_and_owners base) b3 b4 x.moves v (omega arith) (omega arith)
    x.same_length x.others x.glyphs x.walked in
    from_opened r script s e base reph (moved_buffer o b1) (moved_buffer o b2) (moved_buffer m b2)
    (moved_buffer m b4) h (omega (arith, n1))
    (base_is ∙ ap (λ (gs : Glyphs). base_place r (stretch_of s e gs)) text)
    (reph_is ∙ ap (λ (gs : Glyphs). has_indic_reph r (stretch_of s e gs)) text)
    first.0 first.1 three
    (second.0 ∙ ap (λ (b : Buffer). let y : Buffer = record b { glyphs = as_moved m b4.glyphs } in y) same)
    (second.1 ∙ ap (λ k. with_stretch k m.end (with_marks_and_owners base) (as_moved m b3.glyphs)) start
    ∙ ap (λ k. with_stretch s k (with_marks_and_owners base) (as_moved m b3.glyphs)) end
    ∙ ap (λ (b : Buffer). with_stretch s e (with_marks_and_owners base) (as_moved m b.glyphs)) same)
