-- By the older specification, and not.
use Rattle.std.proofs.Common.{◌≡◌, ◌≤◌, ◌+◌, ◌-◌, ◌<◌, [], refl, sym, ap, subst, ◌∙◌, length, arith}
use Rattle.std.specs.Option.{IfSome}
use Rattle.shapers_buffer.specs.Buffer.{Buffer}
use Rattle.shapers_buffer.specs.Clusters.{stretch_of}
use Rattle.shapers_buffer.specs.Glyphs.{Glyphs}
use Rattle.shapers_buffer.specs.Places.{placed_by}
use Rattle.shapers_buffer.specs.Placements.{MayArrange, placed_by_all}
use Rattle.shapers_buffer.specs.declared.buffer.placement.Placement.TheVariants.{Stays}
use Rattle.shapers_buffer.proofs.ClusterLemmas.{length-stretch}
use Rattle.shapers_buffer.proofs.Placements.{placed_stays}
use Rattle.shapers_indic_initial.specs.InitialPositions.{halant_after, halant_from, moved_places}
use Rattle.shapers_indic_initial.specs.InitialReordering.{halant_steps, with_halant_moved}
use Rattle.shapers_indic_initial.specs.MovedWalk.{IsUnlisted, MovesUnlisted, as_moved, moved_buffer}
use Rattle.shapers_indic_initial.specs.declared.ot_shaper_indic_initial.moved.MovedSyllable.{MovedSyllable}
use Rattle.shapers_indic_initial.proofs.MovedLaws.{behind_others, behind_unlisted, length-moved_syllable, moved_fits, read_moved, second_moved, stays_each, stays_unlisted}
use Rattle.shapers_indic_initial.proofs.Prepared.{halant_done, halant_left, halant_off}
use Rattle.shapers_syllabic.specs.Reordering.{SyllableReordered}
use Rattle.shapers_indic_initial.proofs.ot_shaper_indic_initial.preparing.place_halant.Goals as goal

-- nothing more moves
still : (m : MovedSyllable) (b : Buffer) → MovesUnlisted m → m.second ≡ Stays → m.start ≤ m.end
    → m.end ≤ length b.glyphs → moved_buffer (record m { second = Stays }) b ≡ moved_buffer m b
still m b u none h l =
    let n = length-moved_syllable m b.glyphs u h l in
    ap (λ (gs : Glyphs). let x : Buffer = record b { glyphs = gs } in x)
    (second_moved m Stays b.glyphs u none (stays_unlisted m.start m.end) h l
    ∙ placed_stays m.start m.end [] (as_moved m b.glyphs) h (omega arith))

pub returns-then-not-is_old_spec-clause-unlisted : goal.returns-then-not-is_old_spec-clause-unlisted
returns-then-not-is_old_spec-clause-unlisted c = stays_unlisted c.args.opened.now.start c.args.opened.now.end

pub returns-then-not-is_old_spec-clause-reordered : goal.returns-then-not-is_old_spec-clause-reordered
returns-then-not-is_old_spec-clause-reordered c = λ r spec.
    let m = c.args.opened.now in
    let b = c.args.buffer.now in
    let q = c.requires in
    let n = length-moved_syllable m b.glyphs q.unlisted q.in_order q.in_range in
    subst (λ (x : Buffer). SyllableReordered (with_halant_moved r c.args.script c.args.base)
    (halant_steps r c.args.script c.args.base) m.start m.end (moved_buffer m b) x)
    (sym (still m b q.unlisted q.second q.in_order q.in_range))
    (halant_off r c.args.script c.args.base m.start m.end (moved_buffer m b) q.in_order (omega (arith, n, q.in_range))
    (search arith))

pub read_arranged-requires-clause-arranges : goal.read_arranged-requires-clause-arranges
read_arranged-requires-clause-arranges c =
    let m = c.args.opened.now in
    let b = c.args.buffer.now in
    subst (λ ps. MayArrange ps m.start m.end (length b.glyphs) b.places) (sym c.moves_then-moves.ensures)
    (moved_fits m Stays (length b.glyphs) b.places c.requires.unlisted c.requires.in_order c.requires.in_range
    (stays_each m.start m.end b.places))

pub returns-in-None-clause-unlisted : goal.returns-in-None-clause-unlisted
returns-in-None-clause-unlisted c = stays_unlisted c.args.opened.now.start c.args.opened.now.end

pub returns-in-None-clause-reordered : goal.returns-in-None-clause-reordered
returns-in-None-clause-reordered c = λ r spec.
    let m = c.args.opened.now in
    let s = m.start in
    let e = m.end in
    let b = c.args.buffer.now in
    let q = c.requires in
    let gs = as_moved m b.glyphs in
    let n = length-moved_syllable m b.glyphs q.unlisted q.in_order q.in_range in
    let text : placed_by_all c.moves_then-moves.result s e b.places b.glyphs ≡ gs =
    read_moved m c.moves_then-moves.result b c.moves_then-moves.ensures q.unlisted q.in_order q.in_range in
    subst (λ (x : Buffer). SyllableReordered (with_halant_moved r c.args.script c.args.base)
    (halant_steps r c.args.script c.args.base) s e (moved_buffer m b) x)
    (sym (still m b q.unlisted q.second q.in_order q.in_range))
    (halant_left r c.args.script c.args.base s e (moved_buffer m b) gs q.in_order (omega (arith, n, q.in_range)) refl
    (search arith)
    (subst (λ (hs : Glyphs). halant_from c.args.script (stretch_of s e hs) (halant_after c.args.base (stretch_of s e hs))
    ≡ moved_places c.read_arranged.new.reading.places (length (stretch_of s e hs))) text c.read_arranged.ensures.read.0
    ∙ ap (λ o. moved_places o (length (stretch_of s e gs))) c.in-None.is))

pub returns-in-Some-clause-unlisted : goal.returns-in-Some-clause-unlisted
returns-in-Some-clause-unlisted c =
    let m = c.args.opened.now in
    let s = m.start in
    let e = m.end in
    let b = c.args.buffer.now in
    let q = c.requires in
    let gs = as_moved m b.glyphs in
    let n = length-moved_syllable m b.glyphs q.unlisted q.in_order q.in_range in
    let text : placed_by_all c.moves_then-moves.result s e b.places b.glyphs ≡ gs =
    read_moved m c.moves_then-moves.result b c.moves_then-moves.ensures q.unlisted q.in_order q.in_range in
    let up : c.in-Some.halant < c.in-Some.last =
    subst (λ o. IfSome o (λ move. move.0 < move.1)) c.in-Some.is c.read_arranged.ensures.read.1 in
    let there : c.in-Some.last < length (stretch_of s e gs) =
    subst (λ (hs : Glyphs). c.in-Some.last < length (stretch_of s e hs)) text
    (subst (λ o. IfSome o (λ move. move.1 < length (stretch_of s e (placed_by_all c.moves_then-moves.result s e b.places
    b.glyphs)))) c.in-Some.is c.read_arranged.ensures.read.2) in
    let long = length-stretch s e gs (omega (arith, q.in_range)) in
    let unlisted : IsUnlisted c.to_end.result s e =
    behind_unlisted c.to_end.result (s + c.in-Some.halant) (s + c.in-Some.last + 1) s e c.to_end.ensures (omega arith)
    (omega arith) (omega arith) in
    unlisted

pub returns-in-Some-clause-reordered : goal.returns-in-Some-clause-reordered
returns-in-Some-clause-reordered c = λ r spec.
    let m = c.args.opened.now in
    let s = m.start in
    let e = m.end in
    let b = c.args.buffer.now in
    let q = c.requires in
    let gs = as_moved m b.glyphs in
    let n = length-moved_syllable m b.glyphs q.unlisted q.in_order q.in_range in
    let text : placed_by_all c.moves_then-moves.result s e b.places b.glyphs ≡ gs =
    read_moved m c.moves_then-moves.result b c.moves_then-moves.ensures q.unlisted q.in_order q.in_range in
    let up : c.in-Some.halant < c.in-Some.last =
    subst (λ o. IfSome o (λ move. move.0 < move.1)) c.in-Some.is c.read_arranged.ensures.read.1 in
    let there : c.in-Some.last < length (stretch_of s e gs) =
    subst (λ (hs : Glyphs). c.in-Some.last < length (stretch_of s e hs)) text
    (subst (λ o. IfSome o (λ move. move.1 < length (stretch_of s e (placed_by_all c.moves_then-moves.result s e b.places
    b.glyphs)))) c.in-Some.is c.read_arranged.ensures.read.2) in
    let long = length-stretch s e gs (omega (arith, q.in_range)) in
    let unlisted : IsUnlisted c.to_end.result s e =
    behind_unlisted c.to_end.result (s + c.in-Some.halant) (s + c.in-Some.last + 1) s e c.to_end.ensures (omega arith)
    (omega arith) (omega arith) in
    halant_done r c.args.script c.args.base s e c.in-Some.halant c.in-Some.last (moved_buffer m b)
    (moved_buffer (record m { second = c.to_end.result }) b) gs q.in_order (omega (arith, n, q.in_range)) refl
    (search arith) up there
    (subst (λ (hs : Glyphs). halant_from c.args.script (stretch_of s e hs) (halant_after c.args.base (stretch_of s e hs))
    ≡ moved_places c.read_arranged.new.reading.places (length (stretch_of s e hs))) text c.read_arranged.ensures.read.0
    ∙ ap (λ o. moved_places o (length (stretch_of s e gs))) c.in-Some.is)
    refl
    (second_moved m c.to_end.result b.glyphs q.unlisted q.second unlisted q.in_order q.in_range
    ∙ ap (λ p. placed_by p s e [] gs) c.to_end.ensures
    ∙ behind_others (s + c.in-Some.halant) (s + c.in-Some.last + 1) s e [] gs (omega arith) (omega arith) (omega arith)
    (omega (arith, n, q.in_range)))
