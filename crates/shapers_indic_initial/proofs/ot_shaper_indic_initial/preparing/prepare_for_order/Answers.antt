-- The joiner's move, and then the positions; a consonant with a sign has them.
use Rattle.std.proofs.Common.{◌≡◌, [], ap, sym, subst, ◌∙◌, arith}
use Rattle.shapers_buffer.specs.Buffer.{Buffer}
use Rattle.shapers_buffer.specs.Glyphs.{Glyphs}
use Rattle.shapers_buffer.specs.declared.buffer.placement.Placement.TheVariants.{Stays}
use Rattle.shapers_buffer.proofs.Placements.{placed_stays}
use Rattle.shapers_indic_initial.specs.InitialReordering.{first_steps, joiner_steps, positioned, with_joiner_first}
use Rattle.shapers_indic_initial.specs.InitialRules.{initial_rules}
use Rattle.shapers_indic_initial.specs.MovedWalk.{moved_buffer, moved_first_by}
use Rattle.shapers_indic_initial.proofs.ConsonantWithSign.{pair_here}
use Rattle.shapers_indic_initial.proofs.MovedLaws.{first_moved, stays_unlisted}
use Rattle.shapers_indic_initial.proofs.Prepared.{opened_then}
use Rattle.shapers_syllabic.specs.Reordering.{SyllableReordered}
use Rattle.shapers_indic_initial.proofs.ot_shaper_indic_initial.preparing.prepare_for_order.Goals as goal

pub returns-clause-unlisted : goal.returns-clause-unlisted
returns-clause-unlisted g c =
    record { first = c.put_joiner_first-first.ensures.unlisted; second = c.set_positions-second.ensures.unlisted }

pub returns-clause-reordered : goal.returns-clause-reordered
returns-clause-reordered g c =
    let r = initial_rules (g.F.hb_font_t.font c.args.rules.now.font.now) c.args.rules.now.map.now
    c.args.rules.now.plan.now in
    let s = c.args.start in
    let e = c.args.end in
    let b = c.args.buffer.now in
    let first = c.put_joiner_first-first in
    opened_then r b.script first.result c.set_positions-second.result s e b first.new.buffer
    c.set_positions-second.new.buffer c.requires.in_order c.requires.in_range
    (ap (λ (x : Buffer). x.script) first.ensures.others)
    (subst (λ script. SyllableReordered (with_joiner_first script) (joiner_steps script) s e b
    (moved_buffer (moved_first_by first.result s e) first.new.buffer)) c.script-script.ensures first.ensures.reordered)
    c.set_positions-second.ensures.reordered

pub returns-then-is_consonant_with_sign-clause-unlisted : goal.returns-then-is_consonant_with_sign-clause-unlisted
returns-then-is_consonant_with_sign-clause-unlisted g c =
    let still = stays_unlisted c.args.start c.args.end in record { first = still; second = still }

pub returns-then-is_consonant_with_sign-clause-reordered : goal.returns-then-is_consonant_with_sign-clause-reordered
returns-then-is_consonant_with_sign-clause-reordered g c =
    let r = initial_rules (g.F.hb_font_t.font c.args.rules.now.font.now) c.args.rules.now.map.now
    c.args.rules.now.plan.now in
    let s = c.args.start in
    let e = c.args.end in
    let b = c.args.buffer.now in
    let h = c.requires.in_order in
    let l = c.requires.in_range in
    let same : moved_buffer (moved_first_by Stays s e) b ≡ b =
    ap (λ (gs : Glyphs). let x : Buffer = record b { glyphs = gs } in x)
    (first_moved Stays s e b.glyphs (stays_unlisted s e) h l ∙ placed_stays s e [] b.glyphs h l) in
    subst (λ (x : Buffer). SyllableReordered (positioned r b.script) (first_steps r b.script) s e b x)
    (sym same) (pair_here r b.script s e b h l (search arith))
