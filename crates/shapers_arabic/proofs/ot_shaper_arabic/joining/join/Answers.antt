-- The form that the nearest letter after the text gives to the last one, and the flags of both.
use Rattle.shapers_arabic.proofs.FlaggedGlyphs.{flagged-again}
use Rattle.std.proofs.Common.{take, arith}
use Rattle.std.proofs.Common.{◌≡◌, false, ap, sym, ◌∙◌, map, length}
use Rattle.std.proofs.lemmas.List.{take_all, length-map}
use Rattle.shapers_buffer.specs.Properties.{general_category}
use Rattle.shapers_arabic.specs.Joining.{resolved}
use Rattle.shapers_arabic.specs.JoinedText.{stored_types}
use Rattle.shapers_arabic.specs.declared.ot_shaper_arabic.joining.Transition.{Transition}
use Rattle.shapers_arabic.specs.JoiningWalk.{given_last, given_by, state_at_start, step_flags}
use Rattle.shapers_arabic.proofs.FlagWalk.{step-end, flagged-no_end}
use Rattle.shapers_arabic.proofs.JoiningWalk.{walk-end}
use Rattle.shapers_arabic.proofs.ot_shaper_arabic.joining.join.Goals as goal

pub returns-in-Some : goal.returns-in-Some
returns-in-Some g c =
    let gs = c.args.glyphs.now in
    let joining = (g.T.Tables.tables c.args.tables.now).joining in
    let types = stored_types joining gs in
    let letters = c.join_text-letters.result in
    let between = c.join_text-letters.new.glyphs in
    let new = c.give_last.new.glyphs in
    let mid = map (λ g2. g2.auxiliary) between in
    let long =
    sym (length-map gs (λ g2. resolved (joining g2.glyph_id) (general_category g2.unicode_props))) in
    record {
      joined = λ front behind f b.
          let done = c.join_text-letters.ensures.walked front (c.state_at_start.ensures ∙ ap state_at_start (sym f)) in
          let calls = ap (λ n. step_flags letters.last letters.state n c.transition_of.result.now.0 false)
          (sym (length-map between (λ g2. g2.auxiliary)) ∙ done.walked.long ∙ sym long)
          ∙ ap (λ (t : Transition). step_flags letters.last letters.state (length gs) t.0 false)
          c.transition_of.ensures in
          record {
            forms_are = c.give_last.ensures.forms ∙ ap (λ n. given_last letters.last n mid)
                (ap (λ (t : Transition). t.0) c.transition_of.ensures ∙ sym (ap (given_by letters.state) (b ∙
                c.in-Some.is)))
                ∙ walk-end front types behind (length gs) letters.state letters.last mid long done.walked;
            flagged =
                let all : take (length gs) types ≡ types = search (arith, take_all) in
                search (arith, flagged-again, step-end);
          };
      counted = c.join_text-letters.ensures.counted;
    }

pub returns-in_default-clause-joined : goal.returns-in_default-clause-joined
returns-in_default-clause-joined g c = λ front behind f b.
    let gs = c.args.glyphs.now in
    let joining = (g.T.Tables.tables c.args.tables.now).joining in
    let types = stored_types joining gs in
    let letters = c.join_text-letters.result in
    let between = c.join_text-letters.new.glyphs in
    let mid = map (λ g2. g2.auxiliary) between in
    let long = sym (length-map gs (λ g2. resolved (joining g2.glyph_id) (general_category g2.unicode_props))) in
    let done = c.join_text-letters.ensures.walked front (c.state_at_start.ensures ∙ ap state_at_start (sym f)) in
    search (
      arith,
      walk-end front types behind (length gs) letters.state letters.last mid long done.walked,
      flagged-no_end,
    )
