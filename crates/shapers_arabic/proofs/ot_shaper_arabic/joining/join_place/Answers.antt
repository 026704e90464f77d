-- A transparent place, or a letter.
use Rattle.std.proofs.Common.{◌+◌, refl, ap, sym, map, subst, Some, arith, []}
use Rattle.shapers_arabic.specs.Joining.{is_transparent, joins_back}
use Rattle.shapers_arabic.specs.JoiningWalk.{cell, step_flags, IsWithin}
use Rattle.shapers_arabic.proofs.FlagWalk.{flagged-transparent, flagged-letter, step-in_order}
use Rattle.shapers_arabic.proofs.FlaggedGlyphs.{same-text, within-more}
use Rattle.shapers_arabic.proofs.JoiningWalk.{walk-transparent, walk-letter, walked-at, not-transparent}
use Rattle.shapers_arabic.proofs.ot_shaper_arabic.joining.join_place.Goals as goal

pub returns-in-T-clause-text : goal.returns-in-T-clause-text
returns-in-T-clause-text c = same-text c.args.flags
    [] c.args.glyphs.now c.set_form.new.glyphs tt c.set_form.ensures.others

pub returns-in-T-clause-walked : goal.returns-in-T-clause-walked
returns-in-T-clause-walked c = λ before types first h at w.
    let letters = c.args.letters.now in
    let gs = c.args.glyphs.now in
    let is = ap is_transparent c.in-T.is in
    search (
      arith,
      walked-at before types (c.args.i + 1) letters.state letters.state letters.last letters.last _ _
          (walk-transparent before types c.args.i letters.state letters.last (map (λ g. g.auxiliary) gs)
          c.args.joining_type h at is w.walked) refl refl c.set_form.ensures.forms,
      flagged-transparent,
    )

pub returns-in_default : goal.returns-in_default
returns-in_default c =
    let letters = c.args.letters.now in
    let i = c.args.i in
    let t = c.args.joining_type in
    let gs = c.args.glyphs.now in
    let hs = c.join_letter.new.glyphs in
    let new = c.join_letter.new.letters in
    let letter = not-transparent c.args.joining_type c.in_default.not-T in
    record {
      text = same-text c.args.flags
          (step_flags letters.last letters.state (i + 1) (cell letters.state t).0 (joins_back (Some t))) gs hs
          (step-in_order letters.last letters.state (i + 1) (cell letters.state t).0 (joins_back (Some t))
          (within-more letters.last i c.requires.within)) c.join_letter.ensures.flagged;
      walked = λ before types first h at w. record {
        walked = walked-at before types (i + 1) (cell letters.state t).2 new.state (Some i) new.last _ _
            (walk-letter before types i letters.state letters.last (map (λ g. g.auxiliary) gs) t h at letter w.walked)
            c.join_letter.ensures.state c.join_letter.ensures.last c.join_letter.ensures.forms;
        flagged = flagged-letter c.args.flags before types first gs hs i letters.state letters.last t h at letter
            w.walked.last_is w.flagged c.join_letter.ensures.flagged;
      };
      within = subst (λ last. IsWithin last (i + 1)) (sym c.join_letter.ensures.last) ((omega arith));
    }
