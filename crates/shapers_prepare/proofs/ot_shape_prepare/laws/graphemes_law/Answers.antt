use Rattle.shapers_prepare.proofs.GraphemeProofs.{formed_cuts_are_exact, graphemes_cover, no_grapheme_splits}
use Rattle.shapers_prepare.proofs.ot_shape_prepare.laws.graphemes_law.Goals as goal

pub returns : goal.returns
returns c = record { cover = graphemes_cover; whole = no_grapheme_splits; exact = formed_cuts_are_exact }
