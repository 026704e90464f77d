use Rattle.shapers_syllabic.proofs.CircleLaws.{circles_keep_clusters}
use Rattle.shapers_syllabic.proofs.ot_shaper_syllabic.laws.circles_keep_clusters.Goals as goal

pub returns : goal.returns
returns c = circles_keep_clusters
