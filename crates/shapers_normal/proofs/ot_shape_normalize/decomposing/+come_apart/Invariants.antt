use Rattle.shapers_normal.proofs.ot_shape_normalize.decomposing.+come_apart.Given as goal

abbrev pub decreases-come_apart : goal.decreases-come_apart
decreases-come_apart g l = l.steps
