use Rattle.rustybuzz_shapers.proofs.shaper.hb_ot_shaper_t.collect_features.Goals as goal

pub returns-in_ok-collect_features-in-Arabic-clause-ok : goal.returns-in_ok-collect_features-in-Arabic-clause-ok
returns-in_ok-collect_features-in-Arabic-clause-ok g c = rw c.in-Arabic.is c.in_ok-collect_features-in-Arabic.ensures.ok
