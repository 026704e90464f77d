-- The count's ledger is that of the blank.
use Rattle.shapers_arabic.proofs.ot_shaper_arabic.setup_masks_inner.Given as goal

abbrev pub ghosts-setup_masks_with : goal.ghosts-setup_masks_with
ghosts-setup_masks_with g a = record { name = a.blank.name; parts = a.blank.parts }
