-- The list of Indic, computed: its length, and some of its flags.
use Rattle.std.specs.Prelude.{◌≡◌, Some, length, slice_get, codes, refl}
use Rattle.shapers_base.specs.declared.plan.planner.Request.TheVariants.{Feature}
use Rattle.shapers_indic.specs.Requests.{indic_list, indic_overrides}

indic : length indic_list ≡ 33
indic = refl

indic_after : length indic_overrides ≡ 2
indic_after = refl

nukt : slice_get indic_list 4 ≡ Some (Feature (record { 0 = codes "nukt" }) 77 1)
nukt = refl

rphf : slice_get indic_list 8 ≡ Some (Feature (record { 0 = codes "rphf" }) 76 1)
rphf = refl
