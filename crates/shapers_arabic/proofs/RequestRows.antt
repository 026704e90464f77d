-- The list of Arabic, computed: its length, and some of its flags.
use Rattle.std.specs.Prelude.{◌≡◌, true, false, Some, length, slice_get, codes, refl}
use Rattle.shapers_base.specs.declared.plan.planner.Request.TheVariants.{Feature}
use Rattle.shapers_arabic.specs.Requests.{arabic_list, is_arabic}

arabic_without_rclt : length (arabic_list true false) ≡ 26
arabic_without_rclt = refl

arabic_with_rclt : length (arabic_list true true) ≡ 25
arabic_with_rclt = refl

syriac_with_rclt : length (arabic_list false true) ≡ 24
syriac_with_rclt = refl

arab : is_arabic (Some (record { 0 = codes "Arab" })) ≡ true
arab = refl

syrc : is_arabic (Some (record { 0 = codes "Syrc" })) ≡ false
syrc = refl

isol : slice_get (arabic_list true false) 5 ≡ Some (Feature (record { 0 = codes "isol" }) 10 1)
isol = refl

fin2 : slice_get (arabic_list true false) 9 ≡ Some (Feature (record { 0 = codes "fin2" }) 8 1)
fin2 = refl

syriac_isol : slice_get (arabic_list false false) 5 ≡ Some (Feature (record { 0 = codes "isol" }) 8 1)
syriac_isol = refl

rlig : slice_get (arabic_list true false) 19 ≡ Some (Feature (record { 0 = codes "rlig" }) 11 1)
rlig = refl
