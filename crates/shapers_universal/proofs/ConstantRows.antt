-- The categories of the universal shaper, by their numbers.
use Rattle.std.specs.Prelude.{◌≡◌, [], ◌∷◌, refl}
use Rattle.shapers_universal.specs.declared.ot_shaper_use.category.TheConstants as category

universal_category : category.O ∷ category.B ∷ category.N ∷ category.GB ∷ category.CGJ ∷ category.SUB ∷ category.H
    ∷ category.HN ∷ category.ZWNJ ∷ category.WJ ∷ category.RSV ∷ category.R ∷ category.S ∷ category.VPre
    ∷ category.VMPre ∷ category.FAbv ∷ category.FBlw ∷ category.FPst ∷ category.MAbv ∷ category.MBlw ∷ category.MPst
    ∷ category.MPre ∷ category.CMAbv ∷ category.CMBlw ∷ category.VAbv ∷ category.VBlw ∷ category.VPst ∷ category.VMAbv
    ∷ category.VMBlw ∷ category.VMPst ∷ category.SMAbv ∷ category.SMBlw ∷ category.CS ∷ category.IS ∷ category.FMAbv
    ∷ category.FMBlw ∷ category.FMPst ∷ category.Sk ∷ category.G ∷ category.J ∷ category.SB ∷ category.SE ∷ category.HVM
    ∷ category.HM ∷ category.HR ∷ [] ≡ 0 ∷ 1 ∷ 4 ∷ 5 ∷ 6 ∷ 11 ∷ 12 ∷ 13 ∷ 14 ∷ 16 ∷ 17 ∷ 18 ∷ 19 ∷ 22 ∷ 23 ∷ 24 ∷ 25
    ∷ 26 ∷ 27 ∷ 28 ∷ 29 ∷ 30 ∷ 31 ∷ 32 ∷ 33 ∷ 34 ∷ 35 ∷ 37 ∷ 38 ∷ 39 ∷ 41 ∷ 42 ∷ 43 ∷ 44 ∷ 45 ∷ 46 ∷ 47 ∷ 48 ∷ 49 ∷ 50
    ∷ 51 ∷ 52 ∷ 53 ∷ 54 ∷ 55 ∷ []
universal_category = refl
