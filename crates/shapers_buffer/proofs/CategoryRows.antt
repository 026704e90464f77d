-- The general categories, all thirty in their order, which of them are marks, and which have a class.
use Rattle.std.specs.Prelude.{◌≡◌, true, false, List, [], ◌∷◌, map, refl}
use Rattle.shapers_buffer.specs.Category.{has_class, is_mark}
use Rattle.shapers_buffer.specs.declared.buffer.category.hb_unicode_general_category_t.{hb_unicode_general_category_t}
use Rattle.shapers_buffer.specs.declared.buffer.category.TheConstants.hb_unicode_general_category_t.{ALL}
use Rattle.shapers_buffer.specs.declared.buffer.category.hb_unicode_general_category_t.TheVariants.{Cc, Cf, Cn, Co, Cs, Ll, Lm, Lo, Lt, Lu, Mc, Me, Mn, Nd, Nl, No, Pc, Pd, Pe, Pf, Pi, Po, Ps, Sc, Sk, Sm, So, Zl, Zp, Zs}

-- by the names of the Unicode Character Database
abbrev pub all_thirty : List hb_unicode_general_category_t
all_thirty = Cc ∷ Cf ∷ Cn ∷ Co ∷ Cs ∷ Ll ∷ Lm ∷ Lo ∷ Lt ∷ Lu ∷ Mc ∷ Me ∷ Mn ∷ Nd ∷ Nl ∷ No ∷ Pc ∷ Pd ∷ Pe ∷ Pf ∷ Pi ∷ Po
    ∷ Ps ∷ Sc ∷ Sk ∷ Sm ∷ So ∷ Zl ∷ Zp ∷ Zs ∷ []

in_order : ALL ≡ all_thirty
in_order = refl

-- Mc, Me and Mn alone
marks : map is_mark all_thirty ≡ false ∷ false ∷ false ∷ false ∷ false ∷ false ∷ false ∷ false ∷ false ∷ false ∷ true
    ∷ true ∷ true ∷ false ∷ false ∷ false ∷ false ∷ false ∷ false ∷ false ∷ false ∷ false ∷ false ∷ false ∷ false
    ∷ false ∷ false ∷ false ∷ false ∷ false ∷ []
marks = refl

-- all but Cf and Zs
classed : map has_class all_thirty ≡ true ∷ false ∷ true ∷ true ∷ true ∷ true ∷ true ∷ true ∷ true ∷ true ∷ true ∷ true ∷ true ∷ true ∷ true ∷ true ∷ true ∷ true ∷ true ∷ true ∷ true ∷ true ∷ true ∷ true ∷ true ∷ true ∷ true ∷ true ∷ true ∷ false ∷ []
classed = refl
