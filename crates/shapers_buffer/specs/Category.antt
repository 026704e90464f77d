-- General categories, by their numbers, which of them are of marks, and which have a class.
use Rattle.std.specs.Prelude.{ℕ, Bool, true, false, List, [], ◌∷◌}
use Rattle.shapers_buffer.specs.declared.buffer.category.hb_unicode_general_category_t.{hb_unicode_general_category_t}
use Rattle.shapers_buffer.specs.declared.buffer.category.hb_unicode_general_category_t.TheVariants.{Cc, Cf, Cn, Co, Cs, Ll, Lm, Lo, Lt, Lu, Mc, Me, Mn, Nd, Nl, No, Pc, Pd, Pe, Pf, Pi, Po, Ps, Sc, Sk, Sm, So, Zl, Zp, Zs}

-- the general categories, each at the place of its number
abbrev pub categories : List hb_unicode_general_category_t
categories =
    Cc ∷ Cf ∷ Cn ∷ Co ∷ Cs ∷ Ll ∷ Lm ∷ Lo ∷ Lt ∷ Lu ∷ Mc ∷ Me ∷ Mn ∷ Nd ∷ Nl ∷ No ∷ Pc ∷ Pd ∷ Pe
    ∷ Pf ∷ Pi ∷ Po ∷ Ps ∷ Sc ∷ Sk ∷ Sm ∷ So ∷ Zl ∷ Zp ∷ Zs ∷ []

-- the number of a category
abbrev pub category_number : hb_unicode_general_category_t → ℕ
category_number Cc = 0
category_number Cf = 1
category_number Cn = 2
category_number Co = 3
category_number Cs = 4
category_number Ll = 5
category_number Lm = 6
category_number Lo = 7
category_number Lt = 8
category_number Lu = 9
category_number Mc = 10
category_number Me = 11
category_number Mn = 12
category_number Nd = 13
category_number Nl = 14
category_number No = 15
category_number Pc = 16
category_number Pd = 17
category_number Pe = 18
category_number Pf = 19
category_number Pi = 20
category_number Po = 21
category_number Ps = 22
category_number Sc = 23
category_number Sk = 24
category_number Sm = 25
category_number So = 26
category_number Zl = 27
category_number Zp = 28
category_number Zs = 29

-- whether the category is one of the three of marks
abbrev pub is_mark : hb_unicode_general_category_t → Bool
is_mark Mc = true
is_mark Me = true
is_mark Mn = true
is_mark _ = false

-- Whether a character of this category has a combining class. Where HarfBuzz keeps it, a format
-- character says which joiner it is, and a space separator of which kind: these two have none.
abbrev pub has_class : hb_unicode_general_category_t → Bool
has_class Cf = false
has_class Zs = false
has_class _ = true
