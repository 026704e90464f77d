-- A few letters with joining types, for tests.
use Rattle.std.specs.Prelude.{ℕ, ◌==◌, if◌then◌else◌}
use Rattle.rustybuzz_shapers.specs.hb_arabic_joining_type_t.{hb_arabic_joining_type_t}
use Rattle.rustybuzz_shapers.specs.hb_arabic_joining_type_t.TheVariants.{U, R, D, T}

-- D for `d`, R for `r`, T for `t` and for the first selector, U for others
abbrev pub letter_type : ℕ → hb_arabic_joining_type_t
letter_type c =
    if c == 100 then D
    else if c == 114 then R else if c == 116 then T else if c == 0x180B then T else U
