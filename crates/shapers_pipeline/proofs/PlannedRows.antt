-- How long a text may get while it is shaped.
use Rattle.std.specs.Prelude.{◌≡◌, refl}
use Rattle.shapers_pipeline.specs.Planned.{shape_limit}

-- where no length is set, 65,536 up to 256 characters, and from there on 256 for each
no_character : shape_limit 0x3FFFFFFF 0 ≡ 65536
no_character = refl

five_characters : shape_limit 0x3FFFFFFF 5 ≡ 65536
five_characters = refl

few_characters : shape_limit 0x3FFFFFFF 256 ≡ 65536
few_characters = refl

more_characters : shape_limit 0x3FFFFFFF 257 ≡ 65792
more_characters = refl

-- up to the length that a buffer has for which none is set
many_characters : shape_limit 0x3FFFFFFF 4194303 ≡ 1073741568
many_characters = refl

most_characters : shape_limit 0x3FFFFFFF 4194304 ≡ 0x3FFFFFFF
most_characters = refl

-- a length that is set stays, be it short or long
short : shape_limit 5 5 ≡ 5
short = refl

one_less : shape_limit 0x3FFFFFFE 5 ≡ 0x3FFFFFFE
one_less = refl

one_more : shape_limit 0x40000000 5 ≡ 0x40000000
one_more = refl
