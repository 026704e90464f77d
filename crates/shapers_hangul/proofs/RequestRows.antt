-- The lists of Hangul, computed: their lengths.
use Rattle.std.specs.Prelude.{◌≡◌, length, refl}
use Rattle.shapers_hangul.specs.Requests.{hangul_list, hangul_overrides}

hangul : length hangul_list ≡ 3
hangul = refl

hangul_after : length hangul_overrides ≡ 1
hangul_after = refl
