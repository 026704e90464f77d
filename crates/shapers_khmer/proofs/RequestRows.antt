-- The length of the lists, computed.
use Rattle.std.specs.Prelude.{◌≡◌, length, refl}
use Rattle.shapers_khmer.specs.Requests.{khmer_list, khmer_overrides}

khmer_list_length : length khmer_list ≡ 14
khmer_list_length = refl

khmer_overrides_length : length khmer_overrides ≡ 2
khmer_overrides_length = refl
