-- The length of the list, computed.
use Rattle.std.specs.Prelude.{◌≡◌, length, refl}
use Rattle.shapers_universal.specs.Requests.{universal_list}

universal_list_length : length universal_list ≡ 30
universal_list_length = refl
