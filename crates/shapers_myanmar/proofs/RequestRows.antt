-- The length of the list, computed.
use Rattle.std.specs.Prelude.{◌≡◌, length, refl}
use Rattle.shapers_myanmar.specs.Requests.{myanmar_list}

myanmar_list_length : length myanmar_list ≡ 17
myanmar_list_length = refl
