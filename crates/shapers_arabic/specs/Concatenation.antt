-- Where texts may be put together, as far as joining goes.
use Rattle.std.specs.Prelude.{◌≡◌, ◌<◌, List, ◌++◌, length, reverse, None}
use Rattle.shapers_base.specs.declared.plan.joining.hb_arabic_joining_type_t.{hb_arabic_joining_type_t}
use Rattle.shapers_clusters.specs.Borders.{IsOpen}
use Rattle.shapers_arabic.specs.Joining.{nearest, forms}
use Rattle.shapers_arabic.specs.JoiningFlags.{joining_flags}

-- Where two texts, ts us and cs ds, are open at their borders, ts ds has the forms of both. Where
-- ds has no letter, none may follow it.
abbrev pub ConcatenationLaw : Type 0
ConcatenationLaw = (before ts us after front cs ds behind : List hb_arabic_joining_type_t) →
    0 < length us → IsOpen (joining_flags before (ts ++ us) after) (length ts) →
    IsOpen (joining_flags front (cs ++ ds) behind) (length cs) →
    (nearest ds ≡ None → nearest behind ≡ None) →
    forms before (ts ++ ds) behind
    ≡ forms before ts (us ++ after) ++ forms (reverse cs ++ front) ds behind
