-- Where the forms of a text are those of its halves.
use Rattle.std.proofs.Common.{arith}
use Rattle.std.proofs.Common.{◌≡◌, ◌<◌, ◌||◌, List, [], ◌++◌, length, reverse, ◌∙◌}
use Rattle.std.proofs.lemmas.Bool.{or_from}
use Rattle.std.proofs.lemmas.List.{take_at, drop_at}
use Rattle.std.proofs.lemmas.List.Folds.{list_any-append}
use Rattle.shapers_base.specs.declared.plan.joining.hb_arabic_joining_type_t.{hb_arabic_joining_type_t}
use Rattle.shapers_arabic.specs.Joining.{nearest, forms}
use Rattle.shapers_arabic.specs.JoiningFlags.{nearest_letter}
use Rattle.shapers_arabic.proofs.JoiningLists.{length-forms, forms-append}
use Rattle.shapers_clusters.proofs.ClearPlaces.{held_by_calls}
use Rattle.shapers_arabic.specs.Breaks.{sound_flags, MayBreak, AsCodeLaw, ExactLaw}
use Rattle.shapers_arabic.proofs.FlaggedPlaces.{changed, joining-held, forms-held}
use Rattle.shapers_arabic.proofs.LostForms.{lost, first-keeps, first-kept, second-keeps, second-kept, fits, takes-lost}

pub as-code : AsCodeLaw
as-code = search (arith, first-keeps, joining-held, first-kept)

first_half_breaks : (before ts us after : List hb_arabic_joining_type_t) → MayBreak before ts us after
    → forms before ts (us ++ after) ≡ forms before ts []
first_half_breaks before ts us after =
    let n = length ts in
    search (
      arith,
      take_at (forms before ts (us ++ after)) (forms (reverse ts ++ before) us after) n
          (length-forms before ts (us ++ after)),
      forms-append,
      take_at (forms before ts []) (forms [] us after) n (length-forms before ts []),
    )

second_half_breaks : (before ts us after : List hb_arabic_joining_type_t) → MayBreak before ts us after
    → forms (reverse ts ++ before) us after ≡ forms [] us after
second_half_breaks before ts us after =
    let n = length ts in
    search (
      arith,
      drop_at (forms before ts (us ++ after)) (forms (reverse ts ++ before) us after) n
          (length-forms before ts (us ++ after)),
      forms-append,
      drop_at (forms before ts []) (forms [] us after) n (length-forms before ts []),
    )

-- the flags of Sound at the border: the first half loses a form, or the second
sound-held : (before ts us after : List hb_arabic_joining_type_t) → 0 < length ts → 0 < length us
    → held_by_calls (length ts) (sound_flags before (ts ++ us) after)
    ≡ (changed before (nearest_letter (reverse ts)) (nearest (us ++ after))
    || lost (nearest (reverse ts ++ before)) us after)
sound-held = search (arith, list_any-append, joining-held, forms-held, takes-lost, fits)

pub exact : ExactLaw
exact before ts us after some more =
    let c = changed before (nearest_letter (reverse ts)) (nearest (us ++ after)) in
    let here = sound-held before ts us after some more in (
      search (arith, forms-append, first-keeps, second-keeps),
      λ may. here
          ∙ or_from c (lost (nearest (reverse ts ++ before)) us after) (search (arith, first-kept, first_half_breaks))
          (search (arith, second-kept, second_half_breaks)),
    )
