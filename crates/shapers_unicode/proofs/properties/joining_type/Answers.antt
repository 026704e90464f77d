use Rattle.std.proofs.Common.{◌≡◌, ◌==◌, Some, ap, ◌∙◌, arith, lit<, find}
use Rattle.shapers_base.specs.Numbers.{joining_number, joining_types}
use Rattle.std.specs.Option.{unwrap_or}
use Rattle.shapers_base.specs.declared.plan.joining.hb_arabic_joining_type_t.TheVariants.{U}
use Rattle.shapers_unicode.specs.Joining.{joining_type}
use Rattle.shapers_unicode.proofs.JoiningSteps.{joining-found}
use Rattle.shapers_unicode.proofs.JoiningTable.{IsTable-JOINING, table_value-JOINING}
use Rattle.shapers_unicode.proofs.properties.joining_type.Goals as goal

pub value_of-number-requires : goal.value_of-number-requires
value_of-number-requires c = (lit< tt, IsTable-JOINING)

pub returns : goal.returns
returns c =
    let number = c.value_of-number.ensures ∙ table_value-JOINING c.args.c (omega arith) in
    let found : c.from_number.result ≡ Some (joining_type c.args.c) =
    c.from_number.ensures ∙ ap (λ n. find (λ t. joining_number t == n) joining_types) number
    ∙ joining-found (joining_type c.args.c) in
    c.unwrap_or.ensures ∙ ap (λ o. unwrap_or o U) found
