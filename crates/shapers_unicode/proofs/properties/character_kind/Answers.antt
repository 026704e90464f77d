use Rattle.std.proofs.Common.{◌%◌, ◌/◌, ◌==◌, ap, ◌∙◌, slice_index_or}
use Rattle.shapers_buffer.specs.Category.{categories}
use Rattle.shapers_buffer.specs.declared.buffer.category.hb_unicode_general_category_t.TheVariants.{Cn}
use Rattle.shapers_buffer.proofs.PropertyLemmas.{by_number}
use Rattle.shapers_unicode.specs.General.{category_of_character}
use Rattle.shapers_unicode.proofs.CharacterSteps.{category-told, class-told, ignorable-told}
use Rattle.shapers_unicode.proofs.properties.character_kind.Goals as goal

pub returns : goal.returns
returns c =
    let told = c.bits_at-bits.ensures in
    let general = c.from_number_or_unassigned.ensures
    ∙ ap (λ n. slice_index_or categories (n % 32) Cn) told
    ∙ ap (λ n. slice_index_or categories n Cn) (category-told c.args.c)
    ∙ by_number (category_of_character c.args.c) in
    let class = ap (λ n. n / 256) told ∙ class-told c.args.c in
    let ignorable = ap (λ n. n / 32 % 2 == 1) told ∙ ignorable-told c.args.c in
    cc (general, class, ignorable)
