-- Unicode's tables as the shapers see them.
use Rattle.shapers_base.specs.Font.{CharacterTables}
use Rattle.shapers_unicode.specs.General.{category_of_character}
use Rattle.shapers_unicode.specs.Indic.{indic_categories}
use Rattle.shapers_unicode.specs.Joining.{joining_type}
use Rattle.shapers_unicode.specs.Pairs.{composed, decomposed}
use Rattle.shapers_unicode.specs.Universal.{universal_category}

abbrev pub unicode_tables : CharacterTables
unicode_tables =
    record {
      joining = joining_type;
      general = category_of_character;
      indic = indic_categories;
      universal = universal_category;
      composed = composed;
      decomposed = decomposed;
    }
