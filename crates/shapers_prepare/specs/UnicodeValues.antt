-- Unicode's tables as preparing a text sees them.
use Rattle.shapers_buffer.specs.Settings.{character_of}
use Rattle.shapers_unicode.specs.Classes.{modified_class}
use Rattle.shapers_unicode.specs.General.{category_of_character}
use Rattle.shapers_unicode.specs.Ignorable.{default_ignorable}
use Rattle.shapers_unicode.specs.Pairs.{mirrored}
use Rattle.shapers_unicode.specs.Pictographic.{extended_pictographic}
use Rattle.shapers_unicode.specs.Vertical.{vertical_form}
use Rattle.shapers_prepare.specs.CharacterProperties.{CharacterProperties}

-- a number that is no character has the properties of U+FFFD
abbrev pub unicode_properties : CharacterProperties
unicode_properties = record {
  general = λ c. category_of_character (character_of c);
  class = λ c. modified_class (character_of c);
  ignorable = λ c. default_ignorable (character_of c);
  pictographic = λ c. extended_pictographic (character_of c);
  mirroring = λ c. mirrored (character_of c);
  vertical = λ c. vertical_form (character_of c);
}
