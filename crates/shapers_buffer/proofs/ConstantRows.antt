-- Constants by their numbers: classes, flags, the length of a context.
use Rattle.std.specs.Prelude.{◌≡◌, [], ◌∷◌, map, refl}
use Rattle.shapers_buffer.specs.declared.buffer.TheConstants.{CONTEXT_LENGTH}
use Rattle.shapers_buffer.specs.declared.buffer.flags.TheConstants.BufferFlags as flags
use Rattle.shapers_buffer.specs.declared.buffer.glyph_flags.glyph_flag.TheConstants as glyph_flag
use Rattle.shapers_buffer.specs.declared.buffer.modified_combining_class.TheConstants as class

-- the modified combining classes
modified_classes : class.CCC10 ∷ class.CCC14 ∷ class.CCC17 ∷ class.CCC18 ∷ class.CCC22 ∷ class.CCC26 ∷ class.BELOW ∷ []
    ≡ 22 ∷ 23 ∷ 20 ∷ 21 ∷ 25 ∷ 26 ∷ 220 ∷ []
modified_classes = refl

-- the glyph flags
glyph_flags : glyph_flag.UNSAFE_TO_BREAK ∷ glyph_flag.UNSAFE_TO_CONCAT ∷ glyph_flag.SAFE_TO_INSERT_TATWEEL ∷ []
    ≡ 1 ∷ 2 ∷ 4 ∷ []
glyph_flags = refl

-- what the caller asks of the shapers
buffer_flags : map (λ f. f.0) (flags.DO_NOT_INSERT_DOTTED_CIRCLE ∷ flags.PRODUCE_UNSAFE_TO_CONCAT
    ∷ flags.PRODUCE_SAFE_TO_INSERT_TATWEEL ∷ []) ≡ 0x20 ∷ 0x40 ∷ 0x80 ∷ []
buffer_flags = refl

-- how many characters a context keeps
context_length : CONTEXT_LENGTH ≡ 5
context_length = refl
