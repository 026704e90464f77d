-- The first round on small texts.
use Rattle.std.specs.Prelude.{◌≡◌, ◌-◌, ℕ, Bool, true, false, None, Some, List, [], ◌∷◌, map, refl}
use Rattle.std.specs.List.{range_with_len}
use Rattle.shapers_base.specs.declared.plan.record.NormalizationMode.{NormalizationMode}
use Rattle.shapers_base.specs.declared.plan.record.NormalizationMode.TheVariants.{NONE, AUTO, CD}
use Rattle.shapers_buffer.specs.Glyphs.{Glyph}
use Rattle.shapers_buffer.specs.declared.buffer.level.BufferClusterLevel.{BufferClusterLevel}
use Rattle.shapers_buffer.specs.declared.buffer.level.BufferClusterLevel.TheVariants.{MonotoneGraphemes, MonotoneCharacters, Characters}
use Rattle.shapers_buffer.specs.Glyph.{characters, clusters}
use Rattle.shapers_buffer.specs.Properties.{general_category, high_byte}
use Rattle.shapers_normal.specs.Decomposition.{first_round, space_kind, text_decomposed}
use Rattle.shapers_normal.specs.Variants.{selects_form}
use Rattle.shapers_normal.specs.Properties.{is_seen_by_lookups}
use Rattle.shapers_normal.proofs.RowContext.{with_font, text}

abbrev latin : List ℕ
latin = 0x65 ∷ 0xEA ∷ 0x1EBF ∷ 0xE9 ∷ 0x301 ∷ 0x302 ∷ 0x308 ∷ 0x323 ∷ 0x41 ∷ 0xC5 ∷ 0x30A ∷ 0x344 ∷ 0xFE00 ∷ 0x20
    ∷ 0x2010 ∷ []

abbrev become : NormalizationMode → List ℕ → List ℕ → List ℕ
become mode font cs = characters (text_decomposed (with_font mode font) (text (with_font mode font) cs))

-- alone a character stays if the font has it, unless the shaper wants letters and marks apart
alone_stays : become AUTO latin (0x1EBF ∷ []) ≡ 0x1EBF ∷ []
alone_stays = refl

alone_none : become NONE latin (0x1EBF ∷ []) ≡ 0x1EBF ∷ []
alone_none = refl

alone_apart : become CD latin (0x1EBF ∷ []) ≡ 0x65 ∷ 0x302 ∷ 0x301 ∷ []
alone_apart = refl

-- where the font lacks it, the short way ends at the first base that the font has
shortest : become AUTO (0x65 ∷ 0xEA ∷ 0x301 ∷ 0x302 ∷ []) (0x1EBF ∷ []) ≡ 0xEA ∷ 0x301 ∷ []
shortest = refl

further : become AUTO (0x65 ∷ 0x301 ∷ 0x302 ∷ []) (0x1EBF ∷ []) ≡ 0x65 ∷ 0x302 ∷ 0x301 ∷ []
further = refl

-- it ends before the first part that the font lacks; at the last base that it has
stops_at_302 : become CD (0x65 ∷ 0xEA ∷ 0x1EBF ∷ 0x301 ∷ []) (0x1EBF ∷ []) ≡ 0xEA ∷ 0x301 ∷ []
stops_at_302 = refl

stops_at_301 : become CD (0x65 ∷ 0xEA ∷ 0x1EBF ∷ 0x302 ∷ []) (0x1EBF ∷ []) ≡ 0x1EBF ∷ []
stops_at_301 = refl

last_base : become CD (0xEA ∷ 0x1EBF ∷ 0x301 ∷ 0x302 ∷ []) (0x1EBF ∷ []) ≡ 0xEA ∷ 0x301 ∷ []
last_base = refl

no_base : become CD (0x1EBF ∷ 0x301 ∷ 0x302 ∷ []) (0x1EBF ∷ []) ≡ 0x1EBF ∷ []
no_base = refl

-- into one character: nothing comes off
into_one : become AUTO (0xC5 ∷ 0x41 ∷ 0x30A ∷ []) (0x212B ∷ []) ≡ 0xC5 ∷ []
into_one = refl

into_one_further : become CD (0xC5 ∷ 0x41 ∷ 0x30A ∷ []) (0x212B ∷ []) ≡ 0x41 ∷ 0x30A ∷ []
into_one_further = refl

-- with a mark it comes apart, unless the shaper wants no normalization; the one before it doesn't
with_mark : become AUTO latin (0xE9 ∷ 0x1EBF ∷ 0x323 ∷ []) ≡ 0xE9 ∷ 0x65 ∷ 0x302 ∷ 0x301 ∷ 0x323 ∷ []
unfolding general_category
with_mark = refl

with_mark_none : become NONE latin (0x1EBF ∷ 0x323 ∷ []) ≡ 0x1EBF ∷ 0x323 ∷ []
unfolding general_category
with_mark_none = refl

-- a mark comes apart behind a letter or before a mark; alone in front of the text it stays
mark_in_front : become AUTO latin (0x344 ∷ 0x65 ∷ []) ≡ 0x344 ∷ 0x65 ∷ []
unfolding general_category
mark_in_front = refl

two_marks_in_front : become AUTO latin (0x344 ∷ 0x344 ∷ []) ≡ 0x308 ∷ 0x301 ∷ 0x308 ∷ 0x301 ∷ []
unfolding general_category
two_marks_in_front = refl

mark_behind : become AUTO latin (0x65 ∷ 0x344 ∷ []) ≡ 0x65 ∷ 0x308 ∷ 0x301 ∷ []
unfolding general_category
mark_behind = refl

-- a cluster with a selector is kept, and its neighbours aren't
with_selector : become AUTO latin (0x1EBF ∷ 0xFE00 ∷ 0x344 ∷ 0x1EBF ∷ 0x323 ∷ []) ≡ 0x1EBF ∷ 0xFE00 ∷ 0x344 ∷ 0x65
    ∷ 0x302 ∷ 0x301 ∷ 0x323 ∷ []
unfolding general_category
with_selector = refl

-- parts keep the cluster of what they came from
parts_clusters : clusters (text_decomposed (with_font CD latin) (text (with_font CD latin) (0xE9 ∷ 0x1EBF ∷ 0x65 ∷ [])))
    ≡ 0 ∷ 0 ∷ 1 ∷ 1 ∷ 1 ∷ 2 ∷ []
unfolding general_category
parts_clusters = refl

-- eight steps and no more
abbrev private_use : List ℕ
private_use = 0x301 ∷ range_with_len 0xE000 10

eight_steps : become CD private_use (0xE008 ∷ []) ≡ 0xE000 ∷ 0x301 ∷ 0x301 ∷ 0x301 ∷ 0x301 ∷ 0x301 ∷ 0x301 ∷ 0x301
    ∷ 0x301 ∷ []
eight_steps = refl

nine_steps : become CD private_use (0xE009 ∷ []) ≡ 0xE001 ∷ 0x301 ∷ 0x301 ∷ 0x301 ∷ 0x301 ∷ 0x301 ∷ 0x301 ∷ 0x301
    ∷ 0x301 ∷ []
nine_steps = refl

-- the numbers of glyphs, and the byte that a space's width is kept in
abbrev numbers : List ℕ → List ℕ → List (ℕ × ℕ)
numbers font cs =
    map (λ g. (g.glyph_props.0, high_byte g.unicode_props))
    (text_decomposed (with_font AUTO font) (text (with_font AUTO font) cs))

own : numbers latin (0x65 ∷ 0x1EBF ∷ []) ≡ (0x65, 0) ∷ (0x1EBF, 0) ∷ []
unfolding general_category
own = refl

parts_own : numbers (0x65 ∷ 0x301 ∷ []) (0xE9 ∷ []) ≡ (0x65, 0) ∷ (0x301, 230) ∷ []
parts_own = refl

missing : numbers latin (0x66 ∷ []) ≡ (0, 0) ∷ []
unfolding general_category
missing = refl

space : numbers latin (0x2003 ∷ []) ≡ (0x20, 1) ∷ []
unfolding general_category
space = refl

space_not_drawn : numbers (0x65 ∷ []) (0x20 ∷ 0x2003 ∷ []) ≡ (1, 18) ∷ (1, 1) ∷ []
unfolding general_category
space_not_drawn = refl

own_space : numbers (0x20 ∷ 0x2003 ∷ []) (0x20 ∷ 0x2003 ∷ []) ≡ (0x20, 0) ∷ (0x2003, 0) ∷ []
unfolding general_category
own_space = refl

hyphen : numbers latin (0x2011 ∷ []) ≡ (0x2010, 0) ∷ []
unfolding general_category
hyphen = refl

no_hyphen : numbers (0x2012 ∷ 0x65 ∷ []) (0x2011 ∷ 0x2010 ∷ []) ≡ (0, 0) ∷ (0, 0) ∷ []
unfolding general_category
no_hyphen = refl

-- kept, a character that the font lacks keeps what its caller had there
kept_number : numbers (0xFE00 ∷ []) (0x2011 ∷ 0xFE00 ∷ []) ≡ (0, 0) ∷ (0xFE00, 4) ∷ []
unfolding general_category
kept_number = refl

-- the widths of spaces: of each space and its neighbours
spaces_wide : map space_kind (range_with_len 0x1FFF 14) ≡ None ∷ Some 2 ∷ Some 1 ∷ Some 2 ∷ Some 1 ∷ Some 3 ∷ Some 4
    ∷ Some 6 ∷ Some 19 ∷ Some 20 ∷ Some 5 ∷ Some 16 ∷ None ∷ None ∷ []
spaces_wide = refl

other_spaces : map space_kind (0x1F ∷ 0x20 ∷ 0x21 ∷ 0x9F ∷ 0xA0 ∷ 0xA1 ∷ 0x202E ∷ 0x202F ∷ 0x2030 ∷ 0x205E ∷ 0x205F
    ∷ 0x2060 ∷ 0x2FFF ∷ 0x3000 ∷ 0x3001 ∷ []) ≡ None ∷ Some 18 ∷ None ∷ None ∷ Some 18 ∷ None ∷ None ∷ Some 21 ∷ None
    ∷ None ∷ Some 17 ∷ None ∷ None ∷ Some 1 ∷ None ∷ []
other_spaces = refl

-- a variant stands for a character and its selector, in one cluster; further selectors stay
abbrev forms : BufferClusterLevel → List ℕ → List (ℕ × ℕ × ℕ)
forms level cs =
    map (λ g. (g.glyph_id, g.glyph_props.0, g.cluster))
    (first_round (with_font AUTO latin) level (text (with_font AUTO latin) cs))

variant_stands : forms MonotoneGraphemes (0x65 ∷ 0xFE01 ∷ []) ≡ (0x65, 7, 0) ∷ []
unfolding general_category
variant_stands = refl

further_stay : forms MonotoneCharacters (0x65 ∷ 0xFE01 ∷ 0xFE00 ∷ 0x65 ∷ []) ≡ (0x65, 7, 0) ∷ (0xFE00, 0xFE00, 2)
    ∷ (0x65, 0x65, 3) ∷ []
unfolding general_category
further_stay = refl

behind_others : forms MonotoneGraphemes (0x41 ∷ 0x301 ∷ 0x65 ∷ 0xFE01 ∷ 0x301 ∷ []) ≡ (0x41, 0x41, 0)
    ∷ (0x301, 0x301, 1) ∷ (0x65, 7, 2) ∷ (0x301, 0x301, 4) ∷ []
unfolding general_category
behind_others = refl

-- a selector that begins the text has a variant; one behind another selects nothing
opens_text : forms MonotoneGraphemes (0xFE00 ∷ 0xFE01 ∷ []) ≡ (0xFE00, 7, 0) ∷ []
unfolding general_category
opens_text = refl

behind_selector : forms MonotoneGraphemes (0x41 ∷ 0xFE00 ∷ 0xFE01 ∷ []) ≡ (0x41, 0x41, 0) ∷ (0xFE00, 0xFE00, 1)
    ∷ (0xFE01, 0, 2) ∷ []
unfolding general_category
behind_selector = refl

-- clusters that fall, at a level that merges and at the one that doesn't
abbrev fallen : BufferClusterLevel → List (ℕ × ℕ)
fallen level =
    map (λ g. (g.cluster, g.mask))
    (first_round (with_font AUTO latin) level
    (map (λ g. let r : Glyph = record g { cluster = 1 - g.cluster } in r)
    (text (with_font AUTO latin) (0x65 ∷ 0xFE01 ∷ []))))

fallen_merged : fallen MonotoneCharacters ≡ (0, 0) ∷ []
unfolding general_category
fallen_merged = refl

fallen_flagged : fallen Characters ≡ (1, 3) ∷ []
unfolding general_category
fallen_flagged = refl

-- a selector that selects nothing becomes a format character, and isn't ignorable where it is drawn
abbrev unselected : Bool → List ℕ
unselected draws =
    map (λ g. g.unicode_props.0)
    (text_decomposed (record (with_font AUTO latin) { draws_selectors = draws })
    (text (with_font AUTO latin) (0x41 ∷ 0xFE00 ∷ 0xFE01 ∷ [])))

stays_ignorable : unselected false ≡ 0x0005 ∷ 0x04A1 ∷ 0x008C ∷ []
unfolding general_category
stays_ignorable = refl

is_drawn : unselected true ≡ 0x0005 ∷ 0x0481 ∷ 0x008C ∷ []
unfolding general_category
is_drawn = refl

-- both ends of each range
selectors : map selects_form (0xFDFF ∷ 0xFE00 ∷ 0xFE0F ∷ 0xFE10 ∷ 0xE00FF ∷ 0xE0100 ∷ 0xE01EF ∷ 0xE01F0 ∷ [])
    ≡ false ∷ true ∷ true ∷ false ∷ false ∷ true ∷ true ∷ false ∷ []
selectors = refl

seen : map is_seen_by_lookups (0x34E ∷ 0x34F ∷ 0x350 ∷ 0x180A ∷ 0x180B ∷ 0x180D ∷ 0x180E ∷ 0x180F ∷ 0x1810 ∷ 0xE001F
    ∷ 0xE0020 ∷ 0xE007F ∷ 0xE0080 ∷ []) ≡ false ∷ true ∷ false ∷ false ∷ true ∷ true ∷ false ∷ true ∷ false ∷ false
    ∷ true ∷ true ∷ false ∷ []
seen = refl
