-- Reordering syllable by syllable, computed on small texts.
use Rattle.std.specs.Prelude.{◌+◌, ◌*◌, ◌≤◌, ◌⊎◌, Err, ◌≡◌, ℕ, List, [], ◌∷◌, length, map, reverse, Option, Some, None, pos, true, false, ◌==◌, if◌then◌else◌, refl}
use Rattle.std.proofs.Common.{inl, inr, arith}
use Rattle.std.specs.List.{range_with_len}
use Rattle.shapers_buffer.specs.Glyphs.{Glyph, Glyphs}
use Rattle.shapers_buffer.specs.declared.buffer.level.BufferClusterLevel.TheVariants.{Characters, MonotoneGraphemes}
use Rattle.shapers_buffer.specs.declared.buffer.syllables.Span.{Span}
use Rattle.shapers_buffer.specs.Buffer.{Buffer, new_buffer}
use Rattle.shapers_buffer.specs.Glyph.{clusters, default_glyph}
use Rattle.shapers_clusters.specs.Steps.{Step, after_steps}
use Rattle.shapers_syllabic.specs.declared.ot_shaper_syllabic.circles.DottedCircles.{DottedCircles}
use Rattle.shapers_syllabic.specs.Reordering.{RefusesIf, SyllablesLinked, TakesText, carried, glyph_numbers, syllable_lens, script_circles, first_unknown, kind_refusal, text_order, text_steps}
use Rattle.shapers_syllabic.specs.declared.ot_shaper_syllabic.circles.ScriptCircles.{ScriptCircles}
use Rattle.shapers_base.specs.Font.{Font}
use Rattle.shapers_base.specs.declared.font.GlyphId.{GlyphId}
use Rattle.shapers_buffer.specs.declared.buffer.refusal.ShaperError.TheVariants.{Memory, TooLong, UnknownSyllable}
use Rattle.shapers_syllabic.specs.Borders.{MeetAtBorder, SameButSerials, spans_setup, unnumbered}
use Rattle.shapers_syllabic.specs.ReorderingLaws.{paused_carried, paused_order}

-- what is carried along, and what is hidden, field by field
abbrev full : Glyph
full = record {
  glyph_id = 0x916;
  mask = 0x1F;
  cluster = 5;
  glyph_props = record { 0 = 0x70 };
  lig_props = record { 0 = 2 };
  syllable = 0x24;
  unicode_props = record { 0 = 0x09AC };
  category = 1;
  auxiliary = 3;
}

carried_full : carried full
    ≡ record {
      glyph_id = 0x916;
      mask = 7;
      cluster = 5;
      glyph_props = record { 0 = 0 };
      lig_props = record { 0 = 2 };
      syllable = 0x24;
      unicode_props = record { 0 = 0x09AC };
      category = 0;
      auxiliary = 0;
    }
carried_full = refl

carried_masks : map (λ m. (carried (record full { mask = m })).mask) (0 ∷ 1 ∷ 2 ∷ 4 ∷ 7 ∷ 8 ∷ 9 ∷ 16 ∷ 0x7FFFFFFF
    ∷ 0x80000000 ∷ []) ≡ 0 ∷ 1 ∷ 2 ∷ 4 ∷ 7 ∷ 0 ∷ 1 ∷ 0 ∷ 7 ∷ 0 ∷ []
carried_masks = refl

carried_default : carried default_glyph ≡ default_glyph
carried_default = refl

-- a glyph by its number, cluster and syllable byte, unsafe to break
abbrev glyph : ℕ × ℕ × ℕ → Glyph
glyph row = record default_glyph { glyph_id = row.0; cluster = row.1; syllable = row.2; mask = 9 }

abbrev text : List (ℕ × ℕ × ℕ) → Glyphs
text rows = map glyph rows

-- syllables of two glyphs, of one and of three; the last has the byte of the first
abbrev three : Glyphs
three = text ((1, 0, 0x10) ∷ (2, 1, 0x10) ∷ (3, 2, 0x24) ∷ (4, 3, 0x10) ∷ (5, 4, 0x10) ∷ (6, 5, 0x10) ∷ [])

-- each syllable for itself: backwards, by its length alone, as it stands
order_backwards : glyph_numbers (text_order reverse three) ≡ 2 ∷ 1 ∷ 3 ∷ 6 ∷ 5 ∷ 4 ∷ []
order_backwards = refl

order_one_each : glyph_numbers (text_order (λ syl. text ((7, length syl, 0) ∷ [])) three) ≡ 7 ∷ 7 ∷ 7 ∷ []
order_one_each = refl

order_kept : text_order (λ syl. syl) three ≡ three
order_kept = refl

-- the lengths of syllables, and what is required of the numbers of each
lens_of_three : syllable_lens three ≡ 2 ∷ 1 ∷ 3 ∷ []
lens_of_three = refl

lens_of_nothing : syllable_lens [] ≡ []
lens_of_nothing = refl

takes_each : TakesText (λ ns. ns ≡ 1 ∷ 2 ∷ [] ⊎ (ns ≡ 3 ∷ [] ⊎ ns ≡ 4 ∷ 5 ∷ 6 ∷ [])) three
takes_each = (inl refl, (inr (inl refl), (inr (inr refl), tt)))

takes_not_the_last : TakesText (λ ns. length ns ≤ 2) three → ⊥
takes_not_the_last all = omega (arith, all.1.1.0)

-- a chain over them, each link of which notes its places; the placement list is emptied behind the last
abbrev noted : ℕ → ℕ → Buffer → Buffer → Type 0
noted s e old new = new ≡ record old { max_len = old.max_len * 100 + (s * 10 + e) }

chain_of_three : SyllablesLinked noted (record (new_buffer 0) { glyphs = three; places = 7 ∷ [] })
    (record (new_buffer 22336) { glyphs = three })
chain_of_three = search arith

chain_of_nothing : SyllablesLinked noted (record (new_buffer 5) { places = 7 ∷ [] }) (new_buffer 5)
chain_of_nothing = refl

-- refusals of an order that may refuse, and of one that doesn't
refuses_memory : RefusesIf {T = Unit} true (Err Memory)
refuses_memory = refl

refuses_nothing_else : RefusesIf {T = Unit} true (Err TooLong) → ⊥
refuses_nothing_else is = absurd (cc)

refuses_never : RefusesIf {T = Unit} false (Err Memory) → ⊥
refuses_never is = absurd (cc)

order_of_nothing : text_order reverse [] ≡ []
order_of_nothing = refl

-- a syllable that merges whole and turns backwards; the same merging its first two places once more then
abbrev turned : Glyphs → List Step
turned syl = record {
  merged_first = (0, length syl) ∷ [];
  places = reverse (range_with_len 0 (length syl));
  merged_then = [];
} ∷ []

abbrev turned_twice : Glyphs → List Step
turned_twice syl =
    record { merged_first = []; places = reverse (range_with_len 0 (length syl)); merged_then = (0, 2) ∷ [] }
    ∷ turned syl

steps_of_text : text_steps turned three
    ≡ record { merged_first = (0, 2) ∷ []; places = 1 ∷ 0 ∷ 2 ∷ 3 ∷ 4 ∷ 5 ∷ []; merged_then = [] }
    ∷ record { merged_first = (2, 3) ∷ []; places = 0 ∷ 1 ∷ 2 ∷ 3 ∷ 4 ∷ 5 ∷ []; merged_then = [] }
    ∷ record { merged_first = (3, 6) ∷ []; places = 0 ∷ 1 ∷ 2 ∷ 5 ∷ 4 ∷ 3 ∷ []; merged_then = [] } ∷ []
steps_of_text = refl

steps_in_their_order : text_steps turned_twice (text ((1, 0, 0x20) ∷ (2, 1, 0x10) ∷ (3, 2, 0x10) ∷ []))
    ≡ record { merged_first = []; places = 0 ∷ 1 ∷ 2 ∷ []; merged_then = (0, 2) ∷ [] }
    ∷ record { merged_first = (0, 1) ∷ []; places = 0 ∷ 1 ∷ 2 ∷ []; merged_then = [] }
    ∷ record { merged_first = []; places = 0 ∷ 2 ∷ 1 ∷ []; merged_then = (1, 3) ∷ [] }
    ∷ record { merged_first = (1, 3) ∷ []; places = 0 ∷ 2 ∷ 1 ∷ []; merged_then = [] } ∷ []
steps_in_their_order = refl

steps_of_nothing : text_steps turned [] ≡ []
steps_of_nothing = refl

-- where the steps lead, at a level that merges and at one that doesn't
steps_lead : map (λ g. let row : ℕ × ℕ × ℕ = (g.glyph_id, g.cluster, g.mask) in row)
    (after_steps MonotoneGraphemes (text_steps turned three) three) ≡ (2, 0, 8) ∷ (1, 0, 9) ∷ (3, 2, 9) ∷ (6, 3, 8)
    ∷ (5, 3, 8) ∷ (4, 3, 9) ∷ []
steps_lead = refl

steps_move : clusters (after_steps Characters (text_steps turned three) three) ≡ 1 ∷ 0 ∷ 2 ∷ 5 ∷ 4 ∷ 3 ∷ []
steps_move = refl

-- syllables of equal clusters merge across their border
steps_across : clusters (after_steps MonotoneGraphemes
    (text_steps turned (text ((1, 0, 0x10) ∷ (2, 2, 0x20) ∷ (3, 2, 0x30) ∷ (4, 1, 0x30) ∷ [])))
    (text ((1, 0, 0x10) ∷ (2, 2, 0x20) ∷ (3, 2, 0x30) ∷ (4, 1, 0x30) ∷ []))) ≡ 0 ∷ 1 ∷ 1 ∷ 1 ∷ []
steps_across = refl

-- a whole pause: circles first, and then the order of the circled syllables
abbrev circles : DottedCircles
circles = record { broken_kind = 4; circle = record default_glyph { glyph_id = 7; category = 11 }; repha = None }

abbrev broken : Glyphs
broken = text ((1, 0, 0x14) ∷ (2, 1, 0x14) ∷ (3, 2, 0x20) ∷ [])

pause_order : glyph_numbers (paused_order (Some circles) reverse broken) ≡ 2 ∷ 1 ∷ 7 ∷ 3 ∷ []
pause_order = refl

pause_order_without : glyph_numbers (paused_order None reverse broken) ≡ 2 ∷ 1 ∷ 3 ∷ []
pause_order_without = refl

pause_carried : map (λ g. let row : ℕ × ℕ × ℕ × ℕ = (g.glyph_id, g.cluster, g.mask, g.category) in row)
    (paused_carried (Some circles) turned MonotoneGraphemes broken) ≡ (2, 0, 0, 0) ∷ (1, 0, 1, 0) ∷ (7, 0, 1, 0)
    ∷ (3, 2, 1, 0) ∷ []
pause_carried = refl

-- texts that meet at a border: other bytes at the cut, or nothing on one side; and two that don't
border : MeetAtBorder (text ((1, 0, 0x20) ∷ (2, 0, 0x10) ∷ [])) (text ((3, 0, 0x20) ∷ (4, 0, 0x10) ∷ []))
border some more same = absurd (omega arith)

border_before : MeetAtBorder [] three
border_before some more same = absurd (omega arith)

border_behind : MeetAtBorder three []
border_behind some more same = absurd (omega arith)

no_border : MeetAtBorder (text ((1, 0, 0x20) ∷ (2, 0, 0x10) ∷ [])) (text ((3, 0, 0x10) ∷ (4, 0, 0x20) ∷ [])) → ⊥
no_border meets = meets (omega arith) (omega arith) refl

-- a glyph without the serial of its syllable, field by field, and texts that differ in serials alone
unnumbered_full : unnumbered full ≡ record full { syllable = 4 }
unnumbered_full = refl

unnumbered_bytes : map (λ byte. (unnumbered (record full { syllable = byte })).syllable) (0 ∷ 0x0F ∷ 0x10 ∷ 0x14 ∷ 0xF4
    ∷ 0xFF ∷ []) ≡ 0 ∷ 15 ∷ 0 ∷ 4 ∷ 4 ∷ 15 ∷ []
unnumbered_bytes = refl

other_serials : SameButSerials (text ((1, 0, 0x14) ∷ (2, 0, 0x20) ∷ (3, 0, 0x20) ∷ []))
    (text ((1, 0, 0xF4) ∷ (2, 0, 0x10) ∷ (3, 0, 0x10) ∷ []))
other_serials = refl

other_kinds : SameButSerials (text ((1, 0, 0x14) ∷ [])) (text ((1, 0, 0x15) ∷ [])) → ⊥
other_kinds = search arith

other_cut : SameButSerials (text ((1, 0, 0x14) ∷ (2, 0, 0x14) ∷ [])) (text ((1, 0, 0x14) ∷ (2, 0, 0x24) ∷ [])) → ⊥
other_cut same = cc

-- spans of two glyphs, one and two, set up whole and in halves: the second half has other serials,
-- and nothing else differs
abbrev spans_of : List (ℕ × ℕ) → List Span
spans_of rows = map (λ row. let span : Span = record { len = row.0; kind = row.1 } in span) rows

abbrev setup_of : List (ℕ × ℕ) → List ℕ → List (ℕ × ℕ × ℕ)
setup_of spans cs =
    map (λ g. let row : ℕ × ℕ × ℕ = (g.cluster, g.syllable, g.mask) in row) (spans_setup (spans_of spans) 4
    (record (new_buffer 100) { glyphs = map (λ c. record default_glyph { cluster = c }) cs })).glyphs

setup_whole : setup_of ((2, 0) ∷ (1, 4) ∷ (2, 1) ∷ []) (0 ∷ 1 ∷ 2 ∷ 3 ∷ 4 ∷ []) ≡ (0, 0x10, 0) ∷ (1, 0x10, 3)
    ∷ (2, 0x24, 0) ∷ (3, 0x31, 0) ∷ (4, 0x31, 3) ∷ []
setup_whole = refl

setup_first : setup_of ((2, 0) ∷ (1, 4) ∷ []) (0 ∷ 1 ∷ 2 ∷ []) ≡ (0, 0x10, 0) ∷ (1, 0x10, 3) ∷ (2, 0x24, 0) ∷ []
setup_first = refl

setup_second : setup_of ((2, 1) ∷ []) (3 ∷ 4 ∷ []) ≡ (3, 0x11, 0) ∷ (4, 0x11, 3) ∷ []
setup_second = refl

-- the circles of a shaper in a buffer, by the font's glyph
abbrev script : ScriptCircles
script = record { broken_kind = 4; category = 11; repha = Some 14; position = Some 3 }

abbrev font_of : Option GlyphId → Font
font_of glyph = record {
  nominal = λ c. (if c == 0x25CC then glyph else None);
  advance = λ g. pos 0;
  applies = λ lookup gs context. false;
  offers = λ tag. false;
}

circles_wanted : script_circles script (font_of (Some (record { 0 = 7 }))) (record (new_buffer 9) { broken = true })
    ≡ Some (record {
      broken_kind = 4;
      circle = record default_glyph { glyph_id = 7; category = 11; auxiliary = 3 };
      repha = Some 14;
    })
circles_wanted = refl

circles_without_broken : script_circles script (font_of (Some (record { 0 = 7 }))) (new_buffer 9) ≡ None
circles_without_broken = refl

circles_without_glyph : script_circles script (font_of None) (record (new_buffer 9) { broken = true }) ≡ None
circles_without_glyph = refl

-- unknown kinds: those above the last known, the first place of the first such syllable
kinds_known : kind_refusal (Some 4) three ≡ None
kinds_known = refl

kind_unknown : kind_refusal (Some 3) three ≡ Some (UnknownSyllable 2)
kind_unknown = refl

kinds_all_known : kind_refusal None (text ((1, 0, 0x1F) ∷ [])) ≡ None
kinds_all_known = refl

kind_at_once : map (λ last. first_unknown (Some last) (text ((1, 0, 0x12) ∷ (2, 0, 0x12) ∷ (3, 0, 0x21) ∷ [])))
    (0 ∷ 1 ∷ 2 ∷ []) ≡ Some 0 ∷ Some 0 ∷ None ∷ []
kind_at_once = refl
