-- Contexts of a font whose rules put one glyph for one, and texts that take them piece by piece.
use Rattle.std.specs.Prelude.{ℕ, zero, suc, ◌+◌, ◌-◌, ◌*◌, ◌^◌, ◌%◌, ◌==◌, ◌||◌, ◌<◌, ◌≤◌, ◌≡◌, Bool, true, false, List, length, IfSome, Option}
use Rattle.std.specs.List.{AllByRecursion}
use Rattle.shapers_buffer.specs.Buffer.{Buffer}
use Rattle.shapers_buffer.specs.Glyphs.{Glyph, Glyphs}
use Rattle.opentype_face.specs.Bytes.{u16_in}
use Rattle.opentype_face.specs.Firsts.{first_from}
use Rattle.opentype_face.specs.Lookups.{lookup_in, operations_in, subtable_in, subtables_in, type_in}
use Rattle.opentype_layout.specs.Looking.{context_rules}
use Rattle.opentype_layout.specs.Rules.{Found, Sought, context_in}
use Rattle.opentype_gsub.specs.Along.{lookup_applied, lookup_stepped}
use Rattle.opentype_gsub.specs.Setting.{sights_within}
use Rattle.opentype_gsub.specs.Substituted.{setting_for}
use Rattle.opentype_gsub.specs.declared.pass.LookupUse.{LookupUse}
use Rattle.opentype_gsub.specs.declared.pass.Sights.{Sights}
use Rattle.opentype_break_laws.specs.OneForOne.{PutOneForOne}
use Rattle.opentype_break_laws.specs.OrderedTexts.{HasNoComponents}

-- ---- the rules of a font's contexts

-- each rule that a table of contexts (types 5 and 6) has for a glyph, by any of its subtables
abbrev pub EachRule : (Sought → Type 0) → List ℕ → Type 0
EachRule P table = (i number : ℕ) → i < subtables_in table →
    IfSome (context_rules (type_in 7 table i == 6) (subtable_in 7 table i) number)
    (λ rules. (j : ℕ) → j < rules.count → P (rules.rule j))

-- the lookup that record k of a rule names
abbrev pub lookup_named : List ℕ → List ℕ → ℕ → List ℕ
lookup_named gsub records k = lookup_in gsub (u16_in records (k * 4 + 2))

-- how many operations it takes to apply so many lookups of a rule, from one on, and to end the rule
abbrev pub rule_operations : List ℕ → List ℕ → ℕ → ℕ → ℕ
rule_operations gsub records zero k = 1
rule_operations gsub records (suc n) k =
    operations_in (lookup_named gsub records k) + rule_operations gsub records n (k + 1)

-- Each lookup that so many records name puts one glyph for one, and all of them take at most so
-- many operations.
pub record ApplyOneForOne (random : Bool) (gsub : List ℕ) (most : ℕ) (records : List ℕ)
    (count : ℕ) : Type 0 where
  pub lookups : (k : ℕ) → k < count → PutOneForOne random (lookup_named gsub records k)
  pub operations : rule_operations gsub records count 0 ≤ most

-- A table has contexts: it has subtables, and all are of types 5 and 6, with such rules.
pub record HasContexts (random : Bool) (gsub : List ℕ) (most : ℕ) (table : List ℕ) :
    Type 0 where
  pub some : 0 < subtables_in table
  pub types : (i : ℕ) → i < subtables_in table →
      ((type_in 7 table i == 5) || (type_in 7 table i == 6)) ≡ true
  pub rules : EachRule (λ rule. ApplyOneForOne random gsub most rule.records rule.count) table

-- A lookup puts glyphs in by contexts, by a font's GSUB. It stays in no syllable, and its mask has
-- no glyph flag.
pub record PutsInContext (most : ℕ) (gsub : List ℕ) (use_of : LookupUse) : Type 0 where
  pub table : HasContexts use_of.random gsub most (lookup_in gsub use_of.index)
  pub across : use_of.per_syllable ≡ false
  pub flagless : use_of.mask % 8 ≡ 0

-- ---- texts

-- the first rule of a table of contexts that fits a place of a text, by its subtables in turn
unfoldable pub context_fit : List ℕ → Sights → List ℕ → Glyphs → ℕ → Option Found
context_fit gdef sights table gs at = first_from (subtables_in table) (λ i.
    context_in (type_in 7 table i == 6) gdef sights.input sights.context (subtable_in 7 table i)
    gs at) 0

-- Rules that fit a text looked at 255 glyphs or less, which are as many as HarfBuzz flags.
abbrev pub LookAtFew : List ℕ → LookupUse → List ℕ → Glyphs → Type 0
LookAtFew gdef use_of table gs = (at : ℕ) → at < length gs →
    IfSome (context_fit gdef (sights_within gdef use_of table 0) table gs at)
    (λ m. m.stop - m.start ≤ 255)

-- So of the text as it is after any number of the lookup's steps: each rule that fits flags what it
-- looked at.
abbrev pub FlagsWhatItReads : List ℕ → List ℕ → LookupUse → Buffer → Type 0
FlagsWhatItReads gdef gsub use_of b =
    let table = lookup_in gsub use_of.index in
    let step = lookup_stepped (setting_for gdef gsub use_of b) table in
    (steps : ℕ) → LookAtFew gdef use_of table
    (lookup_applied steps step b.glyphs 0 b.lookups).text

-- a glyph is of a feature: its mask has a bit that is no glyph flag
abbrev pub HasFeature : Glyph → Type 0
HasFeature g = 8 ≤ g.mask % 2 ^ 32

-- so many operations are left for each glyph of a buffer
abbrev pub HasOperations : ℕ → Buffer → Type 0
HasOperations most b = most * length b.glyphs ≤ b.lookups.operations_left

-- A text that takes contexts piece by piece: no glyph is of a ligature's component, each is of a
-- feature, and rules flag what they look at. It is as long as buffers are, and has operations for
-- a rule at each glyph.
pub record TakesContexts (most : ℕ) (gdef gsub : List ℕ) (use_of : LookupUse)
    (b : Buffer) : Type 0 where
  pub components : HasNoComponents b.glyphs
  pub features : AllByRecursion HasFeature b.glyphs
  pub flagging : FlagsWhatItReads gdef gsub use_of b
  pub size : length b.glyphs < 2 ^ 64
  pub operations : HasOperations most b
