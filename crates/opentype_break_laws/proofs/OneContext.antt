-- The font of one context meets the law of contexts in every text of at most 255 glyphs whose lookups begin.
use Rattle.std.proofs.Common.{ℕ, zero, suc, ◌+◌, ◌-◌, ◌%◌, ◌<◌, ◌≤◌, ◌≡◌, ◌==◌, true, false, Bool, List, [], ◌∷◌, length, length-append, map, drop, is_some, replicate, Option, None, Some, refl, sym, ap, ◌∙◌, subst, arith, if◌then◌else◌}
use Rattle.std.specs.List.{AllByRecursion}
use Rattle.std.specs.Prelude.{IfSome}
use Rattle.std.proofs.lemmas.List.{length-map}
use Rattle.shapers_buffer.specs.Buffer.{Buffer}
use Rattle.shapers_buffer.specs.Glyph.{plain}
use Rattle.shapers_buffer.specs.Glyphs.{Glyph, Glyphs}
use Rattle.shapers_buffer.specs.Properties.{no_ligature}
use Rattle.shapers_buffer.specs.declared.buffer.lig_props.LigProps.{LigProps}
use Rattle.shapers_clusters.specs.Flags.{bit_at}
use Rattle.shapers_break_laws.specs.Pieces.{CutWhereClear, SameButFlags}
use Rattle.shapers_break_laws.proofs.Pieces.{ChangesGlyphs, kind-twice, reads_order}
use Rattle.opentype_face.specs.Glyphs.{coverage_in}
use Rattle.opentype_face.specs.Lookups.{lookup_in, subtable_in, type_in}
use Rattle.opentype_layout.specs.Looking.{RuleList, context_rules, one_in}
use Rattle.opentype_layout.specs.Rules.{chained_in, first_at, kind_in, rule_in}
use Rattle.opentype_font.specs.Lookups.{use_for}
use Rattle.shapers_editing.specs.PipelineBreaks.{AreAsIn, IsPiece, Numbering, ligatures, unlinked}
use Rattle.shapers_editing.proofs.PiecesAlike.{as_long, cut_each}
use Rattle.opentype_break_laws.specs.Contexts.{ApplyOneForOne, HasFeature, HasOperations, PutsInContext, TakesContexts, lookup_named}
use Rattle.opentype_break_laws.specs.FontContexts.{ContextsLeavePieces, ShortTextsFlag}
use Rattle.opentype_break_laws.specs.OneContext.{IsPutInPieces, glyph_begun, one_context, put_in_context, lookups_begun}
use Rattle.opentype_break_laws.specs.OneForOne.{PutOneForOne}
use Rattle.opentype_break_laws.specs.OrderedTexts.{HasNoComponents}
use Rattle.opentype_break_laws.specs.TwoSingles.{first_lookup}

-- ---- THE FONT: its rule applies the second lookup, by two operations

some_if : (P : RuleList → Type 0) (b : Bool) (rules : RuleList) → P rules
    → IfSome (let o : Option RuleList = (if b then Some rules else None) in o) P
some_if P true rules is = is
some_if P false rules is = tt

-- the subtable of the first lookup
abbrev chained : List ℕ
chained = drop 24 one_context

abbrev IsPutByRules : RuleList → Type 0
IsPutByRules rules = (j : ℕ) → j < rules.count
    → ApplyOneForOne false one_context 2 (rules.rule j).records (rules.rule j).count

applies : ApplyOneForOne false one_context 2 (rule_in (kind_in true chained) chained).records
    (rule_in (kind_in true chained) chained).count
unfolding rule_in chained_in kind_in
applies = record {
  lookups = λ k lt. (let one : k < 1 = lt in
      let z : 0 ≡ k = omega (arith, one) in
      subst (λ j. PutOneForOne false (lookup_named one_context (drop 38 one_context) j)) z
      (omega arith, λ i less. refl));
  operations = omega arith;
}

each : (number : ℕ) → IfSome (context_rules true chained number) IsPutByRules
unfolding context_rules first_at kind_in
each number = some_if IsPutByRules (is_some (coverage_in (drop 42 one_context) number))
    (one_in (kind_in true chained) chained) (λ j lt. applies)

pub puts_in_context : PutsInContext 2 one_context (use_for first_lookup)
puts_in_context = record {
  table = record {
    some = omega arith;
    types = λ i less. refl;
    rules = λ i number less. (let z : 0 ≡ i = omega (arith, less) in
        subst (λ j. IfSome (context_rules (type_in 7 (lookup_in one_context 0) j == 6)
        (subtable_in 7 (lookup_in one_context 0) j) number) IsPutByRules) z (each number));
  };
  across = refl;
  flagless = refl;
}

-- ---- A TEXT WHOSE LOOKUPS BEGIN

featured : (gs : Glyphs) → AllByRecursion HasFeature (map glyph_begun gs)
featured [] = tt
featured (g ∷ gs) = (omega arith, featured gs)

componentless : (gs : Glyphs) → HasNoComponents (map glyph_begun gs)
componentless [] = tt
componentless (g ∷ gs) = (refl, componentless gs)

has_operations : (b : Buffer) → length b.glyphs ≤ 255 → HasOperations 2 (lookups_begun b)
has_operations b few = omega (arith, few, length-map b.glyphs glyph_begun)

takes : ShortTextsFlag → (b : Buffer) → length b.glyphs ≤ 255
    → TakesContexts 2 [] one_context (use_for first_lookup) (lookups_begun b)
takes short b few =
    let long = length-map b.glyphs glyph_begun in
    record {
      components = componentless b.glyphs;
      features = featured b.glyphs;
      flagging = short [] one_context first_lookup (lookups_begun b) 2 puts_in_context (componentless b.glyphs)
          (featured b.glyphs) (omega (arith, few, long)) (has_operations b few);
      size = omega (arith, few, long);
      operations = has_operations b few;
    }

-- ---- ITS PIECES begin as it does

flags_stay : (m k : ℕ) → k < 3 → bit_at k m ≤ bit_at k (256 + m % 8)
flags_stay m zero less = omega arith
flags_stay m (suc zero) less = omega arith
flags_stay m (suc (suc zero)) less = omega arith
flags_stay m (suc (suc (suc k))) less = absurd (omega (arith, less))

begins : ChangesGlyphs glyph_begun
begins = reads_order glyph_begun (record {
  added = λ g. record { same = refl; kept = flags_stay g.mask };
  byte = λ g. refl;
  viewed = λ g. (let same : (256 + g.mask % 8) - (256 + g.mask % 8) % 8
      ≡ (256 + (g.mask - g.mask % 8) % 8) - (256 + (g.mask - g.mask % 8) % 8) % 8 = omega arith in
      ap (λ (k : ℕ). let r : Glyph = record (glyph_begun g) { cluster = 0; mask = k } in r) same);
  counted = λ g. ap (λ (k : ℕ). let r : Glyph = record (plain (glyph_begun g)) { syllable = k } in r)
      (sym (kind-twice g.syllable));
})

unlinked_begun : (gs : Glyphs) → map unlinked (map glyph_begun gs) ≡ map glyph_begun (map unlinked gs)
unlinked_begun [] = refl
unlinked_begun (g ∷ gs) = ap (λ l. glyph_begun (unlinked g) ∷ l) (unlinked_begun gs)

unligated : (gs : Glyphs) → ligatures (map glyph_begun gs) ≡ replicate (length gs) no_ligature
unligated [] = refl
unligated (g ∷ gs) = ap (λ l. no_ligature ∷ l) (unligated gs)

pub beside_long : (numbered : Numbering) (part gs : Glyphs) → AreAsIn numbered part gs → length gs ≡ length part
beside_long numbered part gs same = sym (length-map gs unlinked)
    ∙ as_long (map unlinked gs) (map unlinked part) same.glyphs ∙ length-map part unlinked

as_begun : (numbered : Numbering) → ((list : List LigProps) → numbered list list ≡ true) → (part gs : Glyphs)
    → AreAsIn numbered part gs → AreAsIn numbered (map glyph_begun part) (map glyph_begun gs)
as_begun numbered alike part gs same =
    let links : ligatures (map glyph_begun gs) ≡ ligatures (map glyph_begun part) = unligated gs
    ∙ ap (λ n. replicate n no_ligature) (beside_long numbered part gs same) ∙ sym (unligated part) in
    record {
      glyphs = subst (λ xs. SameButFlags xs (map unlinked (map glyph_begun part))) (sym (unlinked_begun gs))
          (subst (λ ys. SameButFlags (map glyph_begun (map unlinked gs)) ys) (sym (unlinked_begun part))
          (begins.same (map unlinked gs) (map unlinked part) same.glyphs));
      numbers = subst (λ l. numbered (ligatures (map glyph_begun gs)) l ≡ true) links
          (alike (ligatures (map glyph_begun gs)));
    }

piece_begun : (numbered : Numbering) → ((list : List LigProps) → numbered list list ≡ true) → (text : Buffer)
    (part : Glyphs) (one : Buffer) → IsPiece numbered text part one
    → IsPiece numbered (lookups_begun text) (map glyph_begun part) (lookups_begun one)
piece_begun numbered alike text part one is = record {
  same = as_begun numbered alike part one.glyphs is.same;
  level = is.level;
  direction = is.direction;
  script = is.script;
  room = is.room;
  positions = is.positions;
}

-- ---- THE LAW

pub put_in_pieces : ContextsLeavePieces → ShortTextsFlag → (old new : Buffer) → new ≡ put_in_context old
    → IsPutInPieces old new.glyphs
put_in_pieces law short old new is few numbered alike front back cut =
    let begun = lookups_begun old in
    let made = law numbered begun [] one_context first_lookup begun 2 puts_in_context (takes short old few) front back
    (subst (λ (b : Buffer). CutWhereClear b.glyphs front back) is cut) in
    let own = cut_each glyph_begun begins old.glyphs made.before made.behind made.pieces in
    let sizes : length old.glyphs ≡ length own.before + length own.behind = ap length own.pieces.parts
    ∙ length-append own.before own.behind in
    record {
      before = own.before;
      behind = own.behind;
      pieces = own.pieces;
      first = λ one piece. made.first (lookups_begun one)
          (subst (λ gs. IsPiece numbered begun gs (lookups_begun one)) own.first
          (piece_begun numbered alike old own.before one piece))
          (has_operations one (omega (arith, few, sizes, beside_long numbered own.before one.glyphs piece.same)));
      second = λ one piece. made.second (lookups_begun one)
          (subst (λ gs. IsPiece numbered begun gs (lookups_begun one)) own.second
          (piece_begun numbered alike old own.behind one piece))
          (has_operations one (omega (arith, few, sizes, beside_long numbered own.behind one.glyphs piece.same)));
    }
