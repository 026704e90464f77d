-- Lookups of contexts, and those that put one glyph for one, leave a text's pieces side by side one after another.
use Rattle.std.proofs.Common.{ℕ, suc, ◌+◌, ◌*◌, ◌^◌, ◌<◌, ◌≤◌, ◌≡◌, inl, inr, List, [], ◌∷◌, length, length-append, refl, ap, subst, ◌∙◌, arith}
use Rattle.std.specs.List.{AllByRecursion}
use Rattle.std.proofs.lemmas.List.{length-map}
use Rattle.shapers_buffer.specs.Buffer.{Buffer}
use Rattle.shapers_buffer.specs.Glyphs.{Glyph, Glyphs}
use Rattle.shapers_buffer.specs.Properties.{component}
use Rattle.shapers_buffer.specs.declared.buffer.lookup_record.LookupRecord.{LookupRecord}
use Rattle.shapers_plan.specs.declared.ot_map.lookups.StageLookup.{StageLookup}
use Rattle.shapers_editing.specs.PipelineBreaks.{AreAsIn, IsPiece, Numbering}
use Rattle.opentype_face.specs.Lookups.{lookup_in, type_in}
use Rattle.opentype_gsub.specs.Along.{Along, lookup_applied, lookup_stepped}
use Rattle.opentype_gsub.specs.Substituted.{applied, setting_for, substituted}
use Rattle.opentype_gsub.specs.declared.pass.LookupUse.{LookupUse}
use Rattle.opentype_font.specs.Lookups.{substituted_by, use_for}
use Rattle.opentype_break_laws.specs.Contexts.{HasFeature, HasOperations, PutsInContext}
use Rattle.opentype_break_laws.specs.FontContexts.{ContextRunsLeavePieces}
use Rattle.opentype_break_laws.specs.FontPieces.{PutsOneForOne}
use Rattle.opentype_break_laws.specs.OneForOne.{PutOneForOne}
use Rattle.opentype_break_laws.specs.OrderedTexts.{HasNoComponents}
use Rattle.opentype_break_laws.proofs.ByGlyph.{changed, not_back, steps_each, substituted_each, walk_each}
use Rattle.opentype_break_laws.proofs.ContextParts.{made_along, operations_left_by, walk_comes}
use Rattle.opentype_break_laws.proofs.ContextPieces.{all_by_essence, as_contextual, component_too, contexts_leave, essence_of, feature_back, made_is, not_eight}
use Rattle.opentype_break_laws.proofs.ContextSteps.{comes_long}
use Rattle.opentype_break_laws.proofs.ContextWalk.{IsReady}
use Rattle.opentype_break_laws.proofs.FontPieces.{one_for_one_leaves}
use Rattle.opentype_break_laws.proofs.LigatureFits.{essence}
use Rattle.opentype_break_laws.proofs.LigatureModel.{all_back, all_front}
use Rattle.opentype_break_laws.proofs.LigatureViews.{alike_long}

-- what a lookup leaves of a piece for those behind it
pub record LeavesRoom (most : ℕ) (old new : Buffer) : Type 0 where
  pub long : length new.glyphs ≡ length old.glyphs
  pub operations : old.lookups.operations_left ≤ new.lookups.operations_left + most * length old.glyphs

one_kept : (gdef gsub : List ℕ) (use_of : LookupUse) (b : Buffer)
    → PutOneForOne use_of.random (lookup_in gsub use_of.index)
    → (substituted gdef gsub use_of b).lookups ≡ b.lookups
unfolding substituted applied
one_kept gdef gsub use_of b all =
    let table = lookup_in gsub use_of.index in
    let s = setting_for gdef gsub use_of b in
    let forwards = not_back use_of.random (type_in 7 table 0) (all.1 0 all.0) in
    let walked = walk_each (changed gdef use_of table) (lookup_stepped s table) (steps_each s table all) [] b.glyphs
    b.lookups in
    rw forwards (ap (λ (x : Along). x.lookups) walked)

one_leaves_room : (most : ℕ) (gdef gsub : List ℕ) (lookup : StageLookup) (b : Buffer) → PutsOneForOne gsub lookup
    → LeavesRoom most b (substituted_by gdef gsub lookup b)
one_leaves_room most gdef gsub lookup b puts = record {
  long = ap length (substituted_each gdef gsub (use_for lookup) b puts.table)
      ∙ length-map b.glyphs (changed gdef (use_for lookup) (lookup_in gsub lookup.index));
  operations = (let same = ap (λ (r : LookupRecord). r.operations_left) (one_kept gdef gsub (use_for lookup) b
      puts.table) in omega (arith, same));
}

context_lookups : (gdef gsub : List ℕ) (use_of : LookupUse) (b : Buffer) (most : ℕ) → PutsInContext most gsub use_of
    → (substituted gdef gsub use_of b).lookups ≡ (lookup_applied (length b.glyphs)
    (lookup_stepped (setting_for gdef gsub use_of b) (lookup_in gsub use_of.index)) b.glyphs 0 b.lookups).lookups
unfolding substituted applied
context_lookups gdef gsub use_of b most puts =
    let forwards = not_eight (type_in 7 (lookup_in gsub use_of.index) 0) (puts.table.types 0 puts.table.some) in
    rw forwards refl

contexts_leave_room : (most : ℕ) (gdef gsub : List ℕ) (lookup : StageLookup) (b : Buffer)
    → PutsInContext most gsub (use_for lookup)
    → HasNoComponents b.glyphs → AllByRecursion HasFeature b.glyphs → length b.glyphs < 2 ^ 64 → HasOperations most b
    → LeavesRoom most b (substituted_by gdef gsub lookup b)
contexts_leave_room most gdef gsub lookup b puts none has size le =
    let use_of = use_for lookup in
    let table = lookup_in gsub lookup.index in
    let s = setting_for gdef gsub use_of b in
    let contextual = as_contextual gdef gsub use_of b most puts in
    let ready : IsReady s b.glyphs = record { components = none; features = has; size = size; len = refl } in
    let made = made_along s table b.glyphs b.lookups in
    let comes = walk_comes s most table contextual (length b.glyphs) b.glyphs 0 b.lookups ready le in
    let same = ap (λ (r : LookupRecord). r.operations_left) (context_lookups gdef gsub use_of b most puts) in
    record {
      long = ap length (made_is gdef gsub use_of b most puts) ∙ comes_long b.glyphs made comes;
      operations = omega (arith, same, operations_left_by s most table contextual b.glyphs b.lookups ready le);
    }

-- the piece that a lookup made of one
piece_made : (numbered : Numbering) (text : Buffer) (gdef gsub : List ℕ) (lookup : StageLookup) (part made : Glyphs)
    (one : Buffer)
    → IsPiece numbered text part one → AreAsIn numbered made (substituted_by gdef gsub lookup one).glyphs
    → IsPiece numbered text made (substituted_by gdef gsub lookup one)
unfolding substituted
piece_made numbered text gdef gsub lookup part made one piece same = record {
  same = same;
  level = piece.level;
  direction = piece.direction;
  script = piece.script;
  room = piece.room;
  positions = piece.positions;
}

-- operations for one lookup, and for those behind it
more_for : (most n size : ℕ) → most * suc n * size ≡ most * n * size + most * size
more_for most n size = omega arith

for_one : (most n : ℕ) (old : Buffer) → HasOperations (most * suc n) old → HasOperations most old
for_one most n old enough = omega (arith, enough, more_for most n (length old.glyphs))

for_rest : (most n : ℕ) (old new : Buffer) → HasOperations (most * suc n) old → LeavesRoom most old new
    → HasOperations (most * n) new
for_rest most n old new enough leaves =
    let same : most * n * length new.glyphs ≡ most * n * length old.glyphs = ap (λ k. most * n * k) leaves.long in
    omega (arith, enough, more_for most n (length old.glyphs), same, leaves.operations)

pub runs_leave : ContextRunsLeavePieces
runs_leave numbered text gdef gsub most [] b each front back cut = record {
  before = front;
  behind = back;
  pieces = cut;
  first = λ one piece enough. piece.same;
  second = λ one piece enough. piece.same;
}
runs_leave numbered text gdef gsub most (x ∷ list) b each front back cut =
    let rest = runs_leave numbered text gdef gsub most list (substituted_by gdef gsub x b) each.1 front back cut in
    elim each.0 [
      | inl puts ↦ (let own = one_for_one_leaves numbered text gdef gsub x b puts rest.before rest.behind rest.pieces in
          let made = substituted_by gdef gsub x in
          record {
            before = own.before;
            behind = own.behind;
            pieces = own.pieces;
            first = λ one piece enough. rest.first (made one) (piece_made numbered text gdef gsub x own.before
                rest.before one piece (own.first one piece))
                (for_rest most (length list) one (made one) enough (one_leaves_room most gdef gsub x one puts));
            second = λ one piece enough. rest.second (made one) (piece_made numbered text gdef gsub x own.behind
                rest.behind one piece (own.second one piece))
                (for_rest most (length list) one (made one) enough (one_leaves_room most gdef gsub x one puts));
          })
      | inr goes ↦ (let own = contexts_leave numbered text gdef gsub x b most goes.0 goes.1 rest.before rest.behind
          rest.pieces in
          let made = substituted_by gdef gsub x in
          let IsFree : Glyph → Type 0 = λ g. component g.lig_props ≡ 0 in
          let free = subst (AllByRecursion IsFree) own.pieces.parts goes.1.components in
          let has = subst (AllByRecursion HasFeature) own.pieces.parts goes.1.features in
          let room : (part : Glyphs) (one : Buffer) → AllByRecursion IsFree part → AllByRecursion HasFeature part
          → length part < 2 ^ 64
          → IsPiece numbered text part one → HasOperations most one
          → LeavesRoom most one (made one) = λ part one none have small piece enough.
          (let e = essence_of one.glyphs part piece.same.glyphs in
          contexts_leave_room most gdef gsub x one goes.0 (all_by_essence IsFree component_too one.glyphs part e none)
          (all_by_essence HasFeature feature_back one.glyphs part e have) (omega (
            arith,
            small,
            alike_long essence one.glyphs part e,
          )) enough) in
          let long : length b.glyphs ≡ length own.before + length own.behind = ap length own.pieces.parts
          ∙ length-append own.before own.behind in
          record {
            before = own.before;
            behind = own.behind;
            pieces = own.pieces;
            first = λ one piece enough. (let now = for_one most (length list) one enough in
                rest.first (made one) (piece_made numbered text gdef gsub x own.before rest.before one piece (own.first
                one piece now))
                (for_rest most (length list) one (made one) enough (room own.before one (all_front IsFree own.before
                own.behind free)
                (all_front HasFeature own.before own.behind has) (omega (arith, long, goes.1.size)) piece now)));
            second = λ one piece enough. (let now = for_one most (length list) one enough in
                rest.second (made one) (piece_made numbered text gdef gsub x own.behind rest.behind one piece
                (own.second one piece now))
                (for_rest most (length list) one (made one) enough (room own.behind one (all_back IsFree own.before
                own.behind free)
                (all_back HasFeature own.before own.behind has) (omega (arith, long, goes.1.size)) piece now)));
          })
    ]
