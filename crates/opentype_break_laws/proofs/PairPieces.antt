-- A font's lookups of pairs leave the positions of a text's pieces side by side.
use Rattle.std.proofs.Common.{Bool, List, None, Option, Some, ap, arith, drop, false, if◌then◌else◌, inl, inr, length, length-append, length-take-le, map, option_and_then, option_map, refl, subst, sym, take, take-append-drop, true, ℕ, ◌%◌, ◌++◌, ◌+◌, ◌-◌, ◌<◌, ◌∙◌, ◌≡◌, ◌≤◌, ◌⊎◌}
use Rattle.std.proofs.lemmas.List.{length-map, map-append}
use Rattle.std.specs.List.{AllByRecursion}
use Rattle.shapers_break_laws.proofs.MaskReads.{mask_read}
use Rattle.shapers_buffer.specs.Buffer.{Buffer}
use Rattle.shapers_buffer.specs.Glyphs.{Glyphs}
use Rattle.shapers_buffer.specs.declared.buffer.level.Direction.{Direction}
use Rattle.shapers_clusters.specs.Breaks.{IsClear}
use Rattle.shapers_editing.specs.PipelineBreaks.{Numbering}
use Rattle.shapers_plan.specs.declared.ot_map.lookups.StageLookup.{StageLookup}
use Rattle.opentype_face.specs.Lookups.{lookup_in, subtable_in, subtables_in}
use Rattle.opentype_font.specs.Lookups.{application_for, positioned_by}
use Rattle.opentype_gpos.specs.Along.{applied_along, positioned, setting_for}
use Rattle.opentype_gpos.specs.Kerned.{PlacedText}
use Rattle.opentype_gpos.specs.Moved.{Positions, Progress}
use Rattle.opentype_gpos.specs.Moves.{number_at}
use Rattle.opentype_gpos.specs.Nearby.{any_seen, next_any}
use Rattle.opentype_gpos.specs.Values.{pair_in}
use Rattle.opentype_gpos.specs.declared.moves.PairMove.{PairMove}
use Rattle.opentype_layout.specs.Sight.{next_from, sight_of_input}
use Rattle.opentype_layout.specs.Text.{glyph_at}
use Rattle.opentype_layout.specs.declared.sight.Application.{Application}
use Rattle.opentype_break_laws.proofs.ByGlyph.{first_mapped}
use Rattle.opentype_break_laws.proofs.ContextPieces.{alike_made, back_part, cut_kept, essence_of, front_part}
use Rattle.opentype_break_laws.proofs.ContextSteps.{ClearAt, staying_view}
use Rattle.opentype_break_laws.proofs.LigatureFits.{IsPartOf, essence, next_below}
use Rattle.opentype_break_laws.proofs.LigatureModel.{all_back, all_front}
use Rattle.opentype_break_laws.proofs.LigatureViews.{AlikeTo, alike_long}
use Rattle.opentype_break_laws.proofs.PairFinds.{IsOfFeatures, NextAgrees, any_alike, ends_within, found_with, next_agrees, number_alike, second_behind, second_inside, second_is, sees_alike}
use Rattle.opentype_break_laws.proofs.PairParts.{ArePairs, BackAgrees, FrontAgrees, IsFront, none_by, parts_walk, second_shifted}
use Rattle.opentype_break_laws.proofs.PairSteps.{some_pair}
use Rattle.opentype_break_laws.proofs.PairWalks.{along_long, pair_step, pairs_along, walks_as}
use Rattle.opentype_break_laws.proofs.PlacedPieces.{first_same, second_same}
use Rattle.opentype_break_laws.specs.Pairs.{IsOfNumbers, MovesPairs, TakesPairs, pair_seen, pair_by, pair_for, sees}
use Rattle.opentype_break_laws.specs.PlacedPieces.{CutPlaced, IsPaired, IsPlacedPiece, LeavesPositions, MakesPlaced, placed_in}

-- ---- THE PAIRS OF A PART beside the text's

shifted_by : (bytes : List ℕ) (from second : ℕ) (o : Option ℕ)
    → option_map (pair_by bytes (from + second)) o ≡ option_map (second_shifted from) (option_map (pair_by bytes second) o)
shifted_by bytes from second None = refl
shifted_by bytes from second (Some place) = refl

for_shifted : (table : List ℕ) (first number from second : ℕ)
    → pair_for table first number (from + second) ≡ option_map (second_shifted from) (pair_for table first number second)
for_shifted table first number from second = first_mapped (second_shifted from)
    (λ i. option_map (pair_by (subtable_in 9 table i) second) (pair_in (subtable_in 9 table i) first number))
    (λ i. option_map (pair_by (subtable_in 9 table i) (from + second)) (pair_in (subtable_in 9 table i) first number))
    (subtables_in table) 0
    (λ d lt. shifted_by (subtable_in 9 table (0 + d)) from second (pair_in (subtable_in 9 table (0 + d)) first number))

abbrev PartAgrees : ℕ → ℕ → Option PairMove → Option PairMove → Type 0
PartAgrees from end a o = ((m : PairMove) × ((a ≡ Some m) × (o ≡ Some (second_shifted from m))))
    ⊎ ((a ≡ None) × ((m : PairMove) → o ≡ Some m → end ≤ m.second))

by_value : (from end : ℕ) (v a o : Option PairMove) → a ≡ v → o ≡ option_map (second_shifted from) v → PartAgrees from end a o
by_value from end None a o one two = inr (one, λ m e. absurd (cc))
by_value from end (Some m) a o one two = inl (m, (one, two))

if_agrees : (seen : Bool) (from end : ℕ) (a o : Option PairMove) → PartAgrees from end a o
    → PartAgrees from end (if seen then a else None) (if seen then o else None)
if_agrees true from end a o agrees = agrees
if_agrees false from end a o agrees = inr (refl, λ m e. absurd (cc))

abbrev pair_of_next : List ℕ → Glyphs → ℕ → ℕ → Option PairMove
pair_of_next table gs at second = pair_for table (number_at gs at) (number_at gs second) second

far_by : (table : List ℕ) (gs : Glyphs) (from i end : ℕ) (p : Option ℕ) (m : PairMove) → ((q : ℕ) → p ≡ Some q → end ≤ q)
    → ((q : ℕ) (m : PairMove) → pair_of_next table gs (from + i) q ≡ Some m → m.second ≡ q)
    → option_and_then (pair_of_next table gs (from + i)) p ≡ Some m → end ≤ m.second
far_by table gs from i end None m far ends e = absurd (cc)
far_by table gs from i end (Some q) m far ends e = omega (arith, far q refl, ends q m e)

-- where the searches for the second glyph agree
by_next : (gdef table : List ℕ) (how : Application) (hs gs : Glyphs) (from i : ℕ) (o p : Option ℕ) → IsPartOf hs gs from
    → i < length hs → ((q : ℕ) → o ≡ Some q → q < length hs) → NextAgrees from (from + length hs) o p
    → ((q : ℕ) (m : PairMove) → pair_of_next table gs (from + i) q ≡ Some m → m.second ≡ q)
    → PartAgrees from (from + length hs) (option_and_then (pair_of_next table hs i) o)
    (option_and_then (pair_of_next table gs (from + i)) p)
by_next gdef table how hs gs from i o p part lt below agrees ends = elim agrees [
  | inl found ↦ (let q = found.0 in
      let inside = below q found.1.0 in
      let number : (j : ℕ) → j < length hs → number_at gs (from + j) ≡ number_at hs j =
      λ j low. sym (number_alike (glyph_at hs j) (glyph_at gs (from + j)) (part.alike j low)) in
      by_value from (from + length hs) (pair_of_next table hs i q) (option_and_then (pair_of_next table hs i) o)
      (option_and_then (pair_of_next table gs (from + i)) p) (ap (option_and_then (pair_of_next table hs i)) found.1.0)
      (ap (option_and_then (pair_of_next table gs (from + i))) found.1.1
      ∙ ap (λ n. pair_for table n (number_at gs (from + q)) (from + q)) (number i lt)
      ∙ ap (λ n. pair_for table (number_at hs i) n (from + q)) (number q inside)
      ∙ for_shifted table (number_at hs i) (number_at hs q) from q))
  | inr none ↦ inr (
    ap (option_and_then (pair_of_next table hs i)) none.0,
    λ m e. far_by table gs from i (from + length hs) p m none.1 ends e,
  )
]

part_agrees : (gdef table : List ℕ) (how : Application) (hs gs : Glyphs) (from i : ℕ) → IsOfFeatures how
    → IsPartOf hs gs from → i < length hs
    → PartAgrees from (from + length hs) (pair_seen gdef table how hs i) (pair_seen gdef table how gs (from + i))
unfolding pair_seen
part_agrees gdef table how hs gs from i is part lt =
    let sight = sight_of_input gdef table how 0 in
    let f : Glyphs → ℕ → Option Bool = λ xs j. any_seen gdef sight (glyph_at xs j) in
    let on : from + (i + 1) ≡ from + i + 1 = omega arith in
    let n = length hs - (i + 1) in
    let size : length gs - (from + (i + 1)) ≡ length gs - (from + i + 1) = omega arith in
    let next = next_agrees n (length gs - (from + i + 1)) (f hs) (f gs) from (i + 1) (from + length hs)
    (λ j low high. any_alike gdef table how (glyph_at hs j) (glyph_at gs (from + j)) is (part.alike j (omega (arith, high, lt))))
    (omega (arith, part.within)) (omega (arith, lt)) in
    let whole = subst (λ x. NextAgrees from (from + length hs) (next_from n (f hs) (i + 1))
    (next_from (length gs - (from + i + 1)) (f gs) x)) on next in
    let found = by_next gdef table how hs gs from i (next_any gdef sight hs (i + 1)) (next_any gdef sight gs (from + i + 1))
    part lt (λ q e. omega (arith, lt, next_below n (f hs) (i + 1) q e)) whole
    (λ q m e. second_is table (number_at gs (from + i)) (number_at gs q) q m e) in
    let seen : sees gdef table how.mask (glyph_at gs (from + i)) ≡ sees gdef table how.mask (glyph_at hs i) =
    sym (sees_alike gdef table how (glyph_at hs i) (glyph_at gs (from + i)) is (part.alike i lt)) in
    subst (λ b. PartAgrees from (from + length hs) (if sees gdef table how.mask (glyph_at hs i)
    then found_with gdef table how hs i else None) (if b then found_with gdef table how gs (from + i) else None)) (sym seen)
    (if_agrees (sees gdef table how.mask (glyph_at hs i)) from (from + length hs) (found_with gdef table how hs i)
    (found_with gdef table how gs (from + i)) found)

with_second : PairMove → ℕ → PairMove
with_second m n = record m { second = n }

shifted_none : (m : PairMove) → second_shifted 0 m ≡ m
unfolding with_second
shifted_none m = let same : 0 + m.second ≡ m.second = omega arith in ap (with_second m) same

front_agrees : (gdef table : List ℕ) (how : Application) (hs gs : Glyphs) (i : ℕ) → IsOfFeatures how
    → IsPartOf hs gs 0 → i < length hs
    → FrontAgrees (length hs) (pair_seen gdef table how hs i) (pair_seen gdef table how gs i)
front_agrees gdef table how hs gs i is part lt =
    let z : 0 + i ≡ i = omega arith in
    let agrees = subst (λ j. PartAgrees 0 (0 + length hs) (pair_seen gdef table how hs i) (pair_seen gdef table how gs j)) z
    (part_agrees gdef table how hs gs 0 i is part lt) in
    elim agrees [
      | inl found ↦ (let m = found.0 in
          let same : pair_seen gdef table how gs i ≡ Some m = found.1.1 ∙ ap Some (shifted_none m) in
          inl (
            found.1.0 ∙ sym same,
            λ other e. omega (
              arith,
              second_inside gdef table how hs i m found.1.0,
              ap (λ (x : PairMove). x.second) (some_pair m other (sym same ∙ e)),
            ),
          ))
      | inr none ↦ inr (none.0, λ other e. omega (arith, none.1 other e))
    ]

back_agrees : (gdef table : List ℕ) (how : Application) (hs gs : Glyphs) (from i : ℕ) → IsOfFeatures how
    → IsPartOf hs gs from → length gs ≡ from + length hs → i < length hs
    → BackAgrees from (pair_seen gdef table how hs i) (pair_seen gdef table how gs (from + i))
back_agrees gdef table how hs gs from i is part long lt = elim (part_agrees gdef table how hs gs from i is part lt) [
  | inl found ↦ record {
    found = λ m e. found.1.1 ∙ ap (λ x. Some (second_shifted from x)) (some_pair found.0 m (sym found.1.0 ∙ e));
    none = λ e. (let never = sym found.1.0 ∙ e in absurd (cc));
  }
  | inr none ↦ record {
    found = λ m e. (let never = sym none.0 ∙ e in absurd (cc));
    none = λ e. none_by (pair_seen gdef table how gs (from + i)) (λ m r. omega (
      arith,
      none.1 m r,
      second_inside gdef table how gs (from + i) m r,
      long,
    ));
  }
]

-- ---- A TEXT'S PIECES

-- what a lookup makes of a buffer
abbrev pub walked : List ℕ → List ℕ → StageLookup → Buffer → Progress
walked gdef gpos lookup b = applied_along (length b.glyphs)
    (pair_step (setting_for gdef gpos (application_for lookup) b) (lookup_in gpos lookup.index)) b.glyphs b.positions 0

unfoldable pub put_in_buffer : Buffer → Glyphs → Positions → Buffer
put_in_buffer b gs ps = record b { glyphs = gs; positions = ps }

pub made_is : (gdef gpos : List ℕ) (lookup : StageLookup) (b : Buffer) → positioned_by gdef gpos lookup b
    ≡ put_in_buffer b (walked gdef gpos lookup b).glyphs (walked gdef gpos lookup b).positions
unfolding positioned put_in_buffer
made_is gdef gpos lookup b = refl

pub of_features : (lookup : StageLookup) → lookup.mask % 8 ≡ 0 → IsOfFeatures (application_for lookup)
of_features lookup flagless = record { of_gpos = refl; flagless = λ m. mask_read m lookup.mask flagless }

-- glyphs that differ by flags alone, cut at the same place
pub record EssenceCut (front back before behind : Glyphs) : Type 0 where
  pub first : AlikeTo essence front before
  pub second : AlikeTo essence back behind

pub essence_cut : (gs last front back before behind : Glyphs) → AlikeTo essence last gs → last ≡ front ++ back
    → gs ≡ before ++ behind → length front ≡ length before → EssenceCut front back before behind
essence_cut gs last front back before behind same cut parts long =
    let joined : map essence front ++ map essence back ≡ map essence before ++ map essence behind =
    sym (map-append essence front back) ∙ ap (map essence) (sym cut) ∙ same ∙ ap (map essence) parts
    ∙ map-append essence before behind in
    let paired : length (map essence front) ≡ length (map essence before) =
    length-map front essence ∙ long ∙ sym (length-map before essence) in
    record {
      first = first_same (map essence front) (map essence back) (map essence before) (map essence behind) paired joined;
      second = second_same (map essence front) (map essence back) (map essence before) (map essence behind) paired joined;
    }

-- what a piece becomes by itself
piece_becomes : (numbered : Numbering) (text : Buffer) (gdef gpos : List ℕ) (lookup : StageLookup) (d : Direction)
    (part : Glyphs) (qs : Positions) (made : PlacedText) → MovesPairs gpos lookup → text.direction ≡ d
    → AlikeTo staying_view made.glyphs part → AlikeTo essence made.glyphs part
    → pairs_along (length part) d (pair_seen gdef (lookup_in gpos lookup.index) (application_for lookup) part) (length part) qs 0
    ≡ made.positions
    → MakesPlaced numbered text (positioned_by gdef gpos lookup) (record { glyphs = part; positions = qs }) made
unfolding put_in_buffer
piece_becomes numbered text gdef gpos lookup d part qs made moves so kept same is one piece =
    let table = lookup_in gpos lookup.index in
    let how = application_for lookup in
    let s = setting_for gdef gpos how one in
    let act = pair_seen gdef table how part in
    let alike = essence_of one.glyphs part piece.same.glyphs in
    let long : length one.glyphs ≡ length part = alike_long essence one.glyphs part alike in
    let it = walks_as s table moves.types (of_features lookup moves.flagless) part (length one.glyphs) one.glyphs one.positions
    0 alike in
    let end = walked gdef gpos lookup one in
    let got : end.positions ≡ made.positions = it.positions
    ∙ ap (λ n. pairs_along n one.direction act (length part) one.positions 0) long
    ∙ ap (λ x. pairs_along (length part) x act (length part) one.positions 0) (piece.direction ∙ so)
    ∙ ap (λ ps. pairs_along (length part) d act (length part) ps 0) piece.positions ∙ is in
    subst (IsPlacedPiece numbered text made) (sym (made_is gdef gpos lookup one)) (record {
      same = alike_made numbered one.glyphs part end.glyphs made.glyphs piece.same it.only.comes.kept kept
          (it.only.same ∙ alike ∙ sym same);
      positions = got;
      level = piece.level;
      direction = piece.direction;
      script = piece.script;
      room = piece.room;
    })

are_pairs : (gdef gpos : List ℕ) (lookup : StageLookup) (b : Buffer) → TakesPairs gdef gpos lookup b
    → ArePairs b.direction (length b.glyphs)
    (pair_seen gdef (lookup_in gpos lookup.index) (application_for lookup) b.glyphs)
are_pairs gdef gpos lookup b takes =
    let table = lookup_in gpos lookup.index in
    let how = application_for lookup in
    record {
      behind = λ i m e. (second_behind gdef table how b.glyphs i m e, second_inside gdef table how b.glyphs i m e);
      ends = λ i j m other e low high r. ends_within gdef table how b.glyphs i j m other e low high r;
      idle = λ i j m other e loose low high r. takes.idle i j m other e loose low high r;
    }

pub pairs_leave : (numbered : Numbering) (text : Buffer) (gdef gpos : List ℕ) (lookup : StageLookup) (b : Buffer)
    → IsPaired text b → MovesPairs gpos lookup → TakesPairs gdef gpos lookup b
    → LeavesPositions numbered text (positioned_by gdef gpos lookup) b
unfolding put_in_buffer
pairs_leave numbered text gdef gpos lookup b is moves takes front back cut =
    let table = lookup_in gpos lookup.index in
    let how = application_for lookup in
    let s = setting_for gdef gpos how b in
    let d = b.direction in
    let gs = b.glyphs in
    let features = of_features lookup moves.flagless in
    let end = walked gdef gpos lookup b in
    let own = subst (λ (x : Buffer). CutPlaced (placed_in x) front back) (made_is gdef gpos lookup b) cut in
    let whole = walks_as s table moves.types features gs (length gs) gs b.positions 0 refl in
    let it = cut_kept gs end.glyphs front.glyphs back.glyphs whole.only.comes own.glyphs in
    let before = it.before in
    let behind = it.behind in
    let p = length before in
    let size = length behind in
    let parts = it.pieces.parts in
    let front_long : length front.glyphs ≡ p = alike_long staying_view front.glyphs before it.first in
    let alike = essence_cut gs end.glyphs front.glyphs back.glyphs before behind whole.only.same own.glyphs.parts parts
    front_long in
    let sum : length gs ≡ p + size = ap length parts ∙ length-append before behind in
    let qs = take p b.positions in
    let rs = drop p b.positions in
    let split : qs ++ rs ≡ b.positions = take-append-drop p b.positions in
    let long : length qs ≡ p = length-take-le p b.positions (omega (arith, is.paired, sum)) in
    let rest : length rs ≡ size = omega (arith, ap length split, length-append qs rs, long, is.paired, sum) in
    let numbers = subst (AllByRecursion IsOfNumbers) (sym split) takes.numbers in
    let one = front_part gs before behind before parts refl in
    let two = back_part gs before behind behind before parts refl refl in
    let as_front : IsFront s table gs p (pair_seen gdef table how before) = record {
      table_is = moves.types;
      features = features;
      are = are_pairs gdef gpos lookup b takes;
      short = takes.short;
      agree = λ i lt. front_agrees gdef table how before gs i features one lt;
      within = omega (arith, sum);
    } in
    let walk : Positions → Progress = λ ps. applied_along (length gs) (pair_step s table) gs ps 0 in
    let joined = parts_walk s table gs p size (pair_seen gdef table how before) (pair_seen gdef table how behind) as_front
    (λ i lt. back_agrees gdef table how behind gs p i features two sum lt) sum qs rs long rest
    (all_front IsOfNumbers qs rs numbers) (all_back IsOfNumbers qs rs numbers)
    (subst (λ ps. ClearAt (walk ps).glyphs p) (sym split) (λ some lt. subst (IsClear end.glyphs) front_long
    own.glyphs.clear)) in
    let first = pairs_along p d (pair_seen gdef table how before) p qs 0 in
    let second = pairs_along size d (pair_seen gdef table how behind) size rs 0 in
    let got : first ++ second ≡ front.positions ++ back.positions =
    sym joined ∙ ap (λ ps. (walk ps).positions) split ∙ own.positions in
    let beside : length first ≡ length front.positions = along_long p d (pair_seen gdef table how before) p qs 0 ∙ long
    ∙ sym front_long ∙ sym own.paired in
    record {
      before = record { glyphs = before; positions = qs };
      behind = record { glyphs = behind; positions = rs };
      pieces = record { glyphs = it.pieces; positions = sym split; paired = long };
      first = piece_becomes numbered text gdef gpos lookup d before qs front moves (sym is.direction) it.first alike.first
          (first_same first second front.positions back.positions beside got);
      second = piece_becomes numbered text gdef gpos lookup d behind rs back moves (sym is.direction) it.second alike.second
          (second_same first second front.positions back.positions beside got);
    }

-- ---- ALL POSITIONS that the lookup leaves

pub pairs_made : (gdef gpos : List ℕ) (lookup : StageLookup) (b : Buffer) → MovesPairs gpos lookup
    → (positioned_by gdef gpos lookup b).positions ≡ pairs_along (length b.glyphs) b.direction
    (pair_seen gdef (lookup_in gpos lookup.index) (application_for lookup) b.glyphs) (length b.glyphs) b.positions 0
unfolding put_in_buffer
pairs_made gdef gpos lookup b moves = ap (λ (x : Buffer). x.positions) (made_is gdef gpos lookup b)
    ∙ (walks_as (setting_for gdef gpos (application_for lookup) b) (lookup_in gpos lookup.index) moves.types
    (of_features lookup moves.flagless) b.glyphs (length b.glyphs) b.glyphs b.positions 0 refl).positions
