-- A lookup of GPOS that adjusts single glyphs changes each position by its own glyph.
use Rattle.std.proofs.Common.{ℕ, suc, ◌+◌, ◌%◌, ◌<◌, ◌≡◌, ◌==◌, ◌&&◌, ◌||◌, ◌⊎◌, inl, nat_lt, if◌then◌else◌, Bool, true, false, List, [], ◌∷◌, ◌++◌, length, set, Option, None, Some, option_map, refl, sym, ap, ◌∙◌, arith, append_assoc, length-append}
use Rattle.std.specs.Option.{option_map_or}
use Rattle.std.proofs.Math.Seq.{get_or-append_seam, set-append_seam}
use Rattle.std.proofs.lemmas.Bool.Decides.{nat_tests}
use Rattle.std.proofs.lemmas.List.{set-get_or}
use Rattle.shapers_buffer.specs.Glyph.{default_glyph, default_position}
use Rattle.shapers_buffer.specs.Glyphs.{Glyph, Glyphs}
use Rattle.shapers_buffer.specs.declared.buffer.glyph.GlyphPosition.{GlyphPosition}
use Rattle.shapers_buffer.specs.declared.buffer.level.Direction.{Direction}
use Rattle.shapers_position.specs.Widths.{positions_changed}
use Rattle.opentype_face.specs.Bytes.{table_at, u16_in}
use Rattle.opentype_face.specs.Firsts.{first_from}
use Rattle.opentype_face.specs.Lookups.{subtable_in, subtables_in, type_in}
use Rattle.opentype_layout.specs.Looking.{nothing, unjoined}
use Rattle.opentype_layout.specs.Rules.{Found}
use Rattle.opentype_layout.specs.Sight.{sight_of_input}
use Rattle.opentype_layout.specs.Text.{glyph_at}
use Rattle.opentype_layout.proofs.Lookings.{all_none, kept_if, unflagged}
use Rattle.opentype_gpos.specs.Along.{applied_along, passed, position_stepped, stepped_by}
use Rattle.opentype_gpos.specs.Coming.{Setting, came_in, nth_came, sights_in}
use Rattle.opentype_gpos.specs.Looked.{lookup_looked, move_looked, subtable_looked, tried}
use Rattle.opentype_gpos.specs.Making.{moved}
use Rattle.opentype_gpos.specs.Moved.{Positions, Progress, is_vertical, position_at, value_added, with_value}
use Rattle.opentype_gpos.specs.Moves.{number_at, one_move, single_move}
use Rattle.opentype_gpos.specs.Values.{single_in, value_in}
use Rattle.opentype_gpos.specs.declared.moves.Move.{Move}
use Rattle.opentype_gpos.specs.declared.moves.Move.TheVariants.{Adds}
use Rattle.opentype_gpos.specs.declared.pass.Sights.{Sights}
use Rattle.opentype_gpos.specs.declared.values.Value.{Value}
use Rattle.opentype_gpos.proofs.Passing.{EndsAs, ends_as}
use Rattle.opentype_gpos.proofs.Walks.{along_none, along_step}
use Rattle.opentype_break_laws.specs.Pairs.{sees}
use Rattle.opentype_break_laws.proofs.ByGlyph.{first_mapped}

-- ---- ALONG A TEXT

-- a step that changes the position at its place by the glyph there, and goes on to the next
pub record IsEachMove (f : Glyph → GlyphPosition → GlyphPosition) (step : Glyphs → Positions → ℕ
    → Progress) : Type 0 where
  pub each : (gs : Glyphs) (ps : Positions) (at : ℕ) → at < length gs → length ps ≡ length gs → step gs ps at
      ≡ record { glyphs = gs; positions = set ps at (f (glyph_at gs at) (position_at ps at)); next = at + 1 }

pub walk_moved : (f : Glyph → GlyphPosition → GlyphPosition) (step : Glyphs → Positions → ℕ → Progress)
    → IsEachMove f step
    → (before gs : Glyphs) (bs ps : Positions) → length bs ≡ length before → length ps ≡ length gs
    → EndsAs (before ++ gs) (bs ++ positions_changed f gs ps)
    (applied_along (length gs) step (before ++ gs) (bs ++ ps) (length before))
walk_moved f step each before [] bs [] long paired =
    ends_as (before ++ []) (bs ++ []) (length before) _ (along_none step (before ++ []) (bs ++ []) (length before))
walk_moved f step each before [] bs (p ∷ ps) long paired = absurd (omega (arith, paired))
walk_moved f step each before (g ∷ gs) bs [] long paired = absurd (omega (arith, paired))
walk_moved f step each before (g ∷ gs) bs (p ∷ ps) long paired =
    let at = length before in
    let whole : Glyphs = before ++ g ∷ gs in
    let places : Positions = bs ++ p ∷ ps in
    let done : Glyphs = before ++ g ∷ [] in
    let moved_on : Positions = bs ++ f g p ∷ [] in
    let lt : at < length whole = omega (arith, length-append before (g ∷ gs)) in
    let all : length places ≡ length whole =
    omega (arith, length-append before (g ∷ gs), length-append bs (p ∷ ps), long, paired) in
    let progress : Glyphs → Positions → ℕ → Progress = λ x y n. record { glyphs = x; positions = y; next = n } in
    let here : glyph_at whole at ≡ g = get_or-append_seam before g gs default_glyph in
    let there : position_at places at ≡ p = ap (position_at places) (sym long)
    ∙ get_or-append_seam bs p ps default_position in
    let put : set places at (f (glyph_at whole at) (position_at places at)) ≡ bs ++ f g p ∷ ps =
    ap (λ x. set places at (f x (position_at places at))) here ∙ ap (λ y. set places at (f g y)) there
    ∙ ap (λ n. set places n (f g p)) (sym long) ∙ set-append_seam bs p ps (f g p) in
    let grown : done ++ gs ≡ whole = append_assoc before (g ∷ []) gs in
    let other : moved_on ++ ps ≡ bs ++ f g p ∷ ps = append_assoc bs (f g p ∷ []) ps in
    let count : at + 1 ≡ length done = omega (arith, length-append before (g ∷ [])) in
    let one : step whole places at ≡ progress (done ++ gs) (moved_on ++ ps)
    (length done) = each.each whole places at lt all
    ∙ ap (λ y. progress whole y (at + 1)) (put ∙ sym other) ∙ ap (λ x. progress x (moved_on ++ ps) (at + 1)) (sym grown)
    ∙ ap (progress (done ++ gs) (moved_on ++ ps)) count in
    let rest = walk_moved f step each done gs moved_on ps
    (omega (arith, length-append before (g ∷ []), length-append bs (f g p ∷ []), long)) (omega (arith, paired)) in
    let same : applied_along (suc (length gs)) step whole places at
    ≡ applied_along (length gs) step (done ++ gs) (moved_on ++ ps) (length done) =
    along_step step (length gs) whole places at lt
    ∙ ap (λ (c : Progress). applied_along (length gs) step c.glyphs c.positions c.next) one in
    rw same (record {
      glyphs = sym grown ∙ rest.glyphs;
      positions = sym (append_assoc bs (f g p ∷ []) (positions_changed f gs ps)) ∙ rest.positions;
    })

-- ---- WHAT A TABLE OF SUCH SUBTABLES HAS FOR A GLYPH

abbrev pub value_by : List ℕ → ℕ → ℕ → Option Value
value_by table number i =
    let bytes = subtable_in 9 table i in
    option_map (λ place. value_in (table_at bytes place) 0 (u16_in bytes 4)) (single_in bytes number)

-- the value of the first subtable that has one
abbrev pub value_for : List ℕ → ℕ → Option Value
value_for table number = first_from (subtables_in table) (value_by table number) 0

abbrev pub AreSingle : List ℕ → Type 0
AreSingle table = (i : ℕ) → i < subtables_in table → type_in 9 table i ≡ 1

abbrev as_adding : Value → Move ⊎ Found
as_adding value = inl (Adds value)

added_twice : (h : ℕ → Value) (o : Option ℕ) → option_map inl (option_map (λ place. Adds (h place)) o)
    ≡ option_map as_adding (option_map h o)
added_twice h None = refl
added_twice h (Some place) = refl

by_one : (gdef : List ℕ) (sights : Sights) (bytes : List ℕ) (gs : Glyphs) (at : ℕ)
    → one_move gdef sights.input 1 bytes gs at ≡ single_move bytes gs at
unfolding one_move
by_one gdef sights bytes gs at = refl

pub moves_one : (s : Setting) (sights : Sights) (table : List ℕ) (gs : Glyphs) (at i kind : ℕ) → type_in 9 table i ≡ kind
    → ((kind == 7) || (kind == 8)) ≡ false → nth_came s sights table gs at i
    ≡ option_map inl (one_move s.gdef sights.input kind (subtable_in 9 table i) gs at)
unfolding nth_came
moves_one s sights table gs at i kind is e = rw (is, e) refl

nth_adds : (s : Setting) (sights : Sights) (table : List ℕ) (gs : Glyphs) (at i : ℕ) → type_in 9 table i ≡ 1
    → nth_came s sights table gs at i ≡ option_map as_adding (value_by table (number_at gs at) i)
unfolding single_move
nth_adds s sights table gs at i is =
    let bytes = subtable_in 9 table i in
    moves_one s sights table gs at i 1 is refl ∙ ap (option_map inl) (by_one s.gdef sights bytes gs at)
    ∙ added_twice (λ place. value_in (table_at bytes place) 0 (u16_in bytes 4)) (single_in bytes (number_at gs at))

comes : (s : Setting) (sights : Sights) (table : List ℕ) (gs : Glyphs) (at : ℕ) → AreSingle table → at < length gs
    → came_in s sights table gs at ≡ option_map as_adding (value_for table (number_at gs at))
unfolding came_in
comes s sights table gs at all lt =
    let inside : nat_lt at (length gs) ≡ true = grind (arith, nat_tests) in
    rw inside (first_mapped as_adding (value_by table (number_at gs at)) (nth_came s sights table gs at)
    (subtables_in table) 0 (λ d less. nth_adds s sights table gs at (0 + d) (all (0 + d) (omega (arith, less)))))

-- ---- nothing is looked at beside the glyph

either_way : {X : Type 0} (test : Bool) (x : X) → (if test then x else x) ≡ x
either_way true x = refl
either_way false x = refl

looks_one : (s : Setting) (sights : Sights) (bytes : List ℕ) (gs : Glyphs) (at : ℕ)
    → move_looked s.gdef sights.input s.direction 1 bytes gs at ≡ nothing at
unfolding move_looked
looks_one s sights bytes gs at = either_way _ (nothing at)

looks_by : (s : Setting) (sights : Sights) (table : List ℕ) (gs : Glyphs) (at i kind : ℕ) → type_in 9 table i ≡ kind
    → ((kind == 7) || (kind == 8)) ≡ false → subtable_looked s sights table gs at i
    ≡ move_looked s.gdef sights.input s.direction kind (subtable_in 9 table i) gs at
unfolding subtable_looked
looks_by s sights table gs at i kind is e = rw (is, e) refl

still_tried : (s : Setting) (sights : Sights) (table : List ℕ) (gs : Glyphs) (at : ℕ) → AreSingle table
    → tried s sights table gs at ≡ gs
unfolding tried lookup_looked
still_tried s sights table gs at all = kept_if (s.concat && nat_lt at (length gs)) _ gs
    (ap (λ x. unjoined x gs) (all_none _ (subtable_looked s sights table gs at) at (subtables_in table) 0
    (λ d less. looks_by s sights table gs at (0 + d) 1 (all (0 + d) (omega (arith, less))) refl
    ∙ looks_one s sights (subtable_in 9 table (0 + d)) gs at)) ∙ unflagged at gs)

-- ---- A PLACE

-- a position with the value that was found for its glyph, if the lookup sees that
abbrev pub added_if : Direction → Bool → Option Value → GlyphPosition → GlyphPosition
added_if direction seen found p =
    if seen then option_map_or (λ value. with_value (is_vertical direction) value p) found p else p

adds_if : (s : Setting) (gs : Glyphs) (ps : Positions) (at : ℕ) (seen : Bool) (found : Option Value) → at < length ps
    → (let it : Progress = (if seen then stepped_by s at gs ps (option_map as_adding found) else passed at gs ps) in it)
    ≡ record { glyphs = gs; positions = set ps at (added_if s.direction seen found (position_at ps at)); next = at + 1 }
unfolding moved value_added
adds_if s gs ps at true (Some value) lt =
    let inside : nat_lt at (length ps) ≡ true = grind (arith, nat_tests) in rw inside refl
adds_if s gs ps at true None lt =
    let progress : Positions → Progress = λ x. record { glyphs = gs; positions = x; next = at + 1 } in
    ap progress (sym (set-get_or ps at default_position))
adds_if s gs ps at false found lt =
    let progress : Positions → Progress = λ x. record { glyphs = gs; positions = x; next = at + 1 } in
    ap progress (sym (set-get_or ps at default_position))

-- a position as the lookup leaves it
abbrev pub adjusted : List ℕ → List ℕ → ℕ → Direction → Glyph → GlyphPosition → GlyphPosition
adjusted gdef table mask direction g p =
    added_if direction (sees gdef table mask g) (value_for table (g.glyph_id % 65536)) p

pub steps_moved : (s : Setting) (table : List ℕ) → AreSingle table
    → IsEachMove (adjusted s.gdef table s.how.mask s.direction) (position_stepped s (sights_in s table) table)
unfolding position_stepped sights_in sight_of_input
steps_moved s table all = record {
  each = λ gs ps at lt paired. (let sights = sights_in s table in
      let step = adds_if s gs ps at (sees s.gdef table s.how.mask (glyph_at gs at))
      (value_for table (number_at gs at)) (omega (arith, lt, paired)) in
      rw (still_tried s sights table gs at all, comes s sights table gs at all lt) step);
}
