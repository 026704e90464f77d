-- Attachments point inside a text.
use Rattle.std.proofs.Common.{ℕ, ℤ, pos, zero, suc, ◌+◌, ◌-◌, ◌*◌, ◌/◌, ◌%◌, ◌<◌, ◌≤◌, ◌≡◌, ◌==◌, ◌&&◌, nat_eq, nat_le, nat_lt, Bool, true, false, List, length, slice_set, IfSome, Option, None, Some, if◌then◌else◌, refl, sym, ap, ◌∙◌, arith}
use Rattle.std.proofs.lemmas.Grind.{common_steps}
use Rattle.std.proofs.lemmas.List.{get_or-set_other, get_or-set_same, length-map, length-set, set_past}
use Rattle.shapers_buffer.specs.Buffer.{Buffer}
use Rattle.shapers_buffer.specs.Glyph.{default_position}
use Rattle.shapers_buffer.specs.Glyphs.{Glyphs}
use Rattle.shapers_buffer.specs.declared.buffer.glyph.GlyphPosition.{GlyphPosition}
use Rattle.shapers_buffer.specs.declared.buffer.level.Direction.{Direction}
use Rattle.opentype_layout.specs.declared.sight.Application.{Application}
use Rattle.opentype_gpos.proofs.Keeping.{Keeps, align_length, flag, move as keeps, turn_length}
use Rattle.opentype_gpos.specs.Finished.{is_backward, let_go, target_in}
use Rattle.opentype_gpos.specs.Joined.{aligned, beginning_at, begun, cursive_moved, ended, ending_at, hung, is_at, cursive_joined, line_var, cursive_linked, next_in_line, other_than, separated, reverse_to, reversed, reversed_on, with_across}
use Rattle.opentype_gpos.specs.Laws.{AreInside, is_inside, without_its_flags}
use Rattle.opentype_gpos.specs.Moved.{Positions, Progress, detached, flagged_up_to, is_vertical, mark_moved, pair_moved, position_at, value_added, with_mark_move, with_value}
use Rattle.opentype_gpos.specs.Making.{moved}
use Rattle.opentype_gpos.specs.Along.{positioned}
use Rattle.opentype_gpos.proofs.Preserved.{IsKept, positioned_keeps, unjoined_length}
use Rattle.opentype_gpos.specs.declared.anchors.Point.{Point}
use Rattle.opentype_gpos.specs.declared.moves.CursiveMove.{CursiveMove}
use Rattle.opentype_gpos.specs.declared.moves.MarkMove.{MarkMove}
use Rattle.opentype_gpos.specs.declared.moves.Move.{Move}
use Rattle.opentype_gpos.specs.declared.moves.Move.TheVariants.{Adds, Attaches, Joins, Kerns}
use Rattle.opentype_gpos.specs.declared.moves.PairMove.{PairMove}
use Rattle.opentype_gpos.specs.declared.values.Value.{Value}

-- one position is set to one whose attachment is inside
set_at : (ps : Positions) (at j : ℕ) (p : GlyphPosition) → at < length ps →
    is_inside (length ps) at p.var ≡ true → AreInside ps → j < length ps → (same : Bool) → same ≡ nat_eq j at →
    is_inside (length ps) j (position_at (slice_set ps at p) j).var ≡ true
set_at ps at j p inside it all lt true e =
    let here : j ≡ at = grind (arith, e) in
    let is : position_at (slice_set ps at p) at ≡ p = get_or-set_same ps at p default_position inside in
    let h : is_inside (length ps) at (position_at (slice_set ps at p) at).var ≡ true =
    ap (λ (q : GlyphPosition). is_inside (length ps) at q.var) is ∙ it in
    ap (λ (i : ℕ). is_inside (length ps) i (position_at (slice_set ps at p) i).var) here ∙ h
set_at ps at j p inside it all lt false e =
    let there : position_at (slice_set ps at p) j ≡ position_at ps j =
    get_or-set_other ps at j p default_position (grind (arith, e)) in
    ap (λ (q : GlyphPosition). is_inside (length ps) j q.var) there ∙ all j lt

set_length : (ps : Positions) (at : ℕ) (p : GlyphPosition) → length (slice_set ps at p) ≡ length ps
set_length ps at p = length-set ps at p

set_one : (ps : Positions) (at : ℕ) (p : GlyphPosition) → at < length ps →
    is_inside (length ps) at p.var ≡ true → AreInside ps → AreInside (slice_set ps at p)
set_one ps at p inside it all j lt =
    let len : length (slice_set ps at p) ≡ length ps = set_length ps at p in
    let lt_old : j < length ps = rw len at lt in
    let h : is_inside (length ps) j (position_at (slice_set ps at p) j).var ≡ true =
    set_at ps at j p inside it all lt_old (nat_eq j at) refl in
    ap (λ (n : ℕ). is_inside n j (position_at (slice_set ps at p) j).var) len ∙ h

-- a value leaves the attachment
value_var : (vertical : Bool) (value : Value) (p : GlyphPosition) → (with_value vertical value p).var ≡ p.var
unfolding with_value
value_var true value p = refl
value_var false value p = refl

value_if : (test : Bool) (ps qs : Positions) → (test ≡ true → AreInside qs) → AreInside ps →
    AreInside (if test then qs else ps)
value_if true ps qs then_so else_so = then_so refl
value_if false ps qs then_so else_so = else_so

added : (d : Direction) (value : Value) (at : ℕ) (ps : Positions) → AreInside ps →
    AreInside (value_added d value at ps)
unfolding value_added
added d value at ps all = value_if (nat_lt at (length ps)) ps _ (λ t.
    let inside : at < length ps = grind (arith, t) in
    set_one ps at (with_value (is_vertical d) value (position_at ps at)) inside
    (ap (λ (n : ℕ). is_inside (length ps) at n) (value_var (is_vertical d) value (position_at ps at))
    ∙ all at inside) all) all

-- a mark is attached to a glyph before it, or to none
back : (len at to : ℕ) → to < at → at - to ≤ 32768 →
    is_inside len at (65536 - (at - to) + 65536 * 1) ≡ true
unfolding target_in
back len at to lt le =
    let places : (65536 - (at - to) + 65536 * 1) % 65536 ≡ 65536 - (at - to) = omega arith in
    grind (arith, common_steps, places)

gone : (len at var : ℕ) → is_inside len at (var / 65536 * 65536) ≡ true
unfolding target_in
gone len at var =
    let none : var / 65536 * 65536 % 65536 ≡ 0 = omega arith in grind (arith, common_steps, none)

mark_if : (test : Bool) (len at : ℕ) (a b : GlyphPosition) → (test ≡ true → is_inside len at a.var ≡ true) →
    is_inside len at b.var ≡ true → is_inside len at (if test then a else b).var ≡ true
mark_if true len at a b then_so else_so = then_so refl
mark_if false len at a b then_so else_so = else_so

mark_var : (it : MarkMove) (len at : ℕ) (p : GlyphPosition) → is_inside len at (with_mark_move it at p).var ≡ true
unfolding with_mark_move
mark_var it len at p = mark_if (nat_lt it.to at && nat_le (at - it.to) 32768) len at _ _
    (λ t. back len at it.to (grind (arith, t)) (grind (arith, t))) (gone len at p.var)

mark_set : (test : Bool) (it : MarkMove) (at : ℕ) (ps : Positions) → test ≡ nat_lt at (length ps) →
    AreInside ps → AreInside (slice_set ps at (with_mark_move it at (position_at ps at)))
mark_set true it at ps e all = set_one ps at (with_mark_move it at (position_at ps at)) (grind (arith, e))
    (mark_var it (length ps) at (position_at ps at)) all
mark_set false it at ps e all =
    let same : slice_set ps at (with_mark_move it at (position_at ps at)) ≡ ps = set_past ps at _ (grind (arith, e)) in
    rw (sym same) at all

mark : (it : MarkMove) (at : ℕ) (gs : Glyphs) (ps : Positions) → AreInside ps →
    AreInside (mark_moved it at gs ps).positions
unfolding mark_moved
mark it at gs ps all = mark_set (nat_lt at (length ps)) it at ps refl all

choose : (test : Bool) (a b : Progress) → AreInside a.positions → AreInside b.positions →
    AreInside (if test then a else b).positions
choose true a b x y = x
choose false a b x y = y

pair : (d : Direction) (it : PairMove) (at : ℕ) (gs : Glyphs) (ps : Positions) → AreInside ps →
    AreInside (pair_moved d it at gs ps).positions
unfolding pair_moved
pair d it at gs ps all =
    let both = added d it.second_value it.second _ (added d it.first_value at ps all) in
    choose it.has_second _ _ both both

-- ---- cursive lines
set_like : (test : Bool) (ps : Positions) (at : ℕ) (p : GlyphPosition) → test ≡ nat_lt at (length ps) →
    p.var ≡ (position_at ps at).var → AreInside ps → AreInside (slice_set ps at p)
set_like true ps at p e same all =
    let inside : at < length ps = grind (arith, e) in
    set_one ps at p inside (ap (λ (n : ℕ). is_inside (length ps) at n) same ∙ all at inside) all
set_like false ps at p e same all =
    let past : slice_set ps at p ≡ ps = set_past ps at p (grind (arith, e)) in rw (sym past) at all

end_var : (v : Bool) (point : Point) (p : GlyphPosition) → (ending_at v point p).var ≡ p.var
unfolding ending_at
end_var true point p = refl
end_var false point p = refl

begin_var : (v : Bool) (point : Point) (p : GlyphPosition) → (beginning_at v point p).var ≡ p.var
unfolding beginning_at
begin_var true point p = refl
begin_var false point p = refl

end_inside : (v : Bool) (point : Point) (at : ℕ) (ps : Positions) → AreInside ps → AreInside (ended v point at ps)
unfolding ended
end_inside v point at ps all =
    set_like (nat_lt at (length ps)) ps at _ refl (end_var v point (position_at ps at)) all

begin_inside : (v : Bool) (point : Point) (at : ℕ) (ps : Positions) → AreInside ps → AreInside (begun v point at ps)
unfolding begun
begin_inside v point at ps all =
    set_like (nat_lt at (length ps)) ps at _ refl (begin_var v point (position_at ps at)) all

choose_positions : (test : Bool) (a b : Positions) → (test ≡ true → AreInside a) → (test ≡ false → AreInside b) →
    AreInside (if test then a else b)
choose_positions true a b x y = x refl
choose_positions false a b x y = y refl

align_inside : (d : Direction) (it : CursiveMove) (at : ℕ) (ps : Positions) → AreInside ps →
    AreInside (aligned d it at ps)
unfolding aligned
align_inside d it at ps all = choose_positions (is_backward d) _ _
    (λ t. end_inside _ it.entry at _ (begin_inside _ it.exit it.before ps all))
    (λ t. begin_inside _ it.entry at _ (end_inside _ it.exit it.before ps all))

choose_var : (test : Bool) (len at a b : ℕ) → (test ≡ true → is_inside len at a ≡ true) →
    (test ≡ false → is_inside len at b ≡ true) → is_inside len at (if test then a else b) ≡ true
choose_var true len at a b x y = x refl
choose_var false len at a b x y = y refl

zero_inside : (len at : ℕ) → is_inside len at 0 ≡ true
zero_inside len at = refl

forth : (len at to : ℕ) → at < to → to < len → to - at < 32768 → is_inside len at (to - at + 65536 * 2) ≡ true
unfolding target_in
forth len at to lt below few =
    let places : (to - at + 65536 * 2) % 65536 ≡ to - at = omega arith in grind (arith, common_steps, places)

line_back : (len at to : ℕ) → to < at → at - to ≤ 32768 → is_inside len at (65536 - (at - to) + 65536 * 2) ≡ true
unfolding target_in
line_back len at to lt le =
    let places : (65536 - (at - to) + 65536 * 2) % 65536 ≡ 65536 - (at - to) = omega arith in
    grind (arith, common_steps, places)

line_inside : (len at to : ℕ) → to < len → is_inside len at (line_var at to) ≡ true
unfolding line_var
line_inside len at to below = choose_var (nat_lt at to) len at _ _
    (λ t. choose_var (nat_lt (to - at) 32768) len at _ _
    (λ u. forth len at to (grind (arith, t)) below (grind (arith, u))) (λ u. zero_inside len at))
    (λ t. choose_var (nat_lt to at && nat_le (at - to) 32768) len at _ _
    (λ u. line_back len at to (grind (arith, u)) (grind (arith, u))) (λ u. zero_inside len at))

-- a place that a glyph of a line is attached to is one of the text
below_if : (test : Bool) (len : ℕ) (a b : Option ℕ) → (test ≡ true → IfSome a (λ to. to < len)) →
    (test ≡ false → IfSome b (λ to. to < len)) → IfSome (if test then a else b) (λ to. to < len)
below_if true len a b x y = x refl
below_if false len a b x y = y refl

target_below : (var at len : ℕ) → at < len → IfSome (target_in var at len) (λ to. to < len)
unfolding target_in
target_below var at len inside = below_if (var % 65536 == 0) len _ _ (λ t. tt) (λ t.
    below_if (nat_lt (var % 65536) 32768) len _ _
    (λ u. below_if (nat_lt (var % 65536) (len - at)) len _ _ (λ w. grind (arith, w)) (λ w. tt))
    (λ u. below_if (nat_le (65536 - var % 65536) at) len _ _ (λ w. omega arith) (λ w. tt)))

other_below : (parent len : ℕ) (o : Option ℕ) → IfSome o (λ to. to < len) →
    IfSome (other_than parent o) (λ to. to < len)
other_below parent len None h = tt
other_below parent len (Some to) h = below_if (to == parent) len _ _ (λ t. tt) (λ t. h)

next_below : (var at parent len : ℕ) → at < len → IfSome (next_in_line var at parent len) (λ to. to < len)
unfolding next_in_line
next_below var at parent len inside = below_if (var / 65536 % 256 == 2) len _ _
    (λ t. other_below parent len (target_in var at len) (target_below var at len inside)) (λ t. tt)

turned_inside : (v : Bool) (old : GlyphPosition) (at to len : ℕ) (p : GlyphPosition) → at < len →
    is_inside len to (reversed_on v old at to p).var ≡ true
unfolding reversed_on
turned_inside v old at to len p inside = line_inside len to at inside

turn_to_inside : (ps : Positions) (f : ℕ → Positions) (o : Option ℕ) → IfSome o (λ to. to < length ps) →
    AreInside ps → ((to : ℕ) → to < length ps → AreInside (f to)) → AreInside (reverse_to ps f o)
turn_to_inside ps f None h all each = all
turn_to_inside ps f (Some to) h all each = each to h

turn_inside : (n : ℕ) (v : Bool) (parent : ℕ) (ps : Positions) (at : ℕ) (old : GlyphPosition) →
    at < length ps → AreInside ps → AreInside (reversed n v parent ps at old)
unfolding reversed
turn_inside zero v parent ps at old inside all = all
turn_inside (suc n) v parent ps at old inside all =
    turn_to_inside ps _ (next_in_line old.var at parent (length ps))
    (next_below old.var at parent (length ps) inside) all (λ to below.
    turn_inside n v parent _ to _ (rw (sym (length-set ps to (reversed_on v old at to (position_at ps to)))) at below)
    (set_one ps to (reversed_on v old at to (position_at ps to)) below (turned_inside v old at to (length ps) _ inside) all))

set_any : (test : Bool) (ps : Positions) (at : ℕ) (p : GlyphPosition) → test ≡ nat_lt at (length ps) →
    is_inside (length ps) at p.var ≡ true → AreInside ps → AreInside (slice_set ps at p)
set_any true ps at p e it all = set_one ps at p (grind (arith, e)) it all
set_any false ps at p e it all =
    let past : slice_set ps at p ≡ ps = set_past ps at p (grind (arith, e)) in rw (sym past) at all

across_var : (v : Bool) (off : ℤ) (p : GlyphPosition) → (with_across v off p).var ≡ p.var
unfolding with_across
across_var true off p = refl
across_var false off p = refl

go_inside : (ps : Positions) (at : ℕ) → AreInside ps → AreInside (let_go ps at)
unfolding let_go
go_inside ps at all = set_any (nat_lt at (length ps)) ps at _ refl (gone (length ps) at (position_at ps at).var) all

separate_inside : (v : Bool) (child parent : ℕ) (ps : Positions) → AreInside ps →
    AreInside (separated v child parent ps)
unfolding separated
separate_inside v child parent ps all =
    let p : GlyphPosition = with_across v (pos 0) (detached (position_at ps parent)) in
    choose_positions (is_at child (target_in (position_at ps parent).var parent (length ps)))
    (slice_set ps parent p) ps
    (λ t. set_any (nat_lt parent (length ps)) ps parent p refl
    (ap (λ (n : ℕ). is_inside (length ps) parent n) (across_var v (pos 0) (detached (position_at ps parent)))
    ∙ gone (length ps) parent (position_at ps parent).var) all)
    (λ t. all)

hang_inside : (v : Bool) (child parent : ℕ) (off : ℤ) (ps : Positions) → parent < length ps → AreInside ps →
    AreInside (hung v child parent off ps)
unfolding hung
hang_inside v child parent off ps below all =
    let p : GlyphPosition =
    record (with_across v off (position_at ps child)) { var = line_var child parent } in
    choose_positions (line_var child parent == 0) (let_go ps child) (separated v child parent (slice_set ps child p))
    (λ t. go_inside ps child all)
    (λ t. separate_inside v child parent (slice_set ps child p) (set_any (nat_lt child (length ps)) ps child p refl
    (line_inside (length ps) child parent below) all))

link_inside : (v : Bool) (child parent : ℕ) (off : ℤ) (ps : Positions) → child < length ps → parent < length ps →
    AreInside ps → AreInside (cursive_linked v child parent off ps)
unfolding cursive_linked
link_inside v child parent off ps own below all =
    hang_inside v child parent off _ (rw (sym (turn_length 64 v parent ps child (position_at ps child))) at below)
    (turn_inside 64 v parent ps child (position_at ps child) own all)

join_inside : (d : Direction) (it : CursiveMove) (at : ℕ) (ps : Positions) → at < length ps →
    it.before < length ps → AreInside ps → AreInside (cursive_joined d it at ps)
unfolding cursive_joined
join_inside d it at ps inside before all =
    let len = align_length d it at ps in
    let here : at < length (aligned d it at ps) = rw (sym len) at inside in
    let there : it.before < length (aligned d it at ps) = rw (sym len) at before in
    let after = align_inside d it at ps all in
    choose_positions it.from_end _ _
    (λ t. link_inside _ it.before at _ (aligned d it at ps) there here after)
    (λ t. link_inside _ at it.before _ (aligned d it at ps) here there after)

cursive : (d : Direction) (it : CursiveMove) (at : ℕ) (gs : Glyphs) (ps : Positions) → at < length ps →
    it.before < length ps → AreInside ps → AreInside (cursive_moved d it at gs ps).positions
unfolding cursive_moved
cursive d it at gs ps inside before all = join_inside d it at ps inside before all

choose_if : (test : Bool) (a b : Progress) → (test ≡ true → AreInside a.positions) → AreInside b.positions →
    AreInside (if test then a else b).positions
choose_if true a b x y = x refl
choose_if false a b x y = y

move : (d : Direction) (it : Move) (at : ℕ) (gs : Glyphs) (ps : Positions) → at < length ps → AreInside ps →
    AreInside (moved d it at gs ps).positions
unfolding moved
move d (Adds value) at gs ps inside all = added d value at ps all
move d (Kerns it) at gs ps inside all = choose (nat_lt it.second (length gs)) _ _ (pair d it at gs ps all) all
move d (Attaches it) at gs ps inside all = mark it at gs ps all
move d (Joins it) at gs ps inside all = choose_if (nat_lt it.before (length ps)) _ _
    (λ t. cursive d it at gs ps inside (grind (arith, t)) all) all

paired : (gs : Glyphs) (ps : Positions) (after : Progress) → Keeps gs ps after → length ps ≡ length gs →
    length after.positions ≡ length after.glyphs
paired gs ps after k e = k.positions ∙ e
    ∙ sym (sym (length-map after.glyphs without_its_flags) ∙ ap length k.glyphs ∙ length-map gs without_its_flags)

abbrev Inside : Glyphs → Positions → Type 0
Inside gs ps = (length ps ≡ length gs) × AreInside ps

flagged_length : (start last : ℕ) (gs : Glyphs) → length (flagged_up_to true start last gs) ≡ length gs
flagged_length start last gs =
    sym (length-map (flagged_up_to true start last gs) without_its_flags) ∙ ap length (flag true start last gs)
    ∙ length-map gs without_its_flags

inside_kept : (d : Direction) → IsKept d Inside
inside_kept d = record {
  moves = λ it at gs ps lt h. (
    paired gs ps (moved d it at gs ps) (keeps d it at gs ps) h.0,
    move d it at gs ps (let e = h.0 in omega arith) h.1,
  );
  flags = λ start last gs ps h. (h.0 ∙ sym (flagged_length start last gs), h.1);
  joins = λ looked gs ps h. (h.0 ∙ sym (unjoined_length looked gs), h.1);
}

pub position_inside : (gdef gpos : List ℕ) (index : ℕ) (how : Application) (b : Buffer) →
    length b.positions ≡ length b.glyphs → AreInside b.positions →
    AreInside (positioned gdef gpos index how b).positions
position_inside gdef gpos index how b e all =
    (positioned_keeps Inside gdef gpos index how b (inside_kept b.direction) (e, all)).1
