-- What lookups keep of a text.
use Rattle.std.proofs.Common.{ℕ, ℤ, zero, suc, ◌+◌, ◌-◌, ◌≤◌, ◌≡◌, ◌&&◌, nat_le, nat_lt, Bool, true, false, List, length, map, Option, None, Some, if◌then◌else◌, refl, ap, ◌∙◌, arith}
use Rattle.std.proofs.lemmas.Grind.{common_steps}
use Rattle.std.proofs.lemmas.List.{length-set}
use Rattle.opentype_gpos.specs.declared.anchors.Point.{Point}
use Rattle.shapers_buffer.specs.Buffer.{Buffer}
use Rattle.shapers_buffer.specs.GlyphFlags.{unsafe_inside, with_bits}
use Rattle.shapers_buffer.specs.Glyphs.{Glyph, Glyphs}
use Rattle.shapers_buffer.specs.declared.buffer.glyph.GlyphPosition.{GlyphPosition}
use Rattle.shapers_buffer.specs.declared.buffer.level.Direction.{Direction}
use Rattle.shapers_clusters.proofs.FlagCalls.{map-unsafe_inside, without_flags-or}
use Rattle.opentype_layout.specs.declared.sight.Application.{Application}
use Rattle.opentype_gpos.specs.Finished.{drawn_place, finished, finished_from, chain_followed, is_backward, let_go, link_at, on_link, placed_on}
use Rattle.opentype_gpos.specs.Laws.{PlacesAlone, without_its_flags}
use Rattle.opentype_gpos.specs.Moved.{Positions, Progress, end_behind, flagged_up_to, mark_moved, pair_moved, value_added}
use Rattle.opentype_gpos.specs.Joined.{aligned, begun, cursive_moved, ended, hung, cursive_joined, cursive_linked, next_in_line, separated, reverse_to, reversed}
use Rattle.opentype_gpos.specs.Making.{moved}
use Rattle.opentype_gpos.specs.Along.{positioned}
use Rattle.opentype_gpos.proofs.Preserved.{IsKept, positioned_keeps, unjoined_alike}
use Rattle.opentype_gpos.specs.declared.finish.Attachment.{Attachment}
use Rattle.opentype_gpos.specs.declared.moves.CursiveMove.{CursiveMove}
use Rattle.opentype_gpos.specs.declared.moves.MarkMove.{MarkMove}
use Rattle.opentype_gpos.specs.declared.moves.Move.{Move}
use Rattle.opentype_gpos.specs.declared.moves.Move.TheVariants.{Adds, Attaches, Joins, Kerns}
use Rattle.opentype_gpos.specs.declared.moves.PairMove.{PairMove}
use Rattle.opentype_gpos.specs.declared.values.Value.{Value}

pub record Keeps (gs : Glyphs) (ps : Positions) (after : Progress) : Type 0 where
  pub glyphs : map without_its_flags after.glyphs ≡ map without_its_flags gs
  pub positions : length after.positions ≡ length ps

-- ---- flags
pub bits : (g : Glyph) → without_its_flags (with_bits 3 g) ≡ without_its_flags g
bits g = ap (λ (m : ℕ). (record g { mask = m })) (without_flags-or g.mask 3 refl)

joined_bit : (g : Glyph) → without_its_flags (with_bits 2 g) ≡ without_its_flags g
joined_bit g = ap (λ (m : ℕ). (record g { mask = m })) (without_flags-or g.mask 2 refl)

flag_if : (test : Bool) (s e : ℕ) (gs : Glyphs) → (test ≡ true → s ≤ e) →
    map without_its_flags (if test then unsafe_inside s e gs else gs) ≡ map without_its_flags gs
flag_if true s e gs h = map-unsafe_inside without_its_flags bits s e gs (h refl)
flag_if false s e gs h = refl

pub flag : (is_on : Bool) (s last : ℕ) (gs : Glyphs) →
    map without_its_flags (flagged_up_to is_on s last gs) ≡ map without_its_flags gs
unfolding flagged_up_to
flag is_on s last gs = flag_if
    (is_on && nat_le s (end_behind last gs) && nat_le (end_behind last gs - s) 255) s (end_behind last gs) gs
    (λ t. grind (arith, common_steps, t))

-- ---- positions
pub added_long : (d : Direction) (value : Value) (at : ℕ) (ps : Positions) → length (value_added d value at ps) ≡ length ps
unfolding value_added
added_long d value at ps = grind (arith, common_steps)

choose : (test : Bool) (gs : Glyphs) (ps : Positions) (a b : Progress) → Keeps gs ps a → Keeps gs ps b →
    Keeps gs ps (if test then a else b)
choose true gs ps a b x y = x
choose false gs ps a b x y = y

pair : (d : Direction) (it : PairMove) (at : ℕ) (gs : Glyphs) (ps : Positions) →
    Keeps gs ps (pair_moved d it at gs ps)
unfolding pair_moved
pair d it at gs ps = choose it.has_second gs ps _ _ (record {
  glyphs = flag true at (it.second + 1) gs;
  positions = added_long d it.second_value it.second (value_added d it.first_value at ps)
      ∙ added_long d it.first_value at ps;
}) (record {
  glyphs = flag _ at it.second gs;
  positions = added_long d it.second_value it.second (value_added d it.first_value at ps)
      ∙ added_long d it.first_value at ps;
})

mark : (it : MarkMove) (at : ℕ) (gs : Glyphs) (ps : Positions) → Keeps gs ps (mark_moved it at gs ps)
unfolding mark_moved
mark it at gs ps =
    record { glyphs = flag true it.to at gs; positions = grind (arith, common_steps) }

nothing : (at : ℕ) (gs : Glyphs) (ps : Positions) →
    Keeps gs ps (record { glyphs = gs; positions = ps; next = at })
nothing at gs ps = record { glyphs = refl; positions = refl }

pub let_go_length : (ps : Positions) (at : ℕ) → length (let_go ps at) ≡ length ps
unfolding let_go
let_go_length ps at = grind (arith, common_steps)

turn_to_length : (ps : Positions) (f : ℕ → Positions) (n : ℕ) → length ps ≡ n →
    ((to : ℕ) → length (f to) ≡ n) → (o : Option ℕ) → length (reverse_to ps f o) ≡ n
turn_to_length ps f n e each None = e
turn_to_length ps f n e each (Some to) = each to

pub turn_length : (n : ℕ) (v : Bool) (parent : ℕ) (ps : Positions) (at : ℕ) (old : GlyphPosition) →
    length (reversed n v parent ps at old) ≡ length ps
unfolding reversed
turn_length zero v parent ps at old = refl
turn_length (suc n) v parent ps at old = turn_to_length ps _ (length ps) refl
    (λ to. turn_length n v parent _ to _ ∙ length-set ps to _) (next_in_line old.var at parent (length ps))

choose_length : (test : Bool) (a b : Positions) (n : ℕ) → length a ≡ n → length b ≡ n →
    length (if test then a else b) ≡ n
choose_length true a b n x y = x
choose_length false a b n x y = y

separate_length : (v : Bool) (child parent : ℕ) (ps : Positions) → length (separated v child parent ps) ≡ length ps
unfolding separated
separate_length v child parent ps = choose_length _ _ _ (length ps) (length-set ps parent _) refl

hang_length : (v : Bool) (child parent : ℕ) (off : ℤ) (ps : Positions) →
    length (hung v child parent off ps) ≡ length ps
unfolding hung
hang_length v child parent off ps = choose_length _ _ _ (length ps) (let_go_length ps child)
    (separate_length v child parent _ ∙ length-set ps child _)

link_on : (v : Bool) (child parent : ℕ) (off : ℤ) (ps : Positions) → length (cursive_linked v child parent off ps) ≡ length ps
unfolding cursive_linked
link_on v child parent off ps = hang_length v child parent off _ ∙ turn_length 64 v parent ps child _

end_length : (v : Bool) (point : Point) (at : ℕ) (ps : Positions) → length (ended v point at ps) ≡ length ps
unfolding ended
end_length v point at ps = length-set ps at _

begin_length : (v : Bool) (point : Point) (at : ℕ) (ps : Positions) → length (begun v point at ps) ≡ length ps
unfolding begun
begin_length v point at ps = length-set ps at _

pub align_length : (d : Direction) (it : CursiveMove) (at : ℕ) (ps : Positions) → length (aligned d it at ps) ≡ length ps
unfolding aligned
align_length d it at ps = choose_length _ _ _ (length ps)
    (end_length _ it.entry at _ ∙ begin_length _ it.exit it.before ps)
    (begin_length _ it.entry at _ ∙ end_length _ it.exit it.before ps)

join_length : (d : Direction) (it : CursiveMove) (at : ℕ) (ps : Positions) → length (cursive_joined d it at ps) ≡ length ps
unfolding cursive_joined
join_length d it at ps = choose_length it.from_end _ _ (length ps)
    (link_on _ it.before at _ (aligned d it at ps) ∙ align_length d it at ps)
    (link_on _ at it.before _ (aligned d it at ps) ∙ align_length d it at ps)

cursive : (d : Direction) (it : CursiveMove) (at : ℕ) (gs : Glyphs) (ps : Positions) →
    Keeps gs ps (cursive_moved d it at gs ps)
unfolding cursive_moved
cursive d it at gs ps = record { glyphs = flag true it.before at gs; positions = join_length d it at ps }

pub move : (d : Direction) (it : Move) (at : ℕ) (gs : Glyphs) (ps : Positions) → Keeps gs ps (moved d it at gs ps)
unfolding moved
move d (Adds value) at gs ps = record { glyphs = refl; positions = added_long d value at ps }
move d (Kerns it) at gs ps = choose (nat_lt it.second (length gs)) gs ps _ _
    (pair d it at gs ps) (nothing (at + 1) gs ps)
move d (Attaches it) at gs ps = mark it at gs ps
move d (Joins it) at gs ps = choose (nat_lt it.before (length ps)) gs ps _ _
    (cursive d it at gs ps) (nothing (at + 1) gs ps)

others : (gdef gpos : List ℕ) (index : ℕ) (how : Application) (b : Buffer) →
    positioned gdef gpos index how b ≡ record b {
      glyphs = (positioned gdef gpos index how b).glyphs;
      positions = (positioned gdef gpos index how b).positions;
    }
unfolding positioned
others gdef gpos index how b = refl

abbrev pub Same : Buffer → Glyphs → Positions → Type 0
Same b gs ps = (map without_its_flags gs ≡ map without_its_flags b.glyphs) × (length ps ≡ length b.positions)

same_kept : (b : Buffer) (d : Direction) → IsKept d (Same b)
same_kept b d = record {
  moves = λ it at gs ps inside h. (let k = move d it at gs ps in (k.glyphs ∙ h.0, k.positions ∙ h.1));
  flags = λ start last gs ps h. (flag true start last gs ∙ h.0, h.1);
  joins = λ looked gs ps h. (unjoined_alike without_its_flags joined_bit looked gs ∙ h.0, h.1);
}

pub position_keeps : (gdef gpos : List ℕ) (index : ℕ) (how : Application) (b : Buffer) →
    PlacesAlone b (positioned gdef gpos index how b)
position_keeps gdef gpos index how b =
    let k = positioned_keeps (Same b) gdef gpos index how b (same_kept b b.direction) (refl, refl) in
    record { others = others gdef gpos index how b; glyphs = k.0; positions = k.1 }

-- ---- attachments
placed_length : (d : Direction) (link : Attachment) (ps : Positions) → length (placed_on d link ps) ≡ length ps
unfolding placed_on
placed_length d link ps = grind (arith, common_steps)

link_length : (d : Direction) (ps : Positions) (f : ℕ → Positions) (n : ℕ) → length ps ≡ n →
    ((to : ℕ) → length (f to) ≡ n) → (o : Option Attachment) → length (on_link d ps f o) ≡ n
link_length d ps f n e each None = e
link_length d ps f n e each (Some link) = placed_length d link (f link.to) ∙ each link.to

follow_length : (n : ℕ) (d : Direction) (ps : Positions) (at : ℕ) → length (chain_followed n d ps at) ≡ length ps
unfolding chain_followed
follow_length zero d ps at = let_go_length ps at
follow_length (suc n) d ps at = link_length d (let_go ps at) _ (length ps) (let_go_length ps at)
    (λ to. follow_length n d (let_go ps at) to ∙ let_go_length ps at) (link_at ps at)

finish_length : (n : ℕ) (d : Direction) (ps : Positions) (i : ℕ) → length (finished_from n d ps i) ≡ length ps
unfolding finished_from
finish_length zero d ps i = refl
finish_length (suc n) d ps i =
    finish_length n d (chain_followed 64 d ps (drawn_place (is_backward d) (length ps) i)) (i + 1)
    ∙ follow_length 64 d ps (drawn_place (is_backward d) (length ps) i)

pub finish_keeps : (b : Buffer) → PlacesAlone b (finished b)
unfolding finished
finish_keeps b = record {
  others = refl;
  glyphs = refl;
  positions = finish_length (length b.positions) b.direction b.positions 0;
}
