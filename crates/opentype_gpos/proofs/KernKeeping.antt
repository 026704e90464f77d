-- What the table `kern` keeps of a text.
use Rattle.std.proofs.Common.{ℕ, zero, suc, ◌+◌, ◌≡◌, ◌==◌, bit_and, nat_lt, Bool, true, false, List, [], map, length, reverse, Option, None, Some, if◌then◌else◌, refl, ap, ◌∙◌, arith}
use Rattle.std.proofs.lemmas.List.{length-map, length-reverse, length-set, reverse-reverse}
use Rattle.shapers_buffer.proofs.MappedLists.{map-reverse}
use Rattle.shapers_buffer.specs.Buffer.{Buffer, asks, flags_concat}
use Rattle.shapers_buffer.specs.GlyphFlags.{unsafe_to_concat_in, with_bits}
use Rattle.shapers_buffer.specs.Glyphs.{Glyph, Glyphs}
use Rattle.shapers_buffer.specs.declared.buffer.level.Direction.{Direction}
use Rattle.shapers_clusters.proofs.FlagCalls.{map-unsafe_to_concat_in, without_flags-or}
use Rattle.opentype_face.specs.Bytes.{table_at, u16_in}
use Rattle.opentype_layout.specs.Text.{glyph_at}
use Rattle.opentype_gpos.specs.Finished.{is_backward}
use Rattle.opentype_gpos.specs.Kerned.{PlacedText, in_one_line, is_across, kern_sight, kern_stepped, kerned, kerned_along, kerned_by, kerned_by_subtables, kerned_text, kerned_with, line_step, pair_kerned, with_step}
use Rattle.opentype_gpos.specs.Laws.{PlacesAlone, without_its_flags}
use Rattle.opentype_gpos.specs.Moved.{Positions, is_vertical}
use Rattle.opentype_gpos.specs.Nearby.{next_any}
use Rattle.opentype_gpos.proofs.Keeping.{flag, let_go_length}
use Rattle.opentype_gpos.proofs.Preserved.{Stays, choose_step, walk_keeps}

-- glyphs that are these but for their flags, and so many positions
abbrev Like : Glyphs → ℕ → Glyphs → Positions → Type 0
Like xs n gs ps = (map without_its_flags gs ≡ xs) × (length ps ≡ n)

abbrev IsLike : Glyphs → ℕ → PlacedText → Type 0
IsLike xs n t = Like xs n t.glyphs t.positions

choose : (b : Bool) (xs : Glyphs) (n : ℕ) (t u : PlacedText) → IsLike xs n t → IsLike xs n u → IsLike xs n (if b then t else u)
choose true xs n t u x y = x
choose false xs n t u x y = y

pair_length : (v across : Bool) (n i j : ℕ) (ps : Positions) → length (pair_kerned v across n i j ps) ≡ length ps
unfolding pair_kerned
pair_length v true n i j ps = length-set ps j _
pair_length v false n i j ps = length-set _ j _ ∙ length-set ps i _

with_keeps : (bytes : List ℕ) (v : Bool) (xs : Glyphs) (n : ℕ) (gs : Glyphs) (ps : Positions) (at : ℕ) (o : Option ℕ) →
    Like xs n gs ps → Stays (Like xs n) (kerned_with bytes v gs ps at o)
with_keeps bytes v xs n gs ps at None h = h
with_keeps bytes v xs n gs ps at (Some j) h = choose_step _ (Like xs n) _ _ h
    (flag true at j gs ∙ h.0, pair_length v (is_across bytes) _ at j ps ∙ h.1)

step_keeps : (bytes : List ℕ) (mask : ℕ) (v : Bool) (xs : Glyphs) (n : ℕ) (gs : Glyphs) (ps : Positions) (at : ℕ) →
    Like xs n gs ps → Stays (Like xs n) (kern_stepped bytes mask v gs ps at)
unfolding kern_stepped
step_keeps bytes mask v xs n gs ps at h = choose_step (bit_and (glyph_at gs at).mask mask == 0) (Like xs n) _ _ h
    (with_keeps bytes v xs n gs ps at (next_any [] (kern_sight mask) gs (at + 1)) h)

line_length : (step : ℕ) (ps : Positions) → length (in_one_line step ps) ≡ length ps
unfolding in_one_line
line_length step ps = let_go_length (map (with_step step) ps) 0 ∙ length-map ps (with_step step)

line_if : (b : Bool) (step : ℕ) (ps : Positions) → length (if b then in_one_line step ps else ps) ≡ length ps
line_if true step ps = line_length step ps
line_if false step ps = refl

along_keeps : (bytes : List ℕ) (mask : ℕ) (d : Direction) (xs : Glyphs) (n : ℕ) (t : PlacedText) → IsLike xs n t →
    IsLike xs n (kerned_along bytes mask d t)
unfolding kerned_along
along_keeps bytes mask d xs n t h = walk_keeps (length t.glyphs) (Like xs n) (kern_stepped bytes mask (is_vertical d))
    (λ gs ps at g. step_keeps bytes mask (is_vertical d) xs n gs ps at g) t.glyphs _ 0
    (h.0, line_if (is_across bytes) (line_step d) t.positions ∙ h.1)

by_keeps : (mask : ℕ) (d : Direction) (bytes : List ℕ) (xs : Glyphs) (n : ℕ) (t : PlacedText) → IsLike xs n t →
    IsLike xs n (kerned_by mask d bytes t)
unfolding kerned_by
by_keeps mask d bytes xs n t h = choose _ xs n _ t (along_keeps bytes mask d xs n t h) h

turns_keep : (k : ℕ) (each : List ℕ → PlacedText → PlacedText) (xs : Glyphs) (n : ℕ) →
    ((bytes : List ℕ) (t : PlacedText) → IsLike xs n t → IsLike xs n (each bytes t)) → (bytes : List ℕ) (t : PlacedText) →
    IsLike xs n t → IsLike xs n (kerned_by_subtables k each bytes t)
unfolding kerned_by_subtables
turns_keep zero each xs n keeps bytes t h = h
turns_keep (suc k) each xs n keeps bytes t h = choose (nat_lt (u16_in bytes 2) 6) xs n t _ h
    (turns_keep k each xs n keeps (table_at bytes (u16_in bytes 2)) (each bytes t) (keeps bytes t h))

-- a text that is turned around, changed, and turned back
abbrev turned_if : Bool → PlacedText → PlacedText
turned_if b t = if b then record { glyphs = reverse t.glyphs; positions = reverse t.positions } else t

turned_keeps : (b : Bool) (f : PlacedText → PlacedText) → ((xs : Glyphs) (n : ℕ) (t : PlacedText) → IsLike xs n t → IsLike xs n (f t)) →
    (xs : Glyphs) (n : ℕ) (t : PlacedText) → IsLike xs n t → IsLike xs n (turned_if b (f (turned_if b t)))
turned_keeps true f keeps xs n t h =
    let u : PlacedText = record { glyphs = reverse t.glyphs; positions = reverse t.positions } in
    let k : IsLike (reverse xs) n (f u) = keeps (reverse xs) n u
    (map-reverse without_its_flags t.glyphs ∙ ap reverse h.0, length-reverse t.positions ∙ h.1) in
    (map-reverse without_its_flags (f u).glyphs ∙ ap reverse k.0 ∙ reverse-reverse xs, length-reverse (f u).positions ∙ k.1)
turned_keeps false f keeps xs n t h = keeps xs n t h

text_keeps : (table : List ℕ) (mask : ℕ) (d : Direction) (xs : Glyphs) (n : ℕ) (t : PlacedText) → IsLike xs n t →
    IsLike xs n (kerned_text table mask d t)
unfolding kerned_text
text_keeps table mask d xs n t h = choose (u16_in table 0 == 0) xs n _ t
    (turned_keeps (is_backward d) (kerned_by_subtables (u16_in table 2) (kerned_by mask d) (table_at table 4))
    (λ ys m u g. turns_keep (u16_in table 2) (kerned_by mask d) ys m (λ bytes v k. by_keeps mask d bytes ys m v k)
    (table_at table 4) u g) xs n t h) h

concat_bits : (g : Glyph) → without_its_flags (with_bits 2 g) ≡ without_its_flags g
concat_bits g = ap (λ (m : ℕ). (record g { mask = m })) (without_flags-or g.mask 2 refl)

pub kern_keeps : (table : List ℕ) (mask : ℕ) (b : Buffer) → PlacesAlone b (kerned table mask b)
unfolding kerned
kern_keeps table mask b =
    let gs : Glyphs = unsafe_to_concat_in (asks flags_concat b) 0 (length b.glyphs) b.glyphs in
    let k = text_keeps table mask b.direction (map without_its_flags b.glyphs) (length b.positions)
    (record { glyphs = gs; positions = b.positions })
    (map-unsafe_to_concat_in without_its_flags concat_bits (asks flags_concat b) 0 (length b.glyphs) b.glyphs (omega arith), refl) in
    record { others = refl; glyphs = k.0; positions = k.1 }
