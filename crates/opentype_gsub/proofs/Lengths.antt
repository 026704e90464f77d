-- By how much a subtable makes a text longer.
use Rattle.std.proofs.Common.{◌≡◌, ℕ, ◌+◌, ◌-◌, ◌<◌, ◌≤◌, ◌==◌, ◌&&◌, Bool, true, false, nat_lt, List, [], ◌∷◌, ◌++◌, take, drop, length, refl, ap, zero, suc, arith, if◌then◌else◌, length-append, length-drop, length-set, length-take}
use Rattle.std.specs.List.{remove}
use Rattle.std.specs.Prelude.{slice_set}
use Rattle.std.proofs.lemmas.Bool.{ltb-true}
use Rattle.std.proofs.lemmas.Bool.Decides.{nat_tests}
use Rattle.shapers_buffer.specs.Glyphs.{Glyph, Glyphs}
use Rattle.shapers_buffer.specs.Clusters.{merge}
use Rattle.shapers_buffer.specs.declared.buffer.level.BufferClusterLevel.{BufferClusterLevel}
use Rattle.shapers_buffer.specs.declared.buffer.lookup_record.LookupRecord.{LookupRecord}
use Rattle.shapers_clusters.proofs.Merging.{length-merge}
use Rattle.opentype_face.specs.Bytes.{u16_in}
use Rattle.opentype_gsub.specs.Edits.{count_in, handed_on, last_place, merged_up_to, multiplied, sequence_glyphs, removed_all, replaced}
use Rattle.opentype_gsub.specs.Ligated.{ligature_joined, ligated}
use Rattle.opentype_gsub.proofs.LigatureKeeps.{joined_same, same_length}
use Rattle.opentype_layout.specs.Text.{glyph_at}
use Rattle.opentype_gsub.specs.Applied.{PlaceChange, sequence_put}
use Rattle.opentype_gsub.specs.Setting.{Setting}

length-parts : (gdef sequence : List ℕ) (g : Glyph) (n k : ℕ) → length (sequence_glyphs n gdef sequence g k) ≡ n
unfolding sequence_glyphs
length-parts gdef sequence g zero k = refl
length-parts gdef sequence g (suc n) k = ap suc (length-parts gdef sequence g n (k + 1))

pub put_few : (gdef : List ℕ) (at : ℕ) (gs : Glyphs) (to : ℕ) →
    length (slice_set gs at (replaced gdef to 0 (glyph_at gs at))) ≤ length gs
put_few gdef at gs to = omega (arith, length-set gs at (replaced gdef to 0 (glyph_at gs at)))

pub length-multiplied : (gdef sequence : List ℕ) (at : ℕ) (gs : Glyphs) → at < length gs →
    length (multiplied gdef sequence at gs) + 1 ≡ length gs + count_in sequence
unfolding multiplied
length-multiplied gdef sequence at gs lt =
    let g = glyph_at gs at in
    let parts = sequence_glyphs (count_in sequence) gdef sequence g 0 in
    omega (
      arith,
      length-append (take at gs) (parts ++ drop (at + 1) gs),
      length-append parts (drop (at + 1) gs),
      length-take at gs,
      length-drop (at + 1) gs,
      length-parts gdef sequence g (count_in sequence) 0,
    )

pub length-remove : (gs : Glyphs) (at : ℕ) → length (remove gs at) ≤ length gs
length-remove [] zero = omega arith
length-remove [] (suc at) = omega arith
length-remove (g ∷ gs) zero = omega arith
length-remove (g ∷ gs) (suc at) = let h = length-remove gs at in omega arith

-- a choice of two texts
choice : (test : Bool) (x y : Glyphs) (n : ℕ) → (test ≡ true → length x ≡ n) → (test ≡ false → length y ≡ n) →
    length (if test then x else y) ≡ n
choice true x y n one two = one refl
choice false x y n one two = two refl

pub length-handed : (level : BufferClusterLevel) (at : ℕ) (gs : Glyphs) → at < length gs →
    length (handed_on level at gs) ≡ length gs
unfolding handed_on
length-handed level at gs lt =
    let here = (glyph_at gs at).cluster in
    let more = nat_lt (at + 1) (length gs) in
    let less = nat_lt here (glyph_at gs (at - 1)).cluster in
    let forward : Glyphs = if more then merge level at (at + 2) gs else gs in
    let back : Glyphs = if less then merge level (at - 1) (at + 1) gs else gs in
    let is_more : more ≡ true → at + 2 ≤ length gs = λ e. (let m = ltb-true (at + 1) (length gs) e in omega arith) in
    let one : length forward ≡ length gs = choice more (merge level at (at + 2) gs) gs (length gs)
    (λ e. length-merge level at (at + 2) gs (is_more e)) (λ e. refl) in
    let two : length back ≡ length gs = choice less (merge level (at - 1) (at + 1) gs) gs (length gs)
    (λ e. length-merge level (at - 1) (at + 1) gs (omega arith)) (λ e. refl) in
    choice (more && ((glyph_at gs (at + 1)).cluster == here)) gs (if at == 0 then forward else back) (length gs)
    (λ e. refl) (λ e. choice (at == 0) forward back (length gs) (λ e. one) (λ e. two))

few_of : (test : Bool) (x y : PlaceChange) (n : ℕ) → length x.text ≤ n → length y.text ≤ n →
    length (if test then x else y).text ≤ n
few_of true x y n one two = one
few_of false x y n one two = two

few_else : (test : Bool) (x y : PlaceChange) (n : ℕ) → length x.text ≤ n → (test ≡ false → length y.text ≤ n) →
    length (if test then x else y).text ≤ n
few_else true x y n one two = one
few_else false x y n one two = two refl

has_room_for : (limit len count n : ℕ) → nat_lt (limit - len) (count - 1) ≡ false → len ≤ n → limit ≤ n →
    len + count ≤ n + 1
has_room_for limit len count n e within limited =
    let h : count - 1 ≤ limit - len = grind (arith, nat_tests) in omega arith

pub sequence_few : (s : Setting) (at : ℕ) (gs : Glyphs) (r : LookupRecord) (sequence : List ℕ) → at < length gs → (n : ℕ) →
    length gs ≤ n → s.limit ≤ n → length (sequence_put s at gs r sequence).text ≤ n
sequence_few s at gs r sequence lt n within limited =
    few_of (count_in sequence == 0) _ _ n
    (omega (arith, length-remove (handed_on s.level at gs) at, length-handed s.level at gs lt))
    (few_of (count_in sequence == 1) _ _ n (omega (arith, put_few s.gdef at gs (u16_in sequence 2)))
    (few_else (nat_lt (s.limit - length gs) (count_in sequence - 1)) _ _ n within
    (λ e. (let room = has_room_for s.limit (length gs) (count_in sequence) n e within limited in
    let len = length-multiplied s.gdef sequence at gs lt in
    omega arith))))

length-removed : (ps : List ℕ) (gs : Glyphs) → length (removed_all ps gs) ≤ length gs
unfolding removed_all
length-removed [] gs = omega arith
length-removed (p ∷ ps) gs =
    let h = length-removed ps gs in
    let k = length-remove (removed_all ps gs) p in omega arith

pub length-merged : (level : BufferClusterLevel) (at last : ℕ) (gs : Glyphs) → last < length gs →
    length (merged_up_to level at last gs) ≡ length gs
unfolding merged_up_to
length-merged level at last gs lt = choice (nat_lt at last) (merge level at (last + 1) gs) gs (length gs)
    (λ e. length-merge level at (last + 1) gs (omega arith)) (λ e. refl)

pub ligated_few : (level : BufferClusterLevel) (gdef : List ℕ) (at to : ℕ) (ps : List ℕ) (gs : Glyphs) →
    last_place at ps < length gs → length (ligated gdef level at ps to gs) ≤ length gs
unfolding ligated
ligated_few level gdef at to ps gs lt =
    omega (
      arith,
      length-removed ps (ligature_joined gdef level at ps to gs),
      same_length (ligature_joined gdef level at ps to gs) (merged_up_to level at (last_place at ps) gs) (joined_same gdef level at ps to gs),
      length-merged level at (last_place at ps) gs lt,
    )
