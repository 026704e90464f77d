-- What the lookups of one glyph and of ligatures keep of clusters.
use Rattle.std.proofs.Common.{◌≡◌, ℕ, ◌+◌, ◌-◌, ◌<◌, ◌≤◌, Bool, true, false, nat_lt, ◌&&◌, ◌==◌, List, [], ◌∷◌, length, refl, zero, suc, arith, if◌then◌else◌}
use Rattle.std.proofs.lemmas.Bool.{ltb-true}
use Rattle.std.specs.List.{remove}
use Rattle.std.specs.Prelude.{slice_set}
use Rattle.shapers_buffer.specs.Glyphs.{Glyph, Glyphs}
use Rattle.shapers_buffer.specs.declared.buffer.level.BufferClusterLevel.{BufferClusterLevel}
use Rattle.shapers_buffer.specs.declared.buffer.lookup_record.LookupRecord.{LookupRecord}
use Rattle.shapers_clusters.proofs.Halves.{Each}
use Rattle.opentype_face.specs.Bytes.{u16_in}
use Rattle.shapers_buffer.specs.Clusters.{merge}
use Rattle.opentype_gsub.specs.Kept.{KeepsTextClusters}
use Rattle.opentype_gsub.specs.Edits.{count_in, handed_on, last_place, merged_up_to, multiplied, sequence_glyph, sequence_glyphs, removed_all, replaced}
use Rattle.opentype_gsub.specs.Ligated.{ligature_joined, ligated}
use Rattle.opentype_gsub.proofs.LigatureKeeps.{joined_same}
use Rattle.opentype_layout.specs.Text.{glyph_at}
use Rattle.opentype_gsub.specs.Applied.{PlaceChange, sequence_put}
use Rattle.opentype_gsub.specs.Setting.{Setting}
use Rattle.opentype_gsub.proofs.Kept.{itself, kept_then, merge_keeps, parts_keep, remove_keeps, same, set_keeps}

cluster-replaced : (gdef : List ℕ) (to guess : ℕ) (g : Glyph) → (replaced gdef to guess g).cluster ≡ g.cluster
unfolding replaced
cluster-replaced gdef to guess g = refl

cluster-table_at : (gdef sequence : List ℕ) (g : Glyph) (k : ℕ) → (sequence_glyph gdef sequence g k).cluster ≡ g.cluster
unfolding sequence_glyph replaced
cluster-table_at gdef sequence g k = refl

pub put_keeps : (level : BufferClusterLevel) (gdef : List ℕ) (at : ℕ) (gs : Glyphs) (to : ℕ) →
    KeepsTextClusters level gs (slice_set gs at (replaced gdef to 0 (glyph_at gs at)))
put_keeps level gdef at gs to =
    set_keeps level at gs (replaced gdef to 0 (glyph_at gs at)) (λ lt. cluster-replaced gdef to 0 (glyph_at gs at))

parts_each : (gdef sequence : List ℕ) (g : Glyph) (n k : ℕ) →
    Each (λ c. c ≡ g.cluster) (sequence_glyphs n gdef sequence g k)
unfolding sequence_glyphs
parts_each gdef sequence g zero k = tt
parts_each gdef sequence g (suc n) k = (cluster-table_at gdef sequence g k, parts_each gdef sequence g n (k + 1))

multiplied_keeps : (level : BufferClusterLevel) (gdef sequence : List ℕ) (at : ℕ) (gs : Glyphs) → at < length gs →
    KeepsTextClusters level gs (multiplied gdef sequence at gs)
unfolding multiplied
multiplied_keeps level gdef sequence at gs lt =
    parts_keep level at gs (sequence_glyphs (count_in sequence) gdef sequence (glyph_at gs at) 0) lt
    (parts_each gdef sequence (glyph_at gs at) (count_in sequence) 0)

-- a choice of two texts, by a test
choice : (level : BufferClusterLevel) (test : Bool) (gs x y : Glyphs) → (test ≡ true → KeepsTextClusters level gs x) →
    (test ≡ false → KeepsTextClusters level gs y) → KeepsTextClusters level gs (if test then x else y)
choice level true gs x y one two = one refl
choice level false gs x y one two = two refl

handed_keeps : (level : BufferClusterLevel) (at : ℕ) (gs : Glyphs) → at < length gs →
    KeepsTextClusters level gs (handed_on level at gs)
unfolding handed_on
handed_keeps level at gs lt =
    let here = (glyph_at gs at).cluster in
    let more = nat_lt (at + 1) (length gs) in
    let less = nat_lt here (glyph_at gs (at - 1)).cluster in
    let forward : Glyphs = if more then merge level at (at + 2) gs else gs in
    let back : Glyphs = if less then merge level (at - 1) (at + 1) gs else gs in
    let is_more : more ≡ true → at + 2 ≤ length gs = λ e. (let m = ltb-true (at + 1) (length gs) e in omega arith) in
    let one : KeepsTextClusters level gs forward = choice level more gs (merge level at (at + 2) gs) gs
    (λ e. merge_keeps level at (at + 2) gs (is_more e)) (λ e. itself level gs) in
    let two : KeepsTextClusters level gs back = choice level less gs (merge level (at - 1) (at + 1) gs) gs
    (λ e. merge_keeps level (at - 1) (at + 1) gs (omega arith)) (λ e. itself level gs) in
    choice level (more && ((glyph_at gs (at + 1)).cluster == here)) gs gs (if at == 0 then forward else back)
    (λ e. itself level gs)
    (λ e. choice level (at == 0) gs forward back (λ e. one) (λ e. two))

choose : (level : BufferClusterLevel) (test : Bool) (gs : Glyphs) (x y : PlaceChange) → KeepsTextClusters level gs x.text →
    KeepsTextClusters level gs y.text → KeepsTextClusters level gs (if test then x else y).text
choose level true gs x y one two = one
choose level false gs x y one two = two

pub sequence_keeps : (s : Setting) (at : ℕ) (gs : Glyphs) (r : LookupRecord) (sequence : List ℕ) →
    at < length gs → KeepsTextClusters s.level gs (sequence_put s at gs r sequence).text
sequence_keeps s at gs r sequence lt =
    choose s.level _ gs _ _
    (kept_then s.level gs (handed_on s.level at gs) (remove (handed_on s.level at gs) at)
    (handed_keeps s.level at gs lt) (remove_keeps s.level at (handed_on s.level at gs)))
    (choose s.level _ gs _ _ (put_keeps s.level s.gdef at gs (u16_in sequence 2))
    (choose s.level _ gs _ _ (itself s.level gs) (multiplied_keeps s.level s.gdef sequence at gs lt)))

-- ligatures
removed_keeps : (level : BufferClusterLevel) (ps : List ℕ) (gs : Glyphs) → KeepsTextClusters level gs (removed_all ps gs)
unfolding removed_all
removed_keeps level [] gs = itself level gs
removed_keeps level (p ∷ ps) gs = kept_then level gs (removed_all ps gs) (remove (removed_all ps gs) p)
    (removed_keeps level ps gs) (remove_keeps level p (removed_all ps gs))

merged_keeps : (level : BufferClusterLevel) (at last : ℕ) (gs : Glyphs) → last < length gs →
    KeepsTextClusters level gs (merged_up_to level at last gs)
unfolding merged_up_to
merged_keeps level at last gs lt = choice level (nat_lt at last) gs _ _ (λ e. merge_keeps level at (last + 1) gs (omega arith))
    (λ e. itself level gs)

joined_keeps : (level : BufferClusterLevel) (gdef : List ℕ) (at to : ℕ) (ps : List ℕ) (gs : Glyphs) →
    last_place at ps < length gs → KeepsTextClusters level gs (ligature_joined gdef level at ps to gs)
joined_keeps level gdef at to ps gs lt =
    let ms = merged_up_to level at (last_place at ps) gs in
    kept_then level gs ms (ligature_joined gdef level at ps to gs) (merged_keeps level at (last_place at ps) gs lt)
    (same level ms (ligature_joined gdef level at ps to gs) (joined_same gdef level at ps to gs))

pub ligated_keeps : (level : BufferClusterLevel) (gdef : List ℕ) (at to : ℕ) (ps : List ℕ) (gs : Glyphs) →
    last_place at ps < length gs → KeepsTextClusters level gs (ligated gdef level at ps to gs)
unfolding ligated
ligated_keeps level gdef at to ps gs lt =
    kept_then level gs (ligature_joined gdef level at ps to gs) (ligated gdef level at ps to gs)
    (joined_keeps level gdef at to ps gs lt)
    (removed_keeps level ps (ligature_joined gdef level at ps to gs))
