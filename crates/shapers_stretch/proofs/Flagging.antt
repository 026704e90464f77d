-- A word and its sequence, flagged together: nothing that is measured or laid changes but the masks.
use Rattle.std.proofs.Common.{◌≡◌, ◌≤◌, ◌+◌, ◌-◌, ℕ, zero, suc, ℤ, Bool, true, false, cond, List, [], ◌∷◌, ◌++◌, length, map, take, drop, replicate, refl, sym, ◌∙◌, ap, arith}
use Rattle.std.specs.List.{zip, AllByRecursion}
use Rattle.std.proofs.lemmas.List.{drop-take, append_assoc, length-append, length-drop, length-map, length-take-le, map-append, take-append-drop, take-map, take_at, drop_at, drop-drop, take-take}
use Rattle.std.proofs.lemmas.Slice.Zip.{firsts-zip, seconds-zip}
use Rattle.shapers_buffer.specs.declared.buffer.glyph.GlyphPosition.{GlyphPosition}
use Rattle.shapers_buffer.specs.Glyphs.{Glyph, Glyphs}
use Rattle.shapers_buffer.specs.Clusters.{least, stretch_of}
use Rattle.shapers_buffer.specs.Glyph.{clusters}
use Rattle.shapers_buffer.specs.GlyphFlags.{flagged, unsafe_inside, with_bits_off}
use Rattle.shapers_buffer.proofs.ClusterLemmas.{length-stretch}
use Rattle.shapers_base.specs.Font.{Font}
use Rattle.shapers_stretch.specs.declared.ot_shaper_arabic_stretch.measuring.TileSequence.{TileSequence}
use Rattle.shapers_stretch.specs.Cells.{Cell, glyphs_of, positions_of, repeats}
use Rattle.shapers_stretch.specs.CountingWalk.{pen_behind}
use Rattle.shapers_stretch.specs.LayingWalk.{laid_on, offsets}
use Rattle.shapers_stretch.specs.Stretch.{Copy, copies, unbroken}
use Rattle.shapers_stretch.proofs.TileWalk.{copies-push}
use Rattle.shapers_stretch.proofs.Zips.{length-zipped, stretch_then, zip-append, zip-drop, zip-stretch, zip-take}
use Rattle.shapers_stretch.proofs.Moves.{map-replicate}
use Rattle.shapers_stretch.proofs.PartCounts.{length-unbroken}

-- two stretches, one behind the other
pub stretch_join : {X : Type 0} (s m e : ℕ) (xs : List X) → s ≤ m → m ≤ e → stretch_of s m xs ++ stretch_of m e xs
    ≡ stretch_of s e xs
stretch_join s m e xs p q =
    let n = m - s in
    let rest : stretch_of m e xs ≡ drop n (take (n + (e - m)) (drop s xs)) =
    ap (λ k. take (e - m) (drop k xs)) (sym (omega arith)) ∙ ap (take (e - m)) (sym (drop-drop n s xs))
    ∙ sym (drop-take n (e - m) (drop s xs)) in
    search (
      arith,
      take-take n (n + (e - m)) (drop s xs) (omega arith),
      take-append-drop n (take (n + (e - m)) (drop s xs)),
    )

pub stretch_glyphs : (s e : ℕ) (gs : Glyphs) (ps : List GlyphPosition) → length gs ≡ length ps
    → e ≤ length gs → glyphs_of (stretch_of s e (zip gs ps)) ≡ stretch_of s e gs
stretch_glyphs = search (arith, zip-stretch, firsts-zip, length-stretch)

pub stretch_positions : (s e : ℕ) (gs : Glyphs) (ps : List GlyphPosition) → length gs ≡ length ps
    → e ≤ length gs → positions_of (stretch_of s e (zip gs ps)) ≡ stretch_of s e ps
stretch_positions = search (arith, zip-stretch, seconds-zip, length-stretch)

-- what the flags make of slices
pub record Flagged (w t e : ℕ) (gs fs : Glyphs) (ps : List GlyphPosition) : Type 0 where
  pub whole : zip fs ps ≡ take w (zip gs ps)
      ++ (unbroken (stretch_of w t (zip gs ps) ++ stretch_of t e (zip gs ps)) ++ drop e (zip gs ps))
  pub same_length : length fs ≡ length gs
  pub front : take t (zip fs ps) ≡ take w (zip gs ps) ++ take (length (stretch_of w t (zip gs ps)))
      (unbroken (stretch_of w t (zip gs ps) ++ stretch_of t e (zip gs ps)))
  pub tiles : stretch_of t e (zip fs ps)
      ≡ drop (length (stretch_of w t (zip gs ps))) (unbroken (stretch_of w t (zip gs ps) ++ stretch_of t e (zip gs ps)))
  pub behind : (p : ℕ) → e ≤ p → drop p (zip fs ps) ≡ drop p (zip gs ps)

pub whole_cells : (w t e : ℕ) (gs : Glyphs) (ps : List GlyphPosition) → w ≤ t → t ≤ e → e ≤ length gs
    → length gs ≡ length ps → zip (unsafe_inside w e gs) ps ≡ take w (zip gs ps)
    ++ (unbroken (stretch_of w t (zip gs ps) ++ stretch_of t e (zip gs ps)) ++ drop e (zip gs ps))
whole_cells w t e gs ps p q r both =
    let fs = flagged 3 (stretch_of w e gs) in
    let flagged_length : length fs ≡ length (stretch_of w e ps) = omega (
      arith,
      length-map (stretch_of w e gs) (with_bits_off 3 (least (clusters (stretch_of w e gs)))),
      length-stretch w e gs r,
      length-stretch w e ps (omega arith),
    ) in
    cc (
      take-append-drop w ps,
      stretch_then w e ps (omega arith),
      zip-append (take w gs) (take w ps) (fs ++ drop e gs) (stretch_of w e ps ++ drop e ps)
          (omega (arith, length-take-le w gs (omega arith), length-take-le w ps (omega arith))),
      zip-append fs (stretch_of w e ps) (drop e gs) (drop e ps) flagged_length,
      zip-take w gs ps,
      zip-drop e gs ps,
      stretch_glyphs w e gs ps both r,
      stretch_positions w e gs ps both r,
      stretch_join w t e (zip gs ps) p q,
    )

-- the flags, cell by cell
abbrev pub flag_cell : ℕ → Cell → Cell
flag_cell m c = (with_bits_off 3 m c.0, c.1)

zip_mapped : (f : Glyph → Glyph) (cs : List Cell) → zip (map f (glyphs_of cs)) (positions_of cs)
    ≡ map (λ (c : Cell). let d : Cell = (f c.0, c.1) in d) cs
zip_mapped f [] = refl
zip_mapped f (c ∷ cs) = cc (zip_mapped f cs)

pub unbroken_is : (cs : List Cell) → unbroken cs ≡ map (flag_cell (least (clusters (glyphs_of cs)))) cs
unbroken_is = search zip_mapped

join : (e k : ℕ) → e ≤ k → k ≡ e + (k - e)
join = omega arith

pub flags_made : (w t e : ℕ) (gs fs : Glyphs) (ps : List GlyphPosition) → w ≤ t → t ≤ e → e ≤ length gs
    → length gs ≡ length ps → fs ≡ unsafe_inside w e gs → Flagged w t e gs fs ps
flags_made w t e gs fs ps p q r both is =
    let cells = zip gs ps in
    let word = stretch_of w t cells in
    let tiles = stretch_of t e cells in
    let all = unbroken (word ++ tiles) in
    let F = zip fs ps in
    let long : length cells ≡ length gs = length-zipped gs ps both in
    let whole : F ≡ take w cells ++ (all ++ drop e cells) = search (arith, whole_cells) in
    let same_length : length fs ≡ length gs =
    search (arith, length-append, length-take-le, length-map, length-drop) in
    let before : length (take w cells) ≡ w = length-take-le w cells (omega arith) in
    let word_length : length word ≡ t - w = length-stretch w t cells (omega arith) in
    let tiles_length : length tiles ≡ e - t = length-stretch t e cells (omega arith) in
    let all_length : length all ≡ (t - w) + (e - t) =
    omega (arith, length-unbroken (word ++ tiles), length-append word tiles) in
    let split =
    whole ∙ ap (λ z. take w cells ++ (z ++ drop e cells)) (sym (take-append-drop (length word) all))
    ∙ ap (λ z. take w cells ++ z) (append_assoc (take (length word) all) (drop (length word) all) (drop e cells))
    ∙ sym (append_assoc (take w cells) (take (length word) all) (drop (length word) all ++ drop e cells)) in
    let front_length : length (take w cells ++ take (length word) all) ≡ t =
    omega (
      arith,
      length-append (take w cells) (take (length word) all),
      length-take-le (length word) all (omega arith),
    ) in
    let run_length : length (drop (length word) all) ≡ e - t = omega (arith, length-drop (length word) all) in
    let dropped_front = ap (drop t) split
    ∙ drop_at (take w cells ++ take (length word) all) (drop (length word) all ++ drop e cells) t front_length in
    let at_end : drop e F ≡ drop e cells = ap (λ n. drop n F) (join t e q) ∙ sym (drop-drop (e - t) t F)
    ∙ ap (drop (e - t)) dropped_front ∙ drop_at (drop (length word) all) (drop e cells) (e - t) run_length in
    record {
      whole = whole;
      same_length = same_length;
      front = ap (take t) split
          ∙ take_at (take w cells ++ take (length word) all) (drop (length word) all ++ drop e cells) t front_length;
      tiles = ap (take (e - t)) dropped_front ∙ take_at (drop (length word) all) (drop e cells) (e - t) run_length;
      behind = λ k h. ap (λ n. drop n F) (join e k h) ∙ sym (drop-drop (k - e) e F) ∙ ap (drop (k - e)) at_end
          ∙ drop-drop (k - e) e cells ∙ ap (λ n. drop n cells) (sym (join e k h));
    }

-- glyph numbers and kinds of tiles stay
id_if : (b : Bool) (g h : Glyph) → h.glyph_id ≡ g.glyph_id → (cond b g h).glyph_id ≡ g.glyph_id
id_if true g h e = refl
id_if false g h e = e

pub same_id : (m : ℕ) (g : Glyph) → (with_bits_off 3 m g).glyph_id ≡ g.glyph_id
same_id = search arith

repeats_if : (b : Bool) (g h : Glyph) → repeats h ≡ repeats g → repeats (cond b g h) ≡ repeats g
repeats_if true g h e = refl
repeats_if false g h e = e

-- so the copies of flagged tiles are the copies, flagged
abbrev pub flag_copy : ℕ → Copy → Copy
flag_copy m copy = record copy { tile = flag_cell m copy.tile }

abbrev copies_at : ℤ → ℤ → ℕ → Bool → Cell → List Copy
copies_at w v n b c = record { tile = c; move = w } ∷ cond b (replicate n (record { tile = c; move = v })) []

flag_copies_at : (m : ℕ) (w v : ℤ) (n : ℕ) (b : Bool) (c : Cell) → copies_at w v n b (flag_cell m c)
    ≡ map (flag_copy m) (copies_at w v n b c)
flag_copies_at m w v n true c = search (arith, map-replicate)
flag_copies_at m w v n false c = refl

pub flag_copies : (font : Font) (z : TileSequence) (m : ℕ) (cs : List Cell) → copies font z (map (flag_cell m) cs)
    ≡ map (flag_copy m) (copies font z cs)
flag_copies font z m [] = refl
flag_copies font z m (c ∷ cs) = search (arith, copies-push, flag_copies_at, map-append, flag_copies font z m cs)

pub flag_offsets : (right_to_left : Bool) (m : ℕ) (at : ℤ) (xs : List Copy)
    → offsets (laid_on right_to_left at (map (flag_copy m) xs)) ≡ offsets (laid_on right_to_left at xs)
flag_offsets right_to_left m at [] = refl
flag_offsets right_to_left m at (x ∷ xs) = cc (flag_offsets right_to_left m (pen_behind right_to_left at x.move) xs)

-- the flagged tiles of a part
pub tiles_are : (word tiles : List Cell) → drop (length word) (unbroken (word ++ tiles))
    ≡ map (flag_cell (least (clusters (glyphs_of (word ++ tiles))))) tiles
tiles_are = search (arith, unbroken_is, map-append, drop_at, length-map)

take_none : {X : Type 0} (m : ℕ) → take {A = X} m [] ≡ []
take_none zero = refl
take_none (suc m) = refl

-- glyph numbers in a stretch, and of flagged glyphs
pub all_stretch : (P : Glyph → Type 0) (t e : ℕ) (gs : Glyphs) → AllByRecursion P (take e gs)
    → AllByRecursion P (take (e - t) (drop t gs))
all_stretch P (suc t) (suc e) [] all = search take_none
all_stretch P (suc t) (suc e) (g ∷ gs) all = search (arith, all_stretch P t e gs all.1)
all_stretch P _ _ gs all = search arith

all_mapped : {X Y : Type 0} (f : X → Y) (P : Y → Type 0) (xs : List X) → AllByRecursion (λ x. P (f x)) xs
    → AllByRecursion P (map f xs)
all_mapped f P [] all = tt
all_mapped f P (x ∷ xs) all = (all.0, all_mapped f P xs all.1)

all_unmapped : {X Y : Type 0} (f : X → Y) (P : Y → Type 0) (xs : List X) → AllByRecursion P (map f xs)
    → AllByRecursion (λ x. P (f x)) xs
all_unmapped f P [] all = tt
all_unmapped f P (x ∷ xs) all = (all.0, all_unmapped f P xs all.1)

ids_flagged : (m : ℕ) (gs : Glyphs)
    → map (λ (g : Glyph). g.glyph_id) (map (with_bits_off 3 m) gs) ≡ map (λ (g : Glyph). g.glyph_id) gs
ids_flagged m [] = refl
ids_flagged m (g ∷ gs) = cc (same_id m g, ids_flagged m gs)

ids_unsafe : (w e : ℕ) (gs : Glyphs) → w ≤ e
    → map (λ (g : Glyph). g.glyph_id) (unsafe_inside w e gs) ≡ map (λ (g : Glyph). g.glyph_id) gs
ids_unsafe w e gs p =
    let id : Glyph → ℕ = λ g. g.glyph_id in
    let s = stretch_of w e gs in
    cc (
      map-append id (take w gs) (flagged 3 s ++ drop e gs),
      map-append id (flagged 3 s) (drop e gs),
      ids_flagged (least (clusters s)) s,
      map-append id s (drop e gs),
      map-append id (take w gs) (s ++ drop e gs),
      stretch_then w e gs p,
      take-append-drop w gs,
    )

pub numbers_stay : (P : ℕ → Type 0) (w e : ℕ) (gs fs : Glyphs) → w ≤ e → fs ≡ unsafe_inside w e gs
    → AllByRecursion (λ g. P g.glyph_id) (take e gs) → AllByRecursion (λ g. P g.glyph_id) (take e fs)
numbers_stay P w e gs fs p is all =
    let id : Glyph → ℕ = λ g. g.glyph_id in
    let same : map id (take e gs) ≡ map id (take e fs) =
    cc (take-map id e gs, ids_unsafe w e gs p, take-map id e fs) in
    all_unmapped id P (take e fs) (search (arith, all_mapped))
