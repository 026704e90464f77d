-- The walk over the tiles of a sequence, from its last to its first.
use Rattle.std.proofs.Common.{◌≡◌, ◌≤◌, ◌<◌, ◌+◌, ◌-◌, ℕ, zero, suc, Bool, List, [], ◌∷◌, ◌++◌, length, take, drop, get_or, reverse, flat_map, refl, arith, subst}
use Rattle.std.specs.List.{zip, AllByRecursion}
use Rattle.std.proofs.lemmas.List.{append-nil, length-append, length-drop, length-take-le, take_more, reverse-append}
use Rattle.std.proofs.lemmas.List.Concat.{flat_map-append}
use Rattle.std.proofs.lemmas.Slice.Zip.{get_or-zip}
use Rattle.shapers_buffer.specs.declared.buffer.glyph.GlyphPosition.{GlyphPosition}
use Rattle.shapers_buffer.specs.Glyphs.{Glyph, Glyphs}
use Rattle.shapers_buffer.specs.Clusters.{stretch_of}
use Rattle.shapers_base.specs.Font.{Font}
use Rattle.shapers_stretch.specs.declared.ot_shaper_arabic_stretch.tiles.Pen.{Pen}
use Rattle.shapers_stretch.specs.declared.ot_shaper_arabic_stretch.measuring.Lay.{Lay}
use Rattle.shapers_stretch.specs.declared.ot_shaper_arabic_stretch.measuring.TileSequence.{TileSequence}
use Rattle.shapers_stretch.specs.Cells.{Cell}
use Rattle.shapers_stretch.specs.LayingWalk.{CanLay, Lays, copies_by, sequence_copies}
use Rattle.shapers_stretch.specs.Stretch.{Copy, copies, copies_of}
use Rattle.shapers_stretch.proofs.LaidCopies.{can_first, can_rest, lays_then}
use Rattle.shapers_stretch.proofs.Zips.{length-zipped}

-- The tiles from i to the end are laid, and those from the first to i can be, which stand yet.
pub record TilesLeft (right_to_left : Bool) (font : Font) (lay : Lay) (first end i : ℕ) (start pen : Pen)
    (old : List Cell) (gs : Glyphs) (ps : List GlyphPosition) : Type 0 where
  pub from : first ≤ i
  pub to : i ≤ end
  pub both : length gs ≡ length ps
  pub same : length gs ≡ length old
  pub can : CanLay right_to_left (sequence_copies font lay (stretch_of first i old)) pen gs ps
  pub lays : Lays right_to_left (sequence_copies font lay (stretch_of i end old)) start pen old (zip gs ps)
  pub room : first + length (sequence_copies font lay (stretch_of first i old)) ≤ pen.place
  pub within : end ≤ length old

reverse_cons : {X : Type 0} (x : X) (xs : List X) → reverse (x ∷ xs) ≡ reverse xs ++ x ∷ []
reverse_cons x xs = reverse-append (x ∷ []) xs

pushed : (f : Cell → List Copy) (c : Cell) (cs : List Cell) → flat_map f (reverse (c ∷ cs)) ≡ flat_map f (reverse cs)
    ++ f c
pushed = search (reverse_cons, flat_map-append, append-nil)

pub copies-push : (font : Font) (z : TileSequence) (c : Cell) (cs : List Cell)
    → copies font z (c ∷ cs) ≡ copies font z cs ++ copies_of font z c
copies-push = search pushed

next : (n m : ℕ) → suc (n + m) ≡ suc n + m
next = omega arith

get_none : {X : Type 0} (n : ℕ) (d : X) → get_or [] n d ≡ d
get_none _ d = refl

get_dropped : {X : Type 0} (s n : ℕ) (xs : List X) (d : X) → get_or (drop s xs) n d ≡ get_or xs (s + n) d
get_dropped zero n xs d = search arith
get_dropped (suc s) n [] d = search
get_dropped (suc s) n (x ∷ xs) d = cc (get_dropped s n xs d, next s n)

-- a stretch with its last and its first element
stretch_last : {X : Type 0} (s i : ℕ) (xs : List X) (d : X) → s < i → i ≤ length xs
    → stretch_of s i xs ≡ stretch_of s (i - 1) xs ++ get_or xs (i - 1) d ∷ []
stretch_last s i xs d p q =
    let n = i - 1 - s in
    search (arith, take_more (drop s xs) n d (omega (arith, length-drop s xs)), get_dropped s n xs d)

drop_first : {X : Type 0} (i : ℕ) (xs : List X) (d : X) → i < length xs → drop i xs ≡ get_or xs i d ∷ drop (suc i) xs
drop_first i [] d p = absurd (omega arith)
drop_first zero (x ∷ xs) d p = refl
drop_first (suc i) (x ∷ xs) d p = drop_first i xs d (omega arith)

stretch_first : {X : Type 0} (i e : ℕ) (xs : List X) (d : X) → 0 < i → i ≤ e → e ≤ length xs
    → stretch_of (i - 1) e xs ≡ get_or xs (i - 1) d ∷ stretch_of i e xs
stretch_first zero e xs d p q r = absurd (omega arith)
stretch_first (suc i) e xs d p q r = let more : e - i ≡ suc (e - suc i) = omega arith in search (arith, drop_first)

-- what stands before the pen's place is as it was
get_taken : {X : Type 0} (i p : ℕ) (xs : List X) (d : X) → i < p → get_or (take p xs) i d ≡ get_or xs i d
get_taken i zero xs d h = absurd (omega arith)
get_taken i (suc p) [] d h = refl
get_taken zero (suc p) (x ∷ xs) d h = refl
get_taken (suc i) (suc p) (x ∷ xs) d h = get_taken i p xs d (omega arith)

pub number_at : (P : Glyph → Type 0) (end : ℕ) (gs : Glyphs) (i : ℕ) (d : Glyph)
    → AllByRecursion P (take end gs) → i < end → i < length gs → P (get_or gs i d)
number_at P (suc end) (g ∷ gs) zero d all h w = all.0
number_at P (suc end) (g ∷ gs) (suc i) d all h w = number_at P end gs i d all.1 (omega arith) (omega arith)
number_at P _ _ i d all h w = absurd (omega arith)

copies_many : (font : Font) (lay : Lay) (cs : List Cell) → length cs ≤ length (sequence_copies font lay cs)
copies_many font lay [] = omega arith
copies_many font lay (c ∷ cs) = search (arith, pushed, length-append, copies_many font lay cs)

-- the start: all tiles are left
pub tiles_start : (right_to_left : Bool) (font : Font) (lay : Lay) (first end : ℕ) (pen : Pen)
    (gs : Glyphs) (ps : List GlyphPosition) → first ≤ end → end ≤ length gs → length gs ≡ length ps
    → CanLay right_to_left (sequence_copies font lay (stretch_of first end (zip gs ps))) pen gs ps
    → first + length (sequence_copies font lay (stretch_of first end (zip gs ps))) ≤ pen.place
    → TilesLeft right_to_left font lay first end end pen pen (zip gs ps) gs ps
tiles_start = search (arith, length-zipped)

-- there is a tile before i, it stands yet, and can be laid
pub tile_left : (right_to_left : Bool) (font : Font) (lay : Lay) (first end i : ℕ) (start pen : Pen) (old : List Cell)
    (gs : Glyphs) (ps : List GlyphPosition) (g : Glyph) (q : GlyphPosition) → first < i
    → TilesLeft right_to_left font lay first end i start pen old gs ps → (get_or gs (i - 1) g, get_or ps (i - 1) q)
    ≡ get_or old (i - 1) (g, q)
tile_left right_to_left font lay first end i start pen old gs ps g q p t =
    let many : i - first ≤ length (sequence_copies font lay (stretch_of first i old)) =
    search (arith, copies_many, length-take-le, length-drop) in
    search (arith, get_or-zip, get_taken)

tile_cell : (right_to_left : Bool) (font : Font) (lay : Lay) (first end i : ℕ) (start pen : Pen) (old : List Cell)
    (gs : Glyphs) (ps : List GlyphPosition) (g : Glyph) (q : GlyphPosition) → first < i
    → TilesLeft right_to_left font lay first end i start pen old gs ps → sequence_copies font lay (stretch_of first i old)
    ≡ copies_by font lay (get_or gs (i - 1) g, get_or ps (i - 1) q)
    ++ sequence_copies font lay (stretch_of first (i - 1) old)
tile_cell right_to_left font lay first end i start pen old gs ps g q p t = search (
  arith,
  stretch_last first i old (g, q) p (omega arith),
  reverse-append,
  tile_left right_to_left font lay first end i start pen old gs ps g q p t,
)

pub tile_can : (right_to_left : Bool) (font : Font) (lay : Lay) (first end i : ℕ) (start pen : Pen) (old : List Cell)
    (gs : Glyphs) (ps : List GlyphPosition) (g : Glyph) (q : GlyphPosition) → first < i
    → TilesLeft right_to_left font lay first end i start pen old gs ps
    → CanLay right_to_left (copies_by font lay (get_or gs (i - 1) g, get_or ps (i - 1) q)) pen gs ps
tile_can right_to_left font lay first end i start pen old gs ps g q p t =
    can_first right_to_left _ (sequence_copies font lay (stretch_of first (i - 1) old)) pen gs ps
    (search (arith, tile_cell))

-- it is laid
pub tile_next : (right_to_left : Bool) (font : Font) (lay : Lay) (first end i : ℕ) (start pen after : Pen)
    (old : List Cell) (gs hs : Glyphs) (ps qs : List GlyphPosition) (g : Glyph)
    (q : GlyphPosition) → first < i → TilesLeft right_to_left font lay first end i start pen old gs ps
    → Lays right_to_left (copies_by font lay (get_or gs (i - 1) g, get_or ps (i - 1) q)) pen after (zip gs ps)
    (zip hs qs) → length hs ≡ length gs → length hs ≡ length qs
    → TilesLeft right_to_left font lay first end (i - 1) start after old hs qs
tile_next right_to_left font lay first end i start pen after old gs hs ps qs g q p t laid same both =
    let left = sequence_copies font lay (stretch_of first (i - 1) old) in
    search (
      arith,
      can_rest right_to_left (copies_by font lay (get_or gs (i - 1) g, get_or ps (i - 1) q)) left pen after gs hs ps
          qs (zip gs ps) (zip hs qs)
          (subst (λ copies. CanLay right_to_left copies pen gs ps) (tile_cell right_to_left font lay first end i
          start pen old gs ps g q p t) t.can) laid same both,
      stretch_first i end old (g, q) (omega arith) t.to t.within,
      pushed (copies_by font lay) (get_or old (i - 1) (g, q)) (stretch_of i end old),
      tile_left right_to_left font lay first end i start pen old gs ps g q p t,
      lays_then right_to_left (sequence_copies font lay (stretch_of i end old))
          (copies_by font lay (get_or gs (i - 1) g, get_or ps (i - 1) q)) start pen after old (zip gs ps) (zip hs qs)
          t.lays laid,
      tile_cell right_to_left font lay first end i start pen old gs ps g q p t,
      length-append (copies_by font lay (get_or gs (i - 1) g, get_or ps (i - 1) q)) left,
    )

-- its glyph number is in range
pub tile_number : (right_to_left : Bool) (font : Font) (lay : Lay) (first end i : ℕ) (start pen : Pen)
    (was gs : Glyphs) (before ps : List GlyphPosition) (g : Glyph) (q : GlyphPosition)
    → first < i → TilesLeft right_to_left font lay first end i start pen (zip was before) gs ps
    → length was ≡ length before → AllByRecursion (λ g. g.glyph_id ≤ 65535) (take end was)
    → (get_or gs (i - 1) g).glyph_id ≤ 65535
tile_number right_to_left font lay first end i start pen was gs before ps g q p t both all =
    let within : i - 1 < length was = omega (arith, length-zipped was before both) in
    search (
      arith,
      tile_left right_to_left font lay first end i start pen (zip was before) gs ps g q p t,
      get_or-zip was before (i - 1) (g, q) within (omega (arith, both)),
      number_at (λ g. g.glyph_id ≤ 65535) end was (i - 1) g all (omega (arith, t.to)) within,
    )
