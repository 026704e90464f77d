-- A buffer whose marks stretch: the room that is made, the text backwards, and what the hook says of both.
use Rattle.std.proofs.Common.{◌≡◌, ◌≤◌, ◌+◌, ℕ, List, [], ◌∷◌, ◌++◌, length, reverse, take, replicate, Option, Some, Result, Ok, Err, OnOk, refl, sym, arith, length-append}
use Rattle.std.specs.List.{All, AllByRecursion, zip}
use Rattle.std.proofs.lemmas.List.Elements.{All-head, All-tail}
use Rattle.std.proofs.Math.Seq.{take-append_seam}
use Rattle.shapers_buffer.specs.Buffer.{Buffer, grown, more_positions}
use Rattle.shapers_buffer.specs.Glyph.{default_glyph, default_position}
use Rattle.shapers_buffer.specs.Refusals.{Refuses, RefusesLength}
use Rattle.shapers_buffer.specs.declared.buffer.glyph.GlyphPosition.{GlyphPosition}
use Rattle.shapers_buffer.specs.Glyphs.{Glyphs}
use Rattle.shapers_buffer.specs.declared.buffer.refusal.ShaperError.{ShaperError}
use Rattle.shapers_buffer.proofs.MappedLists.{map-reverse}
use Rattle.shapers_stretch.specs.Cells.{Cell, glyphs_of, positions_of}
use Rattle.shapers_stretch.specs.CountingWalk.{CountsAdded, text_refusal}
use Rattle.shapers_stretch.specs.LayingWalk.{HasRoomForTiles, text_in_slices}
use Rattle.shapers_stretch.specs.Stretch.{Laying, cells, stretched, with_cells}
use Rattle.shapers_stretch.proofs.PartCounts.{glyphs_zip, positions_zip}
use Rattle.shapers_stretch.proofs.Zips.{length-zipped}
use Rattle.std.proofs.lemmas.List.{length-replicate}

-- what holds by place holds one after another
pub one_by_one : {X : Type 0} (P : X → Type 0) (xs : List X) → All P xs → AllByRecursion P xs
one_by_one P [] h = tt
one_by_one P (x ∷ xs) h = (All-head P x xs h, one_by_one P xs (All-tail P x xs h))

-- the room of a text: as many glyphs and positions behind it
pub room_positions : (n : ℕ) (ps : List GlyphPosition) → (length ps ≡ 0 → n ≡ 0)
    → more_positions n ps ≡ ps ++ replicate n default_position
room_positions n [] h = cc (h refl)
room_positions n (p ∷ ps) h = refl

zip-front : {X Y : Type 0} (xs us : List X) (ys vs : List Y) → length xs ≡ length ys
    → take (length xs) (zip (xs ++ us) (ys ++ vs)) ≡ zip xs ys
zip-front [] us [] vs e = refl
zip-front (x ∷ xs) us (y ∷ ys) vs e = cc (zip-front xs us ys vs (omega arith))
zip-front _ us _ vs e = absurd (omega arith)

pub record RoomMade (gs : Glyphs) (ps : List GlyphPosition) (n : ℕ) : Type 0 where
  pub text : take (length gs) (zip (gs ++ replicate n default_glyph) (more_positions n ps)) ≡ zip gs ps
  pub glyphs : length (gs ++ replicate n default_glyph) ≡ length gs + n
  pub positions : length (more_positions n ps) ≡ length gs + n

pub room_made : (gs : Glyphs) (ps : List GlyphPosition) (n : ℕ) → length gs ≡ length ps
    → (length ps ≡ 0 → n ≡ 0) → RoomMade gs ps n
room_made gs ps n both none = search (arith, room_positions, zip-front, length-append, length-replicate)

-- cells backwards
pub zipped : (cs : List Cell) → zip (glyphs_of cs) (positions_of cs) ≡ cs
zipped [] = refl
zipped (c ∷ cs) = cc (zipped cs)

pub zip-reverse : (gs : Glyphs) (ps : List GlyphPosition) → length gs ≡ length ps
    → zip (reverse gs) (reverse ps) ≡ reverse (zip gs ps)
zip-reverse gs ps both =
    let cs = zip gs ps in
    cc (
      glyphs_zip gs ps both,
      map-reverse (λ c. c.0) cs,
      positions_zip gs ps both,
      map-reverse (λ c. c.1) cs,
      zipped (reverse cs),
    )

-- a text that is counted: its refusal, and the room that is made for it
pub refuses_counted : {T : Type 0} (how : Laying) (cs : List Cell) (n many limit : ℕ) (r : Result T ShaperError)
    → CountsAdded how cs (Some n) → length cs ≡ many → RefusesLength limit (many + n) r
    → Refuses (text_refusal how cs) limit (length (stretched how cs)) r
refuses_counted = search arith

empty : {X : Type 0} (xs : List X) → length xs ≡ 0 → xs ≡ []
empty [] e = refl
empty (x ∷ xs) e = absurd (omega arith)

pub room_for : (b : Buffer) (how : Laying) (n : ℕ) → length b.positions ≡ length b.glyphs
    → CountsAdded how (cells b) (Some n) → RoomMade b.glyphs b.positions n
room_for b how n both counted =
    room_made b.glyphs b.positions n (sym both) (λ e.
    let no_cells : length (stretched how (cells b)) ≡ 0 = cc (empty (cells b) (search (arith, length-zipped))) in
    omega arith)

pub room_for_tiles : (b : Buffer) (how : Laying) (n : ℕ) → length b.positions ≡ length b.glyphs
    → All (λ g. g.glyph_id ≤ 65535) b.glyphs → CountsAdded how (cells b) (Some n)
    → HasRoomForTiles how (grown n b).glyphs (grown n b).positions (length b.glyphs)
room_for_tiles b how n both numbers counted =
    let room = room_for b how n both counted in
    search (arith, length-zipped b.glyphs b.positions (sym both), take-append_seam b.glyphs (replicate n default_glyph), one_by_one (λ g. g.glyph_id ≤ 65535) b.glyphs numbers)

-- what a walk over the grown buffer leaves
pub stretched_buffer : (b : Buffer) (how : Laying) (n : ℕ) (new : Buffer) → length b.positions ≡ length b.glyphs
    → CountsAdded how (cells b) (Some n)
    → (let cs = stretched how (text_in_slices (length b.glyphs) (grown n b).glyphs (grown n b).positions) in (new.glyphs
    ≡ glyphs_of cs) × (new.positions ≡ positions_of cs))
    → (let r : Buffer = record (grown n b) { glyphs = new.glyphs; positions = new.positions } in new ≡ r)
    → new ≡ with_cells (stretched how (cells b)) b
stretched_buffer b how n new both counted walked others = cc ((room_for b how n both counted).text)

-- the same of a buffer that equals the grown one
pub has_room_in : (b made : Buffer) (how : Laying) (n len : ℕ) → made ≡ grown n b → len ≡ length b.glyphs
    → length b.positions ≡ length b.glyphs → All (λ g. g.glyph_id ≤ 65535) b.glyphs → CountsAdded how (cells b) (Some n)
    → HasRoomForTiles how made.glyphs made.positions len
has_room_in b made how n len e f both numbers counted = search (arith, room_for_tiles b how n both numbers counted)

-- what counting says of slices that are those of a buffer
pub counted_in : (b : Buffer) (how : Laying) (gs : Glyphs) (ps : List GlyphPosition) (r : Option ℕ)
    → gs ≡ b.glyphs → ps ≡ b.positions → CountsAdded how (zip gs ps) r → CountsAdded how (cells b) r
counted_in = search arith

-- the text of a buffer backwards
abbrev pub turned : Buffer → Buffer
turned b = record b { glyphs = reverse b.glyphs; positions = reverse b.positions }

turned_cells : (b : Buffer) → length b.positions ≡ length b.glyphs → cells (turned b) ≡ reverse (cells b)
turned_cells = search (arith, zip-reverse)

pub turned_refuses : {T : Type 0} (b mid : Buffer) (how : Laying) (r : Result T ShaperError) → mid ≡ turned b
    → length b.positions ≡ length b.glyphs
    → Refuses (text_refusal how (cells mid)) mid.max_len (length (stretched how (cells mid))) r
    → Refuses (text_refusal how (reverse (cells b))) b.max_len (length (stretched how (reverse (cells b)))) r
turned_refuses = search (arith, turned_cells)

pub turned_ok : {T : Type 0} (b mid after new : Buffer) (how : Laying) (r : Result T ShaperError) → mid ≡ turned b
    → new ≡ turned after → length b.positions ≡ length b.glyphs
    → OnOk r (after ≡ with_cells (stretched how (cells mid)) mid)
    → OnOk r (new ≡ with_cells (reverse (stretched how (reverse (cells b)))) b)
turned_ok b mid after new how (Ok v) e f both h = search (arith, turned_cells b both, map-reverse)
turned_ok b mid after new how (Err v) e f both h = h
