-- What placements make of a syllable that hang on no list.
use Rattle.std.proofs.Common.{◌≡◌, ℕ, true, ◌+◌, ◌-◌, ◌<◌, ◌≤◌, List, [], length, refl, sym, ap, subst, ◌∙◌, arith}
use Rattle.std.proofs.lemmas.List.Sorted.{IsPermutation-refl}
use Rattle.shapers_buffer.specs.Buffer.{Buffer}
use Rattle.shapers_buffer.specs.Clusters.{stretch_of, with_stretch}
use Rattle.shapers_buffer.specs.Glyphs.{Glyphs}
use Rattle.shapers_buffer.specs.Places.{PlacesEachOnce, brought_forward, pick, placed_by, places_of}
use Rattle.shapers_buffer.specs.Placements.{MayArrange, arranged, is_still, moves_nothing, placed_by_all}
use Rattle.shapers_buffer.specs.declared.buffer.placement.Placement.{Placement}
use Rattle.shapers_buffer.specs.declared.buffer.placement.Placement.TheVariants.{Forward, Stays}
use Rattle.shapers_buffer.specs.declared.buffer.placements.Placements.{Placements}
use Rattle.std.proofs.lemmas.Bool.{and_parts}
use Rattle.std.specs.Prelude.{◌&&◌}
use Rattle.shapers_buffer.proofs.Arranging.{all_long, only_one, placed_long, still}
use Rattle.shapers_buffer.proofs.Placements.{forward_permutes, placed_forward, placed_stays}
use Rattle.shapers_indic_initial.specs.MovedWalk.{IsUnlisted, MovesUnlisted, as_moved, moved_buffer, moves_then, moved_first_by}
use Rattle.shapers_indic_initial.specs.declared.ot_shaper_indic_initial.moved.MovedSyllable.{MovedSyllable}
use Rattle.shapers_indic_initial.specs.InitialPositions.{moved_behind}
use Rattle.shapers_indic_initial.proofs.Moves.{moved_is}

-- ONE PLACEMENT that is no list
pub stays_each : (s e : ℕ) (places : List ℕ) → PlacesEachOnce Stays s e places
stays_each s e places = IsPermutation-refl (places_of Stays s e places)

pub stays_unlisted : (s e : ℕ) → IsUnlisted Stays s e
stays_unlisted s e = record { each = stays_each s e; same = λ places. refl }

pub forward_unlisted : (to from count s e : ℕ) → s ≤ to → to ≤ from → from + count ≤ e
    → IsUnlisted (Forward to from count) s e
forward_unlisted to from count s e a b c =
    record { each = λ places. forward_permutes to from count s e places a b c; same = λ places. refl }

pub behind_unlisted : (p : Placement) (from to s e : ℕ) → p ≡ Forward from (from + 1) (to - from - 1) → s ≤ from
    → from < to → to ≤ e → IsUnlisted p s e
behind_unlisted p from to s e is a b c =
    subst (λ p. IsUnlisted p s e) (sym is)
    (forward_unlisted from (from + 1) (to - from - 1) s e (omega arith) (omega arith) (omega arith))

by_no_list : (p : Placement) (s e : ℕ) (places : List ℕ) (gs : Glyphs) → IsUnlisted p s e
    → placed_by p s e places gs ≡ placed_by p s e [] gs
by_no_list p s e places gs u = ap (λ ps. with_stretch s e (λ _. pick ps gs) gs) (u.same places)

-- BOTH MOVES, and one behind them
pub moved_fits : (m : MovedSyllable) (p : Placement) (n : ℕ) (places : List ℕ) → MovesUnlisted m → m.start ≤ m.end
    → m.end ≤ n → PlacesEachOnce p m.start m.end places → MayArrange (moves_then m p) m.start m.end n places
moved_fits m p n places u h l each = record {
  in_order = h;
  in_range = l;
  first = u.first.each places;
  second = u.second.each places;
  third = each;
}

pub length-moved_syllable : (m : MovedSyllable) (gs : Glyphs) → MovesUnlisted m → m.start ≤ m.end → m.end ≤ length gs
    → length (as_moved m gs) ≡ length gs
length-moved_syllable m gs u h l =
    all_long (moves_then m Stays) m.start m.end [] gs
    (moved_fits m Stays (length gs) [] u h l (stays_each m.start m.end []))

pub moved_then : (m : MovedSyllable) (p : Placement) (places : List ℕ) (gs : Glyphs) → MovesUnlisted m
    → m.start ≤ m.end → m.end ≤ length gs → placed_by_all (moves_then m p) m.start m.end places gs
    ≡ placed_by p m.start m.end places (as_moved m gs)
moved_then m p places gs u h l =
    let s = m.start in
    let e = m.end in
    let xs = placed_by m.first s e [] gs in
    let lx : length xs ≡ length gs = placed_long m.first s e [] gs h l (u.first.each []) in
    let ys = placed_by m.second s e [] xs in
    let ly : length ys ≡ length xs = placed_long m.second s e [] xs h (omega arith) (u.second.each []) in
    ap (λ (zs : Glyphs). placed_by p s e places (placed_by m.second s e places zs)) (by_no_list m.first s e places gs u.first)
    ∙ ap (λ (zs : Glyphs). placed_by p s e places zs) (by_no_list m.second s e places xs u.second)
    ∙ ap (λ (zs : Glyphs). placed_by p s e places zs) (sym (placed_stays s e [] ys h (omega arith)))

pub moved_alone : (m : MovedSyllable) (places : List ℕ) (gs : Glyphs) → MovesUnlisted m
    → m.start ≤ m.end → m.end ≤ length gs → placed_by_all (moves_then m Stays) m.start m.end places gs ≡ as_moved m gs
moved_alone m places gs u h l =
    let n = length-moved_syllable m gs u h l in
    moved_then m Stays places gs u h l ∙ placed_stays m.start m.end places (as_moved m gs) h (omega arith)

-- where neither moves anything
pub none_moved : (m : MovedSyllable) → moves_nothing (moves_then m Stays) ≡ true
    → (m.first ≡ Stays) × (m.second ≡ Stays)
none_moved m h =
    let one = and_parts (is_still m.first) (is_still m.second && true) h in
    let two = and_parts (is_still m.second) true one.1 in (still m.first one.0, still m.second two.0)

abbrev pub still_syllable : ℕ → ℕ → MovedSyllable
still_syllable s e = record { first = Stays; second = Stays; start = s; end = e }

pub still_buffer : (m : MovedSyllable) (b : Buffer) → moves_nothing (moves_then m Stays) ≡ true
    → moved_buffer (still_syllable m.start m.end) b ≡ moved_buffer m b
still_buffer m b h =
    let none = none_moved m h in
    ap (λ p. moved_buffer (record (still_syllable m.start m.end) { first = p }) b) (sym none.0)
    ∙ ap (λ p. moved_buffer (record (still_syllable m.start m.end) { first = m.first; second = p }) b) (sym none.1)

pub still_then : (m : MovedSyllable) (p : Placement) (b new : Buffer) → moves_nothing (moves_then m Stays) ≡ true
    → MayArrange (moves_then m p) m.start m.end (length b.glyphs) b.places
    → new ≡ (let x : Buffer = record b { glyphs = placed_by p m.start m.end b.places b.glyphs } in x)
    → new ≡ (let x : Buffer = record b {
      glyphs = placed_by_all (moves_then m p) m.start m.end b.places b.glyphs;
    } in x)
still_then m p b new h fits done =
    let none = none_moved m h in
    done ∙ ap (λ (gs : Glyphs). let x : Buffer = record b { glyphs = gs } in x)
    (sym ((only_one (moves_then m p) m.start m.end b.places b.glyphs fits).2 none.0 none.1))

-- THE PARTS of the preparation
pub behind_others : (from to s e : ℕ) (places : List ℕ) (gs : Glyphs) → s ≤ from → from < to → to ≤ e → e ≤ length gs
    → placed_by (Forward from (from + 1) (to - from - 1)) s e places gs ≡ moved_behind from (to - 1) gs
behind_others from to s e places gs a b c l =
    placed_forward from (from + 1) (to - from - 1) s e places gs a (omega arith) (omega arith) l
    ∙ ap (λ n. brought_forward from (from + 1) n gs) (omega arith) ∙ sym (moved_is from (to - 1) gs (omega arith))

pub first_moved : (p : Placement) (s e : ℕ) (gs : Glyphs) → IsUnlisted p s e → s ≤ e → e ≤ length gs
    → as_moved (moved_first_by p s e) gs ≡ placed_by p s e [] gs
first_moved p s e gs u h l =
    let xs = placed_by p s e [] gs in
    let lx : length xs ≡ length gs = placed_long p s e [] gs h l (u.each []) in
    let still = placed_stays s e [] xs h (omega arith) in
    ap (λ (zs : Glyphs). placed_by Stays s e [] zs) still ∙ still

pub second_moved : (m : MovedSyllable) (p : Placement) (gs : Glyphs) → MovesUnlisted m → m.second ≡ Stays
    → IsUnlisted p m.start m.end → m.start ≤ m.end → m.end ≤ length gs
    → as_moved (record m { second = p }) gs ≡ placed_by p m.start m.end [] (as_moved m gs)
second_moved m p gs u none q h l =
    let s = m.start in
    let e = m.end in
    let xs = placed_by m.first s e [] gs in
    let lx : length xs ≡ length gs = placed_long m.first s e [] gs h l (u.first.each []) in
    let still = placed_stays s e [] xs h (omega arith) in
    let old : as_moved m gs ≡ xs =
    ap (λ q. placed_by Stays s e [] (placed_by q s e [] xs)) none ∙ ap (λ (zs : Glyphs). placed_by Stays s e [] zs) still
    ∙ still in
    let ys = placed_by p s e [] xs in
    let ly : length ys ≡ length xs = placed_long p s e [] xs h (omega arith) (q.each []) in
    placed_stays s e [] ys h (omega arith) ∙ ap (λ (zs : Glyphs). placed_by p s e [] zs) (sym old)

-- the text as it is read through the moves
pub read_moved : (m : MovedSyllable) (ps : Placements) (b : Buffer) → ps ≡ moves_then m Stays → MovesUnlisted m
    → m.start ≤ m.end → m.end ≤ length b.glyphs
    → placed_by_all ps m.start m.end b.places b.glyphs ≡ as_moved m b.glyphs
read_moved m ps b is u h l =
    ap (λ ps. placed_by_all ps m.start m.end b.places b.glyphs) is ∙ moved_alone m b.places b.glyphs u h l

pub fits_moved : (m : MovedSyllable) (p : Placement) (ps : Placements) (b : Buffer) → ps ≡ moves_then m p
    → MovesUnlisted m → m.start ≤ m.end → m.end ≤ length b.glyphs → PlacesEachOnce p m.start m.end b.places
    → MayArrange ps m.start m.end (length b.glyphs) b.places
fits_moved m p ps b is u h l each =
    subst (λ ps. MayArrange ps m.start m.end (length b.glyphs) b.places) (sym is)
    (moved_fits m p (length b.glyphs) b.places u h l each)

-- the syllable written by them, with one move behind them, and without
pub written_then : (m : MovedSyllable) (p : Placement) (ps : Placements) (b new : Buffer) → ps ≡ moves_then m p
    → MovesUnlisted m → m.start ≤ m.end → m.end ≤ length b.glyphs
    → new ≡ (let x : Buffer = record b { glyphs = placed_by_all ps m.start m.end b.places b.glyphs } in x)
    → new ≡ (let x : Buffer = record b { glyphs = placed_by p m.start m.end b.places (as_moved m b.glyphs) } in x)
written_then m p ps b new is u h l done =
    done ∙ ap (λ (gs : Glyphs). let x : Buffer = record b { glyphs = gs } in x)
    (ap (λ ps. placed_by_all ps m.start m.end b.places b.glyphs) is ∙ moved_then m p b.places b.glyphs u h l)

pub written_so : (m : MovedSyllable) (ps : Placements) (b new : Buffer) → ps ≡ moves_then m Stays → MovesUnlisted m
    → m.start ≤ m.end → m.end ≤ length b.glyphs
    → new ≡ (let x : Buffer = record b { glyphs = placed_by_all ps m.start m.end b.places b.glyphs } in x)
    → new ≡ moved_buffer m b
written_so m ps b new is u h l done =
    done ∙ ap (λ (gs : Glyphs). let x : Buffer = record b { glyphs = gs } in x) (read_moved m ps b is u h l)

-- a walk over the syllable so moved changes that alone
pub walked_moved : (m : MovedSyllable) (ps : Placements) (f : Glyphs → Glyphs) (old new : Buffer)
    → ps ≡ moves_then m Stays → MovesUnlisted m → m.start ≤ m.end
    → m.end ≤ length old.glyphs → length new.glyphs ≡ length old.glyphs
    → new ≡ (let b : Buffer = record old { glyphs = new.glyphs } in b)
    → arranged ps m.start m.end new ≡ (let b : Buffer = record (arranged ps m.start m.end old) {
      glyphs = with_stretch m.start m.end (λ _. stretch_of m.start m.end (arranged ps m.start m.end new).glyphs)
          (arranged ps m.start m.end old).glyphs;
    } in b)
    → stretch_of m.start m.end (arranged ps m.start m.end new).glyphs
    ≡ f (stretch_of m.start m.end (arranged ps m.start m.end old).glyphs)
    → (moved_buffer m new ≡ (let b : Buffer = record (moved_buffer m old) { glyphs = as_moved m new.glyphs } in b))
    × (as_moved m new.glyphs ≡ with_stretch m.start m.end f (as_moved m old.glyphs))
walked_moved m ps f old new is u h l long others all walked =
    let s = m.start in
    let e = m.end in
    let a : placed_by_all ps s e old.places old.glyphs ≡ as_moved m old.glyphs = read_moved m ps old is u h l in
    let b : placed_by_all ps s e new.places new.glyphs ≡ as_moved m new.glyphs =
    read_moved m ps new is u h (omega arith) in
    let syllable : stretch_of s e (as_moved m new.glyphs) ≡ f (stretch_of s e (as_moved m old.glyphs)) =
    ap (stretch_of s e) (sym b) ∙ walked ∙ ap (λ (gs : Glyphs). f (stretch_of s e gs)) a in (
      ap (λ (x : Buffer). let y : Buffer = record x { glyphs = as_moved m new.glyphs } in y) others,
      sym b ∙ ap (λ (x : Buffer). x.glyphs) all
          ∙ ap (λ (gs : Glyphs). with_stretch s e (λ _. stretch_of s e gs) (placed_by_all ps s e old.places old.glyphs)) b
          ∙ ap (λ (gs : Glyphs). with_stretch s e (λ _. stretch_of s e (as_moved m new.glyphs)) gs) a
          ∙ ap (λ (gs : Glyphs). with_stretch s e (λ _. gs) (as_moved m old.glyphs)) syllable,
    )
