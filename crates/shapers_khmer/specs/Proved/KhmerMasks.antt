-- What masks do not change, and where they stand.
use Rattle.std.proofs.Common.{ℕ, ◌+◌, ◌-◌, ◌%◌, ◌/◌, ◌≤◌, ◌≡◌, List, [], ◌∷◌, ◌++◌, map, length, take, drop, refl, sym, ◌∙◌, ap, arith, append_assoc, length-drop}
use Rattle.std.specs.Int.Bits.{bit_or, or_zero_r}
use Rattle.std.proofs.lemmas.List.{length-map, map-append, take-append-le, drop-append-le}
use Rattle.std.proofs.lemmas.Nat.{or_mod, or_shr}
use Rattle.std.proofs.Math.Seq.{take-append-add, drop-append-add}
use Rattle.shapers_buffer.specs.Glyphs.{Glyph, Glyphs}
use Rattle.shapers_buffer.specs.Clusters.{stretch_of}
use Rattle.shapers_buffer.specs.Glyph.{order_view, plain, without_flags}
use Rattle.shapers_buffer.specs.Properties.{no_marks}
use Rattle.shapers_buffer.proofs.ClusterLemmas.{three_parts}
use Rattle.shapers_syllabic.specs.Reordering.{carried}
use Rattle.shapers_syllabic.proofs.ReorderingLemmas.{stretch-viewed}
use Rattle.shapers_khmer.specs.declared.ot_shaper_khmer.reordering.KhmerOrder.{KhmerOrder}
use Rattle.shapers_khmer.specs.Khmer.{Move, with_mask, masked, masked_for, masked_all, moved, moved_all, categories_of}

-- a mask without its glyph flags, added, leaves those of the other
flags-or : (a m : ℕ) → bit_or a (without_flags m) % 8 ≡ a % 8
flags-or a m =
    let none : without_flags m % 8 ≡ 0 = omega arith in
    or_mod a (without_flags m) 3 ∙ ap (bit_or (a % 8)) none ∙ or_zero_r (a % 8)

plain-or : (a m : ℕ) → without_flags (bit_or a (without_flags m)) ≡ bit_or (without_flags a) (without_flags m)
plain-or a m =
    let w = without_flags m in
    let x = bit_or a w in
    let y = bit_or (without_flags a) w in
    let low : x % 8 ≡ a % 8 = flags-or a m in
    let none : y % 8 ≡ 0 = flags-or (without_flags a) m ∙ (let z : without_flags a % 8 ≡ 0 = omega arith in z) in
    let front : without_flags a / 8 ≡ a / 8 = omega arith in
    let same : x / 8 ≡ y / 8 = or_shr a w 3 ∙ ap (λ n. bit_or n (w / 8)) (sym front)
    ∙ sym (or_shr (without_flags a) w 3) in
    omega arith

pub plain-with_mask : (m : ℕ) (g : Glyph) → plain (with_mask m g) ≡ with_mask m (plain g)
plain-with_mask m g = ap (λ (x : ℕ). record g { cluster = 0; mask = x }) (plain-or g.mask m)

pub carried-with_mask : (m : ℕ) (g : Glyph) → carried (with_mask m g) ≡ carried g
carried-with_mask m g =
    ap (λ (x : ℕ). record g { mask = x; glyph_props = no_marks; category = 0; auxiliary = 0 }) (flags-or g.mask m)

-- what a view hides of one glyph with a mask it hides of all
hidden_all : {X : Type 0} (f : Glyph → X) (m : ℕ) → ((g : Glyph) → f (with_mask m g) ≡ f g)
    → (gs : Glyphs) → map f (map (with_mask m) gs) ≡ map f gs
hidden_all f m hides [] = refl
hidden_all f m hides (g ∷ gs) = ap (λ x. x ∷ map f (map (with_mask m) gs)) (hides g)
    ∙ ap (λ xs. f g ∷ xs) (hidden_all f m hides gs)

pub hidden-masked : {X : Type 0} (f : Glyph → X) (m s e : ℕ) (gs : Glyphs)
    → ((g : Glyph) → f (with_mask m g) ≡ f g) → s ≤ e → map f (masked m s e gs) ≡ map f gs
hidden-masked f m s e gs hides h =
    let a = take s gs in
    let b = stretch_of s e gs in
    let c = drop e gs in
    map-append f a (map (with_mask m) b ++ c)
    ∙ ap (λ xs. map f a ++ xs) (map-append f (map (with_mask m) b) c ∙ ap (λ xs. xs ++ map f c) (hidden_all f m hides b)
    ∙ sym (map-append f b c))
    ∙ sym (map-append f a (b ++ c))
    ∙ ap (map f) (three_parts s e gs h)

pub carried-masked : (m s e : ℕ) (gs : Glyphs) → s ≤ e → map carried (masked m s e gs) ≡ map carried gs
carried-masked m s e gs h = hidden-masked carried m s e gs (carried-with_mask m) h

pub categories-masked : (m s e : ℕ) (gs : Glyphs) → s ≤ e → categories_of (masked m s e gs)
    ≡ categories_of gs
categories-masked m s e gs h = hidden-masked (λ g. g.category) m s e gs (λ g. refl) h

pub length-categories : (gs : Glyphs) → length (categories_of gs) ≡ length gs
length-categories gs = length-map gs (λ g. g.category)

pub length-masked : (m s e : ℕ) (gs : Glyphs) → s ≤ e → length (masked m s e gs) ≡ length gs
length-masked m s e gs h = sym (length-categories (masked m s e gs)) ∙ ap length (categories-masked m s e gs h)
    ∙ length-categories gs

plain_all : (m : ℕ) (gs : Glyphs) → order_view (map (with_mask m) gs) ≡ map (with_mask m) (order_view gs)
plain_all m [] = refl
plain_all m (g ∷ gs) = ap (λ x. x ∷ order_view (map (with_mask m) gs)) (plain-with_mask m g)
    ∙ ap (λ xs. with_mask m (plain g) ∷ xs) (plain_all m gs)

pub order_view-masked : (m s e : ℕ) (gs : Glyphs) → order_view (masked m s e gs)
    ≡ masked m s e (order_view gs)
order_view-masked m s e gs =
    stretch-viewed s e (map (with_mask m)) (map (with_mask m)) gs (plain_all m (stretch_of s e gs))

-- masks for glyphs of the middle of three parts
pub masked_inside : (m a b : ℕ) (front middle rest : Glyphs) → a ≤ b → b ≤ length middle
    → masked m (length front + a) (length front + b) (front ++ (middle ++ rest))
    ≡ front ++ (masked m a b middle ++ rest)
masked_inside m a b front middle rest h l =
    let s = length front in
    let all = front ++ (middle ++ rest) in
    let len : (s + b) - (s + a) ≡ b - a = omega arith in
    let first : take (s + a) all ≡ front ++ take a middle = take-append-add front (middle ++ rest) a
    ∙ ap (λ xs. front ++ xs) (take-append-le a middle rest (omega arith)) in
    let behind : drop (s + a) all ≡ drop a middle ++ rest = drop-append-add front (middle ++ rest) a
    ∙ drop-append-le a middle rest (omega arith) in
    let inner : take (b - a) (drop a middle ++ rest) ≡ take (b - a) (drop a middle) =
    take-append-le (b - a) (drop a middle) rest (omega (arith, length-drop a middle)) in
    let last : drop (s + b) all ≡ drop b middle ++ rest = drop-append-add front (middle ++ rest) b
    ∙ drop-append-le b middle rest l in
    ap (λ xs. xs ++ (map (with_mask m) (take ((s + b) - (s + a)) (drop (s + a) all)) ++ drop (s + b) all)) first
    ∙ ap (λ n. (front ++ take a middle) ++ (map (with_mask m) (take n (drop (s + a) all)) ++ drop (s + b) all)) len
    ∙ ap (λ xs. (front ++ take a middle) ++ (map (with_mask m) (take (b - a) xs) ++ drop (s + b) all)) behind
    ∙ ap (λ xs. (front ++ take a middle) ++ (map (with_mask m) xs ++ drop (s + b) all)) inner
    ∙ ap (λ xs. (front ++ take a middle) ++ (map (with_mask m) (take (b - a) (drop a middle)) ++ xs)) last
    ∙ simp append_assoc

-- the masks of a move, and of moves, leave the categories and what is carried along
-- those of one more move
pub masked_all-push : (r : KhmerOrder) (moves : List Move) (move : Move) (order : List ℕ) (gs : Glyphs)
    → masked_all r (moves ++ move ∷ []) order gs
    ≡ masked_for r move (moved_all moves order) (masked_all r moves order gs)
masked_all-push r [] move order gs = refl
masked_all-push r (first ∷ moves) move order gs =
    masked_all-push r moves move (moved first order) (masked_for r first order gs)

pub moved_all-push : {X : Type 0} (moves : List Move) (move : Move) (xs : List X) → moved_all (moves ++ move ∷ []) xs
    ≡ moved move (moved_all moves xs)
moved_all-push [] move xs = refl
moved_all-push (first ∷ moves) move xs = moved_all-push moves move (moved first xs)
