-- A broken syllable opened in place: what the steps of the code make of the glyphs.
use Rattle.std.proofs.Common.{ℕ, suc, ◌+◌, ◌-◌, ◌<◌, ◌≤◌, ◌≡◌, List, ◌∷◌, ◌++◌, length, take, drop, sym, ◌∙◌, ap, arith, append_assoc, slice_set}
use Rattle.std.proofs.lemmas.List.{drop_at, drop-drop, drop-take, set_split, take-take, take_at, length-take-le}
use Rattle.shapers_buffer.specs.Glyphs.{Glyphs}
use Rattle.shapers_buffer.specs.Clusters.{stretch_of}
use Rattle.shapers_syllabic.specs.declared.ot_shaper_syllabic.circles.DottedCircles.{DottedCircles}
use Rattle.shapers_syllabic.specs.Circles.{circle_in, count_of_kind, rephas_len, with_circle, with_circles}
use Rattle.shapers_syllabic.specs.FirstBroken.{IsLastBroken, IsCircled}

-- stretches of fronts that agree
front_taken : {X : Type 0} (s n : ℕ) (xs ys : List X) → s ≤ n → take n xs ≡ take n ys → take s xs ≡ take s ys
front_taken s n xs ys h same = cc (take-take s n xs h, take-take s n ys h)

stretch_in : {X : Type 0} (s e : ℕ) (xs : List X) → s ≤ e → stretch_of s e xs ≡ drop s (take e xs)
stretch_in s e xs h = sym (drop-take s (e - s) xs) ∙ ap (λ n. drop s (take n xs)) (omega arith)

stretch_taken : {X : Type 0} (s e n : ℕ) (xs ys : List X) → s ≤ e → e ≤ n → take n xs ≡ take n ys
    → stretch_of s e xs ≡ stretch_of s e ys
stretch_taken = search (arith, stretch_in, front_taken)

-- one element written
drop_set : {X : Type 0} (i : ℕ) (x : X) (xs : List X) → i < length xs → drop i (slice_set xs i x) ≡ x ∷ drop (suc i) xs
drop_set = search (arith, set_split, drop_at, length-take-le)

take_set : {X : Type 0} (s i : ℕ) (x : X) (xs : List X) → i < length xs → s ≤ i → take s (slice_set xs i x) ≡ take s xs
take_set = search (arith, front_taken, set_split, take_at, length-take-le)

-- the glyphs before, after the rest of the syllable has moved up, and after its rephas have
pub record Opening (rule : DottedCircles) (s e p left : ℕ) (gs hs ms : Glyphs) : Type 0 where
  pub some : 0 < left
  pub in_order : s < e
  pub inside : p ≤ e
  pub rephas : p ≡ s + rephas_len rule.repha (stretch_of s e gs)
  pub within : e + left ≤ length gs
  pub same_length : length hs ≡ length gs
  pub first_front : take (p + left) hs ≡ take (p + left) gs
  pub first_behind : drop (p + left) hs ≡ stretch_of p e gs ++ drop (e + left) gs
  pub then_front : take (s + (left - 1)) ms
      ≡ take (s + (left - 1)) (slice_set hs (p + left - 1) (circle_in (stretch_of s e gs) rule.circle))
  pub then_behind : drop (s + (left - 1)) ms
      ≡ stretch_of s p (slice_set hs (p + left - 1) (circle_in (stretch_of s e gs) rule.circle))
      ++ drop (p + (left - 1)) (slice_set hs (p + left - 1) (circle_in (stretch_of s e gs) rule.circle))

pub opening_front : (rule : DottedCircles) (s e p left : ℕ) (gs hs ms : Glyphs)
    → Opening rule s e p left gs hs ms → take s ms ≡ take s gs
opening_front = search (arith, front_taken, take_set)

pub opening_behind : (rule : DottedCircles) (s e p left : ℕ) (gs hs ms : Glyphs) → Opening rule s e p left gs hs ms
    → drop (s + left - 1) ms ≡ with_circle rule (stretch_of s e gs) ++ drop (e + left) gs
opening_behind rule s e p left gs hs ms o =
    let syllable = stretch_of s e gs in
    let circle = circle_in syllable rule.circle in
    let i = p + left - 1 in
    let written = slice_set hs i circle in
    let r = rephas_len rule.repha syllable in
    let inside : i < length hs = search arith in
    let next : suc i ≡ p + left = omega arith in
    let kept : take p written ≡ take p gs = take_set p i circle hs inside (omega arith)
    ∙ front_taken p (p + left) hs gs (omega arith) o.first_front in
    let rephas : stretch_of s p written ≡ take r syllable =
    stretch_taken s p p written gs (omega arith) (omega arith) kept
    ∙ ap (λ n. take n (drop s gs)) (omega arith) ∙ sym (take-take r (e - s) (drop s gs) (omega arith)) in
    let others : stretch_of p e gs ≡ drop r syllable =
    ap (λ n. take (e - p) (drop n gs)) o.rephas ∙ ap (take (e - p)) (sym (drop-drop r s gs))
    ∙ sym (drop-take r (e - p) (drop s gs)) ∙ ap (λ n. drop r (take n (drop s gs))) (sym (omega arith)) in
    let rest : drop (p + (left - 1)) written ≡ circle ∷ (drop r syllable ++ drop (e + left) gs) =
    ap (λ n. drop n written) (omega arith) ∙ drop_set i circle hs inside ∙ ap (λ n. circle ∷ drop n hs) next
    ∙ ap (λ l. circle ∷ l) (o.first_behind ∙ ap (λ l. l ++ drop (e + left) gs) others) in
    ap (λ n. drop n ms) (omega arith) ∙ o.then_behind ∙ ap (λ l. l ++ drop (p + (left - 1)) written) rephas
    ∙ ap (λ l. take r syllable ++ l) rest
    ∙ sym (append_assoc (take r syllable) (circle ∷ drop r syllable) (drop (e + left) gs))

-- the last broken syllable opened, where what stands behind it has moved up first
pub record Opened (rule : DottedCircles) (read left s e : ℕ) (gs hs ms : Glyphs) : Type 0 where
  pub some : 0 < left
  pub within : read + left ≤ length gs
  pub room : left ≡ count_of_kind rule.broken_kind (take read gs)
  pub broken : IsLastBroken rule (take read gs) s e
  pub same_length : length ms ≡ length gs
  pub first_front : take (e + left) hs ≡ take (e + left) gs
  pub first_behind : drop (e + left) hs ≡ stretch_of e read gs ++ drop (read + left) gs
  pub then_front : take s ms ≡ take s hs
  pub then_behind : drop (s + left - 1) ms ≡ with_circle rule (stretch_of s e hs) ++ drop (e + left) hs

pub is_opened : (rule : DottedCircles) (read left s e : ℕ) (gs hs ms : Glyphs)
    → Opened rule read left s e gs hs ms → IsCircled rule read left s gs ms
is_opened rule read left s e gs hs ms o =
    let n : length (take read gs) ≡ read = search (arith, length-take-le) in
    let inside : e ≤ read = omega arith in
    let rest = drop (read + left) gs in
    search (arith, front_taken s (e + left) hs gs (omega arith) o.first_front, take-take s read gs (omega arith), stretch_taken s e read (take read gs) gs (omega arith) inside (take-take read read gs (omega arith)), stretch_taken s e (e + left) hs gs (omega arith) (omega arith) o.first_front, stretch_in e read gs inside, append_assoc (with_circles rule (take s gs)) (with_circle rule (stretch_of s e hs) ++ stretch_of e read gs) rest, append_assoc (with_circle rule (stretch_of s e hs)) (stretch_of e read gs) rest)
