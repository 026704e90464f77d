-- Which left matras have gone and what has stayed, place by place.
use Rattle.std.proofs.Common.{◌≡◌, ◌≢◌, ℕ, zero, suc, ◌+◌, ◌-◌, ◌<◌, ◌≤◌, Bool, true, false, cond, [], ◌∷◌, ◌++◌, length, length-append, append-nil, get_or, filter, refl, arith}
use Rattle.std.specs.List.{range_with_len}
use Rattle.std.proofs.lemmas.List.Elements.{filter-append}
use Rattle.shapers_buffer.specs.Glyphs.{Glyphs}
use Rattle.shapers_buffer.specs.Clusters.{stretch_of}
use Rattle.shapers_buffer.specs.Glyph.{default_glyph}
use Rattle.shapers_buffer.specs.Places.{pick}
use Rattle.shapers_clusters.proofs.Picks.{pick-append, pick-range, pick-within}
use Rattle.shapers_clusters.proofs.Widened.{range-append}
use Rattle.shapers_indic.specs.Glyphs.{passes, places}
use Rattle.shapers_indic_final.specs.FinalMatras.{is_left}
use Rattle.shapers_indic_final.specs.LeftMatraWalk.{has_gone}

-- the glyphs of the places from a to b that pass a test
abbrev pub chosen : (ℕ → Bool) → Glyphs → ℕ → ℕ → Glyphs
chosen t gs a b = pick (filter t (places a b)) gs

pub same_filter : (t u : ℕ → Bool) (a n : ℕ) → ((j : ℕ) → a ≤ j → j < a + n → t j ≡ u j) → filter t (range_with_len a n)
    ≡ filter u (range_with_len a n)
same_filter t u a zero h = refl
same_filter t u a (suc n) h = search (arith, same_filter t u (a + 1) n (λ j l m. h j (omega arith) (omega arith)))

pub chosen-same : (t u : ℕ → Bool) (gs : Glyphs) (a b : ℕ) → ((j : ℕ) → a ≤ j → j < b → t j ≡ u j)
    → chosen t gs a b ≡ chosen u gs a b
chosen-same = search (arith, same_filter)

pub filter_all : (t : ℕ → Bool) (a n : ℕ) → ((j : ℕ) → a ≤ j → j < a + n → t j ≡ true) → filter t (range_with_len a n)
    ≡ range_with_len a n
filter_all t a zero h = refl
filter_all t a (suc n) h = search (arith, filter_all t (a + 1) n (λ j l m. h j (omega arith) (omega arith)))

pub filter_none : (t : ℕ → Bool) (a n : ℕ) → ((j : ℕ) → a ≤ j → j < a + n → t j ≡ false) → filter t (range_with_len a n)
    ≡ []
filter_none t a zero h = refl
filter_none t a (suc n) h = search (arith, filter_none t (a + 1) n (λ j l m. h j (omega arith) (omega arith)))

pub chosen-all : (t : ℕ → Bool) (gs : Glyphs) (a b : ℕ) → a ≤ b → b ≤ length gs
    → ((j : ℕ) → a ≤ j → j < b → t j ≡ true) → chosen t gs a b ≡ stretch_of a b gs
chosen-all = search (arith, filter_all, pick-range)

pub chosen-none : (t : ℕ → Bool) (gs : Glyphs) (a b : ℕ) → ((j : ℕ) → a ≤ j → j < b → t j ≡ false)
    → chosen t gs a b ≡ []
chosen-none t gs a b none = search (arith, filter_none)

pub filter-split : (t : ℕ → Bool) (a m b : ℕ) → a ≤ m → m ≤ b → filter t (places a b) ≡ filter t (places a m)
    ++ filter t (places m b)
filter-split t a m b = search (
  arith,
  range-append a (m - a) (b - m),
  filter-append t (range_with_len a (m - a)) (range_with_len m (b - m)),
)

pub chosen-split : (t : ℕ → Bool) (gs : Glyphs) (a m b : ℕ) → a ≤ m → m ≤ b
    → chosen t gs a b ≡ chosen t gs a m ++ chosen t gs m b
chosen-split t gs a m b h l =
    cc (filter-split t a m b h l, pick-append (filter t (places a m)) (filter t (places m b)) gs)

pub filter-one : (t : ℕ → Bool) (k : ℕ) → filter t (places k (k + 1)) ≡ cond (t k) (k ∷ []) []
filter-one = search arith

pub chosen-one : (t : ℕ → Bool) (gs : Glyphs) (k : ℕ) → k < length gs
    → chosen t gs k (k + 1) ≡ cond (t k) (get_or gs k default_glyph ∷ []) []
chosen-one t gs k h = search (arith, pick-within default_glyph k [] gs h)

-- the place before, which goes or stays
pub one_before : (t : ℕ → Bool) (gs : Glyphs) (a k b : ℕ) → a ≤ k → k < b → k < length gs
    → chosen t gs a b ≡ chosen t gs a k ++ (cond (t k) (get_or gs k default_glyph ∷ []) [] ++ chosen t gs (k + 1) b)
one_before t gs a k b h l w = cc (
  chosen-split t gs a k b h (omega arith),
  chosen-split t gs k (k + 1) b (omega arith) (omega arith),
  chosen-one t gs k w,
)

-- has_gone from k + 1 on, and from k on
pub gone_elsewhere : (k top j : ℕ) (gs : Glyphs) → j ≢ k → has_gone (k + 1) top gs j ≡ has_gone k top gs j
gone_elsewhere = search arith

pub gone_before : (i top j : ℕ) (gs : Glyphs) → j < i → has_gone i top gs j ≡ false
gone_before = search arith

pub gone_behind : (i top j : ℕ) (gs : Glyphs) → top ≤ j → has_gone i top gs j ≡ false
gone_behind = search arith

pub gone_here : (k top : ℕ) (gs : Glyphs) → k < top → has_gone k top gs k ≡ passes is_left gs k
gone_here = search arith

-- what is no left matra stays
pub gone_same : (k top j : ℕ) (gs : Glyphs) → k < top → passes is_left gs k ≡ false
    → has_gone (k + 1) top gs j ≡ has_gone k top gs j
gone_same = search arith

-- how many places from s to j pass
pub record Counted (t : ℕ → Bool) (s j len : ℕ) : Type 0 where
  pub is : len ≡ length (filter t (places s j))
  pub few : len ≤ j - s

pub counted_yes : (t : ℕ → Bool) (s j len : ℕ) → s ≤ j → t j ≡ true → Counted t s j len → Counted t s (j + 1) (len + 1)
counted_yes t s j len h holds c = search (arith, filter-split t s j (j + 1) h (omega arith), length-append (filter t (places s j)) (j ∷ []))

pub counted_no : (t : ℕ → Bool) (s j len : ℕ) → s ≤ j → t j ≡ false → Counted t s j len → Counted t s (j + 1) len
counted_no t s j len h fails c =
    search (arith, filter-split t s j (j + 1) h (omega arith), append-nil (filter t (places s j)))
