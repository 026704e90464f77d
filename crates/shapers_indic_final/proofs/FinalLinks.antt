-- The links after a base, one glyph more.
use Rattle.std.proofs.Common.{◌≡◌, ℕ, suc, ◌+◌, ◌<◌, ◌≤◌, Bool, true, false, cond, List, [], ◌∷◌, ◌++◌, length, take, drop, set, length-set, Option, None, Some, unwrap_or, get_or, reverse, refl, sym, ap, ◌∙◌, arith, append_assoc, drop-cons, take-suc-set, drop-set-lt}
use Rattle.std.specs.List.{find}
use Rattle.std.specs.Option.{option_or}
use Rattle.std.proofs.lemmas.List.{reverse-append}
use Rattle.std.proofs.lemmas.List.Folds.{find-append}
use Rattle.shapers_buffer.specs.Glyphs.{Glyph, Glyphs}
use Rattle.shapers_indic.specs.Glyphs.{is_joiner, passes}
use Rattle.shapers_indic_final.specs.FinalBase.{along_links, as_linked, is_unformed_below, last_link, links_from, links_written}
use Rattle.shapers_indic.proofs.PlaceSearch.{passes_there}

pub along_end : (f : Glyph → Glyph) (x : Glyph) (xs : Glyphs)
    → is_joiner x ≡ false → along_links f true (x ∷ xs) ≡ f x ∷ along_links f false xs
along_end f x xs j = cc

pub links_end : (i : ℕ) (x : Glyph) (xs : Glyphs) → is_joiner x ≡ false
    → links_from true i (x ∷ xs) ≡ i ∷ links_from false (suc i) xs
links_end i x xs j = cc

-- the last place that passes, with the first place apart
last_or_found : (b : Bool) (i last : ℕ) (o : Option ℕ) → unwrap_or (option_or o (cond b (Some i) None)) last
    ≡ unwrap_or o (cond b i last)
last_or_found b i last (Some k) = refl
last_or_found true i last None = refl
last_or_found false i last None = refl

pub last_first : (test : ℕ → Bool) (i : ℕ) (is : List ℕ) (last : ℕ) → unwrap_or (find test (reverse (i ∷ is))) last
    ≡ unwrap_or (find test (reverse is)) (cond (test i) i last)
last_first test i is last = cc (
  reverse-append (i ∷ []) is,
  find-append test (reverse is) (i ∷ []),
  last_or_found (test i) i last (find test (reverse is)),
)

-- Up to place i: what is written, followed by what the links make of the rest, is the whole; and
-- the last link glyph that
-- passes in the rest, else the one so far, is the base.
pub record Linking (base i : ℕ) (halant : Bool) (last : ℕ) (old gs : Glyphs) : Type 0 where
  pub written : take i gs ++ along_links as_linked halant (drop i gs) ≡ links_written base old
  pub found : unwrap_or (find (passes is_unformed_below old) (reverse (links_from halant i (drop i old)))) last
      ≡ last_link base old
  pub rest : drop i gs ≡ drop i old
  pub as_many : length gs ≡ length old
  pub within : last ≤ length old

-- one glyph more: what is written
step_written : (h h' : Bool) (i : ℕ) (gs gs' : Glyphs) (y : Glyph)
    → take (suc i) gs' ≡ take i gs ++ y ∷ [] → along_links as_linked h (drop i gs)
    ≡ y ∷ along_links as_linked h' (drop (suc i) gs') → take (suc i) gs' ++ along_links as_linked h' (drop (suc i) gs')
    ≡ take i gs ++ along_links as_linked h (drop i gs)
step_written = search (arith, append_assoc)

step_here : (i : ℕ) (d : Glyph) (old gs : Glyphs) → i < length gs → length gs ≡ length old
    → drop i gs ≡ drop i old → get_or gs i d ≡ get_or old i d
step_here = search (arith, drop-cons)

one_more : {base : ℕ} {halant : Bool} {last : ℕ} {old gs : Glyphs} (i : ℕ)
    → Linking base (suc i) halant last old gs → Linking base (i + 1) halant last old gs
one_more {base} {halant} {last} {old} {gs} = search arith

base_of : Glyphs → ℕ → List ℕ → ℕ
base_of old last is = unwrap_or (find (passes is_unformed_below old) (reverse is)) last

-- past the last glyph of a link
within_either : (b : Bool) (i last n : ℕ) → i ≤ n → last ≤ n → cond b i last ≤ n
within_either true i last n a b = a
within_either false i last n a b = b

pub linking_end : (base i last : ℕ) (d : Glyph) (old gs : Glyphs) → i < length gs
    → is_joiner (get_or gs i d) ≡ false → Linking base i true last old gs →
    Linking base (i + 1) false (cond (is_unformed_below (get_or gs i d)) i last) old
    (set gs i (as_linked (get_or gs i d)))
unfolding base_of
linking_end base i last d old gs l j s =
    let x = get_or gs i d in
    let behind : drop (suc i) (set gs i (as_linked x)) ≡ drop (suc i) gs = search (arith, drop-set-lt) in
    let test : passes is_unformed_below old i ≡ is_unformed_below x =
    cc (passes_there is_unformed_below old i d (omega arith), step_here i d old gs l s.as_many s.rest) in
    one_more i (
    search (
      arith,
      step_written true false i gs (set gs i (as_linked x)) (as_linked x) (take-suc-set gs i (as_linked x) l)
          (ap (along_links as_linked true) (drop-cons gs i d l) ∙ along_end as_linked x (drop (suc i) gs) j ∙ ap (λ
          xs. as_linked x ∷ along_links as_linked false xs) (sym behind)),
      last_first (passes is_unformed_below old) i (links_from false (suc i) (drop (suc i) old)) last,
      drop-cons,
      drop-cons old i d (omega (arith, l, s.as_many)),
      length-set gs i (as_linked x),
    ))
