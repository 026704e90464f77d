-- A list with room for the stops of a text has room for those of each end of it.
use Rattle.std.proofs.Common.{◌≡◌, ℕ, suc, ◌+◌, ◌<◌, ◌≤◌, true, false, append_assoc, cond, List, [], ◌∷◌, ◌++◌, drop, get_or, length, map, reverse, take, sym, ap, subst, ◌∙◌, arith}
use Rattle.std.proofs.Math.Seq.{drop-cons}
use Rattle.std.proofs.lemmas.List.{drop-map, reverse-append, take-append-drop, take-map}
use Rattle.std.specs.List.{list_all}
use Rattle.std.specs.Prelude.{nat_lt, Err, Ok, OnErr, Result}
use Rattle.shapers_buffer.specs.Glyph.{clusters}
use Rattle.shapers_buffer.specs.Glyphs.{Glyph, Glyphs}
use Rattle.shapers_editing.specs.Carets.{lesser}

-- what stands in front adds stops, and takes none away
fewer-behind : (xs ys : List ℕ) → length (lesser ys) ≤ length (lesser (xs ++ ys))
fewer-behind [] ys = omega arith
fewer-behind (x ∷ xs) ys =
    let fewer = fewer-behind xs ys in
    elim (list_all (λ d. nat_lt x d) (xs ++ ys)) as
    (λ b. length (lesser ys) ≤ length (cond b (x ∷ lesser (xs ++ ys)) (lesser (xs ++ ys)))) [
      | true ↦ omega (arith, fewer)
      | false ↦ fewer
    ]

-- a text from one of its glyphs on
from-glyph : (gs : Glyphs) (i : ℕ) (d : Glyph) → i < length gs →
    clusters gs ≡ take i (clusters gs) ++ (get_or gs i d).cluster ∷ clusters (drop (suc i) gs)
from-glyph gs i d lt =
    let f : Glyph → ℕ = λ g. g.cluster in
    sym (take-append-drop i (clusters gs))
    ∙ ap (λ xs. take i (clusters gs) ++ xs)
    (drop-map f i gs ∙ ap (map f) (drop-cons gs i d lt))

-- so many stops a text has, if a cluster stands before those behind it
pub fewer-from : (gs : Glyphs) (i : ℕ) (d : Glyph) → i < length gs →
    length (lesser ((get_or gs i d).cluster ∷ clusters (drop (suc i) gs))) ≤ length (lesser (clusters gs))
fewer-from gs i d lt =
    let behind = (get_or gs i d).cluster ∷ clusters (drop (suc i) gs) in
    subst (λ xs. length (lesser behind) ≤ length (lesser xs)) (sym (from-glyph gs i d lt))
    (fewer-behind (take i (clusters gs)) behind)

-- and one that goes backward
pub fewer-up-to : (gs : Glyphs) (i : ℕ) (d : Glyph) → i < length gs →
    length (lesser ((get_or gs i d).cluster ∷ reverse (clusters (take i gs))))
    ≤ length (lesser (reverse (clusters gs)))
fewer-up-to gs i d lt =
    let f : Glyph → ℕ = λ g. g.cluster in
    let here = (get_or gs i d).cluster in
    let rest = clusters (drop (suc i) gs) in
    let front = reverse (take i (clusters gs)) in
    let turned : reverse (clusters gs) ≡ reverse rest ++ here ∷ front =
    ap reverse (from-glyph gs i d lt)
    ∙ reverse-append (take i (clusters gs)) (here ∷ rest)
    ∙ ap (λ xs. xs ++ front) (reverse-append (here ∷ []) rest)
    ∙ append_assoc (reverse rest) (here ∷ []) front in
    let same : front ≡ reverse (clusters (take i gs)) = ap reverse (take-map f i gs) in
    subst (λ xs. length (lesser (here ∷ xs)) ≤ length (lesser (reverse (clusters gs)))) same
    (subst (λ xs. length (lesser (here ∷ front)) ≤ length (lesser xs)) (sym turned)
    (fewer-behind (reverse rest) (here ∷ front)))

-- where a list has no room for so many stops, it has none for all
pub full-from : (cap : ℕ) (items : List ℕ) (gs : Glyphs) (i : ℕ) (d : Glyph) → i < length gs →
    items ≡ reverse (lesser (clusters (drop (suc i) gs))) →
    ((behind : List ℕ) → items ≡ reverse (lesser behind) →
    cap < length (lesser ((get_or gs i d).cluster ∷ behind))) →
    cap < length (lesser (clusters gs))
full-from cap items gs i d lt is full =
    omega (arith, full (clusters (drop (suc i) gs)) is, fewer-from gs i d lt)

pub full-up-to : (cap : ℕ) (items : List ℕ) (gs : Glyphs) (i : ℕ) (d : Glyph) → i < length gs →
    items ≡ reverse (lesser (reverse (clusters (take i gs)))) →
    ((behind : List ℕ) → items ≡ reverse (lesser behind) →
    cap < length (lesser ((get_or gs i d).cluster ∷ behind))) →
    cap < length (lesser (reverse (clusters gs)))
full-up-to cap items gs i d lt is full =
    omega (arith, full (reverse (clusters (take i gs))) is, fewer-up-to gs i d lt)

-- what is so is so where something is refused, too
pub refused-so : {T E P : Type 0} (r : Result T E) → P → OnErr r P
refused-so (Ok x) p = tt
refused-so (Err e) p = p
