-- The text, cluster after cluster.
use Rattle.std.proofs.Common.{◌≡◌, ◌+◌, ◌-◌, ◌<◌, ◌≤◌, ℕ, suc, Bool, true, false, cond, List, [], ◌∷◌, ◌++◌, eqb, length, map, max, take, drop, get_or, refl, sym, ap, ◌∙◌, arith, append_assoc, drop-cons}
use Rattle.std.specs.List.{flat_map, prefix_len}
use Rattle.std.proofs.lemmas.List.{drop-drop, length-append, length-drop, length-map}
use Rattle.std.proofs.lemmas.Bool.{false≢true}
use Rattle.shapers_buffer.specs.Glyphs.{Glyph, Glyphs}
use Rattle.shapers_normal.specs.Context.{Context}
use Rattle.shapers_normal.specs.Decomposition.{as_part, cluster_becomes, text_decomposed, written_as}
use Rattle.shapers_normal.specs.Variants.{cut_before_others, form_written, forms_written, is_selector_glyph, with_first}
use Rattle.shapers_normal.specs.Sorting.{is_mark_glyph}

-- the first group is a glyph and what follows it
pub opens_with_group : (follows : Glyph → Bool) (g : Glyph) (gs : Glyphs)
    → cut_before_others follows (g ∷ gs) ≡ (g ∷ take (prefix_len follows gs) gs)
    ∷ cut_before_others follows (drop (prefix_len follows gs) gs)
opens_with_group follows g [] = refl
opens_with_group follows g (h ∷ hs) =
    let k = prefix_len follows hs in
    let rest = cut_before_others follows (drop k hs) in
    let next : 1 + k ≡ suc k = omega arith in
    let behind : cut_before_others follows (h ∷ hs) ≡ (h ∷ take k hs) ∷ rest = opens_with_group follows h hs in
    ap (with_first follows g) behind
    ∙ elim (follows h) as (λ b. cond b ((g ∷ h ∷ take k hs) ∷ rest) ((g ∷ []) ∷ (h ∷ take k hs) ∷ rest)
    ≡ (g ∷ take (cond b (1 + k) 0) (h ∷ hs)) ∷ cut_before_others follows (drop (cond b (1 + k) 0) (h ∷ hs))) [
      | true ↦ sym (ap (λ n. (g ∷ take n (h ∷ hs)) ∷ cut_before_others follows (drop n (h ∷ hs))) next)
      | false ↦ ap (λ cs. (g ∷ []) ∷ cs) (sym behind)
    ]

groups_open : (follows : Glyph → Bool) (gs : Glyphs) (n : ℕ) → 0 < length gs
    → n ≡ 1 + prefix_len follows (drop 1 gs) → cut_before_others follows gs
    ≡ take n gs ∷ cut_before_others follows (drop n gs)
groups_open follows [] n some is = absurd (omega arith)
groups_open follows (g ∷ gs) n some is =
    let k = prefix_len follows gs in
    let next : n ≡ suc k = is ∙ omega arith in
    opens_with_group follows g gs ∙ sym (ap (λ n. take n (g ∷ gs) ∷ cut_before_others follows (drop n (g ∷ gs))) next)

-- the groups from one place on
pub next_groups : (follows : Glyph → Bool) (gs : Glyphs) (start n : ℕ) → start < length gs
    → n ≡ 1 + prefix_len follows (drop 1 (drop start gs)) → cut_before_others follows (drop start gs)
    ≡ take (start + n - start) (drop start gs) ∷ cut_before_others follows (drop (start + n) gs)
next_groups follows gs start n inside is =
    let some : 0 < length (drop start gs) = omega (arith, length-drop start gs) in
    let same : n ≡ start + n - start = omega arith in
    groups_open follows (drop start gs) n some is
    ∙ ap (λ xs. take n (drop start gs) ∷ cut_before_others follows xs) (drop-drop n start gs)
    ∙ ap (λ k. take k (drop start gs) ∷ cut_before_others follows (drop (start + n) gs)) same

-- the glyphs from one place on, by what their first group becomes
pub next_group : (follows : Glyph → Bool) (f : Glyphs → Glyphs)
    (gs : Glyphs) (start n : ℕ) → start < length gs → n ≡ 1 + prefix_len follows (drop 1 (drop start gs))
    →
    flat_map f (cut_before_others follows (drop start gs)) ≡ f (take (start + n - start) (drop start gs))
    ++ flat_map f (cut_before_others follows (drop (start + n) gs))
next_group follows f gs start n inside is =
    let some : 0 < length (drop start gs) = omega (arith, length-drop start gs) in
    let same : n ≡ start + n - start = omega arith in
    ap (flat_map f) (groups_open follows (drop start gs) n some is)
    ∙ ap (λ xs. f (take n (drop start gs)) ++ flat_map f (cut_before_others follows xs)) (drop-drop n start gs)
    ∙ ap (λ k. f (take k (drop start gs)) ++ flat_map f (cut_before_others follows (drop (start + n) gs))) same

-- the text from one place on, by what its first cluster becomes
pub next_cluster : (context : Context) (gs : Glyphs) (start n : ℕ) → start < length gs
    → n ≡ 1 + prefix_len is_mark_glyph (drop 1 (drop start gs)) → text_decomposed context (drop start gs)
    ≡ cluster_becomes context (take (start + n - start) (drop start gs))
    ++ text_decomposed context (drop (start + n) gs)
next_cluster context gs start n inside is = next_group is_mark_glyph (cluster_becomes context) gs start n inside is

-- and a cluster that is kept
pub next_form : (context : Context) (gs : Glyphs) (start n : ℕ) → start < length gs
    → n ≡ 1 + prefix_len is_selector_glyph (drop 1 (drop start gs)) → forms_written context (drop start gs)
    ≡ form_written context (take (start + n - start) (drop start gs)) ++ forms_written context (drop (start + n) gs)
next_form context gs start n inside is = next_group is_selector_glyph (form_written context) gs start n inside is

-- one element more of what a list becomes
pub next_becomes : {X Y : Type 0} (f : X → List Y) (xs : List X) (i : ℕ) (d : X) → i < length xs
    → flat_map f (drop i xs) ≡ f (get_or xs i d) ++ flat_map f (drop (i + 1) xs)
next_becomes f xs i d inside =
    let next : suc i ≡ i + 1 = omega arith in
    ap (flat_map f) (drop-cons xs i d inside) ∙ ap (λ n. f (get_or xs i d) ++ flat_map f (drop n xs)) next

-- what is added, and what is still to come, is the whole
pub added_next : {Y : Type 0} (done new more rest all : List Y) → done ++ all ≡ rest → all ≡ new ++ more
    → (done ++ new) ++ more ≡ rest
added_next done new more rest all whole is = append_assoc done new more ∙ ap (λ ys. done ++ ys) (sym is) ∙ whole

-- what is still to come has room
pub room_for : {Y : Type 0} (done more start all : List Y) (cap now : ℕ) → done ++ more ≡ start ++ all
    → length start + length all ≤ cap → cap ≤ now → length done + length more ≤ now
room_for done more start all cap now whole room grown =
    omega (arith, ap length whole, length-append done more, length-append start all)

-- how long what a glyph becomes is, and what it is where there are parts
pub length-written : (context : Context) (g : Glyph) (cs : List ℕ) (n : ℕ) → n ≡ max (length cs) 1
    → n ≡ length (written_as context g cs)
length-written context g [] n is = is
length-written context g (c ∷ cs) n is = omega (arith, length-map (c ∷ cs) (as_part context g))

pub written_parts : (context : Context) (g : Glyph) (cs : List ℕ) → eqb (length cs) 0 ≡ false
    → written_as context g cs ≡ map (as_part context g) cs
written_parts context g [] some = absurd (false≢true (sym some))
written_parts context g (c ∷ cs) some = refl
