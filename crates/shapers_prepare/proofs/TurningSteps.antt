-- Graphemes turned one after another, and then all.
use Rattle.std.proofs.Common.{◌≡◌, ℕ, ◌+◌, ◌-◌, ◌≤◌, List, [], ◌∷◌, ◌++◌, flat_map, length, take, drop, get_or, reverse, refl, sym, ap, ◌∙◌, arith, append_assoc}
use Rattle.std.proofs.Math.Seq.{drop-append_seam, take-append_seam}
use Rattle.std.proofs.lemmas.Grind.{flat_map-append}
use Rattle.std.proofs.lemmas.List.{append-nil, drop-drop, get_or-drop, length-append, length-drop, length-reverse, length-take, reverse-append, reverse-reverse, take_all}
use Rattle.shapers_buffer.specs.Glyphs.{Glyphs}
use Rattle.shapers_buffer.specs.Clusters.{stretch_of, with_stretch}
use Rattle.shapers_buffer.specs.Glyph.{default_glyph}
use Rattle.shapers_prepare.specs.Graphemes.{graphemes}
use Rattle.shapers_prepare.specs.NativeDirection.{graphemes_reversed}

abbrev part_of : Glyphs → ℕ × ℕ → Glyphs
part_of gs st = stretch_of st.0 st.1 gs

-- the glyphs before s are graphemes that are turned by themselves, and these are the others
pub record Turned (all now : Glyphs) (s : ℕ) (rest : List (ℕ × ℕ)) : Type 0 where
  pub whole : flat_map (part_of all) (reverse rest) ++ reverse (take s now) ≡ graphemes_reversed all
  pub behind : drop s now ≡ drop s all

pub turned_start : (gs : Glyphs) → Turned gs gs 0 (graphemes gs)
turned_start gs = record { whole = append-nil (graphemes_reversed gs); behind = refl }

pub turned_next : (all now new : Glyphs) (s i : ℕ) (rest : List (ℕ × ℕ)) → s ≤ i → i ≤ length now
    → Turned all now s ((s, i) ∷ rest) → new ≡ with_stretch s i reverse now → Turned all new i rest
turned_next all now new s i rest order within t is =
    let front = take s now in
    let part = stretch_of s i now in
    let back = drop i now in
    let done = front ++ reverse part in
    let parts : new ≡ done ++ back = is ∙ sym (append_assoc front (reverse part) back) in
    let end : length done ≡ i =
    omega (
      arith,
      length-append front (reverse part),
      length-reverse part,
      length-take (i - s) (drop s now),
      length-drop s now,
      length-take s now,
    ) in
    let same : s + (i - s) ≡ i = omega arith in
    let on : (xs : Glyphs) → drop (i - s) (drop s xs) ≡ drop i xs = λ xs. drop-drop (i - s) s xs
    ∙ ap (λ n. drop n xs) same in
    let taken : take i new ≡ done = ap (take i) parts ∙ ap (λ n. take n (done ++ back)) (sym end)
    ∙ take-append_seam done back in
    let turned : reverse done ≡ part_of all (s, i) ++ reverse front =
    reverse-append front (reverse part)
    ∙ ap (λ xs. xs ++ reverse front) (reverse-reverse part ∙ ap (take (i - s)) t.behind) in
    let last : flat_map (part_of all) (reverse ((s, i) ∷ rest)) ≡ flat_map (part_of all) (reverse rest)
    ++ part_of all (s, i) =
    ap (flat_map (part_of all)) (reverse-append ((s, i) ∷ []) rest)
    ∙ flat_map-append (part_of all) (reverse rest) ((s, i) ∷ [])
    ∙ ap (λ xs. flat_map (part_of all) (reverse rest) ++ xs) (append-nil (part_of all (s, i))) in
    record {
      whole =
          ap (λ xs. flat_map (part_of all) (reverse rest) ++ reverse xs) taken
          ∙ ap (λ xs. flat_map (part_of all) (reverse rest) ++ xs) turned
          ∙ sym (append_assoc (flat_map (part_of all) (reverse rest)) (part_of all (s, i)) (reverse front))
          ∙ ap (λ xs. xs ++ reverse front) (sym last)
          ∙ t.whole;
      behind =
          ap (drop i) parts
          ∙ ap (λ n. drop n (done ++ back)) (sym end)
          ∙ drop-append_seam done back
          ∙ sym (on now)
          ∙ ap (drop (i - s)) t.behind
          ∙ on all;
    }

pub turned_all : (all now : Glyphs) (n : ℕ) → length now ≤ n → Turned all now n []
    → reverse now ≡ graphemes_reversed all
turned_all all now n met t = ap reverse (sym (take_all n now met)) ∙ t.whole

-- what is read behind there is the text's
pub read_behind : (all now : Glyphs) (s i : ℕ) → s ≤ i → drop s now ≡ drop s all
    → get_or now i default_glyph ≡ get_or all i default_glyph
read_behind all now s i order same =
    let there : s + (i - s) ≡ i = omega arith in
    let at : (gs : Glyphs) → get_or (drop s gs) (i - s) default_glyph ≡ get_or gs i default_glyph =
    λ gs. get_or-drop s gs (i - s) default_glyph ∙ ap (λ n. get_or gs n default_glyph) there in
    sym (at now) ∙ ap (λ gs. get_or gs (i - s) default_glyph) same ∙ at all
