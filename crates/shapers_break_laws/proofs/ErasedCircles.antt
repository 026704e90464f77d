-- A clear place of a text with its circles, between two syllables, is a clear place of the text without them.
use Rattle.std.proofs.Common.{ℕ, zero, suc, if◌then◌else◌, max, ◌+◌, ◌-◌, ◌<◌, ◌≤◌, ◌≡◌, ◌==◌, ◌&&◌, ◌||◌, true, false, List, [], ◌∷◌, ◌++◌, length, take, drop, slice_index, get_or, refl, sym, ap, ◌∙◌, subst, arith, inl, inr, length-append}
use Rattle.std.specs.Prelude.{Bool, Option, None, Some}
use Rattle.std.specs.List.{AllByRecursion, AllPairs, flat_map, list_any}
use Rattle.std.proofs.Math.ListN.{drop_of_length-le}
use Rattle.std.proofs.lemmas.Bool.{cases_lt, or_parts}
use Rattle.std.proofs.lemmas.List.{append-nil, get_or-append-add, get_or_append_left, length-map, length-take-le, map-append, take-append-drop}
use Rattle.std.proofs.lemmas.List.Concat.{flat_map-append}
use Rattle.std.proofs.lemmas.List.Folds.{list_any-append}
use Rattle.shapers_buffer.specs.Glyphs.{Glyph, Glyphs}
use Rattle.shapers_buffer.specs.Glyph.{clusters}
use Rattle.shapers_buffer.specs.Syllables.{syllables}
use Rattle.shapers_clusters.specs.Breaks.{IsClear, is_unsafe}
use Rattle.shapers_clusters.specs.Cuts.{IsMonotone}
use Rattle.shapers_syllabic.specs.Circles.{circle_in, circled, is_of_kind, rephas_len, with_circle}
use Rattle.shapers_syllabic.specs.declared.ot_shaper_syllabic.circles.DottedCircles.{DottedCircles}
use Rattle.shapers_syllabic.proofs.Borders.{syllables_cut}
use Rattle.shapers_syllabic.proofs.CircleLaws.{joined-syllables}
use Rattle.shapers_clusters.proofs.Cuts.{falling_to, rising_to}
use Rattle.shapers_break_laws.proofs.CircledBorders.{OpenedBorder, circled_is, opened_piece}
use Rattle.shapers_break_laws.proofs.KeptBorders.{syllable_cut}
use Rattle.shapers_break_laws.proofs.UniversalSound.{none_empty}

-- no glyph passes a test without circles, where none does with them
inserted_quiet : (t : Glyph → Bool) (xs ys : Glyphs) (c : Glyph)
    → list_any t (xs ++ c ∷ ys) ≡ false → list_any t (xs ++ ys) ≡ false
inserted_quiet t xs ys c h =
    let (a, b) = or_parts (list_any t xs) (t c || list_any t ys) (sym (list_any-append t xs (c ∷ ys)) ∙ h) in
    let (d, e) = or_parts (t c) (list_any t ys) b in
    list_any-append t xs ys ∙ ap (λ x. x || list_any t ys) a ∙ e

piece_quiet : (t : Glyph → Bool) (circles : Option DottedCircles) (p : Glyphs)
    → list_any t (opened_piece circles p) ≡ false → list_any t p ≡ false
piece_quiet t None p h = h
piece_quiet t (Some rule) p h =
    let n = rephas_len rule.repha p in
    let go : (b : Bool) → list_any t (if b then with_circle rule p else p) ≡ false → list_any t p ≡ false =
    λ b. elim b as (λ b. list_any t (if b then with_circle rule p else p) ≡ false → list_any t p ≡ false) [
      | true ↦ λ k. ap (list_any t) (sym (take-append-drop n p))
          ∙ inserted_quiet t (take n p) (drop n p) (circle_in p rule.circle) k
      | false ↦ λ k. k
    ] in
    go (is_of_kind rule.broken_kind p) h

all_quiet : (t : Glyph → Bool) (circles : Option DottedCircles) (ps : List Glyphs)
    → list_any t (flat_map (opened_piece circles) ps) ≡ false → list_any t (flat_map (λ p. p) ps) ≡ false
all_quiet t circles [] h = refl
all_quiet t circles (p ∷ ps) h =
    let F = opened_piece circles in
    let (a, b) = or_parts (list_any t (F p)) (list_any t (flat_map F ps))
    (sym (list_any-append t (F p) (flat_map F ps)) ∙ h) in
    list_any-append t p (flat_map (λ q. q) ps) ∙ ap (λ x. x || list_any t (flat_map (λ q. q) ps))
    (piece_quiet t circles p a) ∙ all_quiet t circles ps b

-- the clusters at the ends of glyphs, and where two texts meet
abbrev first_of : Glyphs → ℕ
first_of gs = slice_index (clusters gs) 0

abbrev last_of : Glyphs → ℕ
last_of gs = slice_index (clusters gs) (length gs - 1)

last_behind : (xs ys : Glyphs) → 0 < length ys → last_of (xs ++ ys) ≡ last_of ys
last_behind xs ys some =
    let cluster : Glyph → ℕ = λ g. g.cluster in
    let n : length (xs ++ ys) - 1 ≡ length (clusters xs) + (length ys - 1) = omega
    (arith, length-append xs ys, length-map xs cluster) in
    ap (λ k. slice_index (clusters (xs ++ ys)) k) n
    ∙ ap (λ cs. slice_index cs (length (clusters xs) + (length ys - 1))) (map-append cluster xs ys)
    ∙ get_or-append-add (clusters xs) (clusters ys) (length ys - 1) 0

last_before : (xs ys : Glyphs) → 0 < length xs → slice_index (clusters (xs ++ ys)) (length xs - 1) ≡ last_of xs
last_before xs ys some =
    let cluster : Glyph → ℕ = λ g. g.cluster in
    let n = length-map xs cluster in
    ap (λ cs. slice_index cs (length xs - 1)) (map-append cluster xs ys)
    ∙ get_or_append_left (clusters xs) (clusters ys) 0 (length xs - 1) (omega arith)

opens_behind : (xs ys : Glyphs) → slice_index (clusters (xs ++ ys)) (length xs) ≡ first_of ys
opens_behind xs ys =
    let cluster : Glyph → ℕ = λ g. g.cluster in
    let n : length xs ≡ length (clusters xs) + 0 = omega (arith, length-map xs cluster) in
    ap (λ k. slice_index (clusters (xs ++ ys)) k) n
    ∙ ap (λ cs. slice_index cs (length (clusters xs) + 0)) (map-append cluster xs ys)
    ∙ get_or-append-add (clusters xs) (clusters ys) 0 0

-- parts of what rises or falls
pairs_front : (R : ℕ → ℕ → Type 0) (xs ys : List ℕ) → AllPairs R (xs ++ ys) → AllPairs R xs
pairs_front R xs ys all i j d less l =
    let long = length-append xs ys in
    subst (λ a. R a (get_or xs j d)) (get_or_append_left xs ys d i (omega arith))
    (subst (R (get_or (xs ++ ys) i d)) (get_or_append_left xs ys d j l) (all i j d less (omega arith)))

pairs_behind : (R : ℕ → ℕ → Type 0) (xs ys : List ℕ) → AllPairs R (xs ++ ys) → AllPairs R ys
pairs_behind R xs ys all i j d less l =
    let n = length xs in
    let long = length-append xs ys in
    subst (λ a. R a (get_or ys j d)) (get_or-append-add xs ys i d)
    (subst (R (get_or (xs ++ ys) (n + i) d)) (get_or-append-add xs ys j d)
    (all (n + i) (n + j) d (omega arith) (omega arith)))

monotone_front : (xs ys : Glyphs) → IsMonotone (clusters (xs ++ ys)) → IsMonotone (clusters xs)
monotone_front xs ys mono =
    let cut = map-append (λ (g : Glyph). g.cluster) xs ys in
    elim (subst IsMonotone cut mono) [
      | inl up ↦ inl (pairs_front (λ a b. a ≤ b) (clusters xs) (clusters ys) up)
      | inr down ↦ inr (pairs_front (λ a b. b ≤ a) (clusters xs) (clusters ys) down)
    ]

monotone_behind : (xs ys : Glyphs) → IsMonotone (clusters (xs ++ ys)) → IsMonotone (clusters ys)
monotone_behind xs ys mono =
    let cut = map-append (λ (g : Glyph). g.cluster) xs ys in
    elim (subst IsMonotone cut mono) [
      | inl up ↦ inl (pairs_behind (λ a b. a ≤ b) (clusters xs) (clusters ys) up)
      | inr down ↦ inr (pairs_behind (λ a b. b ≤ a) (clusters xs) (clusters ys) down)
    ]

-- a syllable with its circle begins in its cluster, and ends in that where clusters rise or fall
opened_first : (circles : Option DottedCircles) (g : Glyph) (gs rest : Glyphs)
    → first_of (opened_piece circles (g ∷ gs) ++ rest) ≡ g.cluster
opened_first None g gs rest = refl
opened_first (Some rule) g gs rest = elim (is_of_kind rule.broken_kind (g ∷ gs)) as
    (λ b. first_of ((if b then with_circle rule (g ∷ gs) else g ∷ gs) ++ rest) ≡ g.cluster) [
      | true ↦ elim (rephas_len rule.repha (g ∷ gs)) as (λ n. first_of ((take n (g ∷ gs)
          ++ circle_in (g ∷ gs) rule.circle ∷ drop n (g ∷ gs)) ++ rest) ≡ g.cluster) [
            | zero ↦ refl
            | suc k ↦ refl
          ]
      | false ↦ refl
    ]

circle_last : (g c : Glyph) (gs : Glyphs) → c.cluster ≡ g.cluster
    → IsMonotone (clusters ((g ∷ gs) ++ c ∷ [])) → last_of ((g ∷ gs) ++ c ∷ []) ≡ last_of (g ∷ gs)
circle_last g c gs same mono =
    let xs = g ∷ gs in
    let all = xs ++ c ∷ [] in
    let cs = clusters all in
    let m = length xs in
    let long = length-append xs (c ∷ []) in
    let n = length-map all (λ (x : Glyph). x.cluster) in
    let first : get_or cs 0 0 ≡ g.cluster = refl in
    let last : last_of all ≡ c.cluster = last_behind xs (c ∷ []) (omega arith) in
    let mid : get_or cs (m - 1) 0 ≡ last_of xs = last_before xs (c ∷ []) (omega arith) in
    let place : length all - 1 ≡ m = omega arith in
    let end : get_or cs m 0 ≡ c.cluster = ap (λ k. get_or cs k 0) (sym place) ∙ last in
    elim mono [
      | inl up ↦
          let a = rising_to cs up 0 (m - 1) (omega arith) (omega arith) in
          let b = rising_to cs up (m - 1) m (omega arith) (omega arith) in
          omega arith
      | inr down ↦
          let a = falling_to cs down 0 (m - 1) (omega arith) (omega arith) in
          let b = falling_to cs down (m - 1) m (omega arith) (omega arith) in
          omega arith
    ]

with_circle_last : (n : ℕ) (g c : Glyph) (gs : Glyphs) → c.cluster ≡ g.cluster
    → IsMonotone (clusters (take n (g ∷ gs) ++ c ∷ drop n (g ∷ gs)))
    → last_of (take n (g ∷ gs) ++ c ∷ drop n (g ∷ gs)) ≡ last_of (g ∷ gs)
with_circle_last n g c gs same mono =
    let xs = g ∷ gs in
    let parts = take-append-drop n xs in
    let sizes = length-append (take n xs) (drop n xs) in
    elim (cases_lt n (length xs)) [
      | inl less ↦
          let front = length-take-le n xs (omega arith) in
          let some : 0 < length (drop n xs) = omega (arith, ap length parts) in
          last_behind (take n xs) (c ∷ drop n xs) (omega arith) ∙ last_behind (c ∷ []) (drop n xs) some
          ∙ sym (last_behind (take n xs) (drop n xs) some) ∙ ap last_of parts
      | inr more ↦
          let none : drop n xs ≡ [] = drop_of_length-le xs more in
          let whole : take n xs ≡ xs = sym (append-nil (take n xs)) ∙ ap (λ ys. take n xs ++ ys) (sym none) ∙ parts in
          let is : take n xs ++ c ∷ drop n xs ≡ xs ++ c ∷ [] = ap (λ ys. ys ++ c ∷ drop n xs) whole
          ∙ ap (λ ys. xs ++ c ∷ ys) none in
          ap last_of is ∙ circle_last g c gs same (subst (λ ys. IsMonotone (clusters ys)) is mono)
    ]

opened_last : (circles : Option DottedCircles) (g : Glyph) (gs : Glyphs)
    → IsMonotone (clusters (opened_piece circles (g ∷ gs)))
    → last_of (opened_piece circles (g ∷ gs)) ≡ last_of (g ∷ gs)
opened_last None g gs mono = refl
opened_last (Some rule) g gs mono =
    let n = rephas_len rule.repha (g ∷ gs) in
    let go : (b : Bool) → IsMonotone (clusters (if b then with_circle rule (g ∷ gs) else g ∷ gs))
    → last_of (if b then with_circle rule (g ∷ gs) else g ∷ gs) ≡ last_of (g ∷ gs) = λ b. elim b as
    (λ b. IsMonotone (clusters (if b then with_circle rule (g ∷ gs) else g ∷ gs))
    → last_of (if b then with_circle rule (g ∷ gs) else g ∷ gs) ≡ last_of (g ∷ gs)) [
      | true ↦ with_circle_last n g (circle_in (g ∷ gs) rule.circle) gs refl
      | false ↦ λ m. refl
    ] in
    go (is_of_kind rule.broken_kind (g ∷ gs)) mono

-- so of several
abbrev pub NoneEmpty : List Glyphs → Type 0
NoneEmpty ps = AllByRecursion (λ p. 0 < length p) ps

none_empty_taken : (k : ℕ) (ps : List Glyphs) → NoneEmpty ps → NoneEmpty (take k ps)
none_empty_taken zero ps h = tt
none_empty_taken (suc k) [] h = tt
none_empty_taken (suc k) (p ∷ ps) h = (h.0, none_empty_taken k ps h.1)

none_empty_dropped : (k : ℕ) (ps : List Glyphs) → NoneEmpty ps → NoneEmpty (drop k ps)
none_empty_dropped zero ps h = h
none_empty_dropped (suc k) [] h = tt
none_empty_dropped (suc k) (p ∷ ps) h = none_empty_dropped k ps h.1

opened_some : (circles : Option DottedCircles) (p : Glyphs) → 0 < length p → 0 < length (opened_piece circles p)
opened_some None p h = h
opened_some (Some rule) p h =
    let n = rephas_len rule.repha p in
    elim (is_of_kind rule.broken_kind p) as (λ b. 0 < length (if b then with_circle rule p else p)) [
      | true ↦ omega (arith, length-append (take n p) (circle_in p rule.circle ∷ drop n p))
      | false ↦ h
    ]

joined_first : (circles : Option DottedCircles) (ps : List Glyphs) → NoneEmpty ps
    → first_of (flat_map (opened_piece circles) ps) ≡ first_of (flat_map (λ p. p) ps)
joined_first circles [] h = refl
joined_first circles ([] ∷ ps) h = absurd (omega (arith, h.0))
joined_first circles ((g ∷ gs) ∷ ps) h = opened_first circles g gs (flat_map (opened_piece circles) ps)

piece_last : (circles : Option DottedCircles) (p : Glyphs) → 0 < length p
    → IsMonotone (clusters (opened_piece circles p))
    → last_of (opened_piece circles p) ≡ last_of p
piece_last circles [] h mono = absurd (omega arith)
piece_last circles (g ∷ gs) h mono = opened_last circles g gs mono

joined_last : (circles : Option DottedCircles) (ps : List Glyphs) → NoneEmpty ps
    → IsMonotone (clusters (flat_map (opened_piece circles) ps))
    → last_of (flat_map (opened_piece circles) ps) ≡ last_of (flat_map (λ p. p) ps)
joined_last circles [] h mono = refl
joined_last circles (p ∷ []) h mono =
    let F = opened_piece circles in
    ap last_of (append-nil (F p))
    ∙ piece_last circles p h.0 (subst (λ xs. IsMonotone (clusters xs)) (append-nil (F p)) mono)
    ∙ ap last_of (sym (append-nil p))
joined_last circles (p ∷ (q ∷ qs)) h mono =
    let F = opened_piece circles in
    let id : Glyphs → Glyphs = λ p. p in
    let rest = flat_map F (q ∷ qs) in
    let own = h.1.0 in
    let some : 0 < length rest = omega (arith, opened_some circles q own, length-append (F q) (flat_map F qs)) in
    let some0 : 0 < length (flat_map id (q ∷ qs)) = omega (arith, length-append q (flat_map id qs)) in
    last_behind (F p) rest some
    ∙ joined_last circles (q ∷ qs) h.1 (monotone_behind (F p) rest mono)
    ∙ sym (last_behind p (flat_map id (q ∷ qs)) some0)

-- the place without circles
pub record IsClearInside (gs : Glyphs) (p : ℕ) : Type 0 where
  pub some : 0 < p
  pub inside : p < length gs
  pub clear : IsClear gs p

some_pieces : (f : Glyphs → Glyphs) (ps : List Glyphs) → NoneEmpty ps → 0 < length (flat_map f ps)
    → 0 < length (flat_map (λ p. p) ps)
some_pieces f [] h some = some
some_pieces f (p ∷ ps) h some = let own = h.0 in omega (arith, length-append p (flat_map (λ q. q) ps))

pub erased_clear : (circles : Option DottedCircles) (gs : Glyphs) (p : ℕ) → (border : OpenedBorder circles gs p)
    → IsMonotone (clusters (circled circles gs)) → 0 < p → p < length (circled circles gs)
    → IsClear (circled circles gs) p
    → IsClearInside gs (length (flat_map (λ q. q) (take border.count (syllables gs))))
erased_clear circles gs p border mono z l clear =
    let id : Glyphs → Glyphs = λ q. q in
    let F = opened_piece circles in
    let pieces = syllables gs in
    let k = border.count in
    let xs = circled circles gs in
    let fr = flat_map F (take k pieces) in
    let bh = flat_map F (drop k pieces) in
    let front = flat_map id (take k pieces) in
    let back = flat_map id (drop k pieces) in
    let n = length front in
    let all_some = none_empty pieces (syllables_cut gs) in
    let some_front = none_empty_taken k pieces all_some in
    let some_back = none_empty_dropped k pieces all_some in
    let whole : xs ≡ fr ++ bh = circled_is circles gs ∙ ap (flat_map F) (sym (take-append-drop k pieces))
    ∙ flat_map-append F (take k pieces) (drop k pieces) in
    let text : gs ≡ front ++ back = (syllable_cut gs k).text in
    let place = border.place in
    let sizes = length-append fr bh in
    let a = some_pieces F (take k pieces) some_front (omega arith) in
    let b = some_pieces F (drop k pieces) some_back (omega (arith, ap length whole)) in
    let sizes0 = length-append front back in
    let mono_front = monotone_front fr bh (subst (λ ys. IsMonotone (clusters ys)) whole mono) in
    let before : slice_index (clusters xs) (p - 1) ≡ slice_index (clusters gs) (n - 1) =
    ap (λ ys. slice_index (clusters ys) (p - 1)) whole
    ∙ ap (λ (j : ℕ). slice_index (clusters (fr ++ bh)) (j - 1)) (sym place)
    ∙ last_before fr bh (omega arith)
    ∙ joined_last circles (take k pieces) some_front mono_front
    ∙ sym (last_before front back a) ∙ ap (λ ys. slice_index (clusters ys) (n - 1)) (sym text) in
    let behind : slice_index (clusters xs) p ≡ slice_index (clusters gs) n =
    ap (λ ys. slice_index (clusters ys) p) whole
    ∙ ap (λ (j : ℕ). slice_index (clusters (fr ++ bh)) j) (sym place)
    ∙ opens_behind fr bh
    ∙ joined_first circles (drop k pieces) some_back
    ∙ sym (opens_behind front back) ∙ ap (λ ys. slice_index (clusters ys) n) (sym text) in
    let c = max (slice_index (clusters gs) (n - 1)) (slice_index (clusters gs) n) in
    let t : Glyph → Bool = λ g. g.cluster == c && is_unsafe g in
    let quiet : list_any t xs ≡ false =
    subst (λ u. list_any (λ g. g.cluster == max u (slice_index (clusters gs) n) && is_unsafe g) xs ≡ false) before
    (subst (λ v. list_any (λ g. g.cluster == max (slice_index (clusters xs) (p - 1)) v && is_unsafe g) xs ≡ false)
    behind clear.unflagged) in
    record {
      some = a;
      inside = omega (arith, ap length text);
      clear = record {
        differ = λ e. clear.differ (before ∙ e ∙ sym behind);
        unflagged = ap (list_any t) (sym (joined-syllables gs))
            ∙ all_quiet t circles pieces (ap (list_any t) (sym (circled_is circles gs)) ∙ quiet);
      };
    }
