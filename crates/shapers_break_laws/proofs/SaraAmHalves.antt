-- A text whose SARA AMs are taken in two, cut where none of them takes a mark along from before the cut.
use Rattle.std.proofs.Common.{ℕ, ◌+◌, ◌-◌, ◌<◌, ◌≤◌, ◌≡◌, Bool, true, false, ◌&&◌, List, [], ◌∷◌, ◌++◌, length, refl, sym, ap, ◌∙◌, subst, arith, inl, inr}
use Rattle.std.specs.Prelude.{nat_lt, if◌then◌else◌}
use Rattle.std.specs.List.{Contains, flat_map, suffix_len}
use Rattle.std.proofs.lemmas.Bool.{and_from, both_ways, cases_lt, lt-ltb}
use Rattle.std.proofs.lemmas.List.{append-nil, append_assoc, drop_all, length-append, length-map, length_push, map-append, take_all}
use Rattle.std.proofs.lemmas.List.Concat.{flat_map-append}
use Rattle.std.proofs.lemmas.List.Folds.{list_any_at}
use Rattle.std.proofs.lemmas.List.Sums.{suffix_len-le-length}
use Rattle.shapers_buffer.specs.Glyphs.{Glyph, Glyphs}
use Rattle.shapers_buffer.specs.declared.buffer.level.BufferClusterLevel.{BufferClusterLevel}
use Rattle.shapers_buffer.specs.Clusters.{merge_all}
use Rattle.shapers_buffer.specs.Glyph.{characters}
use Rattle.shapers_buffer.specs.Lists.{each_after, last_stretch}
use Rattle.shapers_buffer.proofs.ListLaws.{from_end, suffix_len_no, suffix_len_yes}
use Rattle.shapers_buffer.proofs.MappedLists.{Contains-each_after, Contains-flat_map, suffix_len-map}
use Rattle.shapers_clusters.specs.Cuts.{ShareNone, held}
use Rattle.shapers_clusters.specs.Steps.{shifted}
use Rattle.shapers_text.specs.Thai.{SaraAmRule, glyph_rule, glyphs_in_two, in_two, is_above, is_above_base, is_am, is_sara_am, joins_before, sara_am_stretches, stretch_of_sara_am, stretches_at, stretches_of_each}
use Rattle.shapers_text.specs.ThaiWalk.{text_with_pending}
use Rattle.shapers_text.proofs.ThaiInTwo.{held_push_other, in_two_push, in_two_push_am, pending_push_mark}
use Rattle.shapers_text.proofs.ThaiStretches.{characters-merge_all, stretches_within}
use Rattle.rustybuzz_shapers.proofs.ThaiClusterHalves.{merged_halves, each_after-append}
use Rattle.shapers_break_laws.specs.ThaiBreaks.{sara_ams_taken}

-- THE REWRITING
-- no SARA AM of ys has above-base marks before it that reach into xs
abbrev pub TakesNone : {X : Type 0} → SaraAmRule X → List X → List X → Type 0
TakesNone {X} rule xs ys = (ms : List X) (a : X) (rest : List X) → ys ≡ ms ++ a ∷ rest → is_am rule a ≡ true
    → suffix_len (is_above rule) (xs ++ ms) ≤ length ms

record InHalves {X : Type 0} (rule : SaraAmRule X) (xs ys : List X) : Type 0 where
  whole : TakesNone rule xs ys → in_two rule (xs ++ ys) ≡ in_two rule xs ++ in_two rule ys
  pending : TakesNone rule xs ys → suffix_len (is_above rule) (xs ++ ys) ≤ length ys → (n : X)
      → text_with_pending rule (xs ++ ys) n ≡ in_two rule xs ++ text_with_pending rule ys n

-- nothing behind the cut
nothing_behind : {X : Type 0} (rule : SaraAmRule X) (xs : List X) → InHalves rule xs []
nothing_behind rule xs = record {
  whole = λ none. ap (in_two rule) (append-nil xs) ∙ sym (append-nil (in_two rule xs));
  pending = λ none few n.
      let all = append-nil xs in
      let k : suffix_len (is_above rule) xs ≤ 0 = subst (λ zs. suffix_len (is_above rule) zs ≤ 0) all few in
      let past : length xs ≤ length xs - suffix_len (is_above rule) xs = omega (arith, k) in
      ap (λ zs. text_with_pending rule zs n) all
      ∙ ap (λ zs. in_two rule zs ++ n ∷ last_stretch (is_above rule) xs) (take_all _ xs past)
      ∙ ap (λ zs. in_two rule xs ++ n ∷ zs) (drop_all _ xs past);
}

-- one more element behind it
takes_fewer : {X : Type 0} (rule : SaraAmRule X) (xs ys : List X) (x : X) → TakesNone rule xs (ys ++ x ∷ [])
    → TakesNone rule xs ys
takes_fewer rule xs ys x none ms a rest is am = none ms a (rest ++ x ∷ []) (ap (λ zs. zs ++ x ∷ []) is
    ∙ append_assoc ms (a ∷ rest) (x ∷ [])) am

more_whole : {X : Type 0} (rule : SaraAmRule X) (xs ys : List X) (x : X) → InHalves rule xs ys
    → TakesNone rule xs (ys ++ x ∷ []) → in_two rule (xs ++ (ys ++ x ∷ [])) ≡ in_two rule xs
    ++ in_two rule (ys ++ x ∷ [])
more_whole rule xs ys x p none =
    let fewer = takes_fewer rule xs ys x none in
    elim (is_am rule x) as (λ b. is_am rule x ≡ b → in_two rule (xs ++ (ys ++ x ∷ [])) ≡ in_two rule xs
    ++ in_two rule (ys ++ x ∷ [])) [
      | true ↦ λ h.
          ap (in_two rule) (sym (append_assoc xs ys (x ∷ [])))
          ∙ in_two_push_am rule (xs ++ ys) x h
          ∙ ap (λ zs. zs ++ rule.sara_aa x ∷ []) (p.pending fewer (none ys x [] refl h) (rule.nikhahit x))
          ∙ append_assoc (in_two rule xs) (text_with_pending rule ys (rule.nikhahit x)) (rule.sara_aa x ∷ [])
          ∙ ap (λ zs. in_two rule xs ++ zs) (sym (in_two_push_am rule ys x h))
      | false ↦ λ h.
          ap (in_two rule) (sym (append_assoc xs ys (x ∷ [])))
          ∙ in_two_push rule (xs ++ ys) x h
          ∙ ap (λ zs. zs ++ x ∷ []) (p.whole fewer)
          ∙ append_assoc (in_two rule xs) (in_two rule ys) (x ∷ [])
          ∙ ap (λ zs. in_two rule xs ++ zs) (sym (in_two_push rule ys x h))
    ] refl

more_pending : {X : Type 0} (rule : SaraAmRule X) (xs ys : List X) (x : X) → InHalves rule xs ys
    → TakesNone rule xs (ys ++ x ∷ []) → suffix_len (is_above rule) (xs ++ (ys ++ x ∷ [])) ≤ length (ys ++ x ∷ [])
    → (n : X) → text_with_pending rule (xs ++ (ys ++ x ∷ [])) n ≡ in_two rule xs
    ++ text_with_pending rule (ys ++ x ∷ []) n
more_pending rule xs ys x p none few n =
    let fewer = takes_fewer rule xs ys x none in
    let joined = append_assoc xs ys (x ∷ []) in
    elim (is_above rule x) as (λ b. is_above rule x ≡ b → text_with_pending rule (xs ++ (ys ++ x ∷ [])) n
    ≡ in_two rule xs ++ text_with_pending rule (ys ++ x ∷ []) n) [
      | true ↦ λ h.
          let longer = ap (suffix_len (is_above rule)) joined in
          let less : suffix_len (is_above rule) (xs ++ ys) ≤ length ys =
          omega (arith, suffix_len_yes (is_above rule) (xs ++ ys) x h, longer, few, length_push ys x) in
          ap (λ zs. text_with_pending rule zs n) (sym joined)
          ∙ pending_push_mark rule (xs ++ ys) x n h
          ∙ ap (λ zs. zs ++ x ∷ []) (p.pending fewer less n)
          ∙ append_assoc (in_two rule xs) (text_with_pending rule ys n) (x ∷ [])
          ∙ ap (λ zs. in_two rule xs ++ zs) (sym (pending_push_mark rule ys x n h))
      | false ↦ λ h.
          ap (λ zs. text_with_pending rule zs n) (sym joined)
          ∙ held_push_other rule (xs ++ ys) x n h
          ∙ ap (λ zs. in_two rule zs ++ n ∷ []) joined
          ∙ ap (λ zs. zs ++ n ∷ []) (more_whole rule xs ys x p none)
          ∙ append_assoc (in_two rule xs) (in_two rule (ys ++ x ∷ [])) (n ∷ [])
          ∙ ap (λ zs. in_two rule xs ++ zs) (sym (held_push_other rule ys x n h))
    ] refl

in_halves : {X : Type 0} (rule : SaraAmRule X) (xs ys : List X) → InHalves rule xs ys
in_halves rule xs ys =
    from_end (InHalves rule xs) (nothing_behind rule xs)
    (λ zs x p. record {
      whole = λ none. more_whole rule xs zs x p none;
      pending = λ none few n. more_pending rule xs zs x p none few n;
    }) ys

-- THE STRETCHES
-- so of characters, with the stretches: each SARA AM of vs merges nothing before the cut, when ms of vs stand before
-- vs
abbrev pub MergesNone : BufferClusterLevel → List ℕ → List ℕ → List ℕ → Type 0
MergesNone level us ms vs = (ks : List ℕ) (a : ℕ) (rest : List ℕ) → vs ≡ ks ++ a ∷ rest → is_sara_am a ≡ true
    → (suffix_len is_above_base (us ++ (ms ++ ks)) ≤ length (ms ++ ks))
    × (joins_before level ≡ true → 0 < length (ms ++ ks))

-- the above-base marks at the end reach over the cut, or are those behind it
steps_within : (us ms : List ℕ) → suffix_len is_above_base (us ++ ms) ≤ length ms
    → suffix_len is_above_base (us ++ ms) ≡ suffix_len is_above_base ms
steps_within us ms =
    from_end (λ zs. suffix_len is_above_base (us ++ zs) ≤ length zs → suffix_len is_above_base (us ++ zs)
    ≡ suffix_len is_above_base zs)
    (λ few. omega (arith, few))
    (λ zs z before few.
    let joined = ap (suffix_len is_above_base) (append_assoc us zs (z ∷ [])) in
    elim (is_above_base z) as (λ b. is_above_base z ≡ b → suffix_len is_above_base (us ++ (zs ++ z ∷ []))
    ≡ suffix_len is_above_base (zs ++ z ∷ [])) [
      | true ↦ λ h.
          let more = suffix_len_yes is_above_base (us ++ zs) z h in
          let own = suffix_len_yes is_above_base zs z h in
          let same = before (omega (arith, more, joined, few, length_push zs z)) in
          omega (arith, more, own, joined, same)
      | false ↦ λ h. sym joined ∙ suffix_len_no is_above_base (us ++ zs) z h ∙ sym (suffix_len_no is_above_base zs z h)
    ] refl) ms

-- what one SARA AM merges, with k marks before it, l places behind the cut at n
same_stretch : (level : BufferClusterLevel) (n l k : ℕ) → k ≤ l → 0 < n → (joins_before level ≡ true → 0 < l)
    → stretch_of_sara_am level (n + l) k ≡ shifted n (stretch_of_sara_am level l k)
same_stretch level n l k few some joins =
    elim (nat_lt 0 k) as (λ b. (if b then (n + l - k, n + l + 1) ∷ [] else if joins_before level
    && nat_lt 0 (n + l) then (n + l - 1, n + l + 1) ∷ [] else []) ≡ shifted n (if b then (l - k, l + 1) ∷ []
    else if joins_before level && nat_lt 0 l then (l - 1, l + 1) ∷ [] else [])) [
      | true ↦ ap (λ (p : ℕ). (p, n + l + 1) ∷ []) (omega (arith, few)) ∙ ap (λ (p : ℕ). (n + (l - k), p) ∷ [])
          (omega arith)
      | false ↦ elim (joins_before level) as (λ b. (b ≡ true → 0 < l) → (if b
          && nat_lt 0 (n + l) then (n + l - 1, n + l + 1) ∷ [] else []) ≡ shifted n (if b
          && nat_lt 0 l then (l - 1, l + 1) ∷ [] else [])) [
            | true ↦ λ own.
                let behind = own refl in
                ap (λ (b : Bool). if b then (n + l - 1, n + l + 1) ∷ [] else []) (lt-ltb 0 (n + l)
                (omega (arith, behind)))
                ∙ ap (λ (p : ℕ). (p, n + l + 1) ∷ []) (omega (arith, behind))
                ∙ ap (λ (p : ℕ). (n + (l - 1), p) ∷ []) (omega arith)
                ∙ ap (λ (b : Bool). shifted n (if b then (l - 1, l + 1) ∷ [] else [])) (sym (lt-ltb 0 l behind))
            | false ↦ λ own. refl
          ] joins
    ]

at_place : (level : BufferClusterLevel) (us ms : List ℕ) (w : ℕ) → 0 < length us
    → (is_sara_am w ≡ true → (suffix_len is_above_base (us ++ ms) ≤ length ms)
    × (joins_before level ≡ true → 0 < length ms))
    → stretches_at level (length (us ++ ms)) w (suffix_len is_above_base (us ++ ms))
    ≡ shifted (length us) (stretches_at level (length ms) w (suffix_len is_above_base ms))
at_place level us ms w some own =
    let n = length us in
    let l = length ms in
    elim (is_sara_am w) as (λ b. (b ≡ true → (suffix_len is_above_base (us ++ ms) ≤ length ms)
    × (joins_before level ≡ true → 0 < length ms))
    → (if b then stretch_of_sara_am level (length (us ++ ms)) (suffix_len is_above_base (us ++ ms)) else [])
    ≡ shifted n (if b then stretch_of_sara_am level l (suffix_len is_above_base ms) else [])) [
      | true ↦ λ each.
          let (few, joins) = each refl in
          let k = suffix_len is_above_base ms in
          ap (λ p. stretch_of_sara_am level p (suffix_len is_above_base (us ++ ms))) (length-append us ms)
          ∙ ap (stretch_of_sara_am level (n + l)) (steps_within us ms few)
          ∙ same_stretch level n l k (suffix_len-le-length is_above_base ms) some joins
      | false ↦ λ each. refl
    ] own

each_behind : (level : BufferClusterLevel) (us ms vs : List ℕ) → 0 < length us → MergesNone level us ms vs
    → stretches_of_each level (each_after (us ++ ms) vs)
    ≡ shifted (length us) (stretches_of_each level (each_after ms vs))
each_behind level us ms [] some none = refl
each_behind level us ms (w ∷ vs) some none =
    let n = length us in
    let own = stretches_at level (length ms) w (suffix_len is_above_base ms) in
    let rest = stretches_of_each level (each_after (ms ++ w ∷ []) vs) in
    let here = at_place level us ms w some (λ am.
    subst (λ zs. (suffix_len is_above_base (us ++ zs) ≤ length zs) × (joins_before level ≡ true → 0 < length zs))
    (append-nil ms) (none [] w vs refl am)) in
    let later : MergesNone level us (ms ++ w ∷ []) vs = λ ks a zs is am.
    subst (λ ts. (suffix_len is_above_base (us ++ ts) ≤ length ts) × (joins_before level ≡ true → 0 < length ts))
    (sym (append_assoc ms (w ∷ []) ks)) (none (w ∷ ks) a zs (ap (λ ts. w ∷ ts) is) am) in
    ap (λ sts. sts ++ stretches_of_each level (each_after ((us ++ ms) ++ w ∷ []) vs)) here
    ∙ ap (λ b. shifted n own ++ stretches_of_each level (each_after b vs)) (append_assoc us ms (w ∷ []))
    ∙ ap (λ sts. shifted n own ++ sts) (each_behind level us (ms ++ w ∷ []) vs some later)
    ∙ sym (map-append (λ (st : ℕ × ℕ). (n + st.0, n + st.1)) own rest)

stretches_cut : (level : BufferClusterLevel) (us vs : List ℕ) → 0 < length us → MergesNone level us [] vs
    → sara_am_stretches level (us ++ vs) ≡ sara_am_stretches level us
    ++ shifted (length us) (sara_am_stretches level vs)
stretches_cut level us vs some none =
    let f = λ (p : List ℕ × ℕ). stretches_at level (length p.0) p.1 (suffix_len is_above_base p.0) in
    ap (flat_map f) (each_after-append [] us vs)
    ∙ flat_map-append f (each_after [] us) (each_after us vs)
    ∙ ap (λ b. sara_am_stretches level us ++ stretches_of_each level (each_after b vs)) (sym (append-nil us))
    ∙ ap (λ sts. sara_am_stretches level us ++ sts) (each_behind level us [] vs some none)

-- WHERE NO STRETCH HOLDS THE CUT
not_over : (sts : List (ℕ × ℕ)) (p : ℕ) (st : ℕ × ℕ) → held sts p ≡ false → Contains sts st → st.0 < p → p < st.1 → ⊥
not_over sts p st free among before behind =
    let test : ℕ × ℕ → Bool = λ t. nat_lt t.0 p && nat_lt p t.1 in
    let (i, il, is) = among in
    both_ways _ free
    (list_any_at test sts i st il (ap test is ∙ and_from _ _ (lt-ltb st.0 p before) (lt-ltb p st.1 behind)))

stretch_among : (level : BufferClusterLevel) (xs : List ℕ) (a : ℕ) (ys : List ℕ) (st : ℕ × ℕ) → is_sara_am a ≡ true
    → Contains (stretch_of_sara_am level (length xs) (suffix_len is_above_base xs)) st
    → Contains (sara_am_stretches level (xs ++ a ∷ ys)) st
stretch_among level xs a ys st am among =
    Contains-flat_map _ (each_after [] (xs ++ a ∷ ys)) (xs, a) st (Contains-each_after [] xs a ys)
    (subst (λ (b : Bool). Contains (if b then stretch_of_sara_am level (length xs) (suffix_len is_above_base xs) else [])
    st) (sym am) among)

-- so each SARA AM behind it merges nothing before it
merges_none : (level : BufferClusterLevel) (us vs : List ℕ) → 0 < length us
    → held (sara_am_stretches level (us ++ vs)) (length us) ≡ false → MergesNone level us [] vs
merges_none level us vs some free ks a rest is am =
    let n = length us in
    let l = length ks in
    let xs = us ++ ks in
    let w = suffix_len is_above_base xs in
    let long = length-append us ks in
    let text : us ++ vs ≡ xs ++ a ∷ rest = ap (λ zs. us ++ zs) is ∙ sym (append_assoc us ks (a ∷ rest)) in
    let over : (st : ℕ × ℕ) → Contains (stretch_of_sara_am level (length xs) w) st → st.0 < n → n < st.1 → ⊥ =
    λ st among. not_over (sara_am_stretches level (us ++ vs)) n st free (subst (λ zs. Contains
    (sara_am_stretches level zs) st) (sym text) (stretch_among level xs a rest st am among)) in
    let few : w ≤ l = elim (cases_lt l w) [
      | inl more ↦
          let st : ℕ × ℕ = (length xs - w, length xs + 1) in
          let among : Contains (stretch_of_sara_am level (length xs) w) st = subst (λ (b : Bool). Contains
          (if b then st ∷ [] else if joins_before level
          && nat_lt 0 (length xs) then (length xs - 1, length xs + 1) ∷ [] else []) st)
          (sym (lt-ltb 0 w (omega (arith, more)))) (0, omega arith, refl) in
          absurd (over st among (omega (arith, long, more, some)) (omega (arith, long)))
      | inr less ↦ less
    ] in (
      few,
      λ joins. elim (cases_lt 0 l) [
        | inl behind ↦ behind
        | inr first ↦
            let none : w ≡ 0 = omega (arith, few, first) in
            let st : ℕ × ℕ = (length xs - 1, length xs + 1) in
            let far = and_from _ _ joins (lt-ltb 0 (length xs) (omega (arith, long, some))) in
            let last : Contains (if joins_before level && nat_lt 0 (length xs) then st ∷ [] else []) st =
            subst (λ (b : Bool). Contains (if b then st ∷ [] else []) st) (sym far) (0, omega arith, refl) in
            let among : Contains (stretch_of_sara_am level (length xs) w) st =
            subst (λ k. Contains (stretch_of_sara_am level (length xs) k) st) (sym none) last in
            absurd (over st among (omega (arith, long, some)) (omega (arith, long, first)))
      ],
    )

-- THE TEXT
takes_none : (us vs : List ℕ) (xs ys : Glyphs) → characters xs ≡ us → characters ys ≡ vs
    → ((ms : List ℕ) (a : ℕ) (rest : List ℕ) → vs ≡ ms ++ a ∷ rest → is_sara_am a ≡ true
    → suffix_len is_above_base (us ++ ms) ≤ length ms) → TakesNone glyph_rule xs ys
takes_none us vs xs ys first second none ms a rest is am =
    let character : Glyph → ℕ = λ g. g.glyph_id in
    let few = none (characters ms) a.glyph_id (characters rest) (sym second ∙ ap characters is
    ∙ map-append character ms (a ∷ rest)) am in
    let same : suffix_len (is_above glyph_rule) (xs ++ ms) ≡ suffix_len is_above_base (us ++ characters ms) =
    sym (suffix_len-map is_above_base character (xs ++ ms))
    ∙ ap (suffix_len is_above_base) (map-append character xs ms ∙ ap (λ zs. zs ++ characters ms) first) in
    omega (arith, same, few, length-map ms character)

-- the text with the stretches of its SARA AMs merged
abbrev pub two_merged : BufferClusterLevel → Glyphs → Glyphs
two_merged level gs = merge_all level (sara_am_stretches level (characters gs)) gs

-- cut where no stretch holds the cut, and the halves share no cluster
pub record TwoHalves (level : BufferClusterLevel) (xs ys : Glyphs) : Type 0 where
  pub merged : two_merged level (xs ++ ys) ≡ two_merged level xs ++ two_merged level ys
  pub made : sara_ams_taken level (xs ++ ys) ≡ sara_ams_taken level xs ++ sara_ams_taken level ys

pub two_halves : (level : BufferClusterLevel) (xs ys : Glyphs) → 0 < length xs → ShareNone xs ys
    → held (sara_am_stretches level (characters (xs ++ ys))) (length xs) ≡ false → TwoHalves level xs ys
two_halves level xs ys some apart free =
    let character : Glyph → ℕ = λ g. g.glyph_id in
    let us = characters xs in
    let vs = characters ys in
    let one = sara_am_stretches level us in
    let two = sara_am_stretches level vs in
    let text : characters (xs ++ ys) ≡ us ++ vs = map-append character xs ys in
    let n : length us ≡ length xs = length-map xs character in
    let there : held (sara_am_stretches level (us ++ vs)) (length us) ≡ false =
    subst (λ k. held (sara_am_stretches level (us ++ vs)) k ≡ false) (sym n)
    (subst (λ zs. held (sara_am_stretches level zs) (length xs) ≡ false) text free) in
    let first : 0 < length us = omega (arith, n, some) in
    let none = merges_none level us vs first there in
    let sts : sara_am_stretches level (characters (xs ++ ys)) ≡ one ++ shifted (length xs) two =
    ap (sara_am_stretches level) text ∙ stretches_cut level us vs first none ∙ ap (λ k. one ++ shifted k two) n in
    let merged : two_merged level (xs ++ ys) ≡ two_merged level xs ++ two_merged level ys =
    ap (λ l. merge_all level l (xs ++ ys)) sts
    ∙ merged_halves level one two xs ys (stretches_within level xs) (stretches_within level ys) apart in
    record {
      merged = merged;
      made = ap glyphs_in_two merged
          ∙ (in_halves glyph_rule (two_merged level xs) (two_merged level ys)).whole
          (takes_none us vs (two_merged level xs) (two_merged level ys) (characters-merge_all level one xs)
          (characters-merge_all level two ys) (λ ms a rest is am. (none ms a rest is am).0));
    }
