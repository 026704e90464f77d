-- The rule of SARA AM, read from the end of a text; through maps; at one SARA AM.
use Rattle.std.proofs.Common.{◌≡◌, inl, inr, map, ◌-◌, ◌+◌, ◌<◌, ℕ, Bool, get_or, flat_map, subst, true, false, cond, List, [], ◌∷◌, ◌++◌, length, take, refl, sym, ap, ◌∙◌, arith}
use Rattle.std.specs.List.Sorted.{IsPermutation}
use Rattle.std.proofs.lemmas.List.Sorted.{IsPermutation-refl, IsPermutation-trans, IsPermutation-sym, IsPermutation-cons, IsPermutation-middle, IsPermutation-to_front, IsPermutation-append_left, Contains-permutation}
use Rattle.std.proofs.lemmas.List.Elements.{Contains-get_or}
use Rattle.std.proofs.lemmas.List.Concat.{flat_map-append}
use Rattle.std.proofs.lemmas.List.FromFn.{get_or-enumerate_from, length-enumerate_from}
use Rattle.std.specs.List.{Contains, list_any, count_by, suffix_len, take-map, enumerate_from, range_with_len}
use Rattle.std.proofs.lemmas.Bool.{eqb-true}
use Rattle.std.proofs.lemmas.List.{map-append, append_assoc, length_push}
use Rattle.shapers_buffer.specs.Glyphs.{Glyphs}
use Rattle.shapers_buffer.specs.Glyph.{characters}
use Rattle.shapers_buffer.specs.Lists.{last_stretch, before_last_stretch}
use Rattle.shapers_buffer.proofs.ListLaws.{from_end, count_push, last_pass, none_in_front, last_run_yes, before_last_run_yes, last_run_no, before_last_run_no, last_run_stop, before_last_run_stop}
use Rattle.shapers_buffer.proofs.PieceLaws.{one_piece, changed_pieces-none, changed_pieces-append, changed_pieces-push, changed_pieces-map}
use Rattle.shapers_buffer.proofs.MappedLists.{Contains-map, Contains-flat_map, suffix_len-map, last_stretch-map, before_last_stretch-map, enumerate-append, before_last_stretch-enumerate_from, places-last_stretch}
use Rattle.shapers_text.specs.Thai.{is_sara_am, is_above_base, is_am, is_above, SaraAmRule, piece_in_two, in_parts, in_two, place_rule, sara_am_sources}
use Rattle.shapers_text.specs.ThaiWalk.{above_marks_before, text_with_pending}

-- a SARA AM is no above-base mark
apart : (u : ℕ) → is_sara_am u ≡ true → is_above_base u ≡ false
apart = search (arith, eqb-true)

-- a text without SARA AM stays
pub in_two_plain : {X : Type 0} (rule : SaraAmRule X) (xs : List X) → list_any (is_am rule) xs ≡ false
    → in_two rule xs ≡ xs
in_two_plain rule xs none = search (arith, changed_pieces-none)

-- what stands before and after a SARA AM is rewritten for itself
pub in_two-append : {X : Type 0} (rule : SaraAmRule X) (xs : List X) (am : X) (ys : List X) → is_am rule am ≡ true
    → in_two rule (xs ++ am ∷ ys) ≡ in_two rule (xs ++ am ∷ []) ++ in_two rule ys
in_two-append = search (arith, changed_pieces-append)

-- one more glyph that is no SARA AM
pub in_two_push : {X : Type 0} (rule : SaraAmRule X) (xs : List X) (x : X) → is_am rule x ≡ false
    → in_two rule (xs ++ x ∷ []) ≡ in_two rule xs ++ x ∷ []
in_two_push = search (arith, changed_pieces-push)

in_two_push_am_first : {X : Type 0} (rule : SaraAmRule X) (xs : List X) (x : X) → list_any (is_am rule) xs ≡ false
    → is_am rule x ≡ true → in_two rule (xs ++ x ∷ []) ≡ text_with_pending rule xs (rule.nikhahit x) ++ rule.sara_aa x
    ∷ []
in_two_push_am_first rule xs x none = search (arith, one_piece, append_assoc, in_two_plain, none_in_front)

-- one more glyph that is a SARA AM: its NIKHAHIT is pending
pub in_two_push_am : {X : Type 0} (rule : SaraAmRule X) (xs : List X) (x : X) → is_am rule x ≡ true
    → in_two rule (xs ++ x ∷ []) ≡ text_with_pending rule xs (rule.nikhahit x) ++ rule.sara_aa x ∷ []
in_two_push_am rule xs x passes = elim (last_pass (is_am rule) xs) [
  | inl none ↦ search (arith, in_two_push_am_first)
  | inr p ↦
      search (arith, append_assoc, in_two-append, in_two_push_am_first, before_last_run_stop, last_run_stop, apart)
]

-- one more above-base mark, or another glyph, where a NIKHAHIT is pending
pub pending_push_mark : {X : Type 0} (rule : SaraAmRule X) (xs : List X) (x nikhahit : X) → is_above rule x ≡ true
    → text_with_pending rule (xs ++ x ∷ []) nikhahit ≡ text_with_pending rule xs nikhahit ++ x ∷ []
pending_push_mark = search (arith, before_last_run_yes, last_run_yes, append_assoc)

pub held_push_other : {X : Type 0} (rule : SaraAmRule X) (xs : List X) (x nikhahit : X) → is_above rule x ≡ false
    → text_with_pending rule (xs ++ x ∷ []) nikhahit ≡ in_two rule (xs ++ x ∷ []) ++ nikhahit ∷ []
held_push_other = search (arith, before_last_run_no, last_run_no)

-- an above-base mark is no SARA AM
pub no_am : {X : Type 0} (rule : SaraAmRule X) (x : X) → is_above rule x ≡ true → is_am rule x ≡ false
no_am rule x h =
    elim (is_am rule x) as (λ b. is_am rule x ≡ b → b ≡ false)
    [ true ↦ λ e. sym h ∙ apart (rule.character x) e | false ↦ λ e. refl ] refl

-- at a SARA AM: what stands before its marks is rewritten for itself, and what stands behind it
pub in_two_at : {X : Type 0} (rule : SaraAmRule X) (xs : List X) (am : X) (ys : List X) → is_am rule am ≡ true
    → in_two rule (xs ++ am ∷ ys) ≡ in_two rule (before_last_stretch (is_above rule) xs)
    ++ ((rule.nikhahit am ∷ last_stretch (is_above rule) xs) ++ (rule.sara_aa am ∷ in_two rule ys))
in_two_at = search (arith, in_two-append, in_two_push_am, append_assoc)

-- the rule on what f reads as the other reads its own: what it makes leads to what the other makes,
-- if its parts of a SARA AM do
abbrev pub read_by : {X Y : Type 0} → (X → Y) → (X → X) → (X → X) → SaraAmRule Y → SaraAmRule X
read_by f nikhahit sara_aa rule =
    record { character = λ x. rule.character (f x); nikhahit = nikhahit; sara_aa = sara_aa }

pub in_two-map : {X Y : Type 0} (f : X → Y) (nikhahit sara_aa : X → X) (rule : SaraAmRule Y)
    → ((x : X) → f (nikhahit x) ≡ rule.nikhahit (f x)) → ((x : X) → f (sara_aa x) ≡ rule.sara_aa (f x)) → (xs : List X)
    → map f (in_two (read_by f nikhahit sara_aa rule) xs) ≡ in_two rule (map f xs)
in_two-map f nikhahit sara_aa rule first second xs =
    changed_pieces-map f (is_am rule) (piece_in_two (read_by f nikhahit sara_aa rule)) (piece_in_two rule)
    (λ before x. search (arith, map-append, before_last_stretch-map, last_stretch-map)) xs

-- the sources at a SARA AM: those of the text before its marks, the SARA AM, its marks, the SARA AM again, and so on
pub sources_at : (xs : List ℕ) (u : ℕ) (ys : List ℕ) → is_sara_am u ≡ true → (behind : List ℕ)
    × (sara_am_sources (xs ++ u ∷ ys) ≡ sara_am_sources (before_last_stretch is_above_base xs)
    ++ ((length xs ∷ range_with_len (length xs - suffix_len is_above_base xs) (suffix_len is_above_base xs)) ++ behind))
sources_at xs u ys passes = let rest = enumerate_from (length xs + 1) ys in (
  length xs ∷ map (λ p. p.0) (in_two place_rule rest),
  search (
    arith,
    enumerate-append xs (u ∷ ys),
    in_two_at,
    map-append,
    before_last_stretch-enumerate_from is_above_base 0 xs,
    places-last_stretch is_above_base xs,
  ),
)

pub above_marks_before-characters : (gs : Glyphs) (i : ℕ)
    → above_marks_before gs i ≡ suffix_len is_above_base (take i (characters gs))
above_marks_before-characters gs i = sym (suffix_len-map is_above_base (λ g. g.glyph_id) (take i gs))
    ∙ ap (suffix_len is_above_base) (sym (take-map (λ g. g.glyph_id) i gs))

-- the lengths: one more glyph for each SARA AM
pub record Lengths {X : Type 0} (rule : SaraAmRule X) (xs : List X) : Type 0 where
  pub whole : length (in_two rule xs) ≡ length xs + count_by (is_am rule) xs
  pub pending : (nikhahit : X) → length (text_with_pending rule xs nikhahit) ≡ length xs + count_by (is_am rule) xs + 1

longer : {X : Type 0} (xs ys : List X) (y : X) → xs ≡ ys ++ y ∷ [] → length xs ≡ length ys + 1
longer xs ys y e = cc (length_push ys y)

lengths_push : {X : Type 0} (rule : SaraAmRule X) (xs : List X) (x : X) → Lengths rule xs
    → length (in_two rule (xs ++ x ∷ [])) ≡ length (xs ++ x ∷ []) + count_by (is_am rule) (xs ++ x ∷ [])
lengths_push rule xs x p =
    elim (is_am rule x) as (λ b. is_am rule x ≡ b → length (in_two rule (xs ++ x ∷ []))
    ≡ length (xs ++ x ∷ []) + count_by (is_am rule) (xs ++ x ∷ [])) [
      | true ↦ λ h.
          omega (
            arith,
            longer _ _ _ (in_two_push_am rule xs x h),
            length_push xs x,
            count_push (is_am rule) xs x true h,
          )
      | false ↦ λ h. omega (
        arith,
        longer _ _ _ (in_two_push rule xs x h),
        p.whole,
        length_push xs x,
        count_push (is_am rule) xs x false h,
      )
    ] refl

lengths_push_held : {X : Type 0} (rule : SaraAmRule X) (xs : List X) (x nikhahit : X) → Lengths rule xs
    → length (text_with_pending rule (xs ++ x ∷ []) nikhahit)
    ≡ length (xs ++ x ∷ []) + count_by (is_am rule) (xs ++ x ∷ []) + 1
lengths_push_held rule xs x nikhahit p =
    elim (is_above rule x) as (λ b. is_above rule x ≡ b → length (text_with_pending rule (xs ++ x ∷ []) nikhahit)
    ≡ length (xs ++ x ∷ []) + count_by (is_am rule) (xs ++ x ∷ []) + 1) [
      | true ↦ λ h.
          omega (
            arith,
            longer _ _ _ (pending_push_mark rule xs x nikhahit h),
            length_push xs x,
            count_push (is_am rule) xs x false (no_am rule x h),
          )
      | false ↦ λ h. omega (arith, longer _ _ _ (held_push_other rule xs x nikhahit h), lengths_push)
    ] refl

pub lengths : {X : Type 0} (rule : SaraAmRule X) (xs : List X) → Lengths rule xs
lengths rule xs =
    from_end (Lengths rule) (search arith) (λ xs x p. search (arith, lengths_push, lengths_push_held)) xs

-- Nothing is lost: the result is what comes of each element, in some order; so is a text with a NIKHAHIT pending.
pub record Kept {X : Type 0} (rule : SaraAmRule X) (xs : List X) : Type 0 where
  pub whole : IsPermutation (flat_map (in_parts rule) xs) (in_two rule xs)
  pub pending : (nikhahit : X)
      → IsPermutation (nikhahit ∷ flat_map (in_parts rule) xs) (text_with_pending rule xs nikhahit)

permutation_by : {X : Type 0} (xs us ys vs : List X) → xs ≡ us → ys ≡ vs → IsPermutation us vs → IsPermutation xs ys
permutation_by = search arith

parts_push : {X : Type 0} (rule : SaraAmRule X) (xs : List X) (x : X) (b : Bool) → is_am rule x ≡ b
    → flat_map (in_parts rule) (xs ++ x ∷ []) ≡ flat_map (in_parts rule) xs
    ++ cond b (rule.nikhahit x ∷ (rule.sara_aa x ∷ [])) (x ∷ [])
parts_push = search (arith, flat_map-append)

kept_push : {X : Type 0} (rule : SaraAmRule X) (xs : List X) (x : X) → Kept rule xs
    → IsPermutation (flat_map (in_parts rule) (xs ++ x ∷ [])) (in_two rule (xs ++ x ∷ []))
kept_push rule xs x k =
    let flat = flat_map (in_parts rule) xs in
    let n = rule.nikhahit x in
    let s = rule.sara_aa x in
    elim (is_am rule x) as (λ b. is_am rule x ≡ b
    → IsPermutation (flat_map (in_parts rule) (xs ++ x ∷ [])) (in_two rule (xs ++ x ∷ []))) [
      | true ↦ λ h. permutation_by _ (flat ++ n ∷ (s ∷ [])) _ (text_with_pending rule xs n ++ s ∷ [])
          (parts_push rule xs x true h) (in_two_push_am rule xs x h)
          (IsPermutation-trans _ (n ∷ (flat ++ s ∷ [])) _ (IsPermutation-middle flat n (s ∷ []))
          (IsPermutation-append_left (s ∷ []) (n ∷ flat) (text_with_pending rule xs n) (k.pending n)))
      | false ↦ λ h. permutation_by _ (flat ++ x ∷ []) _ (in_two rule xs ++ x ∷ []) (parts_push rule xs x false h)
          (in_two_push rule xs x h) (IsPermutation-append_left (x ∷ []) flat (in_two rule xs) k.whole)
    ] refl

kept_push_held : {X : Type 0} (rule : SaraAmRule X) (xs : List X) (x n : X) → Kept rule xs
    → IsPermutation (n ∷ flat_map (in_parts rule) (xs ++ x ∷ [])) (text_with_pending rule (xs ++ x ∷ []) n)
kept_push_held rule xs x n k =
    let flat = flat_map (in_parts rule) xs in
    let next = in_two rule (xs ++ x ∷ []) in
    elim (is_above rule x) as (λ b. is_above rule x ≡ b
    → IsPermutation (n ∷ flat_map (in_parts rule) (xs ++ x ∷ [])) (text_with_pending rule (xs ++ x ∷ []) n)) [
      | true ↦ λ h. permutation_by _ (n ∷ (flat ++ x ∷ [])) _ (text_with_pending rule xs n ++ x ∷ [])
          (ap (λ ys. n ∷ ys) (parts_push rule xs x false (no_am rule x h))) (pending_push_mark rule xs x n h)
          (IsPermutation-append_left (x ∷ []) (n ∷ flat) (text_with_pending rule xs n) (k.pending n))
      | false ↦ λ h. permutation_by _ _ _ (next ++ n ∷ []) refl (held_push_other rule xs x n h)
          (IsPermutation-trans _ (n ∷ next) _ (IsPermutation-cons n _ next (kept_push rule xs x k))
          (IsPermutation-sym (next ++ n ∷ []) (n ∷ next) (IsPermutation-to_front next n)))
    ] refl

pub kept : {X : Type 0} (rule : SaraAmRule X) (xs : List X) → Kept rule xs
kept rule xs =
    from_end (Kept rule) (search (arith, IsPermutation-refl)) (λ xs x k. search (arith, kept_push, kept_push_held)) xs

-- so each place has a glyph that comes of it
pub none_lost : (us : List ℕ) (p : ℕ) → p < length us → Contains (sara_am_sources us) p
none_lost us p inside =
    let es = enumerate_from 0 us in
    let u = get_or us p 0 in
    let among : Contains es (p, u) =
    subst (Contains es) (get_or-enumerate_from 0 us p (0, 0) inside ∙ ap (λ k. (k, u)) (omega arith))
    (Contains-get_or es p (0, 0) (omega (arith, length-enumerate_from))) in
    let made : (y : ℕ × ℕ) → Contains (in_parts place_rule (p, u)) y
    → Contains (map (λ q. q.0) (in_two place_rule es)) y.0 =
    λ y part. Contains-map (λ q. q.0) (in_two place_rule es) y
    (Contains-permutation _ (in_two place_rule es) y (kept place_rule es).whole
    (search (arith, Contains-flat_map))) in
    elim (is_sara_am u) as (λ b. ((y : ℕ × ℕ) → Contains (cond b ((p, u + 0x1A) ∷ ((p, u - 1) ∷ [])) ((p, u) ∷ [])) y
    → Contains (sara_am_sources us) y.0) → Contains (sara_am_sources us) p) [
      | true ↦ λ made. made (p, u + 0x1A) (0, omega arith, refl)
      | false ↦ λ made. made (p, u) (0, omega arith, refl)
    ] made
