-- What stands before the first SARA AM and behind the last: it merges nothing, and it stays.
use Rattle.std.proofs.Common.{◌≡◌, ◌∙◌, Bool, ℕ, suc, ◌+◌, ◌-◌, ◌<◌, ◌≤◌, true, false, not, cond, List, [], ◌∷◌, ◌++◌, length, take, drop, refl, sym, ap, arith, length-append}
use Rattle.std.specs.List.{copy_within, count_by, list_any, prefix_len, suffix_len, take-map}
use Rattle.std.proofs.Math.Seq.{take-add}
use Rattle.std.proofs.lemmas.Bool.{or_parts}
use Rattle.std.proofs.lemmas.List.{append_assoc, append-nil, drop-map, length-take-le, length-map, length_push, take-append-drop, take-append-le, take-take, take_at, drop_at, drop_all, length-drop}
use Rattle.std.proofs.lemmas.List.Folds.{list_any-append}
use Rattle.shapers_buffer.specs.Glyphs.{Glyphs}
use Rattle.shapers_buffer.specs.Glyph.{characters}
use Rattle.shapers_buffer.specs.Lists.{last_stretch, each_after}
use Rattle.shapers_buffer.specs.declared.buffer.level.BufferClusterLevel.{BufferClusterLevel}
use Rattle.shapers_buffer.proofs.ListLaws.{count_push, from_end, last_run_yes, last_run_no, none_from_count, suffix_len_no, suffix_len_yes}
use Rattle.shapers_buffer.proofs.MappedLists.{list_any-map}
use Rattle.shapers_text.specs.Thai.{is_sara_am, is_am, SaraAmRule, in_two, glyph_rule, glyphs_in_two, stretches_of_each, sara_am_stretches}
use Rattle.shapers_text.specs.ThaiWalk.{merged_front, HasRoomForSaraAms}
use Rattle.shapers_text.proofs.ThaiInTwo.{in_two_push}
use Rattle.shapers_buffer.specs.Clusters.{merge_all}
use Rattle.shapers_text.proofs.ThaiStretches.{Merging, characters-merge_all, room_stays, stretches_none_after}

-- another element than SARA AM
abbrev is_other : {X : Type 0} → SaraAmRule X → X → Bool
is_other rule = λ x. not (is_am rule x)

-- among the first others is no SARA AM, nor among the last
none_before : {X : Type 0} (rule : SaraAmRule X) (xs : List X)
    → list_any (is_am rule) (take (prefix_len (is_other rule) xs) xs) ≡ false
none_before rule [] = refl
none_before rule (x ∷ xs) =
    let n = prefix_len (is_other rule) xs in
    let more : 1 + n ≡ suc n = omega arith in
    elim (is_am rule x) as (λ b. is_am rule x ≡ b
    → list_any (is_am rule) (take (cond (not b) (1 + n) 0) (x ∷ xs)) ≡ false) [
      | true ↦ λ e. refl
      | false ↦ λ e. ap (λ k. list_any (is_am rule) (take k (x ∷ xs))) more ∙ search (arith, none_before rule xs)
    ] refl

none_behind : {X : Type 0} (rule : SaraAmRule X) (xs : List X)
    → list_any (is_am rule) (last_stretch (is_other rule) xs) ≡ false
none_behind rule xs = from_end (λ ys. list_any (is_am rule) (last_stretch (is_other rule) ys) ≡ false) refl
    (λ ys y h. elim (is_am rule y) as (λ b. is_am rule y ≡ b → list_any (is_am rule) (last_stretch (is_other rule) (ys ++ y ∷ [])) ≡ false) [
      | true ↦ λ e. search (arith, last_run_no)
      | false ↦ λ e. search (arith, last_run_yes, list_any-append)
    ] refl) xs

-- others at the end stay
in_two_behind : {X : Type 0} (rule : SaraAmRule X) (xs ys : List X) → list_any (is_am rule) ys ≡ false
    → in_two rule (xs ++ ys) ≡ in_two rule xs ++ ys
in_two_behind rule xs [] none = search (arith, append-nil)
in_two_behind rule xs (y ∷ ys) none =
    let parts = or_parts _ _ none in
    search (arith, append_assoc, in_two_push, in_two_behind rule (xs ++ y ∷ []) ys parts.1)

-- and merge nothing
stretches_behind_after : (level : BufferClusterLevel) (before us vs : List ℕ) → list_any is_sara_am vs ≡ false
    → stretches_of_each level (each_after before (us ++ vs)) ≡ stretches_of_each level (each_after before us)
stretches_behind_after level before [] vs none = stretches_none_after level before vs none
stretches_behind_after level before (u ∷ us) vs none =
    search (arith, stretches_behind_after level (before ++ u ∷ []) us vs none)

-- the only SARA AM stands right before the last others
pub record BeforeOnly {X : Type 0} (rule : SaraAmRule X) (xs : List X) (end : ℕ) : Type 0 where
  pub some : 0 < end
  pub none : list_any (is_am rule) (take (end - 1) xs) ≡ false

before_only_push : {X : Type 0} (rule : SaraAmRule X) (xs : List X) (y : X)
    → (count_by (is_am rule) xs ≡ 1 → BeforeOnly rule xs (length xs - suffix_len (is_other rule) xs))
    → count_by (is_am rule) (xs ++ y ∷ []) ≡ 1
    → BeforeOnly rule (xs ++ y ∷ []) (length (xs ++ y ∷ []) - suffix_len (is_other rule) (xs ++ y ∷ []))
before_only_push rule xs y before one =
    let long = length_push xs y in
    let end = length (xs ++ y ∷ []) - suffix_len (is_other rule) (xs ++ y ∷ []) in
    elim (is_am rule y) as (λ b. is_am rule y ≡ b → BeforeOnly rule (xs ++ y ∷ []) end) [
      | true ↦ λ e.
          let none : count_by (is_am rule) xs ≡ 0 = omega (arith, one, count_push (is_am rule) xs y true e) in
          let at : end ≡ length xs + 1 = omega (arith, long, suffix_len_no (is_other rule) xs y (ap not e)) in
          record {
            some = omega arith;
            none = ap (λ n. list_any (is_am rule) (take n (xs ++ y ∷ []))) (omega (arith, at))
                ∙ ap (list_any (is_am rule)) (take_at xs (y ∷ []) (length xs) refl) ∙ none_from_count (is_am rule) xs none;
          }
      | false ↦ λ e.
          let b = before (omega (arith, one, count_push (is_am rule) xs y false e)) in
          let n = length xs - suffix_len (is_other rule) xs in
          let at : end ≡ n = omega (arith, long, suffix_len_yes (is_other rule) xs y (ap not e)) in
          record {
            some = omega (arith, at, b.some);
            none = ap (λ k. list_any (is_am rule) (take (k - 1) (xs ++ y ∷ []))) at
                ∙ ap (list_any (is_am rule)) (take-append-le (n - 1) xs (y ∷ []) (omega arith)) ∙ b.none;
          }
    ] refl

pub before_only : {X : Type 0} (rule : SaraAmRule X) (xs : List X) → count_by (is_am rule) xs ≡ 1
    → BeforeOnly rule xs (length xs - suffix_len (is_other rule) xs)
before_only rule xs = from_end (λ ys. count_by (is_am rule) ys ≡ 1
    → BeforeOnly rule ys (length ys - suffix_len (is_other rule) ys)) (λ one. absurd (omega arith))
    (before_only_push rule) xs

-- among the first others of a front is none
pub none_in_front_of : {X : Type 0} (rule : SaraAmRule X) (xs : List X) (first end : ℕ) → first ≤ end
    → first ≡ prefix_len (is_other rule) (take end xs) → list_any (is_am rule) (take first xs) ≡ false
none_in_front_of rule xs first end le is =
    ap (list_any (is_am rule)) (sym (take-take first end xs le) ∙ ap (λ n. take n (take end xs)) is)
    ∙ none_before rule (take end xs)

-- so the walk may begin behind the first others
pub merging_first : (level : BufferClusterLevel) (gs : Glyphs) (len first : ℕ) → first ≤ len
    → list_any (is_am glyph_rule) (take first gs) ≡ false → Merging level gs gs len first
merging_first level gs len first le none =
    let front = take first gs in
    let same : take first (take len (characters gs)) ≡ characters front =
    take-take first len (characters gs) le ∙ take-map (λ g. g.glyph_id) first gs in
    let none : list_any is_sara_am (characters front) ≡ false =
    list_any-map is_sara_am (λ g. g.glyph_id) front ∙ none in
    record {
      same_characters = refl;
      merged = ap (λ sts. merge_all level sts gs)
          (sym (ap (sara_am_stretches level) same ∙ stretches_none_after level [] (characters front) none));
    }

-- the last others of the first len: from `end` on
pub record OthersFrom (gs : Glyphs) (len end : ℕ) : Type 0 where
  pub before : end ≤ len
  pub within : len ≤ length gs
  pub none : list_any (is_am glyph_rule) (drop end (take len gs)) ≡ false

pub others_counted : (gs : Glyphs) (len count : ℕ) → len ≤ length gs
    → count ≡ suffix_len (is_other glyph_rule) (take len gs) → OthersFrom gs len (len - count)
others_counted gs len count within is =
    let xs = take len gs in
    let long : length xs ≡ len = length-take-le len gs within in
    record {
      before = omega arith;
      within = within;
      none = ap (λ n. list_any (is_am glyph_rule) (drop n xs)) (omega (arith, is, long)) ∙ none_behind glyph_rule xs;
    }

characters_behind : (gs : Glyphs) (len end : ℕ)
    → list_any is_sara_am (drop end (take len (characters gs))) ≡ list_any (is_am glyph_rule) (drop end (take len gs))
characters_behind gs len end =
    ap (λ us. list_any is_sara_am (drop end us)) (take-map (λ g. g.glyph_id) len gs)
    ∙ ap (list_any is_sara_am) (drop-map (λ g. g.glyph_id) end (take len gs))
    ∙ list_any-map is_sara_am (λ g. g.glyph_id) (drop end (take len gs))

others_merge_nothing : (level : BufferClusterLevel) (gs : Glyphs) (len end : ℕ) → OthersFrom gs len end
    → merged_front level end gs ≡ merged_front level len gs
others_merge_nothing level gs len end o =
    let us = characters gs in
    let parts : take end us ++ drop end (take len us) ≡ take len us =
    ap (λ xs. xs ++ drop end (take len us)) (sym (take-take end len us o.before)) ∙ take-append-drop end (take len us) in
    ap (λ sts. merge_all level sts gs)
    (sym (stretches_behind_after level [] (take end us) (drop end (take len us)) (characters_behind gs len end ∙ o.none))
    ∙ ap (sara_am_stretches level) parts)

-- merging leaves them
others_stay : (level : BufferClusterLevel) (gs : Glyphs) (len end : ℕ) → OthersFrom gs len end
    → OthersFrom (merged_front level len gs) len end
others_stay level gs len end o =
    let now = merged_front level len gs in
    let same : characters now ≡ characters gs = characters-merge_all level (sara_am_stretches level (take len (characters gs))) gs in
    record {
      before = o.before;
      within = search (arith, length-map, o.within);
      none = sym (characters_behind now len end) ∙ ap (λ us. list_any is_sara_am (drop end (take len us))) same
          ∙ characters_behind gs len end ∙ o.none;
    }

-- so the text in two is that before them in two, and then they
in_two_with_others : (gs : Glyphs) (len end : ℕ) → OthersFrom gs len end
    → glyphs_in_two (take len gs) ≡ glyphs_in_two (take end gs) ++ drop end (take len gs)
in_two_with_others gs len end o =
    ap glyphs_in_two (sym (take-append-drop end (take len gs)) ∙ ap (λ xs. xs ++ drop end (take len gs)) (take-take end len gs o.before))
    ∙ in_two_behind glyph_rule (take end gs) (drop end (take len gs)) o.none

part_of_front : {X : Type 0} (xs : List X) (end len : ℕ) → end ≤ len → len ≤ length xs
    → drop end (take len xs) ≡ take (len - end) (drop end xs)
part_of_front xs end len le within =
    let sum : end + (len - end) ≡ len = omega arith in
    ap (λ n. drop end (take n xs)) (sym sum) ∙ ap (drop end) (take-add end (len - end) xs)
    ∙ drop_at (take end xs) (take (len - end) (drop end xs)) end (length-take-le end xs (omega arith))

-- the glyphs, merged as far as `end`, with the others copied to the end of the room
pub record OthersMoved (level : BufferClusterLevel) (gs moved : Glyphs) (len end place : ℕ) : Type 0 where
  pub front : take end (take place moved) ≡ take end (merged_front level len gs)
  pub rest : drop place moved ≡ drop end (take len (merged_front level len gs))
  pub room : place ≡ length (glyphs_in_two (take end (take place moved)))

pub others_moved : (level : BufferClusterLevel) (gs now moved : Glyphs) (len end place : ℕ)
    → HasRoomForSaraAms len gs → OthersFrom gs len end → now ≡ merged_front level end gs
    → place ≡ end + (length gs - len) → moved ≡ copy_within now end len place
    → OthersMoved level gs moved len end place
others_moved level gs now moved len end place room o merged at copied =
    let all = merged_front level len gs in
    let same : now ≡ all = merged ∙ others_merge_nothing level gs len end o in
    let part = take (len - end) (drop end all) in
    let behind = drop (place + (len - end)) all in
    let copy : moved ≡ take place all ++ (part ++ behind) =
    copied ∙ ap (λ xs. copy_within xs end len place) same ∙ append_assoc (take place all) part behind in
    let stay = room_stays level len gs room in
    let others = others_stay level gs len end o in
    let long : length all ≡ length gs = search (arith, length-map, characters-merge_all) in
    let before : length (take place all) ≡ place = length-take-le place all (omega (arith, o.before, o.within)) in
    let front : take end (take place moved) ≡ take end all =
    ap (λ xs. take end (take place xs)) copy ∙ ap (take end) (take_at (take place all) (part ++ behind) place before)
    ∙ take-take end place all (omega arith) in
    let whole = in_two_with_others all len end others in
    let many : length part ≡ len - end =
    length-take-le (len - end) (drop end all) (omega (arith, o.before, o.within, length-drop end all)) in
    record {
      front = front;
      rest = ap (drop place) copy ∙ drop_at (take place all) (part ++ behind) place before
          ∙ ap (λ xs. part ++ xs) (drop_all (place + (len - end)) all (omega (arith, o.before, o.within)))
          ∙ append-nil part ∙ sym (part_of_front all end len o.before stay.0);
      room = omega (
        arith,
        o.before,
        o.within,
        stay.1,
        ap length whole,
        length-append (glyphs_in_two (take end all)) (drop end (take len all)),
        ap length (part_of_front all end len o.before stay.0),
        many,
        ap (λ xs. length (glyphs_in_two xs)) front,
      );
    }

pub others_written : (level : BufferClusterLevel) (gs moved : Glyphs) (len end place : ℕ) → OthersFrom gs len end
    → OthersMoved level gs moved len end place
    → glyphs_in_two (take end (take place moved)) ++ drop place moved ≡ glyphs_in_two (take len (merged_front level len gs))
others_written level gs moved len end place o m =
    ap (λ xs. glyphs_in_two xs ++ drop place moved) m.front
    ∙ ap (λ xs. glyphs_in_two (take end (merged_front level len gs)) ++ xs) m.rest
    ∙ sym (in_two_with_others (merged_front level len gs) len end (others_stay level gs len end o))
