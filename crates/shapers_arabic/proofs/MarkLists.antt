-- What the moves make of a list of marks, given by its five parts.
use Rattle.std.proofs.Common.{◌≡◌, ℕ, ◌+◌, ◌-◌, [], ◌++◌, map, length, take, drop, refl, ap, sym, ◌∙◌, arith, append_assoc, length-append, Bool, false, suc, ◌∷◌, ◌≤◌}
use Rattle.std.specs.List.{range_with_len, prefix_len, list_any}
use Rattle.std.proofs.lemmas.List.{length-map, take_at, drop_at, take-append-drop, append-nil, drop-drop}
use borrow.Rule.Slice.PartMut.{put_mid}
use Rattle.shapers_buffer.specs.Glyphs.{Glyph, Glyphs}
use Rattle.shapers_buffer.specs.declared.buffer.modified_combining_class.TheConstants.{CCC22, CCC26}
use Rattle.shapers_buffer.specs.Places.{pick}
use Rattle.shapers_clusters.proofs.Picks.{pick-append, pick-range}
use Rattle.shapers_arabic.specs.MarkParts.{last_marks_first, is_modifier}
use Rattle.shapers_arabic.specs.Marks.{Marks, split_marks, behind, has_lower_class, is_modifier_of, in_class, with_modifiers_first, places_moved, passed, marks_merged, marks_reordered}
use Rattle.std.proofs.lemmas.Bool.{or_parts}
use Rattle.shapers_buffer.specs.declared.buffer.level.BufferClusterLevel.{BufferClusterLevel}
use Rattle.shapers_buffer.specs.Clusters.{stretch_of}

-- the five parts in their old order, and in the new one with the classes as they were
abbrev pub joined_parts : Marks → Glyphs
joined_parts s = s.low ++ (s.modifiers_below ++ (s.middle ++ (s.modifiers_above ++ s.rest)))

abbrev pub parts_moved : Marks → Glyphs
parts_moved s = s.modifiers_below ++ (s.modifiers_above ++ (s.low ++ (s.middle ++ s.rest)))

-- the parts are the marks
pub split-joined : (gs : Glyphs) → joined_parts (split_marks gs) ≡ gs
split-joined = search (arith, take-append-drop)

last_first-parts : (k class : ℕ) (front back : Glyphs) → length back ≡ k
    → last_marks_first k class (front ++ back) ≡ map (in_class class) back ++ front
last_first-parts = search (arith, drop_at, length-append, take_at)

-- two moves, of the second part over the first, and of the fourth over the first and third
pub two_moves : (s : Marks) (xs one two : Glyphs) (a m b n : ℕ) → a ≡ length s.low
    → m ≡ length s.modifiers_below → b ≡ length s.middle → n ≡ length s.modifiers_above → xs ≡ joined_parts s
    → one ≡ last_marks_first m CCC22 (take (a + m) xs)
    → two ≡ last_marks_first n CCC26 (take (a + m + b + n - m) (drop m (one ++ drop (a + m) xs)))
    → put_mid m (a + m + b + n - m) (one ++ drop (a + m) xs) two ≡ with_modifiers_first s
two_moves s xs one two a m b n ea em eb en h first second =
    let low = s.low in
    let below = s.modifiers_below in
    let middle = s.middle in
    let above = s.modifiers_above in
    let rest = s.rest in
    let behind = middle ++ (above ++ rest) in
    let below' = map (in_class CCC22) below in
    let k = a + m + b + n - m in
    let passed = low ++ (middle ++ above) in
    let an = length-append low below ∙ omega arith in
    let bn = length-map below (in_class CCC22) ∙ sym em in
    let cn = length-append low (middle ++ above) ∙ omega (arith, length-append middle above) in
    search (
      arith,
      append_assoc low below behind,
      take_at,
      last_first-parts m CCC22 low below (sym em),
      drop_at (low ++ below) behind (a + m) an,
      append_assoc below' low behind,
      append_assoc low (middle ++ above) rest,
      append_assoc middle above rest,
      take_at below' (passed ++ rest) m bn,
      drop_at below' (passed ++ rest) m bn,
      take_at passed rest k cn,
      append_assoc low middle above,
      last_first-parts n CCC26 (low ++ middle) above (sym en),
      drop_at passed rest k cn,
      append_assoc (map (in_class CCC26) above) (low ++ middle) rest,
      append_assoc low middle rest,
    )

-- what is picked at the places of one part
pick-part : (a k : ℕ) (front part back xs : Glyphs) → length front ≡ a → length part ≡ k
    → xs ≡ front ++ (part ++ back) → pick (range_with_len a k) xs ≡ part
pick-part a k front part back xs ea ek h =
    let long = ap length h ∙ length-append front (part ++ back) in
    search (arith, pick-range a k xs (omega (arith, length-append part back)), drop_at, take_at)

-- the places of the parts bring them into the new order
pub pick-moved : (s : Marks) (xs : Glyphs) → xs ≡ joined_parts s
    → pick (places_moved (length s.low) (length s.modifiers_below) (length s.middle) (length s.modifiers_above)
    (length s.rest)) xs ≡ parts_moved s
pick-moved s xs h =
    let low = s.low in
    let below = s.modifiers_below in
    let middle = s.middle in
    let above = s.modifiers_above in
    let rest = s.rest in
    let a = length low in
    let m = length below in
    let b = length middle in
    let n = length above in
    let c = length rest in
    let h2 =
    h ∙ sym (append_assoc low below (middle ++ (above ++ rest))) in
    let h3 =
    h2 ∙ sym (append_assoc (low ++ below) middle (above ++ rest)) in
    let n2 = length-append low below in
    let n3 = length-append (low ++ below) middle ∙ ap (λ k. k + b) n2
    in
    let r1 = range_with_len (a + m + b) n in
    let r2 = range_with_len 0 a in
    let r3 = range_with_len (a + m) b in
    let r4 = range_with_len (a + m + b + n) c in
    search (
      arith,
      pick-append (range_with_len a m) (r1 ++ (r2 ++ (r3 ++ r4))) xs,
      pick-part a m low below (middle ++ (above ++ rest)) xs refl refl h,
      pick-append r1 (r2 ++ (r3 ++ r4)) xs,
      pick-part,
      pick-append r2 (r3 ++ r4) xs,
      pick-part 0 a [] low (below ++ (middle ++ (above ++ rest))) xs refl refl h,
      pick-append r3 r4 xs,
      pick-part (a + m) b (low ++ below) middle (above ++ rest) xs n2 refl h2,
      pick-part (a + m + b + n) c (((low ++ below) ++ middle) ++ above) rest [] xs
          (length-append ((low ++ below) ++ middle) above ∙ ap (λ k. k + n) n3) refl
          (h3 ∙ sym (append_assoc ((low ++ below) ++ middle) above rest) ∙ ap (λ zs. (((low ++ below) ++ middle) ++
          above) ++ zs) (sym (append-nil rest))),
    )

-- MARKS OF WHICH NONE MODIFIES A LETTER: nothing merges, and all stay
none-behind : (n : ℕ) (gs : Glyphs) → list_any is_modifier gs ≡ false → list_any is_modifier (drop n gs) ≡ false
none-behind (suc n) (g ∷ gs) h = none-behind n gs (or_parts (is_modifier g) (list_any is_modifier gs) h).1
none-behind _ _ h = h

front-none : (test : Glyph → Bool) (gs : Glyphs) → ((g : Glyph) → is_modifier g ≡ false → test g ≡ false)
    → list_any is_modifier gs ≡ false → prefix_len test gs ≡ 0
front-none test [] fails h = refl
front-none test (g ∷ gs) fails h = search (arith, or_parts, refl)

not_above : (g : Glyph) → is_modifier g ≡ false → is_modifier_of 230 g ≡ false
not_above g h = (or_parts (is_modifier_of 220 g) (is_modifier_of 230 g) h).1

-- so the second and the fourth part are empty
record NoModifiers (gs : Glyphs) : Type 0 where
  below : prefix_len (is_modifier_of 220) (behind (has_lower_class 220) gs) ≡ 0
  above : prefix_len (is_modifier_of 230)
      (behind (has_lower_class 230) (behind (is_modifier_of 220) (behind (has_lower_class 220) gs))) ≡ 0

no_modifiers : (gs : Glyphs) → list_any is_modifier gs ≡ false → NoModifiers gs
no_modifiers gs h =
    let second = behind (has_lower_class 220) gs in
    let third = behind (is_modifier_of 220) second in
    let in_second = none-behind (prefix_len (has_lower_class 220) gs) gs h in
    let in_fourth = none-behind (prefix_len (has_lower_class 230) third) third
    (none-behind (prefix_len (is_modifier_of 220) second) second in_second) in
    search (arith, front-none (is_modifier_of 230) (behind (has_lower_class 230) third) not_above in_fourth)

-- a stretch that stays leaves the whole
stretch-still : (s e : ℕ) (gs : Glyphs) → s ≤ e → take s gs ++ (stretch_of s e gs ++ drop e gs) ≡ gs
stretch-still s e gs = search (arith, drop-drop (e - s) s gs, take-append-drop, take-append-drop s gs)

pub unmodified : (level : BufferClusterLevel) (s e : ℕ) (gs : Glyphs) → s ≤ e
    → list_any is_modifier (stretch_of s e gs) ≡ false → marks_reordered s e (marks_merged level s e gs) ≡ gs
unmodified = search (arith, take-append-drop, refl, no_modifiers, stretch-still)
