-- Lists with a gap, which a walk that takes glyphs out leaves behind it.
use Rattle.std.proofs.Common.{◌≡◌, ◌+◌, ◌-◌, ◌<◌, ◌≤◌, ℕ, suc, [], ◌∷◌, ◌++◌, length, take, drop, get_or, set, refl, sym, ap, ◌∙◌, arith, append_assoc, drop-cons}
use Rattle.std.proofs.Math.Seq.{drop-append_seam, drop-append-add, take-set-lt}
use Rattle.std.proofs.lemmas.List.{append-nil, drop_all, drop-set-lt, get_or_append_left, get_or-take, length-take-le, set-append_left, take-append-drop, take-append-le, take_more_set, take-take}
use Rattle.shapers_buffer.specs.Glyphs.{Glyph, Glyphs}
use Rattle.shapers_buffer.specs.declared.buffer.level.BufferClusterLevel.{BufferClusterLevel}
use Rattle.shapers_buffer.specs.Glyph.{default_glyph}
use Rattle.shapers_normal.specs.declared.ot_shape_normalize.recomposing.Place.{Place}
use Rattle.shapers_normal.specs.Context.{Context}
use Rattle.shapers_normal.specs.Recomposition.{StarterWalk, next_glyph, recomposed, walk_over, without_place}
use Rattle.shapers_normal.specs.RecompositionWalk.{over_gap, walk_at}

-- reading and writing before the gap
pub get_or-apart : (to from s : ℕ) (gs : Glyphs) → s < to → to ≤ length gs
    → get_or (over_gap to from gs) s default_glyph ≡ get_or gs s default_glyph
get_or-apart to from s gs before within =
    get_or_append_left (take to gs) (drop from gs) default_glyph s (omega (arith, length-take-le to gs within))
    ∙ get_or-take to gs s default_glyph before

pub apart-set : (to from s : ℕ) (gs : Glyphs) (g : Glyph) → s < to → to ≤ from → to ≤ length gs
    → over_gap to from (set gs s g) ≡ set (over_gap to from gs) s g
apart-set to from s gs g before gap within =
    ap (λ xs. xs ++ drop from (set gs s g)) (take-set-lt to gs s g before)
    ∙ ap (λ xs. set (take to gs) s g ++ xs) (drop-set-lt from gs s g (omega arith))
    ∙ sym (set-append_left (take to gs) (drop from gs) s g (omega (arith, length-take-le to gs within)))

-- the glyph behind the gap, written in front of it, and what follows
pub front_written : (to from : ℕ) (gs : Glyphs) → to ≤ from → from < length gs →
    take (to + 1) (take (from + 1) (set gs to (get_or gs from default_glyph)))
    ++ drop (from + 1) (set gs to (get_or gs from default_glyph)) ≡ over_gap to from gs
front_written to from gs gap within =
    let g = get_or gs from default_glyph in
    let next : suc from ≡ from + 1 = omega arith in
    ap (λ xs. xs ++ drop (from + 1) (set gs to g)) (take-take (to + 1) (from + 1) (set gs to g) (omega arith)
    ∙ take_more_set gs to g (omega arith))
    ∙ ap (λ xs. (take to gs ++ g ∷ []) ++ xs) (drop-set-lt (from + 1) gs to g (omega arith))
    ∙ append_assoc (take to gs) (g ∷ []) (drop (from + 1) gs)
    ∙ ap (λ n. take to gs ++ g ∷ drop n gs) (sym next)
    ∙ ap (λ xs. take to gs ++ xs) (sym (drop-cons gs from default_glyph within))

-- what is written over both sides of the gap, without the place that goes
pub gap_wider : (to from : ℕ) (xs gap ys : Glyphs) → to ≤ from → length xs ≡ to + 1
    → length gap ≡ from - to → over_gap to (from + 1) (xs ++ (gap ++ ys)) ≡ without_place to (xs ++ ys)
gap_wider to from xs gap ys order long wide =
    let all : from + 1 ≡ length xs + length gap = omega arith in
    let none : length gap ≡ length gap + 0 = omega arith in
    let front = λ (zs : Glyphs). take-append-le to xs zs (omega arith) in
    ap (λ zs. zs ++ drop (from + 1) (xs ++ (gap ++ ys))) (front (gap ++ ys))
    ∙ ap (λ n. take to xs ++ drop n (xs ++ (gap ++ ys))) all
    ∙ ap (λ zs. take to xs ++ zs) (drop-append-add xs (gap ++ ys) (length gap) ∙ drop-append_seam gap ys)
    ∙ ap (λ zs. take to xs ++ zs) (sym (drop-append_seam xs ys))
    ∙ ap (λ n. take to xs ++ drop n (xs ++ ys)) long
    ∙ ap (λ zs. zs ++ drop (to + 1) (xs ++ ys)) (sym (front ys))

-- the walk so far, and to its end
pub record Recomposing (context : Context) (level : BufferClusterLevel) (old now : Glyphs) (p : Place) :
    Type 0 where
  pub text : (walk_over context level (length now - p.from) (walk_at p now)).glyphs ≡ recomposed context level old
  pub starter : p.starter < p.to
  pub gap : p.to ≤ p.from
  pub within : p.from ≤ length now
  pub same_length : length now ≡ length old

pub recomposing_start : (context : Context) (level : BufferClusterLevel) (gs : Glyphs) → 0 < length gs
    → Recomposing context level gs gs (record { starter = 0; to = 1; from = 1 })
recomposing_start context level gs some = record {
  text = ap (λ xs.
      (walk_over context level (length gs - 1)
      (let w : StarterWalk = record { starter = 0; place = 1; glyphs = xs } in w)).glyphs) (take-append-drop 1 gs);
  starter = omega arith;
  gap = omega arith;
  within = omega arith;
  same_length = refl;
}

pub recomposing_next : (context : Context) (level : BufferClusterLevel) (old now new : Glyphs)
    (p q : Place) → Recomposing context level old now p → p.from < length now → length new ≡ length now
    → walk_at q new ≡ next_glyph context level (walk_at p now) → q.from ≡ p.from + 1 → q.to ≤ q.from → q.starter < q.to
    → Recomposing context level old new q
recomposing_next context level old now new p q r some long next from gap starter =
    let less : length now - p.from ≡ suc (length new - q.from) = omega arith in
    record {
      text =
          ap (λ w. (walk_over context level (length new - q.from) w).glyphs) next
          ∙ sym (ap (λ n. (walk_over context level n (walk_at p now)).glyphs) less)
          ∙ r.text;
      starter = starter;
      gap = gap;
      within = omega arith;
      same_length = long ∙ r.same_length;
    }

pub recomposing_end : (context : Context) (level : BufferClusterLevel) (old now : Glyphs) (p : Place)
    → Recomposing context level old now p → length now ≤ p.from → take p.to now ≡ recomposed context level old
recomposing_end context level old now p r met =
    let none : length now - p.from ≡ 0 = omega arith in
    sym (append-nil (take p.to now))
    ∙ ap (λ xs. take p.to now ++ xs) (sym (drop_all p.from now met))
    ∙ sym (ap (λ n. (walk_over context level n (walk_at p now)).glyphs) none)
    ∙ r.text
