-- The steps of the rewriting, on glyphs.
use Rattle.std.proofs.Common.{◌≡◌, Bool, ℕ, zero, suc, ◌-◌, ◌+◌, ◌<◌, ◌≤◌, true, false, [], ◌∷◌, ◌++◌, length, take, drop, get_or, set, Option, None, Some, refl, sym, ap, ◌∙◌, arith}
use Rattle.std.proofs.lemmas.List.{append_assoc, append-nil, take_more, take-append-drop, take-set-le, drop-set, length-set, length-take-le, length_push, drop_all, take_all}
use Rattle.std.proofs.lemmas.List.Sums.{suffix_len-le-length, suffix_len-take_yes, suffix_len-take_no}
use Rattle.shapers_buffer.specs.Glyphs.{Glyph, Glyphs}
use Rattle.shapers_buffer.proofs.ListLaws.{none_from_count}
use Rattle.shapers_text.specs.Thai.{is_sara_am, is_above_base, nikhahit, sara_aa, glyph_rule, glyphs_in_two}
use Rattle.shapers_text.specs.ThaiWalk.{above_marks_before, IsUnwritten, Written, rewritten_whole, text_to_write}
use Rattle.shapers_text.proofs.ThaiInTwo.{in_two_plain, in_two_push, in_two_push_am, pending_push_mark, lengths}

-- what is read at a place is there whatever stands for none
pub read_there : (gs : Glyphs) (i : ℕ) (none : Glyph) → i < length gs
    → get_or gs i none ≡ get_or gs i (get_or gs i none)
read_there [] i none h = absurd (omega arith)
read_there (g ∷ gs) zero none h = refl
read_there (g ∷ gs) (suc i) none h = read_there gs i none (omega arith)

pub take_pushed : (gs : Glyphs) (e : ℕ) (g : Glyph) → 0 < e → e ≤ length gs
    → g ≡ get_or gs (e - 1) g → take e gs ≡ take (e - 1) gs ++ g ∷ []
take_pushed = search (arith, take_more)

-- what a text becomes is no shorter than it
pub to_write_longer : (xs : Glyphs) (pending : Option Glyph) → length xs ≤ length (text_to_write xs pending)
to_write_longer xs None = omega (arith, (lengths glyph_rule xs).whole)
to_write_longer xs (Some nikhahit) = omega (arith, (lengths glyph_rule xs).pending nikhahit)

-- one more glyph written
pub written_next : (whole gs : Glyphs) (end : ℕ) (pending : Option Glyph) (place end' : ℕ)
    (pending' : Option Glyph) (g : Glyph) → Written whole gs end pending place
    → text_to_write (take end gs) pending ≡ text_to_write (take end' gs) pending' ++ g ∷ [] → end' ≤ end
    → Written whole (set gs (place - 1) g) end' pending' (place - 1)
written_next whole gs end pending place end' pending' g w last shorter =
    let after = text_to_write (take end' gs) pending' in
    let count : length after + 1 ≡ place = search (arith, length_push) in
    let within : end' ≤ length gs = search arith in
    let front : length (take end' gs) ≡ end' = length-take-le end' gs within in
    let longer = to_write_longer (take end' gs) pending' in
    let before : end' ≤ place - 1 = omega arith in
    let kept = take-set-le end' gs (place - 1) g before in
    let written : drop (place - 1) (set gs (place - 1) g) ≡ (g ∷ drop place gs) =
    drop-set gs (place - 1) g (omega (arith, w.left.within)) ∙ ap (λ n. g ∷ drop n gs) (omega arith) in
    record {
      left = record {
        room = ap (λ xs. length (text_to_write xs pending')) kept ∙ omega arith;
        ahead = before;
        within = omega (arith, length-set gs (place - 1) g);
      };
      joined =
          ap (λ xs. text_to_write xs pending' ++ drop (place - 1) (set gs (place - 1) g)) kept
          ∙ ap (λ xs. after ++ xs) written ∙ sym (append_assoc after (g ∷ []) (drop place gs))
          ∙ ap (λ xs. xs ++ drop place gs) (sym last) ∙ w.joined;
    }

-- where a NIKHAHIT is pending, a place is left for it
pub some_place_pending : (gs : Glyphs) (end place : ℕ) (nikhahit : Glyph)
    → IsUnwritten gs end (Some nikhahit) place → end < place
some_place_pending gs end place nikhahit u = omega (
  arith,
  u.room,
  u.ahead,
  (lengths glyph_rule (take end gs)).pending nikhahit,
  length-take-le end gs (omega (arith, u.ahead, u.within)),
)

-- the last glyph is another than SARA AM
pub written_other : (gs : Glyphs) (end place : ℕ) (g : Glyph) → 0 < end
    → IsUnwritten gs end None place → g ≡ get_or gs (end - 1) g → is_sara_am g.glyph_id ≡ false
    → Written (rewritten_whole gs end None place) (set gs (place - 1) g) (end - 1) None (place - 1)
written_other gs end place g some u at fails =
    written_next _ gs end None place (end - 1) None g (search arith)
    (search (arith, take_pushed, in_two_push glyph_rule (take (end - 1) gs) g fails)) (omega arith)

-- it is a SARA AM: its SARA AA is written, and a NIKHAHIT pending
pub written_am : (gs now : Glyphs) (end place : ℕ) (g first second : Glyph) → 0 < end
    → IsUnwritten gs end None place → g ≡ get_or gs (end - 1) g → is_sara_am g.glyph_id ≡ true → first ≡ nikhahit g
    → second ≡ sara_aa g → now ≡ set gs (place - 1) second
    → Written (rewritten_whole gs end None place) now (end - 1) (Some first) (place - 1)
written_am gs now end place g first second some u at passes is_first is_second changed =
    let last = ap (λ xs. text_to_write xs None) (take_pushed gs end g some (omega (arith, u.ahead, u.within)) at)
    ∙ in_two_push_am glyph_rule (take (end - 1) gs) g passes
    ∙ ap (λ n. text_to_write (take (end - 1) gs) (Some n) ++ sara_aa g ∷ []) (sym is_first)
    ∙ ap (λ n. text_to_write (take (end - 1) gs) (Some first) ++ n ∷ []) (sym is_second) in
    search (
      arith,
      written_next _ gs end None place (end - 1) (Some first) second (record { left = u; joined = refl }) last
          (omega arith),
    )

-- the walk over the marks of a SARA AM: so many are left
pub record MarksLeft (whole gs : Glyphs) (end place marks : ℕ) (nikhahit : Glyph) : Type 0 where
  pub written : Written whole gs end (Some nikhahit) place
  pub left : marks ≡ above_marks_before gs end

-- while marks are left, there is text before, and reading stays ahead
pub record SaraAmMarksFit (gs : Glyphs) (end place marks : ℕ) : Type 0 where
  pub few : marks ≤ end
  pub ahead : end < place
  pub within : place ≤ length gs

pub marks_fit : (whole gs : Glyphs) (end place marks : ℕ) (nikhahit : Glyph)
    → MarksLeft whole gs end place marks nikhahit → SaraAmMarksFit gs end place marks
marks_fit = search (arith, suffix_len-le-length, length-take-le, some_place_pending)

pub marks_next : (whole gs : Glyphs) (end place marks : ℕ) (nikhahit g : Glyph) → 0 < marks
    → MarksLeft whole gs end place marks nikhahit → g ≡ get_or gs (end - 1) g
    → MarksLeft whole (set gs (place - 1) g) (end - 1) (place - 1) (marks - 1) nikhahit
marks_next whole gs end place marks nikhahit g some m at =
    let w = m.written in
    let within : end ≤ length gs = omega arith in
    let (mark, count) =
    let test : Glyph → Bool = λ x. is_above_base x.glyph_id in
    let inside : 0 < end = search arith in
    let same = ap test at in elim (test g) as (λ b. test g ≡ b → (b ≡ true) × (above_marks_before gs end ≡ 1 +
    above_marks_before gs (end - 1))) [
      | true ↦ λ e. (
        refl,
        suffix_len-take_yes test gs end g inside within (sym same ∙ e),
      )
      | false ↦ λ e. absurd (omega (arith, suffix_len-take_no test gs end g inside within (sym same ∙ e)))
    ] refl in
    search (
      arith,
      written_next whole gs end (Some nikhahit) place (end - 1) (Some nikhahit) g w
          (ap (λ xs. text_to_write xs (Some nikhahit)) (take_pushed gs end g (omega (
            arith,
            m.left,
            suffix_len-le-length (λ (x : Glyph). is_above_base x.glyph_id) (take end gs),
            length-take-le end gs within,
          )) within at) ∙ pending_push_mark glyph_rule (take (end - 1) gs) g nikhahit mark) (omega arith),
      m.left,
      take-set-le,
    )

pub marks_done : (whole gs : Glyphs) (end place marks : ℕ) (nikhahit : Glyph) → marks ≡ 0
    → MarksLeft whole gs end place marks nikhahit → Written whole (set gs (place - 1) nikhahit) end None (place - 1)
marks_done whole gs end place marks nikhahit none m =
    written_next whole gs end (Some nikhahit) place end None nikhahit m.written
    (search (arith, take_all, drop_all)) (omega arith)

-- where reading and writing meet all is written
pub written_all : (whole gs : Glyphs) (end place : ℕ) → Written whole gs end None place → place ≤ end → gs ≡ whole
written_all whole gs end place w met =
    let front : length (take end gs) ≡ end = length-take-le end gs (search arith) in
    search (
      arith,
      take-append-drop,
      in_two_plain glyph_rule (take end gs)
          (none_from_count (λ (g : Glyph). is_sara_am g.glyph_id) (take end gs) (omega (
            arith,
            w.left.room,
            (lengths glyph_rule (take end gs)).whole,
          ))),
    )

pub written_none : (gs : Glyphs) (len : ℕ) → len ≤ length gs
    → length gs ≡ length (glyphs_in_two (take len gs)) → Written (glyphs_in_two (take len gs)) gs len None (length gs)
written_none = search (arith, drop_all, append-nil)
