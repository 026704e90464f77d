-- Glyphs that are moved with those that they are attached to, as far as a loop has come.
use Rattle.std.proofs.Common.{ℕ, zero, suc, ◌+◌, ◌-◌, ◌*◌, ◌/◌, ◌%◌, ◌<◌, ◌≤◌, ◌≡◌, ◌==◌, nat_eq, Bool, true, false, List, [], ◌∷◌, ◌++◌, length, take, slice_index_or, slice_set, IfSome, Option, None, Some, refl, sym, ap, ◌∙◌, arith}
use Rattle.std.proofs.lemmas.Bool.Decides.{nat_tests}
use Rattle.std.proofs.lemmas.Grind.{common_steps}
use Rattle.std.proofs.lemmas.List.{get_or-set_other, get_or-set_same, set-get_or}
use Rattle.shapers_buffer.specs.Glyph.{default_position}
use Rattle.shapers_buffer.specs.declared.buffer.glyph.GlyphPosition.{GlyphPosition}
use Rattle.shapers_buffer.specs.declared.buffer.level.Direction.{Direction}
use Rattle.opentype_gpos.specs.Finished.{drawn_place, finished_from, chain_followed, is_backward, let_go, link_at, pen_along, pen_behind, placed_on, attached_moved, target_in}
use Rattle.opentype_gpos.specs.Moved.{Positions, detached, position_at}
use Rattle.opentype_gpos.specs.declared.finish.Attachment.{Attachment}

-- ---- the pen
pub record IsPen (ps : Positions) (start end : ℕ) (i : ℕ) (pen : GlyphPosition) : Type 0 where
  pub rest : pen_along (end - start) ps start default_position ≡ pen_along (end - i) ps i pen

pen_step : (n : ℕ) (ps : Positions) (at : ℕ) (pen : GlyphPosition) →
    pen_along (suc n) ps at pen ≡ pen_along n ps (at + 1) (pen_behind pen (position_at ps at))
unfolding pen_along
pen_step n ps at pen = refl

pen_none : (ps : Positions) (at : ℕ) (pen : GlyphPosition) → pen_along 0 ps at pen ≡ pen
unfolding pen_along
pen_none ps at pen = refl

pub pen_next : (ps : Positions) (start end i : ℕ) (pen new : GlyphPosition) → IsPen ps start end i pen →
    i < end → new ≡ pen_behind pen (position_at ps i) → IsPen ps start end (i + 1) new
pen_next ps start end i pen new is lt e =
    let n : end - i ≡ suc (end - (i + 1)) = omega arith in
    record {
      rest = rw n at is.rest ∙ pen_step (end - (i + 1)) ps i pen
          ∙ ap (λ p. pen_along (end - (i + 1)) ps (i + 1) p) (sym e);
    }

pub pen_all : (ps : Positions) (start end i : ℕ) (pen : GlyphPosition) → IsPen ps start end i pen →
    end ≤ i → pen ≡ pen_along (end - start) ps start default_position
pen_all ps start end i pen is le =
    let n : end - i ≡ 0 = omega arith in sym (rw n at is.rest ∙ pen_none ps i pen)

-- ---- attachments in a row
settled_more : (d : Direction) (links : List Attachment) (link : Attachment) (ps : Positions) →
    attached_moved d (links ++ link ∷ []) ps ≡ attached_moved d links (placed_on d link ps)
unfolding attached_moved
settled_more d [] link ps = refl
settled_more d (l ∷ links) link ps = ap (placed_on d l) (settled_more d links link ps)

follow_some : (n : ℕ) (d : Direction) (ps : Positions) (at : ℕ) (link : Attachment) → link_at ps at ≡ Some link →
    chain_followed (suc n) d ps at ≡ placed_on d link (chain_followed n d (let_go ps at) link.to)
unfolding chain_followed
follow_some n d ps at link e = rw e refl

follow_none : (n : ℕ) (d : Direction) (ps : Positions) (at : ℕ) → link_at ps at ≡ None →
    chain_followed (suc n) d ps at ≡ let_go ps at
unfolding chain_followed
follow_none n d ps at e = rw e refl

follow_zero : (d : Direction) (ps : Positions) (at : ℕ) → chain_followed 0 d ps at ≡ let_go ps at
unfolding chain_followed
follow_zero d ps at = refl

pub record IsClimbed (old : Positions) (start : ℕ) (i : ℕ) (links : List Attachment) (ps : Positions) (at : ℕ) :
    Type 0 where
  pub number : length links ≡ i
  pub inside : at < length ps
  pub rest : (d : Direction) → attached_moved d links (chain_followed (64 - i) d ps at) ≡ chain_followed 64 d old start

pub climbed_start : (old : Positions) (start : ℕ) → start < length old → IsClimbed old start 0 [] old start
unfolding attached_moved
climbed_start old start lt = record { number = refl; inside = lt; rest = λ d. refl }

let_go_length : (ps : Positions) (at : ℕ) → length (let_go ps at) ≡ length ps
unfolding let_go
let_go_length ps at = grind (arith, common_steps)

below : (o : Option Attachment) (link : Attachment) (n : ℕ) → IfSome o (λ l. l.to < n) → o ≡ Some link →
    link.to < n
below o link n w e = rw e at w

pub climbed_next : (old : Positions) (start i : ℕ) (links : List Attachment) (ps : Positions) (at : ℕ)
    (found : Option Attachment) (link : Attachment) (new : Positions) → IsClimbed old start i links ps at →
    i < 64 → found ≡ link_at ps at → IfSome found (λ l. l.to < length ps) → found ≡ Some link →
    new ≡ let_go ps at → IsClimbed old start (i + 1) (links ++ link ∷ []) new link.to
climbed_next old start i links ps at found link new is lt there within some e =
    let n : 64 - i ≡ suc (64 - (i + 1)) = omega arith in
    let num : length links ≡ i = is.number in
    let same : length new ≡ length ps = ap length e ∙ let_go_length ps at in
    let inside : link.to < length ps = below found link (length ps) within some in
    record {
      number = grind (arith, common_steps, num);
      inside = rw (sym same) at inside;
      rest = λ d.
          settled_more d links link (chain_followed (64 - (i + 1)) d new link.to)
          ∙ ap (λ p. attached_moved d links (placed_on d link (chain_followed (64 - (i + 1)) d p link.to))) e
          ∙ ap (attached_moved d links) (sym (follow_some (64 - (i + 1)) d ps at link (sym there ∙ some)))
          ∙ rw n at is.rest d;
    }

pub climbed_end : (old : Positions) (start i : ℕ) (links : List Attachment) (ps : Positions) (at : ℕ)
    (found : Option Attachment) (new : Positions) → IsClimbed old start i links ps at → i < 64 →
    found ≡ link_at ps at → found ≡ None → new ≡ let_go ps at →
    (d : Direction) → attached_moved d links new ≡ chain_followed 64 d old start
climbed_end old start i links ps at found new is lt there none e d =
    let n : 64 - i ≡ suc (64 - (i + 1)) = omega arith in
    ap (attached_moved d links) (e ∙ sym (follow_none (64 - (i + 1)) d ps at (sym there ∙ none))) ∙ rw n at is.rest d

pub climbed_all : (old : Positions) (start i : ℕ) (links : List Attachment) (ps : Positions) (at : ℕ)
    (new : Positions) → IsClimbed old start i links ps at → 64 ≤ i → new ≡ let_go ps at →
    (d : Direction) → attached_moved d links new ≡ chain_followed 64 d old start
climbed_all old start i links ps at new is le e d =
    let n : 64 - i ≡ 0 = omega arith in
    ap (attached_moved d links) (e ∙ sym (follow_zero d ps at)) ∙ rw n at is.rest d

-- ---- and moved, the last one first
pub record IsSettling (d : Direction) (links : List Attachment) (old : Positions) (i : ℕ) (ps : Positions) :
    Type 0 where
  pub rest : attached_moved d (take (length links - i) links) ps ≡ attached_moved d links old

settled_take : (d : Direction) (links : List Attachment) (ps : Positions) (k : ℕ) (link : Attachment) → k < length links →
    link ≡ slice_index_or links k link →
    attached_moved d (take (suc k) links) ps ≡ attached_moved d (take k links) (placed_on d link ps)
unfolding attached_moved
settled_take d [] ps k link lt e = absurd (omega arith)
settled_take d (l ∷ links) ps zero link lt e = ap (λ x. placed_on d x ps) (sym e)
settled_take d (l ∷ links) ps (suc k) link lt e =
    ap (placed_on d l) (settled_take d links ps k link (omega arith) e)

take_none : (d : Direction) (links : List Attachment) (ps : Positions) → attached_moved d (take 0 links) ps ≡ ps
unfolding attached_moved
take_none d links ps = refl

pub settling_start : (d : Direction) (links : List Attachment) (old : Positions) → IsSettling d links old 0 old
settling_start d links old =
    let n : length links - 0 ≡ length links = omega arith in
    record { rest = rw n (ap (λ ls. attached_moved d ls old) (grind (arith, common_steps))) }

pub settling_next : (d : Direction) (links : List Attachment) (old : Positions) (i : ℕ) (ps : Positions) (link : Attachment)
    (new : Positions) → IsSettling d links old i ps → i < length links →
    link ≡ slice_index_or links (length links - 1 - i) link → new ≡ placed_on d link ps →
    IsSettling d links old (i + 1) new
settling_next d links old i ps link new is lt e done =
    let n : length links - i ≡ suc (length links - (i + 1)) = omega arith in
    let k : length links - 1 - i ≡ length links - (i + 1) = omega arith in
    record {
      rest = ap (attached_moved d (take (length links - (i + 1)) links)) done
          ∙ sym (settled_take d links ps (length links - (i + 1)) link (omega arith) (rw k at e))
          ∙ rw n at is.rest;
    }

pub settling_all : (d : Direction) (links : List Attachment) (old : Positions) (i : ℕ) (ps : Positions) →
    IsSettling d links old i ps → length links ≤ i → ps ≡ attached_moved d links old
settling_all d links old i ps is le =
    let n : length links - i ≡ 0 = omega arith in sym (take_none d links ps) ∙ rw n at is.rest

-- ---- a glyph that is attached to none, and one attached to such a glyph
no_target : (var at len : ℕ) → var % 65536 ≡ 0 → target_in var at len ≡ None
unfolding target_in
no_target var at len e = rw e refl

loose_link : (ps : Positions) (at : ℕ) → (position_at ps at).var % 65536 ≡ 0 → link_at ps at ≡ None
unfolding link_at
loose_link ps at e = rw (no_target (position_at ps at).var at (length ps) e) refl

with_var : (p : GlyphPosition) (var : ℕ) → var ≡ p.var → (let r : GlyphPosition = record p { var = var } in r) ≡ p
with_var p var e = rw e refl

pub loose_let_go : (ps : Positions) (at : ℕ) → (position_at ps at).var % 65536 ≡ 0 → let_go ps at ≡ ps
unfolding let_go
loose_let_go ps at e =
    let v : ℕ = (position_at ps at).var in
    let same : v / 65536 * 65536 ≡ v = omega (arith, e) in
    ap (slice_set ps at) (with_var (position_at ps at) _ same) ∙ set-get_or ps at default_position

loose_followed : (n : ℕ) (d : Direction) (ps : Positions) (at : ℕ) → (position_at ps at).var % 65536 ≡ 0 →
    chain_followed n d ps at ≡ ps
loose_followed zero d ps at e = follow_zero d ps at ∙ loose_let_go ps at e
loose_followed (suc n) d ps at e = follow_none n d ps at (loose_link ps at e) ∙ loose_let_go ps at e

pub unattached : (d : Direction) (ps : Positions) (at : ℕ) → ((position_at ps at).var % 65536 == 0) ≡ true →
    ps ≡ chain_followed 64 d ps at
unattached d ps at e = sym (loose_followed 64 d ps at (grind (arith, nat_tests, e)))

let_go_keeps : (ps : Positions) (at to : ℕ) (same : Bool) → same ≡ nat_eq to at → at < length ps →
    (position_at ps to).var % 65536 ≡ 0 → (position_at (let_go ps at) to).var % 65536 ≡ 0
unfolding let_go
let_go_keeps ps at to true e lt loose =
    let here : to ≡ at = grind (arith, e) in
    let v : ℕ = (position_at ps at).var in
    let is : position_at (slice_set ps at (detached (position_at ps at))) at ≡ detached (position_at ps at) =
    get_or-set_same ps at (detached (position_at ps at)) default_position lt in
    ap (λ (i : ℕ). (position_at (slice_set ps at (detached (position_at ps at))) i).var % 65536) here
    ∙ ap (λ (q : GlyphPosition). q.var % 65536) is ∙ omega arith
let_go_keeps ps at to false e lt loose =
    let there : position_at (slice_set ps at (detached (position_at ps at))) to ≡ position_at ps to =
    get_or-set_other ps at to (detached (position_at ps at)) default_position (grind (arith, e)) in
    ap (λ (q : GlyphPosition). q.var % 65536) there ∙ loose

pub one_link : (d : Direction) (ps : Positions) (at : ℕ) (found : Option Attachment) (link : Attachment)
    (mid new : Positions) → at < length ps → found ≡ link_at ps at → found ≡ Some link →
    ((position_at ps link.to).var % 65536 == 0) ≡ true → mid ≡ let_go ps at → new ≡ placed_on d link mid →
    new ≡ chain_followed 64 d ps at
one_link d ps at found link mid new lt there some loose gone done =
    let free : (position_at (let_go ps at) link.to).var % 65536 ≡ 0 =
    let_go_keeps ps at link.to (nat_eq link.to at) refl lt (grind (arith, nat_tests, loose)) in
    done ∙ ap (placed_on d link) (gone ∙ sym (loose_followed 63 d (let_go ps at) link.to free))
    ∙ sym (follow_some 63 d ps at link (sym there ∙ some))

-- ---- all glyphs
pub record IsFinishing (d : Direction) (old : Positions) (i : ℕ) (ps : Positions) : Type 0 where
  pub rest : finished_from (length old) d old 0 ≡ finished_from (length old - i) d ps i

finish_step : (n : ℕ) (d : Direction) (ps : Positions) (i : ℕ) → finished_from (suc n) d ps i
    ≡ finished_from n d (chain_followed 64 d ps (drawn_place (is_backward d) (length ps) i)) (i + 1)
unfolding finished_from
finish_step n d ps i = refl

finish_none : (d : Direction) (ps : Positions) (i : ℕ) → finished_from 0 d ps i ≡ ps
unfolding finished_from
finish_none d ps i = refl

pub finishing_start : (d : Direction) (old : Positions) → IsFinishing d old 0 old
finishing_start d old = let n : length old - 0 ≡ length old = omega arith in record { rest = rw n refl }

pub finishing_next : (d : Direction) (old : Positions) (i : ℕ) (ps new : Positions) (at : ℕ) →
    IsFinishing d old i ps → i < length old → at ≡ drawn_place (is_backward d) (length ps) i →
    new ≡ chain_followed 64 d ps at → IsFinishing d old (i + 1) new
finishing_next d old i ps new at is lt place done =
    let n : length old - i ≡ suc (length old - (i + 1)) = omega arith in
    record {
      rest = rw n at is.rest ∙ finish_step (length old - (i + 1)) d ps i
          ∙ ap (λ p. finished_from (length old - (i + 1)) d (chain_followed 64 d ps p) (i + 1)) (sym place)
          ∙ ap (λ p. finished_from (length old - (i + 1)) d p (i + 1)) (sym done);
    }

pub finishing_all : (d : Direction) (old : Positions) (i : ℕ) (ps : Positions) → IsFinishing d old i ps →
    length old ≤ i → ps ≡ finished_from (length old) d old 0
finishing_all d old i ps is le =
    let n : length old - i ≡ 0 = omega arith in sym (rw n at is.rest ∙ finish_none d ps i)
