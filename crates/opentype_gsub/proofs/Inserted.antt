-- Glyphs that come in one after another, from the last one to the first.
use Rattle.std.proofs.Common.{ℕ, zero, suc, ◌+◌, ◌-◌, ◌<◌, ◌≤◌, ◌≡◌, List, [], ◌∷◌, ◌++◌, take, drop, length, refl, sym, ap, subst, ◌∙◌, arith, length-take, add-one}
use Rattle.std.specs.List.{insert, remove}
use Rattle.std.proofs.Common.{get_or}
use Rattle.std.proofs.Math.Seq.{drop-cons}
use Rattle.std.proofs.Math.Seq.{drop-length}
use Rattle.std.proofs.lemmas.Grind.{common_steps}
use Rattle.std.proofs.lemmas.List.{take_at}
use Rattle.shapers_buffer.specs.Glyphs.{Glyph, Glyphs}
use Rattle.opentype_gsub.specs.Edits.{count_in, multiplied, sequence_glyphs, sequence_glyph, removed_all}
use Rattle.opentype_gsub.specs.Ligated.{ligature_joined, ligated}
use Rattle.shapers_buffer.specs.declared.buffer.level.BufferClusterLevel.{BufferClusterLevel}
use Rattle.opentype_layout.specs.Text.{glyph_at}

-- so far: the last parts, from number k on, stand between the text before and the text behind
pub record ArePut (gdef sequence : List ℕ) (g : Glyph) (count at k : ℕ) (old new : Glyphs) : Type 0 where
  pub among : at < length old
  pub few : k ≤ count
  pub put : new ≡ take at old ++ (sequence_glyphs (count - k) gdef sequence g k ++ drop (at + 1) old)

drop_front : {X : Type 0} (xs ys : List X) (n : ℕ) → length xs ≡ n → drop n (xs ++ ys) ≡ ys
drop_front xs ys n e = grind (arith, common_steps)

one_more : (gdef sequence : List ℕ) (g : Glyph) (n k : ℕ) → sequence_glyphs (suc n) gdef sequence g k
    ≡ sequence_glyph gdef sequence g k ∷ sequence_glyphs n gdef sequence g (k + 1)
unfolding sequence_glyphs
one_more gdef sequence g n k = refl

none : (gdef sequence : List ℕ) (g : Glyph) (k : ℕ) → sequence_glyphs 0 gdef sequence g k ≡ []
unfolding sequence_glyphs
none gdef sequence g k = refl

pub put_start : (gdef sequence : List ℕ) (g : Glyph) (count at : ℕ) (old new : Glyphs) → at < length old →
    new ≡ take at old ++ drop (suc at) old → ArePut gdef sequence g count at count old new
put_start gdef sequence g count at old new lt is = record {
  among = lt;
  few = omega arith;
  put = (let z : count - count ≡ 0 = omega arith in
      rw (z, none gdef sequence g count, add-one) (is));
}

pub put_next : (gdef sequence : List ℕ) (g : Glyph) (count at k : ℕ) (old new : Glyphs) →
    ArePut gdef sequence g count at (k + 1) old new →
    ArePut gdef sequence g count at k old (insert new at (sequence_glyph gdef sequence g k))
put_next gdef sequence g count at k old new p =
    let parts = sequence_glyphs (count - (k + 1)) gdef sequence g (k + 1) in
    let lt : at < length old = p.among in
    let len : length (take at old) ≡ at = omega (arith, length-take at old) in
    let less : count - k ≡ suc (count - (k + 1)) = (let f = p.few in omega arith) in
    record {
      among = lt;
      few = (let f = p.few in omega arith);
      put = ap (λ xs. insert xs at (sequence_glyph gdef sequence g k)) p.put
          ∙ (rw (
            take_at (take at old) (parts ++ drop (at + 1) old) at len,
            drop_front (take at old) (parts ++ drop (at + 1) old) at len,
            less,
            one_more gdef sequence g (count - (k + 1)) k,
          ) refl);
    }

pub put_fits : (gdef sequence : List ℕ) (g : Glyph) (count at k : ℕ) (old new : Glyphs) →
    ArePut gdef sequence g count at k old new → at ≤ length new
put_fits gdef sequence g count at k old new p = let lt : at < length old = p.among in
    let len : length (take at old) ≡ at = omega (arith, length-take at old) in
    grind (arith, common_steps, ap length p.put, len)

-- ---- glyphs that go

pub removed_none : {X : Type 0} (xs : List X) (p : ℕ) → length xs ≤ p → remove xs p ≡ xs
removed_none xs p h = grind (arith, common_steps)

pub removed_start : (ps : List ℕ) (gs : Glyphs) → gs ≡ removed_all (drop (length ps) ps) gs
unfolding removed_all
removed_start ps gs = rw (drop-length ps) refl

pub removed_next : (ps : List ℕ) (gs : Glyphs) (i : ℕ) → i < length ps →
    removed_all (drop i ps) gs ≡ remove (removed_all (drop (i + 1) ps) gs) (get_or ps i 0)
unfolding removed_all
removed_next ps gs i h = rw (drop-cons ps i 0, add-one) refl

pub removed_step : (ps : List ℕ) (gs text new : Glyphs) (i : ℕ) → 0 < i → i ≤ length ps →
    text ≡ removed_all (drop i ps) gs → new ≡ remove text (get_or ps (i - 1) 0) →
    new ≡ removed_all (drop (i - 1) ps) gs
removed_step ps gs text new zero lt le is one = absurd (omega arith)
removed_step ps gs text new (suc i) lt le is one =
    let h : i < length ps = omega arith in
    let e : suc i - 1 ≡ i = omega arith in
    let two : suc i ≡ i + 1 = omega arith in
    let next = removed_next ps gs i h in
    rw e (rw e at one ∙ ap (λ xs. remove xs (get_or ps i 0)) (rw two at is) ∙ sym next)

pub removed_skip : (ps : List ℕ) (gs text : Glyphs) (i : ℕ) → 0 < i → i ≤ length ps →
    text ≡ removed_all (drop i ps) gs → length text ≤ get_or ps (i - 1) 0 →
    text ≡ removed_all (drop (i - 1) ps) gs
removed_skip ps gs text i lt le is out =
    removed_step ps gs text text i lt le is (sym (removed_none text (get_or ps (i - 1) 0) out))

pub put_step : (gdef sequence : List ℕ) (g : Glyph) (count at k : ℕ) (old new next : Glyphs) → 0 < k →
    ArePut gdef sequence g count at k old new → next ≡ insert new at (sequence_glyph gdef sequence g (k - 1)) →
    ArePut gdef sequence g count at (k - 1) old next
put_step gdef sequence g count at zero old new next lt p is = absurd (omega arith)
put_step gdef sequence g count at (suc k) old new next lt p is =
    let e : suc k - 1 ≡ k = omega arith in
    let two : suc k ≡ k + 1 = omega arith in
    rw e (subst (λ xs. ArePut gdef sequence g count at k old xs) (sym (rw e at is))
    (put_next gdef sequence g count at k old new (rw two at p)))

pub put_end : (gdef sequence : List ℕ) (g : Glyph) (count at : ℕ) (old new : Glyphs) →
    ArePut gdef sequence g count at 0 old new →
    new ≡ take at old ++ (sequence_glyphs count gdef sequence g 0 ++ drop (at + 1) old)
put_end gdef sequence g count at old new p =
    let e : count - 0 ≡ count = omega arith in rw e at p.put

pub put_whole : (gdef sequence : List ℕ) (g : Glyph) (count at k : ℕ) (old new : Glyphs) → k ≤ 0 →
    count ≡ count_in sequence → g ≡ glyph_at old at →
    ArePut gdef sequence g count at k old new → new ≡ multiplied gdef sequence at old
unfolding multiplied
put_whole gdef sequence g count at k old new none all is p =
    let zero_left : k ≡ 0 = omega arith in
    let e : count - k ≡ count_in sequence = omega arith in
    rw (e, zero_left, is) at p.put

pub ligate_is : (gdef : List ℕ) (level : BufferClusterLevel) (at to : ℕ) (ps : List ℕ)
    (gs start ts whole new : Glyphs) → new ≡ removed_all ps whole → whole ≡ ts →
    ts ≡ ligature_joined gdef level at ps to start → start ≡ gs →
    new ≡ ligated gdef level at ps to gs
unfolding ligated
ligate_is gdef level at to ps gs start ts whole new d w c s =
    let k : Glyphs → Glyphs = λ x. ligature_joined gdef level at ps to x in
    d ∙ ap (removed_all ps) (w ∙ (c ∙ ap k s))
