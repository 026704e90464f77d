-- Walks over components, and from a glyph to the one that lends it its metrics, as far as they have come.
use Rattle.std.proofs.Common.{ℕ, zero, suc, ◌+◌, ◌*◌, ◌-◌, ◌<◌, ◌≤◌, ◌≡◌, ◌/◌, ◌%◌, List, Option, None, Some, refl, sym, arith, ◌∙◌}
use Rattle.opentype_face.specs.Bytes.{u16_in}
use Rattle.opentype_face.specs.Firsts.{or_else}
use Rattle.opentype_face.specs.Origins.{component_size, lender_in, lender_of, lent_at, lent_from, measured}
use Rattle.opentype_face.specs.Outlines.{outline_in}

-- what the rest of the records lends, or else those before it, is what all of them lend
pub record IsLent (outline : List ℕ) (count start i at : ℕ) (found : Option ℕ) : Type 0 where
  pub bound : at ≤ start + i * 16
  pub rest : lent_from count outline start ≡ or_else (lent_from (count - i) outline at) found

or_none : {X : Type 0} (a : Option X) → or_else a None ≡ a
or_none None = refl
or_none (Some x) = refl

or_twice : {X : Type 0} (a b c : Option X) → or_else (or_else a b) c ≡ or_else a (or_else b c)
or_twice None b c = refl
or_twice (Some x) b c = refl

pub lent_start : (outline : List ℕ) (count start : ℕ) → IsLent outline count start 0 start None
lent_start outline count start =
    let e : count - 0 ≡ count = omega arith in
    record { bound = omega arith; rest = rw e (sym (or_none (lent_from count outline start))) }

more : (n : ℕ) (outline : List ℕ) (at : ℕ) → u16_in outline at / 0x20 % 2 ≡ 1 →
    lent_from (suc n) outline at ≡ or_else (lent_from n outline (at + component_size (u16_in outline at))) (lent_at outline at)
unfolding lent_from
more n outline at e = rw e refl

last : (n : ℕ) (outline : List ℕ) (at : ℕ) → u16_in outline at / 0x20 % 2 ≡ 0 →
    lent_from (suc n) outline at ≡ lent_at outline at
unfolding lent_from
last n outline at e = rw e refl

out : (outline : List ℕ) (at : ℕ) → lent_from 0 outline at ≡ None
unfolding lent_from
out outline at = refl

pub lent_next : (outline : List ℕ) (count start i at size : ℕ) (found next : Option ℕ) →
    IsLent outline count start i at found → i < count → u16_in outline at / 0x20 % 2 ≡ 1 →
    size ≡ component_size (u16_in outline at) → size ≤ 16 → next ≡ or_else (lent_at outline at) found →
    IsLent outline count start (i + 1) (at + size) next
lent_next outline count start i at size found next s lt e is b n =
    let c : count - i ≡ suc (count - (i + 1)) = omega arith in
    let h = s.bound in
    record {
      bound = omega arith;
      rest = rw c at s.rest ∙ rw is (rw n (rw (more (count - (i + 1)) outline at e)
          (or_twice (lent_from (count - (i + 1)) outline (at + component_size (u16_in outline at))) (lent_at outline at) found)));
    }

pub lent_last : (outline : List ℕ) (count start i at : ℕ) (found next : Option ℕ) →
    IsLent outline count start i at found → i < count → u16_in outline at / 0x20 % 2 ≡ 0 →
    next ≡ or_else (lent_at outline at) found → lent_from count outline start ≡ next
lent_last outline count start i at found next s lt e n =
    let c : count - i ≡ suc (count - (i + 1)) = omega arith in
    rw c at s.rest ∙ rw n (rw (last (count - (i + 1)) outline at e) refl)

pub lent_out : (outline : List ℕ) (count start i at : ℕ) (found : Option ℕ) →
    IsLent outline count start i at found → count ≤ i → lent_from count outline start ≡ found
lent_out outline count start i at found s h =
    let c : count - i ≡ 0 = omega arith in
    rw c at s.rest ∙ rw (out outline at) refl

-- where the walk from lender to lender is
pub record IsMeasured (head loca glyf : List ℕ) (count start i glyph : ℕ) : Type 0 where
  pub rest : measured count head loca glyf start ≡ measured (count - i) head loca glyf glyph

pub measured_start : (head loca glyf : List ℕ) (count start : ℕ) → IsMeasured head loca glyf count start 0 start
measured_start head loca glyf count start =
    let e : count - 0 ≡ count = omega arith in record { rest = rw e refl }

one : (n : ℕ) (head loca glyf : List ℕ) (glyph : ℕ) →
    measured (suc n) head loca glyf glyph ≡ measured n head loca glyf (lender_of head loca glyf glyph)
unfolding measured
one n head loca glyf glyph = refl

stays : (n : ℕ) (head loca glyf : List ℕ) (glyph : ℕ) → lender_in (outline_in head loca glyf glyph) ≡ None →
    measured n head loca glyf glyph ≡ glyph
unfolding measured
stays zero head loca glyf glyph e = refl
stays (suc n) head loca glyf glyph e = rw e (stays n head loca glyf glyph e)

ends : (head loca glyf : List ℕ) (glyph : ℕ) → measured 0 head loca glyf glyph ≡ glyph
unfolding measured
ends head loca glyf glyph = refl

pub measured_next : (head loca glyf : List ℕ) (count start i glyph other : ℕ) →
    IsMeasured head loca glyf count start i glyph → i < count →
    lender_in (outline_in head loca glyf glyph) ≡ Some other →
    IsMeasured head loca glyf count start (i + 1) other
measured_next head loca glyf count start i glyph other s lt e =
    let c : count - i ≡ suc (count - (i + 1)) = omega arith in
    record { rest = rw c at s.rest ∙ one (count - (i + 1)) head loca glyf glyph ∙ rw e refl }

pub measured_own : (head loca glyf : List ℕ) (count start i glyph : ℕ) →
    IsMeasured head loca glyf count start i glyph → lender_in (outline_in head loca glyf glyph) ≡ None →
    measured count head loca glyf start ≡ glyph
measured_own head loca glyf count start i glyph s e = s.rest ∙ stays (count - i) head loca glyf glyph e

pub measured_out : (head loca glyf : List ℕ) (count start i glyph : ℕ) →
    IsMeasured head loca glyf count start i glyph → count ≤ i → measured count head loca glyf start ≡ glyph
measured_out head loca glyf count start i glyph s h =
    let c : count - i ≡ 0 = omega arith in rw c at s.rest ∙ ends head loca glyf glyph
