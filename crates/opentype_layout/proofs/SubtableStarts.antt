-- Where the sets stand that subtables begin with, by their types.
use Rattle.std.proofs.Common.{ℕ, ◌==◌, ◌≡◌, Bool, true, false, List, Option, None, Some, refl, ap, ◌∙◌, arith, if◌then◌else◌}
use Rattle.std.proofs.lemmas.Bool.Decides.{nat_tests}
use Rattle.std.specs.Option.{ForSome, IfSome}
use Rattle.opentype_face.specs.Bytes.{u16_in, table_at}
use Rattle.opentype_face.specs.Glyphs.{coverage_in}
use Rattle.opentype_layout.specs.Rules.{first_at, start_at}
use Rattle.opentype_layout.specs.Starts.{first_set_in, starts_at}
use Rattle.opentype_layout.specs.SubstitutionTables.{first_place}

plain_start : (third context chained : Bool) (a b : ℕ) → context ≡ false → chained ≡ false →
    (if third then (if context then a else (if chained then b else 2)) else 2) ≡ 2
plain_start false context chained a b e f = refl
plain_start true context chained a b e f = rw (e, f) refl

-- those that are no contexts begin with the set whose offset stands at byte 2
pub starts_plain : (kind : ℕ) (bytes : List ℕ) → (kind == 5) ≡ false → (kind == 6) ≡ false → starts_at false kind bytes ≡ 2
unfolding starts_at
starts_plain kind bytes e f =
    plain_start (u16_in bytes 0 == 3) (kind == 5) (kind == 6) (first_at false bytes) (first_at true bytes) e f

pub place_plain : (kind : ℕ) (bytes : List ℕ) (glyph : ℕ) → (kind == 5) ≡ false → (kind == 6) ≡ false →
    first_place (record { kind = kind; bytes = bytes }) glyph ≡ coverage_in (table_at bytes (u16_in bytes 2)) glyph
place_plain kind bytes glyph e f = ap (λ at. coverage_in (table_at bytes (u16_in bytes at)) glyph) (starts_plain kind bytes e f)

-- contexts and chained contexts begin with the set that their rules do
pub starts_context : (kind : ℕ) (bytes : List ℕ) → kind ≡ 5 → starts_at false kind bytes ≡ start_at (kind == 6) bytes
unfolding starts_at
starts_context kind bytes e = rw e refl

pub starts_chained : (kind : ℕ) (bytes : List ℕ) → kind ≡ 6 → starts_at false kind bytes ≡ start_at (kind == 6) bytes
unfolding starts_at
starts_chained kind bytes e = rw e refl

-- ---- subtables of GPOS

-- those that are no contexts begin with the set whose offset stands at byte 2
pub places_plain : (kind : ℕ) (bytes : List ℕ) → (kind == 7) ≡ false → (kind == 8) ≡ false → starts_at true kind bytes ≡ 2
unfolding starts_at
places_plain kind bytes e f =
    plain_start (u16_in bytes 0 == 3) (kind == 7) (kind == 8) (first_at false bytes) (first_at true bytes) e f

places_context : (kind : ℕ) (bytes : List ℕ) → kind ≡ 7 → starts_at true kind bytes ≡ start_at (kind == 8) bytes
unfolding starts_at
places_context kind bytes e = rw e refl

places_chained : (kind : ℕ) (bytes : List ℕ) → kind ≡ 8 → starts_at true kind bytes ≡ start_at (kind == 8) bytes
unfolding starts_at
places_chained kind bytes e = rw e refl

-- a table of the set that a subtable begins with is one of the set whose offset stands there
pub same_set_at : {T : Type 0} (table : Option T) (set : T → List ℕ) (bytes : List ℕ) (at place : ℕ) → at ≡ place →
    ForSome table (λ it. set it ≡ table_at bytes (u16_in bytes at)) → IfSome table (λ it. set it ≡ table_at bytes (u16_in bytes place))
same_set_at None set bytes at place e of = tt
same_set_at (Some it) set bytes at place e of = of it refl ∙ ap (λ k. table_at bytes (u16_in bytes k)) e

pub set_plain : {T : Type 0} (table : Option T) (set : T → List ℕ) (kind : ℕ) (bytes : List ℕ) →
    (kind ≡ 7 → ⊥) → (kind ≡ 8 → ⊥) → ForSome table (λ it. set it ≡ first_set_in true kind bytes) →
    IfSome table (λ it. set it ≡ table_at bytes (u16_in bytes 2))
set_plain table set kind bytes not7 not8 = same_set_at table set bytes _ _
    (places_plain kind bytes (grind (arith, nat_tests, not7)) (grind (arith, nat_tests, not8)))

pub set_of_context : {T : Type 0} (table : Option T) (set : T → List ℕ) (kind : ℕ) (bytes : List ℕ) → kind ≡ 7 →
    ForSome table (λ it. set it ≡ first_set_in true kind bytes) →
    IfSome table (λ it. set it ≡ table_at bytes (u16_in bytes (start_at (kind == 8) bytes)))
set_of_context table set kind bytes e = same_set_at table set bytes _ _ (places_context kind bytes e)

pub set_of_chained : {T : Type 0} (table : Option T) (set : T → List ℕ) (kind : ℕ) (bytes : List ℕ) → kind ≡ 8 →
    ForSome table (λ it. set it ≡ first_set_in true kind bytes) →
    IfSome table (λ it. set it ≡ table_at bytes (u16_in bytes (start_at (kind == 8) bytes)))
set_of_chained table set kind bytes e = same_set_at table set bytes _ _ (places_chained kind bytes e)
