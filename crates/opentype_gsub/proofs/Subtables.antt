-- The tables of the sets that contexts among the subtables of GSUB begin with.
use Rattle.std.proofs.Common.{ℕ, ◌==◌, ◌≡◌, false, List, Option}
use Rattle.std.specs.Option.{ForSome, IfSome}
use Rattle.opentype_face.specs.Bytes.{table_at, u16_in}
use Rattle.opentype_layout.specs.Rules.{start_at}
use Rattle.opentype_layout.specs.Starts.{first_set_in}
use Rattle.opentype_layout.proofs.SubtableStarts.{same_set_at, starts_chained, starts_context}

pub set_of_context : {T : Type 0} (table : Option T) (set : T → List ℕ) (kind : ℕ) (bytes : List ℕ) → kind ≡ 5 →
    ForSome table (λ it. set it ≡ first_set_in false kind bytes) →
    IfSome table (λ it. set it ≡ table_at bytes (u16_in bytes (start_at (kind == 6) bytes)))
set_of_context table set kind bytes e = same_set_at table set bytes _ _ (starts_context kind bytes e)

pub set_of_chained : {T : Type 0} (table : Option T) (set : T → List ℕ) (kind : ℕ) (bytes : List ℕ) → kind ≡ 6 →
    ForSome table (λ it. set it ≡ first_set_in false kind bytes) →
    IfSome table (λ it. set it ≡ table_at bytes (u16_in bytes (start_at (kind == 6) bytes)))
set_of_chained table set kind bytes e = same_set_at table set bytes _ _ (starts_chained kind bytes e)
