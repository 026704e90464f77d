-- GDEF tables that HarfBuzz ignores, by the lengths of GDEF, GSUB and GPOS.
use Rattle.std.specs.Prelude.{ℕ, ◌==◌, ◌&&◌, Bool}
use Rattle.std.specs.List.{list_any}
use Rattle.opentype_face.specs.declared.ignored.TheConstants.{IGNORED}

abbrev pub is_ignored : ℕ → ℕ → ℕ → Bool
is_ignored gdef gsub gpos = list_any (λ it. it.0 == gdef && it.1 == gsub && it.2 == gpos) IGNORED
