-- A ligature whose second glyph a key bars doesn't fit.
use Rattle.std.proofs.Common.{ℕ, zero, suc, ◌+◌, ◌-◌, ◌==◌, ◌<◌, ◌≡◌, Bool, true, false, None, List, drop, get_or, ◌*◌, ◌∙◌, refl, sym, ap, arith}
use Rattle.std.proofs.lemmas.Bool.Decides.{nat_tests}
use Rattle.std.proofs.lemmas.List.{get_or-drop}
use Rattle.std.specs.Prelude.{◌||◌, nat_lt}
use Rattle.shapers_buffer.specs.Glyphs.{Glyphs}
use Rattle.opentype_face.specs.Bytes.{u16_in, table_at}
use Rattle.opentype_layout.specs.Keys.{bars}
use Rattle.opentype_layout.specs.Ligatures.{input_in}
use Rattle.opentype_layout.specs.Pattern.{is_number, next_in}
use Rattle.opentype_layout.specs.declared.keys.Key.{Key}
use Rattle.opentype_layout.specs.declared.sight.Sight.{Sight}
use Rattle.opentype_layout.proofs.Keyed.{barred_at, no_places}
use Rattle.opentype_layout.proofs.NoneFits.{none_if}
use Rattle.opentype_gsub.specs.Ligatures.{ligature_of}

pub unfit_ligature : (gdef : List ℕ) (sight : Sight) (gs : Glyphs) (at : ℕ) (ligature : List ℕ) (key : Key) →
    1 < u16_in ligature 2 →
    ((test : ℕ → ℕ → Bool) (k : ℕ) → bars key (test k) ≡ true → next_in gdef sight test gs k (at + 1) ≡ None) →
    bars key (λ n. u16_in ligature 4 == n) ≡ true → None ≡ ligature_of gdef sight gs at ligature
unfolding ligature_of input_in
unfit_ligature gdef sight gs at ligature key lt none b =
    let numbers = table_at ligature 4 in
    let first = none (is_number numbers) 0 (barred_at key ligature 4 4 refl (omega arith) b) in
    let places = no_places (next_in gdef sight (is_number numbers) gs) (u16_in ligature 2 - 1) (at + 1) (omega arith) first in
    sym (none_if (u16_in ligature 2 == 0 || nat_lt 64 (u16_in ligature 2)) None _ (λ t. refl) (λ t. rw places refl))

-- what stands at a place of a table stands in what the table is a part of
u16_behind : (set : List ℕ) (offset k place : ℕ) → place ≡ offset + k → u16_in (drop offset set) k ≡ u16_in set place
u16_behind set offset k place is =
    let next : offset + (k + 1) ≡ place + 1 = omega arith in
    let high : get_or (drop offset set) k 0 ≡ get_or set place 0 =
    get_or-drop offset set k 0 ∙ ap (λ n. get_or set n 0) (sym is) in
    let low : get_or (drop offset set) (k + 1) 0 ≡ get_or set (place + 1) 0 =
    get_or-drop offset set (k + 1) 0 ∙ ap (λ n. get_or set n 0) next in
    ap (λ n. 256 * n + get_or (drop offset set) (k + 1) 0) high ∙ ap (λ n. 256 * get_or set place 0 + n) low

pub barred_ligature : (gdef : List ℕ) (sight : Sight) (gs : Glyphs) (at : ℕ) (set : List ℕ) (offset : ℕ) (key : Key) →
    ((test : ℕ → ℕ → Bool) (k : ℕ) → bars key (test k) ≡ true → next_in gdef sight test gs k (at + 1) ≡ None) →
    1 < u16_in set (offset + 2) → bars key (λ n. u16_in set (offset + 4) == n) ≡ true →
    ligature_of gdef sight gs at (table_at set offset) ≡ None
unfolding ligature_of
barred_ligature gdef sight gs at set zero key none lt b = refl
barred_ligature gdef sight gs at set (suc o) key none lt b =
    let ligature = drop (suc o) set in
    let count : u16_in ligature 2 ≡ u16_in set (suc o + 2) = u16_behind set (suc o) 2 (suc o + 2) refl in
    let second : u16_in ligature 4 ≡ u16_in set (suc o + 4) = u16_behind set (suc o) 4 (suc o + 4) refl in
    let some : (suc o == 0) ≡ false = grind (arith, nat_tests) in
    rw some (sym (unfit_ligature gdef sight gs at ligature key (rw count lt) none (rw second b)))
