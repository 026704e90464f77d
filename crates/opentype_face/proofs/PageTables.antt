-- Tables of characters, as far as they are filled.
use Rattle.std.proofs.Common.{ℕ, ◌+◌, ◌*◌, ◌/◌, ◌%◌, ◌<◌, ◌≤◌, ◌≡◌, ◌∙◌, ap, ◌⊎◌, inl, inr, Bool, true, false, if◌then◌else◌, List, [], ◌∷◌, ◌++◌, Option, None, Some, length, slice_index, refl, sym, arith}
use Rattle.std.specs.Option.{unwrap_or}
use Rattle.std.proofs.lemmas.Grind.{common_steps}
use Rattle.std.proofs.lemmas.Bool.Decides.{nat_tests}
use Rattle.opentype_face.specs.Characters.{nominal_in}
use Rattle.opentype_face.specs.CharacterTables.{AreAppended, TellsCharacters, character_place}
use Rattle.opentype_face.specs.Cmap.{cmap_in, glyph_unless_zero}
use Rattle.opentype_face.specs.Firsts.{or_else}
use Rattle.opentype_face.specs.declared.characters.Encoding.{Encoding}
use Rattle.opentype_face.specs.declared.characters.Encoding.TheVariants.{Unicode, Symbol, SimplifiedArabic, TraditionalArabic, MacRoman, Mac}

pub before_or_at : (k i : ℕ) → k < i + 1 → (k < i) ⊎ (k ≡ i)
before_or_at k i lt = grind arith

-- what is told of a place is told of it by an equal page
told_at : (glyphs : List ℕ) (page other k : ℕ) (x : Option ℕ) → page ≡ other → page * 256 + k < length glyphs →
    (other * 256 + k < length glyphs → glyph_unless_zero (slice_index glyphs (other * 256 + k)) ≡ x) →
    glyph_unless_zero (slice_index glyphs (page * 256 + k)) ≡ x
told_at glyphs page other k x e lt same = rw e (same (rw (sym e) lt))

pub appended_start : (e : Encoding) (subtable old : List ℕ) (first : ℕ) → AreAppended e subtable old first 0 old
appended_start e subtable old first = record {
  len = omega arith;
  kept = λ i lt. refl;
  told = λ k lt. absurd (omega arith);
}

pub before : (xs : List ℕ) (x i : ℕ) → i < length xs → slice_index (xs ++ x ∷ []) i ≡ slice_index xs i
before xs x i lt = grind (arith, nat_tests, common_steps)

pub at_end : (xs : List ℕ) (x i : ℕ) → i ≡ length xs → slice_index (xs ++ x ∷ []) i ≡ x
at_end xs x i e = grind (arith, nat_tests, common_steps)

pub appended_next : (e : Encoding) (subtable old : List ℕ) (first k : ℕ) (new newer : List ℕ) (glyph : ℕ) →
    AreAppended e subtable old first k new → glyph_unless_zero glyph ≡ nominal_in e subtable (first + k) →
    newer ≡ new ++ glyph ∷ [] → AreAppended e subtable old first (k + 1) newer
appended_next e subtable old first k new newer glyph a tells made = rw made (let len = a.len in record {
  len = grind (arith, common_steps);
  kept = λ i lt. before new glyph i (omega arith) ∙ a.kept i lt;
  told = λ j lt. elim (before_or_at j k lt) [
    | inl h ↦ ap glyph_unless_zero (before new glyph (length old + j) (omega arith)) ∙ a.told j h
    | inr e ↦ rw e (ap glyph_unless_zero (at_end new glyph (length old + k) (omega arith)) ∙ tells)
  ];
})

-- no character has glyph 0
unless_zero_stays : (glyph n : ℕ) → glyph_unless_zero n ≡ Some glyph → glyph_unless_zero glyph ≡ Some glyph
unless_zero_stays glyph n e = grind (arith, nat_tests, e)

by_subtable : (subtable : List ℕ) (c glyph : ℕ) → cmap_in subtable c ≡ Some glyph → glyph_unless_zero glyph ≡ Some glyph
by_subtable subtable c glyph e = unless_zero_stays glyph _ e

by_either : (x y : Option ℕ) (glyph : ℕ) → (x ≡ Some glyph → glyph_unless_zero glyph ≡ Some glyph) →
    (y ≡ Some glyph → glyph_unless_zero glyph ≡ Some glyph) → or_else x y ≡ Some glyph →
    glyph_unless_zero glyph ≡ Some glyph
by_either None y glyph one two e = two e
by_either (Some x) y glyph one two e = one e

by_test : (b : Bool) (x : Option ℕ) (glyph : ℕ) → (x ≡ Some glyph → glyph_unless_zero glyph ≡ Some glyph) →
    (if b then x else None) ≡ Some glyph → glyph_unless_zero glyph ≡ Some glyph
by_test true x glyph one e = one e
by_test false x glyph one e = absurd (none_some glyph e)
  where
    none_some : (g : ℕ) → None ≡ Some g → ⊥
    none_some g e = grind (arith, e)

by_other : (b : Bool) (x : Option ℕ) (glyph : ℕ) → (x ≡ Some glyph → glyph_unless_zero glyph ≡ Some glyph) →
    (if b then None else x) ≡ Some glyph → glyph_unless_zero glyph ≡ Some glyph
by_other b x glyph one e = grind (arith, one, e)

pub glyph_of_character : (e : Encoding) (subtable : List ℕ) (c glyph : ℕ) → nominal_in e subtable c ≡ Some glyph →
    glyph_unless_zero glyph ≡ Some glyph
glyph_of_character Unicode subtable c glyph e = by_subtable subtable c glyph e
glyph_of_character Symbol subtable c glyph e = by_either _ _ glyph (by_subtable subtable c glyph)
    (by_test _ _ glyph (by_subtable subtable _ glyph)) e
glyph_of_character SimplifiedArabic subtable c glyph e = by_either _ _ glyph (by_subtable subtable c glyph)
    (by_other _ _ glyph (by_subtable subtable _ glyph)) e
glyph_of_character TraditionalArabic subtable c glyph e = by_either _ _ glyph (by_subtable subtable c glyph)
    (by_other _ _ glyph (by_subtable subtable _ glyph)) e
glyph_of_character MacRoman subtable c glyph e = by_either _ _ glyph (by_test _ _ glyph (by_subtable subtable c glyph))
    (by_other _ _ glyph (by_subtable subtable _ glyph)) e
glyph_of_character Mac subtable c glyph e = by_test _ _ glyph (by_subtable subtable c glyph) e

-- what a table has for a character that has a glyph, or none
pub glyph_is_told : (e : Encoding) (subtable : List ℕ) (c : ℕ) (found : Option ℕ) →
    found ≡ nominal_in e subtable c → glyph_unless_zero (unwrap_or found 0) ≡ nominal_in e subtable c
glyph_is_told e subtable c None is = is
glyph_is_told e subtable c (Some glyph) is = glyph_of_character e subtable c glyph (sym is) ∙ is

-- the pages before one are filled: each is one of so many, or isn't there
pub record AreFilled (e : Encoding) (subtable pages glyphs : List ℕ) (made page : ℕ) : Type 0 where
  pub tells : TellsCharacters e subtable pages glyphs
  pub pages_len : length pages ≡ page
  pub glyphs_len : length glyphs ≡ made * 256
  pub each : (q : ℕ) → q < page → (slice_index pages q < made) ⊎ (65535 ≤ slice_index pages q)
  pub few : made ≤ 65535

pub filled_start : (e : Encoding) (subtable : List ℕ) → AreFilled e subtable [] [] 0 0
filled_start e subtable = record {
  tells = record { same = λ c lt. absurd (omega arith) };
  pages_len = refl;
  glyphs_len = refl;
  each = λ q lt. absurd (omega arith);
  few = omega arith;
}

-- a page that isn't there
pub filled_none : (e : Encoding) (subtable pages glyphs : List ℕ) (made page : ℕ) (new : List ℕ) →
    AreFilled e subtable pages glyphs made page → new ≡ pages ++ 65535 ∷ [] →
    AreFilled e subtable new glyphs made (page + 1)
filled_none e subtable pages glyphs made page new f is = rw is (let len = f.pages_len in let glen = f.glyphs_len in let few = f.few in record {
  tells = record {
    same = λ c in_it lt. elim (before_or_at (c / 256) page (grind (arith, common_steps, in_it, len))) [
      | inl h ↦ (let e : slice_index (pages ++ 65535 ∷ []) (c / 256) ≡ slice_index pages (c / 256) = before pages 65535 (c / 256) (omega arith) in
          told_at glyphs (slice_index (pages ++ 65535 ∷ []) (c / 256)) (slice_index pages (c / 256)) (c % 256) _ e lt (f.tells.same c (omega arith)))
      | inr h ↦ (let e : slice_index (pages ++ 65535 ∷ []) (c / 256) ≡ 65535 = at_end pages 65535 (c / 256) (omega arith) in absurd (omega arith))
    ];
  };
  pages_len = grind (arith, common_steps);
  glyphs_len = glen;
  each = λ q lt. elim (before_or_at q page lt) [
    | inl h ↦ rw (before pages 65535 q (omega arith)) (f.each q h)
    | inr h ↦ rw (at_end pages 65535 q (omega arith)) (inr (omega arith))
  ];
  few = few;
})

in_page : (page made c len : ℕ) → page < made → len ≡ made * 256 → page * 256 + c % 256 < len
in_page page made c len low is = grind (arith, low, is)

out_of_page : (page made c len : ℕ) → 65535 ≤ page → made < 65535 → len ≡ made * 256 + 256 →
    page * 256 + c % 256 < len → ⊥
out_of_page page made c len high few is lt = grind (arith, high, few, is, lt)

wider : (q made : ℕ) → (q < made) ⊎ (65535 ≤ q) → (q < made + 1) ⊎ (65535 ≤ q)
wider q made e = elim e [
  | inl h ↦ inl (omega arith)
  | inr h ↦ inr h
]

-- the place of a character in the page that was made last
placed_last : (c page made len : ℕ) → c / 256 ≡ page → len ≡ made * 256 →
    (made * 256 + c % 256 ≡ len + c % 256) × (page * 256 + c % 256 ≡ c) × (c % 256 < 256)
placed_last c page made len e is = (grind (arith, e, is), grind (arith, e), grind arith)

kept_at : (glyphs new : List ℕ) (i : ℕ) (x : Option ℕ) → slice_index new i ≡ slice_index glyphs i →
    glyph_unless_zero (slice_index glyphs i) ≡ x → glyph_unless_zero (slice_index new i) ≡ x
kept_at glyphs new i x e told = rw e told

-- a character of the page that was made last
told_last : (e : Encoding) (subtable glyphs new : List ℕ) (made page c : ℕ) → c / 256 ≡ page →
    length glyphs ≡ made * 256 → AreAppended e subtable glyphs (page * 256) 256 new →
    glyph_unless_zero (slice_index new (made * 256 + c % 256)) ≡ nominal_in e subtable c
told_last e subtable glyphs new made page c at len a =
    let p = placed_last c page made (length glyphs) at len in
    let t = a.told (c % 256) p.2 in
    rw p.0 (t ∙ ap (nominal_in e subtable) p.1)

-- a page that is there
pub filled_page : (e : Encoding) (subtable pages glyphs : List ℕ) (made page : ℕ) (new appended : List ℕ) →
    AreFilled e subtable pages glyphs made page → made < 65535 →
    AreAppended e subtable glyphs (page * 256) 256 appended → new ≡ pages ++ made ∷ [] →
    AreFilled e subtable new appended (made + 1) (page + 1)
filled_page e subtable pages glyphs made page new appended f few a is =
    rw is (let len = f.pages_len in let glen = f.glyphs_len in let alen = a.len in record {
      tells = record {
        same = λ c in_it lt. elim (before_or_at (c / 256) page (grind (arith, common_steps, in_it, len))) [
          | inl h ↦ (let same : slice_index (pages ++ made ∷ []) (c / 256) ≡ slice_index pages (c / 256) =
              before pages made (c / 256) (omega arith) in
              told_at appended (slice_index (pages ++ made ∷ []) (c / 256)) (slice_index pages (c / 256)) (c % 256) _ same lt
              (λ less. elim (f.each (c / 256) h) [
                | inl low ↦ (let p : slice_index pages (c / 256) * 256 + c % 256 < length glyphs =
                    in_page (slice_index pages (c / 256)) made c (length glyphs) low glen in
                    kept_at glyphs appended (character_place pages c) _ (a.kept _ p) (f.tells.same c (omega arith) p))
                | inr high ↦ absurd (out_of_page (slice_index pages (c / 256)) made c (length appended) high few (alen ∙ ap (λ n. n + 256) glen) less)
              ]))
          | inr h ↦ (let same : slice_index (pages ++ made ∷ []) (c / 256) ≡ made =
              at_end pages made (c / 256) (omega arith) in
              told_at appended (slice_index (pages ++ made ∷ []) (c / 256)) made (c % 256) _ same lt
              (λ less. told_last e subtable glyphs appended made page c h glen a))
        ];
      };
      pages_len = grind (arith, common_steps);
      glyphs_len = omega arith;
      each = λ q lt. elim (before_or_at q page lt) [
        | inl h ↦ rw (before pages made q (omega arith)) (wider (slice_index pages q) made (f.each q h))
        | inr h ↦ rw (at_end pages made q (omega arith)) (inl (omega arith))
      ];
      few = omega arith;
    })
