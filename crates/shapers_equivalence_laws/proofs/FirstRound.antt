-- The first round keeps what a text is, taken apart to the end.
use Rattle.std.proofs.Common.{◌≡◌, ◌==◌, ℕ, zero, suc, Bool, true, false, ◌||◌, ◌&&◌, cond, List, [], ◌∷◌, ◌++◌, map, Option, None, Some, refl, sym, ap, ◌∙◌, subst}
use Rattle.std.specs.List.{flat_map, list_any}
use Rattle.std.specs.Option.{option_map_or}
use Rattle.std.proofs.lemmas.Bool.{false≢true, or_parts}
use Rattle.std.proofs.lemmas.Grind.{flat_map-append}
use Rattle.std.proofs.lemmas.List.{append-nil}
use Rattle.shapers_base.specs.declared.font.GlyphId.{GlyphId}
use Rattle.shapers_base.specs.declared.plan.record.NormalizationMode.{NormalizationMode}
use Rattle.shapers_base.specs.declared.plan.record.NormalizationMode.TheVariants as modes
use Rattle.shapers_buffer.specs.declared.buffer.category.hb_unicode_general_category_t.{hb_unicode_general_category_t}
use Rattle.shapers_buffer.specs.declared.buffer.category.hb_unicode_general_category_t.TheVariants.{Zs}
use Rattle.shapers_buffer.specs.Glyphs.{Glyph, Glyphs}
use Rattle.shapers_buffer.specs.declared.buffer.level.BufferClusterLevel.{BufferClusterLevel}
use Rattle.shapers_buffer.specs.Category.{is_mark}
use Rattle.shapers_buffer.specs.Glyph.{characters, order_view, plain}
use Rattle.shapers_buffer.proofs.MappedLists.{all-append, list_any-map}
use Rattle.shapers_normal.specs.Context.{Context, has_glyph}
use Rattle.shapers_normal.specs.Decomposition.{apart_in, apart_way, as_part, becomes, cluster_becomes, come_off, first_round, glyph_number, image, is_space_separator, mark_clusters, text_decomposed, with_own_glyph, without_glyph, written_as}
use Rattle.shapers_normal.specs.DecompositionWalk.{or_base_alone, then_come_off}
use Rattle.shapers_normal.specs.Properties.{as_character}
use Rattle.shapers_normal.specs.Sorting.{class_of, is_mark_glyph}
use Rattle.shapers_normal.specs.Variants.{forms_written, is_kept_cluster, is_selector_glyph, variants_joined}
use Rattle.shapers_normal.proofs.Apart.{apart_blocked, apart_further, apart_none, apart_not}
use Rattle.shapers_normal.proofs.Monotone.{together_cut}
use Rattle.shapers_normal.proofs.Pairs.{together}
use Rattle.shapers_normal.proofs.Viewed.{variants-view}
use Rattle.shapers_equivalence_laws.specs.Laws.{HaveOwnClasses, mark_class}
use Rattle.shapers_equivalence_laws.proofs.Apart.{TakesApart, apart_text, apart-append, apart-view, own_of_view, view_own}
use Rattle.shapers_buffer.specs.Properties.{general_category, with_high_byte}
use Rattle.shapers_normal.proofs.CharacterProperties.{class_of_character, class_of_other}
use Rattle.shapers_buffer.proofs.PropertyLemmas.{set_is_read}

-- ---- one character

-- the parts of a character, if there are any, are it
abbrev Spells : (ℕ → List ℕ) → ℕ → List ℕ → Type 0
Spells full c [] = Unit {0}
Spells full c (d ∷ ds) = flat_map full (d ∷ ds) ≡ full c

base_spells : (full : ℕ → List ℕ) (a : ℕ) (has : Bool) → Spells full a (cond has (a ∷ []) [])
base_spells full a true = append-nil (full a)
base_spells full a false = tt

with_base : (full : ℕ → List ℕ) (a : ℕ) (has : Bool) (cs : List ℕ) → Spells full a cs
    → Spells full a (or_base_alone has a cs)
with_base full a has [] p = base_spells full a has
with_base full a has (c ∷ cs) p = p

with_off : (full : ℕ → List ℕ) (c a b : ℕ) (cs : List ℕ) → full c ≡ full a ++ flat_map full (come_off b)
    → Spells full a cs → Spells full c (then_come_off b cs)
with_off full c a b [] e p = tt
with_off full c a b (d ∷ ds) e p =
    flat_map-append full (d ∷ ds) (come_off b) ∙ ap (λ xs. xs ++ flat_map full (come_off b)) p ∙ sym e

unless : (full : ℕ → List ℕ) (c : ℕ) (stop : Bool) (cs : List ℕ) → Spells full c cs → Spells full c (cond stop [] cs)
unless full c true cs p = tt
unless full c false cs p = p

either_way : (context : Context) (full : ℕ → List ℕ) (short : Bool) (n c a b : ℕ) (free : Bool)
    → (b == 0 || has_glyph context b) ≡ free → Some (a, b) ≡ context.decomposed c
    → full c ≡ full a ++ flat_map full (come_off b) → Spells full a (apart_in context short n a)
    → Spells full c (apart_in context short (suc n) c)
either_way context full short n c a b true e some whole p =
    let rest = cond (short && has_glyph context a) [] (apart_in context short n a) in
    subst (Spells full c) (sym (apart_further context short (suc n) n c a b refl some e))
    (with_off full c a b (or_base_alone (has_glyph context a) a rest) whole
    (with_base full a (has_glyph context a) rest
    (unless full a (short && has_glyph context a) (apart_in context short n a) p)))
either_way context full short n c a b false e some whole p = subst (Spells full c)
    (sym (apart_blocked context short (suc n) n c a b refl some e)) tt

-- the full decomposition of what comes apart is that of its parts
abbrev Apart : Context → (ℕ → List ℕ) → Type 0
Apart context full = (c : ℕ) (p : ℕ × ℕ) → context.decomposed c ≡ Some p → full c ≡ full p.0 ++ flat_map full
    (come_off p.1)

by_parts : (context : Context) (full : ℕ → List ℕ) (short : Bool) (n c : ℕ) (o : Option (ℕ × ℕ)) → Apart context full
    → o ≡ context.decomposed c → ((a : ℕ) → Spells full a (apart_in context short n a))
    → Spells full c (apart_in context short (suc n) c)
by_parts context full short n c None t e ih = subst (Spells full c)
    (sym (apart_not context short (suc n) n c refl e)) tt
by_parts context full short n c (Some p) t e ih = either_way context full short n c p.0 p.1
    (p.1 == 0 || has_glyph context p.1) refl e (t c p (sym e)) (ih p.0)

apart_spells : (context : Context) (full : ℕ → List ℕ) → Apart context full → (short : Bool) (n c : ℕ)
    → Spells full c (apart_in context short n c)
apart_spells context full t short zero c = subst (Spells full c) (sym (apart_none context short 0 c refl)) tt
apart_spells context full t short (suc n) c = by_parts context full short n c (context.decomposed c) t refl
    (λ a. apart_spells context full t short n a)

short_spells : (context : Context) (full : ℕ → List ℕ) → Apart context full → (c : ℕ)
    → Spells full c (cond (has_glyph context c) [] (apart_in context true 8 c))
short_spells context full t c = unless full c (has_glyph context c) (apart_in context true 8 c)
    (apart_spells context full t true 8 c)

-- with each mode, in each cluster
abbrev in_mode : Context → NormalizationMode → Context
in_mode context m = record context { mode = m }

image_by : (context : Context) (full : ℕ → List ℕ) → Apart context full
    → (m : NormalizationMode) (cluster : Glyphs) (c : ℕ)
    → Spells full c (image (in_mode context m) (apart_way (in_mode context m) cluster) c)
image_by context full t modes.NONE [] c = short_spells (in_mode context modes.NONE) full t c
image_by context full t modes.NONE (g ∷ []) c = short_spells (in_mode context modes.NONE) full t c
image_by context full t modes.NONE (g ∷ (h ∷ gs)) c = short_spells (in_mode context modes.NONE) full t c
image_by context full t modes.AUTO [] c = apart_spells (in_mode context modes.AUTO) full t false 8 c
image_by context full t modes.AUTO (g ∷ []) c = short_spells (in_mode context modes.AUTO) full t c
image_by context full t modes.AUTO (g ∷ (h ∷ gs)) c = apart_spells (in_mode context modes.AUTO) full t false 8 c
image_by context full t modes.CD [] c = apart_spells (in_mode context modes.CD) full t false 8 c
image_by context full t modes.CD (g ∷ []) c = apart_spells (in_mode context modes.CD) full t false 8 c
image_by context full t modes.CD (g ∷ (h ∷ gs)) c = apart_spells (in_mode context modes.CD) full t false 8 c

image_spells : (context : Context) (full : ℕ → List ℕ) → TakesApart context full
    → (cluster : Glyphs) (c : ℕ) → Spells full c (image context (apart_way context cluster) c)
image_spells context full t cluster c = image_by context full t.apart context.mode cluster c

-- ---- one glyph

no_mark : (c : hb_unicode_general_category_t) → is_space_separator c ≡ true → is_mark c ≡ false
no_mark Zs e = refl
no_mark _ e = absurd (false≢true e)

-- as another glyph, of the same character and class
pub record SameCharacter (old new : Glyph) : Type 0 where
  pub character : new.glyph_id ≡ old.glyph_id
  pub class : class_of new ≡ class_of old

abbrev as_space : Glyph → ℕ × GlyphId → Glyph
as_space g space = record g { glyph_props = record { 0 = space.1.0 }; unicode_props = with_high_byte space.0 g.unicode_props }

space_same : (g new : Glyph) (o : Option (ℕ × GlyphId)) → is_mark_glyph g ≡ false
    → SameCharacter g new → SameCharacter g (option_map_or (as_space g) o new)
space_same g new None e same = same
space_same g new (Some space) e same = record {
  character = refl;
  class = class_of_other (as_space g space)
      (ap is_mark ((set_is_read g.unicode_props).category_stays space.0) ∙ e) ∙ sym (class_of_other g e);
}

without_same : (g new : Glyph) (o : Option (ℕ × GlyphId)) (space : Bool)
    → is_space_separator (general_category g.unicode_props) ≡ space → SameCharacter g new
    → SameCharacter g (option_map_or (as_space g) (cond space o None) new)
without_same g new o true e same = space_same g new o (no_mark (general_category g.unicode_props) e) same
without_same g new o false e same = same

own_by : (g new : Glyph) (o : Option GlyphId) → SameCharacter g new
    → SameCharacter g (option_map_or (λ (glyph : GlyphId). let r : Glyph = record g { glyph_props = record { 0 = glyph.0 } }
    in r) o new)
own_by g new None same = same
own_by g new (Some glyph) same = record { character = refl; class = refl }

pub own_same : (context : Context) (g : Glyph) → SameCharacter g (with_own_glyph context g)
own_same context g =
    own_by g (without_glyph context g) (context.nominal g.glyph_id)
    (without_same g (record g { glyph_props = record { 0 = cond (g.glyph_id == 0x2011) (glyph_number context 0x2010) 0 } }) _
    (is_space_separator (general_category g.unicode_props)) refl
    (record { character = refl; class = refl }))

-- a character that is written anew has its own class
pub character_class : (context : Context) (c glyph : ℕ) (g : Glyph)
    → class_of (as_character context c glyph g) ≡ mark_class context c
character_class context c glyph g = class_of_character context c

parts_characters : (context : Context) (g : Glyph) (cs : List ℕ)
    → characters (map (as_part context g) cs) ≡ cs
parts_characters context g [] = refl
parts_characters context g (c ∷ cs) = ap (λ ds. c ∷ ds) (parts_characters context g cs)

parts_own : (context : Context) (g : Glyph) (cs : List ℕ)
    → HaveOwnClasses context (map (as_part context g) cs)
parts_own context g [] = tt
parts_own context g (c ∷ cs) = (character_class context c (glyph_number context c) g, parts_own context g cs)

written_spells : (context : Context) (full : ℕ → List ℕ) (g : Glyph) (cs : List ℕ)
    → Spells full g.glyph_id cs → apart_text full (written_as context g cs) ≡ full g.glyph_id
written_spells context full g [] p = append-nil (full (with_own_glyph context g).glyph_id) ∙ ap full
    (own_same context g).character
written_spells context full g (c ∷ cs) p = ap (flat_map full) (parts_characters context g (c ∷ cs)) ∙ p

written_own : (context : Context) (g : Glyph) (cs : List ℕ) → class_of g ≡ mark_class context g.glyph_id
    → HaveOwnClasses context (written_as context g cs)
written_own context g [] own = let same = own_same context g in
    (same.class ∙ own ∙ ap (mark_class context) (sym same.character), tt)
written_own context g (c ∷ cs) own = parts_own context g (c ∷ cs)

-- ---- a text

-- what becomes of it is the same, taken apart to the end, and each glyph has its character's class
pub record KeepsText (context : Context) (full : ℕ → List ℕ) (old new : Glyphs) : Type 0 where
  pub same : apart_text full new ≡ apart_text full old
  pub own : HaveOwnClasses context new

each_glyph : (context : Context) (full : ℕ → List ℕ) → TakesApart context full → (cluster gs : Glyphs)
    → HaveOwnClasses context gs
    → KeepsText context full gs (flat_map (becomes context (apart_way context cluster)) gs)
each_glyph context full t cluster [] own = record { same = refl; own = tt }
each_glyph context full t cluster (g ∷ gs) own =
    let cs = image context (apart_way context cluster) g.glyph_id in
    let first = written_as context g cs in
    let rest = flat_map (becomes context (apart_way context cluster)) gs in
    let behind = each_glyph context full t cluster gs own.1 in
    record {
      same =
          apart-append full first rest
          ∙ ap (λ xs. xs ++ apart_text full rest) (written_spells context full g cs
          (image_spells context full t cluster g.glyph_id))
          ∙ ap (λ xs. full g.glyph_id ++ xs) behind.same;
      own = all-append (λ (h : Glyph). class_of h ≡ mark_class context h.glyph_id) first rest
          (written_own context g cs own.0) behind.own;
    }

not_kept : (cluster : Glyphs) → list_any is_selector_glyph cluster ≡ false
    → is_kept_cluster cluster ≡ false
not_kept [] none = refl
not_kept (g ∷ []) none = refl
not_kept (g ∷ (h ∷ cluster)) none = none

each_cluster : (context : Context) (full : ℕ → List ℕ) → TakesApart context full → (cluster : Glyphs)
    → HaveOwnClasses context cluster → list_any is_selector_glyph cluster ≡ false
    → KeepsText context full cluster (cluster_becomes context cluster)
each_cluster context full t cluster own none =
    subst (λ b. KeepsText context full cluster
    (cond b (forms_written context cluster) (flat_map (becomes context (apart_way context cluster)) cluster)))
    (sym (not_kept cluster none)) (each_glyph context full t cluster cluster own)

any_parts : (p : Glyph → Bool) (gs hs : Glyphs) → list_any p (gs ++ hs) ≡ false
    → (list_any p gs ≡ false) × (list_any p hs ≡ false)
any_parts p [] hs none = (refl, none)
any_parts p (g ∷ gs) hs none =
    let parts = or_parts (p g) (list_any p (gs ++ hs)) none in
    let rest = any_parts p gs hs parts.1 in
    (ap (λ b. b || list_any p gs) parts.0 ∙ rest.0, rest.1)

own_parts : (context : Context) (gs hs : Glyphs) → HaveOwnClasses context (gs ++ hs)
    → HaveOwnClasses context gs × HaveOwnClasses context hs
own_parts context [] hs own = (tt, own)
own_parts context (g ∷ gs) hs own = let rest = own_parts context gs hs own.1 in ((own.0, rest.0), rest.1)

each_group : (context : Context) (full : ℕ → List ℕ) → TakesApart context full
    → (groups : List Glyphs) → HaveOwnClasses context (together groups)
    → list_any is_selector_glyph (together groups) ≡ false
    → KeepsText context full (together groups) (flat_map (cluster_becomes context) groups)
each_group context full t [] own none = record { same = refl; own = tt }
each_group context full t (group ∷ groups) own none =
    let rest = flat_map (cluster_becomes context) groups in
    let parts = own_parts context group (together groups) own in
    let neither = any_parts is_selector_glyph group (together groups) none in
    let one = each_cluster context full t group parts.0 neither.0 in
    let others = each_group context full t groups parts.1 neither.1 in
    record {
      same =
          apart-append full (cluster_becomes context group) rest
          ∙ ap (λ xs. xs ++ apart_text full rest) one.same
          ∙ ap (λ xs. apart_text full group ++ xs) others.same
          ∙ sym (apart-append full group (together groups));
      own = all-append (λ (h : Glyph). class_of h ≡ mark_class context h.glyph_id)
          (cluster_becomes context group) rest one.own others.own;
    }

apart_keeps : (context : Context) (full : ℕ → List ℕ) → TakesApart context full → (gs : Glyphs)
    → HaveOwnClasses context gs → list_any is_selector_glyph gs ≡ false
    → KeepsText context full gs (text_decomposed context gs)
apart_keeps context full t gs own none =
    let all = together_cut is_mark_glyph gs in
    let keeps = each_group context full t (mark_clusters gs) (subst (HaveOwnClasses context) (sym all) own)
    (subst (λ xs. list_any is_selector_glyph xs ≡ false) (sym all) none) in
    subst (λ xs. KeepsText context full xs (text_decomposed context gs)) all keeps

pub first_keeps : (context : Context) (full : ℕ → List ℕ) → TakesApart context full
    → (level : BufferClusterLevel) (gs : Glyphs) → HaveOwnClasses context gs
    → list_any is_selector_glyph gs ≡ false → KeepsText context full gs (first_round context level gs)
first_keeps context full t level gs own none =
    let joined = variants_joined context level gs in
    let view : order_view joined ≡ order_view gs = variants-view context level gs in
    let seen : list_any is_selector_glyph joined ≡ list_any is_selector_glyph gs = sym
    (list_any-map is_selector_glyph plain joined) ∙ ap (list_any is_selector_glyph) view
    ∙ list_any-map is_selector_glyph plain gs in
    let keeps = apart_keeps context full t joined
    (own_of_view context joined (subst (HaveOwnClasses context) (sym view) (view_own context gs own))) (seen ∙ none) in
    record {
      same = keeps.same ∙ sym (apart-view full joined) ∙ ap (apart_text full) view ∙ apart-view full gs;
      own = keeps.own;
    }
