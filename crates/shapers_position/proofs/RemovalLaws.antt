-- The laws of ignorable glyphs that go or are drawn by another one, and of positions.
use Rattle.std.proofs.lemmas.Slice.Zip.{get_or-zip, length-zip}
use Rattle.std.proofs.Common.{◌≡◌, ◌+◌, ◌-◌, ◌/◌, ◌%◌, ◌<◌, ◌≤◌, ℕ, suc, min, Bool, true, false, ◌&&◌, cond, List, [], ◌∷◌, ◌++◌, inl, inr, length, map, refl, sym, ap, subst, ◌∙◌, arith}
use Rattle.std.specs.Prelude.{filter, nat_lt, not}
use Rattle.std.specs.List.{AllPairs, Contains, list_any, prefix_len, zip}
use Rattle.std.proofs.lemmas.Bool.{or_parts}
use Rattle.std.proofs.lemmas.Bool.Decides.{nat_tests}
use Rattle.std.proofs.lemmas.List.{append-nil, append_assoc, get_or-map, length-map, map-append, take-append-drop}
use Rattle.std.proofs.lemmas.List.Elements.{All-contains_itself}
use Rattle.shapers_base.specs.declared.font.GlyphId.{GlyphId}
use Rattle.shapers_buffer.specs.declared.buffer.glyph.GlyphPosition.{GlyphPosition}
use Rattle.shapers_buffer.specs.Glyphs.{Glyph, Glyphs}
use Rattle.shapers_buffer.specs.declared.buffer.level.BufferClusterLevel.{BufferClusterLevel}
use Rattle.shapers_buffer.specs.Clusters.{has_cluster, last_cluster, merge, merged, merges}
use Rattle.shapers_buffer.specs.Glyph.{clusters, default_glyph, default_position, order_view, plain, without_flags}
use Rattle.shapers_buffer.specs.Lists.{before_last_stretch, last_stretch}
use Rattle.shapers_buffer.proofs.MappedLists.{map-hidden}
use Rattle.shapers_clusters.specs.Cuts.{IsFalling, IsMonotone, IsRising}
use Rattle.shapers_clusters.proofs.ClusterMerges.{clusters-merge}
use Rattle.shapers_clusters.proofs.Cuts.{stays_falling, stays_rising}
use Rattle.shapers_clusters.proofs.FlagCalls.{without_flags-or}
use Rattle.shapers_clusters.proofs.Halves.{Each, each-append}
use Rattle.shapers_clusters.proofs.Merging.{order_view-merge, without_flags-twice}
use Rattle.shapers_normal.proofs.Beside.{all_of, each-merge, each_of}
use Rattle.shapers_normal.proofs.Pairs.{Cross, Pairs, each_as, from_pairs, pairs-append, pairs-cross, pairs-first, pairs-last, to_pairs}
use Rattle.shapers_position.specs.Ignorables.{covering, drawn_by, is_of_cluster, in_place_of, is_default_ignorable, stays_in_text, positions_kept, removed, removed_behind}
use Rattle.shapers_position.specs.Laws.{DrawnLaw, PositionsLaw, RemovalLaw, with_glyph_id}

-- a list in what stands before its last run, and that
run_apart : {X : Type 0} (test : X → Bool) (xs : List X) → before_last_stretch test xs ++ last_stretch test xs ≡ xs
run_apart test xs = take-append-drop _ xs

-- ---- what stays, but for its cluster and flags

view_in_place : (gone g : Glyph) → plain (in_place_of gone g) ≡ plain g
view_in_place gone g =
    let none : gone.mask % 8 / 8 ≡ 0 = omega arith in
    ap (λ (m : ℕ). record g { cluster = 0; mask = m }) (without_flags-or (without_flags g.mask) (gone.mask % 8) none
    ∙ without_flags-twice g.mask)

view_by : (b : Bool) (gone : Glyph) (front run gs : Glyphs) → front ++ run ≡ gs →
    order_view (cond b (front ++ map (in_place_of gone) run) gs) ≡ order_view gs
view_by false gone front run gs is = refl
view_by true gone front run gs is =
    map-append plain front (map (in_place_of gone) run)
    ∙ ap (λ xs. order_view front ++ xs) (map-hidden plain (in_place_of gone) (view_in_place gone) run)
    ∙ sym (map-append plain front run)
    ∙ ap order_view is

view_covering : (gone : Glyph) (gs : Glyphs) → order_view (covering gone gs) ≡ order_view gs
view_covering gone gs =
    let in_last = has_cluster (last_cluster gs) in
    view_by (nat_lt gone.cluster (last_cluster gs)) gone (before_last_stretch in_last gs) (last_stretch in_last gs) gs
    (run_apart in_last gs)

view_goes : (b : Bool) (gone : Glyph) (gs : Glyphs) →
    order_view (cond b gs (covering gone gs)) ≡ order_view gs
view_goes true gone gs = refl
view_goes false gone gs = view_covering gone gs

view_removed : (kept gs : Glyphs) → order_view (removed_behind kept gs)
    ≡ order_view kept ++ filter stays_in_text (order_view gs)
view_removed kept [] = sym (append-nil (order_view kept))
view_removed kept (g ∷ gs) =
    let after = cond (is_of_cluster g.cluster gs) kept (covering g kept) in
    let here = order_view kept in
    let rest = filter stays_in_text (order_view gs) in
    elim (is_default_ignorable g) as (λ b. order_view
    (cond b (removed_behind after gs) (removed_behind (kept ++ g ∷ []) gs))
    ≡ here ++ cond (not b) (plain g ∷ rest) rest) [
      | true ↦ view_removed after gs ∙ ap (λ xs. xs ++ rest) (view_goes (is_of_cluster g.cluster gs) g kept)
      | false ↦ view_removed (kept ++ g ∷ []) gs ∙ ap (λ xs. xs ++ rest) (map-append plain kept (g ∷ []))
          ∙ append_assoc here (plain g ∷ []) rest
    ]

-- the view of those that stay is of those of the view that do
filter_view : (gs : Glyphs) → filter stays_in_text (order_view gs) ≡ order_view (filter stays_in_text gs)
filter_view [] = refl
filter_view (g ∷ gs) =
    elim (stays_in_text g) as
    (λ b. cond b (plain g ∷ filter stays_in_text (order_view gs)) (filter stays_in_text (order_view gs))
    ≡ order_view (cond b (g ∷ filter stays_in_text gs) (filter stays_in_text gs))) [
      | true ↦ ap (λ xs. plain g ∷ xs) (filter_view gs)
      | false ↦ filter_view gs
    ]

-- ---- what holds of each cluster, and of each with each later one

each_in_place : (P : ℕ → Type 0) (gone : Glyph) (gs : Glyphs) → P gone.cluster →
    Each P (map (in_place_of gone) gs)
each_in_place P gone [] p = tt
each_in_place P gone (g ∷ gs) p = (p, each_in_place P gone gs p)

each_parts : (P : ℕ → Type 0) (front run : Glyphs) → Each P (front ++ run) → Each P front
each_parts P [] run all = tt
each_parts P (g ∷ front) run all = (all.0, each_parts P front run all.1)

each_by : (P : ℕ → Type 0) (b : Bool) (gone : Glyph) (front run gs : Glyphs) →
    front ++ run ≡ gs → P gone.cluster → Each P gs → Each P (cond b (front ++ map (in_place_of gone) run) gs)
each_by P false gone front run gs is p all = all
each_by P true gone front run gs is p all =
    let Q : Glyphs → Type 0 = Each P in
    each-append P front (map (in_place_of gone) run) (each_parts P front run (subst Q (sym is) all))
    (each_in_place P gone run p)

each_goes : (P : ℕ → Type 0) (b : Bool) (gone : Glyph) (gs : Glyphs) → P gone.cluster →
    Each P gs → Each P (cond b gs (covering gone gs))
each_goes P true gone gs p all = all
each_goes P false gone gs p all =
    let in_last = has_cluster (last_cluster gs) in
    each_by P (nat_lt gone.cluster (last_cluster gs)) gone (before_last_stretch in_last gs) (last_stretch in_last gs) gs
    (run_apart in_last gs) p all

each_removed : (P : ℕ → Type 0) (kept gs : Glyphs) → Each P kept → Each P gs →
    Each P (removed_behind kept gs)
each_removed P kept [] p q = p
each_removed P kept (g ∷ gs) p q =
    let after = cond (is_of_cluster g.cluster gs) kept (covering g kept) in
    elim (is_default_ignorable g) as (λ b. Each P (cond b (removed_behind after gs)
    (removed_behind (kept ++ g ∷ []) gs))) [
      | true ↦ each_removed P after gs (each_goes P (is_of_cluster g.cluster gs) g kept q.0 p) q.1
      | false ↦ each_removed P (kept ++ g ∷ []) gs (each-append P kept (g ∷ []) p (q.0, tt)) q.1
    ]

pairs_in_place : (R : ℕ → ℕ → Type 0) (gone : Glyph) (gs : Glyphs) →
    R gone.cluster gone.cluster → Pairs R (map (in_place_of gone) gs)
pairs_in_place R gone [] self = tt
pairs_in_place R gone (g ∷ gs) self = (each_in_place (R gone.cluster) gone gs self, pairs_in_place R gone gs self)

-- a glyph goes, and those directly before it take its cluster
pairs_covered : (R : ℕ → ℕ → Type 0) (gone : Glyph) (front run gs : Glyphs) →
    R gone.cluster gone.cluster → Pairs R ((front ++ run) ++ gone ∷ gs) →
    Pairs R ((front ++ map (in_place_of gone) run) ++ gs)
pairs_covered R gone front run gs self all =
    let Q : Glyphs → Type 0 = Pairs R in
    let new = map (in_place_of gone) run in
    let whole : Pairs R (front ++ (run ++ gone ∷ gs)) = subst Q (append_assoc front run (gone ∷ gs)) all in
    let last = pairs-last R (front ++ run) (gone ∷ gs) all in
    let beside = pairs-cross R (front ++ run) (gone ∷ gs) all in
    let crossing : Cross R new gs = each_in_place (λ k. Each (R k) gs) gone run last.0 in
    let others : Cross R front (new ++ gs) =
    each_as (λ k. Each (R k) (gone ∷ gs)) (λ k. Each (R k) (new ++ gs)) front
    (λ k e. each-append (R k) new gs (each_in_place (R k) gone run e.0) e.1)
    (each_parts (λ k. Each (R k) (gone ∷ gs)) front run beside) in
    subst Q (sym (append_assoc front new gs))
    (pairs-append R front (new ++ gs) (pairs-first R front (run ++ gone ∷ gs) whole)
    (pairs-append R new gs (pairs_in_place R gone run self) last.1 crossing) others)

pairs_gone : (R : ℕ → ℕ → Type 0) (gone : Glyph) (kept gs : Glyphs) →
    Pairs R (kept ++ gone ∷ gs) → Pairs R (kept ++ gs)
pairs_gone R gone kept gs all =
    pairs-append R kept gs (pairs-first R kept (gone ∷ gs) all) (pairs-last R kept (gone ∷ gs) all).1
    (each_as (λ k. Each (R k) (gone ∷ gs)) (λ k. Each (R k) gs) kept (λ k e. e.1) (pairs-cross R kept (gone ∷ gs) all))

pairs_by : (R : ℕ → ℕ → Type 0) (b : Bool) (gone : Glyph) (front run kept gs : Glyphs) →
    R gone.cluster gone.cluster → front ++ run ≡ kept → Pairs R (kept ++ gone ∷ gs) →
    Pairs R (cond b (front ++ map (in_place_of gone) run) kept ++ gs)
pairs_by R false gone front run kept gs self is all = pairs_gone R gone kept gs all
pairs_by R true gone front run kept gs self is all =
    let Q : Glyphs → Type 0 = λ xs. Pairs R (xs ++ gone ∷ gs) in
    pairs_covered R gone front run gs self (subst Q (sym is) all)

pairs_goes : (R : ℕ → ℕ → Type 0) (b : Bool) (gone : Glyph) (kept gs : Glyphs) →
    R gone.cluster gone.cluster → Pairs R (kept ++ gone ∷ gs) → Pairs R (cond b kept (covering gone kept) ++ gs)
pairs_goes R true gone kept gs self all = pairs_gone R gone kept gs all
pairs_goes R false gone kept gs self all =
    let in_last = has_cluster (last_cluster kept) in
    pairs_by R (nat_lt gone.cluster (last_cluster kept)) gone (before_last_stretch in_last kept)
    (last_stretch in_last kept) kept gs self (run_apart in_last kept) all

pairs_removed : (R : ℕ → ℕ → Type 0) → ((k : ℕ) → R k k) → (kept gs : Glyphs) → Pairs R (kept ++ gs) →
    Pairs R (removed_behind kept gs)
pairs_removed R self kept [] all = let Q : Glyphs → Type 0 = Pairs R in subst Q (append-nil kept) all
pairs_removed R self kept (g ∷ gs) all =
    let Q : Glyphs → Type 0 = Pairs R in
    let after = cond (is_of_cluster g.cluster gs) kept (covering g kept) in
    elim (is_default_ignorable g) as (λ b. Pairs R
    (cond b (removed_behind after gs) (removed_behind (kept ++ g ∷ []) gs))) [
      | true ↦ pairs_removed R self after gs (pairs_goes R (is_of_cluster g.cluster gs) g kept gs (self g.cluster) all)
      | false ↦ pairs_removed R self (kept ++ g ∷ []) gs (subst Q (sym (append_assoc kept (g ∷ []) gs)) all)
    ]

order_removed : (R : ℕ → ℕ → Type 0) → ((k : ℕ) → R k k) → (gs : Glyphs) → AllPairs R (clusters gs) →
    AllPairs R (clusters (removed_behind [] gs))
order_removed R self gs all = from_pairs R (removed_behind [] gs) (pairs_removed R self [] gs (to_pairs R gs all))

-- ---- where nothing goes

none_goes : (kept gs : Glyphs) → list_any is_default_ignorable gs ≡ false →
    removed_behind kept gs ≡ kept ++ gs
none_goes kept [] none = sym (append-nil kept)
none_goes kept (g ∷ gs) none =
    let after = cond (is_of_cluster g.cluster gs) kept (covering g kept) in
    let both = or_parts (is_default_ignorable g) (list_any is_default_ignorable gs) none in
    ap (λ b. cond b (removed_behind after gs) (removed_behind (kept ++ g ∷ []) gs)) both.0
    ∙ none_goes (kept ++ g ∷ []) gs both.1
    ∙ append_assoc kept (g ∷ []) gs

none_opens : (gs : Glyphs) → list_any is_default_ignorable gs ≡ false →
    prefix_len is_default_ignorable gs ≡ 0
none_opens [] none = refl
none_opens (g ∷ gs) none =
    let both = or_parts (is_default_ignorable g) (list_any is_default_ignorable gs) none in
    ap (λ b. cond b (1 + prefix_len is_default_ignorable gs) 0) both.0

-- one glyph, or none, merges with nothing
short_by : (b : Bool) (gs ms : Glyphs) → cond (b && false) ms gs ≡ gs
short_by true gs ms = refl
short_by false gs ms = refl

short_merge : (level : BufferClusterLevel) (e : ℕ) (gs : Glyphs) → e < 2 → merge level 0 e gs ≡ gs
short_merge level e gs short =
    let few : nat_lt (e - 0) 2 ≡ true = grind (arith, nat_tests) in
    ap (λ b. cond (merges level && not b) (merged 0 e gs) gs) few ∙ short_by (merges level) gs (merged 0 e gs)

-- ---- positions, and glyphs that are drawn by another one

as_many : (gs : Glyphs) (ps : List GlyphPosition) → length ps ≡ length gs →
    length (positions_kept gs ps) ≡ length (filter stays_in_text gs)
as_many [] ps same = refl
as_many (g ∷ gs) [] same = absurd (omega arith)
as_many (g ∷ gs) (p ∷ ps) same =
    let cells = filter (λ (c : Glyph × GlyphPosition). stays_in_text c.0) (zip gs ps) in
    let one : Glyph × GlyphPosition → GlyphPosition = λ c. c.1 in
    elim (stays_in_text g)
    as (λ b. length (map one (cond b ((g, p) ∷ cells) cells))
    ≡ length (cond b (g ∷ filter stays_in_text gs) (filter stays_in_text gs))) [
      | true ↦ ap suc (as_many gs ps (omega arith))
      | false ↦ as_many gs ps (omega arith)
    ]

by_length : (gs hs : Glyphs) → order_view gs ≡ order_view hs → length hs ≡ length gs
by_length gs hs same = sym (sym (length-map gs plain) ∙ ap length same ∙ length-map hs plain)

drawn_number : (glyph : GlyphId) (n : ℕ) (g : Glyph) → with_glyph_id n (drawn_by glyph g) ≡ with_glyph_id n g
drawn_number glyph n g =
    elim (is_default_ignorable g)
    as (λ b. with_glyph_id n (cond b (let r : Glyph = record g { glyph_id = glyph.0 } in r) g)
    ≡ with_glyph_id n g)
    [ true ↦ refl | false ↦ refl ]

pub drawn_keep : DrawnLaw
drawn_keep glyph n gs = map-hidden (with_glyph_id n) (drawn_by glyph) (drawn_number glyph n) gs

pub changed_by_glyphs : PositionsLaw
changed_by_glyphs f gs ps same =
    let one : Glyph × GlyphPosition → GlyphPosition = λ c. f c.0 c.1 in
    record {
      same_length = length-map (zip gs ps) one ∙ (let n = length-zip gs ps in omega (arith, n, same));
      each = λ i inside.
          get_or-map one (zip gs ps) i (default_glyph, default_position) default_position
          (omega (arith, length-zip gs ps, same))
          ∙ ap one (get_or-zip gs ps i (default_glyph, default_position) inside (omega (arith, same)));
    }

-- ---- all

abbrev opening_end : Glyphs → ℕ
opening_end gs = min (prefix_len is_default_ignorable gs + 1) (length gs)

monotone_removed : (level : BufferClusterLevel) (gs : Glyphs) → IsMonotone (clusters gs) →
    IsMonotone (clusters (removed level gs))
monotone_removed level gs order =
    let e = opening_end gs in
    let ms = merge level 0 e gs in
    let within : e ≤ length (clusters gs) = omega (arith, length-map gs (λ (g : Glyph). g.cluster)) in
    let joined = clusters-merge level 0 e gs in
    elim order [
      | inl rises ↦ inl (order_removed (λ a b. a ≤ b) (λ k. omega arith) ms
          (subst IsRising (sym joined) (stays_rising level ((0, e) ∷ []) (clusters gs) (within, tt) rises)))
      | inr falls ↦ inr (order_removed (λ a b. b ≤ a) (λ k. omega arith) ms
          (subst IsFalling (sym joined) (stays_falling level ((0, e) ∷ []) (clusters gs) (within, tt) falls)))
    ]

pub ignorables_are_removed : RemovalLaw
ignorables_are_removed level gs =
    let e = opening_end gs in
    let ms = merge level 0 e gs in
    let P : ℕ → Type 0 = Contains (clusters gs) in
    let view = view_removed [] ms ∙ ap (filter stays_in_text) (order_view-merge level 0 e gs) ∙ filter_view gs in
    record {
      same_view = view;
      paired = λ ps same. as_many gs ps same ∙ by_length (removed level gs) (filter stays_in_text gs) view;
      old_clusters = all_of P (removed level gs) (each_removed P [] ms tt
          (each-merge P level 0 e gs (omega arith) (each_of P gs (All-contains_itself (clusters gs)))));
      monotone = monotone_removed level gs;
      none = λ none. ap (removed_behind []) (short_merge level e gs (omega (arith, none_opens gs none)))
          ∙ none_goes [] gs none;
    }
