-- Pauses that stand between the set-up and the reordering of the universal shaper leave results side by side.
use Rattle.std.proofs.Common.{ℕ, if◌then◌else◌, max, ◌-◌, ◌<◌, ◌≡◌, ◌==◌, ◌&&◌, ◌||◌, true, false, List, [], ◌∷◌, ◌++◌, length, map, take, drop, slice_index, get_or, refl, sym, ap, ◌∙◌, subst, arith, not}
use Rattle.std.specs.List.{All, AllByRecursion, flat_map, list_any, prefix_len}
use Rattle.std.proofs.lemmas.List.{drop-map, drop_at, length-map, map-append, take-append-drop, take-map, take_at}
use Rattle.std.proofs.lemmas.List.Concat.{flat_map-append}
use Rattle.std.proofs.lemmas.List.Elements.{All-from_get_or, All-get_or, AllZip-get_or}
use Rattle.shapers_buffer.specs.Glyphs.{Glyph, Glyphs}
use Rattle.shapers_buffer.specs.declared.buffer.glyph_props.GlyphProps.{GlyphProps}
use Rattle.shapers_buffer.specs.Buffer.{Buffer}
use Rattle.shapers_buffer.specs.Clusters.{least}
use Rattle.shapers_buffer.specs.Glyph.{clusters, default_glyph}
use Rattle.shapers_buffer.specs.Properties.{is_substituted}
use Rattle.shapers_buffer.specs.Syllables.{syllables}
use Rattle.shapers_buffer.proofs.MappedLists.{map-hidden, map-seen, prefix_len-seen}
use Rattle.shapers_base.specs.Masks.{has_bits}
use Rattle.shapers_clusters.specs.Breaks.{IsClear, is_unsafe}
use Rattle.shapers_clusters.specs.Cuts.{ShareNone}
use Rattle.shapers_syllabic.specs.Borders.{MeetAtBorder, SameButSerials, unnumbered}
use Rattle.shapers_syllabic.specs.Syllabic.{unsubstituted}
use Rattle.shapers_syllabic.proofs.Borders.{OfByte, bytes, syllables-append, syllables-mapped, syllables-viewed}
use Rattle.shapers_syllabic.proofs.CircleLaws.{joined-syllables}
use Rattle.shapers_syllabic.proofs.PauseCuts.{apart_by}
use Rattle.shapers_syllabic.proofs.Serials.{KeepsSame, pieces_same}
use Rattle.shapers_universal.specs.PlanData.{rphf_of}
use Rattle.shapers_universal.specs.UniversalSyllables.{first_recorded, in_category, rphf_recorded}
use Rattle.shapers_universal.specs.declared.ot_shaper_use.category.TheConstants.{R, VPre}
use Rattle.shapers_break_laws.specs.BetweenPauses.{BetweenPausesLaw, LeavesHalves, LeavesHalvesThen}
use Rattle.shapers_break_laws.specs.ChainBreaks.{LeavesSideBySide, MadeOfHalves}
use Rattle.shapers_break_laws.specs.KeptTextBreaks.{FlaggedInside, FlagsKept}
use Rattle.shapers_break_laws.specs.Setup.{IsFlagged}
use Rattle.shapers_break_laws.specs.UniversalChain.{LeavesWhereClear, ReadsOnly, without_glyph_flags}
use Rattle.shapers_break_laws.proofs.MaskReads.{mask_read}
use Rattle.shapers_break_laws.proofs.UniversalSetup.{KeepPieces, KeepShapes, KeepsShape, clusters_kept, long_kept, syllables_kept}
use Rattle.shapers_break_laws.proofs.UniversalSound.{meet_same}

-- What may stand between a set-up and a reordering, as the laws of both choices presume it.
pub record IsBetween (view : Glyph → Glyph) (lookups : Glyphs → Glyphs) : Type 0 where
  pub side_by_side : (gs : Glyphs) → LeavesSideBySide lookups gs
  pub where_clear : (gs : Glyphs) → LeavesWhereClear lookups gs
  pub reads : ReadsOnly view lookups
  pub flags : (gs : Glyphs) → FlagsKept gs → FlagsKept (lookups gs)

-- one after the other
made_on : (a b : Glyphs → Glyphs) (gs front back : Glyphs) → (late : MadeOfHalves b (a gs) front back)
    → MadeOfHalves a gs late.before late.behind → MadeOfHalves (λ xs. b (a xs)) gs front back
made_on a b gs front back late soon = record {
  before = soon.before;
  behind = soon.behind;
  text = soon.text;
  border = soon.border;
  apart = soon.apart;
  first = ap b soon.first ∙ late.first;
  second = ap b soon.second ∙ late.second;
}

pub between_both : (view : Glyph → Glyph) (a b : Glyphs → Glyphs) → IsBetween view a
    → IsBetween view b → IsBetween view (λ gs. b (a gs))
unfolding made_on
between_both view a b x y = record {
  side_by_side = λ gs. record {
    halves = λ front back text border apart.
        let late = (y.side_by_side (a gs)).halves front back text border apart in
        made_on a b gs front back late
        ((x.side_by_side gs).halves late.before late.behind late.text late.border late.apart);
    serials = λ xs ys same. (y.side_by_side xs).serials (a xs) (a ys) ((x.side_by_side xs).serials xs ys same);
  };
  where_clear = λ gs front back text border apart inside clear.
      let late = y.where_clear (a gs) front back text border apart inside clear in
      let cut = late.cut in
      let soon = x.where_clear gs cut.before cut.behind cut.text cut.border cut.apart late.inside late.clear in
      record { cut = made_on a b gs front back cut soon.cut; inside = soon.inside; clear = soon.clear };
  reads = λ gs hs same. y.reads (a gs) (a hs) (x.reads gs hs same);
  flags = λ gs kept. y.flags (a gs) (x.flags gs kept);
}

-- cluster, mask and syllable byte alone
abbrev pub bare : Glyph → Glyph
bare g = record default_glyph { cluster = g.cluster; mask = g.mask; syllable = g.syllable }

bare_shapes : (gs hs : Glyphs) → map bare hs ≡ map bare gs → KeepShapes gs hs
bare_shapes [] [] same = tt
bare_shapes [] (h ∷ hs) same = absurd (omega (arith, ap length same))
bare_shapes (g ∷ gs) [] same = absurd (omega (arith, ap length same))
bare_shapes (g ∷ gs) (h ∷ hs) same =
    let first : bare h ≡ bare g = ap (λ xs. get_or xs 0 default_glyph) same in
    let masks : h.mask ≡ g.mask = ap (λ (x : Glyph). x.mask) first in (
      record {
        cluster = ap (λ (x : Glyph). x.cluster) first;
        byte = ap (λ (x : Glyph). x.syllable) first;
        flags = λ f. (omega (arith, f.0, masks), omega (arith, f.1, masks));
      },
      bare_shapes gs hs (ap (drop 1) same),
    )

-- glyphs of the same shapes
pub bytes_kept : (gs hs : Glyphs) → KeepShapes gs hs → bytes hs ≡ bytes gs
bytes_kept [] [] h = refl
bytes_kept [] (x ∷ xs) h = absurd h
bytes_kept (g ∷ gs) [] h = absurd h
bytes_kept (g ∷ gs) (x ∷ xs) h = ap (λ (c : ℕ). c ∷ bytes xs) h.0.byte ∙ ap (λ cs. g.syllable ∷ cs)
    (bytes_kept gs xs h.1)

inside_kept : (p q : Glyphs) → KeepShapes p q → FlaggedInside p → FlaggedInside q
inside_kept p q k h =
    let d = default_glyph in
    let cs = clusters_kept p q k in
    let P : ℕ → Glyph → Type 0 = λ m g. m < g.cluster → IsFlagged g in
    subst (λ (m : ℕ). All (P m) q) (ap least (sym cs))
    (All-from_get_or (P (least (clusters p))) q d (λ i l.
    let il : i < length p = omega (arith, long_kept p q k, l) in
    let r = AllZip-get_or KeepsShape p q i d d k il in
    let o = All-get_or (P (least (clusters p))) p i d il h in
    λ above. r.flags (o (omega (arith, above, r.cluster)))))

pieces_inside : (ps qs : List Glyphs) → KeepPieces ps qs → AllByRecursion FlaggedInside ps
    → AllByRecursion FlaggedInside qs
pieces_inside [] [] k h = tt
pieces_inside [] (q ∷ qs) k h = absurd k
pieces_inside (p ∷ ps) [] k h = absurd k
pieces_inside (p ∷ ps) (q ∷ qs) k h = (inside_kept p q k.0 h.0, pieces_inside ps qs k.1 h.1)

pub flags_kept_by : (gs hs : Glyphs) → KeepShapes gs hs → FlagsKept gs → FlagsKept hs
flags_kept_by gs hs k h = pieces_inside (syllables gs) (syllables hs) (syllables_kept gs hs k) h

-- clear places of a text are those of its bare glyphs
bare_clusters : (gs : Glyphs) → clusters (map bare gs) ≡ clusters gs
bare_clusters [] = refl
bare_clusters (g ∷ gs) = ap (λ cs. g.cluster ∷ cs) (bare_clusters gs)

bare_unsafe : (c : ℕ) (gs : Glyphs) → list_any (λ g. g.cluster == c && is_unsafe g) (map bare gs)
    ≡ list_any (λ g. g.cluster == c && is_unsafe g) gs
bare_unsafe c [] = refl
bare_unsafe c (g ∷ gs) = ap (λ b. (g.cluster == c && is_unsafe g) || b) (bare_unsafe c gs)

clear_same : (gs hs : Glyphs) (p : ℕ) → map bare hs ≡ map bare gs → IsClear hs p → IsClear gs p
clear_same gs hs p same clear =
    let cs : clusters gs ≡ clusters hs = sym (bare_clusters gs) ∙ ap clusters (sym same) ∙ bare_clusters hs in
    let c = max (slice_index (clusters gs) (p - 1)) (slice_index (clusters gs) p) in
    record {
      differ = λ e. clear.differ (ap (λ ks. slice_index ks (p - 1)) (sym cs) ∙ e ∙ ap (λ ks. slice_index ks p) cs);
      unflagged = sym (bare_unsafe c gs) ∙ ap (list_any (λ g. g.cluster == c && is_unsafe g)) (sym same)
          ∙ bare_unsafe c hs
          ∙ ap (λ ks. list_any (λ g. g.cluster == max (slice_index ks (p - 1)) (slice_index ks p) && is_unsafe g) hs) cs
          ∙ clear.unflagged;
    }

-- what keeps shapes, and makes a text's halves one after the other
halves_by : (lookups : Glyphs → Glyphs) → ((gs : Glyphs) → map bare (lookups gs) ≡ map bare gs)
    → ((gs hs : Glyphs) → MeetAtBorder gs hs → lookups (gs ++ hs) ≡ lookups gs ++ lookups hs)
    → (gs front back : Glyphs) → lookups gs ≡ front ++ back → MeetAtBorder front back → ShareNone front back
    → MadeOfHalves lookups gs front back
halves_by lookups shape joined gs front back text border apart =
    let n = length front in
    let cluster : Glyph → ℕ = λ g. g.cluster in
    let byte : Glyph → ℕ = λ g. g.syllable in
    let own : (xs : Glyphs) → KeepShapes xs (lookups xs) = λ xs. bare_shapes xs (lookups xs) (shape xs) in
    let before = take n gs in
    let behind = drop n gs in
    let cs : clusters gs ≡ clusters front ++ clusters back = sym (clusters_kept gs (lookups gs) (own gs))
    ∙ ap clusters text ∙ map-append cluster front back in
    let bs : bytes gs ≡ bytes front ++ bytes back = sym (bytes_kept gs (lookups gs) (own gs)) ∙ ap bytes text
    ∙ map-append byte front back in
    let cf : clusters before ≡ clusters front = sym (take-map cluster n gs) ∙ ap (take n) cs
    ∙ take_at (clusters front) (clusters back) n (length-map front cluster) in
    let cb : clusters behind ≡ clusters back = sym (drop-map cluster n gs) ∙ ap (drop n) cs
    ∙ drop_at (clusters front) (clusters back) n (length-map front cluster) in
    let bf : bytes before ≡ bytes front = sym (take-map byte n gs) ∙ ap (take n) bs
    ∙ take_at (bytes front) (bytes back) n (length-map front byte) in
    let bb : bytes behind ≡ bytes back = sym (drop-map byte n gs) ∙ ap (drop n) bs
    ∙ drop_at (bytes front) (bytes back) n (length-map front byte) in
    let meet : MeetAtBorder before behind = meet_same front back before behind bf bb border in
    let whole : lookups before ++ lookups behind ≡ front ++ back = sym (joined before behind meet)
    ∙ ap lookups (take-append-drop n gs) ∙ text in
    let long : length (lookups before) ≡ n = long_kept before (lookups before) (own before)
    ∙ sym (length-map before cluster) ∙ ap length cf ∙ length-map front cluster in
    record {
      before = before;
      behind = behind;
      text = sym (take-append-drop n gs);
      border = meet;
      apart = apart_by before behind front back cf cb apart;
      first = sym (take_at (lookups before) (lookups behind) n long) ∙ ap (take n) whole ∙ take_at front back n refl;
      second = sym (drop_at (lookups before) (lookups behind) n long) ∙ ap (drop n) whole ∙ drop_at front back n refl;
    }

pub between_by : (view : Glyph → Glyph) (lookups : Glyphs → Glyphs)
    → ((gs : Glyphs) → map bare (lookups gs) ≡ map bare gs)
    → ((gs hs : Glyphs) → MeetAtBorder gs hs → lookups (gs ++ hs) ≡ lookups gs ++ lookups hs)
    → ((gs hs : Glyphs) → SameButSerials gs hs → SameButSerials (lookups gs) (lookups hs))
    → ((gs : Glyphs) → map view (lookups gs) ≡ lookups (map view gs)) → IsBetween view lookups
between_by view lookups shape joined serials seen =
    let own : (xs : Glyphs) → KeepShapes xs (lookups xs) = λ xs. bare_shapes xs (lookups xs) (shape xs) in
    record {
      side_by_side = λ gs. record { halves = halves_by lookups shape joined gs; serials = serials };
      where_clear = λ gs front back text border apart inside clear.
          let cut = halves_by lookups shape joined gs front back text border apart in
          let long : length front ≡ length cut.before = ap length (sym cut.first)
          ∙ long_kept cut.before (lookups cut.before) (own cut.before) in
          let all = long_kept gs (lookups gs) (own gs) in
          record {
            cut = cut;
            inside = omega arith;
            clear = subst (IsClear gs) long (clear_same gs (lookups gs) (length front) (shape gs) clear);
          };
      reads = λ gs hs same. subst (λ xs. SameButSerials xs (map view (lookups hs))) (sym (seen gs))
          (subst (SameButSerials (lookups (map view gs))) (sym (seen hs))
          (serials (map view gs) (map view hs) same));
      flags = λ gs. flags_kept_by gs (lookups gs) (own gs);
    }

-- so what is made syllable by syllable
piecewise_shape : (f : Glyphs → Glyphs) → ((p : Glyphs) → map bare (f p) ≡ map bare p) → (ps : List Glyphs)
    → map bare (flat_map f ps) ≡ map bare (flat_map (λ p. p) ps)
piecewise_shape f shape [] = refl
piecewise_shape f shape (p ∷ ps) = map-append bare (f p) (flat_map f ps)
    ∙ ap (λ l. l ++ map bare (flat_map f ps)) (shape p)
    ∙ ap (λ l. map bare p ++ l) (piecewise_shape f shape ps)
    ∙ sym (map-append bare p (flat_map (λ p. p) ps))

piecewise_seen : (view : Glyph → Glyph) (f : Glyphs → Glyphs)
    → ((p : Glyphs) → f (map view p) ≡ map view (f p)) → (ps : List Glyphs)
    → flat_map f (map (map view) ps) ≡ map view (flat_map f ps)
piecewise_seen view f seen [] = refl
piecewise_seen view f seen (p ∷ ps) = ap (λ l. l ++ flat_map f (map (map view) ps)) (seen p)
    ∙ ap (λ l. map view (f p) ++ l) (piecewise_seen view f seen ps)
    ∙ sym (map-append view (f p) (flat_map f ps))

of_byte_kept : (byte : ℕ) (gs hs : Glyphs) → KeepShapes gs hs → OfByte byte gs → OfByte byte hs
of_byte_kept byte gs hs k u =
    let d = default_glyph in
    let some = u.some in
    let long = long_kept gs hs k in
    record {
      some = omega arith;
      all = All-from_get_or (λ g. g.syllable ≡ byte) hs d (λ i l.
          let il : i < length gs = omega arith in
          (AllZip-get_or KeepsShape gs hs i d d k il).byte ∙ All-get_or (λ g. g.syllable ≡ byte) gs i d il u.all);
    }

pub between_each : (view : Glyph → Glyph) → ((g : Glyph) → (view g).syllable
    ≡ g.syllable) → (f : Glyphs → Glyphs) → ((p : Glyphs) → map bare (f p) ≡ map bare p)
    → ((p : Glyphs) → f (map unnumbered p) ≡ map unnumbered (f p)) → ((p : Glyphs) → f (map view p) ≡ map view (f p))
    → IsBetween view (λ gs. flat_map f (syllables gs))
between_each view byte f shape serials seen =
    let keeps : (b : ℕ) (gs : Glyphs) → OfByte b gs → OfByte b (f gs) =
    λ b gs. of_byte_kept b gs (f gs) (bare_shapes gs (f gs) (shape gs)) in
    let same_pieces : KeepsSame f = λ gs hs same. sym (serials gs) ∙ ap f same ∙ serials hs in
    between_by view (λ gs. flat_map f (syllables gs))
    (λ gs. piecewise_shape f shape (syllables gs) ∙ ap (map bare) (joined-syllables gs))
    (λ gs hs border. ap (flat_map f) (syllables-append gs hs border) ∙ flat_map-append f (syllables gs) (syllables hs))
    (λ gs hs same. ap (map (map unnumbered)) (syllables-mapped f keeps gs)
    ∙ pieces_same f same_pieces (syllables gs) (syllables hs) same
    ∙ sym (ap (map (map unnumbered)) (syllables-mapped f keeps hs)))
    (λ gs. sym (ap (flat_map f) (syllables-viewed view byte gs) ∙ piecewise_seen view f seen (syllables gs)))

-- the records of rphf and pref
recorded_shape : (c : ℕ) (gs : Glyphs) → map bare (first_recorded c gs) ≡ map bare gs
recorded_shape c [] = refl
recorded_shape c (g ∷ gs) = elim (is_substituted g.glyph_props) as
    (λ b. map bare (if b then in_category c g ∷ gs else g ∷ first_recorded c gs) ≡ map bare (g ∷ gs)) [
      | true ↦ refl
      | false ↦ ap (λ l. bare g ∷ l) (recorded_shape c gs)
    ]

-- a view that shows marks and categories as they are
pub record ShowsCategories (view : Glyph → Glyph) : Type 0 where
  pub byte : (g : Glyph) → (view g).syllable ≡ g.syllable
  pub marks : (g : Glyph) → (view g).glyph_props ≡ g.glyph_props
  pub category : (c : ℕ) (g : Glyph) → in_category c (view g) ≡ view (in_category c g)

recorded_seen : (view : Glyph → Glyph)
    → ((g : Glyph) → (view g).glyph_props ≡ g.glyph_props) → (c : ℕ)
    → ((g : Glyph) → in_category c (view g) ≡ view (in_category c g)) → (gs : Glyphs)
    → first_recorded c (map view gs) ≡ map view (first_recorded c gs)
recorded_seen view marks c category [] = refl
recorded_seen view marks c category (g ∷ gs) =
    ap (λ (m : GlyphProps). if is_substituted m then in_category c (view g) ∷ map view gs
    else view g ∷ first_recorded c (map view gs)) (marks g)
    ∙ elim (is_substituted g.glyph_props) as (λ b. (if b then in_category c (view g) ∷ map view gs
    else view g ∷ first_recorded c (map view gs))
    ≡ map view (if b then in_category c g ∷ gs else g ∷ first_recorded c gs)) [
      | true ↦ ap (λ x. x ∷ map view gs) (category g)
      | false ↦ ap (λ l. view g ∷ l) (recorded_seen view marks c category gs)
    ]

pub pref_between : (view : Glyph → Glyph) → ShowsCategories view
    → IsBetween view (λ gs. flat_map (first_recorded VPre) (syllables gs))
pref_between view shows = between_each view shows.byte (first_recorded VPre) (recorded_shape VPre)
    (recorded_seen unnumbered (λ g. refl) VPre (λ g. refl))
    (recorded_seen view shows.marks VPre (shows.category VPre))

rphf_shape : (mask : ℕ) (gs : Glyphs) → map bare (rphf_recorded mask gs) ≡ map bare gs
rphf_shape mask gs =
    let n = prefix_len (has_bits mask) gs in
    map-append bare (first_recorded R (take n gs)) (drop n gs)
    ∙ ap (λ l. l ++ map bare (drop n gs)) (recorded_shape R (take n gs))
    ∙ sym (map-append bare (take n gs) (drop n gs)) ∙ ap (map bare) (take-append-drop n gs)

rphf_seen : (view : Glyph → Glyph) → ((g : Glyph) → (view g).glyph_props ≡ g.glyph_props)
    → ((g : Glyph) → in_category R (view g) ≡ view (in_category R g)) → (mask : ℕ)
    → ((g : Glyph) → has_bits mask (view g) ≡ has_bits mask g) → (gs : Glyphs)
    → rphf_recorded mask (map view gs) ≡ map view (rphf_recorded mask gs)
rphf_seen view marks category mask same gs =
    let n = prefix_len (has_bits mask) gs in
    ap (λ k. first_recorded R (take k (map view gs)) ++ drop k (map view gs))
    (prefix_len-seen (has_bits mask) view same gs)
    ∙ ap (λ l. first_recorded R l ++ drop n (map view gs)) (take-map view n gs)
    ∙ ap (λ l. first_recorded R (map view (take n gs)) ++ l) (drop-map view n gs)
    ∙ ap (λ l. l ++ map view (drop n gs)) (recorded_seen view marks R category (take n gs))
    ∙ sym (map-append view (first_recorded R (take n gs)) (drop n gs))

-- that of rphf where the view shows its mask
pub rphf_between : (view : Glyph → Glyph) → ShowsCategories view → (mask : ℕ)
    → ((g : Glyph) → has_bits mask (view g) ≡ has_bits mask g)
    → IsBetween view (λ gs. flat_map (rphf_recorded mask) (syllables gs))
rphf_between view shows mask same = between_each view shows.byte (rphf_recorded mask) (rphf_shape mask)
    (rphf_seen unnumbered (λ g. refl) (λ g. refl) mask (λ g. refl))
    (rphf_seen view shows.marks (shows.category R) mask same)

-- the mark of substitution cleared
pub unsubstituted_between : (view : Glyph → Glyph)
    → ((g : Glyph) → view (unsubstituted g) ≡ unsubstituted (view g))
    → IsBetween view (λ gs. map unsubstituted gs)
unsubstituted_between view seen =
    let u : Glyphs → Glyphs = map unsubstituted in
    let same_pieces : KeepsSame u = λ gs hs same. map-seen unnumbered unsubstituted (λ g. refl) gs
    ∙ ap u same ∙ sym (map-seen unnumbered unsubstituted (λ g. refl) hs) in
    between_by view u (λ gs. map-hidden bare unsubstituted (λ g. refl) gs)
    (λ gs hs border. map-append unsubstituted gs hs)
    (λ gs hs same. ap (map (map unnumbered)) (syllables-viewed unsubstituted (λ g. refl) gs)
    ∙ pieces_same u same_pieces (syllables gs) (syllables hs) same
    ∙ sym (ap (map (map unnumbered)) (syllables-viewed unsubstituted (λ g. refl) hs)))
    (map-seen view unsubstituted seen)

-- so in buffers
leaves_halves : (made : Glyphs → Glyphs) → IsBetween without_glyph_flags made → (old new : Buffer)
    → new ≡ record old { glyphs = made old.glyphs } → LeavesHalves old new
leaves_halves made is old new same = record {
  made = made;
  level = ap (λ (b : Buffer). b.level) same;
  glyphs = ap (λ (b : Buffer). b.glyphs) same;
  side_by_side = is.side_by_side;
  where_clear = is.where_clear;
  reads = is.reads;
  flags = is.flags;
}

flags_show : ShowsCategories without_glyph_flags
flags_show = record { byte = λ g. refl; marks = λ g. refl; category = λ c g. refl }

pub between_pauses : BetweenPausesLaw
between_pauses plan font spans old new =
    let mask = rphf_of plan.plan_data in
    record {
      cleared = leaves_halves (λ gs. map unsubstituted gs)
          (unsubstituted_between without_glyph_flags (λ g. refl)) old new;
      rphf = λ off. leaves_halves (λ gs. flat_map (rphf_recorded mask) (syllables gs))
          (rphf_between without_glyph_flags flags_show mask
          (λ g. ap (λ n. not (n == 0)) (mask_read g.mask mask off))) old new;
      pref = leaves_halves (λ gs. flat_map (first_recorded VPre) (syllables gs))
          (pref_between without_glyph_flags flags_show) old new;
    }

pub halves_then : LeavesHalvesThen
halves_then old mid new a b =
    let first : IsBetween without_glyph_flags a.made = record {
      side_by_side = a.side_by_side;
      where_clear = a.where_clear;
      reads = a.reads;
      flags = a.flags;
    } in
    let second : IsBetween without_glyph_flags b.made = record {
      side_by_side = b.side_by_side;
      where_clear = b.where_clear;
      reads = b.reads;
      flags = b.flags;
    } in
    let both = between_both without_glyph_flags a.made b.made first second in
    record {
      made = λ gs. b.made (a.made gs);
      level = b.level ∙ a.level;
      glyphs = b.glyphs ∙ ap b.made a.glyphs;
      side_by_side = both.side_by_side;
      where_clear = both.where_clear;
      reads = both.reads;
      flags = both.flags;
    }
