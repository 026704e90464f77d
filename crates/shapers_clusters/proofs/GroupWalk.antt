-- The walk over groups: what its steps come to.
use Rattle.std.proofs.Common.{ℕ, zero, suc, ◌+◌, ◌-◌, ◌<◌, ◌≤◌, ◌≡◌, min, true, List, [], ◌∷◌, ◌++◌, map, length, get_or, slice_set, take, drop, take-add, refl, sym, ◌∙◌, ap, subst, arith, append_assoc, length-append, length-take, length-drop}
use Rattle.std.proofs.lemmas.List.{append-nil, drop-drop, drop-set-lt, drop_at, length-map, length-set, map-append, take-append-drop, take-append-le, take-take, take_all, take_at, take_more, take_more_set}
use Rattle.std.proofs.lemmas.List.Folds.{list_all-append}
use Rattle.std.specs.Prelude.{nat_le}
use Rattle.shapers_buffer.specs.Glyphs.{Glyph, Glyphs}
use Rattle.shapers_buffer.specs.ClusterRanges.{none_below}
use Rattle.shapers_buffer.specs.Clusters.{in_cluster, last_cluster, stretch_of, with_stretch}
use Rattle.shapers_buffer.specs.Glyph.{default_glyph, plain}
use Rattle.shapers_clusters.specs.CarriedGroups.{AreCarried, AreShown, EndsAbove, LeastIn, StillSame, first_group_cluster, grouped, joined_end, len_of, no_group, put_before, read_back, shown_groups, taken_back, with_groups, with_list}
use Rattle.shapers_clusters.specs.declared.carried_groups.CarriedGroups.{CarriedGroups}
use Rattle.shapers_buffer.specs.declared.buffer.group_room.ClusterGroup.{ClusterGroup}
use Rattle.std.proofs.Math.Seq.{map-set_same}
use Rattle.shapers_buffer.proofs.ClusterLemmas.{length-stretch, three_parts}
use Rattle.shapers_buffer.proofs.OneCluster.{last_of_end}
use Rattle.shapers_buffer.proofs.RunLemmas.{none_lower}
use Rattle.shapers_clusters.proofs.Falls.{in_cluster-same}
use Rattle.shapers_clusters.proofs.Halves.{drop-past}

-- LISTS of groups
pub next_at : {X : Type 0} (xs : List X) (i : ℕ) (d : X) → i < length xs → drop i xs ≡ get_or xs i d ∷ drop (i + 1) xs
next_at [] i d inside = absurd (omega arith)
next_at (x ∷ xs) zero d inside = refl
next_at (x ∷ xs) (suc i) d inside =
    let up : suc i + 1 ≡ suc (i + 1) = omega arith in cc (next_at xs i d (omega arith))

pub len_of-append : (xs ys : List ClusterGroup) → len_of (xs ++ ys) ≡ len_of xs + len_of ys
len_of-append [] ys = omega arith
len_of-append (x ∷ xs) ys = omega (arith, len_of-append xs ys)

pub grouped-append : (xs ys : List ClusterGroup) (gs : Glyphs) →
    grouped (xs ++ ys) gs ≡ grouped xs gs ++ grouped ys (drop (len_of xs) gs)
grouped-append [] ys gs = refl
grouped-append (x ∷ xs) ys gs = search (append_assoc, drop-drop, grouped-append xs ys (drop x.len gs))

pub length-grouped : (xs : List ClusterGroup) (gs : Glyphs) → len_of xs ≤ length gs → length (grouped xs gs) ≡ len_of xs
length-grouped [] gs within = refl
length-grouped (x ∷ xs) gs within = search (arith, length-append, length-map, length-take, length-grouped xs (drop x.len gs) (omega (arith, length-drop x.len gs)))

pub least_front : (xs ys : List ClusterGroup) (gs : Glyphs) → LeastIn (xs ++ ys) gs → LeastIn xs gs
least_front [] ys gs all = tt
least_front (x ∷ xs) ys gs all = (all.0, least_front xs ys (drop x.len gs) all.1)

pub least_behind : (xs ys : List ClusterGroup) (gs : Glyphs) → LeastIn (xs ++ ys) gs → LeastIn ys (drop (len_of xs) gs)
least_behind [] ys gs all = all
least_behind (x ∷ xs) ys gs all = search (arith, drop-drop, least_behind xs ys (drop x.len gs) all.1)

pub least_both : (xs ys : List ClusterGroup) (gs : Glyphs) → LeastIn xs gs → LeastIn ys (drop (len_of xs) gs) →
    LeastIn (xs ++ ys) gs
least_both [] ys gs one two = two
least_both (x ∷ xs) ys gs one two = (one.0, least_both xs ys (drop x.len gs) one.1 (search drop-drop))

-- WRITING one
pub record WrittenNext (g : ClusterGroup) (groups : List ClusterGroup) (place : ℕ) (gs hs : Glyphs) : Type 0 where
  pub within : place + g.len + len_of groups ≤ length hs
  pub walk : take (place + g.len) hs ++ (grouped groups (drop (place + g.len) hs)
      ++ drop (place + g.len + len_of groups) hs)
      ≡ take place gs ++ (grouped (g ∷ groups) (drop place gs) ++ drop (place + len_of (g ∷ groups)) gs)

pub written_next : (g : ClusterGroup) (groups : List ClusterGroup) (place : ℕ) (gs hs : Glyphs) →
    place + len_of (g ∷ groups) ≤ length gs →
    hs ≡ with_stretch place (place + g.len) (map (in_cluster g.cluster)) gs → WrittenNext g groups place gs hs
written_next g groups place gs hs within is =
    let end = place + g.len in
    let put = map (in_cluster g.cluster) (take g.len (drop place gs)) in
    let front = take place gs ++ put in
    let rest = drop end gs in
    let n : length front ≡ end = search (arith, length-append, length-take, length-map, length-drop) in
    search (
      arith,
      append_assoc (take place gs) put rest,
      length-append front rest,
      length-drop end gs,
      take_at front rest end n,
      drop_at front rest end n,
      drop-past end (len_of groups) front rest n,
      drop-drop (len_of groups) end gs,
      append_assoc (take place gs) put (grouped groups rest ++ drop (place + len_of (g ∷ groups)) gs),
      append_assoc put (grouped groups rest) (drop (place + len_of (g ∷ groups)) gs),
      drop-drop g.len place gs,
    )

-- SHOWING one more, and reading one
pub show_next : (groups : List ClusterGroup) (gs : Glyphs) (i : ℕ) → i < length groups →
    length groups ≤ length gs → (let g : Glyph = get_or (shown_groups (take i groups) gs) i default_glyph in
    slice_set (shown_groups (take i groups) gs) i (record g { cluster = (get_or groups i no_group).cluster })
    ≡ shown_groups (take (i + 1) groups) gs)
show_next (group ∷ groups) (g ∷ gs) zero inside many = refl
show_next (group ∷ groups) (g ∷ gs) (suc i) inside many =
    search (arith, show_next groups gs i (omega arith) (omega arith))
show_next _ _ i inside many = absurd (omega arith)

pub read_next : (gs : Glyphs) (groups : List ClusterGroup) (i : ℕ) → i < length gs →
    length gs ≡ length groups → (let group : ClusterGroup = get_or (read_back (take i gs) groups) i no_group in
    slice_set (read_back (take i gs) groups) i (record group {
      cluster = min group.cluster (get_or gs i default_glyph).cluster;
    }) ≡ read_back (take (i + 1) gs) groups)
read_next (g ∷ gs) (group ∷ groups) zero inside many = refl
read_next (g ∷ gs) (group ∷ groups) (suc i) inside many =
    let up : suc i + 1 ≡ suc (i + 1) = omega arith in cc (read_next gs groups i (omega arith) (omega arith))
read_next _ _ i inside many = absurd (omega arith)

pub len_of-read : (gs : Glyphs) (groups : List ClusterGroup) → length gs ≡ length groups →
    len_of (read_back gs groups) ≡ len_of groups
len_of-read [] groups many = refl
len_of-read (g ∷ gs) [] many = absurd (omega arith)
len_of-read (g ∷ gs) (group ∷ groups) many = cc (len_of-read gs groups (omega arith))

pub least-read : (gs : Glyphs) (groups : List ClusterGroup) (hs : Glyphs) →
    length gs ≡ length groups → LeastIn groups hs → LeastIn (read_back gs groups) hs
least-read [] groups hs many all = all
least-read (g ∷ gs) [] hs many all = absurd (omega arith)
least-read (g ∷ gs) (group ∷ groups) hs many all =
    search (arith, none_lower, least-read gs groups (drop group.len hs) (omega arith) all.1)

-- THE LAST groups
pub last_split : (xs : List ClusterGroup) → 0 < length xs →
    xs ≡ take (length xs - 1) xs ++ get_or xs (length xs - 1) no_group ∷ []
last_split = search (arith, take_all, take_more)

pub two_split : (xs : List ClusterGroup) → 1 < length xs → xs ≡ take (length xs - 2) xs
    ++ get_or xs (length xs - 2) no_group ∷ get_or xs (length xs - 1) no_group ∷ []
two_split xs two = search (
  arith,
  last_split xs (omega arith),
  take_more xs (length xs - 2) no_group (omega arith),
  append_assoc (take (length xs - 2) xs) ((get_or xs (length xs - 2) no_group) ∷ [])
      ((get_or xs (length xs - 1) no_group) ∷ []),
)

pub record EndJoined (xs ys : List ClusterGroup) : Type 0 where
  pub len : len_of ys ≡ len_of xs
  pub many : length ys + 1 ≡ length xs
  pub same : (gs : Glyphs) → grouped ys gs ≡ grouped xs gs
  pub least : (gs : Glyphs) → LeastIn xs gs → LeastIn ys gs

pub joined_same : (xs : List ClusterGroup) → 1 < length xs → (get_or xs (length xs - 2) no_group).cluster
    ≡ (get_or xs (length xs - 1) no_group).cluster → EndJoined xs (joined_end xs)
joined_same xs two same =
    let front = take (length xs - 2) xs in
    let one : ClusterGroup = get_or xs (length xs - 2) no_group in
    let other : ClusterGroup = get_or xs (length xs - 1) no_group in
    let both : ClusterGroup = record one { len = one.len + other.len } in
    let split = two_split xs two in
    record {
      len = len_of-append front (both ∷ [])
          ∙ sym (ap len_of split ∙ len_of-append front (one ∷ other ∷ []) ∙ omega arith);
      many = omega (arith, length-append front (both ∷ []), length-take (length xs - 2) xs);
      same = λ gs. grouped-append front (both ∷ []) gs
          ∙ ap (λ l. grouped front gs ++ l) (pair one other (drop (len_of front) gs) same)
          ∙ sym (ap (λ l. grouped l gs) split ∙ grouped-append front (one ∷ other ∷ []) gs);
      least = λ gs all.
          let parts = subst (λ l. LeastIn l gs) split all in
          least_both front (both ∷ []) gs (least_front front (one ∷ other ∷ []) gs parts)
          (pair_least one other (drop (len_of front) gs) same (least_behind front (one ∷ other ∷ []) gs parts));
    }
  where
    pair : (one other : ClusterGroup) (hs : Glyphs) → one.cluster ≡ other.cluster →
        grouped ((record one { len = one.len + other.len }) ∷ []) hs ≡ grouped (one ∷ other ∷ []) hs
    pair one other hs is =
        let f : Glyph → Glyph = in_cluster one.cluster in
        append-nil (map f (take (one.len + other.len) hs)) ∙ ap (map f) (take-add one.len other.len hs)
        ∙ map-append f (take one.len hs) (take other.len (drop one.len hs))
        ∙ ap (λ c. map f (take one.len hs) ++ map (in_cluster c) (take other.len (drop one.len hs))) is
        ∙ ap (λ l. map f (take one.len hs) ++ l)
        (sym (append-nil (map (in_cluster other.cluster) (take other.len (drop one.len hs)))))

    pair_least : (one other : ClusterGroup) (hs : Glyphs) → one.cluster ≡ other.cluster →
        LeastIn (one ∷ other ∷ []) hs → LeastIn ((record one { len = one.len + other.len }) ∷ []) hs
    pair_least one other hs is all =
        let some = all.0.0 in
        let a = all.0.1 in
        let b : none_below one.cluster (take other.len (drop one.len hs)) ≡ true =
        ap (λ c. none_below c (take other.len (drop one.len hs))) is ∙ all.1.0.1 in (
          (
            omega arith,
            ap (none_below one.cluster) (take-add one.len other.len hs)
                ∙ list_all-append (λ g. nat_le one.cluster g.cluster) (take one.len hs) (take other.len (drop one.len hs))
                ∙ rw (a, b) refl,
          ),
          tt,
        )

pub two_lens : (xs : List ClusterGroup) → 1 < length xs → (get_or xs (length xs - 2) no_group).len
    + (get_or xs (length xs - 1) no_group).len ≤ len_of xs
two_lens xs two = search (
  arith,
  two_split xs two,
  len_of-append (take (length xs - 2) xs)
      ((get_or xs (length xs - 2) no_group) ∷ (get_or xs (length xs - 1) no_group) ∷ []),
)

pub joined_list : (xs ys : List ClusterGroup) (n : ℕ) (one other : ClusterGroup) → 1 < length xs → n ≡ length xs →
    ys ≡ take (n - 1) xs → one ≡ get_or xs (n - 2) no_group → other ≡ get_or xs (n - 1) no_group →
    slice_set ys (n - 2) (record one { len = one.len + other.len }) ≡ joined_end xs
joined_list xs ys n one other two n_is ys_is one_is other_is =
    let both = record one { len = one.len + other.len } in
    let yn : length ys ≡ n - 1 = search (arith, length-take) in
    let hs = slice_set ys (n - 2) both in
    let many : length hs ≡ n - 1 = length-set ys (n - 2) both ∙ yn in
    sym (take_all (n - 1) hs (omega arith)) ∙ ap (λ k. take k hs) (sym (omega arith))
    ∙ take_more_set ys (n - 2) both (omega arith) ∙ ap (λ l. l ++ both ∷ []) (search (arith, take-take))
    ∙ ap (λ (a : ClusterGroup). take (n - 2) xs ++ (record a { len = a.len + other.len }) ∷ []) one_is ∙ ap
    (λ (b : ClusterGroup). take (n - 2) xs ++ (record (get_or xs (n - 2) no_group) {
      len = (get_or xs (n - 2) no_group).len + b.len;
    }) ∷ []) other_is ∙ ap
    (λ k. (let a = get_or xs (k - 2) no_group in take (k - 2) xs ++ (record a {
      len = a.len + (get_or xs (k - 1) no_group).len;
    }) ∷ [])) n_is

-- all but the last one, and that
pub record BeforeLast (xs : List ClusterGroup) : Type 0 where
  pub whole : xs ≡ take (length xs - 1) xs ++ get_or xs (length xs - 1) no_group ∷ []
  pub lens : len_of xs ≡ len_of (take (length xs - 1) xs) + (get_or xs (length xs - 1) no_group).len

pub before_last : (xs : List ClusterGroup) → 0 < length xs → BeforeLast xs
before_last xs some = search (
  arith,
  last_split xs some,
  len_of-append (take (length xs - 1) xs) ((get_or xs (length xs - 1) no_group) ∷ []),
)

-- WRITTEN before the last one
pub written_before : (it after : CarriedGroups) (front : List ClusterGroup) (last : ClusterGroup) (gs hs : Glyphs) →
    it.groups.items ≡ front ++ last ∷ [] → after.groups.items ≡ last ∷ [] → after.start ≡ it.start + len_of front →
    after.end ≡ it.end → hs ≡ take it.start gs ++ (grouped front (drop it.start gs)
    ++ drop (it.start + len_of front) gs) → AreCarried it gs → StillSame it gs after hs
written_before it after front last gs hs are now start_is end_is is fits =
    let s = it.start + len_of front in
    let lens = ap len_of are ∙ len_of-append front (last ∷ []) in
    let put = grouped front (drop it.start gs) in
    let A = take it.start gs ++ put in
    let rest = drop s gs in
    let n = length-append (take it.start gs) put
    ∙ omega (
      arith,
      length-take it.start gs,
      length-grouped front (drop it.start gs) (omega (arith, length-drop it.start gs)),
    ) in
    let tail = grouped (last ∷ []) rest in
    search (
      arith,
      append_assoc (take it.start gs) put rest,
      take_at A rest s n,
      drop_at A rest s n,
      drop-past s last.len A rest n,
      drop-drop last.len s gs,
      append_assoc (take it.start gs) put (tail ++ drop it.end gs),
      append_assoc put tail (drop it.end gs),
      drop-drop (len_of front) it.start gs,
      grouped-append front (last ∷ []) (drop it.start gs),
      length-append A rest,
      length-drop s gs,
      least_behind front (last ∷ []) (drop it.start gs) (subst (λ l. LeastIn l (drop it.start gs)) are fits.least),
    )

-- ADDED: the glyph behind the groups
pub group_added : (it after : CarriedGroups) (gs : Glyphs) (g : Glyph) →
    g ≡ get_or gs it.end default_glyph → it.end < length gs → after.start ≡ it.start → after.end ≡ it.end + 1 →
    after.groups.items ≡ it.groups.items ++ (record { len = 1; cluster = g.cluster }) ∷ [] → AreCarried it gs →
    StillSame it gs after gs
group_added it after gs g g_is inside start_is end_is are fits =
    let span = fits.span in
    let items = it.groups.items in
    let one : ClusterGroup = record { len = 1; cluster = g.cluster } in
    let rest = drop (it.end + 1) gs in
    let split : drop it.end gs ≡ g ∷ rest = next_at gs it.end default_glyph inside ∙ ap (λ x. x ∷ rest) (sym g_is) in
    let up : drop (len_of items) (drop it.start gs) ≡ drop it.end gs = drop-drop (len_of items) it.start gs
    ∙ ap (λ k. drop k gs) span in
    let stays : in_cluster g.cluster g ≡ g = in_cluster-same g in
    let tail : grouped (one ∷ []) (drop (len_of items) (drop it.start gs)) ≡ g ∷ [] =
    ap (grouped (one ∷ [])) (up ∙ split) ∙ ap (λ x. x ∷ []) stays in
    let put = grouped items (drop it.start gs) in
    record {
      same = ap (λ k. take k gs ++ (grouped after.groups.items (drop k gs) ++ drop after.end gs)) start_is
          ∙ ap (λ k. take it.start gs ++ (grouped after.groups.items (drop it.start gs) ++ drop k gs)) end_is
          ∙ ap (λ l. take it.start gs ++ (grouped l (drop it.start gs) ++ rest)) are
          ∙ ap (λ l. take it.start gs ++ (l ++ rest)) (grouped-append items (one ∷ []) (drop it.start gs)
          ∙ ap (λ l. put ++ l) tail)
          ∙ ap (λ l. take it.start gs ++ l) (append_assoc put (g ∷ []) rest ∙ ap (λ l. put ++ l) (sym split));
      fits = record {
        span = omega (arith, ap len_of are, len_of-append items (one ∷ []));
        within = omega arith;
        least = subst (λ k. LeastIn after.groups.items (drop k gs)) (sym start_is)
            (subst (λ l. LeastIn l (drop it.start gs)) (sym are) (least_both items (one ∷ []) (drop it.start gs)
            fits.least (subst (LeastIn (one ∷ [])) (sym (up ∙ split)) ((omega arith, own g), tt))));
      };
      same_length = refl;
    }
  where
    own : (g : Glyph) → none_below g.cluster (g ∷ []) ≡ true
    own g = grind arith

-- SHOWN
pub many_lens : (xs : List ClusterGroup) (gs : Glyphs) → LeastIn xs gs → length xs ≤ len_of xs
many_lens [] gs all = omega arith
many_lens (x ∷ xs) gs all = search (arith, many_lens xs (drop x.len gs) all.1)

pub shown_append : (groups : List ClusterGroup) (xs ys : Glyphs) → length groups ≤ length xs →
    shown_groups groups (xs ++ ys) ≡ shown_groups groups xs ++ ys
shown_append [] xs ys many = refl
shown_append (group ∷ groups) [] ys many = absurd (omega arith)
shown_append (group ∷ groups) (x ∷ xs) ys many = cc (shown_append groups xs ys (omega arith))

pub shown_view : (groups : List ClusterGroup) (xs : Glyphs) → length groups ≤ length xs →
    map plain (shown_groups groups xs) ≡ map plain xs
shown_view [] xs many = refl
shown_view (group ∷ groups) [] many = absurd (omega arith)
shown_view (group ∷ groups) (x ∷ xs) many = cc (shown_view groups xs (omega arith))

pub record PutBefore (place c : ℕ) (gs : Glyphs) : Type 0 where
  pub rest : drop place (put_before place (c + 1) gs) ≡ drop place gs
  pub front : take (place - 1) (put_before place (c + 1) gs) ≡ take (place - 1) gs
  pub above : EndsAbove c (take place (put_before place (c + 1) gs))
  pub view : map plain (put_before place (c + 1) gs) ≡ map plain gs

pub puts_before : (place c : ℕ) (gs : Glyphs) → place ≤ length gs → PutBefore place c gs
puts_before zero c gs within = search arith
puts_before (suc p) c gs within =
    let x = record (get_or gs p default_glyph) { cluster = c + 1 } in
    let hs = slice_set gs p x in
    let up : suc p ≡ p + 1 = omega arith in
    let down : suc p - 1 ≡ p = omega arith in
    let taken = ap (λ k. take k hs) up ∙ take_more_set gs p x (omega arith) in
    record {
      rest = search (arith, drop-set-lt);
      front =
          cc (take-take p (suc p) hs (omega arith), take_at (take p gs) (x ∷ []) p (omega (arith, length-take p gs)));
      above = λ some. (let last : last_cluster (take (suc p) hs) ≡ c + 1 = ap last_cluster taken
          ∙ last_of_end (take p gs) (x ∷ []) (omega arith) in omega arith);
      view = search (arith, map-set_same);
    }

pub are_shown : (count : ℕ) (it after : CarriedGroups) (gs hs : Glyphs) (index place : ℕ) → 0 < count →
    count ≤ length it.groups.items → index ≡ length it.groups.items - count → place ≡ it.end - count →
    after ≡ record it { kept = after.kept } → after.kept.items ≡ stretch_of (place - 1) it.end gs →
    hs ≡ put_before place (first_group_cluster it.groups.items + 1)
    (with_stretch place it.end (shown_groups (drop index it.groups.items)) gs) → AreCarried it gs →
    AreShown count it gs after hs
are_shown count it after gs hs index place some many index_is place_is same kept is fits =
    let items = it.groups.items in
    let end = it.end in
    let c = first_group_cluster items in
    let G = drop index items in
    let Gn : length G ≡ count = omega (arith, length-drop index items) in
    let lens = many_lens items (drop it.start gs) fits.least in
    let room : count ≤ end = omega arith in
    let mid = with_stretch place end (shown_groups G) gs in
    let stretch = stretch_of place end gs in
    let sn : length stretch ≡ count = length-stretch place end gs fits.within ∙ omega arith in
    let view = map-append plain (take place gs) (shown_groups G stretch ++ drop end gs)
    ∙ ap (λ l. map plain (take place gs) ++ l) (map-append plain (shown_groups G stretch) (drop end gs)
    ∙ ap (λ l. l ++ map plain (drop end gs)) (shown_view G stretch (omega arith))
    ∙ sym (map-append plain stretch (drop end gs))) ∙ sym (map-append plain (take place gs) (stretch ++ drop end gs))
    ∙ ap (map plain) (three_parts place end gs (omega arith)) in
    let mn : length mid ≡ length gs = sym (length-map mid plain) ∙ ap length view ∙ length-map gs plain in
    let tn : length (take place gs) ≡ place = omega (arith, length-take place gs) in
    let put = puts_before place c mid (omega arith) in
    let rest = ap (drop place) is ∙ put.rest
    ∙ drop_at (take place gs) (shown_groups G stretch ++ drop end gs) place tn
    ∙ sym (shown_append G stretch (drop end gs) (omega arith)) ∙ ap (shown_groups G)
    (sym (drop_at (take place gs) (stretch ++ drop end gs) place tn) ∙ ap (drop place) (three_parts place end gs
    (omega arith))) in
    let shift : (P : ℕ → Type 0) → P place → P (end - count) = λ P. subst P place_is in
    record {
      same = same;
      kept = shift (λ k. after.kept.items ≡ stretch_of (k - 1) end gs) kept;
      room = room;
      rest = shift (λ k. drop k hs ≡ shown_groups (drop (length items - count) items) (drop k gs))
          (rest ∙ ap (λ i. shown_groups (drop i items) (drop place gs)) index_is);
      front = shift (λ k. take (k - 1) hs ≡ take (k - 1) gs) (ap (take (place - 1)) is ∙ put.front
          ∙ take-append-le (place - 1) (take place gs) (shown_groups G stretch ++ drop end gs) (omega arith)
          ∙ take-take (place - 1) place gs (omega arith));
      above = shift (λ k. EndsAbove c (take k hs)) (subst (λ l. EndsAbove c (take place l)) (sym is) put.above);
      view = ap (map plain) is ∙ put.view ∙ view;
    }

-- without groups nothing is to be written
pub none_written : (it : CarriedGroups) (gs : Glyphs) → it.groups.items ≡ [] → it.start ≡ it.end →
    with_groups it gs ≡ gs
none_written it gs none = search (arith, take-append-drop)

pub none_carried : (it : CarriedGroups) (gs : Glyphs) → it.groups.items ≡ [] → it.start ≡ it.end →
    it.end ≤ length gs → AreCarried it gs
none_carried it gs none = search arith

pub first_get : (xs : List ClusterGroup) → first_group_cluster xs ≡ (get_or xs 0 no_group).cluster
first_get [] = refl
first_get (x ∷ xs) = refl

pub first_set : (xs : List ClusterGroup) (y : ClusterGroup) → 0 < length xs → take 1 (slice_set xs 0 y) ≡ y ∷ []
first_set [] y some = absurd (omega arith)
first_set (x ∷ xs) y some = refl

pub joined_still : (it after : CarriedGroups) (gs : Glyphs) → EndJoined it.groups.items after.groups.items
    → after.start ≡ it.start → after.end ≡ it.end → AreCarried it gs → StillSame it gs after gs
joined_still = search arith

pub written_by : (it after : CarriedGroups) (gs hs : Glyphs) (n : ℕ) (xs : List ClusterGroup) (last : ClusterGroup) →
    0 < length it.groups.items → n ≡ length it.groups.items → xs ≡ it.groups.items →
    last ≡ get_or it.groups.items (n - 1) no_group → after.groups.items ≡ take 1 (slice_set it.groups.items 0 last) →
    after.start ≡ it.end - last.len → after.end ≡ it.end → hs ≡ take it.start gs ++ (grouped (take (n - 1) xs)
    (drop it.start gs) ++ drop (it.start + len_of (take (n - 1) xs)) gs) → AreCarried it gs → StillSame it gs after hs
written_by it after gs hs n xs last some n_is xs_is last_is now start_is end_is is fits =
    let items = it.groups.items in
    let b = before_last items some in
    search (written_before it after (take (length items - 1) items) (get_or items (length items - 1) no_group) gs hs b.whole
    (search arith) (search arith) end_is (cc) fits)

pub taken_is : (count : ℕ) (it : CarriedGroups) (gs hs : Glyphs) (low end : ℕ)
    (kept : Glyphs) → low ≡ it.end - count - 1 → end ≡ it.end → kept ≡ it.kept.items →
    hs ≡ with_stretch low end (λ xs. kept) gs → hs ≡ taken_back count it gs
taken_is count it gs hs low end kept low_is end_is kept_is is = cc

pub groups_settled : (it after : CarriedGroups) (groups : List ClusterGroup) (gs : Glyphs) → after.start ≡ it.start
    → after.end ≡ it.end → after.groups.items ≡ groups → with_groups after gs ≡ with_list it groups gs
groups_settled it after groups gs start_is end_is are = cc
