-- Groups that aren't written: what the glyphs are in their clusters, and what changes behind them come to.
use Rattle.std.proofs.Common.{ℕ, append_assoc, inl, inr, ◌+◌, ◌-◌, ◌<◌, ◌≤◌, ◌≡◌, List, [], ◌∷◌, ◌++◌, map, length, take, drop, take-add, refl, sym, ◌∙◌, ap, subst, arith, length-append, length-take, length-drop}
use Rattle.std.proofs.lemmas.List.{drop-append-le, drop-drop, drop-map, drop_at, length-map, map-append, take-append-drop, take-append-le, take-map, take-take}
use Rattle.std.proofs.Math.Nat.{eq-or-lt_of_le}
use Rattle.shapers_buffer.specs.Glyphs.{Glyphs}
use Rattle.shapers_buffer.specs.Clusters.{in_cluster, stretch_of}
use Rattle.shapers_buffer.specs.Glyph.{order_view, plain}
use Rattle.shapers_buffer.proofs.ClusterLemmas.{length-stretch}
use Rattle.shapers_clusters.specs.CarriedGroups.{AreCarried, AreShown, CanTakeBack, GroupsGuarded, GroupsTakenBack, LeastIn, fallen_groups, grouped, len_of, taken_back, with_groups, with_list}
use Rattle.shapers_clusters.specs.declared.carried_groups.CarriedGroups.{CarriedGroups}
use Rattle.shapers_buffer.specs.declared.buffer.group_room.ClusterGroup.{ClusterGroup}
use Rattle.shapers_clusters.proofs.FloodsBack.{Change}
use Rattle.shapers_clusters.proofs.GroupWalk.{len_of-append, len_of-read, none_carried, none_written}
use Rattle.shapers_clusters.proofs.GuardedGroups.{ChangesBehind, changed_behind, groups_in_front}

-- GROUPS: the order view of the glyphs in their clusters, and what they read
plain-all : (m : ℕ) (gs : Glyphs) → map plain (map (in_cluster m) gs) ≡ map plain gs
plain-all m [] = refl
plain-all m (g ∷ gs) = search (arith, plain-all m gs)

plain-grouped : (groups : List ClusterGroup) (gs : Glyphs) →
    map plain (grouped groups gs) ≡ map plain (take (len_of groups) gs)
plain-grouped [] gs = refl
plain-grouped (group ∷ groups) gs = search (map-append, plain-all, take-add, plain-grouped groups (drop group.len gs))

grouped_front : (groups : List ClusterGroup) (xs ys : Glyphs) → len_of groups ≤ length xs →
    grouped groups (xs ++ ys) ≡ grouped groups xs
grouped_front [] xs ys within = refl
grouped_front (group ∷ groups) xs ys within = search (
  arith,
  take-append-le,
  drop-append-le,
  grouped_front groups (drop group.len xs) ys (omega (arith, length-drop group.len xs)),
)

least_other : (groups : List ClusterGroup) (xs ys zs : Glyphs) → len_of groups ≤ length xs →
    LeastIn groups (xs ++ ys) → LeastIn groups (xs ++ zs)
least_other [] xs ys zs within all = tt
least_other (group ∷ groups) xs ys zs within all = search (
  arith,
  take-append-le,
  drop-append-le,
  least_other groups (drop group.len xs) ys zs (omega (arith, length-drop group.len xs))
      (subst (LeastIn groups) (drop-append-le group.len xs ys (omega arith)) all.1),
)

-- the first part in the clusters of groups
pub front_view : (it : CarriedGroups) (groups : List ClusterGroup) (gs : Glyphs) →
    it.start + len_of groups ≡ it.end → map plain (groups_in_front it groups gs) ≡ take it.end (map plain gs)
front_view = search (arith, map-append, plain-grouped, take-add, take-map)

list_is : (it : CarriedGroups) (groups : List ClusterGroup) (gs : Glyphs) →
    with_list it groups gs ≡ groups_in_front it groups gs ++ drop it.end gs
list_is = search append_assoc

pub order_view-groups : (it : CarriedGroups) (gs : Glyphs) →
    it.start + len_of it.groups.items ≡ it.end → order_view (with_groups it gs) ≡ order_view gs
order_view-groups it gs span = cc (
  list_is it it.groups.items gs,
  map-append plain (groups_in_front it it.groups.items gs) (drop it.end gs),
  front_view it it.groups.items gs span,
  drop-map plain it.end gs,
  take-append-drop it.end (map plain gs),
)

pub length_groups : (it : CarriedGroups) (gs : Glyphs) →
    it.start + len_of it.groups.items ≡ it.end → length (with_groups it gs) ≡ length gs
length_groups it gs span =
    cc (length-map (with_groups it gs) plain, order_view-groups it gs span, length-map gs plain)

-- what stands behind them
pub behind_groups : (it : CarriedGroups) (start : ℕ) (gs : Glyphs) → AreCarried it gs → it.end ≤ start →
    drop start (with_groups it gs) ≡ drop start gs
behind_groups it start gs fits further =
    let front = groups_in_front it it.groups.items gs in
    let n = sym (length-map front plain) ∙ ap length (front_view it it.groups.items gs fits.span)
    ∙ omega (arith, length-take it.end (map plain gs), length-map gs plain) in
    search (
      arith,
      drop-drop (start - it.end) it.end (with_groups it gs),
      list_is it it.groups.items gs,
      drop_at front (drop it.end gs) it.end n,
      drop-drop (start - it.end) it.end gs,
    )

-- GUARDED: nothing but clusters is another one while groups are shown
pub guarded_view : (first end count : ℕ) (it after : CarriedGroups) (gs hs : Glyphs) → AreCarried it gs →
    GroupsGuarded first end it gs after count hs → order_view hs ≡ order_view gs
guarded_view first end count it after gs hs fits g = search (arith, order_view-groups)

pub guarded_length : (first end count : ℕ) (it after : CarriedGroups) (gs hs : Glyphs) →
    AreCarried it gs → GroupsGuarded first end it gs after count hs → length hs ≡ length gs
guarded_length first end count it after gs hs fits g =
    cc (length-map hs plain, guarded_view first end count it after gs hs fits g, length-map gs plain)

pub fallen_len : (count : ℕ) (before : CarriedGroups) (Y : Glyphs) → count ≤ length before.groups.items →
    count ≤ before.end → before.end ≤ length Y → len_of (fallen_groups count before Y) ≡ len_of before.groups.items
fallen_len count before Y many room within =
    let items = before.groups.items in
    let i = length items - count in
    let sn : length (stretch_of (before.end - count) before.end Y) ≡ length (drop i items) =
    search (arith, length-stretch, length-drop) in
    let whole : items ≡ take i items ++ drop i items = sym (take-append-drop i items) in
    search (arith, len_of-append, len_of-read)

-- SETTLED: other glyphs, as many, of which those before what was shown are the same
pub record ShownSettles (first count : ℕ) (before after : CarriedGroups) (between new : Glyphs) : Type 0 where
  pub can : CanTakeBack after count new
  pub made : (final : CarriedGroups) (hs : Glyphs) → GroupsTakenBack after count new final hs →
      with_groups final hs ≡ groups_in_front before (fallen_groups count before new) between ++ drop first new

pub shown_settles : (first count : ℕ) (before after : CarriedGroups) (between hs new : Glyphs) →
    AreCarried before between → before.end ≡ first → 0 < count → count ≤ length before.groups.items →
    AreShown count before between after hs → length new ≡ length between →
    take (first - count - 1) new ≡ take (first - count - 1) between → ShownSettles first count before after between new
shown_settles first count before after between hs new fits at some many is same_length same_front =
    let items = before.groups.items in
    let low = first - count - 1 in
    let within = fits.within in
    let span = fits.span in
    let after_start : after.start ≡ before.start = cc is.same in
    let after_end : after.end ≡ first = cc is.same in
    let after_items = ap (λ (a : CarriedGroups). a.groups.items) is.same in
    let kept =
    subst (λ f. after.kept.items ≡ stretch_of (f - count - 1) f between) at is.kept in
    let Z = take first between ++ drop first new in
    let whole : take first between ≡ take low between ++ stretch_of low first between =
    ap (λ k. take k between) (sym (omega arith)) ∙ take-add low (first - low) between in
    let z_is : taken_back count after new ≡ Z =
    cc (append_assoc (take low between) (stretch_of low first between) (drop first new)) in
    let tn : length (take first between) ≡ first = omega (arith, length-take first between) in
    let A = drop before.start (take first between) in
    let an : length A ≡ first - before.start = omega (arith, length-drop before.start (take first between)) in
    let z_drop =
    drop-append-le before.start (take first between) (drop first new) (omega arith) in
    let b_drop =
    ap (drop before.start) (sym (take-append-drop first between))
    ∙ drop-append-le before.start (take first between) (drop first between) (omega arith) in
    let z_behind : drop first Z ≡ drop first new = drop_at (take first between) (drop first new) first tn in
    let z_start : take before.start Z ≡ take before.start between =
    take-append-le before.start (take first between) (drop first new) (omega arith)
    ∙ take-take before.start first between (omega arith) in
    let F = fallen_groups count before new in
    let f_len : len_of F ≡ len_of items = fallen_len count before new many (omega arith) (omega arith) in
    record {
      can = record {
        within = omega (arith, ap length after_items);
        in_range = omega arith;
        kept = λ _. ap length kept ∙ length-stretch low first between (omega arith)
            ∙ ap (λ f. f - (f - count - 1)) (sym after_end);
        none = λ none. absurd (omega arith);
        fits = λ _. record {
          span = omega (arith, ap len_of after_items);
          within =
              omega (arith, ap length z_is, length-append (take first between) (drop first new));
          least = subst (λ l. LeastIn after.groups.items (drop after.start l)) (sym z_is)
              (subst (λ k. LeastIn after.groups.items (drop k Z)) (sym after_start)
              (subst (λ l. LeastIn l (drop before.start Z)) (sym after_items)
              (subst (LeastIn items) (sym z_drop) (least_other items A (drop first between) (drop first new) (omega arith)
              (subst (LeastIn items) b_drop fits.least)))));
        };
      };
      made = λ final hs groups_settled.
          cc (
            groups_settled.same some,
            grouped_front F A (drop first new) (omega arith),
            grouped_front F A (drop first between) (omega arith),
            append_assoc (take before.start between) (grouped F (drop before.start between)) (drop first new),
          );
    }

-- A CHANGE of what is guarded, settled: the same change of the glyphs with the groups in their clusters
pub record GuardedChange (after : CarriedGroups) (count : ℕ) (meant new : Glyphs) : Type 0 where
  pub can : CanTakeBack after count new
  pub made : (final : CarriedGroups) (hs : Glyphs) → GroupsTakenBack after count new final hs →
      with_groups final hs ≡ meant

pub guarded_change : (first end count : ℕ) (over : Change) (it after : CarriedGroups) (gs hs : Glyphs) → first ≤ end
    → end ≤ length gs → AreCarried it gs → GroupsGuarded first end it gs after count hs
    → ((xs : Glyphs) → length (over xs) ≡ length xs) → (0 < count → ChangesBehind first end (length gs) count over)
    → GuardedChange after count (over (with_groups it gs)) (over hs)
guarded_change first end count over it after gs hs order within fits g long changes =
    let before = g.before in
    let between = g.between in
    let bn : length between ≡ length gs = search (arith, length_groups) in
    elim (eq-or-lt_of_le {n = 0} {m = count} (omega arith)) [
      | inl none ↦
          search (arith, none_carried, none_written)
      | inr some ↦
          let is = g.some some in
          let (further, stops) = g.stops some in
          let c = changed_behind first end count over before after between hs order (omega arith)
          (subst (λ n. ChangesBehind first end n count over) (sym bn) (changes some)) g.fits g.at some g.within is
          stops in
          let front =
          subst (λ f. take (f - count - 1) (over hs) ≡ take (f - count - 1) between) g.at c.front in
          let s = shown_settles first count before after between hs (over hs) g.fits g.at some g.within is c.same_length
          front in
          record {
            can = s.can;
            made = λ final new groups_settled. (let made = s.made final new groups_settled in
                cc);
          }
    ]
