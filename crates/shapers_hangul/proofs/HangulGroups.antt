-- Items joined behind groups that aren't written: the same as behind these in their clusters.
use Rattle.std.proofs.Common.{◌≡◌, ℕ, ◌+◌, ◌-◌, ◌<◌, ◌≤◌, Bool, true, false, cond, not, ◌||◌, nat_lt, List, [], ◌∷◌, length, refl, sym, subst, ◌∙◌, arith}
use Rattle.std.proofs.lemmas.List.{length-map}
use Rattle.shapers_buffer.specs.Glyphs.{Glyphs}
use Rattle.shapers_buffer.specs.declared.buffer.level.BufferClusterLevel.{BufferClusterLevel}
use Rattle.shapers_buffer.specs.Clusters.{least, merge_all}
use Rattle.shapers_buffer.specs.Glyph.{clusters}
use Rattle.shapers_buffer.specs.GlyphFlags.{flagged, unsafe_all, with_bits_off}
use Rattle.shapers_clusters.specs.CarriedGroups.{AreCarried, GroupsGuarded, with_groups}
use Rattle.shapers_clusters.specs.declared.carried_groups.CarriedGroups.{CarriedGroups}
use Rattle.shapers_clusters.specs.Steps.{shifted}
use Rattle.shapers_clusters.proofs.CarriedGroups.{Keeps, Spreads, clusters_keep, keeps_then, merge_all_keeps, merge_all_spreads, spreads_nothing, spreads_then, stretch_spreads}
use Rattle.shapers_clusters.proofs.FloodsBack.{Change}
use Rattle.shapers_clusters.proofs.GuardedGroups.{ChangesBehind}
use Rattle.shapers_clusters.proofs.SettledGroups.{GuardedChange, guarded_change}
use Rattle.shapers_hangul.specs.declared.ot_shaper_hangul.item.Item.{Item}
use Rattle.shapers_hangul.specs.declared.ot_shaper_hangul.item.JoinedTone.{JoinedTone}
use Rattle.shapers_hangul.specs.declared.ot_shaper_hangul.item.JoinedTone.TheVariants.{Before}
use Rattle.shapers_hangul.specs.Hangul.{is_merged, item_joined, item_len, item_stretches, taken, tone_stretch, unsafe_stretches}
use Rattle.shapers_hangul.proofs.HangulClusters.{item_ends}
use Rattle.shapers_hangul.proofs.Walks.{length-item_joined, map-unsafe}

-- FLAGS of an item, behind those that stand for groups
flags_spread : (b : Bool) (k j len n : ℕ) → 0 < j → len ≤ n → Spreads k j n
    (unsafe_all (cond b ((k, k + len) ∷ []) [])) (unsafe_all (cond b ((j, j + len) ∷ []) []))
flags_spread true k j len n some within =
    let k_is : k + 0 ≡ k = omega arith in
    let j_is : j + 0 ≡ j = omega arith in
    search (
      arith,
      stretch_spreads k j 0 len n (flagged 3) some (omega arith) within
          (λ xs xn. length-map xs (with_bits_off 3 (least (clusters xs))) ∙ xn),
    )
flags_spread false k j len n some within = spreads_nothing k j n

-- STRETCHES of an item, further behind
unit_further : (b : Bool) (k len : ℕ) → shifted k (cond b ((0, 0 + len) ∷ []) []) ≡ cond b ((k, k + len) ∷ []) []
unit_further true k len = search arith
unit_further false k len = refl

tone_further : (tone : JoinedTone) (k len : ℕ) →
    shifted k (tone_stretch tone 0 (0 + len)) ≡ tone_stretch tone k (k + len)
tone_further Before k len = search arith
tone_further _ k len = refl

item_further : (level : BufferClusterLevel) (item : Item) (k : ℕ) →
    shifted k (item_stretches level item 0) ≡ item_stretches level item k
item_further = search arith

-- AN ITEM changes what stands before it only by merges
pub item_changes : (level : BufferClusterLevel) (item : Item) (first n count : ℕ) → first + item_len item ≤ n →
    first + item.unsafe_len ≤ n → 0 < count →
    ChangesBehind first (first + item_len item) n count (item_joined level first item)
item_changes level item first n count within torn some =
    let m = n - first in
    let len = item_len item in
    let sts = item_stretches level item 0 in
    let flags : ℕ → Change = λ k. unsafe_all (unsafe_stretches level item k) in
    let join : List (ℕ × ℕ) → ℕ → Change = λ ts k gs. merge_all level ts (flags k gs) in
    record {
      change = item_joined level count item;
      spreads = subst (λ ts. Spreads first count m (join ts first) (item_joined level count item))
          (item_further level item first)
          (subst (λ ts. Spreads first count m (join (shifted first sts) first) (join ts count))
          (item_further level item count)
          (spreads_then first count m (flags first) (flags count) (merge_all level (shifted first sts))
          (merge_all level (shifted count sts))
          (flags_spread (not (is_merged level item.unit) || nat_lt (taken item.unit) item.unsafe_len) first count
          item.unsafe_len m some (omega arith))
          (merge_all_spreads level first count m sts some (item_ends level item.unit item.tone 0 m (omega arith)))));
      keeps = λ low. subst (λ e. Keeps low count (count + e) (count + m) (item_joined level count item)) (sym
          (omega arith))
          (subst (λ ts. Keeps low count (count + len) (count + m) (join ts count)) (item_further level item count)
          (keeps_then low count (count + len) (count + m) (flags count) (merge_all level (shifted count sts))
          (clusters_keep low count (count + len) (count + m) (flags count)
          (λ gs. map-unsafe (λ g. g.cluster) (λ g. refl) level item count gs))
          (merge_all_keeps level low count len (count + m) sts (omega arith)
          (item_ends level item.unit item.tone 0 len (omega arith)))));
    }

pub item_behind : (level : BufferClusterLevel) (item : Item) (place end count : ℕ) (it after : CarriedGroups)
    (gs hs new : Glyphs) → end ≡ place + item_len item → place + item_len item ≤ length gs →
    place + item.unsafe_len ≤ length gs → AreCarried it gs → GroupsGuarded place end it gs after count hs →
    new ≡ item_joined level place item hs →
    GuardedChange after count (item_joined level place item (with_groups it gs)) new
item_behind level item place end count it after gs hs new end_is within torn fits guarded new_is = search (
  arith,
  guarded_change place (place + item_len item) count (item_joined level place item) it after gs hs (omega arith)
      within fits (subst (λ e. GroupsGuarded place e it gs after count hs) end_is guarded)
      (length-item_joined level place item) (item_changes level item place (length gs) count within torn),
)
