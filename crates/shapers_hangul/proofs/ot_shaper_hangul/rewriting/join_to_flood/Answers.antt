-- Joining keeps the length, so the place before which is looked stays within.
use Rattle.std.proofs.Common.{◌<◌, ◌≤◌, ℕ, zero, suc, List, [], ◌∷◌, arith, get_or, length, rules}
use Rattle.shapers_hangul.specs.declared.ot_shaper_hangul.item.Item.{Item}
use Rattle.shapers_hangul.specs.Hangul.{Fit}
use Rattle.shapers_hangul.proofs.Walks.{default_item, length-item_joined}
use Rattle.shapers_hangul.proofs.ot_shaper_hangul.rewriting.join_to_flood.Goals as goal

begins_within : (n i : ℕ) (cut : List (ℕ × Item)) → i < length cut → Fit n cut → (get_or cut i default_item).0 ≤ n
begins_within n i [] inside fit = absurd (omega arith)
begins_within n zero (p ∷ cut) inside fit = omega arith
begins_within n (suc i) (p ∷ cut) inside fit = begins_within n i cut (omega arith) fit.1

pub cluster_before-requires : goal.cluster_before-requires
cluster_before-requires c =
    rw (c.join.ensures, length-item_joined) (
    omega (arith, begins_within (length c.args.glyphs.now) c.loop-i.i c.args.cut.now (search rules) c.requires)
    )
