use Rattle.std.proofs.Common.{ℕ, ◌<◌, ◌≡◌, List, length, map, slice_index_or, sym, ◌∙◌, ap, arith}
use Rattle.std.proofs.lemmas.List.{get_or-map, length-map}
use Rattle.opentype_face.proofs.Foremost.{first_found, first_missed, first_out}
use Rattle.opentype_font.specs.declared.script_features.ListedFeature.{ListedFeature}
use Rattle.opentype_font.specs.ScriptFeatures.{feature_view, lookups_by, no_feature, tagged_lookups}
use Rattle.opentype_font.proofs.script_features.lookups_by.Goals as goal

-- what is seen of a feature by its place
nth_view : (xs : List ListedFeature) (i : ℕ) (x : ListedFeature) → i < length xs → x ≡ slice_index_or xs i x →
    slice_index_or (map feature_view xs) i no_feature ≡ feature_view x
nth_view xs i x lt e = get_or-map feature_view xs i x no_feature lt ∙ ap feature_view (sym e)

pub returns-then-is_some : goal.returns-then-is_some
unfolding lookups_by
returns-then-is_some c =
    let seen = nth_view _ c.loop-i.i _ c.loop-i-test.true c.index-features-i.is in
    let many = length-map c.args.features.now feature_view in
    first_found (λ list. list.now) _ _ _ _ c.loop-i.invariant (omega (arith, many))
    (c.lookups_if-found.ensures ∙ ap (tagged_lookups c.args.tag) (sym seen)) (cc)

pub loop-i-preserved : goal.loop-i-preserved
loop-i-preserved c =
    let seen = nth_view _ c.loop-i.i _ c.loop-i-test.true c.index-features-i.is in
    let many = length-map c.args.features.now feature_view in
    first_missed (λ list. list.now) _ _ _ _ c.loop-i.invariant (omega (arith, many))
    (c.lookups_if-found.ensures ∙ ap (tagged_lookups c.args.tag) (sym seen)) (cc)

pub returns : goal.returns
unfolding lookups_by
returns c = let many = length-map c.args.features.now feature_view in
    sym (first_out _ _ _ c.loop-i.invariant (omega (arith, many)))
