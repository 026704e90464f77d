-- A Thai text cut before a glyph that is neither an above-base mark nor a SARA AM, and with private use forms no mark.
use Rattle.std.proofs.Common.{ℕ, suc, ◌<◌, ◌≡◌, Bool, true, false, List, [], ◌∷◌, ◌++◌, length, map, reverse, refl, sym, ap, ◌∙◌, arith}
use Rattle.std.specs.Prelude.{if◌then◌else◌}
use Rattle.std.proofs.lemmas.List.{append-nil, append_assoc, length-map, length-reverse, map-append, reverse-append}
use Rattle.std.proofs.lemmas.Simd.{map-map}
use Rattle.shapers_buffer.specs.Glyphs.{Glyph, Glyphs}
use Rattle.shapers_buffer.specs.declared.buffer.level.BufferClusterLevel.{BufferClusterLevel}
use Rattle.shapers_buffer.specs.Clusters.{merge_all}
use Rattle.shapers_buffer.specs.Glyph.{order_view, plain}
use Rattle.shapers_buffer.specs.Lists.{before_last_stretch}
use Rattle.shapers_buffer.proofs.ListLaws.{before_last_run_stop, from_end, last_run_stop}
use Rattle.shapers_clusters.proofs.FlagCalls.{map-unsafe_all, without_flags-or}
use Rattle.shapers_clusters.proofs.Merging.{order_view-merge_all}
use Rattle.shapers_text.specs.Thai.{SaraAmRule, glyph_rule, glyphs_in_two, in_two, is_above, is_am, nikhahit, sara_aa}
use Rattle.shapers_text.specs.ThaiForms.{action_after, forms_between, is_thai_mark, last_type, preprocessed_text, with_characters, with_thai_forms}
use Rattle.shapers_text.specs.ThaiWalk.{text_with_pending}
use Rattle.shapers_text.proofs.ThaiFormLaws.{below_stop}
use Rattle.shapers_text.proofs.ThaiFormWalks.{in_order}
use Rattle.shapers_text.proofs.ThaiInTwo.{held_push_other, in_two-map, in_two_push, in_two_push_am, pending_push_mark}

-- THE REWRITING
-- cut before y the text is rewritten in halves, also with a NIKHAHIT pending; and what begins with y still does
pub record CutAt {X : Type 0} (rule : SaraAmRule X) (xs : List X) (y : X) (ys : List X) : Type 0 where
  pub whole : in_two rule (xs ++ y ∷ ys) ≡ in_two rule xs ++ in_two rule (y ∷ ys)
  pub pending : (n : X) → text_with_pending rule (xs ++ y ∷ ys) n ≡ in_two rule xs ++ text_with_pending rule (y ∷ ys) n
  pub opens : (t : List X) × (in_two rule (y ∷ ys) ≡ y ∷ t)
  pub opens_pending : (n : X) → (t : List X) × (text_with_pending rule (y ∷ ys) n ≡ y ∷ t)

cut_one : {X : Type 0} (rule : SaraAmRule X) (xs : List X) (y : X) → is_above rule y ≡ false → is_am rule y ≡ false
    → CutAt rule xs y []
cut_one rule xs y low other =
    let alone = in_two_push rule [] y other in
    let whole = (in_two_push rule xs y other) ∙ ap (λ zs. in_two rule xs ++ zs) (sym alone) in
    record {
      whole = whole;
      pending = search (arith, held_push_other, append_assoc);
      opens = ([], alone);
      opens_pending = λ n. (n ∷ [], search (arith, held_push_other));
    }

cut_whole : {X : Type 0} (rule : SaraAmRule X) (xs : List X) (y : X) (ys : List X) (x : X) → CutAt rule xs y ys
    → in_two rule (xs ++ y ∷ (ys ++ x ∷ [])) ≡ in_two rule xs ++ in_two rule (y ∷ (ys ++ x ∷ []))
cut_whole rule xs y ys x p =
    elim (is_am rule x) as (λ b. is_am rule x ≡ b → in_two rule (xs ++ y ∷ (ys ++ x ∷ [])) ≡ in_two rule xs
    ++ in_two rule (y ∷ (ys ++ x ∷ []))) [
      | true ↦ λ h. ap (in_two rule) (sym (append_assoc xs (y ∷ ys) (x ∷ [])))
          ∙ in_two_push_am rule (xs ++ y ∷ ys) x h
          ∙ ap (λ zs. zs ++ rule.sara_aa x ∷ []) (p.pending (rule.nikhahit x))
          ∙ append_assoc (in_two rule xs) (text_with_pending rule (y ∷ ys) (rule.nikhahit x)) (rule.sara_aa x ∷ [])
          ∙ ap (λ zs. in_two rule xs ++ zs) (sym (in_two_push_am rule (y ∷ ys) x h))
      | false ↦ λ h. ap (in_two rule) (sym (append_assoc xs (y ∷ ys) (x ∷ []))) ∙ in_two_push rule (xs ++ y ∷ ys) x h
          ∙ ap (λ zs. zs ++ x ∷ []) p.whole ∙ append_assoc (in_two rule xs) (in_two rule (y ∷ ys)) (x ∷ [])
          ∙ ap (λ zs. in_two rule xs ++ zs) (sym (in_two_push rule (y ∷ ys) x h))
    ] refl

cut_pending : {X : Type 0} (rule : SaraAmRule X) (xs : List X) (y : X) (ys : List X) (x n : X) → CutAt rule xs y ys
    → text_with_pending rule (xs ++ y ∷ (ys ++ x ∷ [])) n ≡ in_two rule xs
    ++ text_with_pending rule (y ∷ (ys ++ x ∷ [])) n
cut_pending rule xs y ys x n p =
    elim (is_above rule x) as (λ b. is_above rule x ≡ b → text_with_pending rule (xs ++ y ∷ (ys ++ x ∷ [])) n
    ≡ in_two rule xs ++ text_with_pending rule (y ∷ (ys ++ x ∷ [])) n) [
      | true ↦ λ h. ap (λ zs. text_with_pending rule zs n) (sym (append_assoc xs (y ∷ ys) (x ∷ [])))
          ∙ pending_push_mark rule (xs ++ y ∷ ys) x n h ∙ ap (λ zs. zs ++ x ∷ []) (p.pending n)
          ∙ append_assoc (in_two rule xs) (text_with_pending rule (y ∷ ys) n) (x ∷ [])
          ∙ ap (λ zs. in_two rule xs ++ zs) (sym (pending_push_mark rule (y ∷ ys) x n h))
      | false ↦ λ h. ap (λ zs. text_with_pending rule zs n) (sym (append_assoc xs (y ∷ ys) (x ∷ [])))
          ∙ held_push_other rule (xs ++ y ∷ ys) x n h
          ∙ ap (λ zs. in_two rule zs ++ n ∷ []) (append_assoc xs (y ∷ ys) (x ∷ []))
          ∙ ap (λ zs. zs ++ n ∷ []) (cut_whole rule xs y ys x p)
          ∙ append_assoc (in_two rule xs) (in_two rule (y ∷ (ys ++ x ∷ []))) (n ∷ [])
          ∙ ap (λ zs. in_two rule xs ++ zs) (sym (held_push_other rule (y ∷ ys) x n h))
    ] refl

opens_whole : {X : Type 0} (rule : SaraAmRule X) (xs : List X) (y : X) (ys : List X) (x : X) → CutAt rule xs y ys
    → (t : List X) × (in_two rule (y ∷ (ys ++ x ∷ [])) ≡ y ∷ t)
opens_whole rule xs y ys x p =
    elim (is_am rule x) as (λ b. is_am rule x ≡ b → (t : List _) × (in_two rule (y ∷ (ys ++ x ∷ [])) ≡ y ∷ t)) [
      | true ↦ λ h. let o =
          p.opens_pending (rule.nikhahit x) in (
            o.0 ++ rule.sara_aa x ∷ [],
            in_two_push_am rule (y ∷ ys) x h ∙ ap (λ zs. zs ++ rule.sara_aa x ∷ []) o.1,
          )
      | false ↦ λ h. (p.opens.0 ++ x ∷ [], in_two_push rule (y ∷ ys) x h ∙ ap (λ zs. zs ++ x ∷ []) p.opens.1)
    ] refl

pub cut_at : {X : Type 0} (rule : SaraAmRule X) (xs : List X) (y : X) (ys : List X) → is_above rule y ≡ false
    → is_am rule y ≡ false → CutAt rule xs y ys
cut_at rule xs y ys low other =
    from_end (CutAt rule xs y) (cut_one rule xs y low other)
    (λ zs x p. record {
      whole = cut_whole rule xs y zs x p;
      pending = search (arith, cut_pending);
      opens = opens_whole rule xs y zs x p;
      opens_pending = λ n.
          elim (is_above rule x) as (λ b. is_above rule x ≡ b → (t : List _) × (text_with_pending rule (y ∷ (zs ++ x ∷
          [])) n ≡ y ∷ t)) [
            | true ↦ λ h. let o = p.opens_pending n in (
              o.0 ++ x ∷ [],
              pending_push_mark rule (y ∷ zs) x n h ∙ ap (λ zs. zs ++ x ∷ []) o.1,
            )
            | false ↦ λ h. let o = opens_whole rule xs y zs x p in (
              o.0 ++ n ∷ [],
              held_push_other rule (y ∷ zs) x n h ∙ ap (λ zs. zs ++ n ∷ []) o.1,
            )
          ] refl;
    }) ys

-- THE FORMS
-- what stands before a character that is no mark isn't seen behind it
last_in_front : (xs ys : List ℕ) → 0 < length xs → last_type (xs ++ ys) ≡ last_type xs
last_in_front [] ys some = absurd (omega arith)
last_in_front (x ∷ xs) ys some = refl

same_action : (us : List ℕ) (v : ℕ) (ms : List ℕ) (w : ℕ) → is_thai_mark v ≡ false → action_after (us ++ v ∷ ms) w
    ≡ action_after (v ∷ ms) w
same_action us v ms w h =
    let b = before_last_stretch is_thai_mark ms in
    cc (
      before_last_run_stop is_thai_mark us v ms h,
      reverse-append us (v ∷ b),
      last_in_front (reverse (v ∷ b)) (reverse us) (omega (arith, length-reverse (v ∷ b))),
      before_last_run_stop is_thai_mark [] v ms h,
      last_run_stop is_thai_mark us v ms h,
      last_run_stop is_thai_mark [] v ms h,
    )

later_forms : (has : ℕ → Bool) (us : List ℕ) (v : ℕ) (ms vs after : List ℕ) → is_thai_mark v ≡ false
    → forms_between has (us ++ v ∷ ms) vs after ≡ forms_between has (v ∷ ms) vs after
later_forms has us v ms [] after h = refl
later_forms has us v ms (w ∷ vs) after h =
    search (arith, same_action, append_assoc, later_forms has us v (ms ++ w ∷ []) vs after h)

forms_cut : (has : ℕ → Bool) (before us : List ℕ) (v : ℕ) (vs : List ℕ) → is_thai_mark v ≡ false
    → forms_between has before (us ++ v ∷ vs) [] ≡ forms_between has before us [] ++ forms_between has [] (v ∷ vs) []
forms_cut has before [] v vs h = search (arith, later_forms)
forms_cut has before (u ∷ us) v vs h =
    search (arith, append-nil, below_stop, forms_cut has (before ++ u ∷ []) us v vs h)

forms_long : (has : ℕ → Bool) (before us : List ℕ) → length (forms_between has before us []) ≡ length us
forms_long has before [] = refl
forms_long has before (u ∷ us) = ap suc (forms_long has (before ++ u ∷ []) us)

characters-append : (us vs : List ℕ) (gs hs : Glyphs) → length us ≡ length gs
    → with_characters (us ++ vs) (gs ++ hs) ≡ with_characters us gs ++ with_characters vs hs
characters-append [] vs [] hs same = refl
characters-append (u ∷ us) vs (g ∷ gs) hs same = cc (characters-append us vs gs hs (omega arith))
characters-append _ vs _ hs same = absurd (omega arith)

pub forms_halves : (has : ℕ → Bool) (gs : Glyphs) (y : Glyph) (t : Glyphs) → is_thai_mark y.glyph_id ≡ false
    → with_thai_forms has (gs ++ y ∷ t) ≡ with_thai_forms has gs ++ with_thai_forms has (y ∷ t)
forms_halves = search (arith, map-append, forms_cut, characters-append, forms_long, length-map)

-- THE ORDER VIEW
abbrev pub view_made : Bool → (ℕ → Bool) → Glyphs → Glyphs
view_made forms has gs = if forms then with_thai_forms has (glyphs_in_two gs) else glyphs_in_two gs

named_view : (us : List ℕ) (gs : Glyphs) → map plain (with_characters us gs) ≡ with_characters us (map plain gs)
named_view (u ∷ us) (g ∷ gs) = cc (named_view us gs)
named_view _ _ = refl

two_view : (level : BufferClusterLevel) (sts : List (ℕ × ℕ)) (gs : Glyphs)
    → order_view (glyphs_in_two (merge_all level sts gs)) ≡ glyphs_in_two (order_view gs)
two_view level sts gs = cc (
  in_two-map plain nikhahit sara_aa glyph_rule (λ g. refl) (λ g. refl) (merge_all level sts gs),
  order_view-merge_all level sts gs,
)

pub text_view : (forms : Bool) (has : ℕ → Bool) (level : BufferClusterLevel) (gs : Glyphs)
    → order_view (preprocessed_text forms has level gs) ≡ view_made forms has (order_view gs)
text_view false = search (arith, two_view)
text_view true = search (arith, named_view, map-map, map-unsafe_all, without_flags-or, in_order, two_view)

pub made_halves : (forms : Bool) (has : ℕ → Bool) (gs : Glyphs) (h : Glyph) (hs : Glyphs)
    → is_above glyph_rule h ≡ false → is_am glyph_rule h ≡ false → (forms ≡ true → is_thai_mark h.glyph_id ≡ false)
    → view_made forms has (gs ++ h ∷ hs) ≡ view_made forms has gs ++ view_made forms has (h ∷ hs)
made_halves false has gs h hs low other letter = (cut_at glyph_rule gs h hs low other).whole
made_halves true has gs h hs low other letter =
    let p = cut_at glyph_rule gs h hs low other in
    cc (p.whole, p.opens.1, forms_halves has (glyphs_in_two gs) h p.opens.0 (letter refl))

pub thai_order_halves : (forms : Bool) (has : ℕ → Bool) (level : BufferClusterLevel) (gs : Glyphs)
    (h : Glyph) (hs : Glyphs) → is_above glyph_rule h ≡ false → is_am glyph_rule h ≡ false
    → (forms ≡ true → is_thai_mark h.glyph_id ≡ false) → order_view (preprocessed_text forms has level (gs ++ h ∷ hs))
    ≡ order_view (preprocessed_text forms has level gs) ++ order_view (preprocessed_text forms has level (h ∷ hs))
thai_order_halves forms has level gs h hs low other letter = cc (
  text_view forms has level (gs ++ h ∷ hs),
  map-append plain gs (h ∷ hs),
  made_halves forms has (order_view gs) (plain h) (order_view hs) low other letter,
  text_view forms has level gs,
  text_view forms has level (h ∷ hs),
)
