-- A syllable that is reordered behind groups that aren't written: the same as behind these in their clusters.
use Rattle.std.proofs.Common.{ℕ, inl, inr, ◌⊎◌, ◌+◌, ◌-◌, ◌<◌, ◌≤◌, ◌≡◌, List, [], ◌∷◌, ◌++◌, map, length, take, drop, refl, sym, ◌∙◌, ap, subst, arith, length-take}
use Rattle.std.specs.Prelude.{Bool, false, Option}
use Rattle.std.specs.List.{list_any}
use Rattle.std.proofs.lemmas.List.{drop-map, length-map, map-append, take-append-drop, take-append-le, take-map, take-take}
use Rattle.std.proofs.Math.Nat.{eq-or-lt_of_le}
use Rattle.shapers_buffer.specs.Glyphs.{Glyph, Glyphs}
use Rattle.shapers_buffer.specs.declared.buffer.tag.Script.{Script}
use Rattle.shapers_buffer.specs.Buffer.{Buffer, but_places}
use Rattle.shapers_buffer.specs.Clusters.{least, stretch_of, with_stretch}
use Rattle.shapers_buffer.specs.Glyph.{clusters, order_view, plain}
use Rattle.shapers_buffer.specs.Syllables.{first_syllable_len}
use Rattle.shapers_buffer.proofs.ClusterLemmas.{length-stretch, map-stretch}
use Rattle.shapers_clusters.specs.CarriedGroups.{AreCarried, AreShown, CanTakeBack, EndsAbove, GroupsGuarded, GroupsTakenBack, fallen_groups, first_group_cluster, last_groups, len_of, with_groups}
use Rattle.shapers_clusters.specs.declared.carried_groups.CarriedGroups.{CarriedGroups}
use Rattle.shapers_clusters.specs.Steps.{FitSteps, Step, after_steps, widened}
use Rattle.shapers_clusters.proofs.GroupWalk.{none_carried, none_written}
use Rattle.shapers_clusters.proofs.GuardedGroups.{changed_behind, groups_in_front, read_clusters, steps_behind}
use Rattle.shapers_clusters.proofs.Moves.{falls-after_steps}
use Rattle.shapers_clusters.proofs.SettledGroups.{behind_groups, fallen_len, front_view, guarded_length, guarded_view, length_groups, order_view-groups, shown_settles}
use Rattle.shapers_clusters.proofs.Widened.{all_fit-widened}
use Rattle.shapers_syllabic.proofs.LinkedSyllables.{Leads, Link, Meaning, Orders, PermutesNumbers, Stays, linked_passes, next_syllable, numbers-view, past_changing, rest_end, takes_next, to_changing, to_link_rest}
use Rattle.shapers_syllabic.proofs.Skipping.{to_end}
use Rattle.shapers_syllabic.specs.Reordering.{SyllableReordered, carried, glyph_numbers}
use Rattle.shapers_syllabic.specs.ReorderingLaws.{ReorderLaws}
use Rattle.shapers_syllabic.specs.ReorderingWalk.{CarryingFits, IsNextChanging, ReorderedBehind, RestLinked, TakesRest, ToLink, groups_written}

abbrev zip_with : {X Y Z : Type 0} → (X → Y → Z) → List X → List Y → List Z
zip_with f [] ys = []
zip_with f (x ∷ xs) [] = []
zip_with f (x ∷ xs) (y ∷ ys) = f x y ∷ zip_with f xs ys

-- VIEWS: the order view, and what is carried along, are the glyph
abbrev rebuilt : Glyph → Glyph → Glyph
rebuilt a b = record a { cluster = b.cluster; mask = a.mask + b.mask }

rebuilt_is : (g : Glyph) → rebuilt (plain g) (carried g) ≡ g
rebuilt_is = search arith

both_views : (gs hs : Glyphs) → map plain gs ≡ map plain hs → map carried gs ≡ map carried hs → gs ≡ hs
both_views gs hs same also = sym (all gs) ∙ ap (λ l. zip_with rebuilt l (map carried gs)) same
    ∙ ap (λ l. zip_with rebuilt (map plain hs) l) also ∙ all hs
  where
    all : (gs : Glyphs) → zip_with rebuilt (map plain gs) (map carried gs) ≡ gs
    all [] = refl
    all (g ∷ gs) = ap (λ x. x ∷ zip_with rebuilt (map plain gs) (map carried gs)) (rebuilt_is g)
        ∙ ap (λ xs. g ∷ xs) (all gs)

-- THE WALK looks at what stands behind groups

-- BEHIND A RUN, by an order whose steps are known
abbrev pub Suffices : Meaning → (Option Script → Glyphs → List Step) → Link → Type 0
Suffices meaning steps link = (s e : ℕ) (b c : Buffer) →
    SyllableReordered (meaning b.script) (steps b.script) s e b c → link s e b c

pub numbers_by_view : (s e : ℕ) (gs hs : Glyphs) → order_view gs ≡ order_view hs →
    glyph_numbers (stretch_of s e gs) ≡ glyph_numbers (stretch_of s e hs)
numbers_by_view = search (arith, map-stretch, numbers-view)

-- THE SYLLABLE. Nothing that the order reads is another one while groups are shown
pub record GuardedStands (old now : Buffer) : Type 0 where
  pub view : order_view now.glyphs ≡ order_view old.glyphs
  pub same_length : length now.glyphs ≡ length old.glyphs
  pub positions : now.positions ≡ old.positions

pub guarded_stands : (first end count : ℕ) (it after : CarriedGroups) (old now : Buffer) → AreCarried it old.glyphs →
    GroupsGuarded first end it old.glyphs after count now.glyphs → now ≡ record old { glyphs = now.glyphs } →
    GuardedStands old now
guarded_stands first end count it after old now fits g others = search (guarded_view, guarded_length)

same_clusters : (xs ys : Glyphs) → map carried xs ≡ map carried ys →
    map (λ (g : Glyph). g.cluster) xs ≡ map (λ (g : Glyph). g.cluster) ys
same_clusters xs ys same = sym (own xs) ∙ ap (map (λ (g : Glyph). g.cluster)) same ∙ own ys
  where
    own : (xs : Glyphs) → map (λ (g : Glyph). g.cluster) (map carried xs)
        ≡ map (λ (g : Glyph). g.cluster) xs
    own [] = refl
    own (x ∷ xs) = ap (λ l. x.cluster ∷ l) (own xs)

take_front : (s e k : ℕ) (f : Glyphs → Glyphs) (xs : Glyphs) → k ≤ s →
    s ≤ length xs → take k (with_stretch s e f xs) ≡ take k xs
take_front = search (arith, take-append-le, length-take, take-take)

-- with groups shown
pub record ShownReordered (meaning : Glyphs → Glyphs) (steps : Glyphs →
    List Step) (first end count : ℕ) (before after : CarriedGroups) (old reordered : Buffer)
    (between : Glyphs) : Type 0 where
  pub can : CanTakeBack after count reordered.glyphs
  pub made : (final : CarriedGroups) (new : Buffer) → GroupsTakenBack after count reordered.glyphs final new.glyphs →
      new ≡ record reordered { glyphs = new.glyphs } → SyllableReordered meaning steps first end
      (record old { glyphs = with_groups before between }) (groups_written final new)

pub shown_reordered : (meaning : Glyphs → Glyphs) (steps : Glyphs →
    List Step) (first end count : ℕ) (before after : CarriedGroups) (old reordered : Buffer)
    (between hs : Glyphs) → ReorderLaws meaning steps → first ≤ end → end ≤ length between →
    AreCarried before between → before.end ≡ first → 0 < count → count ≤ length before.groups.items →
    AreShown count before between after hs →
    ((first_group_cluster (last_groups count before) < least (clusters (stretch_of first end between)))
    ⊎ ((count ≡ length before.groups.items) × EndsAbove (first_group_cluster before.groups.items)
    (take before.start between))) → SyllableReordered meaning steps first end (record old { glyphs = hs }) reordered →
    ShownReordered meaning steps first end count before after old reordered between
shown_reordered meaning steps first end count before after old reordered between hs laws order within fits at some many
    is stops done =
    let X = reordered.glyphs in
    let xs = order_view between in
    let xn : length xs ≡ length between = length-map between plain in
    let low = first - count - 1 in
    let span = fits.span in
    let hn : length hs ≡ length between = sym (length-map hs plain) ∙ ap length is.view ∙ xn in
    let led = steps (stretch_of first end xs) in
    let fit : FitSteps (end - first) led = subst (λ j. FitSteps j led)
    (length-stretch first end xs (omega arith)) (laws.fits (stretch_of first end xs)) in
    let over = after_steps old.level (map (widened first end (length between)) led) in
    let behind = changed_behind first end count over before after between hs order within
    (steps_behind old.level first end (length between) count led order within some fit) fits at some many is stops in
    let Y = over hs in
    let moved : map carried X ≡ map carried Y = done.moved
    ∙ ap (λ j. map carried (after_steps old.level (map (widened first end j) (steps (stretch_of first end
    (order_view hs)))) hs)) hn
    ∙ ap (λ ys. map carried (after_steps old.level (map (widened first end (length between))
    (steps (stretch_of first end ys))) hs)) is.view in
    let W = with_stretch first end meaning xs in
    let ordered : order_view X ≡ W = done.order ∙ ap (with_stretch first end meaning) is.view in
    let Xn : length X ≡ length between = sym (length-map X carried) ∙ ap length moved ∙ length-map Y carried
    ∙ behind.same_length in
    -- what stands before those that were shown
    let y_low : take low Y ≡ take low between =
    subst (λ f. take (f - count - 1) Y ≡ take (f - count - 1) between) at behind.front in
    let x_low : take low X ≡ take low between = both_views (take low X) (take low between)
    (sym (take-map plain low X) ∙ ap (take low) ordered ∙ take_front first end low meaning xs (omega arith) (omega arith)
    ∙ take-map plain low between)
    (sym (take-map carried low X) ∙ ap (take low) moved ∙ take-map carried low Y ∙ ap (map carried) y_low) in
    let settles = shown_settles first count before after between hs X fits at some many is Xn x_low in
    let room = is.room in
    let F = fallen_groups count before Y in
    let place = before.end - count in
    let last = last_groups count before in
    let read : fallen_groups count before X ≡ F =
    ap (λ l. take (length before.groups.items - count) before.groups.items ++ l)
    (read_clusters (stretch_of place before.end X) (stretch_of place before.end Y) last
    (same_clusters (stretch_of place before.end X) (stretch_of place before.end Y)
    (map-stretch carried place before.end X ∙ ap (stretch_of place before.end) moved
    ∙ sym (map-stretch carried place before.end Y)))) in
    let f_len : len_of F ≡ len_of before.groups.items =
    fallen_len count before Y many (omega arith) (omega arith) in
    let C = groups_in_front before F between in
    let c_span : before.start + len_of F ≡ before.end = omega arith in
    let c_view : map plain C ≡ take first xs = front_view before F between c_span
    ∙ ap (λ k. take k (map plain between)) at in
    let meant = with_groups before between in
    let meant_view : order_view meant ≡ xs = order_view-groups before between span in
    let meant_n : length meant ≡ length between = length_groups before between span in
    record {
      can = settles.can;
      made = λ final new groups_settled others.
          let fin = with_groups final new.glyphs in
          let fin_is : fin ≡ C ++ drop first X = settles.made final new.glyphs groups_settled
          ∙ ap (λ groups. groups_in_front before groups between ++ drop first X) read in
          let over_is : over meant ≡ C ++ drop first Y = behind.meant_is ∙ ap (λ k. C ++ drop k Y) at in
          record {
            others = ap (λ (b : Buffer). but_places (record b { glyphs = fin })) others
                ∙ ap (λ (b : Buffer). record b { glyphs = fin }) done.others;
            order = ap (map plain) fin_is ∙ map-append plain C (drop first X)
                ∙ ap (λ l. l ++ map plain (drop first X)) (c_view
                ∙ sym (take_front first end first meaning xs (omega arith) (omega arith)))
                ∙ ap (λ l. take first W ++ l) (sym (drop-map plain first X) ∙ ap (drop first) ordered)
                ∙ take-append-drop first W ∙ ap (with_stretch first end meaning) (sym meant_view);
            moved = ap (map carried) fin_is ∙ map-append carried C (drop first X)
                ∙ ap (λ l. map carried C ++ l) (sym (drop-map carried first X) ∙ ap (drop first) moved
                ∙ drop-map carried first Y)
                ∙ sym (map-append carried C (drop first Y))
                ∙ ap (map carried) (sym over_is)
                ∙ ap (λ j. map carried (after_steps old.level (map (widened first end j) led) meant)) (sym meant_n)
                ∙ ap (λ ys. map carried (after_steps old.level (map (widened first end (length meant))
                (steps (stretch_of first end ys))) meant)) (sym meant_view);
          };
    }

-- either way
pub record BehindGroups (link : Link) (first end : ℕ) (it after : CarriedGroups) (count : ℕ)
    (old reordered : Buffer) : Type 0 where
  pub can : CanTakeBack after count reordered.glyphs
  pub linked : (final : CarriedGroups) (new : Buffer) → GroupsTakenBack after count reordered.glyphs final new.glyphs →
      new ≡ record reordered { glyphs = new.glyphs } → link first end (groups_written it old) (groups_written final new)
  pub ends : after.end ≡ first

pub behind_guarded : (meaning : Meaning) (steps : Option Script → Glyphs → List Step) (link : Link) →
    Leads meaning steps link → Suffices meaning steps link →
    ((script : Option Script) → ReorderLaws (meaning script) (steps script)) → (first end count : ℕ)
    (it after : CarriedGroups) (old now reordered : Buffer) → first ≤ end → end ≤ length old.glyphs →
    AreCarried it old.glyphs → GroupsGuarded first end it old.glyphs after count now.glyphs →
    now ≡ record old { glyphs = now.glyphs } → link first end now reordered →
    BehindGroups link first end it after count old reordered
behind_guarded meaning steps link leads suffices laws first end count it after old now reordered order within fits g
    others linked =
    let before = g.before in
    let between = g.between in
    let stands = guarded_stands first end count it after old now fits g others in
    let bn : length between ≡ length old.glyphs = search (arith, length_groups) in
    let meant_is : groups_written it old ≡ record old { glyphs = with_groups before between } =
    cc g.same in
    let hs = now.glyphs in
    let done = leads first end (record old { glyphs = hs }) reordered
    (subst (λ b. link first end b reordered) others linked) in
    elim (eq-or-lt_of_le {n = 0} {m = count} (omega arith)) [
      | inl none ↦
          let all = g.none (sym none) in
          let empty : len_of before.groups.items ≡ 0 = ap len_of all.1 in
          let start_end : before.start ≡ before.end = omega arith in
          let now_is : record old { glyphs = with_groups before between } ≡ now =
          ap (λ (gs : Glyphs). record old { glyphs = gs })
          (none_written before between all.1 start_end ∙ sym all.2) ∙ sym others in
          let Xn : length reordered.glyphs ≡ length now.glyphs =
          let xs = order_view (record old { glyphs = hs }).glyphs in
          let led = (steps old.script) (stretch_of first end xs) in
          let xn = length-map (record old { glyphs = hs }).glyphs plain in
          let fit : FitSteps (end - first) led = subst (λ j. FitSteps j led) (length-stretch first end xs (omega
          arith)) ((laws old.script).fits (stretch_of first end xs)) in
          let ws = map (widened first end (length (record old { glyphs = hs }).glyphs)) led in
          sym (length-map reordered.glyphs carried) ∙ ap length done.moved
          ∙ length-map (after_steps (record old { glyphs = hs }).level ws (record old { glyphs = hs }).glyphs) carried
          ∙ (falls-after_steps (record old { glyphs = hs }).level ws (record old { glyphs = hs }).glyphs
          (all_fit-widened first end (length (record old { glyphs = hs }).glyphs) led order (omega arith) fit)).0 in
          let ends = ap (λ (a : CarriedGroups). a.end) all.0 ∙ g.at in
          let none_after = ap (λ (a : CarriedGroups). a.groups.items) all.0 ∙ all.1 in
          let start_after = ap (λ (a : CarriedGroups). a.start) all.0 ∙ start_end
          ∙ ap (λ (a : CarriedGroups). a.end) (sym all.0) in
          record {
            can = record {
              within = omega arith;
              in_range = omega arith;
              kept = λ some. absurd (omega arith);
              none = λ _. none_carried after reordered.glyphs none_after start_after (omega arith);
              fits = λ some. absurd (omega arith);
            };
            linked = λ final new groups_settled rest.
                let left : groups_written final new ≡ reordered =
                ap (λ (b : Buffer). record b { glyphs = with_groups final new.glyphs }) rest
                ∙ ap (λ (gs : Glyphs). record reordered { glyphs = gs })
                (ap (λ (a : CarriedGroups). with_groups a new.glyphs) (groups_settled.still (sym none))
                ∙ none_written after new.glyphs none_after start_after ∙ groups_settled.none (sym none)) in
                subst (λ b. link first end b (groups_written final new)) (sym (meant_is ∙ now_is))
                (subst (link first end now) (sym left) linked);
            ends = ends;
          }
      | inr some ↦
          let is = g.some some in
          let shown_groups = shown_reordered (meaning old.script) (steps old.script) first end count before after old
          reordered
          between hs (laws old.script) order (omega arith) g.fits g.at some g.within is (g.stops some).1 done in
          record {
            can = shown_groups.can;
            linked = λ final new groups_settled rest. subst (λ b. link first end b (groups_written final new))
                (sym meant_is)
                (suffices first end (record old { glyphs = with_groups before between }) (groups_written final new)
                (shown_groups.made final new groups_settled rest));
            ends = ap (λ (a : CarriedGroups). a.end) is.same ∙ g.at;
          }
    ]

-- WHAT THE WALK STILL HAS TO DO, if the groups were written
pub record ToCarry (takes : List ℕ → Type 0) (link : Link) (from : ℕ) (old : Buffer) (it : CarriedGroups) (now : Buffer)
    (start : ℕ) : Type 0 where
  pub fits : CarryingFits start it now.glyphs
  pub to : ToLink takes link from old (groups_written it now) start

-- without groups
pub written_none : (it : CarriedGroups) (b : Buffer) → it.groups.items ≡ [] → it.start ≡ it.end →
    groups_written it b ≡ b
written_none it b none = search none_written

pub to_carry_rest : (takes : List ℕ → Type 0) (link : Link) (from : ℕ) (old : Buffer) (it : CarriedGroups) →
    it.start ≡ 0 → it.end ≡ 0 → it.groups.items ≡ [] → TakesRest takes from old → ToCarry takes link from old it old from
to_carry_rest takes link from old it start_is end_is none rest =
    let same : it.start ≡ it.end = omega arith in
    search (arith, to_link_rest takes link from old rest, none_carried)

pub record CarriedStands (it : CarriedGroups) (old now : Buffer) (start : ℕ) : Type 0 where
  pub inside : start ≤ length now.glyphs
  pub positions : now.positions ≡ old.positions
  pub fits : (first : ℕ) → start ≤ first → CarryingFits first it now.glyphs

pub carried_stands : (takes : List ℕ → Type 0) (link : Link) (from : ℕ) (old : Buffer) (it : CarriedGroups) (now : Buffer)
    (start : ℕ) → ToCarry takes link from old it now start → CarriedStands it old now start
carried_stands = search (arith, length_groups)

next_carried : (changes : Glyph → Bool) (it : CarriedGroups) (start first : ℕ)
    (gs read : Glyphs) → read ≡ gs → AreCarried it gs → it.end ≤ start →
    IsNextChanging changes start read first → IsNextChanging changes start (with_groups it gs) first
next_carried = search (arith, length_groups, behind_groups)

pub takes_carried : (meaning : Meaning) (takes : List ℕ → Type 0) (changes : Glyph → Bool) (link : Link)
    (from : ℕ) (old : Buffer) (it : CarriedGroups) (now : Buffer) (read : Glyphs) (start first end : ℕ) →
    read ≡ now.glyphs → PermutesNumbers meaning → Orders meaning link → Stays changes link →
    IsNextChanging changes start read first → ToCarry takes link from old it now start →
    end ≡ first + first_syllable_len (drop first now.glyphs) → takes (glyph_numbers (stretch_of first end now.glyphs))
takes_carried meaning takes changes link from old it now read start first end is permutes orders stays found state end_is =
    let meant = with_groups it now.glyphs in
    let fits = state.fits.fits in
    let found_meant = next_carried changes it start first now.glyphs read is fits state.fits.ends found in
    let to = to_changing meaning takes changes link from old (groups_written it now) meant start first refl permutes orders
    stays found_meant state.to in
    let end_meant = end_is
    ∙ ap (λ l. first + first_syllable_len l) (sym (behind_groups it first now.glyphs fits (omega arith))) in
    subst takes (numbers_by_view first end meant now.glyphs (order_view-groups it now.glyphs fits.span))
    (takes_next takes link from old (groups_written it now) first end to
    (next_syllable meant first end found_meant.inside end_meant))

-- past the next syllable that may change
pub record CarriedNext (takes : List ℕ → Type 0) (link : Link) (from : ℕ) (old now : Buffer) (it : CarriedGroups) (new : Buffer)
    (end : ℕ) : Type 0 where
  pub same_length : length new.glyphs ≡ length now.glyphs
  pub state : ToCarry takes link from old it new end

pub carry_next : (meaning : Meaning) (takes : List ℕ → Type 0) (changes : Glyph → Bool) (link : Link)
    (from : ℕ) (old : Buffer) (it : CarriedGroups) (now : Buffer) (read : Glyphs) (start first end : ℕ)
    (after : CarriedGroups) (new : Buffer) → read ≡ now.glyphs → PermutesNumbers meaning → Orders meaning link →
    Stays changes link → IsNextChanging changes start read first → ToCarry takes link from old it now start →
    end ≡ first + first_syllable_len (drop first now.glyphs) → first ≤ end →
    ReorderedBehind link first end it now after new → CarriedNext takes link from old now after new end
carry_next meaning takes changes link from old it now read start first end after new is permutes orders stays found state
    end_is further done =
    let meant = with_groups it now.glyphs in
    let fits = state.fits.fits in
    let found_meant = next_carried changes it start first now.glyphs read is fits state.fits.ends found in
    let next = past_changing meaning takes changes link from old (groups_written it now) (groups_written after
    new) meant start first end refl permutes orders stays found_meant state.to (end_is
    ∙ ap (λ l. first + first_syllable_len l) (sym (behind_groups it first now.glyphs fits (omega arith)))) done.linked in
    search (arith, length_groups after new.glyphs done.fits.fits.span, length_groups it now.glyphs fits.span)

-- behind the last one the groups are written
pub carry_end : (meaning : Meaning) (takes : List ℕ → Type 0) (changes : Glyph → Bool) (link : Link)
    (from : ℕ) (old : Buffer) (it : CarriedGroups) (now : Buffer) (read : Glyphs) (start : ℕ) (new : Buffer) →
    read ≡ now.glyphs → PermutesNumbers meaning → Orders meaning link → Stays changes link →
    list_any changes (drop start read) ≡ false → ToCarry takes link from old it now start →
    new ≡ but_places (groups_written it now) → RestLinked link from old new
carry_end meaning takes changes link from old it now read start new is permutes orders stays none state new_is =
    let meant = with_groups it now.glyphs in
    let rest : drop start meant ≡ drop start read = search (arith, behind_groups) in
    let passes = linked_passes meaning takes changes link from old (groups_written it now) permutes orders stays in
    rest_end takes link from old (groups_written it now) new
    (to_end changes meant (ToLink takes link from old (groups_written it now)) passes start state.to.inside
    (cc) state.to) new_is
