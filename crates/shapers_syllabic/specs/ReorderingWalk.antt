-- Words of the code's walk over syllables: groups of glyphs that aren't written yet.
use Rattle.std.specs.Prelude.{ℕ, ◌<◌, ◌≡◌, ◌≤◌, Bool, false, true, List, drop, length, take, Option, MatchOption}
use Rattle.std.specs.List.{list_any}
use Rattle.shapers_buffer.specs.Glyphs.{Glyph, Glyphs}
use Rattle.shapers_buffer.specs.Buffer.{Buffer, but_places}
use Rattle.shapers_buffer.specs.Clusters.{stretch_of}
use Rattle.shapers_buffer.specs.Glyph.{order_view}
use Rattle.shapers_buffer.specs.Syllables.{first_syllable_len}
use Rattle.shapers_clusters.specs.CarriedGroups.{AreCarried, with_groups}
use Rattle.shapers_clusters.specs.declared.carried_groups.CarriedGroups.{CarriedGroups}
use Rattle.shapers_syllabic.specs.Borders.{MeetAtBorder}
use Rattle.shapers_syllabic.specs.Reordering.{Chain, TakesText, syllable_lens}

-- A syllable starts at place first, if one does at start, and no glyph between them
-- may change one; one of that syllable's own may.
pub record IsNextChanging (changes : Glyph → Bool) (start : ℕ) (gs : Glyphs)
    (first : ℕ) : Type 0 where
  pub in_order : start ≤ first
  pub inside : first < length gs
  pub stay : list_any changes (stretch_of start first gs) ≡ false
  pub border : MeetAtBorder (stretch_of start first gs) (drop first gs)
  pub changing : list_any changes (take (first_syllable_len (drop first gs)) (drop first gs)) ≡ true

-- and where there is none, no glyph from start on may
abbrev pub NextChanging : (Glyph → Bool) → ℕ → Glyphs → Option ℕ → Type 0
NextChanging changes start gs next =
    MatchOption next (list_any changes (drop start gs) ≡ false) (IsNextChanging changes start gs)

-- the buffer with the groups in their clusters
abbrev pub groups_written : CarriedGroups → Buffer → Buffer
groups_written it b = record b { glyphs = with_groups it b.glyphs }

-- What is carried fits these glyphs, and ends at a place or before it.
pub record CarryingFits (place : ℕ) (it : CarriedGroups) (gs : Glyphs) : Type 0 where
  pub fits : AreCarried it gs
  pub ends : it.end ≤ place

-- Before the syllable from first to end, what is carried fits these glyphs and ends before it.
pub record CanGuard (first end : ℕ) (it : CarriedGroups) (gs : Glyphs) : Type 0 where
  pub fits : AreCarried it gs
  pub further : it.end ≤ first
  pub in_order : first ≤ end
  pub in_range : end ≤ length gs

-- The syllable from first to end is reordered, behind what is carried; and what is carried then.
pub record ReorderedBehind (link : ℕ → ℕ → Buffer → Buffer → Type 0) (first end : ℕ) (it :
    CarriedGroups) (old : Buffer) (after : CarriedGroups) (new : Buffer) : Type 0 where
  pub linked : link first end (groups_written it old) (groups_written after new)
  pub fits : CarryingFits first after new.glyphs

-- what an order requires of the syllables from a place on
pub record TakesRest (takes : List ℕ → Type 0) (place : ℕ) (b : Buffer) : Type 0 where
  pub inside : place ≤ length b.glyphs
  pub takes_rest : TakesText takes (drop place (order_view b.glyphs))

-- a chain over the syllables from a place on
abbrev pub RestLinked : (ℕ → ℕ → Buffer → Buffer → Type 0) → ℕ → Buffer → Buffer → Type 0
RestLinked link place old new =
    Chain link place (syllable_lens (drop place (order_view old.glyphs))) old new

-- What a walk that began at a place, when the text was old, has still to do on the buffer as it is
-- now: the syllables from start on, by a chain that completes one over all from that place on.
pub record ToLink (takes : List ℕ → Type 0) (link : ℕ → ℕ → Buffer → Buffer →
    Type 0) (from : ℕ) (old now : Buffer) (start : ℕ) : Type 0 where
  pub others : but_places now ≡ record (but_places old) { glyphs = now.glyphs }
  pub inside : start ≤ length now.glyphs
  pub takes_rest : TakesText takes (drop start (order_view now.glyphs))
  pub completes : (new : Buffer) → RestLinked link start now new → RestLinked link from old new
