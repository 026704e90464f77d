-- Grammars of syllables: rules over lists of categories, and how they cut a text.
use Rattle.std.specs.Prelude.{◌≡◌, ◌==◌, ℕ, zero, suc, ◌<◌, ◌≤◌, ◌⊎◌, Bool, List, [], ◌∷◌, ◌++◌, length, take, drop, get_or, if◌then◌else◌}
use Rattle.std.specs.Prelude.{Option, Some, None}
use Rattle.shapers_buffer.specs.Glyphs.{Glyphs}
use Rattle.shapers_buffer.specs.declared.buffer.syllables.Span.{Span}
use Rattle.shapers_spans.specs.Re.{Re, none, IsIn}

-- The rules, in their order, the kind that each gives, the kind of a glyph that begins nothing that
-- a rule takes, and whether the glyph that begins a text is passed over.
pub record Grammar : Type 0 where
  pub rules : List Re
  pub kinds : List ℕ
  pub other : ℕ
  pub passes : Glyphs → Bool

-- rule number j takes w
abbrev pub Takes : List Re → ℕ → List ℕ → Type 0
Takes rules j w = IsIn (get_or rules j none) w

abbrev pub NoneTakes : List Re → List ℕ → Type 0
NoneTakes rules w = (j : ℕ) → Takes rules j w → ⊥

-- rule number j takes w, and no rule before it does
pub record IsFirst (rules : List Re) (w : List ℕ) (j : ℕ) : Type 0 where
  pub takes : Takes rules j w
  pub first : (i : ℕ) → i < j → Takes rules i w → ⊥

-- The span is the longest front of w that some rule takes, of the kind of the first rule that takes
-- it.
pub record IsLongest (g : Grammar) (w : List ℕ) (span : Span) : Type 0 where
  pub some : 0 < span.len
  pub within : span.len ≤ length w
  pub rule : ℕ
  pub first : IsFirst g.rules (take span.len w) rule
  pub kind : span.kind ≡ get_or g.kinds rule 0
  pub longest : (m : ℕ) → span.len < m → m ≤ length w → NoneTakes g.rules (take m w)

-- No rule takes a front of w, and the span is one glyph of kind other.
pub record IsOther (g : Grammar) (w : List ℕ) (span : Span) : Type 0 where
  pub one : span.len ≡ 1
  pub within : 1 ≤ length w
  pub kind : span.kind ≡ g.other
  pub none : (m : ℕ) → 0 < m → m ≤ length w → NoneTakes g.rules (take m w)

-- the syllable that begins w
abbrev pub IsSyllable : Grammar → List ℕ → Span → Type 0
IsSyllable g w span = IsLongest g w span ⊎ IsOther g w span

-- the categories of the glyphs that are read
abbrev pub read_of : (Glyphs → Bool) → Glyphs → List ℕ
read_of passes [] = []
read_of passes (g ∷ gs) =
    if passes (g ∷ gs) then read_of passes gs else g.category ∷ read_of passes gs

-- how many glyphs there are up to the nth that is read, with those that are passed over behind it
abbrev pub reach_of : (Glyphs → Bool) → Glyphs → ℕ → ℕ
reach_of passes [] n = 0
reach_of passes (g ∷ gs) zero = if passes (g ∷ gs) then suc (reach_of passes gs zero) else 0
reach_of passes (g ∷ gs) (suc n) =
    suc (if passes (g ∷ gs) then reach_of passes gs (suc n) else reach_of passes gs n)

-- The span covers the syllable that begins what is read of the text, and the glyphs that are passed
-- over within and behind it.
pub record BeginsWith (g : Grammar) (gs : Glyphs) (span : Span) : Type 0 where
  pub read : Span
  pub syllable : IsSyllable g (read_of g.passes gs) read
  pub kind : span.kind ≡ read.kind
  pub len : span.len ≡ reach_of g.passes gs read.len

-- The spans cut a text that begins with a glyph that is read: each is the syllable that begins what
-- is left.
abbrev pub IsCutFrom : Grammar → Glyphs → List Span → Type 0
IsCutFrom g gs [] = gs ≡ []
IsCutFrom g gs (span ∷ spans) = BeginsWith g gs span × IsCutFrom g (drop span.len gs) spans

-- the glyphs that are passed over in front of a text: a span of their own
abbrev pub lead_spans : ℕ → ℕ → List Span
lead_spans n k = let s : Span = record { len = n; kind = k } in if n == 0 then [] else s ∷ []

-- The spans cut the text: first what is passed over in front, of kind other, then each syllable.
pub record IsSyllableCut (g : Grammar) (gs : Glyphs) (spans : List Span) :
    Type 0 where
  pub rest : List Span
  pub whole : spans ≡ lead_spans (reach_of g.passes gs 0) g.other ++ rest
  pub cut : IsCutFrom g (drop (reach_of g.passes gs 0) gs) rest

-- what a grammar says of w: no rule takes it, or the first that does gives kind k
abbrev pub IsKind : Grammar → List ℕ → Option ℕ → Type 0
IsKind g w None = NoneTakes g.rules w
IsKind g w (Some k) = (j : ℕ) × IsFirst g.rules w j × (k ≡ get_or g.kinds j 0)

-- each kind fits the four bits of a syllable byte
pub record KindsFit (g : Grammar) : Type 0 where
  pub rules : (j : ℕ) → get_or g.kinds j 0 ≤ 15
  pub other_fits : g.other ≤ 15
