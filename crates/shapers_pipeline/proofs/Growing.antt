-- One step after another, each with its refusal.
use Rattle.std.proofs.Common.{◌≡◌, ◌≤◌, ◌∙◌, ℕ, List, [], ◌∷◌, length, map, Result, Ok, Err, ap, subst, inl, inr}
use Rattle.std.specs.Prelude.{IfErr, OnErr, OnOk}
use Rattle.std.proofs.lemmas.Result.{IfErr-weaker, on_ok_weaker}
use Rattle.shapers_buffer.specs.Buffer.{Buffer}
use Rattle.shapers_buffer.specs.Refusals.{RefusesLength}
use Rattle.shapers_buffer.specs.declared.buffer.level.Direction.{Direction}
use Rattle.shapers_buffer.specs.declared.buffer.refusal.ShaperError.{ShaperError}
use Rattle.shapers_normal.specs.Decomposition.{first_round}
use Rattle.shapers_prepare.specs.FirstCircle.{with_first_circle}
use Rattle.shapers_prepare.specs.Graphemes.{clusters_formed}
use Rattle.shapers_prepare.specs.NativeDirection.{in_native_direction}
use Rattle.shapers_prepare.specs.Rotation.{rotated_glyph}
use Rattle.shapers_pipeline.specs.Prepared.{Growth, Preparation, context_of, growth_of_normalization, growth_of_preprocessing, growths, growths_from, normalized_from, rotated_from, rotation_to, text_begun, text_directed, text_normalized, text_circled}
use Rattle.shapers_pipeline.specs.Refusals.{AllHadRoom, OneRefused}
use Rattle.shapers_pipeline.specs.ShaperSteps.{preprocessed_for, preprocessed_len}
use Rattle.shapers_pipeline.proofs.Directed.{limit_stays}

-- the last of two steps, where the first had room
last_room : (r : Result (Unit {0}) ShaperError) (limit : ℕ) (g h : Growth) → g.wanted ≤ limit → RefusesLength limit h.wanted r →
    OnOk r (AllHadRoom limit (g ∷ h ∷ []))
last_room (Ok x) limit g h room len = (room, (len, tt))
last_room (Err e) limit g h room len = tt

last_refused : (r : Result (Unit {0}) ShaperError) (limit : ℕ) (g h : Growth) (new : Buffer) → g.wanted ≤ limit →
    RefusesLength limit h.wanted r → OnErr r (new ≡ h.before) → IfErr r (λ e. OneRefused limit (g ∷ h ∷ []) e new)
last_refused (Ok x) limit g h new room len same = tt
last_refused (Err e) limit g h new room len same = inr (room, inl (len, same))

-- the text that is rotated, m, after preprocessing to k
pub record Rotated (p : Preparation) (direction : Direction) (old k m : Buffer) : Type 0 where
  pub preprocessed : k ≡ preprocessed_for p.shaper p.plan p.font old
  pub limit : k.max_len ≡ old.max_len
  pub room : preprocessed_len p.shaper p.font old ≤ old.max_len
  pub rotated : m ≡ record k { glyphs = map (rotated_glyph p.properties p.font (rotation_to p.masks direction)) k.glyphs }

abbrev rotated_of : Preparation → Direction → Buffer → Buffer
rotated_of p direction k = record k { glyphs = map (rotated_glyph p.properties p.font (rotation_to p.masks direction)) k.glyphs }

is_rotated : (p : Preparation) (direction : Direction) (old k m : Buffer) → Rotated p direction old k m → m ≡ rotated_from p direction old
is_rotated p direction old k m r = r.rotated ∙ ap (rotated_of p direction) r.preprocessed

same_length : (p : Preparation) (direction : Direction) (old k m : Buffer) (r : Result (Unit {0}) ShaperError) → Rotated p direction old k m →
    RefusesLength m.max_len (length (first_round (context_of p) m.level m.glyphs)) r →
    RefusesLength old.max_len (length (first_round (context_of p) (rotated_from p direction old).level (rotated_from p direction old).glyphs)) r
same_length p direction old k m r s len =
    subst (λ b. RefusesLength old.max_len (length (first_round (context_of p) b.level b.glyphs)) r) (is_rotated p direction old k m s)
    (subst (λ n. RefusesLength n (length (first_round (context_of p) m.level m.glyphs)) r) (ap (λ b. b.max_len) s.rotated ∙ s.limit) len)

pub normalized_room : (p : Preparation) (direction : Direction) (old k m : Buffer) (r : Result (Unit {0}) ShaperError) → Rotated p direction old k m →
    RefusesLength m.max_len (length (first_round (context_of p) m.level m.glyphs)) r → OnOk r (AllHadRoom old.max_len (growths_from p direction old))
normalized_room p direction old k m r s len = last_room r old.max_len (growth_of_preprocessing p old) (growth_of_normalization p direction old) s.room (same_length p direction old k m r s len)

pub normalized_refused : (p : Preparation) (direction : Direction) (old k m new : Buffer) (r : Result (Unit {0}) ShaperError) → Rotated p direction old k m →
    RefusesLength m.max_len (length (first_round (context_of p) m.level m.glyphs)) r → OnErr r (new ≡ m) →
    IfErr r (λ e. OneRefused old.max_len (growths_from p direction old) e new)
normalized_refused p direction old k m new r s len same =
    last_refused r old.max_len (growth_of_preprocessing p old) (growth_of_normalization p direction old) new s.room (same_length p direction old k m r s len)
    (subst (λ b. OnErr r (new ≡ b)) (is_rotated p direction old k m s) same)

abbrev circled : Preparation → Buffer → Buffer
circled p b = record b { glyphs = with_first_circle p.properties p.font b }

abbrev directed_of : Buffer → Buffer
directed_of b =
    let formed : Buffer = record b { glyphs = clusters_formed b.level b.glyphs } in
    in_native_direction formed

-- the text in its own direction, d, which opened with its circle to b after it began as a; what comes behind goes by this direction
pub record Opened (p : Preparation) (old a b d : Buffer) (direction : Direction) : Type 0 where
  pub begun : a ≡ text_begun p old
  pub opened : b ≡ circled p a
  pub room : length (with_first_circle p.properties p.font a) ≤ a.max_len
  pub turned : d ≡ directed_of b
  pub wanted : direction ≡ old.direction

pub is_directed : (p : Preparation) (old a b d : Buffer) (direction : Direction) → Opened p old a b d direction → d ≡ text_directed p old
is_directed p old a b d direction s = s.turned ∙ (ap directed_of s.opened ∙ ap (λ x. directed_of (circled p x)) s.begun)

same_limit : (p : Preparation) (old a b d : Buffer) (direction : Direction) → Opened p old a b d direction → d.max_len ≡ old.max_len
same_limit p old a b d direction s =
    let opened = text_circled p old in
    let formed : Buffer = record opened { glyphs = clusters_formed opened.level opened.glyphs } in
    ap (λ x. x.max_len) (is_directed p old a b d direction s) ∙ limit_stays formed

circle_had_room : (p : Preparation) (old a b d : Buffer) (direction : Direction) → Opened p old a b d direction →
    length (with_first_circle p.properties p.font (text_begun p old)) ≤ old.max_len
circle_had_room p old a b d direction s = subst (λ x. length (with_first_circle p.properties p.font x) ≤ x.max_len) s.begun s.room

-- what holds by this direction, of this text
held_behind : (p : Preparation) (old a b d : Buffer) (direction : Direction) → Opened p old a b d direction → (Holds : Direction → Buffer → Type 0) →
    Holds direction d → Holds old.direction (text_directed p old)
held_behind p old a b d direction s Holds held =
    subst (Holds old.direction) (is_directed p old a b d direction s) (subst (λ w. Holds w d) s.wanted held)

-- and within this limit, of the steps behind
held_within : (p : Preparation) (old a b d : Buffer) (direction : Direction) → Opened p old a b d direction → (Holds : ℕ → List Growth → Type 0) →
    Holds d.max_len (growths_from p direction d) → Holds old.max_len (growths_from p old.direction (text_directed p old))
held_within p old a b d direction s Holds held =
    held_behind p old a b d direction s (λ w x. Holds old.max_len (growths_from p w x))
    (subst (λ n. Holds n (growths_from p direction d)) (same_limit p old a b d direction s) held)

pub all_room : (p : Preparation) (old a b d : Buffer) (direction : Direction) (r : Result (Unit {0}) ShaperError) → Opened p old a b d direction →
    OnOk r (AllHadRoom d.max_len (growths_from p direction d)) → OnOk r (AllHadRoom old.max_len (growths p old))
all_room p old a b d direction r s rest =
    on_ok_weaker r (λ room. (circle_had_room p old a b d direction s, held_within p old a b d direction s AllHadRoom room)) rest

pub one_refused : (p : Preparation) (old a b d new : Buffer) (direction : Direction) (r : Result (Unit {0}) ShaperError) → Opened p old a b d direction →
    IfErr r (λ e. OneRefused d.max_len (growths_from p direction d) e new) → IfErr r (λ e. OneRefused old.max_len (growths p old) e new)
one_refused p old a b d new direction r s rest =
    IfErr-weaker r (λ e. OneRefused d.max_len (growths_from p direction d) e new) (λ e. OneRefused old.max_len (growths p old) e new)
    (λ e refused. inr (circle_had_room p old a b d direction s, held_within p old a b d direction s (λ n gs. OneRefused n gs e new) refused)) rest

pub is_normalized : (p : Preparation) (old a b d new : Buffer) (direction : Direction) (r : Result (Unit {0}) ShaperError) → Opened p old a b d direction →
    OnOk r (new ≡ normalized_from p direction d) → OnOk r (new ≡ text_normalized p old)
is_normalized p old a b d new direction r s rest =
    held_behind p old a b d direction s (λ w x. OnOk r (new ≡ normalized_from p w x)) rest
