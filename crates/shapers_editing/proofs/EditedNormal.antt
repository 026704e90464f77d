-- A text of three parts, normalized part by part.
use Rattle.std.proofs.Common.{◌≡◌, ◌∙◌, true, false, [], ◌∷◌, ◌++◌, refl, sym, ap}
use Rattle.std.specs.Prelude.{if◌then◌else◌}
use Rattle.std.proofs.lemmas.List.{append-nil}
use Rattle.shapers_buffer.specs.Glyphs.{Glyphs}
use Rattle.shapers_buffer.specs.declared.buffer.level.BufferClusterLevel.{BufferClusterLevel}
use Rattle.shapers_normal.specs.Context.{Context}
use Rattle.shapers_normal.specs.Laws.{NormalizesInHalves, OrdersAlone}
use Rattle.shapers_normal.specs.Normalization.{composes, normalized}
use Rattle.shapers_normal.specs.Recomposition.{recomposed}
use Rattle.shapers_normal.specs.declared.ot_shape_normalize.normalizing.Rounds.TheVariants.{Always}
use Rattle.shapers_editing.specs.EditedNormal.{MayCut, NormalizedOutside}

nothing : (context : Context) (level : BufferClusterLevel) → normalized context Always level [] ≡ []
nothing context level =
    elim (composes context.mode) as (λ test. (if test then recomposed context level [] else []) ≡ [])
    [ true ↦ refl | false ↦ refl ]

in-two : NormalizesInHalves → (context : Context) (level : BufferClusterLevel) (gs hs : Glyphs) →
    OrdersAlone context → MayCut context level gs hs → normalized context Always level (gs ++ hs)
    ≡ normalized context Always level gs ++ normalized context Always level hs
in-two law context level gs [] o may =
    ap (normalized context Always level) (append-nil gs)
    ∙ sym (append-nil (normalized context Always level gs))
    ∙ ap (λ xs. normalized context Always level gs ++ xs) (sym (nothing context level))
in-two law context level gs (h ∷ hs) o may = law context level gs h hs o may.apart may.letter may.anew may.no_joiner

pub normalized-outside : NormalizesInHalves → NormalizedOutside
normalized-outside law context level front middle back o first second =
    in-two law context level front (middle ++ back) o first
    ∙ ap (λ xs. normalized context Always level front ++ xs) (in-two law context level middle back o second)
