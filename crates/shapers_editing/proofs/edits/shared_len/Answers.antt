use Rattle.std.proofs.Common.{◌≡◌, ◌+◌, ◌-◌, ◌≤◌, ◌⊎◌, drop, length, inl, inr, ⊎_elim, add-zero, sym, ap, ◌∙◌, arith}
use Rattle.std.proofs.lemmas.Bool.{cases_lt}
use Rattle.shapers_editing.specs.Affected.{glyphs_in, shared, from_either_end}
use Rattle.shapers_editing.proofs.Shared.{length-turned, shared-end, shared-step, shared-stop}
use Rattle.shapers_editing.proofs.edits.shared_len.Goals as goal
use Rattle.shapers_editing.proofs.edits.shared_len.Goals.{then-span-other-via-then-span-other, then-span-other-via-else-span-other+then-span-other-2, then-span-other-via-else-span-other+else-span-other-2+then-span-left}

pub returns-then-span-other : goal.returns-then-span-other
returns-then-span-other c =
    let ss = from_either_end c.args.from_end c.args.old.now in
    let ts = from_either_end c.args.from_end c.args.new.now in
    let stop = shared-stop c.loop-k.left c.loop-k.k ss ts c.span_at-span.result c.span_at-other.result
    c.span_at-span.ensures c.span_at-other.ensures in
    let none : glyphs_in (shared c.loop-k.left (drop c.loop-k.k ss) (drop c.loop-k.k ts)) ≡ 0 =
    elim c.then-span-other.branch [
      | then-span-other-via-then-span-other w ↦ stop (λ a b l. omega arith)
      | then-span-other-via-else-span-other+then-span-other-2 w ↦ stop (λ a b l. omega arith)
      | then-span-other-via-else-span-other+else-span-other-2+then-span-left w ↦ stop (λ a b l. omega arith)
    ] in
    sym (c.loop-k.invariant.1 ∙ ap (λ n. (c.args.room - c.loop-k.left) + n) none ∙ add-zero
    (c.args.room - c.loop-k.left))

pub loop-k-preserved : goal.loop-k-preserved
loop-k-preserved c =
    let ss = from_either_end c.args.from_end c.args.old.now in
    let ts = from_either_end c.args.from_end c.args.new.now in
    let i = c.loop-k.invariant in
    let s = c.span_at-span.result in
    let rest = glyphs_in (shared (c.loop-k.left - s.len) (drop (c.loop-k.k + 1) ss) (drop (c.loop-k.k + 1) ts)) in
    let same : s.len ≡ c.span_at-other.result.len = omega arith in
    let kind : s.kind ≡ c.span_at-other.result.kind = omega arith in
    let fits : s.len ≤ c.loop-k.left = omega arith in
    let within : c.loop-k.left ≤ c.args.room = i.0 in
    let step = shared-step c.loop-k.left c.loop-k.k ss ts s c.span_at-other.result c.span_at-span.ensures
    c.span_at-other.ensures same kind fits in
    let moved : (c.args.room - c.loop-k.left) + (s.len + rest) ≡
    (c.args.room - (c.loop-k.left - s.len)) + rest = omega arith in
    (omega arith, i.1 ∙ ap (λ n. (c.args.room - c.loop-k.left) + n) step ∙ moved)

pub returns : goal.returns
returns c =
    let ss = from_either_end c.args.from_end c.args.old.now in
    let ts = from_either_end c.args.from_end c.args.new.now in
    let ended : (length ss ≤ c.loop-k.k) ⊎ (length ts ≤ c.loop-k.k) = ⊎_elim
    (λ l. inl (omega (
      arith,
      length-turned c.args.from_end c.args.old.now,
      length-turned c.args.from_end
          c.args.new.now,
    )))
    (λ l. inr (omega (
      arith,
      length-turned c.args.from_end c.args.old.now,
      length-turned c.args.from_end
          c.args.new.now,
    )))
    (cases_lt (length ss) (length ts)) in
    sym (c.loop-k.invariant.1 ∙ ap (λ n. (c.args.room - c.loop-k.left) + n)
    (shared-end c.loop-k.left c.loop-k.k ss ts ended) ∙ add-zero (c.args.room - c.loop-k.left))
