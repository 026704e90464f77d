-- A stretch of syllables more; the chain, and the text order from it.
use Rattle.std.proofs.Common.{length, subst, arith}
use Rattle.std.proofs.lemmas.Result.{on_ok_weaker}
use Rattle.shapers_syllabic.proofs.LinkedSyllables.{all_linked, linked_end, text_ordered, to_link_all, to_link_on}
use Rattle.shapers_syllabic.specs.ReorderingWalk.{ToLink}
use Rattle.shapers_syllabic.proofs.ot_shaper_syllabic.reordering.reorder_syllables_by_steps.Goals as goal

pub loop-start-init : goal.loop-start-init
loop-start-init g c = search to_link_all

pub loop-start-preserved : goal.loop-start-preserved
loop-start-preserved g c =
    let order = c.args.order.now in
    to_link_on (g.R.Reorder.takes order) (g.R.Reorder.relation order) 0 c.args.buffer.now c.loop-start.buffer
    c.reorder_some.new.buffer c.loop-start.start c.in_ok-next.next c.loop-start.invariant c.in_ok-next.ensures.linked

pub returns-then-cluster_before-cluster-clause-linked : goal.returns-then-cluster_before-cluster-clause-linked
returns-then-cluster_before-cluster-clause-linked g c =
    let order = c.args.order.now in
    let old = c.args.buffer.now in
    let new = c.reorder_carrying.new.buffer in
    let relation = g.R.Reorder.relation order in
    let reached = to_link_on (g.R.Reorder.takes order) relation 0 old c.loop-start.buffer c.reorder_some.new.buffer
    c.loop-start.start c.in_ok-next.next c.loop-start.invariant c.in_ok-next.ensures.linked in
    on_ok_weaker c.reorder_carrying.result (λ rest. all_linked relation old new (reached.completes new rest)) c.reorder_carrying.ensures.linked

pub returns-then-cluster_before-cluster-clause-ordered : goal.returns-then-cluster_before-cluster-clause-ordered
returns-then-cluster_before-cluster-clause-ordered g c =
    let order = c.args.order.now in
    on_ok_weaker c.reorder_carrying.result (λ linked. text_ordered (g.R.Reorder.meaning order) (g.R.Reorder.relation order) c.args.buffer.now
    c.reorder_carrying.new.buffer (g.met.R.Reorder.permutes order) (g.met.R.Reorder.orders order) linked)
    (returns-then-cluster_before-cluster-clause-linked g c)

pub returns-clause-linked : goal.returns-clause-linked
returns-clause-linked g c =
    let order = c.args.order.now in
    let takes = g.R.Reorder.takes order in
    let relation = g.R.Reorder.relation order in
    let old = c.args.buffer.now in
    let now = c.loop-start.buffer in
    let inside = c.loop-start.invariant.inside in
    let all : ToLink takes relation 0 old now (length now.glyphs) =
    subst (λ n. ToLink takes relation 0 old now n) (omega arith) c.loop-start.invariant in
    linked_end takes relation old now c.clear_places.new.self all c.clear_places.ensures

pub returns-clause-ordered : goal.returns-clause-ordered
returns-clause-ordered g c =
    let order = c.args.order.now in
    text_ordered (g.R.Reorder.meaning order) (g.R.Reorder.relation order) c.args.buffer.now c.clear_places.new.self
    (g.met.R.Reorder.permutes order) (g.met.R.Reorder.orders order) (returns-clause-linked g c)
