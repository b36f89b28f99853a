use Rattle.std.proofs.Common.{ℕ, ◌+◌, ◌*◌, ◌<◌, ◌++◌, Some, length, refl, sym, ap, subst, ◌∙◌, arith}
use Rattle.std.specs.Prelude.{All}
use Rattle.std.proofs.lemmas.List.{append-nil}
use Rattle.std.proofs.lemmas.Result.{on_ok_weaker}
use Rattle.spirv_code.specs.Plans.{chosen_label, header_label}
use Rattle.spirv_code.specs.Leaves.{block_env, next_blocks, way_to}
use Rattle.spirv_code.specs.Exits.{exit_code}
use Rattle.spirv_code.specs.Rows as rows
use Rattle.spirv_code.specs.Rows.{dispatch_head, footer_code, header_code, onwards, row_code}
use Rattle.spirv_code.specs.Trees.{Arms, Dispatch, Leaf, arm_label, arms_of, entered_arms, tree_at}
use Rattle.spirv_code.proofs.TreeLaws.{arms_below}
use Rattle.spirv_table.specs.Known.{env_of}
use Rattle.spirv_emit.specs.Scenes.{context_in}
use Rattle.spirv_regions.proofs.Arms.{entered_below, entered_is}
use Rattle.spirv_regions.proofs.Nodes.{at_node}
use Rattle.spirv_regions.proofs.Written.{arm_found, chosen_written, dispatch_written, leaf_written, loop_written, row_here, then_written, when_written}
use Rattle.spirv_regions.proofs.regions.+rows.Goals as goal

pub when-returns : goal.when-returns
when-returns t c =
    on_ok_weaker c.onwards.result (λ e. when_written (context_in c.args.s.now) (tree_at c.args.list.now c.args.place) c.args.code.now c.when_begins.new.code c.row.new.code c.onwards.new.code c.args.k c.in_ok-passed.passed c.in_ok-passed.ensures.passed c.in_ok-passed.ensures.code c.in_ok-row.ensures e) c.onwards.ensures.code

pub one_arm-returns-in_ok-onwards-in-Some : goal.one_arm-returns-in_ok-onwards-in-Some
one_arm-returns-in_ok-onwards-in-Some t c =
    on_ok_weaker c.row.result (λ e. arm_found (context_in c.args.s.now) c.args.list.now c.requires.small.earlier c.args.code.now c.onwards.new.code c.row.new.code c.args.k c.in-Some.place c.args.arms.now (sym c.in-Some.ensures.found) (c.in_ok-onwards-in-Some.ensures.code ∙ ap (λ l. c.args.code.now ++ onwards l) c.entry_label.ensures) e) c.row.ensures

pub dispatch-met_arms-requires : goal.dispatch-met_arms-requires
dispatch-met_arms-requires t c =
    let less : 8 * c.args.place < t = omega arith in
    let below = entered_below (tree_at c.args.list.now) c.args.place c.args.arms.now c.as_slice-2.result.now (c.as_slice-2.ensures ∙ c.in_ok-pairs.ensures) c.requires.before in
    (less, (c.requires.small, below))

pub dispatch-returns : goal.dispatch-returns
dispatch-returns t c =
    let ctx = context_in c.args.s.now in
    let old = c.args.code.now in
    let begun = c.dispatch_begins.new.code in
    let part = tree_at c.args.list.now in
    let same = ap (arms_of part) c.in_ok-pairs.ensures ∙ entered_is part c.args.arms.now in
    let one = c.in_ok-dispatch_begins.ensures ∙ ap (λ xs. old ++ dispatch_head ctx c.args.place (length old) (arms_of part xs)) c.as_slice.ensures ∙ ap (λ (a : Arms). old ++ dispatch_head ctx c.args.place (length old) a) same in
    let two = c.in_ok-met_arms.ensures ∙ ap (λ m. begun ++ rows.met_arms ctx m (length begun) (arms_of part c.as_slice-2.result.now)) c.label-meet.ensures ∙ ap (λ xs. begun ++ rows.met_arms ctx (chosen_label c.args.place) (length begun) (arms_of part xs)) c.as_slice-2.ensures ∙ ap (λ (a : Arms). begun ++ rows.met_arms ctx (chosen_label c.args.place) (length begun) a) same in
    on_ok_weaker c.dispatch_ends.result (λ e. dispatch_written ctx (entered_arms part c.args.arms.now) c.args.place old begun c.met_arms.new.code c.dispatch_ends.new.code one two e) c.dispatch_ends.ensures

pub exit-returns-in_ok-met_arms-in-Chooses : goal.exit-returns-in_ok-met_arms-in-Chooses
exit-returns-in_ok-met_arms-in-Chooses t c =
    let ctx = context_in c.args.s.now in
    let old = c.args.code.now in
    let arms = arms_of (tree_at c.args.list.now) c.args.arms.now in
    on_ok_weaker c.push.result (λ e. chosen_written ctx c.args.meet c.args.term.now (arm_label arms) c.args.blocks.now (λ k p. rows.one_arm ctx k p arms) (λ p. rows.met_arms ctx c.args.meet p arms) (λ p. rows.wanted_arms ctx p arms) (env_of c.args.known.now) old c.read_tested.new.code c.choose_among.new.code c.met_arms.new.code c.push.new.self c.in_ok-id-in-Chooses.id c.in_ok-id-in-Chooses.ensures.code c.in_ok-id-in-Chooses.ensures.id c.in_ok-choose_among-in-Chooses.ensures c.in_ok-met_arms-in-Chooses.ensures e ∙ ap (λ w. old ++ exit_code ctx c.args.meet c.args.term.now (arm_label arms) c.args.blocks.now (λ k p. rows.one_arm ctx k p arms) (λ p. rows.met_arms ctx c.args.meet p arms) (λ p. rows.wanted_arms ctx p arms) (env_of c.args.known.now) w (length old)) (sym c.in-Chooses.is)) c.push.ensures

pub leaf-returns : goal.leaf-returns
leaf-returns t c =
    let ctx = context_in c.args.s.now in
    let old = c.args.code.now in
    let mid = c.write_block.new.code in
    let block = c.in-Some.body.now in
    let arms = arms_of (tree_at c.args.list.now) c.args.arms.now in
    let one = λ (k p : ℕ). rows.one_arm ctx k p arms in
    let wanted = λ (p : ℕ). rows.wanted_arms ctx p arms in
    let met = λ (m p : ℕ). rows.met_arms ctx m p arms in
    let chosen = chosen_label c.args.place in
    let blocks = next_blocks block.term in
    let env = env_of c.in_ok-known.known in
    let way = c.way_to-way.ensures.way ∙ ap (λ ks. way_to ks c.cases_in.result) (c.as_slice.ensures.keys ∙ c.in_ok-blocks.ensures.keys) ∙ ap (way_to blocks) c.cases_in.ensures in
    let same =
    ap (λ m. mid ++ exit_code ctx m block.term (arm_label arms) c.as_slice-3.result.now one (met m) wanted env c.way_to-way.result (length mid)) c.label-meet.ensures
    ∙ ap (λ ks. mid ++ exit_code ctx chosen block.term (arm_label arms) ks one (met chosen) wanted env c.way_to-way.result (length mid)) (c.as_slice-3.ensures.keys ∙ c.in_ok-blocks.ensures.keys)
    ∙ ap (λ r. mid ++ exit_code ctx chosen block.term (arm_label arms) blocks one (met chosen) wanted r c.way_to-way.result (length mid)) c.in_ok-known.ensures.env
    ∙ ap (λ w. mid ++ exit_code ctx chosen block.term (arm_label arms) blocks one (met chosen) wanted (block_env ctx (length old) block) w (length mid)) way in
    on_ok_weaker c.exit.result (λ e. leaf_written ctx arms c.args.place c.args.block old mid c.exit.new.code block (sym c.in-Some.ensures.value) c.in_ok-known.ensures.code (e ∙ same)) c.exit.ensures

pub row-leaf-requires-in-Some : goal.row-leaf-requires-in-Some
row-leaf-requires-in-Some t c =
    let less : 8 * c.args.place + 2 < t = omega arith in
    let within : c.in-Some.at < length c.args.list.now = c.in-Some.ensures.within in
    let below = arms_below c.args.list.now c.requires.earlier c.args.place _ _ (sym c.in-Some-Arms.ensures.value ∙ ap Some c.in-Some-Arms.field-0-is) in
    (less, (c.requires, (omega (arith, within, c.requires.regions), subst (All (λ (arm : ℕ × ℕ). arm.1 < c.args.place)) (sym c.as_slice.ensures) below)))

pub row-returns-in-Some : goal.row-returns-in-Some
row-returns-in-Some t c =
    let ctx = context_in c.args.s.now in
    let old = c.args.code.now in
    let part = tree_at c.args.list.now in
    let stands = sym c.in-Some-Arms.ensures.value ∙ ap Some c.in-Some-Arms.field-0-is in
    let named = ap (λ xs. old ++ row_code ctx (length old) (Leaf c.in-Some.at c.in-Some.block (arms_of part xs))) c.as_slice.ensures in
    on_ok_weaker c.leaf-in-Some.result (λ e. row_here ctx c.args.list.now c.requires.earlier old c.leaf-in-Some.new.code c.args.place _ (Leaf c.in-Some.at c.in-Some.block (arms_of part c.in-Some-Arms.arms)) stands (c.in-Some.ensures.leaf (arms_of part c.in-Some-Arms.arms)) (e ∙ named)) c.leaf-in-Some.ensures

pub row-returns-in-None-leaf_at : goal.row-returns-in-None-leaf_at
row-returns-in-None-leaf_at t c =
    let ctx = context_in c.args.s.now in
    let old = c.args.code.now in
    let part = tree_at c.args.list.now in
    let stands = sym c.in-Some-Arms.ensures.value ∙ ap Some c.in-Some-Arms.field-0-is in
    let tree = ap (row_code ctx (length old)) (sym (c.in-None-leaf_at.ensures.leaf (arms_of part c.in-Some-Arms.arms))) ∙ at_node c.args.list.now c.requires.earlier (row_code ctx (length old)) c.args.place _ stands in
    sym (append-nil old) ∙ ap (λ o. old ++ o) tree

pub row-returns-in_ok-row-in-Some-Then : goal.row-returns-in_ok-row-in-Some-Then
row-returns-in_ok-row-in-Some-Then t c =
    on_ok_weaker c.when.result (λ e. then_written (context_in c.args.s.now) c.args.list.now c.requires.earlier c.args.code.now c.row.new.code c.when.new.code c.args.place c.in-Some-Then.first c.in-Some-Then.second c.in-Some-Then.target (sym c.in-Some-Then.ensures.value ∙ ap Some c.in-Some-Then.field-0-is) c.in_ok-row-in-Some-Then.ensures e) c.when.ensures

pub row-returns-in_ok-row-in-Some-Loop : goal.row-returns-in_ok-row-in-Some-Loop
row-returns-in_ok-row-in-Some-Loop t c =
    let ctx = context_in c.args.s.now in
    let old = c.args.code.now in
    let mid = c.row-in-Some-Loop.new.code in
    let begins = c.in_ok-header-in-Some-Loop.ensures.code ∙ ap (λ l. old ++ header_code c.args.place l) c.entry_label.ensures in
    let ends = ap (λ l. mid ++ footer_code ctx c.args.place (length mid) c.in-Some-Loop.head l c.label.result) c.label-again.ensures ∙ ap (λ l. mid ++ footer_code ctx c.args.place (length mid) c.in-Some-Loop.head (header_label c.args.place) l) c.label.ensures in
    on_ok_weaker c.footer.result (λ e. loop_written ctx c.args.list.now c.requires.earlier old c.header.new.code mid c.footer.new.code c.args.place c.in-Some-Loop.body c.in-Some-Loop.head (sym c.in-Some-Loop.ensures.value ∙ ap Some c.in-Some-Loop.field-0-is) begins c.in_ok-row-in-Some-Loop.ensures (e ∙ ends)) c.footer.ensures

pub row-returns-in-Some-Dispatch : goal.row-returns-in-Some-Dispatch
row-returns-in-Some-Dispatch t c =
    let ctx = context_in c.args.s.now in
    let old = c.args.code.now in
    let stands = sym c.in-Some-Dispatch.ensures.value ∙ ap Some c.in-Some-Dispatch.field-0-is in
    let named = ap (λ xs. old ++ row_code ctx (length old) (Dispatch c.args.place (entered_arms (tree_at c.args.list.now) xs))) c.as_slice-in-Some-Dispatch.ensures in
    on_ok_weaker c.dispatch.result (λ e. row_here ctx c.args.list.now c.requires.earlier old c.dispatch.new.code c.args.place _ (Dispatch c.args.place (entered_arms (tree_at c.args.list.now) c.in-Some-Dispatch.arms)) stands refl (e ∙ named)) c.dispatch.ensures
